use Rattle.std.proofs.Common.{◌≡◌, ◌+◌, ◌++◌, List, Global, Option, Some, None, ◌∷◌, [], append-nil, append_assoc, drop, sym, ap, ◌∙◌, subst, arith}
use Rattle.std.proofs.lemmas.List.{drop_more, drop_all}
use Rattle.std.specs.declared.sync.Arc.{Arc}
use Rattle.cq_shard.specs.Shard.{put_of, puts_among}
use Rattle.cq_shard.proofs.applying.puts_in.Goals as goal
use Rattle.cq_shard.proofs.applying.puts_in.Goals.{in-Some+in_ok-push, in_default}

pub loop-work-preserved : goal.loop-work-preserved
loop-work-preserved g c =
    let works = c.args.works.now in
    let i = c.loop-work.work-index in
    let change = c.loop-work.change in
    let puts = c.loop-work.puts.items in
    let item = c.work-item.result in
    let next = drop_more works i item c.loop-work-test.true in
    let rest = puts_among (change + 1) (drop (i + 1) works) in
    let all_of : (work : Option (Arc _ Global)) → item ≡ work → puts ++ (put_of (change + 1) work ++ rest) ≡ puts_among c.args.applied works = λ work is.
    subst (λ (ws : List (Option (Arc _ Global))). puts ++ puts_among change ws ≡ puts_among c.args.applied works) (next ∙ ap (λ o. o ∷ drop (i + 1) works) (sym c.work-item.is ∙ is)) c.loop-work.invariant.rest in
    record {
      change = omega (arith, c.loop-work.invariant.change);
      rest = elim c.match-work.branch [
        | in-Some+in_ok-push w ↦ ap (λ v. v.items ++ rest) w.puts-is ∙ ap (λ ns. ns ++ rest) w.in_ok-push.ensures.items ∙ append_assoc puts ((change + 1) ∷ []) rest ∙ all_of (Some w.in-Some._work) w.in-Some.is
        | in_default w ↦ ap (λ v. v.items ++ rest) w.puts-is ∙ all_of None w.in_default.is
      ];
    }

pub returns : goal.returns
returns g c =
    sym (append-nil c.loop-work.puts.items)
    ∙ subst (λ (ws : List (Option (Arc _ Global))). c.loop-work.puts.items ++ puts_among c.loop-work.change ws ≡ puts_among c.args.applied c.args.works.now) (drop_all c.loop-work.work-index c.args.works.now c.loop-work-test.false) c.loop-work.invariant.rest
