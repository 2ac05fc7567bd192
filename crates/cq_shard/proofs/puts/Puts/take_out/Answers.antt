use Rattle.std.proofs.Common.{◌≡◌, ◌-◌, List, ℕ, length, refl, sym, ap, subst, ◌∙◌, arith}
use Rattle.std.specs.List.Sorted.{IsStrictlyIncreasing}
use Rattle.std.proofs.lemmas.List.Kept.{IsStrictlyIncreasing-filter}
use Rattle.cq_shard.specs.Tables.{AreAmong, IsUpTo, stays, staying}
use Rattle.cq_shard.proofs.Leaving.{all_stay, fewer_kept, kept_part, left_stays, none_goes}
use Rattle.cq_shard.proofs.puts.Puts.take_out.Goals as goal

pub overflow_sub-number : goal.overflow_sub-number
overflow_sub-number c =
    let changes = c.self.inside.changes.items in
    let keep = c.args.keep.now in
    let floor = c.args.floor in
    let end = c.up_to-end.result in
    let kept = c.up_to-kept.result in
    let ends = subst (λ xs. IsUpTo xs floor end) c.deref.ensures.value c.up_to-end.ensures in
    let known = subst (AreAmong keep) (sym c.self.view_is) c.requires.known in
    fewer_kept changes keep floor end kept c.self.invariant.rising c.requires.keep known ends c.up_to-kept.ensures

pub close_up-taken-requires-clause-within : goal.close_up-taken-requires-clause-within
close_up-taken-requires-clause-within c =
    let changes = c.self.inside.changes.items in
    let keep = c.args.keep.now in
    let floor = c.args.floor in
    let end = c.up_to-end.result in
    let kept = c.up_to-kept.result in
    let ends = subst (λ xs. IsUpTo xs floor end) c.deref.ensures.value c.up_to-end.ensures in
    let known = subst (AreAmong keep) (sym c.self.view_is) c.requires.known in
    (kept_part changes keep floor end kept c.self.invariant.rising c.requires.keep known ends c.up_to-kept.ensures (end - kept) refl).0

pub close_up-taken-requires-clause-part : goal.close_up-taken-requires-clause-part
close_up-taken-requires-clause-part c =
    let changes = c.self.inside.changes.items in
    let keep = c.args.keep.now in
    let floor = c.args.floor in
    let end = c.up_to-end.result in
    let kept = c.up_to-kept.result in
    let ends = subst (λ xs. IsUpTo xs floor end) c.deref.ensures.value c.up_to-end.ensures in
    let known = subst (AreAmong keep) (sym c.self.view_is) c.requires.known in
    (kept_part changes keep floor end kept c.self.invariant.rising c.requires.keep known ends c.up_to-kept.ensures (end - kept) refl).1

pub invariant_of-self : goal.invariant_of-self
invariant_of-self c =
    let changes = c.self.inside.changes.items in
    let keep = c.args.keep.now in
    let floor = c.args.floor in
    let end = c.up_to-end.result in
    let kept = c.up_to-kept.result in
    let ends = subst (λ xs. IsUpTo xs floor end) c.deref.ensures.value c.up_to-end.ensures in
    let known = subst (AreAmong keep) (sym c.self.view_is) c.requires.known in
    record {
      rising = subst IsStrictlyIncreasing (sym (c.close_up-taken.ensures.left ∙ left_stays changes keep floor end kept c.self.invariant.rising c.requires.keep known ends c.up_to-kept.ensures)) (IsStrictlyIncreasing-filter (λ n. stays floor keep n) changes c.self.invariant.rising);
      sized = c.close_up-taken.ensures.sized;
    }

pub returns-clause-left : goal.returns-clause-left
returns-clause-left c =
    let changes = c.self.inside.changes.items in
    let keep = c.args.keep.now in
    let floor = c.args.floor in
    let end = c.up_to-end.result in
    let kept = c.up_to-kept.result in
    let ends = subst (λ xs. IsUpTo xs floor end) c.deref.ensures.value c.up_to-end.ensures in
    let known = subst (AreAmong keep) (sym c.self.view_is) c.requires.known in
    c.close_up-taken.ensures.left ∙ left_stays changes keep floor end kept c.self.invariant.rising c.requires.keep known ends c.up_to-kept.ensures ∙ ap (staying floor keep) c.self.view_is

pub returns-clause-none : goal.returns-clause-none
returns-clause-none c none =
    let changes = c.self.inside.changes.items in
    let keep = c.args.keep.now in
    let floor = c.args.floor in
    let end = c.up_to-end.result in
    let kept = c.up_to-kept.result in
    let ends = subst (λ xs. IsUpTo xs floor end) c.deref.ensures.value c.up_to-end.ensures in
    let known = subst (AreAmong keep) (sym c.self.view_is) c.requires.known in
    c.close_up-taken.ensures.left ∙ left_stays changes keep floor end kept c.self.invariant.rising c.requires.keep known ends c.up_to-kept.ensures
    ∙ none_goes changes keep floor end kept c.self.invariant.rising c.requires.keep known ends c.up_to-kept.ensures none
    ∙ c.self.view_is

pub returns-then-keep-len-clause-left : goal.returns-then-keep-len-clause-left
returns-then-keep-len-clause-left c =
    let changes = c.self.inside.changes.items in
    let keep = c.args.keep.now in
    let floor = c.args.floor in
    let same = c.if-keep-len.true in
    let many = c.len.ensures in
    let number : length keep ≡ length changes = omega (arith, same, many, c.self.inside.changes.ok.0) in
    let known = subst (AreAmong keep) (sym c.self.view_is) c.requires.known in
    sym (subst (λ (ns : List ℕ). staying floor keep ns ≡ ns) c.self.view_is (all_stay changes keep floor c.self.invariant.rising c.requires.keep known number))
