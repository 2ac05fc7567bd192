use Rattle.std.proofs.Common.{Global, ◌≡◌, ℕ, ◌-◌, ◌≤◌, true≢false, take, take_all, List, ◌∷◌, ◌++◌, length, map, drop, refl, sym, ap, ◌∙◌, subst, arith, length-drop}
use Rattle.std.specs.Prelude.{IsSome, All}
use Rattle.std.specs.Arc.{arc_value}
use Rattle.std.specs.Vec.Iter.{into_iter_items}
use Rattle.std.proofs.lemmas.List.{map-append}
use Rattle.std.specs.BTreeMap.Range.{IsLtBy}
use Rattle.std.specs.declared.sync.Arc.{Arc}
use Rattle.cq_history.specs.Files.{File}
use Rattle.cq_projects.specs.Drafts.{edited_all, files_at, one_or_none, AreOwn, AreCut}
use Rattle.cq_projects.proofs.Cutting.{AreFrom, from_first, from_next, merges, behind_within, cut_order}
use Rattle.cq_projects.proofs.Gathering.{keys_at, text_cmp}
use Rattle.cq_projects.proofs.OneWalk.{AreBelowAll, below_none, later_from, merged_on, below_on, none_left}
use Rattle.cq_projects.proofs.Moving.{left_behind}
use Rattle.cq_projects.proofs.merging.merged.Goals as goal

-- what is left of a list from an index on
rest_all : {X : Type 0} (n : ℕ) (xs : List X) → take (length xs - n) (drop n xs) ≡ drop n xs
rest_all n xs = take_all (length xs - n) (drop n xs) (let e = length-drop n xs in omega (arith, e))

pub loop-path-init : goal.loop-path-init
loop-path-init g c =
    let es = c.args.paths.entries in
    subst (λ (hs : List (Arc (File g.row.W.Denot) Global)). (0 ≤ length c.args.files.items) × AreCut (map arc_value c.args.files.items) es × AreOwn (files_at es) × AreBelowAll (map arc_value hs) (files_at es) × AreFrom 0 es
    × (map arc_value hs ++ edited_all (files_at es) (map arc_value (drop 0 c.args.files.items)) ≡ edited_all (files_at es) (map arc_value c.args.files.items)) × (into_iter_items c.into_iter-rest.result ≡ drop 0 c.args.files.items))
    (sym c.in_ok-done.ensures.items) (omega arith, c.requires.cut, c.requires.own, below_none (files_at es), from_first es, refl, c.into_iter-rest.ensures.rest)

pub loop-path-preserved : goal.loop-path-preserved
loop-path-preserved g c =
    let es = c.pop_first.new.self.entries in
    let files = c.args.files.items in
    let from = c.loop-path.from in
    let path = c.in-Some._path in
    let named = c.in-Some.named in
    let done = map arc_value c.loop-path.done.items in
    let now = map arc_value c.merge_one.new.done.items in
    let rest = map arc_value (drop from files) in
    let left = map arc_value (drop named.behind files) in
    let cuts : AreCut (map arc_value files) ((path, named) ∷ es) = subst (AreCut (map arc_value files)) c.in-Some.ensures.removal c.loop-path.invariant.1 in
    let own : AreOwn (files_at ((path, named) ∷ es)) = subst (λ xs. AreOwn (files_at xs)) c.in-Some.ensures.removal c.loop-path.invariant.2 in
    let below : AreBelowAll done (files_at ((path, named) ∷ es)) = subst (λ xs. AreBelowAll done (files_at xs)) c.in-Some.ensures.removal c.loop-path.invariant.3 in
    let first : from ≤ named.before = (subst (AreFrom from) c.in-Some.ensures.removal c.loop-path.invariant.4).0 in
    let later = later_from path (files_at es) (subst (All (IsLtBy text_cmp path)) (sym (keys_at es)) c.in-Some.ensures.all_above) in
    let joined = subst (λ (hs : List (Arc (File g.row.W.Denot) Global)). now ≡ done ++ (map arc_value (take (named.before - from) hs) ++ one_or_none named.file)) c.loop-path.invariant.6 c.in_ok-merge_one.ensures.joined in
    let one = merges files (arc_value path) named.before named.behind cuts.0 from first named.file done now joined in (
      behind_within files (arc_value path) named.before named.behind cuts.0,
      cuts.1,
      own.1,
      below_on path named.file (files_at es) own.0 own.1 later done now rest left one below.0,
      from_next (map arc_value files) (arc_value path) named.before named.behind es cuts.0 later cuts.1,
      sym (merged_on path named.file (files_at es) own.0 own.1 later done now rest left one)
          ∙ ap (λ xs. done ++ edited_all (files_at xs) rest) (sym c.in-Some.ensures.removal) ∙ c.loop-path.invariant.5,
      left_behind from named.before named.behind files (into_iter_items c.loop-path.rest) (into_iter_items c.merge_one.new.rest) first (cut_order files (arc_value path) named.before named.behind cuts.0) c.loop-path.invariant.6 c.in_ok-merge_one.ensures.left,
    )

pub returns : goal.returns
returns g c =
    let files = c.args.files.items in
    let from = c.loop-path.from in
    let moved : c.append_moved.new.done.items ≡ c.loop-path.done.items ++ drop from files =
    c.in_ok-append_moved.ensures.moved ∙ ap (λ (hs : List (Arc (File g.row.W.Denot) Global)). c.loop-path.done.items ++ take (c.len-len.result - from) hs) c.loop-path.invariant.6
    ∙ ap (λ n. c.loop-path.done.items ++ take (n - from) (drop from files)) (c.len-len.ensures ∙ c.args.files.ok.0) ∙ ap (λ hs. c.loop-path.done.items ++ hs) (rest_all from files) in
    ap (map arc_value) moved ∙ map-append arc_value c.loop-path.done.items (drop from files)
    ∙ ap (λ xs. map arc_value c.loop-path.done.items ++ edited_all (files_at xs) (map arc_value (drop from files))) (sym (none_left c.loop-path.paths.entries (λ few. true≢false (sym (subst IsSome c.in_default.is (c.pop_first.ensures.variant.1 few))))))
    ∙ c.loop-path.invariant.5
