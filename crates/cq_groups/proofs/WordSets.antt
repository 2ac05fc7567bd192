-- A part of a word's set is the set of a longer word.
use Rattle.std.proofs.Common.{◌≡◌, ℕ, ◌+◌, ◌≤◌, List, [], ◌∷◌, ◌++◌, length, map, Some, sym, ap, ◌∙◌, subst, eqb}
use Rattle.std.specs.Prelude.{AllPairs, Contains, filter}
use Rattle.std.proofs.lemmas.Bool.{eqb-true, eq-eqb}
use Rattle.std.proofs.lemmas.List.{length_push}
use Rattle.std.proofs.lemmas.List.Kept.{AllPairs-filter}
use Rattle.cq_clones.specs.Groups.{StandsAt, token_behind, token_ahead}
use Rattle.cq_base.proofs.Lists.{Contains-map, Contains-from_map, Contains-filter, Contains-from_filter, AllPairs-map, AllPairs-from_map}
use Rattle.cq_groups.specs.declared.spots.Spot.{Spot}
use Rattle.cq_groups.specs.Sets.{Marked, IsMark, IsSpotBefore, AreMarked, IsWordSet, part_of}
use Rattle.cq_groups.proofs.Marking.{marks_of_token}
use Rattle.cq_groups.proofs.Words.{stands_more, stands_less}

-- the part of a mark, whose token is `t`
pub part_is_word_set : {T : Type 0} (corpus : List (List T)) (all spots : List Spot) (d m : ℕ) (marked : List Marked) (t : T) → (set : IsWordSet corpus all d spots) → map (λ x. x.spot) marked ≡ spots → (are : AreMarked corpus d marked) → IsMark are.seen (Some t) m → 2 ≤ length (part_of m marked) → IsWordSet corpus all (d + 1) (part_of m marked)
part_is_word_set {T} corpus all spots d m marked t set spots_are are is_mark several = record {
  word = set.word ++ t ∷ [];
  long = length_push set.word t ∙ ap (λ n. n + 1) set.long;
  several = several;
  exact = record {
    ordered = AllPairs-map IsSpotBefore (λ (x : Marked). x.spot) (filter (λ x. eqb x.mark m) marked)
        (AllPairs-filter (λ (x y : Marked). IsSpotBefore x.spot y.spot) (λ x. eqb x.mark m) marked
        (AllPairs-from_map IsSpotBefore (λ (x : Marked). x.spot) marked (subst (AllPairs IsSpotBefore) (sym spots_are) set.exact.ordered)));
    each = λ s. (to s, from s);
  };
}
  where
    to : (s : Spot) → Contains (part_of m marked) s → Contains all s × StandsAt corpus (set.word ++ t ∷ []) s.place
    to s c =
        let r = Contains-from_map (λ (x : Marked). x.spot) (filter (λ x. eqb x.mark m) marked) s c in
        let f = Contains-from_filter (λ (x : Marked). eqb x.mark m) marked r.0 r.1 in
        let mark_is : r.0.mark ≡ m = eqb-true r.0.mark m f.1 in
        let in_spots : Contains spots r.0.spot = subst (λ (ss : List Spot). Contains ss r.0.spot) spots_are (Contains-map (λ (x : Marked). x.spot) marked r.0 f.0) in
        let h = (set.exact.each r.0.spot).0 in_spots in
        let token : token_behind corpus r.0.spot.place d ≡ Some t = sym (are.marks r.0 f.0).names ∙ ap (token_ahead are.seen) mark_is ∙ is_mark.names in
        let next : token_behind corpus r.0.spot.place (length set.word) ≡ Some t = ap (token_behind corpus r.0.spot.place) set.long ∙ token in
        subst (λ (z : Spot). Contains all z × StandsAt corpus (set.word ++ t ∷ []) z.place) r.2
        (h.0, stands_more corpus set.word t r.0.spot.place h.1 next)

    from : (s : Spot) → Contains all s × StandsAt corpus (set.word ++ t ∷ []) s.place → Contains (part_of m marked) s
    from s h =
        let less = stands_less corpus set.word t s.place h.1 in
        let in_spots : Contains spots s = (set.exact.each s).1 (h.0, less.0) in
        let r = Contains-from_map (λ (x : Marked). x.spot) marked s (subst (λ (ss : List Spot). Contains ss s) (sym spots_are) in_spots) in
        let token : token_behind corpus r.0.spot.place d ≡ Some t =
        ap (λ (z : Spot). token_behind corpus z.place d) r.2 ∙ ap (token_behind corpus s.place) (sym set.long) ∙ less.1 in
        let mark : r.0.mark ≡ m = (marks_of_token are.seen t r.0.mark m are.apart (subst (λ o. IsMark are.seen o r.0.mark) token (are.marks r.0 r.1)) is_mark).0 in
        subst (Contains (part_of m marked)) r.2
        (Contains-map (λ (x : Marked). x.spot) (filter (λ x. eqb x.mark m) marked) r.0 (Contains-filter (λ (x : Marked). eqb x.mark m) marked r.0 r.1 (eq-eqb r.0.mark m mark)))
