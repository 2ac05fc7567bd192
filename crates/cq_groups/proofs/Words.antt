-- Words that go on by a token.
use Rattle.std.proofs.Common.{◌≡◌, ℕ, ◌+◌, ◌<◌, ◌≤◌, List, [], ◌∷◌, ◌++◌, length, get_or, take, drop, Some, sym, ap, ap₂, ◌∙◌, arith, length-take}
use Rattle.std.proofs.lemmas.List.{take_more, get_or-drop, length_push, same_from_push, take-take, length-drop}
use Rattle.std.proofs.lemmas.Option.{slice_get-get_or, get_or_from_slice_get, slice_get_within}
use Rattle.cq_base.specs.declared.group.Place.{Place}
use Rattle.cq_clones.specs.Groups.{file_at, word_at, StandsAt, token_behind}

-- the word goes on by the token after it
pub stands_more : {T : Type 0} (corpus : List (List T)) (w : List T) (t : T) (p : Place) → StandsAt corpus w p → token_behind corpus p (length w) ≡ Some t → StandsAt corpus (w ++ t ∷ []) p
stands_more corpus w t p stands next =
    let xs = file_at corpus p.file in
    let inside : p.at + length w < length xs = slice_get_within xs (p.at + length w) t next in
    let room : length w < length (drop p.at xs) = omega (arith, length-drop p.at xs) in
    let read : get_or (drop p.at xs) (length w) t ≡ t =
    get_or-drop p.at xs (length w) t ∙ get_or_from_slice_get xs (p.at + length w) t t next in
    ap (λ n. take n (drop p.at xs)) (length_push w t) ∙ take_more (drop p.at xs) (length w) t room ∙ ap₂ (λ u v. u ++ v ∷ []) stands read

pub stands_less : {T : Type 0} (corpus : List (List T)) (w : List T) (t : T) (p : Place) → StandsAt corpus (w ++ t ∷ []) p → (StandsAt corpus w p) × (token_behind corpus p (length w) ≡ Some t)
stands_less corpus w t p stands =
    let xs = file_at corpus p.file in
    let len = length_push w t in
    let full : length (take (length w + 1) (drop p.at xs)) ≡ length w + 1 =
    ap (λ n. length (take n (drop p.at xs))) (sym len) ∙ ap length stands ∙ len in
    let cut = length-take (length w + 1) (drop p.at xs) in
    let rest = length-drop p.at xs in
    let room : length w < length (drop p.at xs) = omega (arith, full, cut) in
    let e : take (length w) (drop p.at xs) ++ get_or (drop p.at xs) (length w) t ∷ [] ≡ w ++ t ∷ [] =
    sym (take_more (drop p.at xs) (length w) t room) ∙ ap (λ n. take n (drop p.at xs)) (sym len) ∙ stands in
    let parts = same_from_push _ _ _ _ e in (
      parts.0,
      slice_get-get_or xs (p.at + length w) t (omega (arith, rest))
          ∙ ap Some (sym (get_or-drop p.at xs (length w) t) ∙ parts.1),
    )

-- the first tokens of a word stand where the word stands
pub stands_front : {T : Type 0} (corpus : List (List T)) (w : List T) (n : ℕ) (p : Place) → n ≤ length w → StandsAt corpus w p → word_at corpus p n ≡ take n w
stands_front corpus w n p le stands =
    sym (take-take n (length w) (drop p.at (file_at corpus p.file)) le) ∙ ap (take n) stands
