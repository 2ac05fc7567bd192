-- The changes up to a version, where one that changes nothing stands for each that is gone: the others keep their numbers, and
-- all of them leave what the kept ones leave.
use Rattle.std.proofs.Common.{◌≡◌, ℕ, zero, suc, ◌+◌, ◌-◌, ◌<◌, ◌≤◌, Bool, true, false, cond, Some, List, [], ◌∷◌, ◌++◌, length, get_or, take, map, filter, refl, sym, subst, ap, ◌∙◌, arith, true≢false}
use Rattle.std.specs.Prelude.{not}
use Rattle.std.specs.Str.{bytes_eq}
use Rattle.std.proofs.lemmas.Bool.{and_from, false_from_ne_true, not_from_false}
use Rattle.std.proofs.lemmas.List.{append-nil, length-map, length-take-le, map-append}
use Rattle.cq_base.specs.declared.change.Change.{Change}
use Rattle.cq_base.specs.declared.change.Change.TheVariants.{Put, Drop, Gate}
use Rattle.cq_base.specs.declared.change.Condition.{Condition}
use Rattle.cq_history.specs.Changes.{change_at, no_change}
use Rattle.cq_history.specs.Files.{Source, files_of, files_at, files_after, without_file, conditions_of, conditions_at, conditions_after}
use Rattle.cq_history.specs.Gone.{IsKept, is_gone}
use Rattle.cq_history.specs.KeptFiles.{numbered, files_by, conditions_by, kept_up_to}
use Rattle.cq_history.proofs.PathOrder.{has_filter}
use Rattle.cq_history.proofs.Prefixes.{files_of_push, conditions_from_push}
use Rattle.cq_history.proofs.Presence.{bytes_eq-sym}
use Rattle.cq_history.proofs.Forgetting.{gone_is}
use Rattle.cq_history.proofs.KeptFiles.{numbered_next, kept_next, next_there, files_by_next, filter_none, is_left, gone_before, agree, kept_leave}
use Rattle.cq_history.proofs.KeptConditions.{conditions_by_next, follows, follows_before, gone_gate, agree_on, leave}

-- what stands for a change that is gone: there is nothing that it takes away
abbrev pub blank : Change → Change
blank (Put project path lang text) = Drop project path
blank (Drop project path) = Drop project path
blank (Gate project given) = Gate project []

abbrev pub blanked : List Change → ℕ → ℕ × Change → Change
blanked changes floor c = cond (is_gone changes floor c.0) (blank c.1) c.1

abbrev pub blanked_up_to : List Change → ℕ → ℕ → List Change
blanked_up_to changes floor version = map (λ (c : ℕ × Change). blanked changes floor c) (numbered 1 (take version changes))

length_numbered : (r : ℕ) (cs : List Change) → length (numbered r cs) ≡ length cs
length_numbered r [] = refl
length_numbered r (c ∷ cs) = omega (arith, length_numbered (r + 1) cs)

module _ (changes : List Change) (floor : ℕ) where
  pub length_blanked : (n : ℕ) → n ≤ length changes → length (blanked_up_to changes floor n) ≡ n
  length_blanked n within =
      length-map (numbered 1 (take n changes)) (λ (c : ℕ × Change). blanked changes floor c) ∙ length_numbered 1 (take n changes) ∙ length-take-le n changes within

  blanked_next : (n : ℕ) → n < length changes → blanked_up_to changes floor (n + 1) ≡ blanked_up_to changes floor n ++ blanked changes floor (n + 1, get_or changes n no_change) ∷ []
  blanked_next n within =
      ap (map (λ (c : ℕ × Change). blanked changes floor c)) (numbered_next changes n within)
      ∙ map-append (λ (c : ℕ × Change). blanked changes floor c) (numbered 1 (take n changes)) ((n + 1, get_or changes n no_change) ∷ [])

  kept_stays : (r : ℕ) → IsKept changes floor r → is_gone changes floor r ≡ false
  kept_stays r kept = false_from_ne_true (is_gone changes floor r) (λ h. kept.1 ((gone_is changes floor r kept.0).0 h))

  -- a change that is kept stands for itself
  pub kept_stands : (n : ℕ) → n < length changes → IsKept changes floor (n + 1) → blanked_up_to changes floor (n + 1) ≡ blanked_up_to changes floor n ++ get_or changes n no_change ∷ []
  kept_stands n within kept =
      blanked_next n within
      ∙ ap (λ b. blanked_up_to changes floor n ++ cond b (blank (get_or changes n no_change)) (get_or changes n no_change) ∷ []) (kept_stays (n + 1) kept)

  -- where none of the next ones is kept, no more are
  skip_on : (from k : ℕ) → from + k ≤ length changes → ((r : ℕ) → from < r → r ≤ from + k → IsKept changes floor r → ⊥) → kept_up_to changes floor (from + k) ≡ kept_up_to changes floor from
  skip_on from zero within none = ap (kept_up_to changes floor) (let e : from + 0 ≡ from = omega arith in e)
  skip_on from (suc k) within none =
      let last : from + suc k ≡ from + k + 1 = omega arith in
      ap (kept_up_to changes floor) last ∙ kept_next changes floor (from + k) (omega (arith, within))
      ∙ ap (λ b. kept_up_to changes floor (from + k) ++ cond (not b) ((from + k + 1, get_or changes (from + k) no_change) ∷ []) []) (gone (is_gone changes floor (from + k + 1)) refl)
      ∙ append-nil (kept_up_to changes floor (from + k))
      ∙ skip_on from k (omega (arith, within)) (λ r behind low kept. none r behind (omega (arith, low)) kept)
    where
      gone : (b : Bool) → is_gone changes floor (from + k + 1) ≡ b → is_gone changes floor (from + k + 1) ≡ true
      gone true e = e
      gone false e =
          absurd (none (from + k + 1) (omega arith) (omega arith) ((omega arith, omega (arith, within)), λ g. true≢false (sym ((gone_is changes floor (from + k + 1) (omega arith, omega (arith, within))).1 g) ∙ e)))

  skipped : (from to : ℕ) → from ≤ to → to ≤ length changes → ((r : ℕ) → from < r → r ≤ to → IsKept changes floor r → ⊥) → kept_up_to changes floor to ≡ kept_up_to changes floor from
  skipped from to order within none =
      let sum : from + (to - from) ≡ to = omega (arith, order) in
      ap (kept_up_to changes floor) (sym sum)
      ∙ skip_on from (to - from) (omega (arith, order, within)) (λ r behind low kept. none r behind (omega (arith, low, order)) kept)

  module _ (q : List ℕ) where
    -- what is gone took nothing away from the files that the kept changes leave
    blank_files : (n : ℕ) (c : Change) → n < length changes → change_at changes (n + 1) ≡ Some c → is_gone changes floor (n + 1) ≡ true →
        files_after q (n + 1) (filter (is_left changes floor q) (files_of q (take n changes))) (blank c) ≡ filter (is_left changes floor q) (files_of q (take n changes))
    blank_files n (Put project path lang text) within here gone = go (bytes_eq q project) refl
      where
        left : List Source
        left = filter (is_left changes floor q) (files_of q (take n changes))

        go : (b : Bool) → bytes_eq q project ≡ b → cond b (without_file path left) left ≡ left
        go true named =
            filter_none (λ (g : Source). not (bytes_eq path g.path)) left (λ g has.
            let was = has_filter (is_left changes floor q) (files_of q (take n changes)) g has in
            not_from_false _ (false_from_ne_true (bytes_eq path g.path) (λ e. true≢false (sym was.1 ∙ gone_before changes floor q n (Put project path lang text) within here gone g was.0 (and_from _ _ named (bytes_eq-sym g.path path ∙ e))))))
        go false other = refl
    blank_files n (Drop project path) within here gone = go (bytes_eq q project) refl
      where
        left : List Source
        left = filter (is_left changes floor q) (files_of q (take n changes))

        go : (b : Bool) → bytes_eq q project ≡ b → cond b (without_file path left) left ≡ left
        go true named =
            filter_none (λ (g : Source). not (bytes_eq path g.path)) left (λ g has.
            let was = has_filter (is_left changes floor q) (files_of q (take n changes)) g has in
            not_from_false _ (false_from_ne_true (bytes_eq path g.path) (λ e. true≢false (sym was.1 ∙ gone_before changes floor q n (Drop project path) within here gone g was.0 (and_from _ _ named (bytes_eq-sym g.path path ∙ e))))))
        go false other = refl
    blank_files n (Gate project given) within here gone = refl

    -- nor from the conditions
    blank_conditions : (n : ℕ) (c : Change) → n < length changes → change_at changes (n + 1) ≡ Some c → is_gone changes floor (n + 1) ≡ true →
        conditions_after q (cond (follows changes floor q n) [] (conditions_of q (take n changes))) (blank c) ≡ cond (follows changes floor q n) [] (conditions_of q (take n changes))
    blank_conditions n (Put project path lang text) within here gone = refl
    blank_conditions n (Drop project path) within here gone = refl
    blank_conditions n (Gate project given) within here gone = go (bytes_eq q project) refl
      where
        left : List Condition
        left = cond (follows changes floor q n) [] (conditions_of q (take n changes))

        go : (b : Bool) → bytes_eq q project ≡ b → cond b [] left ≡ left
        go true named =
            sym (ap (λ f. cond f [] (conditions_of q (take n changes))) (follows_before changes floor q n (gone_gate changes floor q n project given within here named gone)))
        go false other = refl

    files_step : (n : ℕ) (c : Change) → n < length changes → change_at changes (n + 1) ≡ Some c → (files : List Source) → files ≡ filter (is_left changes floor q) (files_of q (take n changes)) →
        files_after q (n + 1) files (blanked changes floor (n + 1, c)) ≡ cond (not (is_gone changes floor (n + 1))) (files_after q (n + 1) files c) files
    files_step n c within here files is = go (is_gone changes floor (n + 1)) refl
      where
        go : (b : Bool) → is_gone changes floor (n + 1) ≡ b → files_after q (n + 1) files (cond b (blank c) c) ≡ cond (not b) (files_after q (n + 1) files c) files
        go true gone = ap (λ fs. files_after q (n + 1) fs (blank c)) is ∙ blank_files n c within here gone ∙ sym is
        go false stays = refl

    conditions_step : (n : ℕ) (c : Change) → n < length changes → change_at changes (n + 1) ≡ Some c → (given : List Condition) → given ≡ cond (follows changes floor q n) [] (conditions_of q (take n changes)) →
        conditions_after q given (blanked changes floor (n + 1, c)) ≡ cond (not (is_gone changes floor (n + 1))) (conditions_after q given c) given
    conditions_step n c within here given is = go (is_gone changes floor (n + 1)) refl
      where
        go : (b : Bool) → is_gone changes floor (n + 1) ≡ b → conditions_after q given (cond b (blank c) c) ≡ cond (not b) (conditions_after q given c) given
        go true gone = ap (λ ds. conditions_after q ds (blank c)) is ∙ blank_conditions n c within here gone ∙ sym is
        go false stays = refl

    abbrev SameFiles : ℕ → Type 0
    SameFiles n = files_of q (blanked_up_to changes floor n) ≡ files_by q [] (kept_up_to changes floor n)

    abbrev SameConditions : ℕ → Type 0
    SameConditions n = conditions_of q (blanked_up_to changes floor n) ≡ conditions_by q [] (kept_up_to changes floor n)

    files_more : (n : ℕ) → n < length changes → SameFiles n → SameFiles (n + 1)
    files_more n within was =
        let c : Change = get_or changes n no_change in
        let left = files_by q [] (kept_up_to changes floor n) in
        let number : length (blanked_up_to changes floor n) + 1 ≡ n + 1 = ap (λ k. k + 1) (length_blanked n (omega (arith, within))) in
        ap (files_of q) (blanked_next n within)
        ∙ files_of_push q (blanked_up_to changes floor n) (blanked changes floor (n + 1, c))
        ∙ ap (λ r. files_after q r (files_of q (blanked_up_to changes floor n)) (blanked changes floor (n + 1, c))) number
        ∙ ap (λ fs. files_after q (n + 1) fs (blanked changes floor (n + 1, c))) was
        ∙ files_step n c within (next_there changes n within) left (agree changes floor q n (omega (arith, within)))
        ∙ sym (files_by_next q (kept_up_to changes floor n) (n + 1, c) (not (is_gone changes floor (n + 1))))
        ∙ ap (files_by q []) (sym (kept_next changes floor n within))

    conditions_more : (n : ℕ) → n < length changes → SameConditions n → SameConditions (n + 1)
    conditions_more n within was =
        let c : Change = get_or changes n no_change in
        let left = conditions_by q [] (kept_up_to changes floor n) in
        ap (conditions_of q) (blanked_next n within)
        ∙ conditions_from_push q [] (blanked_up_to changes floor n) (blanked changes floor (n + 1, c))
        ∙ ap (λ ds. conditions_after q ds (blanked changes floor (n + 1, c))) was
        ∙ conditions_step n c within (next_there changes n within) left (agree_on changes floor q n (omega (arith, within)))
        ∙ sym (conditions_by_next q (kept_up_to changes floor n) (n + 1, c) (not (is_gone changes floor (n + 1))))
        ∙ ap (conditions_by q []) (sym (kept_next changes floor n within))

    same_files : (n : ℕ) → n ≤ length changes → SameFiles n
    same_files zero within = refl
    same_files (suc n) within = subst SameFiles (let e : n + 1 ≡ suc n = omega arith in e) (files_more n (omega (arith, within)) (same_files n (omega (arith, within))))

    same_conditions : (n : ℕ) → n ≤ length changes → SameConditions n
    same_conditions zero within = refl
    same_conditions (suc n) within = subst SameConditions (let e : n + 1 ≡ suc n = omega arith in e) (conditions_more n (omega (arith, within)) (same_conditions n (omega (arith, within))))

    -- where none of the next ones is kept, the same files and conditions are there after them
    pub files_skipped : (from to : ℕ) → from ≤ to → to ≤ length changes → ((r : ℕ) → from < r → r ≤ to → IsKept changes floor r → ⊥) → files_of q (blanked_up_to changes floor to) ≡ files_of q (blanked_up_to changes floor from)
    files_skipped from to order within none =
        same_files to within ∙ ap (files_by q []) (skipped from to order within none) ∙ sym (same_files from (omega (arith, order, within)))

    pub conditions_skipped : (from to : ℕ) → from ≤ to → to ≤ length changes → ((r : ℕ) → from < r → r ≤ to → IsKept changes floor r → ⊥) → conditions_of q (blanked_up_to changes floor to) ≡ conditions_of q (blanked_up_to changes floor from)
    conditions_skipped from to order within none =
        same_conditions to within ∙ ap (conditions_by q []) (skipped from to order within none) ∙ sym (same_conditions from (omega (arith, order, within)))

    -- from the floor on they are those of the version
    pub files_blanked : (version : ℕ) → version ≤ length changes → floor ≤ version → files_of q (blanked_up_to changes floor version) ≡ files_at changes version q
    files_blanked version within low = same_files version within ∙ kept_leave changes floor q version low

    pub conditions_blanked : (version : ℕ) → version ≤ length changes → floor ≤ version → conditions_of q (blanked_up_to changes floor version) ≡ conditions_at changes version q
    conditions_blanked version within low = same_conditions version within ∙ leave changes floor q version low
