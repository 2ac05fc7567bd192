-- The kept changes alone leave the conditions of each version from the floor on.
use Rattle.std.proofs.Common.{◌≡◌, ℕ, zero, suc, ◌+◌, ◌-◌, ◌<◌, ◌≤◌, Bool, true, false, cond, Some, List, [], ◌∷◌, ◌++◌, length, get_or, take, drop, filter, refl, sym, subst, ap, ◌∙◌, ⊎_elim, arith, true≢false}
use Rattle.std.specs.Prelude.{not}
use Rattle.std.specs.List.{list_any}
use Rattle.std.specs.Str.{bytes_eq}
use Rattle.std.proofs.lemmas.Bool.{cases_lt, false_from_ne_true}
use Rattle.std.proofs.lemmas.List.{append-nil, take_more}
use Rattle.std.proofs.lemmas.Option.{slice_get_within}
use Rattle.std.proofs.lemmas.Slice.Eq.{bytes_eq-Decides}
use Rattle.cq_base.specs.declared.change.Change.{Change}
use Rattle.cq_base.specs.declared.change.Change.TheVariants.{Put, Drop, Gate}
use Rattle.cq_base.specs.declared.change.Condition.{Condition}
use Rattle.cq_base.proofs.Bools.{cond-same}
use Rattle.cq_history.specs.Changes.{change_at, is_gate_of, no_change, IsNumber}
use Rattle.cq_history.specs.Files.{conditions_of, conditions_at, conditions_after}
use Rattle.cq_history.specs.Gone.{IsFollowed, IsOver, is_gone}
use Rattle.cq_history.specs.KeptFiles.{numbered, conditions_by, kept_up_to}
use Rattle.cq_history.proofs.Prefixes.{conditions_from_push}
use Rattle.cq_history.proofs.Forgetting.{any_follows, follows_any, gone_is}
use Rattle.cq_history.proofs.KeptFiles.{kept_next, next_there, take_past}

both_ways : (a b : Bool) → (a ≡ true → b ≡ true) → (b ≡ true → a ≡ true) → a ≡ b
both_ways true b to from = sym (to refl)
both_ways false true to from = from refl
both_ways false false to from = refl

some_same : {c d : Change} → Some c ≡ Some d → c ≡ d
some_same e = cc e

conditions_by_more : (q : List ℕ) (old : List Condition) (cs : List (ℕ × Change)) (c : ℕ × Change) → conditions_by q old (cs ++ c ∷ []) ≡ conditions_after q (conditions_by q old cs) c.1
conditions_by_more q old [] c = refl
conditions_by_more q old (d ∷ ds) c = conditions_by_more q (conditions_after q old d.1) ds c

pub conditions_by_next : (q : List ℕ) (cs : List (ℕ × Change)) (c : ℕ × Change) (b : Bool) → conditions_by q [] (cs ++ cond b (c ∷ []) []) ≡ cond b (conditions_after q (conditions_by q [] cs) c.1) (conditions_by q [] cs)
conditions_by_next q cs c true = conditions_by_more q [] cs c
conditions_by_next q cs c false = ap (conditions_by q []) (append-nil cs)

module _ (changes : List Change) (floor : ℕ) (q : List ℕ) where
  -- whether a gate of the project up to the floor is after a number
  abbrev pub follows : ℕ → Bool
  follows n = list_any (is_gate_of q) (drop n (take floor changes))

  -- one after the next number is after this one
  pub follows_before : (n : ℕ) → follows (n + 1) ≡ true → follows n ≡ true
  follows_before n h =
      let f = any_follows (is_gate_of q) changes floor (n + 1) h in
      follows_any (is_gate_of q) changes floor n (record {
        later = f.later;
        change = f.change;
        behind = omega (arith, f.behind);
        within = f.within;
        next = f.next;
        passes = f.passes;
      })

  -- what is no gate of the project is passed over
  passed_over : (n : ℕ) (c : Change) → change_at changes (n + 1) ≡ Some c → is_gate_of q c ≡ false → follows n ≡ follows (n + 1)
  passed_over n c here other = both_ways (follows n) (follows (n + 1)) later_on (follows_before n)
    where
      later_on : follows n ≡ true → follows (n + 1) ≡ true
      later_on h =
          let f = any_follows (is_gate_of q) changes floor n h in
          ⊎_elim
          (λ (lt : n + 1 < f.later). follows_any (is_gate_of q) changes floor (n + 1) (record {
            later = f.later;
            change = f.change;
            behind = lt;
            within = f.within;
            next = f.next;
            passes = f.passes;
          }))
          (λ (le : f.later ≤ n + 1).
          let at : f.later ≡ n + 1 = omega (arith, le, f.behind) in
          let same : f.change ≡ c = some_same (sym f.next ∙ ap (change_at changes) at ∙ here) in
          absurd (true≢false (sym f.passes ∙ ap (is_gate_of q) same ∙ other)))
          (cases_lt (n + 1) f.later)

  module _ (n : ℕ) (project : List ℕ) (given : List Condition) (within : n < length changes) (here : change_at changes (n + 1) ≡ Some (Gate project given)) (named : bytes_eq q project ≡ true) where
    number : IsNumber changes (n + 1)
    number = (omega arith, omega (arith, within))

    same_project : q ≡ project
    same_project = (bytes_eq-Decides q project).0 named

    -- a gate of the project is gone where another one follows it
    pub gate_gone : follows (n + 1) ≡ true → is_gone changes floor (n + 1) ≡ true
    gate_gone h =
        let f = any_follows (is_gate_of q) changes floor (n + 1) h in
        (gone_is changes floor (n + 1) number).1 (record {
          change = Gate project given;
          accepted = number;
          within = omega (arith, f.behind, f.within);
          is = here;
          over = subst (λ p. IsFollowed (is_gate_of p) changes floor (n + 1)) same_project f;
        })

    pub gone_gate : is_gone changes floor (n + 1) ≡ true → follows (n + 1) ≡ true
    gone_gate h =
        let g = (gone_is changes floor (n + 1) number).0 h in
        let same : g.change ≡ Gate project given = some_same (sym g.is ∙ here) in
        let over : IsFollowed (is_gate_of project) changes floor (n + 1) = subst (IsOver changes floor (n + 1)) same g.over in
        follows_any (is_gate_of q) changes floor (n + 1) (subst (λ p. IsFollowed (is_gate_of p) changes floor (n + 1)) (sym same_project) over)

  -- what the kept changes leave of the conditions: none before the last gate up to the floor
  abbrev pub AgreeOn : ℕ → Type 0
  AgreeOn n = conditions_by q [] (kept_up_to changes floor n) ≡ cond (follows n) [] (conditions_of q (take n changes))

  next_kept : (n : ℕ) (c : Change) (left all : List Condition) → n < length changes → change_at changes (n + 1) ≡ Some c → left ≡ cond (follows n) [] all →
      cond (not (is_gone changes floor (n + 1))) (conditions_after q left c) left ≡ cond (follows (n + 1)) [] (conditions_after q all c)
  next_kept n (Put project path lang text) left all within here was =
      cond-same (not (is_gone changes floor (n + 1))) left ∙ was ∙ ap (λ b. cond b [] all) (passed_over n (Put project path lang text) here refl)
  next_kept n (Drop project path) left all within here was =
      cond-same (not (is_gone changes floor (n + 1))) left ∙ was ∙ ap (λ b. cond b [] all) (passed_over n (Drop project path) here refl)
  next_kept n (Gate project given) left all within here was = go (bytes_eq q project) refl
    where
      own : bytes_eq q project ≡ true → (b : Bool) → follows (n + 1) ≡ b → cond (not (is_gone changes floor (n + 1))) given left ≡ cond b [] given
      own named true later =
          ap (λ g. cond (not g) given left) (gate_gone n project given within here named later)
          ∙ was ∙ ap (λ f. cond f [] all) (follows_before n later)
      own named false none =
          ap (λ g. cond (not g) given left) (false_from_ne_true (is_gone changes floor (n + 1)) (λ gone. true≢false (sym (gone_gate n project given within here named gone) ∙ none)))

      go : (b : Bool) → bytes_eq q project ≡ b → cond (not (is_gone changes floor (n + 1))) (cond b given left) left ≡ cond (follows (n + 1)) [] (cond b given all)
      go true named = own named (follows (n + 1)) refl
      go false other = cond-same (not (is_gone changes floor (n + 1))) left ∙ was ∙ ap (λ b. cond b [] all) (passed_over n (Gate project given) here other)

  agree_more : (n : ℕ) → n < length changes → AgreeOn n → AgreeOn (n + 1)
  agree_more n within was =
      let c : Change = get_or changes n no_change in
      let cs = take n changes in
      let left = conditions_by q [] (kept_up_to changes floor n) in
      ap (conditions_by q []) (kept_next changes floor n within)
      ∙ conditions_by_next q (kept_up_to changes floor n) (n + 1, c) (not (is_gone changes floor (n + 1)))
      ∙ next_kept n c left (conditions_of q cs) within (next_there changes n within) was
      ∙ ap (cond (follows (n + 1)) []) (sym (conditions_from_push q [] cs c))
      ∙ ap (λ xs. cond (follows (n + 1)) [] (conditions_of q xs)) (sym (take_more changes n no_change within))

  pub agree_on : (n : ℕ) → n ≤ length changes → AgreeOn n
  agree_on zero low = let none : List Condition = [] in sym (cond-same (follows 0) none)
  agree_on (suc n) low = subst AgreeOn (let e : n + 1 ≡ suc n = omega arith in e) (agree_more n (omega (arith, low)) (agree_on n (omega (arith, low))))

  -- none follows from the floor on
  follows_none : (n : ℕ) → floor ≤ n → follows n ≡ false
  follows_none n low = false_from_ne_true (follows n) (λ h. let f = any_follows (is_gate_of q) changes floor n h in absurd (omega (arith, f.behind, f.within, low)))

  -- nor after the last change
  follows_past : (n : ℕ) → length changes ≤ n → follows n ≡ false
  follows_past n low =
      false_from_ne_true (follows n) (λ h.
      let f = any_follows (is_gate_of q) changes floor n h in
      let inside = slice_get_within changes (f.later - 1) f.change f.next in
      absurd (omega (arith, f.behind, inside, low)))

  leave_at : (n : ℕ) → n ≤ length changes → follows n ≡ false → conditions_by q [] (kept_up_to changes floor n) ≡ conditions_of q (take n changes)
  leave_at n within none = agree_on n within ∙ ap (λ b. cond b [] (conditions_of q (take n changes))) none

  pub leave : (version : ℕ) → floor ≤ version → conditions_by q [] (kept_up_to changes floor version) ≡ conditions_at changes version q
  leave version low =
      ⊎_elim
      (λ (past : length changes < version). subst (λ xs. conditions_by q [] (filter (λ (c : ℕ × Change). not (is_gone changes floor c.0)) (numbered 1 xs)) ≡ conditions_of q xs) (take_past changes version past) (leave_at (length changes) (omega arith) (follows_past (length changes) (omega arith))))
      (λ (within : version ≤ length changes). leave_at version within (follows_none version low))
      (cases_lt (length changes) version)

pub kept_leave_the_conditions : (changes : List Change) (floor version : ℕ) (project : List ℕ) → floor ≤ version → conditions_by project [] (kept_up_to changes floor version) ≡ conditions_at changes version project
kept_leave_the_conditions changes floor version project low = leave changes floor project version low
