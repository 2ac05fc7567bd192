-- A table that fits patterns finds just their spellings.
use Rattle.std.proofs.Common.{◌≡◌, ℕ, zero, suc, ◌-◌, ◌<◌, ◌≤◌, ◌==◌, not, nat_lt, nat_le, Bool, true, false, ◌&&◌, List, [], ◌∷◌, ◌↔◌, ◌⊎◌, inl, inr, length, map, get_or, if◌then◌else◌, ⊎_elim, refl, sym, ap, subst, subst₂, ◌∙◌, arith}
use Rattle.std.specs.List.{list_all, position_or_len}
use Rattle.std.proofs.lemmas.Bool.{ltb-true, leb-true, eqb-true, eq-eqb, ne_eqb, cases_lt, and_parts, and_from, not-true, both_ways}
use Rattle.std.proofs.lemmas.List.{get_or_past}
use Rattle.cq_munch.specs.Automata.{Tables, class_at, entry_at, row_from, row_of, HasRow, lefts, left_at, left_by, step_fits, stand_in, is_stood_for, or_else, character_fits, end_fits, row_fits_by, row_fits, rows_fit, fits}
use Rattle.cq_munch.specs.Behind.{SpellsAny, after, agree, agree_each, all_below, any_takes_empty, each_below, entry_ok}
use Rattle.cq_munch.specs.Pattern.{Pattern, never, empty, among, except, ◌▸◌, ◌∣◌, many, Spells}
use Rattle.cq_munch.proofs.Steps.{beq-is, beq-same, any_takes_empty-if, any_takes_empty-then}
use Rattle.cq_munch.proofs.Tables.{below_each, agree-after, agree_past, entry_none, entry_some}

-- a character agrees with itself
agree_self : (c : ℕ) (p : Pattern) → agree c c p ≡ true
agree_self c never = refl
agree_self c empty = refl
agree_self c (among rs) = beq-same _ _ refl
agree_self c (except rs) = beq-same _ _ refl
agree_self c (p ▸ q) = and_from _ _ (agree_self c p) (agree_self c q)
agree_self c (p ∣ q) = and_from _ _ (agree_self c p) (agree_self c q)
agree_self c (many p) = agree_self c p

pub or_else-cases : (b : Bool) (other : Unit {0} → Bool) → or_else b other ≡ true → (b ≡ true) ⊎ (other tt ≡ true)
or_else-cases true other h = inl refl
or_else-cases false other h = inr h

-- what agrees for a pattern agrees for what it leaves
left_agrees : (p : Pattern) (c d : ℕ) → agree c d p ≡ true → (texts : List (List ℕ)) (s : ℕ) → agree_each c d (get_or (map (λ text. after text (p ∷ [])) texts) s []) ≡ true
left_agrees p c d same [] s = refl
left_agrees p c d same (text ∷ texts) zero = agree-after c d text (p ∷ []) (and_from _ _ same refl)
left_agrees p c d same (text ∷ texts) (suc s) = left_agrees p c d same texts s

module _ (p : Pattern) (row : ℕ) (texts : List (List ℕ)) (t : Tables) (right : row_fits p row texts t ≡ true) where
  -- the parts of the test
  tested : row_fits_by (lefts p texts) p row t ≡ true
  unfolding row_fits
  tested = right

  characters_fit : each_below 131 (character_fits p (lefts p texts) t) ≡ true
  characters_fit = (and_parts (each_below 131 (character_fits p (lefts p texts) t)) _ tested).0

  past_characters : (each_below (length (lefts p texts)) (end_fits row (lefts p texts) t) && (all_below 130 p && (nat_le (length t.classes) 130 && (nat_le (length t.steps) (length (lefts p texts)) && nat_le (length t.ends) (length (lefts p texts)))))) ≡ true
  past_characters = (and_parts (each_below 131 (character_fits p (lefts p texts) t)) _ tested).1

  ends_fit : each_below (length (lefts p texts)) (end_fits row (lefts p texts) t) ≡ true
  ends_fit = (and_parts (each_below (length (lefts p texts)) (end_fits row (lefts p texts) t)) _ past_characters).0

  past_ends : (all_below 130 p && (nat_le (length t.classes) 130 && (nat_le (length t.steps) (length (lefts p texts)) && nat_le (length t.ends) (length (lefts p texts))))) ≡ true
  past_ends = (and_parts (each_below (length (lefts p texts)) (end_fits row (lefts p texts) t)) _ past_characters).1

  within_130 : all_below 130 p ≡ true
  within_130 = (and_parts (all_below 130 p) _ past_ends).0

  past_within : (nat_le (length t.classes) 130 && (nat_le (length t.steps) (length (lefts p texts)) && nat_le (length t.ends) (length (lefts p texts)))) ≡ true
  past_within = (and_parts (all_below 130 p) _ past_ends).1

  few_classes : length t.classes ≤ 130
  few_classes = leb-true _ _ (and_parts (nat_le (length t.classes) 130) _ past_within).0

  past_classes : (nat_le (length t.steps) (length (lefts p texts)) && nat_le (length t.ends) (length (lefts p texts))) ≡ true
  past_classes = (and_parts (nat_le (length t.classes) 130) _ past_within).1

  few_steps : length t.steps ≤ length (lefts p texts)
  few_steps = leb-true _ _ (and_parts (nat_le (length t.steps) (length (lefts p texts))) _ past_classes).0

  few_ends : length t.ends ≤ length (lefts p texts)
  few_ends = leb-true _ _ (and_parts (nat_le (length t.steps) (length (lefts p texts))) _ past_classes).1

  -- the steps of each state at a character that was tested itself
  step_at : (d s : ℕ) → each_below (length (lefts p texts)) (step_fits (lefts p texts) t d) ≡ true → step_fits (lefts p texts) t d s ≡ true
  step_at d s all =
      ⊎_elim
      (λ low. below_each (length (lefts p texts)) (step_fits (lefts p texts) t d) all s low)
      (λ high.
      let few = few_steps in
      let none : left_at (lefts p texts) s ≡ [] = get_or_past (lefts p texts) s [] high in
      let stops : entry_at t s d ≡ 0 = ap (λ row. get_or row (class_at t.classes d) 0 - 48) (get_or_past t.steps s [] (omega (arith, few, high))) in
      subst₂ (λ ps e. entry_ok ps d (left_by (lefts p texts) e) ≡ true) (sym none) (sym stops) refl)
      (cases_lt s (length (lefts p texts)))

  -- a character for which no other one stands
  own_steps : (d s : ℕ) → d < 131 → stand_in t.classes d ≡ d → step_fits (lefts p texts) t d s ≡ true
  own_steps d s low own =
      ⊎_elim
      (λ stood. absurd (both_ways (stand_in t.classes d == d) (not-true _ (and_parts (not (stand_in t.classes d == d)) _ stood).0) (eq-eqb _ _ own)))
      (λ all. step_at d s all)
      (or_else-cases (is_stood_for p t.classes d) (λ u. each_below (length (lefts p texts)) (step_fits (lefts p texts) t d)) (below_each 131 (character_fits p (lefts p texts) t) characters_fit d low))

  -- what a character leaves was tested, at itself or at one that agrees with it
  abbrev IsTested : ℕ → ℕ → Type 0
  IsTested s c = (d : ℕ) × (agree_each c d (left_at (lefts p texts) s) ≡ true) × (entry_ok (left_at (lefts p texts) s) d (left_by (lefts p texts) (entry_at t s c)) ≡ true)

  by_other : (s c d : ℕ) → d < 131 → stand_in t.classes d ≡ d → class_at t.classes d ≡ class_at t.classes c → agree c d p ≡ true → IsTested s c
  by_other s c d low own same agrees = (
    d,
    left_agrees p c d agrees ([] ∷ texts) s,
    subst (λ k. entry_ok (left_at (lefts p texts) s) d (left_by (lefts p texts) (get_or (get_or t.steps s []) k 0 - 48)) ≡ true) same (own_steps d s low own),
  )

  same_stand_in : (c d : ℕ) → class_at t.classes d ≡ class_at t.classes c → stand_in t.classes d ≡ stand_in t.classes c
  same_stand_in c d same = ap (λ k. if k == 0 then 130 else position_or_len (λ j. j == k) t.classes) same

  stood_for : (s c : ℕ) → is_stood_for p t.classes c ≡ true → IsTested s c
  stood_for s c stood =
      let past = (and_parts (not (stand_in t.classes c == c)) _ stood).1 in
      let low = and_parts (nat_lt (stand_in t.classes c) 131) _ past in
      let both = and_parts (class_at t.classes (stand_in t.classes c) == class_at t.classes c) _ low.1 in
      let same = eqb-true (class_at t.classes (stand_in t.classes c)) (class_at t.classes c) both.0 in
      by_other s c (stand_in t.classes c) (ltb-true (stand_in t.classes c) 131 low.0) (same_stand_in c (stand_in t.classes c) same) same both.1

  past_all : (c : ℕ) → 130 ≤ c → class_at t.classes c ≡ 0
  past_all c high = let few = few_classes in get_or_past t.classes c 0 (omega (arith, few, high))

  tested_at : (s c : ℕ) → IsTested s c
  tested_at s c =
      ⊎_elim
      (λ low.
      ⊎_elim
      (λ stood. stood_for s c stood)
      (λ all. (c, left_agrees p c c (agree_self c p) ([] ∷ texts) s, step_at c s all))
      (or_else-cases (is_stood_for p t.classes c) (λ u. each_below (length (lefts p texts)) (step_fits (lefts p texts) t c)) (below_each 131 (character_fits p (lefts p texts) t) characters_fit c low)))
      (λ high.
      let other : class_at t.classes 130 ≡ 0 = past_all 130 (omega arith) in
      by_other s c 130 (omega arith) (ap (λ k. if k == 0 then 130 else position_or_len (λ j. j == k) t.classes) other) (other ∙ sym (past_all c (omega (arith, high)))) (agree_past 130 p c 130 within_130 (omega (arith, high)) (omega arith)))
      (cases_lt c 131)

  end_right : (s : ℕ) → (get_or t.ends s 0 == suc row) ≡ any_takes_empty (left_at (lefts p texts) s)
  end_right s =
      ⊎_elim
      (λ low. beq-is _ _ (below_each (length (lefts p texts)) (end_fits row (lefts p texts) t) ends_fit s low))
      (λ high.
      let few = few_ends in
      ap (λ e. e == suc row) (get_or_past t.ends s 0 (omega (arith, few, high))) ∙ ne_eqb 0 (suc row) (λ (e : 0 ≡ suc row). omega (arith, e)) ∙ sym (ap any_takes_empty (get_or_past (lefts p texts) s [] high)))
      (cases_lt s (length (lefts p texts)))

  run_step : (c : ℕ) (text : List ℕ) (s : ℕ) → ((n : ℕ) → (row_from t (suc n) text ≡ suc row) ↔ SpellsAny (left_at (lefts p texts) n) text) → (e : ℕ) → entry_at t s c ≡ e
      → (row_from t e text ≡ suc row) ↔ SpellsAny (left_at (lefts p texts) s) (c ∷ text)
  run_step c text s later zero is =
      let at = tested_at s c in
      let ok = subst (λ e. entry_ok (left_at (lefts p texts) s) at.0 (left_by (lefts p texts) e) ≡ true) is at.2 in
      (λ h. absurd (let none : 0 ≡ suc row = h in omega (arith, none)), λ h. absurd (entry_none (left_at (lefts p texts) s) c at.0 at.1 ok text h))
  run_step c text s later (suc n) is =
      let at = tested_at s c in
      let ok = subst (λ e. entry_ok (left_at (lefts p texts) s) at.0 (left_by (lefts p texts) e) ≡ true) is at.2 in
      let step = entry_some (left_at (lefts p texts) s) (left_at (lefts p texts) n) c at.0 at.1 ok text in
      let rest = later n in
      (λ h. step.1 (rest.0 h), λ h. rest.1 (step.0 h))

  runs : (text : List ℕ) (s : ℕ) → (row_from t (suc s) text ≡ suc row) ↔ SpellsAny (left_at (lefts p texts) s) text
  runs [] s = (λ h. any_takes_empty-then _ (sym (end_right s) ∙ eq-eqb _ _ h), λ h. eqb-true _ _ (end_right s ∙ any_takes_empty-if _ h))
  runs (c ∷ text) s = run_step c text s (λ n. runs text n) (entry_at t s c) refl

  -- the row's spellings are the pattern's
  pub row_is : (s : List ℕ) → (row_of t s ≡ suc row) ↔ Spells p s
  row_is s = let run = runs s 0 in (λ h. ⊎_elim (λ own. own) (λ none. absurd none) (run.0 h), λ h. run.1 (inl h))

-- ---- all rows

at_most : (n : ℕ) (es : List ℕ) → list_all (λ e. nat_le e n) es ≡ true → (s : ℕ) → get_or es s 0 ≤ n
at_most n [] h s = omega arith
at_most n (e ∷ es) h zero = leb-true e n (and_parts (nat_le e n) _ h).0
at_most n (e ∷ es) h (suc s) = at_most n es (and_parts (nat_le e n) _ h).1 s

row_at_most : (t : Tables) (n : ℕ) → list_all (λ e. nat_le e n) t.ends ≡ true → (s : List ℕ) (e : ℕ) → row_from t e s ≤ n
row_at_most t n h s zero = omega arith
row_at_most t n h [] (suc m) = at_most n t.ends h m
row_at_most t n h (c ∷ s) (suc m) = row_at_most t n h s (entry_at t m c)

module _ (texts : List (List ℕ)) (t : Tables) where
  pub none_past : (row : ℕ) → rows_fit [] row texts t ≡ true → (s : List ℕ) → row_of t s ≤ row
  unfolding rows_fit
  none_past row right s = row_at_most t row right s 1

  pub first_fits : (p : Pattern) (ps : List Pattern) (row : ℕ) → rows_fit (p ∷ ps) row texts t ≡ true → row_fits p row texts t ≡ true
  unfolding rows_fit
  first_fits p ps row right = (and_parts (row_fits p row texts t) _ right).0

  pub rest_fit : (p : Pattern) (ps : List Pattern) (row : ℕ) → rows_fit (p ∷ ps) row texts t ≡ true → rows_fit ps (suc row) texts t ≡ true
  unfolding rows_fit
  rest_fit p ps row right = (and_parts (row_fits p row texts t) _ right).1

  some_row : (ps : List Pattern) (row : ℕ) → rows_fit ps row texts t ≡ true → (s : List ℕ) → row < row_of t s → SpellsAny ps s
  some_row [] row right s past = let few = none_past row right s in absurd (omega (arith, few, past))
  some_row (p ∷ ps) row right s past =
      ⊎_elim
      (λ later. inr (some_row ps (suc row) (rest_fit p ps row right) s later))
      (λ here. inl ((row_is p row texts t (first_fits p ps row right) s).0 (omega (arith, here, past))))
      (cases_lt (suc row) (row_of t s))

  row_some : (ps : List Pattern) (row : ℕ) → rows_fit ps row texts t ≡ true → (s : List ℕ) → SpellsAny ps s → row < row_of t s
  row_some [] row right s h = absurd h
  row_some (p ∷ ps) row right s h =
      ⊎_elim
      (λ own. let is = (row_is p row texts t (first_fits p ps row right) s).1 own in omega (arith, is))
      (λ other. let past = row_some ps (suc row) (rest_fit p ps row right) s other in omega (arith, past))
      h

  pub has_row : (ps : List Pattern) → fits ps texts t ≡ true → (s : List ℕ) → HasRow t s ↔ SpellsAny ps s
  unfolding fits
  has_row ps right s = (some_row ps 0 right s, row_some ps 0 right s)
