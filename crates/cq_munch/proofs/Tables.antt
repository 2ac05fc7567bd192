-- A scan by a table: its entries are tested at one character of each class, by computing.
use Rattle.std.proofs.Common.{◌≡◌, ℕ, zero, suc, ◌<◌, ◌≤◌, Some, None, Bool, true, false, cond, ◌||◌, nat_le, List, [], ◌∷◌, ◌++◌, ◌↔◌, ⊎_elim, refl, sym, ap, subst, ◌∙◌, arith}
use Rattle.std.proofs.lemmas.Bool.{ltb-true, lt-leb, cases_lt, and_parts, and_from, and_right}
use Rattle.cq_munch.specs.Pattern.{Range, in_range, in_ranges, Pattern, never, empty, among, except, ◌▸◌, ◌∣◌, many}
use Rattle.cq_munch.specs.Behind.{takes_empty, SpellsAny, joined, joined_each, behind, behind_each, has, distinct, after, agree, agree_each, entry_ok, ranges_below, all_below, each_below}
use Rattle.cq_munch.proofs.Steps.{beq-same, covers-spells, behind_each-if, behind_each-then, agree-behind_each}

pub below_each : (n : ℕ) (test : ℕ → Bool) → each_below n test ≡ true → (c : ℕ) → c < n → test c ≡ true
below_each zero test h c l = absurd (omega arith)
below_each (suc n) test h c l =
    let both = and_parts _ _ h in
    ⊎_elim (λ less. below_each n test both.1 c less) (λ last. let is : c ≡ n = omega arith in ap test is ∙ both.0) (cases_lt c n)

-- what agrees goes on agreeing
module _ (c d : ℕ) where
  agree-joined : (p q : Pattern) → agree c d p ≡ true → agree c d q ≡ true → agree c d (joined p q) ≡ true
  agree-joined never q h k = and_from _ _ h k
  agree-joined empty q h k = k
  agree-joined (among rs) q h k = and_from _ _ h k
  agree-joined (except rs) q h k = and_from _ _ h k
  agree-joined (a ▸ b) q h k = and_from _ _ h k
  agree-joined (a ∣ b) q h k = and_from _ _ h k
  agree-joined (many a) q h k = and_from _ _ h k

  agree-joined_each : (ps : List Pattern) (q : Pattern) → agree_each c d ps ≡ true → agree c d q ≡ true → agree_each c d (joined_each ps q) ≡ true
  agree-joined_each [] q h k = refl
  agree-joined_each (p ∷ ps) q h k =
      let both = and_parts _ _ h in and_from _ _ (agree-joined p q both.0 k) (agree-joined_each ps q both.1 k)

  agree-append : (ps qs : List Pattern) → agree_each c d ps ≡ true → agree_each c d qs ≡ true → agree_each c d (ps ++ qs) ≡ true
  agree-append [] qs h k = k
  agree-append (p ∷ ps) qs h k = let both = and_parts _ _ h in and_from _ _ both.0 (agree-append ps qs both.1 k)

  agree-not_chosen : (v : Bool) (ps : List Pattern) → agree_each c d ps ≡ true → agree_each c d (cond v [] ps) ≡ true
  agree-not_chosen true ps h = refl
  agree-not_chosen false ps h = h

  agree-chosen : (v : Bool) (ps : List Pattern) → agree_each c d ps ≡ true → agree_each c d (cond v ps []) ≡ true
  agree-chosen true ps h = h
  agree-chosen false ps h = refl

  agree-rest : (x : ℕ) (p : Pattern) → agree c d p ≡ true → agree_each c d (behind x p) ≡ true
  agree-rest x never h = refl
  agree-rest x empty h = refl
  agree-rest x (among rs) h = agree-chosen (in_ranges rs x) (empty ∷ []) refl
  agree-rest x (except rs) h = agree-not_chosen (in_ranges rs x) (empty ∷ []) refl
  agree-rest x (p ▸ q) h =
      let both = and_parts _ _ h in
      agree-append (joined_each (behind x p) q) _ (agree-joined_each (behind x p) q (agree-rest x p both.0) both.1) (agree-chosen (takes_empty p) (behind x q) (agree-rest x q both.1))
  agree-rest x (p ∣ q) h =
      let both = and_parts _ _ h in agree-append (behind x p) _ (agree-rest x p both.0) (agree-rest x q both.1)
  agree-rest x (many p) h = agree-joined_each (behind x p) (many p) (agree-rest x p h) h

  agree-rest_each : (x : ℕ) (ps : List Pattern) → agree_each c d ps ≡ true → agree_each c d (behind_each x ps) ≡ true
  agree-rest_each x [] h = refl
  agree-rest_each x (p ∷ ps) h =
      let both = and_parts _ _ h in agree-append (behind x p) _ (agree-rest x p both.0) (agree-rest_each x ps both.1)

  agree-pick : (v : Bool) (p : Pattern) (ps : List Pattern) → agree c d p ≡ true → agree_each c d ps ≡ true → agree_each c d (cond v ps (p ∷ ps)) ≡ true
  agree-pick true p ps h k = k
  agree-pick false p ps h k = and_from _ _ h k

  agree-distinct : (ps : List Pattern) → agree_each c d ps ≡ true → agree_each c d (distinct ps) ≡ true
  agree-distinct [] h = refl
  agree-distinct (p ∷ ps) h =
      let both = and_parts _ _ h in agree-pick (has (distinct ps) p) p (distinct ps) both.0 (agree-distinct ps both.1)

  pub agree-after : (w : List ℕ) (ps : List Pattern) → agree_each c d ps ≡ true → agree_each c d (after w ps) ≡ true
  agree-after [] ps h = h
  agree-after (x ∷ w) ps h = agree-after w (distinct (behind_each x ps)) (agree-distinct (behind_each x ps) (agree-rest_each x ps h))

-- a character that the entry was tested for, or one that agrees with it
pub entry_none : (ps : List Pattern) (c d : ℕ) → agree_each c d ps ≡ true → entry_ok ps d None ≡ true → (s : List ℕ) → SpellsAny ps (c ∷ s) → ⊥
entry_none ps c d same ok s h =
    covers-spells (behind_each d ps) [] ok s (subst (λ v. SpellsAny v s) (agree-behind_each c d ps same) (behind_each-if ps c s h))

pub entry_some : (ps qs : List Pattern) (c d : ℕ) → agree_each c d ps ≡ true → entry_ok ps d (Some qs) ≡ true → (s : List ℕ) → SpellsAny ps (c ∷ s) ↔ SpellsAny qs s
entry_some ps qs c d same ok s =
    let both = and_parts _ _ ok in
    let is = agree-behind_each c d ps same in (
      λ h. covers-spells (behind_each d ps) qs both.0 s (subst (λ v. SpellsAny v s) is (behind_each-if ps c s h)),
      λ h. behind_each-then ps c s (subst (λ v. SpellsAny v s) (sym is) (covers-spells qs (behind_each d ps) both.1 s h)),
    )

-- characters from n on are in no class of a pattern whose ranges all end before n
range_past : (n : ℕ) (r : Range) (c : ℕ) → r.1 < n → n ≤ c → in_range r c ≡ false
range_past n r c h k = and_right (nat_le r.0 c) (nat_le c r.1) (lt-leb c r.1 (omega (arith, h, k)))

in_ranges_past : (n : ℕ) (rs : List Range) (c : ℕ) → ranges_below n rs ≡ true → n ≤ c → in_ranges rs c ≡ false
in_ranges_past n [] c h k = refl
in_ranges_past n (r ∷ rs) c h k =
    let both = and_parts _ _ h in
    ap (λ v. v || in_ranges rs c) (range_past n r c (ltb-true r.1 n both.0) k) ∙ in_ranges_past n rs c both.1 k

pub agree_past : (n : ℕ) (p : Pattern) (c d : ℕ) → all_below n p ≡ true → n ≤ c → n ≤ d → agree c d p ≡ true
agree_past n never c d h k l = refl
agree_past n empty c d h k l = refl
agree_past n (among rs) c d h k l = beq-same _ _ (in_ranges_past n rs c h k ∙ sym (in_ranges_past n rs d h l))
agree_past n (except rs) c d h k l = beq-same _ _ (in_ranges_past n rs c h k ∙ sym (in_ranges_past n rs d h l))
agree_past n (p ▸ q) c d h k l =
    let both = and_parts _ _ h in and_from _ _ (agree_past n p c d both.0 k l) (agree_past n q c d both.1 k l)
agree_past n (p ∣ q) c d h k l =
    let both = and_parts _ _ h in and_from _ _ (agree_past n p c d both.0 k l) (agree_past n q c d both.1 k l)
agree_past n (many p) c d h k l = agree_past n p c d h k l
