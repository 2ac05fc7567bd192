-- One unit more, with the splices left out.
use Rattle.std.proofs.Common.{◌≡◌, ℕ, zero, suc, ◌+◌, ◌-◌, ◌<◌, ◌≤◌, List, [], ◌∷◌, ◌++◌, length, take, drop, refl, sym, ap, subst, ◌∙◌, append_assoc, arith}
use Rattle.std.proofs.lemmas.List.{drop_more, drop_all, append-nil, take_rest}
use Rattle.cq_munch.specs.declared.unit.Unit.{Unit}
use Rattle.cq_munch.specs.Lexed.{unit_at}
use Rattle.cq_lex_c.specs.Splices.{splice_len, kept, spliced}

spliced_skip : (n : ℕ) (u : Unit) (us : List Unit) → 0 < n → spliced n (u ∷ us) ≡ spliced (n - 1) us
unfolding spliced
spliced_skip zero u us h = absurd (omega arith)
spliced_skip (suc n) u us h = let e : n ≡ suc n - 1 = omega arith in ap (λ v. spliced v us) e

pub spliced_keep : (u : Unit) (us : List Unit) → splice_len (u ∷ us) ≡ 0 → spliced 0 (u ∷ us) ≡ u ∷ spliced 0 us
unfolding spliced
spliced_keep u us h = ap (λ n. kept n u (spliced 0 us) (spliced (n - 1) us)) h

by_len : (n : ℕ) (u : Unit) (us : List Unit) → 0 < n → kept n u (spliced 0 us) (spliced (n - 1) us) ≡ spliced (n - 1) us
by_len zero u us h = absurd (omega arith)
by_len (suc n) u us h = refl

spliced_start : (u : Unit) (us : List Unit) → 0 < splice_len (u ∷ us) → spliced 0 (u ∷ us) ≡ spliced (splice_len (u ∷ us) - 1) us
unfolding spliced
spliced_start u us h = by_len (splice_len (u ∷ us)) u us h

module _ (units out : List Unit) (i skip : ℕ) (inside : i < length units) (so_far : out ++ spliced skip (drop i units) ≡ spliced 0 units) where
  cut : drop i units ≡ unit_at units i ∷ drop (i + 1) units
  cut = drop_more units i (record { ch = 0; start = 0; len = 0 }) inside

  pub skipped : 0 < skip → out ++ spliced (skip - 1) (drop (i + 1) units) ≡ spliced 0 units
  skipped h = ap (λ v. out ++ v) (sym (ap (spliced skip) cut ∙ spliced_skip skip _ _ h)) ∙ so_far

  module _ (len : ℕ) (none : skip ≡ 0) (len_is : len ≡ splice_len (take (length units - i) (drop i units))) where
    there : splice_len (unit_at units i ∷ drop (i + 1) units) ≡ len
    there = ap splice_len (sym cut ∙ sym (take_rest units i)) ∙ sym len_is

    from_here : out ++ spliced 0 (unit_at units i ∷ drop (i + 1) units) ≡ spliced 0 units
    from_here = ap (λ v. out ++ spliced 0 v) (sym cut) ∙ ap (λ v. out ++ spliced v (drop i units)) (sym none) ∙ so_far

    pub pushed : len ≡ 0 → (more : List Unit) → more ≡ out ++ unit_at units i ∷ [] → more ++ spliced skip (drop (i + 1) units) ≡ spliced 0 units
    pushed h more is =
        ap (λ v. v ++ spliced skip (drop (i + 1) units)) is ∙ append_assoc out (unit_at units i ∷ []) (spliced skip (drop (i + 1) units))
        ∙ ap (λ v. out ++ unit_at units i ∷ spliced v (drop (i + 1) units)) none
        ∙ ap (λ v. out ++ v) (sym (spliced_keep (unit_at units i) (drop (i + 1) units) (there ∙ h))) ∙ from_here

    pub started : 0 < len → out ++ spliced (len - 1) (drop (i + 1) units) ≡ spliced 0 units
    started h =
        ap (λ v. out ++ spliced (v - 1) (drop (i + 1) units)) (sym there)
        ∙ ap (λ v. out ++ v) (sym (spliced_start (unit_at units i) (drop (i + 1) units) (subst (λ v. 0 < v) (sym there) h))) ∙ from_here

pub spliced_all : (units out : List Unit) (i skip : ℕ) → length units ≤ i → out ++ spliced skip (drop i units) ≡ spliced 0 units → out ≡ spliced 0 units
unfolding spliced
spliced_all units out i skip end so_far =
    sym (append-nil out) ∙ ap (λ v. out ++ v) (sym (ap (spliced skip) (drop_all i units end))) ∙ so_far
