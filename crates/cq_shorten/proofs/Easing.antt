-- What is left at a number after a closure was called at each entry and kept that of the number.
use Rattle.std.proofs.Common.{◌≡◌, ◌↔◌, ℕ, Bool, true, false, cond, List, [], ◌∷◌, nat_eq, Option, Some, sym, ap, ap₂, ◌∙◌, subst}
use Rattle.std.specs.BTreeMap.{is_at}
use Rattle.std.specs.Cmp.{unsigned_tied}
use Rattle.std.specs.Map.{lookup}
use Rattle.std.specs.Map.Calls.{RetainsPairs}
use Rattle.std.specs.Ordering.{nat_cmp}
use Rattle.std.proofs.lemmas.Bool.{eqb-true, false≢true, false_from_ne_true}

module _ {F X : Type 0} (T : F → ℕ → X → Bool → X → F → Type 0) (P : ℕ → Type 0) (number : ℕ) (held : P number) where
  entry_left : (k : ℕ) (v w : X) (b : Bool) (es rest : List (ℕ × X)) → w ≡ v → (k ≡ number → b ≡ true) → lookup (is_at (nat_cmp number)) rest ≡ lookup (is_at (nat_cmp number)) es
      → lookup (is_at (nat_cmp number)) (cond b ((k, w) ∷ rest) rest) ≡ lookup (is_at (nat_cmp number)) ((k, v) ∷ es)
  entry_left k v w true es rest same found later = ap₂ (λ (x : X) (o : Option X). cond (is_at (nat_cmp number) k) (Some x) o) same later
  entry_left k v w false es rest same found later =
      later
      ∙ ap (λ (t : Bool). cond t (Some v) (lookup (is_at (nat_cmp number)) es)) (sym (unsigned_tied number k ∙ false_from_ne_true (nat_eq number k) (λ e. false≢true (found (sym (eqb-true number k e))))))

  pub left_at : (f : F) → ((k : ℕ) (v : X) (b : Bool) (w : X) (t : F) → T f k v b w t → ((b ≡ true) ↔ P k) × (w ≡ v) × (t ≡ f)) → (es kept : List (ℕ × X)) → RetainsPairs T f es kept
      → lookup (is_at (nat_cmp number)) kept ≡ lookup (is_at (nat_cmp number)) es
  left_at f one [] kept none = ap (lookup (is_at (nat_cmp number))) none
  left_at f one (e ∷ es) kept (b, w, t, rest, called, more, is) =
      let it = one e.0 e.1 b w t called in
      ap (lookup (is_at (nat_cmp number))) is
      ∙ entry_left e.0 e.1 w b es rest it.1 (λ here. it.0.1 (subst P (sym here) held)) (left_at f one es rest (subst (λ (g : F). RetainsPairs T g es rest) it.2 more))
