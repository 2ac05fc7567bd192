-- The number of the put that stands at a path.
use Rattle.std.proofs.Common.{◌≡◌, ℕ, Bool, true, false, cond, List, [], ◌∷◌, Some, refl, sym, ap, ◌∙◌, subst, inl, inr, ⊎_elim, true≢false}
use Rattle.std.specs.List.{AllByRecursion}
use Rattle.std.specs.Str.{bytes_eq}
use Rattle.std.proofs.lemmas.Slice.Eq.{bytes_eq-Decides}
use Rattle.cq_base.specs.declared.change.Change.{Change}
use Rattle.cq_history.specs.Files.{Source, is_before, files_of, number_at}
use Rattle.cq_history.specs.Standing.{Has, AreInPathOrder, IsLastPut}
use Rattle.cq_history.proofs.Standing.{files_stand}
use Rattle.cq_history.proofs.PathOrder.{below_apart}

pub number_found : (p : List ℕ) (files : List Source) (r : ℕ) → number_at p files ≡ Some r → (f : Source) × Has files f × (f.path ≡ p) × (f.number ≡ r)
number_found p [] r is = absurd (true≢false (sym (cc is)))
number_found p (g ∷ files) r is = by (bytes_eq p g.path) refl is (number_found p files r)
  where
    same_number : Some g.number ≡ Some r → g.number ≡ r
    same_number h = cc h

    by : (b : Bool) → bytes_eq p g.path ≡ b → cond b (Some g.number) (number_at p files) ≡ Some r → (number_at p files ≡ Some r → (f : Source) × Has files f × (f.path ≡ p) × (f.number ≡ r)) → (f : Source) × Has (g ∷ files) f × (f.path ≡ p) × (f.number ≡ r)
    by true e h rest = (g, inl refl, sym ((bytes_eq-Decides p g.path).0 e), same_number h)
    by false e h rest = let (f, has, path, number) = rest h in (f, inr has, path, number)

all_has : (P : Source → Type 0) (files : List Source) (f : Source) → AllByRecursion P files → Has files f → P f
all_has P [] f all has = absurd has
all_has P (g ∷ files) f all has = ⊎_elim (λ same. subst P same all.0) (λ later. all_has P files f all.1 later) has

pub number_of : (files : List Source) (f : Source) → AreInPathOrder files → Has files f → number_at f.path files ≡ Some f.number
number_of [] f order has = absurd has
number_of (g ∷ files) f order has =
    ⊎_elim
    (λ (same : g ≡ f). ap (λ b. cond b (Some g.number) (number_at f.path files)) ((bytes_eq-Decides f.path g.path).1 (ap (λ (x : Source). x.path) (sym same))) ∙ ap (λ (x : Source). Some x.number) same)
    (λ later. ap (λ b. cond b (Some g.number) (number_at f.path files)) (below_apart f.path g.path (all_has (λ (h : Source). is_before g.path h.path ≡ true) files f order.0 later)) ∙ number_of files f order.1 later)
    has

-- ---- the files are those of the last puts

module _ (changes : List Change) where
  pub last_of : (q : List ℕ) (f : Source) → Has (files_of q changes) f → IsLastPut changes q f
  last_of q f has = ((files_stand changes q).each f).0 has

  pub has_of : (q : List ℕ) (f : Source) → IsLastPut changes q f → Has (files_of q changes) f
  has_of q f is = ((files_stand changes q).each f).1 is
