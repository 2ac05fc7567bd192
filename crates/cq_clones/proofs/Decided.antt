-- Tokens are equal or not.
use Rattle.std.proofs.Common.{◌≡◌, ◌≢◌, ◌⊎◌, ℕ, List, [], ◌∷◌, length, get_or, drop, refl, ap, ap₂, ◌∙◌, inl, inr, ⊎_elim, arith}
use Rattle.std.proofs.lemmas.Bool.{cases_order}
use Rattle.cq_base.specs.declared.norm.Norm.{Norm}
use Rattle.cq_base.specs.Tables.{lang_code, class_code}
use Rattle.cq_base.proofs.Tables.{one_lang, one_class}

-- each two values are equal or not
abbrev pub AreDecided : Type 0 → Type 0
AreDecided X = (a b : X) → (a ≡ b) ⊎ (a ≢ b)

numbers_decided : AreDecided ℕ
numbers_decided a b = ⊎_elim (λ e. inl e) (λ other. inr (λ e. ⊎_elim (λ lt. omega arith) (λ lt. omega arith) other)) (cases_order a b)

-- those of a table are, by their codes
by_code : {X : Type 0} (code_of : X → ℕ) → ((a b : X) → code_of a ≡ code_of b → a ≡ b) → AreDecided X
by_code code_of one a b = ⊎_elim (λ e. inl (one a b e)) (λ other. inr (λ e. other (ap code_of e))) (numbers_decided (code_of a) (code_of b))

pub lists_decided : (X : Type 0) → AreDecided X → AreDecided (List X)
lists_decided X each [] [] = inl refl
lists_decided X each [] (y ∷ ys) = inr (λ e. let n = ap length e in omega (arith, n))
lists_decided X each (x ∷ xs) [] = inr (λ e. let n = ap length e in omega (arith, n))
lists_decided X each (x ∷ xs) (y ∷ ys) =
    ⊎_elim
    (λ head. ⊎_elim
    (λ tail. inl (ap₂ ◌∷◌ head tail))
    (λ other. inr (λ e. other (ap (drop 1) e)))
    (lists_decided X each xs ys))
    (λ other. inr (λ e. other (ap (λ zs. get_or zs 0 x) e)))
    (each x y)

pub norm_from_fields : (a b : Norm) → a.lang ≡ b.lang → a.class ≡ b.class → a.text ≡ b.text → a ≡ b
norm_from_fields a b lang class text =
    ap₂ (λ l c. let made : Norm = record { lang = l; class = c; text = a.text } in made) lang class
    ∙ ap (λ t. let made : Norm = record { lang = b.lang; class = b.class; text = t } in made) text

pub norms_decided : AreDecided Norm
norms_decided a b =
    ⊎_elim
    (λ lang. ⊎_elim
    (λ class. ⊎_elim
    (λ text. inl (norm_from_fields a b lang class text))
    (λ other. inr (λ e. other (ap (λ n. n.text) e)))
    (lists_decided ℕ numbers_decided a.text b.text))
    (λ other. inr (λ e. other (ap (λ n. n.class) e)))
    (by_code class_code one_class a.class b.class))
    (λ other. inr (λ e. other (ap (λ n. n.lang) e)))
    (by_code lang_code one_lang a.lang b.lang)
