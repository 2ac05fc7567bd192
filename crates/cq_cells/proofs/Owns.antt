-- The events of one caller, and counts that are known.
use Rattle.std.proofs.Common.{◌≡◌, ℕ, ◌/◌, ◌≤◌, eq-eqb, ne_eqb, max, cond, Bool, true, false, List, [], ◌∷◌, ◌++◌, length, get_or, refl, ap, sym, ◌∙◌, subst, arith, inl, inr, Option, length-append}
use Rattle.std.proofs.lemmas.List.{append-nil}
use mathlib.Core.Logic.{dite}
use mathlib.Core.List.{IsPrefix}
use native.Mathlib.Decide.{ℕ_discrete}
use Rattle.cq_cells.specs.Callers.{Each, Differ, Among, is_by, own}
use Rattle.cq_cells.specs.Counts.{least_of, Reached}
use Rattle.cq_cells.proofs.Fronts.{prefix_whole}

pub each_map : {A : Type 0} (P Q : A → Type 0) (xs : List A) → ((x : A) → P x → Q x) → Each P xs → Each Q xs
each_map P Q [] f h = tt
each_map P Q (x ∷ xs) f h = (f x h.0, each_map P Q xs f h.1)

pub each_append : {A : Type 0} (P : A → Type 0) (xs ys : List A) → Each P xs → Each P ys → Each P (xs ++ ys)
each_append P [] ys h k = k
each_append P (x ∷ xs) ys h k = (h.0, each_append P xs ys h.1 k)

pub among_left : (c : ℕ) (xs ys : List ℕ) → Among c xs → Among c (xs ++ ys)
among_left c [] ys h = absurd h
among_left c (x ∷ xs) ys (inl e) = inl e
among_left c (x ∷ xs) ys (inr h) = inr (among_left c xs ys h)

pub among_right : (c : ℕ) (xs ys : List ℕ) → Among c ys → Among c (xs ++ ys)
among_right c [] ys h = h
among_right c (x ∷ xs) ys h = inr (among_right c xs ys h)

-- numbers of two owners
pub differ_append : (xs ys : List ℕ) (whose : ℕ → ℕ) (a b : ℕ) → (a ≡ b → ⊥) → Each (λ c. whose c ≡ a) xs → Each (λ c. whose c ≡ b) ys → Differ xs → Differ ys → Differ (xs ++ ys)
differ_append [] ys whose a b apart hx hy dx dy = dy
differ_append (x ∷ xs) ys whose a b apart hx hy dx dy = (
  each_append _ xs ys dx.0 (each_map (λ c. whose c ≡ b) _ ys (λ c e same. apart (sym hx.0 ∙ (ap whose same ∙ e))) hy),
  differ_append xs ys whose a b apart hx.1 hy dx.1 dy,
)

module _ {E : Type 0} (caller : E → Option ℕ) (c : ℕ) where
  pub own_append : (xs ys : List E) → own caller c (xs ++ ys) ≡ own caller c xs ++ own caller c ys
  own_append [] ys = refl
  own_append (x ∷ xs) ys = go (is_by c (caller x)) (own_append xs ys)
    where
      go : (b : Bool) → own caller c (xs ++ ys) ≡ own caller c xs ++ own caller c ys → cond b (x ∷ own caller c (xs ++ ys)) (own caller c (xs ++ ys)) ≡ cond b (x ∷ own caller c xs) (own caller c xs) ++ own caller c ys
      go true e = ap (λ (l : List E). x ∷ l) e
      go false e = e

  one : (e : E) (b : Bool) → (b ≡ true → ⊥) → cond b (e ∷ []) [] ≡ []
  one e true not = absurd (not refl)
  one e false not = refl

  -- an event of no concern
  pub own_less : (xs : List E) (e : E) → (is_by c (caller e) ≡ true → ⊥) → own caller c (xs ++ e ∷ []) ≡ own caller c xs
  own_less xs e not = own_append xs (e ∷ []) ∙ (ap (λ (l : List E). own caller c xs ++ l) (one e (is_by c (caller e)) not) ∙ append-nil (own caller c xs))

  pub own_more : (xs ys more : List E) → own caller c xs ≡ own caller c ys → own caller c (xs ++ more) ≡ own caller c (ys ++ more)
  own_more xs ys more same = own_append xs more ∙ (ap (λ (l : List E). l ++ own caller c more) same ∙ sym (own_append ys more))

  pub own_prefix : (xs ys : List E) → IsPrefix xs ys → IsPrefix (own caller c xs) (own caller c ys)
  own_prefix xs ys p = (own caller c p.0, sym (own_append xs p.0) ∙ ap (own caller c) p.1)

  -- a caller with no event has none in a beginning
  pub own_none : (xs ys : List E) → IsPrefix xs ys → own caller c ys ≡ [] → own caller c ys ≡ own caller c xs
  own_none xs ys p none = let a = own_prefix xs ys p in sym (prefix_whole (own caller c xs) (own caller c ys) a (let n = ap length none in omega arith))

  -- between two histories with the same events of the caller
  pub own_between : (xs ys zs : List E) → IsPrefix xs ys → IsPrefix ys zs → own caller c zs ≡ own caller c xs → own caller c zs ≡ own caller c ys
  own_between xs ys zs p q same =
      let a = own_prefix xs ys p in
      let b = own_prefix ys zs q in
      sym (prefix_whole (own caller c ys) (own caller c zs) b (omega (arith, ap length same, sym (ap length a.1) ∙ length-append (own caller c xs) a.0)))

-- what is known of a cell is true of its word
pub reached_least : (words : List ℕ) (k : ℕ) (known : List (ℕ × ℕ)) → Reached words known → least_of k known ≤ get_or words k 0 / 2
reached_least words k [] h = omega arith
reached_least words k (x ∷ xs) h = let tail = reached_least words k xs h.1 in
    dite (ℕ_discrete k x.0)
    (λ e. let a : x.1 ≤ get_or words k 0 / 2 = subst (λ (j : ℕ). x.1 ≤ get_or words j 0 / 2) (sym e) h.0.1 in
    subst (λ (b : Bool). cond b (max x.1 (least_of k xs)) (least_of k xs) ≤ get_or words k 0 / 2) (sym (eq-eqb k x.0 e)) (omega arith))
    (λ ne. subst (λ (b : Bool). cond b (max x.1 (least_of k xs)) (least_of k xs) ≤ get_or words k 0 / 2) (sym (ne_eqb k x.0 ne)) tail)
