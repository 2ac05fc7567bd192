-- Two partial equivalences that both fail on a list fail together at some two of its elements.
use Rattle.std.proofs.Common.{◌≡◌, ◌≢◌, ◌⊎◌, ⊎_elim, subst, sym}

-- both relations fail at these two
pub record Fails {X : Type 0} (In : X → Type 0) (E F : X → X → Type 0) : Type 0 where
  pub p : X
  pub q : X
  pub p_in : In p
  pub q_in : In q
  pub different : p ≢ q
  pub left : E p q → ⊥
  pub right : F p q → ⊥

fails : {X : Type 0} (In : X → Type 0) (E F : X → X → Type 0) (p q : X) → In p → In q → p ≢ q → (E p q → ⊥) → (F p q → ⊥) → Fails In E F
fails In E F p q p_in q_in different left right = record { p = p; q = q; p_in = p_in; q_in = q_in; different = different; left = left; right = right }

-- o, x, b and d are elements; o and x differ
pub both_fail : {X : Type 0} (In : X → Type 0) (E F : X → X → Type 0)
    (same : (a b : X) → (a ≡ b) ⊎ (a ≡ b → ⊥))
    (E_sym : (a b : X) → E a b → E b a) (E_trans : (a b c : X) → E a b → E b c → E a c)
    (F_sym : (a b : X) → F a b → F b a) (F_trans : (a b c : X) → F a b → F b c → F a c)
    (o x b d : X) → In o → In x → In b → In d → o ≢ x
    → (E o b → ⊥) → (F o d → ⊥)
    → (F o b) ⊎ (F o b → ⊥) → (E o d) ⊎ (E o d → ⊥)
    → Fails In E F
both_fail {X} In E F same E_sym E_trans F_sym F_trans o x b d o_in x_in b_in d_in ox no_b no_d f e =
    let E_none : b ≡ o → (z : X) → E o z → ⊥ = λ is z h. no_b (subst (E o) (sym is) (E_trans o z o h (E_sym o z h))) in
    let F_none : d ≡ o → (z : X) → F o z → ⊥ = λ is z h. no_d (subst (F o) (sym is) (F_trans o z o h (F_sym o z h))) in
    ⊎_elim
    (λ b_is. ⊎_elim
    (λ d_is. fails In E F o x o_in x_in ox (E_none b_is x) (F_none d_is x))
    (λ d_not. fails In E F o d o_in d_in (λ h. d_not (sym h)) (E_none b_is d) no_d)
    (same d o))
    (λ b_not. ⊎_elim
    (λ d_is. fails In E F o b o_in b_in (λ h. b_not (sym h)) no_b (F_none d_is b))
    (λ d_not. ⊎_elim
    (λ f_ob. ⊎_elim
    (λ e_od. fails In E F b d b_in d_in
    (λ h. no_d (subst (F o) h f_ob))
    (λ e_bd. no_b (E_trans o d b e_od (E_sym b d e_bd)))
    (λ f_bd. no_d (F_trans o b d f_ob f_bd)))
    (λ e_not. fails In E F o d o_in d_in (λ h. d_not (sym h)) e_not no_d)
    e)
    (λ f_not. fails In E F o b o_in b_in (λ h. b_not (sym h)) no_b f_not)
    f)
    (same d o))
    (same b o)
