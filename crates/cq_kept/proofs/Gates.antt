-- The number of a project's last gate.
use Rattle.std.proofs.Common.{◌≡◌, ◌⊎◌, ◌↔◌, ℕ, ◌+◌, ◌<◌, ◌≤◌, Bool, true, false, cond, List, [], ◌∷◌, ◌++◌, length, Option, Some, None, refl, sym, ap, ◌∙◌, subst, inl, inr, ⊎_elim, length-append, append-nil, arith, true≢false}
use Rattle.std.proofs.lemmas.Bool.{cases_lt}
use Rattle.std.proofs.lemmas.List.{append_assoc}
use Rattle.std.proofs.lemmas.Option.{none-some}
use Rattle.cq_base.specs.declared.change.Change.{Change}
use Rattle.cq_history.specs.Changes.{is_gate_of, change_at, IsNumber}
use Rattle.cq_history.proofs.Numbers.{change_at-append}
use Rattle.cq_history.proofs.Standing.{newest, no_later}
use Rattle.cq_kept.specs.Presence.{gate_from, gate_at}

-- ---- one change more

from_push : (q : List ℕ) (r : ℕ) (was : Option ℕ) (cs : List Change) (c : Change) → gate_from q r was (cs ++ c ∷ []) ≡ cond (is_gate_of q c) (Some (r + length cs)) (gate_from q r was cs)
from_push q r was [] c = ap (λ n. cond (is_gate_of q c) (Some n) was) (let e : r ≡ r + 0 = omega arith in e)
from_push q r was (d ∷ cs) c =
    let now : Option ℕ = cond (is_gate_of q d) (Some r) was in
    from_push q (r + 1) now cs c
    ∙ ap (λ n. cond (is_gate_of q c) (Some n) (gate_from q (r + 1) now cs)) (let e : r + 1 + length cs ≡ r + length (d ∷ cs) = omega arith in e)

pub gate_more : (changes : List Change) (c : Change) (q : List ℕ) → gate_at q (changes ++ c ∷ []) ≡ cond (is_gate_of q c) (Some (length changes + 1)) (gate_at q changes)
gate_more changes c q =
    from_push q 1 None changes c ∙ ap (λ n. cond (is_gate_of q c) (Some n) (gate_at q changes)) (let e : 1 + length changes ≡ length changes + 1 = omega arith in e)

-- ---- which one it is

-- a gate of the project, and no later change is
pub record IsNewestGate (changes : List Change) (q : List ℕ) (r : ℕ) : Type 0 where
  pub change : Change
  pub number : IsNumber changes r
  pub is : change_at changes r ≡ Some change
  pub gate : is_gate_of q change ≡ true
  pub none : (k : ℕ) (d : Change) → r < k → change_at changes k ≡ Some d → is_gate_of q d ≡ true → ⊥

record IsGateNumber (changes : List Change) (q : List ℕ) (o : Option ℕ) : Type 0 where
  some : (r : ℕ) → o ≡ Some r → IsNewestGate changes q r
  none : o ≡ None → (k : ℕ) (d : Change) → 0 < k → change_at changes k ≡ Some d → is_gate_of q d ≡ true → ⊥

module _ (changes : List Change) (c : Change) (q : List ℕ) (o : Option ℕ) (are : IsGateNumber changes q o) where
  many : length (changes ++ c ∷ []) ≡ length changes + 1
  many = length-append changes (c ∷ [])

  some_same : {A : Type 0} (a b : A) → Some a ≡ Some b → a ≡ b
  some_same a b h = cc h

  -- a change of the longer list is one of the shorter, or the newest
  either : (k : ℕ) (d : Change) → 0 < k → change_at (changes ++ c ∷ []) k ≡ Some d → ((k ≤ length changes) × (change_at changes k ≡ Some d)) ⊎ ((k ≡ length changes + 1) × (c ≡ d))
  either k d some is =
      ⊎_elim
      (λ (past : length changes < k).
      ⊎_elim
      (λ (beyond : length changes + 1 < k). absurd (no_later (changes ++ c ∷ []) k d (omega (arith, beyond, many)) is))
      (λ (here : k ≤ length changes + 1).
      let at : k ≡ length changes + 1 = omega (arith, past, here) in
      inr (at, some_same c d (sym (newest changes c k at) ∙ is)))
      (cases_lt (length changes + 1) k))
      (λ (within : k ≤ length changes). inl (within, sym (change_at-append changes (c ∷ []) k (some, within)) ∙ is))
      (cases_lt (length changes) k)

  step : (b : Bool) → is_gate_of q c ≡ b → IsGateNumber (changes ++ c ∷ []) q (cond b (Some (length changes + 1)) o)
  step true is = record {
    some = λ r e.
        let at : length changes + 1 ≡ r = some_same (length changes + 1) r e in
        record {
          change = c;
          number = (omega (arith, at), omega (arith, at, many));
          is = newest changes c r (sym at);
          gate = is;
          none = λ k d behind next gate. no_later (changes ++ c ∷ []) k d (omega (arith, behind, at, many)) next;
        };
    none = λ e. absurd (none-some (length changes + 1) (sym e));
  }
  step false is = record {
    some = λ r e.
        let was = are.some r e in
        record {
          change = was.change;
          number = (was.number.0, omega (arith, was.number.1, many));
          is = change_at-append changes (c ∷ []) r was.number ∙ was.is;
          gate = was.gate;
          none = λ k d behind next gate.
              ⊎_elim (λ (within, at). was.none k d behind at gate) (λ (here, same). true≢false (sym gate ∙ ap (is_gate_of q) (sym same) ∙ is)) (either k d (omega (arith, behind)) next);
        };
    none = λ e k d some next gate.
        ⊎_elim (λ (within, at). are.none e k d some at gate) (λ (here, same). true≢false (sym gate ∙ ap (is_gate_of q) (sym same) ∙ is)) (either k d some next);
  }

gates_from : (q : List ℕ) (cs before : List Change) (n : ℕ) (o : Option ℕ) → n ≡ length before + 1 → IsGateNumber before q o → IsGateNumber (before ++ cs) q (gate_from q n o cs)
gates_from q [] before n o at are = subst (λ xs. IsGateNumber xs q o) (sym (append-nil before)) are
gates_from q (c ∷ cs) before n o at are =
    let now : Option ℕ = cond (is_gate_of q c) (Some n) o in
    let more : IsGateNumber (before ++ c ∷ []) q now = subst (λ m. IsGateNumber (before ++ c ∷ []) q (cond (is_gate_of q c) (Some m) o)) (sym at) (step before c q o are (is_gate_of q c) refl) in
    subst (λ xs. IsGateNumber xs q (gate_from q (n + 1) now cs)) (append_assoc before (c ∷ []) cs)
    (gates_from q cs (before ++ c ∷ []) (n + 1) now (omega (arith, at, length-append before (c ∷ []))) more)

gate_number : (changes : List Change) (q : List ℕ) → IsGateNumber changes q (gate_at q changes)
gate_number changes q = gates_from q changes [] 1 None refl (record {
  some = λ r e. absurd (none-some r e);
  none = λ e k d some is gate. no_later [] k d some is;
})

pub gate_is : (changes : List Change) (q : List ℕ) (r : ℕ) → (gate_at q changes ≡ Some r) ↔ IsNewestGate changes q r
gate_is changes q r = ((gate_number changes q).some r, λ g. by g (gate_at q changes) refl)
  where
    by : IsNewestGate changes q r → (o : Option ℕ) → gate_at q changes ≡ o → gate_at q changes ≡ Some r
    by g None is = absurd ((gate_number changes q).none is r g.change g.number.0 g.is g.gate)
    by g (Some n) is =
        let found = (gate_number changes q).some n is in
        ⊎_elim
        (λ (lt : n < r). absurd (found.none r g.change lt g.is g.gate))
        (λ (ge : r ≤ n).
        ⊎_elim (λ (lt : r < n). absurd (g.none n found.change lt found.is found.gate)) (λ (le : n ≤ r). is ∙ ap (λ m. Some m) (let e : n ≡ r = omega (arith, le, ge) in e)) (cases_lt r n))
        (cases_lt n r)
