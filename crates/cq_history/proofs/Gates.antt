-- The conditions of a project, by its last gate.
use Rattle.std.proofs.Common.{◌≡◌, ℕ, zero, suc, ◌+◌, ◌-◌, ◌<◌, ◌≤◌, Bool, true, false, cond, List, [], ◌∷◌, length, slice_get, Some, refl, sym, ap, ◌∙◌, arith}
use Rattle.std.specs.Str.{bytes_eq}
use Rattle.std.proofs.lemmas.Slice.Eq.{bytes_eq-Decides}
use Rattle.cq_base.specs.declared.change.Condition.{Condition}
use Rattle.cq_base.specs.declared.change.Change.{Change}
use Rattle.cq_base.specs.declared.change.Change.TheVariants.{Put, Drop, Gate}
use Rattle.cq_history.specs.Files.{conditions_after, conditions_from, conditions_of}
use Rattle.cq_history.specs.Standing.{AreConditions}

-- none of the changes is a gate of the project
abbrev NoGate : List ℕ → List Change → Type 0
NoGate q changes = (i : ℕ) (given : List Condition) → slice_get changes i ≡ Some (Gate q given) → ⊥

no_gate_here : (q : List ℕ) (old : List Condition) (c : Change) → ((given : List Condition) → c ≡ Gate q given → ⊥) → conditions_after q old c ≡ old
no_gate_here q old (Put project path lang text) other = refl
no_gate_here q old (Drop project path) other = refl
no_gate_here q old (Gate project conditions) other = go (bytes_eq q project) refl
  where
    go : (b : Bool) → bytes_eq q project ≡ b → cond b conditions old ≡ old
    go true e = absurd (other conditions (ap (λ p. Gate p conditions) (sym ((bytes_eq-Decides q project).0 e))))
    go false e = refl

no_gate : (q : List ℕ) (old : List Condition) (cs : List Change) → NoGate q cs → conditions_from q old cs ≡ old
no_gate q old [] other = refl
no_gate q old (c ∷ cs) other =
    no_gate q (conditions_after q old c) cs (λ i given is. other (suc i) given is)
    ∙ no_gate_here q old c (λ given is. other 0 given (ap (λ d. Some d) is))

gate_here : (q : List ℕ) (old given : List Condition) → conditions_after q old (Gate q given) ≡ given
gate_here q old given = ap (λ b. cond b given old) ((bytes_eq-Decides q q).1 refl)

last_gate : (q : List ℕ) (old given : List Condition) (cs : List Change) (i : ℕ) → slice_get cs i ≡ Some (Gate q given) → ((j : ℕ) (later : List Condition) → i < j → slice_get cs j ≡ Some (Gate q later) → ⊥) → conditions_from q old cs ≡ given
last_gate q old given [] zero is last = absurd (cc)
last_gate q old given [] (suc i) is last = absurd (cc)
last_gate q old given (c ∷ cs) zero is last =
    let same : c ≡ Gate q given = cc is in
    no_gate q (conditions_after q old c) cs (λ j later there. last (suc j) later (omega arith) there) ∙ ap (conditions_after q old) same ∙ gate_here q old given
last_gate q old given (c ∷ cs) (suc i) is last =
    last_gate q (conditions_after q old c) given cs i is (λ j later past there. last (suc j) later (omega (arith, past)) there)

pub conditions_are : (changes : List Change) (q : List ℕ) → AreConditions changes q (conditions_of q changes)
conditions_are changes q = record {
  last = λ r given is.
      last_gate q [] given changes (r - 1) is.gate
      (λ j later past there. is.last (j + 1) later (omega (arith, past, is.accepted.0)) (ap (slice_get changes) (let e : j + 1 - 1 ≡ j = omega arith in e) ∙ there));
  none = λ other. no_gate q [] changes (λ i given is. other (i + 1) given (omega arith, within changes i _ is) (ap (slice_get changes) (let e : i + 1 - 1 ≡ i = omega arith in e) ∙ is));
}
  where
    within : (cs : List Change) (i : ℕ) (c : Change) → slice_get cs i ≡ Some c → i + 1 ≤ length cs
    within [] zero c is = absurd (cc)
    within [] (suc i) c is = absurd (cc)
    within (d ∷ cs) zero c is = omega arith
    within (d ∷ cs) (suc i) c is = omega (arith, within cs i c is)
