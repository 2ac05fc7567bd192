-- What follows from an answer.
use Rattle.std.proofs.Common.{◌≡◌, sym, subst}
use Rattle.std.specs.Prelude.{Option, Some, None, Result, Ok, Err, IfOk, IfSome, OnOk, OnErr}

pub on_err : {T E P : Type 0} (r : Result T E) → P → OnErr r P
on_err (Ok x) p = tt
on_err (Err e) p = p

-- what an answer says of its value, and what it says at all
pub both_ok : {T E : Type 0} (r : Result T E) (P S : T → Type 0) (Q : Type 0) → ((x : T) → P x → Q → S x) → IfOk r P → OnOk r Q → IfOk r S
both_ok (Ok x) P S Q to p q = to x p q
both_ok (Err e) P S Q to p q = tt

-- the same answer, handed on
pub ok_same : {T E : Type 0} (r s : Result T E) (P : T → Type 0) → s ≡ r → IfOk r P → IfOk s P
ok_same r s P same is = subst (λ x. IfOk x P) (sym same) is

-- if there is one, it has this too
pub some_weaker : {T : Type 0} (o : Option T) (P Q : T → Type 0) → ((x : T) → P x → Q x) → IfSome o P → IfSome o Q
some_weaker (Some x) P Q to p = to x p
some_weaker None P Q to p = tt
