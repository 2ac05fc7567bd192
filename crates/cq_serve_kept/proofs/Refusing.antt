-- What the lock of a log answers, by the cases of the answer.
use Rattle.std.proofs.Common.{Option, Some, None, Result, Ok, Err}
use Rattle.std.specs.Prelude.{IfSome, OnOk}
use Rattle.cq_base.specs.declared.change.Change.{Change}
use Rattle.cq_board.specs.declared.answers.Refused.{Refused}
use Rattle.cq_chain.specs.Passes.{BoardPass}
use Rattle.cq_talk.specs.declared.unkept.Unkept.{Unkept}
use Rattle.cq_talk.specs.declared.unkept.Unkept.TheVariants as unkept
use Rattle.cq_keeper.specs.Firsts.{Refuses, SeesMore}
use Rattle.cq_keeper.specs.Kept.{RefusesKept}
use Rattle.cq_shared.specs.declared.shared.Shared.{Shared}

pub if_some : {A : Type 0} (o : Option A) (P Q : A → Type 0) → ((a : A) → P a → Q a) → IfSome o P → IfSome o Q
if_some None P Q to is = tt
if_some (Some a) P Q to is = to a is

pub on_ok : {T E : Type 0} (r : Result T E) (P Q : Type 0) → (P → Q) → OnOk r P → OnOk r Q
on_ok (Ok x) P Q to is = to is
on_ok (Err e) P Q to is = tt

pub whatever : {T E : Type 0} (r : Result T E) (P : Type 0) → P → OnOk r P
whatever (Ok x) P is = is
whatever (Err e) P is = tt

module _ {W R : Type 0} (hub : Shared W R) (p q : BoardPass) (change : Change) where
  pub refused_kept : (Then : Unkept → Type 0) → ((cause : Refused) → Refuses hub p q change cause → Then (unkept.Refused cause)) → (SeesMore hub p q → Then unkept.Broken) → (why : Unkept) → RefusesKept hub p q change why → Then why
  refused_kept Then refuses breaks (unkept.Refused cause) is = refuses cause is
  refused_kept Then refuses breaks unkept.Broken is = breaks is
