use Rattle.std.proofs.Common.{List, ℕ, Option, sym, subst}
use Rattle.std.specs.Prelude.{IfSome}
use Rattle.std.specs.Str.{IsUtf8}
use Rattle.std.proofs.lemmas.Result.{on_ok_weaker}
use Rattle.cq_reply.proofs.Adding.{same_value}
use Rattle.cq_reply.proofs.Refusing.{named_is, counted_is, plain_is}
use Rattle.cq_reply.proofs.refusal.write_refused.Goals as goal

pub write_named-requires : goal.write_named-requires
write_named-requires c = subst (λ (o : Option (List ℕ)). IfSome o IsUtf8) (sym c.in-Some.ensures) c.requires

pub returns-in-Some : goal.returns-in-Some
returns-in-Some c =
    on_ok_weaker c.write_named.result (λ v. same_value (named_is c.args.why.now _ c.in-Some.ensures c.code-code.ensures c.word-word.ensures) v) c.write_named.ensures

pub returns-in-Some-count : goal.returns-in-Some-count
returns-in-Some-count c =
    on_ok_weaker c.write_counted.result (λ v. same_value (counted_is c.args.why.now _ c.in-None.ensures c.in-Some-count.ensures c.code-code.ensures c.word-word.ensures) v) c.write_counted.ensures

pub returns-in-None-count : goal.returns-in-None-count
returns-in-None-count c =
    on_ok_weaker c.write_refusal.result (λ v. same_value (plain_is c.args.why.now c.in-None.ensures c.in-None-count.ensures c.code-code.ensures c.word-word.ensures) v) c.write_refusal.ensures
