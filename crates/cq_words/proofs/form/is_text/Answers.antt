use Rattle.std.proofs.Common.{sym, subst, List, ℕ}
use Rattle.std.specs.Str.{IsUtf8}
use Rattle.std.proofs.lemmas.Str.{is_utf8-from_IsUtf8}
use Rattle.cq_words.proofs.Lone.{no_text}
use Rattle.cq_words.proofs.form.is_text.Goals as goal

pub returns-in-Ok : goal.returns-in-Ok
returns-in-Ok c = sym (is_utf8-from_IsUtf8 c.args.word.now (subst (λ (w : List ℕ). IsUtf8 w) c.as_bytes.ensures c.in-Ok.ensures.cases.1))

pub returns-in-Err : goal.returns-in-Err
returns-in-Err c = sym (no_text c.args.word.now (subst (λ (w : List ℕ). IsUtf8 w → ⊥) c.as_bytes.ensures c.in-Err.ensures.cases.0))
