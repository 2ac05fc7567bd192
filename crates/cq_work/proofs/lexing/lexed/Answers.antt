use Rattle.std.proofs.Common.{◌+◌, ◌*◌, ◌≤◌, length}
use Rattle.std.proofs.lemmas.Result.{IfOk-weaker}
use Rattle.cq_munch.specs.declared.munching.Lexed.{Lexed}
use Rattle.cq_work.specs.Lexing.{LexesTo, tokens_in, spelled_bytes}
use Rattle.cq_work.proofs.Spellings.{lexes-short}
use Rattle.cq_work.proofs.lexing.lexed.Goals as goal

pub returns-clause-short : goal.returns-clause-short
returns-clause-short c =
    IfOk-weaker c.lexed_by.result (LexesTo c.args.lang c.args.text.now) (λ (a : Lexed). spelled_bytes (tokens_in a) ≤ 4 * length c.args.text.now + 262144)
    (λ a is. lexes-short c.args.lang c.args.text.now a c.requires.utf8 is) c.lexed_by.ensures.lexes
