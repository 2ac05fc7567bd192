use Rattle.std.proofs.lemmas.Str.{IsUtf8-string_bytes}
use Rattle.cq_request.proofs.member.text_of.Goals as goal

pub returns-in-String-clause-utf8 : goal.returns-in-String-clause-utf8
returns-in-String-clause-utf8 c = rw (c.from_vec.ensures, c.into_bytes.ensures.value) (IsUtf8-string_bytes c.in-String.text)
