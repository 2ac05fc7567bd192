-- What is remembered of a text: units of which none begins a string, and units of which none begins a character constant.
use Rattle.std.specs.Prelude.{ℕ, List}
use Rattle.cq_munch.specs.Once.{NoneBegins}
use Rattle.cq_munch.specs.Pattern.{Pattern}
use Rattle.cq_lex_c.specs.Texts.{string, constant}
use Rattle.cq_lex_c.specs.declared.text.Span.{Span}
use Rattle.cq_lex_c.specs.declared.text.Unclosed.{Unclosed}

abbrev pub NoneIn : Pattern → Span → List ℕ → Type 0
NoneIn p span text = NoneBegins p text span.from span.to

abbrev pub IsTrueOf : Unclosed → List ℕ → Type 0
IsTrueOf unclosed text = NoneIn string unclosed.double text × NoneIn constant unclosed.single text
