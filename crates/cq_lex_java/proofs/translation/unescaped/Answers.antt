use Rattle.std.proofs.Common.{◌≡◌, false, Ok, List, sym, subst, ◌∙◌}
use Rattle.cq_munch.specs.Lexed.{units_of}
use Rattle.cq_munch.specs.declared.unit.Unit.{Unit}
use Rattle.cq_lex_java.specs.Translation.{translated}
use Rattle.cq_lex_java.proofs.NoEscapes.{untranslated}
use Rattle.cq_lex_java.proofs.translation.unescaped.Goals as goal

pub returns : goal.returns
returns c =
    subst (λ (us : List Unit). Ok us ≡ translated 0 false us) (sym c.requires.own)
    (untranslated false false (units_of c.args.text.now) (sym c.follows_backslash.ensures ∙ c.if-follows_backslash.false))
