use Rattle.std.proofs.Common.{◌≡◌, false, List, sym, subst, ◌∙◌}
use Rattle.cq_munch.specs.Lexed.{units_of}
use Rattle.cq_munch.specs.declared.unit.Unit.{Unit}
use Rattle.cq_lex_c.specs.Splices.{spliced}
use Rattle.cq_lex_c.proofs.NoSplices.{none_spliced}
use Rattle.cq_lex_c.proofs.splice.unspliced.Goals as goal

pub returns : goal.returns
returns c =
    subst (λ (us : List Unit). us ≡ spliced 0 us) (sym c.requires.own)
    (none_spliced false (units_of c.args.text.now)
    (sym c.follows_backslash-feeds.ensures ∙ c.if-feeds.false) (sym c.follows_backslash-returns.ensures ∙ c.if-returns.false))
