use Rattle.std.proofs.Common.{None, Some, subst}
use Rattle.cq_munch.specs.Characters.{characters}
use Rattle.cq_munch.specs.Longest.{LongestAt}
use Rattle.cq_munch.specs.Once.{NoneBegins}
use Rattle.cq_munch.specs.Pattern.{Spells}
use Rattle.cq_munch.proofs.Texts.{characters_from}
use Rattle.cq_lex_c.proofs.Fitting.{none_behind}
use Rattle.cq_lex_c.proofs.text.once_at.Goals as goal

pub returns-in-Ok-clause-text : goal.returns-in-Ok-clause-text
returns-in-Ok-clause-text c = λ p texts right none.
    subst (λ t. LongestAt (Spells p) t (Some c.in-Ok.len)) (characters_from c.args.units.now c.args.at) (c.in-Ok.ensures.found p texts right)

pub returns-in-Err-clause-text : goal.returns-in-Err-clause-text
returns-in-Err-clause-text c = λ p texts right none.
    subst (λ t. LongestAt (Spells p) t None) (characters_from c.args.units.now c.args.at) (c.in-Err.ensures.none p texts right).0

pub returns-in-Err-clause-known : goal.returns-in-Err-clause-known
returns-in-Err-clause-known c = λ p texts right none.
    none_behind p (characters c.args.units.now) c.args.at c.in-Err.read
    (subst (λ t. NoneBegins p t 0 c.in-Err.read) (characters_from c.args.units.now c.args.at) (c.in-Err.ensures.none p texts right).1)
