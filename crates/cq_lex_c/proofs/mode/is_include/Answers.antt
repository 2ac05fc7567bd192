use Rattle.std.proofs.Common.{sym, ◌∙◌}
use Rattle.std.specs.Prelude.{codes}
use Rattle.std.specs.Str.{bytes_eq}
use Rattle.std.proofs.lemmas.Bool.Decides.{Decides-like, same_from_decides}
use Rattle.std.proofs.lemmas.Slice.Eq.{bytes_eq-Decides}
use Rattle.cq_munch.specs.Characters.{characters}
use Rattle.cq_lex_c.proofs.mode.is_include.Goals as goal

pub returns : goal.returns
returns c =
    let name = characters c.args.units.now in
    c.is_spelled.ensures
    ∙ same_from_decides (bytes_eq (codes "include") name) (bytes_eq name (codes "include")) (bytes_eq-Decides (codes "include") name) (Decides-like (bytes_eq name (codes "include")) sym sym (bytes_eq-Decides name (codes "include")))
