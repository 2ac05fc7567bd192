use Rattle.std.proofs.Common.{Global, List, length, map, sym, ap, subst, arith}
use Rattle.std.specs.Arc.{arc_value}
use Rattle.std.specs.declared.sync.Arc.{Arc}
use Rattle.cq_history.specs.Files.{File}
use Rattle.cq_projects.specs.Spotted.{AreApartIn}
use Rattle.cq_projects.proofs.project_files.ProjectFiles.guessed.Goals as goal

pub spots_of-requires-clause-few : goal.spots_of-requires-clause-few
spots_of-requires-clause-few g c = omega (arith, ap length c.deref.ensures.value, c.if-len.false, c.len.ensures, c.args.items.ok.0)

pub spots_of-requires-clause-apart : goal.spots_of-requires-clause-apart
spots_of-requires-clause-apart g c = subst (λ (hs : List (Arc (File g.row.W.Denot) Global)). AreApartIn (map arc_value hs)) (sym c.deref.ensures.value) c.requires.apart
