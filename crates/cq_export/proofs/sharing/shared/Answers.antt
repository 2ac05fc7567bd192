use Rattle.std.proofs.Common.{List, ◌∙◌, sym, subst}
use Rattle.cq_export.proofs.sharing.shared.Goals as goal
use Rattle.cq_history.specs.Files.{File}
use Rattle.cq_projects.specs.Ordered.{AreRising}
use Rattle.cq_projects.specs.Projects.{path_of}
use Rattle.cq_projects.specs.Spotted.{numbers_of, AreApartIn}
use Rattle.cq_tokfile.proofs.Indexing.{spots_apart}

pub gathered-requires-clause-rising : goal.gathered-requires-clause-rising
gathered-requires-clause-rising g c =
    subst (λ (files : List (File g.row.W.Denot)). AreRising path_of files) (sym (c.in_ok-owners.ensures ∙ c.items.ensures.files)) c.items.ensures.rising

pub gathered-requires-clause-apart : goal.gathered-requires-clause-apart
gathered-requires-clause-apart g c =
    subst (λ (files : List (File g.row.W.Denot)). AreApartIn files) (sym (c.in_ok-owners.ensures ∙ c.items.ensures.files)) (spots_apart (numbers_of c.args.files.now) c.spots-apart.result.now c.spots-apart.ensures)
