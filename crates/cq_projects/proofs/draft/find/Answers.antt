use Rattle.std.proofs.Common.{rules}
use Rattle.std.specs.Ordering.{nat_cmp}
use Rattle.std.specs.Cmp.Lexicographic.{slice_cmp}
use Rattle.std.proofs.lemmas.Fn.{always_returns_same}
use Rattle.cq_projects.specs.Projects.{name_in, ListedProject}
use Rattle.cq_projects.proofs.Searching.{searched-found, searched-gap}
use Rattle.cq_projects.proofs.draft.find.Goals as goal

pub returns-clause-found : goal.returns-clause-found
returns-clause-found g c =
    searched-found (name_in {W = g.row.W.Denot}) c.args.name.now c.args.drafts.now c.binary_search_by.result
    (c.binary_search_by.ensures.position (λ (d : ListedProject g.row.W.Denot). slice_cmp nat_cmp (name_in d) c.args.name.now) (always_returns_same _ _ _ (λ f r f' called. search rules)))
    c.binary_search_by.ensures.bound c.requires

pub returns-clause-gap : goal.returns-clause-gap
returns-clause-gap g c =
    searched-gap (name_in {W = g.row.W.Denot}) c.args.name.now c.args.drafts.now c.binary_search_by.result
    (c.binary_search_by.ensures.position (λ (d : ListedProject g.row.W.Denot). slice_cmp nat_cmp (name_in d) c.args.name.now) (always_returns_same _ _ _ (λ f r f' called. search rules)))
    c.binary_search_by.ensures.bound c.requires
