use Rattle.std.proofs.Common.{rules}
use Rattle.std.specs.Ordering.{nat_cmp}
use Rattle.std.specs.Cmp.Lexicographic.{slice_cmp}
use Rattle.std.proofs.lemmas.Fn.{always_returns_same}
use Rattle.std.specs.declared.sync.Arc.{Arc}
use Rattle.std.proofs.Common.{Global}
use Rattle.cq_projects.specs.Projects.{owner_name, ListedProject}
use Rattle.cq_projects.proofs.Searching.{searched-found, searched-gap}
use Rattle.cq_projects.proofs.projects.find_project.Goals as goal

pub returns-clause-found : goal.returns-clause-found
returns-clause-found g c =
    searched-found (owner_name {W = g.row.W.Denot}) c.args.name.now c.args.projects.now c.binary_search_by.result
    (c.binary_search_by.ensures.position (λ (h : Arc (ListedProject g.row.W.Denot) Global). slice_cmp nat_cmp (owner_name h) c.args.name.now) (always_returns_same _ _ _ (λ f r f' called. search rules)))
    c.binary_search_by.ensures.bound c.requires

pub returns-clause-gap : goal.returns-clause-gap
returns-clause-gap g c =
    searched-gap (owner_name {W = g.row.W.Denot}) c.args.name.now c.args.projects.now c.binary_search_by.result
    (c.binary_search_by.ensures.position (λ (h : Arc (ListedProject g.row.W.Denot) Global). slice_cmp nat_cmp (owner_name h) c.args.name.now) (always_returns_same _ _ _ (λ f r f' called. search rules)))
    c.binary_search_by.ensures.bound c.requires
