use Rattle.cq_history.specs.Files.{File}
use Rattle.std.proofs.Common.{Global, rules}
use Rattle.std.specs.Ordering.{nat_cmp}
use Rattle.std.specs.Cmp.Lexicographic.{slice_cmp}
use Rattle.std.proofs.lemmas.Fn.{always_returns_same}
use Rattle.std.specs.declared.sync.Arc.{Arc}
use Rattle.cq_projects.specs.Projects.{path_in}
use Rattle.cq_projects.proofs.Searching.{searched-found, searched-gap}
use Rattle.cq_projects.proofs.files.find.Goals as goal

pub returns-clause-found : goal.returns-clause-found
returns-clause-found g c =
    searched-found (path_in {W = g.row.W.Denot}) c.args.path.now c.args.files.now c.binary_search_by.result
    (c.binary_search_by.ensures.position (λ (h : Arc (File g.row.W.Denot) Global). slice_cmp nat_cmp (path_in h) c.args.path.now) (always_returns_same _ _ _ (λ f r f' called. search rules)))
    c.binary_search_by.ensures.bound c.requires

pub returns-clause-gap : goal.returns-clause-gap
returns-clause-gap g c =
    searched-gap (path_in {W = g.row.W.Denot}) c.args.path.now c.args.files.now c.binary_search_by.result
    (c.binary_search_by.ensures.position (λ (h : Arc (File g.row.W.Denot) Global). slice_cmp nat_cmp (path_in h) c.args.path.now) (always_returns_same _ _ _ (λ f r f' called. search rules)))
    c.binary_search_by.ensures.bound c.requires
