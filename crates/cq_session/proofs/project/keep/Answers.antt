use Rattle.std.proofs.Common.{rules, nat_eq}
use Rattle.std.specs.List.{list_any}
use Rattle.std.proofs.lemmas.Fn.{filter_same}
use Rattle.cq_projects.specs.Spotted.{numbers_of}
use Rattle.cq_session.proofs.project.keep.Goals as goal

pub returns : goal.returns
returns g c = filter_same _ (λ e. list_any (nat_eq e.change) (numbers_of c.args.files.now)) _ (λ e b h t. search rules) _ _ c.retain.ensures.filtered
