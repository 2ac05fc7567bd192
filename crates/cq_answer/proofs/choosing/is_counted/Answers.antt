use Rattle.std.proofs.Common.{List, ℕ, Option, sym, ap, ◌∙◌}
use Rattle.cq_scope.specs.Chosen.{is_chosen}
use Rattle.cq_scope.proofs.Positions.{chosen_there}
use Rattle.cq_answer.specs.Works.{work_in}
use Rattle.cq_answer.proofs.choosing.is_counted.Goals as goal

pub returns : goal.returns
returns g c =
    let q = c.args.query.now in
    let here = c.index-files-file.result in
    let scope = c.as_ref.ensures.value ∙ c.in_ok-scope.ensures in
    let is = c.is_chosen.ensures ∙ ap (λ (s : Option (List ℕ)). is_chosen s q.since (work_in here)) scope in
    sym (chosen_there q.scope q.since c.args.files.now c.args.file here c.is_chosen.result c.requires.within c.index-files-file.is is)
