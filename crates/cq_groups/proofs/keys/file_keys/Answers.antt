use Rattle.std.proofs.Common.{sym, ◌∙◌}
use Rattle.cq_tokens.specs.Parts.{keys_in}
use Rattle.cq_groups.proofs.KeyLists.{keys_of_file}
use Rattle.cq_groups.proofs.keys.file_keys.Goals as goal

pub returns : goal.returns
returns g c =
    keys_of_file (keys_in c.args.corpus.now) c.args.file c.in_ok-keys.keys.items c.different.result.items
    (sym (c.in_ok-keys.ensures.items ∙ c.keys.ensures.keys)) c.different.ensures
