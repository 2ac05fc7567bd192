use Rattle.std.proofs.Common.{rules, ◌≡◌, true, false, is_some, refl}
use Rattle.json.specs.Reads.{token_of}
use Rattle.cq_request.specs.Valued.{leaf_of}
use Rattle.cq_request.proofs.Forms.{begins_value, leaf_passed, nothing_begins}
use Rattle.cq_request.proofs.skipping.pass_rest.Goals as goal

pub returns-in-String-clause-passed : goal.returns-in-String-clause-passed
returns-in-String-clause-passed c =
    let leaf : is_some (leaf_of (token_of c.args.first)) ≡ true = search rules in
    leaf_passed c.args.depth (token_of c.args.first) c.args.reader.now leaf

pub returns-in-EndObject-clause-refused : goal.returns-in-EndObject-clause-refused
returns-in-EndObject-clause-refused c =
    let none : begins_value (token_of c.args.first) ≡ false = search rules in
    (refl, nothing_begins c.args.depth (token_of c.args.first) c.args.reader.now none)
