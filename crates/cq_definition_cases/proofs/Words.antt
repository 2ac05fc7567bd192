-- Arguments that ask for nothing, or for something else.
use Rattle.std.specs.Prelude.{◌≡◌, true, [], ◌∷◌, is_some, codes}
use Rattle.cq_definition_cases.proofs.Different.{is_false}
use Rattle.cq_words.specs.Command.{command_of, connections_of}
use Rattle.cq_words.specs.Grammar.{items_from}

pub run_has_no_connections : is_some (connections_of (codes "run" ∷ [])) ≡ true → ⊥
unfolding items_from
run_has_no_connections e = is_false e

pub listen_needs_an_address : is_some (command_of (codes "listen" ∷ [])) ≡ true → ⊥
unfolding items_from
listen_needs_an_address e = is_false e
