-- The path that bytes are.
use Rattle.std.specs.Prelude.{ℕ, List, if◌then◌else◌, Option, Some, None}
use Rattle.cq_names.specs.Names.{is_path}

-- the path that bytes are, if they are one
abbrev pub path_in : List ℕ → Option (List ℕ)
path_in bytes = if is_path bytes then Some bytes else None
