-- What each change that a request brings has.
use Rattle.std.specs.Prelude.{◌≤◌, length}
use Rattle.std.specs.Str.{IsUtf8}
use Rattle.cq_base.specs.declared.change.Change.{Change}
use Rattle.cq_base.specs.declared.change.Change.TheVariants.{Put, Drop, Gate}

-- its texts are UTF-8, the text of a file has at most 1,048,576 bytes, and a gate at most 32 conditions
abbrev pub IsSoundChange : Change → Type 0
IsSoundChange (Put project path lang text) = IsUtf8 project × IsUtf8 path × IsUtf8 text × (length text ≤ 1048576)
IsSoundChange (Drop project path) = IsUtf8 project × IsUtf8 path
IsSoundChange (Gate project conditions) = IsUtf8 project × (length conditions ≤ 32)
