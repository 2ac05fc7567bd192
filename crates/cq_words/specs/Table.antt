-- What each command takes: its options, flags and positionals, the ranges of their numbers and of an address's bytes, and
-- the form of a project's name.
use Rattle.std.specs.Prelude.{◌&&◌, ℕ, Bool, List, [], ◌∷◌, length, map, nat_le, Option, Some, None, if◌then◌else◌, option_and_then, unwrap_or, codes}
use Rattle.std.specs.Str.{bytes_eq}
use Rattle.cq_names.specs.Names.{is_project}
use Rattle.cq_words.specs.Grammar.{Word, Row, Item, item_of, has_item}
use Rattle.cq_words.specs.Numbers.{number_within}
use Rattle.cq_words.specs.declared.table.Verb.{Verb}
use Rattle.cq_words.specs.declared.table.Verb.TheVariants as verb
use Rattle.cq_words.specs.declared.table.Param.{Param}
use Rattle.cq_words.specs.declared.table.Param.TheVariants as param
use Rattle.cq_words.specs.declared.table.Flag.{Flag}
use Rattle.cq_words.specs.declared.table.Flag.TheVariants as flag
use Rattle.cq_words.specs.declared.table.Range.{Range}

abbrev pub verb_name : Verb → Word
verb_name verb.Run = codes "run"
verb_name verb.Listen = codes "listen"
verb_name verb.Serve = codes "serve"
verb_name verb.Drive = codes "drive"
verb_name verb.Make = codes "make"
verb_name verb.Export = codes "export"
verb_name verb.Ask = codes "ask"
verb_name verb.Shorten = codes "shorten"

-- the command that a word names
abbrev pub verb_named : Word → Option Verb
verb_named word =
    if bytes_eq word (codes "run") then Some verb.Run
    else (if bytes_eq word (codes "listen") then Some verb.Listen
    else (if bytes_eq word (codes "serve") then Some verb.Serve
    else (if bytes_eq word (codes "drive") then Some verb.Drive
    else (if bytes_eq word (codes "make") then Some verb.Make
    else (if bytes_eq word (codes "export") then Some verb.Export
    else (if bytes_eq word (codes "ask") then Some verb.Ask
    else (if bytes_eq word (codes "shorten") then Some verb.Shorten
    else None)))))))

abbrev pub options_of : Verb → List Param
options_of verb.Run = param.Chunk ∷ param.Shards ∷ param.KeyBits ∷ param.ChangeLimit ∷ param.TextLimit ∷ param.ByteLimit ∷ param.Workers ∷ []
options_of verb.Listen =
    param.Chunk ∷ param.Shards ∷ param.KeyBits ∷ param.ChangeLimit ∷ param.TextLimit ∷ param.ByteLimit
    ∷ param.ListenWorkers ∷ param.Sessions ∷ param.Connections ∷ []
options_of verb.Serve =
    param.Chunk ∷ param.Shards ∷ param.KeyBits ∷ param.ChangeLimit ∷ param.TextLimit ∷ param.ByteLimit
    ∷ param.ListenWorkers ∷ param.Sessions ∷ param.Connections ∷ []
options_of verb.Drive = param.Chunk ∷ param.Shards ∷ param.KeyBits ∷ param.ChangeLimit ∷ param.TextLimit ∷ param.ByteLimit ∷ []
options_of verb.Make = []
options_of verb.Export = param.Chunk ∷ param.Shards ∷ param.KeyBits ∷ param.ChangeLimit ∷ param.TextLimit ∷ param.ByteLimit ∷ []
options_of verb.Ask = param.Chunk ∷ param.Shards ∷ param.KeyBits ∷ param.ChangeLimit ∷ param.TextLimit ∷ param.ByteLimit ∷ []
options_of verb.Shorten = param.Chunk ∷ param.Shards ∷ param.KeyBits ∷ param.ChangeLimit ∷ param.TextLimit ∷ param.ByteLimit ∷ []

abbrev pub flags_of : Verb → List Flag
flags_of verb.Run = flag.IgnoreIds ∷ flag.IgnoreLiterals ∷ []
flags_of verb.Listen = flag.IgnoreIds ∷ flag.IgnoreLiterals ∷ []
flags_of verb.Serve = flag.IgnoreIds ∷ flag.IgnoreLiterals ∷ []
flags_of verb.Drive = flag.IgnoreIds ∷ flag.IgnoreLiterals ∷ []
flags_of verb.Make = []
flags_of verb.Export = flag.IgnoreIds ∷ flag.IgnoreLiterals ∷ []
flags_of verb.Ask = flag.IgnoreIds ∷ flag.IgnoreLiterals ∷ []
flags_of verb.Shorten = flag.IgnoreIds ∷ flag.IgnoreLiterals ∷ []

abbrev pub positionals_of : Verb → List Param
positionals_of verb.Run = []
positionals_of verb.Listen = param.Address ∷ []
positionals_of verb.Serve = param.Address ∷ []
positionals_of verb.Drive = []
positionals_of verb.Make = param.Number ∷ param.Files ∷ []
positionals_of verb.Export = param.Project ∷ []
positionals_of verb.Ask = []
positionals_of verb.Shorten = []

abbrev pub param_name : Param → Word
param_name param.Chunk = codes "chunk"
param_name param.Shards = codes "shards"
param_name param.KeyBits = codes "key-bits"
param_name param.ChangeLimit = codes "change-limit"
param_name param.TextLimit = codes "text-limit"
param_name param.ByteLimit = codes "byte-limit"
param_name param.Workers = codes "workers"
param_name param.ListenWorkers = codes "workers"
param_name param.Sessions = codes "sessions"
param_name param.Connections = codes "connections"
param_name param.Address = codes "address"
param_name param.Project = codes "project"
param_name param.Number = codes "number"
param_name param.Files = codes "files"

abbrev pub flag_name : Flag → Word
flag_name flag.IgnoreIds = codes "ignore-ids"
flag_name flag.IgnoreLiterals = codes "ignore-literals"

-- an option is optional, and then has its default; a positional is required
abbrev pub option_range : ℕ → ℕ → ℕ → Range
option_range low high otherwise = record { low = low; high = high; otherwise = Some otherwise }

abbrev pub positional_range : ℕ → ℕ → Range
positional_range low high = record { low = low; high = high; otherwise = None }

abbrev pub range_of : Param → Range
range_of param.Chunk = option_range 1 1000 20
range_of param.Shards = option_range 1 64 16
range_of param.KeyBits = option_range 0 64 64
range_of param.ChangeLimit = option_range 1 262144 262144
range_of param.TextLimit = option_range 1 67108864 33554432
range_of param.ByteLimit = option_range 1 1152921504606846976 1152921504606846976
range_of param.Workers = option_range 0 64 0
range_of param.ListenWorkers = option_range 0 64 4
range_of param.Sessions = option_range 1 64 8
range_of param.Connections = option_range 1 4294967295 4294967295
range_of param.Address = positional_range 1 255
range_of param.Project = positional_range 1 64
range_of param.Number = positional_range 0 9999999999999999999
range_of param.Files = positional_range 0 10000

-- the row of a command
abbrev pub row_of : Verb → Row
row_of v = record { options = map param_name (options_of v); flags = map flag_name (flags_of v); positionals = map param_name (positionals_of v) }

-- the number of an item in its range; the default if the item is not there
abbrev pub number_or : Range → Option Item → Option ℕ
number_or range None = range.otherwise
number_or range (Some item) = option_and_then (number_within range.low range.high) item.1

abbrev pub number_from : Param → List Item → Option ℕ
number_from p items = number_or (range_of p) (item_of (param_name p) items)

-- a text of this many bytes
abbrev pub text_within : ℕ → ℕ → Word → Option Word
text_within low high word = if nat_le low (length word) && nat_le (length word) high then Some word else None

-- a text that a positional takes: the name of a project, or an address of this many bytes
abbrev pub text_taken : Param → Word → Option Word
text_taken param.Project word = if is_project word then Some word else None
text_taken p word = text_within (range_of p).low (range_of p).high word

abbrev pub text_or : Param → Option Item → Option Word
text_or p None = None
text_or p (Some item) = option_and_then (text_taken p) item.1

-- the text of an item that takes it
abbrev pub text_from : Param → List Item → Option Word
text_from p items = text_or p (item_of (param_name p) items)

abbrev pub has_flag : Flag → List Item → Bool
has_flag f items = has_item items (flag_name f)

-- the default of an option
abbrev pub default_of : Param → ℕ
default_of p = unwrap_or (range_of p).otherwise 0
