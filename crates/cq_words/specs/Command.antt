-- What the words of the command line ask for.
use Rattle.std.specs.Prelude.{◌≡◌, ℕ, ◌≤◌, Bool, true, false, List, [], ◌∷◌, Option, Some, None, option_and_then, option_map}
use Rattle.cq_base.specs.Settings.{IsInRange}
use Rattle.cq_base.specs.declared.settings.Settings.{Settings}
use Rattle.cq_names.specs.Names.{is_project}
use Rattle.cq_words.specs.Grammar.{Word, Item, items_of}
use Rattle.cq_words.specs.Table.{row_of, verb_named, number_from, text_from, has_flag, default_of}
use Rattle.cq_words.specs.declared.table.Verb.{Verb}
use Rattle.cq_words.specs.declared.table.Verb.TheVariants as verb
use Rattle.cq_words.specs.declared.table.Param.TheVariants as param
use Rattle.cq_words.specs.declared.table.Flag.TheVariants as flag
use Rattle.cq_words.specs.declared.command.Run.{Run}
use Rattle.cq_words.specs.declared.command.Listen.{Listen}
use Rattle.cq_words.specs.declared.command.Make.{Make}
use Rattle.cq_words.specs.declared.command.Export.{Export}
use Rattle.cq_words.specs.declared.command.Command.{Command}
use Rattle.cq_words.specs.declared.command.Command.TheVariants as command

-- all of it, if each number is in its range
abbrev pub settings_made : Option ℕ → Option ℕ → Option ℕ → Option ℕ → Option ℕ → Option ℕ → Bool → Bool → Option Settings
settings_made chunk shards key_bits change_limit text_limit byte_limit ignore_ids ignore_literals =
    option_and_then (λ chunk. option_and_then (λ shards. option_and_then (λ key_bits.
    option_and_then (λ change_limit. option_and_then (λ text_limit. option_map (λ byte_limit. record {
      chunk = chunk;
      shards = shards;
      key_bits = key_bits;
      ignore_ids = ignore_ids;
      ignore_lits = ignore_literals;
      change_limit = change_limit;
      text_limit = text_limit;
      byte_limit = byte_limit;
    }) byte_limit) text_limit) change_limit) key_bits) shards) chunk

abbrev pub run_made : Option Settings → Option ℕ → Option Run
run_made settings workers = option_and_then (λ settings. option_map (λ workers. record { settings = settings; workers = workers }) workers) settings

abbrev pub listen_made : Option Settings → Option Word → Option ℕ → Option ℕ → Option ℕ → Option Listen
listen_made settings address workers sessions connections =
    option_and_then (λ settings. option_and_then (λ address. option_and_then (λ workers.
    option_and_then (λ sessions. option_map (λ connections. record {
      settings = settings;
      address = address;
      workers = workers;
      sessions = sessions;
      connections = connections;
    }) connections) sessions) workers) address) settings

abbrev pub make_made : Option ℕ → Option ℕ → Option Make
make_made number files = option_and_then (λ number. option_map (λ files. record { number = number; files = files }) files) number

abbrev pub export_made : Option Settings → Option Word → Option Export
export_made settings project = option_and_then (λ settings. option_map (λ project. record { settings = settings; project = project }) project) settings

abbrev pub settings_from : List Item → Option Settings
settings_from items = settings_made
    (number_from param.Chunk items)
    (number_from param.Shards items)
    (number_from param.KeyBits items)
    (number_from param.ChangeLimit items)
    (number_from param.TextLimit items)
    (number_from param.ByteLimit items)
    (has_flag flag.IgnoreIds items)
    (has_flag flag.IgnoreLiterals items)

-- the settings if no option and no flag is given
abbrev pub default_settings : Settings
default_settings = record {
  chunk = default_of param.Chunk;
  shards = default_of param.Shards;
  key_bits = default_of param.KeyBits;
  ignore_ids = false;
  ignore_lits = false;
  change_limit = default_of param.ChangeLimit;
  text_limit = default_of param.TextLimit;
  byte_limit = default_of param.ByteLimit;
}

-- what the items of `listen` and `serve` give
abbrev pub server_from : List Item → Option Listen
server_from items = listen_made
    (settings_from items)
    (text_from param.Address items)
    (number_from param.ListenWorkers items)
    (number_from param.Sessions items)
    (number_from param.Connections items)

-- what the items of a command give
abbrev pub command_from : Verb → List Item → Option Command
command_from verb.Run items = option_map command.Run (run_made (settings_from items) (number_from param.Workers items))
command_from verb.Listen items = option_map command.Listen (server_from items)
command_from verb.Serve items = option_map command.Serve (server_from items)
command_from verb.Drive items = option_map command.Drive (settings_from items)
command_from verb.Make items = option_map command.Make (make_made (number_from param.Number items) (number_from param.Files items))
command_from verb.Export items = option_map command.Export (export_made (settings_from items) (text_from param.Project items))
command_from verb.Ask items = option_map command.Ask (settings_from items)
command_from verb.Shorten items = option_map command.Shorten (settings_from items)

-- what the words after a command's name give
abbrev pub command_after : Verb → List Word → Option Command
command_after v words = option_and_then (command_from v) (items_of (row_of v) words)

-- what the words give if they are valid
abbrev pub command_of : List Word → Option Command
command_of [] = None
command_of (word ∷ words) = option_and_then (λ v. command_after v words) (verb_named word)

-- after how many connections the doors are to end, if the command is `listen` or `serve`
abbrev pub connections_in : Command → Option ℕ
connections_in (command.Run run) = None
connections_in (command.Listen listen) = Some listen.connections
connections_in (command.Serve serve) = Some serve.connections
connections_in (command.Drive settings) = None
connections_in (command.Make make) = None
connections_in (command.Export export) = None
connections_in (command.Ask settings) = None
connections_in (command.Shorten settings) = None

abbrev pub connections_of : List Word → Option ℕ
connections_of words = option_and_then connections_in (command_of words)

-- of `listen` and `serve`
abbrev pub HasServerRanges : Listen → Type 0
HasServerRanges asked = IsInRange asked.settings × (asked.workers ≤ 64) × (1 ≤ asked.sessions) × (asked.sessions ≤ 64)

-- the settings are in their ranges, workers, sessions and files are few, there is a session, and a project has the form of
-- one
abbrev pub HasRanges : Command → Type 0
HasRanges (command.Run run) = IsInRange run.settings × (run.workers ≤ 64)
HasRanges (command.Listen listen) = HasServerRanges listen
HasRanges (command.Serve serve) = HasServerRanges serve
HasRanges (command.Drive settings) = IsInRange settings
HasRanges (command.Make make) = make.files ≤ 10000
HasRanges (command.Export export) = IsInRange export.settings × (is_project export.project ≡ true)
HasRanges (command.Ask settings) = IsInRange settings
HasRanges (command.Shorten settings) = IsInRange settings
