-- What `clap` is asked, and what is read of its answer.
use Rattle.std.specs.Prelude.{◌≡◌, ◌&&◌, ◌||◌, ℕ, Bool, true, false, not, if◌then◌else◌, List, [], ◌∷◌, Option, Some, None, option_map, option_and_then, MatchOption, fold, codes}
use Rattle.std.specs.Borrow.{Bor}
use Rattle.std.specs.List.{list_all}
use Rattle.std.specs.Str.{bytes_eq, is_utf8}
use Rattle.clap.specs.Kinds.{Kinds}
use Rattle.clap.specs.Walk.{Row as Entry, Rule, first_of}
use Rattle.clap.specs.Words.{fault_of, found_of, matches_of, rows_of}
use Rattle.clap.specs.declared.parser.matches.ArgMatches.{ArgMatches}
use Rattle.clap.specs.Simple.{App, new_app, new_rule, on_top, with_rule}
use Rattle.clap.specs.declared.builder.action.ArgAction.TheVariants.{SetTrue}
use Rattle.cq_base.specs.declared.settings.Settings.{Settings}
use Rattle.cq_words.specs.Grammar.{Word}
use Rattle.cq_words.specs.Numbers.{number_within}
use Rattle.cq_words.specs.Table.{verb_name, options_of, flags_of, positionals_of, param_name, flag_name, range_of, text_taken}
use Rattle.cq_words.specs.Command.{settings_made, run_made, listen_made, make_made, export_made}
use Rattle.cq_words.specs.declared.table.Verb.{Verb}
use Rattle.cq_words.specs.declared.table.Verb.TheVariants as verb
use Rattle.cq_words.specs.declared.table.Param.{Param}
use Rattle.cq_words.specs.declared.table.Param.TheVariants as param
use Rattle.cq_words.specs.declared.table.Flag.{Flag}
use Rattle.cq_words.specs.declared.table.Flag.TheVariants as flag
use Rattle.cq_words.specs.declared.table.Range.{Range}
use Rattle.cq_words.specs.declared.command.Listen.{Listen}
use Rattle.cq_words.specs.declared.command.Command.{Command}
use Rattle.cq_words.specs.declared.command.Command.TheVariants as command

-- the value, if no kind of error comes
abbrev pub when : {X : Type 0} → Kinds → Option X → Option X
when [] x = x
when (k ∷ ks) x = None

-- just `-` or just `--`
abbrev pub is_lone : List ℕ → Bool
is_lone word = bytes_eq word (45 ∷ []) || bytes_eq word (45 ∷ 45 ∷ [])

-- words that are handed on
abbrev pub is_asked : List ℕ → Bool
is_asked word = is_utf8 word && not (is_lone word)

-- the word itself if it is handed on, else none
abbrev pub IsHanded : List ℕ → Option (Bor (List ℕ)) → Type 0
IsHanded word text = MatchOption text (is_asked word ≡ false) (λ t. (t.now ≡ word) × (is_asked word ≡ true))

-- all of them, or none if one is not
abbrev pub all_handed : List (List ℕ) → Option (List (List ℕ))
all_handed words = if list_all is_asked words then Some words else None

-- what `clap` finds in the words, or none if it refuses them
abbrev pub rows_for : App → List (List ℕ) → Option (List Entry)
rows_for app words = when (fault_of app words) (Some (matches_of app words))

-- the entries that it found
abbrev pub entries_of : ArgMatches → List Entry
entries_of found = rows_of (found_of found)

abbrev pub rows_in : Option ArgMatches → Option (List Entry)
rows_in found = option_map (λ m. rows_of (found_of m)) found

abbrev pub option_arg : List ℕ → Rule
option_arg name = record (new_rule name) { long = Some name }

abbrev pub flag_arg : List ℕ → Rule
flag_arg name = record (new_rule name) { long = Some name; action = Some SetTrue }

-- a command with no help flag, whose words begin with its arguments
abbrev pub bare_app : List ℕ → App
bare_app name = on_top (λ s. record s { no_binary_name = true; disable_help_flag = true }) (new_app name)

abbrev pub positional_arg : Word → Rule
positional_arg name = record (new_rule name) { required = true }

abbrev pub with_options : App → List Param → App
with_options app params = fold (λ app p. with_rule app (option_arg (param_name p))) app params

abbrev pub with_flags : App → List Flag → App
with_flags app flags = fold (λ app f. with_rule app (flag_arg (flag_name f))) app flags

abbrev pub with_positionals : App → List Param → App
with_positionals app params = fold (λ app p. with_rule app (positional_arg (param_name p))) app params

-- the simple command that is asked
abbrev pub asked_app : Verb → App
asked_app v = with_positionals (with_flags (with_options (bare_app (verb_name v)) (options_of v)) (flags_of v)) (positionals_of v)

abbrev pub text_number : Range → Option Word → Option ℕ
text_number range None = range.otherwise
text_number range (Some text) = number_within range.low range.high text

abbrev pub text_is_true : Option Word → Bool
text_is_true None = false
text_is_true (Some text) = bytes_eq text (codes "true")

-- what the entries of a parse give
abbrev pub number_read : Param → List Entry → Option ℕ
number_read p entries = text_number (range_of p) (first_of (param_name p) entries)

abbrev pub text_read : Param → List Entry → Option Word
text_read p entries = option_and_then (text_taken p) (first_of (param_name p) entries)

abbrev pub flag_read : Flag → List Entry → Bool
flag_read f entries = text_is_true (first_of (flag_name f) entries)

abbrev pub settings_read : List Entry → Option Settings
settings_read entries = settings_made
    (number_read param.Chunk entries)
    (number_read param.Shards entries)
    (number_read param.KeyBits entries)
    (number_read param.ChangeLimit entries)
    (number_read param.TextLimit entries)
    (number_read param.ByteLimit entries)
    (flag_read flag.IgnoreIds entries)
    (flag_read flag.IgnoreLiterals entries)

-- of `listen` and `serve`
abbrev pub server_read : List Entry → Option Listen
server_read entries = listen_made
    (settings_read entries)
    (text_read param.Address entries)
    (number_read param.ListenWorkers entries)
    (number_read param.Sessions entries)
    (number_read param.Connections entries)

abbrev pub command_read : Verb → List Entry → Option Command
command_read verb.Run entries = option_map command.Run (run_made (settings_read entries) (number_read param.Workers entries))
command_read verb.Listen entries = option_map command.Listen (server_read entries)
command_read verb.Serve entries = option_map command.Serve (server_read entries)
command_read verb.Drive entries = option_map command.Drive (settings_read entries)
command_read verb.Make entries = option_map command.Make (make_made (number_read param.Number entries) (number_read param.Files entries))
command_read verb.Export entries = option_map command.Export (export_made (settings_read entries) (text_read param.Project entries))
command_read verb.Ask entries = option_map command.Ask (settings_read entries)
command_read verb.Shorten entries = option_map command.Shorten (settings_read entries)
