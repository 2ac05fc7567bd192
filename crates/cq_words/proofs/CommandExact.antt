-- What is read of the entries of a parse is what the words give.
use Rattle.std.proofs.Common.{◌≡◌, ◌∙◌, ap, refl, Bool, true, false, cond, List, [], ◌∷◌, map, Option, Some, None}
use Rattle.std.specs.Prelude.{option_map, option_and_then}
use Rattle.std.specs.List.{list_all}
use Rattle.std.specs.Str.{is_utf8}
use Rattle.clap.specs.Walk.{Row as Entry}
use Rattle.clap.specs.Simple.{App, built, matches_of}
use Rattle.clap.specs.Faults.{fault_of}
use Rattle.clap.specs.Words.{is_simple_and_free}
use Rattle.clap.proofs.OnLiterals.{clap_on_literals}
use Rattle.cq_words.specs.Asked.{is_asked, asked_app, command_read, server_read, settings_read, when}
use Rattle.cq_words.specs.Command.{command_after, command_from, export_made, listen_made, make_made, run_made, server_from, settings_from, settings_made}
use Rattle.cq_words.specs.Grammar.{Word, Row, Item, are_whole, has_name, items_from, items_of}
use Rattle.cq_words.specs.Table.{flag_name, param_name, row_of, verb_name}
use Rattle.cq_words.specs.declared.command.Command.TheVariants as command
use Rattle.cq_words.specs.declared.table.Flag.{Flag}
use Rattle.cq_words.specs.declared.table.Flag.TheVariants as flag
use Rattle.cq_words.specs.declared.table.Param.{Param}
use Rattle.cq_words.specs.declared.table.Param.TheVariants as param
use Rattle.cq_words.specs.declared.table.Verb.{Verb}
use Rattle.cq_words.specs.declared.table.Verb.TheVariants as verb
use Rattle.cq_words.proofs.Rules.{Places, rules_of}
use Rattle.cq_words.proofs.Exact.{answers_asked, built_app, none_in_form}
use Rattle.cq_words.proofs.Matching.{ArePlain, entries_of}
use Rattle.cq_words.proofs.Values.{Each, EachIfSome, IsBare, IsValued, flag_is, items_bare, items_valued, number_is, taken_is}

built_is : (v : Verb) → built (asked_app v) ≡ built_app (verb_name v) (row_of v)
unfolding clap_on_literals
built_is verb.Run = refl
built_is verb.Listen = refl
built_is verb.Serve = refl
built_is verb.Drive = refl
built_is verb.Make = refl
built_is verb.Export = refl
built_is verb.Ask = refl
built_is verb.Shorten = refl

is_bare : (v : Verb) → (asked_app v).top.no_binary_name ≡ true
is_bare verb.Run = refl
is_bare verb.Listen = refl
is_bare verb.Serve = refl
is_bare verb.Drive = refl
is_bare verb.Make = refl
is_bare verb.Export = refl
is_bare verb.Ask = refl
is_bare verb.Shorten = refl

pub is_simple : (v : Verb) → is_simple_and_free (asked_app v) ≡ true
is_simple verb.Run = refl
is_simple verb.Listen = refl
is_simple verb.Serve = refl
is_simple verb.Drive = refl
is_simple verb.Make = refl
is_simple verb.Export = refl
is_simple verb.Ask = refl
is_simple verb.Shorten = refl

places : (v : Verb) → Places (rules_of (row_of v)) 1 (row_of v).positionals
places verb.Run = refl
places verb.Listen = (refl, refl, refl)
places verb.Serve = (refl, refl, refl)
places verb.Drive = refl
places verb.Make = (refl, refl, (refl, refl, refl))
places verb.Export = (refl, refl, refl)
places verb.Ask = refl
places verb.Shorten = refl

are_plain : (v : Verb) → ArePlain (row_of v) (row_of v).positionals
are_plain verb.Run = tt
are_plain verb.Listen = (refl, tt)
are_plain verb.Serve = (refl, tt)
are_plain verb.Drive = tt
are_plain verb.Make = (refl, (refl, tt))
are_plain verb.Export = (refl, tt)
are_plain verb.Ask = tt
are_plain verb.Shorten = tt

-- no number has a flag's name, and no flag an option's or a positional's
other_name : (p : Param) → has_name (map flag_name (flag.IgnoreIds ∷ flag.IgnoreLiterals ∷ [])) (param_name p) ≡ false
other_name param.Chunk = refl
other_name param.Shards = refl
other_name param.KeyBits = refl
other_name param.ChangeLimit = refl
other_name param.TextLimit = refl
other_name param.ByteLimit = refl
other_name param.Workers = refl
other_name param.ListenWorkers = refl
other_name param.Sessions = refl
other_name param.Connections = refl
other_name param.Address = refl
other_name param.Project = refl
other_name param.Number = refl
other_name param.Files = refl

no_flag : (v : Verb) (p : Param) → has_name (row_of v).flags (param_name p) ≡ false
no_flag verb.Run p = other_name p
no_flag verb.Listen p = other_name p
no_flag verb.Serve p = other_name p
no_flag verb.Drive p = other_name p
no_flag verb.Make p = refl
no_flag verb.Export p = other_name p
no_flag verb.Ask p = other_name p
no_flag verb.Shorten p = other_name p

no_option : (v : Verb) (f : Flag) → has_name (row_of v).options (flag_name f) ≡ false
no_option verb.Run flag.IgnoreIds = refl
no_option verb.Run flag.IgnoreLiterals = refl
no_option verb.Listen flag.IgnoreIds = refl
no_option verb.Listen flag.IgnoreLiterals = refl
no_option verb.Serve flag.IgnoreIds = refl
no_option verb.Serve flag.IgnoreLiterals = refl
no_option verb.Drive flag.IgnoreIds = refl
no_option verb.Drive flag.IgnoreLiterals = refl
no_option verb.Make f = refl
no_option verb.Export flag.IgnoreIds = refl
no_option verb.Export flag.IgnoreLiterals = refl
no_option verb.Ask flag.IgnoreIds = refl
no_option verb.Ask flag.IgnoreLiterals = refl
no_option verb.Shorten flag.IgnoreIds = refl
no_option verb.Shorten flag.IgnoreLiterals = refl

no_place : (v : Verb) (f : Flag) → has_name (row_of v).positionals (flag_name f) ≡ false
no_place verb.Run f = refl
no_place verb.Listen flag.IgnoreIds = refl
no_place verb.Listen flag.IgnoreLiterals = refl
no_place verb.Serve flag.IgnoreIds = refl
no_place verb.Serve flag.IgnoreLiterals = refl
no_place verb.Drive f = refl
no_place verb.Make flag.IgnoreIds = refl
no_place verb.Make flag.IgnoreLiterals = refl
no_place verb.Export flag.IgnoreIds = refl
no_place verb.Export flag.IgnoreLiterals = refl
no_place verb.Ask f = refl
no_place verb.Shorten f = refl

-- the values, from the entries and from the items
abbrev AreAllBare : List Item → Type 0
AreAllBare items = (f : Flag) → Each (IsBare (flag_name f)) items

abbrev AreAllValued : List Item → Type 0
AreAllValued items = (p : Param) → Each (IsValued (param_name p)) items

settings_are : (row : Row) (items : List Item) → ((p : Param) → has_name row.flags (param_name p) ≡ false) → ((f : Flag) → has_name row.flags (flag_name f) ≡ true) → AreAllBare items
    → settings_read (entries_of row items) ≡ settings_from items
settings_are row items other known bare = λ i. settings_made
    (number_is row items param.Chunk (other param.Chunk) i)
    (number_is row items param.Shards (other param.Shards) i)
    (number_is row items param.KeyBits (other param.KeyBits) i)
    (number_is row items param.ChangeLimit (other param.ChangeLimit) i)
    (number_is row items param.TextLimit (other param.TextLimit) i)
    (number_is row items param.ByteLimit (other param.ByteLimit) i)
    (flag_is row (flag_name flag.IgnoreIds) items (known flag.IgnoreIds) (bare flag.IgnoreIds) i)
    (flag_is row (flag_name flag.IgnoreLiterals) items (known flag.IgnoreLiterals) (bare flag.IgnoreLiterals) i)

known_flag : (f : Flag) → has_name (map flag_name (flag.IgnoreIds ∷ flag.IgnoreLiterals ∷ [])) (flag_name f) ≡ true
known_flag flag.IgnoreIds = refl
known_flag flag.IgnoreLiterals = refl

server_is : (row : Row) (items : List Item) → ((p : Param) → has_name row.flags (param_name p) ≡ false) → ((f : Flag) → has_name row.flags (flag_name f) ≡ true) → AreAllBare items → AreAllValued items
    → server_read (entries_of row items) ≡ server_from items
server_is row items other known bare valued = λ i. listen_made
    (settings_are row items other known bare i)
    (taken_is row items param.Address (other param.Address) (valued param.Address) i)
    (number_is row items param.ListenWorkers (other param.ListenWorkers) i)
    (number_is row items param.Sessions (other param.Sessions) i)
    (number_is row items param.Connections (other param.Connections) i)

values_are : (v : Verb) (items : List Item) → AreAllBare items → AreAllValued items → command_read v (entries_of (row_of v) items) ≡ command_from v items
values_are verb.Run items bare valued = λ i. option_map command.Run
    (run_made (settings_are (row_of verb.Run) items other_name known_flag bare i) (number_is (row_of verb.Run) items param.Workers refl i))
values_are verb.Listen items bare valued = λ i. option_map command.Listen (server_is (row_of verb.Listen) items other_name known_flag bare valued i)
values_are verb.Serve items bare valued = λ i. option_map command.Serve (server_is (row_of verb.Serve) items other_name known_flag bare valued i)
values_are verb.Drive items bare valued = λ i. option_map command.Drive (settings_are (row_of verb.Drive) items other_name known_flag bare i)
values_are verb.Make items bare valued = λ i. option_map command.Make
    (make_made (number_is (row_of verb.Make) items param.Number refl i) (number_is (row_of verb.Make) items param.Files refl i))
values_are verb.Export items bare valued = λ i. option_map command.Export
    (export_made (settings_are (row_of verb.Export) items other_name known_flag bare i) (taken_is (row_of verb.Export) items param.Project refl (valued param.Project) i))
values_are verb.Ask items bare valued = λ i. option_map command.Ask (settings_are (row_of verb.Ask) items other_name known_flag bare i)
values_are verb.Shorten items bare valued = λ i. option_map command.Shorten (settings_are (row_of verb.Shorten) items other_name known_flag bare i)

each_item : (row : Row) (x : Option (List Item)) (P : Item → Type 0) → EachIfSome P x → EachIfSome P (option_and_then (λ items. cond (are_whole row items) (Some items) None) x)
each_item row None P each = tt
each_item row (Some items) P each = go (are_whole row items)
  where
    go : (b : Bool) → EachIfSome P (cond b (Some items) None)
    go true = each
    go false = tt

each_in_form : (row : Row) (words : List Word) (P : Item → Type 0) → EachIfSome P (items_from row words row.positionals None) → EachIfSome P (items_of row words)
each_in_form row words P each = go (list_all is_utf8 words)
  where
    go : (b : Bool) → EachIfSome P (cond b (option_and_then (λ items. cond (are_whole row items) (Some items) None) (items_from row words row.positionals None)) None)
    go true = each_item row (items_from row words row.positionals None) P each
    go false = tt

read_both : (v : Verb) (x : Option (List Item)) → ((f : Flag) → EachIfSome (IsBare (flag_name f)) x) → ((p : Param) → EachIfSome (IsValued (param_name p)) x)
    → option_and_then (command_read v) (option_map (entries_of (row_of v)) x) ≡ option_and_then (command_from v) x
read_both v None bare valued = refl
read_both v (Some items) bare valued = values_are v items bare valued

pub refused : (v : Verb) (words : List Word) → list_all is_asked words ≡ false → command_after v words ≡ None
refused v words h = ap (option_and_then (command_from v)) (none_in_form (row_of v) words h)

-- what is read of the answer, if there is one
pub answered : (v : Verb) (a : App) (handed words : List Word) (entries : Option (List Entry)) → a ≡ asked_app v → list_all is_asked words ≡ true → handed ≡ words
    → entries ≡ when (fault_of a handed) (Some (matches_of a handed)) → option_and_then (command_read v) entries ≡ command_after v words
answered v a handed words entries app h same e =
    ap (option_and_then (command_read v)) (e ∙ (λ i. when (fault_of (app i) (same i)) (Some (matches_of (app i) (same i))))
    ∙ answers_asked (verb_name v) (row_of v) (asked_app v) (built_is v) (is_bare v) (places v) (are_plain v) words h)
    ∙ read_both v (items_of (row_of v) words)
    (λ f. each_in_form (row_of v) words (IsBare (flag_name f)) (items_bare (row_of v) (flag_name f) (no_option v f) words (row_of v).positionals None (no_place v f) tt))
    (λ p. each_in_form (row_of v) words (IsValued (param_name p)) (items_valued (row_of v) (param_name p) (no_flag v p) words (row_of v).positionals None))
