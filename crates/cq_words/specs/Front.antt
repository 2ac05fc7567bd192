-- The item at the front of words, as it is read without memory.
use Rattle.std.specs.Prelude.{◌≡◌, ◌<◌, ◌≤◌, Bool, true, false, List, [], length, drop, Option, Some, None, option_map, unwrap_or, is_some}
use Rattle.std.specs.List.{list_all}
use Rattle.cq_words.specs.Grammar.{Word, Item, Look, named, dashed, plain, with_item, items_from, named_read, positional_read, word_read}
use Rattle.cq_words.specs.Table.{row_of, positionals_of, number_or, number_from, text_or, text_from, range_of}
use Rattle.cq_words.specs.declared.table.Verb.{Verb}
use Rattle.cq_words.specs.declared.table.Verb.TheVariants as verb
use Rattle.cq_words.specs.declared.table.Param.{Param}
use Rattle.cq_words.specs.declared.table.Param.TheVariants as param
use Rattle.cq_words.specs.declared.form.Look.{Look as Seen}
use Rattle.cq_words.specs.declared.form.Look.TheVariants as seen
use Rattle.cq_words.specs.declared.form.Left.{Left}
use Rattle.cq_words.specs.declared.form.Front.{Front}

abbrev pub look_in : Seen → Look
look_in (seen.Named name value) = named name.now (option_map (λ v. v.now) value)
look_in seen.Dashed = dashed
look_in seen.Plain = plain

abbrev pub is_plain : Look → Bool
is_plain (named name value) = false
is_plain dashed = false
is_plain plain = true

-- the positionals that are to come
abbrev pub places_in : Left → List Word
places_in l = drop l.placed (row_of l.verb).positionals

-- what is read of the words that are left
abbrev pub read_in : Left → Option Word → Option (List Item)
read_in l waits = items_from (row_of l.verb) l.words.now (places_in l) waits

-- the same after a name, after a word that is no option's, and after any word
abbrev pub named_in : Left → Word → Option Word → Option (List Item)
named_in l name value = named_read (row_of l.verb) (items_from (row_of l.verb) l.words.now) (places_in l) name value

abbrev pub placed_in : Left → Word → Option (List Item)
placed_in l word = positional_read (items_from (row_of l.verb) l.words.now) (places_in l) word

abbrev pub word_in : Left → Word → Look → Option (List Item)
word_in l word look = word_read (row_of l.verb) (items_from (row_of l.verb) l.words.now) (places_in l) word look

abbrev pub item_in : Front → Item
item_in f = (f.name.now, option_map (λ v. v.now) f.value)

-- what is read begins with the item, and continues with the words after it, which are no more than these
abbrev pub IsFront : Option Front → Left → Option (List Item) → Type 0
IsFront None l read = read ≡ None
IsFront (Some f) l read = (read ≡ with_item (item_in f) (read_in f.left None)) × (length f.left.words.now ≤ length l.words.now)

-- the same of what is read of the words that are left, of which fewer are left after it
abbrev pub IsFrontOf : Option Front → Left → Type 0
IsFrontOf None l = read_in l None ≡ None
IsFrontOf (Some f) l = (read_in l None ≡ with_item (item_in f) (read_in f.left None)) × (length f.left.words.now < length l.words.now)

-- the items of words that have them
abbrev pub items_in : Left → List Item
items_in l = unwrap_or (read_in l None) []

-- the value of an item is a number in its range
abbrev pub is_within : Param → Option Word → Bool
is_within p value = is_some (number_or (range_of p) (Some ([], value)))

-- the value of an item is a text that is taken
abbrev pub is_text : Param → Option Word → Bool
is_text p value = is_some (text_or p (Some ([], value)))

-- the positionals are there: the address of `listen` and `serve`, the project of `export`, and numbers in their ranges
abbrev pub are_places_given : Verb → List Item → Bool
are_places_given verb.Listen items = is_some (text_from param.Address items)
are_places_given verb.Serve items = is_some (text_from param.Address items)
are_places_given verb.Run items = list_all (λ p. is_some (number_from p items)) (positionals_of verb.Run)
are_places_given verb.Drive items = list_all (λ p. is_some (number_from p items)) (positionals_of verb.Drive)
are_places_given verb.Make items = list_all (λ p. is_some (number_from p items)) (positionals_of verb.Make)
are_places_given verb.Export items = is_some (text_from param.Project items)
are_places_given verb.Ask items = list_all (λ p. is_some (number_from p items)) (positionals_of verb.Ask)
are_places_given verb.Shorten items = list_all (λ p. is_some (number_from p items)) (positionals_of verb.Shorten)
