-- How words are read from their front on.
use Rattle.std.proofs.Common.{◌≡◌, ℕ, ◌+◌, ◌-◌, ◌<◌, ◌≤◌, Bool, true, false, cond, Option, Some, None, List, [], ◌∷◌, length, take, drop, map, suc, zero, get_or, refl, sym, ap, ap₂, ◌∙◌, inl, inr, arith}
use Rattle.std.specs.List.{position_or_len, before_first, after_first, list_any, list_all}
use Rattle.std.proofs.lemmas.List.{take_all, take_rest}
use Rattle.std.proofs.lemmas.List.Folds.{list_any_at, list_any_none}
use Rattle.std.proofs.lemmas.List.Sums.{passes_at_first, fails_before_first}
use Rattle.std.specs.Prelude.{◌&&◌, ◌⊎◌, is_some, option_map, option_and_then, unwrap_or, if◌then◌else◌}
use Rattle.std.specs.Str.{bytes_eq, is_utf8}
use Rattle.std.proofs.lemmas.Bool.{or_parts}
use Rattle.cq_words.specs.Front.{are_places_given, is_plain, read_in, IsFront, IsFrontOf}
use Rattle.cq_words.specs.declared.form.Left.{Left}
use Rattle.cq_words.specs.declared.form.Front.{Front}
use Rattle.cq_base.specs.declared.settings.Settings.{Settings}
use Rattle.cq_words.specs.Command.{settings_made, run_made, listen_made, make_made, export_made, settings_from, server_from, command_from, command_after}
use Rattle.cq_words.specs.Table.{row_of, options_of, param_name, range_of, number_or, number_from, text_or, text_from, has_flag}
use Rattle.cq_words.specs.declared.command.Command.{Command}
use Rattle.cq_words.specs.declared.command.Listen.{Listen}
use Rattle.cq_words.specs.declared.command.Command.TheVariants as command
use Rattle.cq_words.specs.declared.table.Verb.{Verb}
use Rattle.cq_words.specs.declared.table.Verb.TheVariants as verb
use Rattle.cq_words.specs.declared.table.Param.{Param}
use Rattle.cq_words.specs.declared.table.Param.TheVariants as param
use Rattle.cq_words.specs.declared.table.Flag.TheVariants as flag
use Rattle.cq_words.specs.Grammar.{Word, Row, Rest, Item, Look, named, dashed, plain, with_item, is_equals, look_of, look_after_two, word_read, value_read, item_of, has_item, items_from, are_whole, are_distinct}

-- the name and the value, where there is an equals sign
pub joined_look : (xs : Word) (at : ℕ) → at ≡ position_or_len is_equals xs → at < length xs → named (take at xs) (Some (take (length xs - (at + 1)) (drop (at + 1) xs))) ≡ look_after_two xs
joined_look [] at is inside = absurd (omega (arith, inside))
joined_look (x ∷ xs) at is inside =
    let here : position_or_len is_equals (x ∷ xs) < length (x ∷ xs) = rw is at inside in
    let some : list_any is_equals (x ∷ xs) ≡ true = list_any_at is_equals (x ∷ xs) (position_or_len is_equals (x ∷ xs)) 0 here (passes_at_first is_equals (x ∷ xs) 0 here) in
    ap (λ v. named (take at (x ∷ xs)) (Some v)) (take_rest (x ∷ xs) (at + 1))
    ∙ ap (λ n. named (take n (x ∷ xs)) (Some (drop (n + 1) (x ∷ xs)))) is
    ∙ ap (λ b. named (before_first is_equals (x ∷ xs)) (cond b (Some (after_first is_equals (x ∷ xs))) None)) (sym some)

-- the name alone, where there is none
pub bare_look : (xs : Word) (at : ℕ) → at ≡ position_or_len is_equals xs → 0 < length xs → length xs ≤ at → named xs None ≡ look_after_two xs
bare_look [] at is some past = absurd (omega (arith, some))
bare_look (x ∷ xs) at is some past =
    let beyond : length (x ∷ xs) ≤ position_or_len is_equals (x ∷ xs) = rw is at past in
    let none : list_any is_equals (x ∷ xs) ≡ false = list_any_none is_equals (x ∷ xs) (λ k d inside. fails_before_first is_equals (x ∷ xs) k d (omega (arith, inside, beyond))) in
    ap (λ name. named name None) (sym (take_all (position_or_len is_equals (x ∷ xs)) (x ∷ xs) beyond))
    ∙ ap (λ b. named (before_first is_equals (x ∷ xs)) (cond b (Some (after_first is_equals (x ∷ xs))) None)) (sym none)

-- no word is left for the option's value
pub value_missing : (row : Row) (words : List Word) (left : List Word) (name : Word) → length words < 1 → items_from row words left (Some name) ≡ None
unfolding items_from
value_missing row [] left name short = refl
value_missing row (w ∷ words) left name short = absurd (omega (arith, short))

pub value_next : (row : Row) (words : List Word) (left : List Word) (name w : Word) → 1 ≤ length words → w ≡ get_or words 0 w → items_from row words left (Some name) ≡ value_read (items_from row (take (length words - 1) (drop 1 words))) left name w (look_of w)
unfolding items_from
value_next row [] left name w some is = absurd (omega (arith, some))
value_next row (v ∷ words) left name w some is =
    ap₂ (λ rest word. value_read (items_from row rest) left name word (look_of word)) (sym (take_rest (v ∷ words) 1)) (sym is)

pub word_next : (row : Row) (words : List Word) (left : List Word) (w : Word) → 1 ≤ length words → w ≡ get_or words 0 w → items_from row words left None ≡ word_read row (items_from row (take (length words - 1) (drop 1 words))) left w (look_of w)
unfolding items_from
word_next row [] left w some is = absurd (omega (arith, some))
word_next row (v ∷ words) left w some is =
    ap₂ (λ rest word. word_read row (items_from row rest) left word (look_of word)) (sym (take_rest (v ∷ words) 1)) (sym is)

-- a value that begins with a hyphen is none
pub value_other : (rest : Rest) (left : List Word) (name word : Word) (look : Look) → is_plain look ≡ false → value_read rest left name word look ≡ None
value_other rest left name word (named n v) other = refl
value_other rest left name word dashed other = refl
value_other rest left name word plain other = absurd (cc)

pub value_plain : (rest : Rest) (left : List Word) (name word : Word) (look : Look) → is_plain look ≡ true → value_read rest left name word look ≡ with_item (name, Some word) (rest left None)
value_plain rest left name word (named n v) is = absurd (cc)
value_plain rest left name word dashed is = absurd (cc)
value_plain rest left name word plain is = refl

-- no words spell no items
pub no_words : (row : Row) (words left : List Word) → length words ≡ 0 → items_from row words left None ≡ Some []
unfolding items_from
no_words row [] left none = refl
no_words row (w ∷ words) left none = absurd (omega (arith, none))

-- the positional that comes next
place_first : (params : List Param) (k : ℕ) (p : Param) → k < length params → p ≡ get_or params k p → drop k (map param_name params) ≡ param_name p ∷ drop (suc k) (map param_name params)
place_first [] k p inside is = absurd (omega (arith, inside))
place_first (q ∷ params) zero p inside is = ap (λ r. param_name r ∷ map param_name params) (sym is)
place_first (q ∷ params) (suc k) p inside is = place_first params k p (omega (arith, inside)) is

pub place_next : (params : List Param) (k : ℕ) (p : Param) → k < length params → p ≡ get_or params k p → drop k (map param_name params) ≡ param_name p ∷ drop (k + 1) (map param_name params)
place_next params k p inside is = let one : suc k ≡ k + 1 = omega arith in place_first params k p inside is ∙ ap (λ n. param_name p ∷ drop n (map param_name params)) one

pub place_missing : (params : List Param) (k : ℕ) → length params ≤ k → drop k (map param_name params) ≡ []
place_missing [] zero past = refl
place_missing [] (suc k) past = refl
place_missing (q ∷ params) zero past = absurd (omega (arith, past))
place_missing (q ∷ params) (suc k) past = place_missing params k (omega (arith, past))

-- what stands at the front of what is read stands at the front of the words
pub front_is : (f : Option Front) (l behind : Left) (read : Option (List Item)) → read_in l None ≡ read
    → length behind.words.now < length l.words.now → IsFront f behind read → IsFrontOf f l
front_is None l behind read same less is = same ∙ is
front_is (Some f) l behind read same less is = (same ∙ is.0, let short = is.1 in omega (arith, less, short))

-- ---- the values

and_then_some : {X Y : Type 0} (f : X → Option Y) (o : Option X) (k : Bool) → ((x : X) → is_some (f x) ≡ k) → is_some (option_and_then f o) ≡ (is_some o && k)
and_then_some f None k each = refl
and_then_some f (Some x) k each = each x

map_some : {X Y : Type 0} (f : X → Y) (o : Option X) → is_some (option_map f o) ≡ is_some o
map_some f None = refl
map_some f (Some x) = refl

-- settings are made where each number is there
settings_some : (chunk shards key_bits change_limit text_limit byte_limit : Option ℕ) (ids lits : Bool) → is_some (settings_made chunk shards key_bits change_limit text_limit byte_limit ids lits)
    ≡ (is_some chunk && (is_some shards && (is_some key_bits && (is_some change_limit && (is_some text_limit && is_some byte_limit)))))
settings_some chunk shards key_bits change_limit text_limit byte_limit ids lits =
    and_then_some _ chunk _ (λ a. and_then_some _ shards _ (λ b. and_then_some _ key_bits _ (λ c.
    and_then_some _ change_limit _ (λ d. and_then_some _ text_limit _ (λ e. map_some _ byte_limit)))))

and_all : (b : Bool) → (b && true) ≡ b
and_all true = refl
and_all false = refl

last_one : (a b c d e f g : Bool) → ((a && (b && (c && (d && (e && f))))) && g) ≡ ((a && (b && (c && (d && (e && (f && (g && true))))))) && true)
last_one false b c d e f g = refl
last_one true false c d e f g = refl
last_one true true false d e f g = refl
last_one true true true false e f g = refl
last_one true true true true false f g = refl
last_one true true true true true false g = refl
last_one true true true true true true true = refl
last_one true true true true true true false = refl

no_last : (a b c d e f : Bool) → (a && (b && (c && (d && (e && f))))) ≡ ((a && (b && (c && (d && (e && (f && true)))))) && true)
no_last false b c d e f = refl
no_last true false c d e f = refl
no_last true true false d e f = refl
no_last true true true false e f = refl
no_last true true true true false f = refl
no_last true true true true true true = refl
no_last true true true true true false = refl

with_text : (a b c d e f place : Bool) → ((a && (b && (c && (d && (e && f))))) && place) ≡ ((a && (b && (c && (d && (e && (f && true)))))) && place)
with_text a b c d e f place = ap (λ (g : Bool). (a && (b && (c && (d && (e && g))))) && place) (sym (and_all f))

place_last : (place w s k : Bool) → (place && (w && (s && k))) ≡ ((w && (s && (k && true))) && place)
place_last true false s k = refl
place_last true true false k = refl
place_last true true true false = refl
place_last true true true true = refl
place_last false false s k = refl
place_last false true false k = refl
place_last false true true false = refl
place_last false true true true = refl

last_three : (a b c d e f place w s k : Bool) → ((a && (b && (c && (d && (e && f))))) && (place && (w && (s && k))))
    ≡ ((a && (b && (c && (d && (e && (f && (w && (s && (k && true))))))))) && place)
last_three false b c d e f place w s k = refl
last_three true false c d e f place w s k = refl
last_three true true false d e f place w s k = refl
last_three true true true false e f place w s k = refl
last_three true true true true false f place w s k = refl
last_three true true true true true false place w s k = refl
last_three true true true true true true place w s k = place_last place w s k

abbrev pub is_there : List Item → Param → Bool
is_there items p = is_some (number_from p items)

settings_there : (items : List Item) → is_some (settings_from items)
    ≡ (is_there items param.Chunk && (is_there items param.Shards && (is_there items param.KeyBits && (is_there items param.ChangeLimit && (is_there items param.TextLimit && is_there items param.ByteLimit)))))
settings_there items = settings_some (number_from param.Chunk items) (number_from param.Shards items) (number_from param.KeyBits items)
    (number_from param.ChangeLimit items) (number_from param.TextLimit items) (number_from param.ByteLimit items)
    (has_flag flag.IgnoreIds items) (has_flag flag.IgnoreLiterals items)

listen_some : (settings : Option Settings) (address : Option Word) (workers sessions connections : Option ℕ) → is_some (listen_made settings address workers sessions connections)
    ≡ (is_some settings && (is_some address && (is_some workers && (is_some sessions && is_some connections))))
listen_some settings address workers sessions connections =
    and_then_some _ settings _ (λ a. and_then_some _ address _ (λ b. and_then_some _ workers _ (λ c. and_then_some _ sessions _ (λ d. map_some _ connections))))

-- the numbers and the text of `listen` and `serve` are there just where its command is
server_there : (made : Listen → Command) (items : List Item) → (list_all (is_there items) (options_of verb.Listen) && is_some (text_from param.Address items)) ≡ is_some (option_map made (server_from items))
server_there made items = sym (map_some made (server_from items)
    ∙ listen_some (settings_from items) (text_from param.Address items) (number_from param.ListenWorkers items) (number_from param.Sessions items) (number_from param.Connections items)
    ∙ ap (λ b. b && (is_some (text_from param.Address items) && (is_there items param.ListenWorkers && (is_there items param.Sessions && is_there items param.Connections)))) (settings_there items)
    ∙ last_three (is_there items param.Chunk) (is_there items param.Shards) (is_there items param.KeyBits) (is_there items param.ChangeLimit) (is_there items param.TextLimit) (is_there items param.ByteLimit)
    (is_some (text_from param.Address items)) (is_there items param.ListenWorkers) (is_there items param.Sessions) (is_there items param.Connections))

-- and so are those of a command that has only settings
only_settings_there : (made : Settings → Command) (items : List Item) → (list_all (is_there items) (options_of verb.Drive) && true) ≡ is_some (option_map made (settings_from items))
only_settings_there made items = sym (map_some made (settings_from items) ∙ settings_there items
    ∙ no_last (is_there items param.Chunk) (is_there items param.Shards) (is_there items param.KeyBits) (is_there items param.ChangeLimit) (is_there items param.TextLimit) (is_there items param.ByteLimit))

-- a command's numbers and its text are there just where the command is
pub all_there : (v : Verb) (items : List Item) → (list_all (is_there items) (options_of v) && are_places_given v items) ≡ is_some (command_from v items)
all_there verb.Run items = sym (map_some command.Run (run_made (settings_from items) (number_from param.Workers items))
    ∙ and_then_some _ (settings_from items) _ (λ s. map_some _ (number_from param.Workers items))
    ∙ ap (λ b. b && is_there items param.Workers) (settings_there items)
    ∙ last_one (is_there items param.Chunk) (is_there items param.Shards) (is_there items param.KeyBits) (is_there items param.ChangeLimit) (is_there items param.TextLimit) (is_there items param.ByteLimit) (is_there items param.Workers))
all_there verb.Listen items = server_there command.Listen items
all_there verb.Serve items = server_there command.Serve items
all_there verb.Drive items = only_settings_there command.Drive items
all_there verb.Make items = sym (map_some command.Make (make_made (number_from param.Number items) (number_from param.Files items))
    ∙ and_then_some _ (number_from param.Number items) _ (λ n. map_some _ (number_from param.Files items))
    ∙ ap (λ b. is_there items param.Number && b) (sym (and_all (is_there items param.Files))))
all_there verb.Export items = sym (map_some command.Export (export_made (settings_from items) (text_from param.Project items))
    ∙ and_then_some _ (settings_from items) _ (λ s. map_some _ (text_from param.Project items))
    ∙ ap (λ b. b && is_some (text_from param.Project items)) (settings_there items)
    ∙ with_text (is_there items param.Chunk) (is_there items param.Shards) (is_there items param.KeyBits) (is_there items param.ChangeLimit) (is_there items param.TextLimit) (is_there items param.ByteLimit) (is_some (text_from param.Project items)))
all_there verb.Ask items = only_settings_there command.Ask items
all_there verb.Shorten items = only_settings_there command.Shorten items

-- a positional's value is there only where its item is
item_missing : (name : Word) (items : List Item) → has_item items name ≡ false → item_of name items ≡ None
item_missing name [] none = refl
item_missing name (item ∷ items) none =
    let parts = or_parts (bytes_eq item.0 name) (has_item items name) none in
    ap (λ b. cond b (Some item) (item_of name items)) parts.0 ∙ item_missing name items parts.1

-- so the values of `listen` and `serve` say that the address is there
server_placed : (made : Listen → Command) (items : List Item) → cond (has_item items (param_name param.Address) && true) (option_map made (server_from items)) None ≡ option_map made (server_from items)
server_placed made items = there (has_item items (param_name param.Address)) refl
  where
    from_parts : Option Settings → Option Word → Option Command
    from_parts settings address = option_map made (listen_made settings address (number_from param.ListenWorkers items) (number_from param.Sessions items) (number_from param.Connections items))

    no_address : (settings : Option Settings) → from_parts settings None ≡ None
    no_address None = refl
    no_address (Some s) = refl

    there : (a : Bool) → has_item items (param_name param.Address) ≡ a → cond (a && true) (option_map made (server_from items)) None ≡ option_map made (server_from items)
    there true address = refl
    there false address = sym (ap (λ x. from_parts (settings_from items) (text_or param.Address x)) (item_missing (param_name param.Address) items address) ∙ no_address (settings_from items))

-- and a command's that its positionals are there
placed : (v : Verb) (items : List Item) → cond (list_all (has_item items) (row_of v).positionals) (command_from v items) None ≡ command_from v items
placed verb.Run items = refl
placed verb.Listen items = server_placed command.Listen items
placed verb.Serve items = server_placed command.Serve items
placed verb.Drive items = refl
placed verb.Ask items = refl
placed verb.Shorten items = refl
placed verb.Export items = there (has_item items (param_name param.Project)) refl
  where
    from_parts : Option Settings → Option Word → Option Command
    from_parts settings project = option_map command.Export (export_made settings project)

    no_project : (settings : Option Settings) → from_parts settings None ≡ None
    no_project None = refl
    no_project (Some s) = refl

    there : (a : Bool) → has_item items (param_name param.Project) ≡ a → cond (a && true) (command_from verb.Export items) None ≡ command_from verb.Export items
    there true project = refl
    there false project = sym (ap (λ x. from_parts (settings_from items) (text_or param.Project x)) (item_missing (param_name param.Project) items project) ∙ no_project (settings_from items))
placed verb.Make items = first (has_item items (param_name param.Number)) (has_item items (param_name param.Files)) refl refl
  where
    both : Option ℕ → Option ℕ → Option Command
    both number files = option_map command.Make (make_made number files)

    no_files : (number : Option ℕ) → both number None ≡ None
    no_files None = refl
    no_files (Some n) = refl

    first : (a b : Bool) → has_item items (param_name param.Number) ≡ a → has_item items (param_name param.Files) ≡ b
        → cond (a && (b && true)) (command_from verb.Make items) None ≡ command_from verb.Make items
    first true true number files = refl
    first true false number files = sym (ap (λ x. both (number_from param.Number items) (number_or (range_of param.Files) x)) (item_missing (param_name param.Files) items files) ∙ no_files (number_from param.Number items))
    first false b number files = sym (ap (λ x. both (number_or (range_of param.Number) x) (number_from param.Files items)) (item_missing (param_name param.Number) items number))

-- what is read of words, by whether they are texts and what items they spell
abbrev formed : Verb → Bool → Option (List Item) → Option Command
formed v texts items = option_and_then (command_from v) (if texts then option_and_then (λ is. if are_whole (row_of v) is then Some is else None) items else None)

whole : (v : Verb) (items : List Item) (d p : Bool) → option_and_then (command_from v) (cond (d && p) (Some items) None) ≡ cond d (cond p (command_from v items) None) None
whole v items true true = refl
whole v items true false = refl
whole v items false p = refl

formed_all : (v : Verb) (texts : Bool) (items : Option (List Item)) → texts ≡ true → is_some items ≡ true → are_distinct (unwrap_or items []) ≡ true → formed v texts items ≡ command_from v (unwrap_or items [])
formed_all v true (Some items) t i d = whole v items (are_distinct items) (list_all (has_item items) (row_of v).positionals)
    ∙ ap (λ b. cond b (cond (list_all (has_item items) (row_of v).positionals) (command_from v items) None) None) d ∙ placed v items
formed_all v true None t i d = absurd (cc)
formed_all v false items t i d = absurd (cc)

formed_none : (v : Verb) (texts : Bool) (items : Option (List Item)) → (texts ≡ false) ⊎ ((is_some items ≡ false) ⊎ (are_distinct (unwrap_or items []) ≡ false)) → formed v texts items ≡ None
formed_none v false items why = refl
formed_none v true None why = refl
formed_none v true (Some items) (inl t) = absurd (cc)
formed_none v true (Some items) (inr (inl i)) = absurd (cc)
formed_none v true (Some items) (inr (inr d)) = whole v items (are_distinct items) (list_all (has_item items) (row_of v).positionals)
    ∙ ap (λ b. cond b (cond (list_all (has_item items) (row_of v).positionals) (command_from v items) None) None) d

pub read_all : (v : Verb) (words : List Word) → list_all is_utf8 words ≡ true → is_some (items_from (row_of v) words (row_of v).positionals None) ≡ true
    → are_distinct (unwrap_or (items_from (row_of v) words (row_of v).positionals None) []) ≡ true
    → command_after v words ≡ command_from v (unwrap_or (items_from (row_of v) words (row_of v).positionals None) [])
read_all v words = formed_all v (list_all is_utf8 words) (items_from (row_of v) words (row_of v).positionals None)

pub read_none : (v : Verb) (words : List Word)
    → (list_all is_utf8 words ≡ false) ⊎ ((is_some (items_from (row_of v) words (row_of v).positionals None) ≡ false) ⊎ (are_distinct (unwrap_or (items_from (row_of v) words (row_of v).positionals None) []) ≡ false))
    → command_after v words ≡ None
read_none v words = formed_none v (list_all is_utf8 words) (items_from (row_of v) words (row_of v).positionals None)
