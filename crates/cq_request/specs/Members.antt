-- The members of a JSON object.
use Rattle.std.specs.Prelude.{ℕ, List, [], ◌∷◌, Bool, if◌then◌else◌, Option, Some, None, option_and_then, option_map, unwrap_or}
use Rattle.std.specs.Ordering.{nat_cmp, match_ordering}
use Rattle.std.specs.Cmp.Lexicographic.{slice_cmp}
use Rattle.serde_json.specs.Data.{Data, Items, no_items, item, Members, no_members, member}
use Rattle.serde_json.specs.Events.{members_len}
use Rattle.serde_json.specs.Find.{get, as_str, as_bool, as_array, as_object, as_number, as_u64}

-- how many there are
abbrev pub member_count : Data → ℕ
member_count d = unwrap_or (option_map members_len (as_object d)) 0

abbrev pub text_at : List ℕ → Data → Option (List ℕ)
text_at key d = option_and_then as_str (get key d)

-- a whole number from 0 to 2^64 - 1, written without sign, point or exponent
abbrev pub number_of : Data → Option ℕ
number_of d = option_and_then as_u64 (as_number d)

abbrev pub number_at : List ℕ → Data → Option ℕ
number_at key d = option_and_then number_of (get key d)

abbrev pub flag_at : List ℕ → Data → Option Bool
flag_at key d = option_and_then as_bool (get key d)

abbrev pub list_at : List ℕ → Data → Option Items
list_at key d = option_and_then as_array (get key d)

-- the values of an array
abbrev pub items_in : Items → List Data
items_in no_items = []
items_in (item d ds) = d ∷ items_in ds

-- the lesser by bytes
abbrev pub lesser : List ℕ → Option (List ℕ) → List ℕ
lesser k None = k
lesser k (Some l) = match_ordering (slice_cmp nat_cmp k l) k k l

-- the least key that passes, by bytes
abbrev pub least_key : (List ℕ → Bool) → Members → Option (List ℕ)
least_key passes no_members = None
least_key passes (member k d ms) = if passes k then Some (lesser k (least_key passes ms)) else least_key passes ms
