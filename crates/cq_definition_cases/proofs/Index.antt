-- Wrong answers of a search, of spots, of buckets, of a shard, of what is kept, of a cutter of lines and of a version.
use Rattle.std.specs.Prelude.{◌≡◌, ◌⊎◌, ℕ, zero, suc, ◌<◌, ◌≤◌, get_or, true, false, List, [], ◌∷◌, ◌++◌, length, slice_get, Option, None, Some}
use Rattle.std.proofs.Common.{arith, ap, refl, sym, subst, inl, inr}
use Rattle.std.proofs.lemmas.List.Elements.{Contains-get_or}
use Rattle.cq_definition_cases.proofs.Different.{is_false, is_true}
use Rattle.cq_base.proofs.Lists.{Contains-nil}
use Rattle.cq_base.specs.declared.change.Change.{Change}
use Rattle.cq_base.specs.declared.change.Change.TheVariants.{Put, Drop}
use Rattle.cq_base.specs.declared.entry.Entry.{Entry}
use Rattle.cq_base.specs.declared.lang.Lang.{Lang}
use Rattle.cq_base.specs.declared.lang.Lang.TheVariants.{Any}
use Rattle.cq_base.specs.declared.settings.Settings.{Settings}
use Rattle.cq_board.specs.Entries.{IsEntryAt}
use Rattle.cq_board.specs.Listings.{AreLive, IsLive}
use Rattle.cq_chain.specs.Held.{state_in}
use Rattle.cq_chain.specs.Passes.{IsStep}
use Rattle.cq_chain.specs.declared.about.About.{About}
use Rattle.cq_clones.specs.Lists.{AreAllInOrder}
use Rattle.cq_clones.specs.Windows.{EntryBefore, IsBucket}
use Rattle.cq_history.specs.Changes.{is_of_file}
use Rattle.cq_history.specs.Files.{Source, files_at, files_of}
use Rattle.cq_history.specs.Gone.{AreKeptPuts, IsFollowed, IsGone, IsOver}
use Rattle.cq_history.specs.Lawful.{is_long}
use Rattle.cq_history.specs.Standing.{Has}
use Rattle.cq_history.specs.State.{State, accepted, ready}
use Rattle.cq_history.specs.declared.event.Event.{Event}
use Rattle.cq_kept.specs.Accepted.{not_over}
use Rattle.cq_lines.specs.Calls.{fresh_held}
use Rattle.cq_order.specs.Reach.{CanStandAt}
use Rattle.cq_order.specs.Spots.{AreSpots, Replaces, spot_of}
use Rattle.cq_order.specs.declared.spots.Spot.{Spot}
use Rattle.cq_shard.specs.Shard.{Contents, StandsFor, swept, fresh_shard}

-- of one number, at its only place
pub the_last_place_is_reached : ((k : ℕ) → CanStandAt 0 0 1 0 k → (0 ≤ k) × (k < 0)) → ⊥
the_last_place_is_reached h = let inside = (h 0 (omega arith, omega arith, omega arith)).1 in omega (arith, inside)

pub another_change_has_no_spot : spot_of (record { change = 3; file = 5 } ∷ []) 4 ≡ Some 5 → ⊥
another_change_has_no_spot e = grind (arith, e)

pub a_sweep_sets_the_floor : (swept 5 [] (fresh_shard 0 1)).floor ≡ 2 → ⊥
a_sweep_sets_the_floor e = omega (arith, e)

pub a_fresh_cutter_reads : (fresh_held 9).over ≡ true → ⊥
a_fresh_cutter_reads e = cc

-- put 1, which change 2 makes over, at the floor 1
pub what_a_later_change_makes_over_is_kept_below_it : not_over (record { by = 2; number = 1 } ∷ []) 1 (1 ∷ []) ≡ [] → ⊥
what_a_later_change_makes_over_is_kept_below_it e = omega (arith, ap (λ (s : List ℕ). length s) e)

-- ---- spots: change 2 puts the file of change 1 again

abbrev spot : ℕ → Spot
spot change = record { change = change; file = 0 }

latest : (k d : ℕ) → k < 1 → get_or (1 ∷ []) k d < 2
latest zero d within = omega arith
latest (suc k) d within = omega (arith, within)

pub a_change_that_is_replaced_has_no_spot : AreSpots (1 ∷ []) (spot 1 ∷ []) → Replaces 1 (spot 2) (spot 1 ∷ []) (spot 1 ∷ spot 2 ∷ []) → ⊥
a_change_that_is_replaced_has_no_spot are replaces =
    let other : Some 2 ≡ Some 1 = ((replaces (1 ∷ []) are refl latest).each 1 0).0 refl in grind (arith, other)

-- ---- buckets: change 1 put a file with the windows of keys 5 and 6

abbrev entry : ℕ → ℕ → Entry
entry key at = record { key = key; change = 1; at = at }

pub an_entry_of_another_key_is_in_no_bucket : IsBucket (1 ∷ []) ((5 ∷ 6 ∷ []) ∷ []) 5 (entry 6 1 ∷ []) → ⊥
an_entry_of_another_key_is_in_no_bucket bucket =
    let same = ((bucket.each (entry 6 1)).0 (Contains-get_or (entry 6 1 ∷ []) 0 (entry 6 1) (omega arith))).0 in omega (arith, same)

pub a_bucket_has_each_entry_of_its_key : IsBucket (1 ∷ []) ((5 ∷ 6 ∷ []) ∷ []) 5 [] → ⊥
a_bucket_has_each_entry_of_its_key bucket = Contains-nil (entry 5 0) ((bucket.each (entry 5 0)).1 (refl, record { file = 0; put = refl; window = refl }))

abbrev stale : Entry
stale = record { key = 5; change = 2; at = 0 }

only_one_is_live : (file : ℕ) → slice_get {X = ℕ} (1 ∷ []) file ≡ Some 2 → ⊥
only_one_is_live zero put = let other : Some 1 ≡ Some 2 = put in grind (arith, other)
only_one_is_live (suc file) put = let other : None ≡ Some 2 = put in grind (arith, other)

pub an_entry_of_a_change_that_is_not_live_is_in_no_bucket : IsBucket (1 ∷ []) ((5 ∷ 6 ∷ []) ∷ []) 5 (stale ∷ []) → ⊥
an_entry_of_a_change_that_is_not_live_is_in_no_bucket bucket =
    let of = ((bucket.each stale).0 (Contains-get_or (stale ∷ []) 0 stale (omega arith))).1 in only_one_is_live of.file of.put

-- ---- a shard that goes back, whatever its changes are

abbrev held : List Entry → Contents
held entries = record { shard = 0; shards = 1; applied = 1; floor = 0; puts = 1 ∷ []; entries = entries }

pub a_shard_keeps_the_entries_of_its_changes :
    (IsWindow : Lang → List ℕ → ℕ → ℕ → Type 0) (about : About) (seen : List Event)
    → StandsFor IsWindow (accepted (seen ++ [])) (held (entry 5 0 ∷ [])) → IsStep IsWindow about seen (held (entry 5 0 ∷ [])) (held []) → ⊥
a_shard_keeps_the_entries_of_its_changes IsWindow about seen stands step =
    Contains-nil (entry 5 0) (((step.stands [] stands).entries (entry 5 0)).1 ((stands.entries (entry 5 0)).0 (Contains-get_or (entry 5 0 ∷ []) 0 (entry 5 0) (omega arith))))

pub a_shard_applies_one_change_at_a_time :
    (IsWindow : Lang → List ℕ → ℕ → ℕ → Type 0) (about : About) (seen : List Event) (later : Contents) → later.applied ≡ 3 → IsStep IsWindow about seen (held []) later → ⊥
a_shard_applies_one_change_at_a_time IsWindow about seen later three step = of step.applied
  where
    of : (later.applied ≡ 1) ⊎ ((later.applied ≡ 2) × (later.applied ≤ ready (state_in about seen))) → ⊥
    of (inl same) = omega (arith, three, same)
    of (inr (next, done)) = omega (arith, three, next)

-- ---- what is kept of a put at the floor

abbrev put : List ℕ → Change
put text = Put (0 ∷ []) (1 ∷ []) Any text

abbrev change_in : Option Change → Change
change_in None = put []
change_in (Some change) = change

not_gone : IsGone (put [] ∷ []) 1 1 → ⊥
not_gone gone =
    let same : put [] ≡ gone.change = ap change_in gone.is in
    let followed : IsFollowed (is_of_file (0 ∷ []) (1 ∷ [])) (put [] ∷ []) 1 1 = subst (λ (c : Change). IsOver (put [] ∷ []) 1 1 c) (sym same) gone.over in
    let behind = followed.behind in
    let within = followed.within in omega (arith, behind, within)

pub a_put_at_the_floor_is_kept : AreKeptPuts (put [] ∷ []) 1 [] → ⊥
a_put_at_the_floor_is_kept kept = Contains-nil 1 ((kept.each 1).1 (((omega arith, omega arith), not_gone), omega arith, refl))

-- a put of nine bytes, then a drop of its file; at most ten bytes are kept
abbrev limited : Settings
limited = record { chunk = 2; shards = 16; key_bits = 64; ignore_ids = false; ignore_lits = false; change_limit = 262144; text_limit = 10; byte_limit = 1152921504606846976 }

abbrev nine : List ℕ
nine = 97 ∷ 97 ∷ 97 ∷ 97 ∷ 97 ∷ 97 ∷ 97 ∷ 97 ∷ 97 ∷ []

abbrev at_floor : ℕ → State
at_floor floor = record {
  slots = record { change = put nine; finished = true; holder = None } ∷ record { change = Drop (0 ∷ []) (1 ∷ []); finished = false; holder = None } ∷ [];
  published = 2;
  floor = floor;
  views = None ∷ [];
}

pub bytes_that_are_kept_take_room : is_long limited (at_floor 0) (put (98 ∷ 98 ∷ [])) ≡ false → ⊥
bytes_that_are_kept_take_room e = is_true e

pub bytes_that_are_forgotten_give_room_back : is_long limited (at_floor 2) (put (98 ∷ 98 ∷ [])) ≡ true → ⊥
bytes_that_are_forgotten_give_room_back e = is_false e

-- ---- a put of a file, and another put of it

abbrev twice : List Change
twice = Put [] [] Any [] ∷ Put [] [] Any [] ∷ []

the_first_is_replaced : (project : List ℕ) (file : Source) → Has (files_of project twice) file → file.number ≡ 1 → ⊥
the_first_is_replaced [] file (inl same) is = let number : 2 ≡ file.number = ap (λ (f : Source). f.number) same in omega (arith, number, is)
the_first_is_replaced [] file (inr other) is = other
the_first_is_replaced (_ ∷ _) file there is = there

the_second_is_later : (project : List ℕ) (file : Source) → Has (files_at twice 1 project) file → file.number ≡ 2 → ⊥
the_second_is_later [] file (inl same) is = let number : 1 ≡ file.number = ap (λ (f : Source). f.number) same in omega (arith, number, is)
the_second_is_later [] file (inr other) is = other
the_second_is_later (_ ∷ _) file there is = there

pub a_change_that_is_replaced_is_not_live : AreLive twice (1 ∷ 2 ∷ []) → ⊥
a_change_that_is_replaced_is_not_live live =
    let of : IsLive twice 1 = (live.each 1).0 (Contains-get_or (1 ∷ 2 ∷ []) 0 1 (omega arith)) in the_first_is_replaced of.0 of.1 of.2 of.3

pub a_version_has_no_entry_of_a_replaced_change :
    (IsWindow : Lang → List ℕ → ℕ → ℕ → Type 0) → AreAllInOrder EntryBefore (IsEntryAt IsWindow twice 2 5) (entry 5 0 ∷ []) → ⊥
a_version_has_no_entry_of_a_replaced_change IsWindow entries =
    let of : IsEntryAt IsWindow twice 2 5 (entry 5 0) = (entries.each (entry 5 0)).0 (Contains-get_or (entry 5 0 ∷ []) 0 (entry 5 0) (omega arith)) in
    the_first_is_replaced of.project of.file of.there of.number

pub a_version_has_no_entry_of_a_later_change :
    (IsWindow : Lang → List ℕ → ℕ → ℕ → Type 0) → AreAllInOrder EntryBefore (IsEntryAt IsWindow twice 1 5) (stale ∷ []) → ⊥
a_version_has_no_entry_of_a_later_change IsWindow entries =
    let of : IsEntryAt IsWindow twice 1 5 stale = (entries.each stale).0 (Contains-get_or (stale ∷ []) 0 stale (omega arith)) in
    the_second_is_later of.project of.file of.there of.number
