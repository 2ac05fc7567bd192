-- Which files of a version are chosen: those whose path fits, and that a change above a number put.
use Rattle.std.specs.Prelude.{◌&&◌, ℕ, nat_lt, List, length, filter, slice_get, Bool, true, false, Option, Some, None, option_map, unwrap_or}
use Rattle.std.specs.List.{range_with_len}
use Rattle.cq_history.specs.Files.{File}
use Rattle.cq_scope.specs.Fits.{fits}
use Rattle.cq_names.specs.Names.{is_path}

-- it is a path and fits the pattern; without one every path does
abbrev pub is_in_scope : Option (List ℕ) → List ℕ → Bool
is_in_scope None path = true
is_in_scope (Some pattern) path = is_path path && fits pattern path

-- its path fits, and the change that put it is above `since`
abbrev pub is_chosen : {W : Type 0} → Option (List ℕ) → ℕ → File W → Bool
is_chosen scope since f = nat_lt since f.number && is_in_scope scope f.path

-- there is a file at the position, and it is chosen
abbrev pub is_chosen_at : {W : Type 0} → Option (List ℕ) → ℕ → List (File W) → ℕ → Bool
is_chosen_at scope since files i = unwrap_or (option_map (is_chosen scope since) (slice_get files i)) false

-- the positions of the chosen files, from 0, in their order
abbrev pub chosen : {W : Type 0} → Option (List ℕ) → ℕ → List (File W) → List ℕ
chosen scope since files = filter (is_chosen_at scope since files) (range_with_len 0 (length files))
