-- Changes, by their numbers from 1.
use Rattle.std.specs.Prelude.{ℕ, ◌-◌, ◌<◌, ◌≤◌, Bool, true, false, ◌&&◌, List, [], length, slice_get, Option}
use Rattle.std.specs.Str.{bytes_eq}
use Rattle.cq_base.specs.declared.lang.Lang.{Lang}
use Rattle.cq_base.specs.declared.change.Change.{Change}
use Rattle.cq_base.specs.declared.change.Change.TheVariants.{Put, Drop, Gate}

abbrev pub is_put : Change → Bool
is_put (Put project path lang text) = true
is_put (Drop project path) = false
is_put (Gate project conditions) = false

-- how many bytes of text a change brings
abbrev pub text_len : Change → ℕ
text_len (Put project path lang text) = length text
text_len (Drop project path) = 0
text_len (Gate project conditions) = 0

-- the change puts or drops this file
abbrev pub is_of_file : List ℕ → List ℕ → Change → Bool
is_of_file q p (Put project path lang text) = bytes_eq q project && bytes_eq p path
is_of_file q p (Drop project path) = bytes_eq q project && bytes_eq p path
is_of_file q p (Gate project conditions) = false

-- the change gives this project its conditions
abbrev pub is_gate_of : List ℕ → Change → Bool
is_gate_of q (Put project path lang text) = false
is_gate_of q (Drop project path) = false
is_gate_of q (Gate project conditions) = bytes_eq q project

-- the number is that of a change
abbrev pub IsNumber : {A : Type 0} → List A → ℕ → Type 0
IsNumber changes r = (0 < r) × (r ≤ length changes)

-- the stand-in for a change that does not exist
abbrev pub no_change : Change
no_change = Gate [] []

abbrev pub change_at : List Change → ℕ → Option Change
change_at changes r = slice_get changes (r - 1)

-- the work is that of the change's text; only a put has work
abbrev pub IsWorkFor : {W : Type 0} → (Lang → List ℕ → W → Type 0) → Change → W → Type 0
IsWorkFor IsWork (Put project path lang text) work = IsWork lang text work
IsWorkFor IsWork (Drop project path) work = ⊥
IsWorkFor IsWork (Gate project conditions) work = ⊥
