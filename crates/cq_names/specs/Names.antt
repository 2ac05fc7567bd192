-- Which texts are names of projects and paths of files.
use Rattle.std.specs.Prelude.{◌&&◌, ◌||◌, ◌==◌, ℕ, List, [], ◌∷◌, length, Bool, true, false, not, nat_le}
use Rattle.std.specs.List.{list_all, slice_split}
use Rattle.std.specs.Str.{is_utf8}

-- A-Z a-z 0-9 . _ -
abbrev pub is_name_byte : ℕ → Bool
is_name_byte b = (nat_le 65 b && nat_le b 90) || (nat_le 97 b && nat_le b 122) || (nat_le 48 b && nat_le b 57) || b == 46 || b == 95 || b == 45

-- 1 to 64 of these
abbrev pub is_project : List ℕ → Bool
is_project name = nat_le 1 (length name) && nat_le (length name) 64 && list_all is_name_byte name

-- the parts of a text between its `/`
abbrev pub parts : List ℕ → List (List ℕ)
parts text = slice_split (λ b. b == 47) text

-- neither empty nor one dot nor two dots
abbrev pub is_part : List ℕ → Bool
is_part [] = false
is_part (a ∷ []) = not (a == 46)
is_part (a ∷ b ∷ []) = not (a == 46 && b == 46)
is_part (a ∷ b ∷ c ∷ rest) = true

-- no control character of ASCII
abbrev pub is_path_byte : ℕ → Bool
is_path_byte b = nat_le 32 b && not (b == 127)

-- 1 to 512 bytes, of parts joined by `/`
abbrev pub is_path_text : List ℕ → Bool
is_path_text text = nat_le 1 (length text) && nat_le (length text) 512 && list_all is_path_byte text && list_all is_part (parts text)

-- the same, in UTF-8
abbrev pub is_path : List ℕ → Bool
is_path bytes = is_utf8 bytes && is_path_text bytes
