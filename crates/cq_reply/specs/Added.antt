-- What a call adds to a line while it is written: tokens of JSON, after those that the line has.
use Rattle.std.specs.Prelude.{◌≡◌, ℕ, List, ◌∷◌, ◌++◌, Some, flat_map}
use Rattle.std.specs.List.{AllByRecursion}
use Rattle.json.specs.Token.{Token, key}
use Rattle.json.specs.Tree.{json_tokens, members_tokens}
use Rattle.json.specs.Written.{Written}
use Rattle.serde_json.specs.Data.{Data}
use Rattle.serde_json.specs.Read.{of_json}
use Rattle.serde_json.specs.Written.{outline, members_outline}
use Rattle.cq_reply.specs.declared.reply.FileRow.{FileRow}
use Rattle.cq_reply.specs.Written.{count, file_members}

-- these tokens, and nothing else
pub record Adds (ts : List Token) (old new : Written) : Type 0 where
  pub before : new.before ≡ old.before
  pub tokens : new.tokens ≡ old.tokens ++ ts

abbrev pub tokens_of : Data → List Token
tokens_of d = json_tokens (outline d)

-- the tokens of the value are read as that value
abbrev pub IsReadBack : Data → Type 0
IsReadBack d = of_json (outline d) ≡ Some d

-- a value
pub record AddsValue (d : Data) (old new : Written) : Type 0 where
  pub adds : Adds (tokens_of d) old new
  pub reads : IsReadBack d

-- a member of an object
pub record AddsMember (name : List ℕ) (d : Data) (old new : Written) : Type 0 where
  pub adds : Adds (key name ∷ tokens_of d) old new
  pub reads : IsReadBack d

-- the value of each of these, one after the other
pub record AddsEach {X : Type 0} (data_of : X → Data) (xs : List X) (old new : Written) : Type 0 where
  pub adds : Adds (flat_map (λ x. tokens_of (data_of x)) xs) old new
  pub reads : AllByRecursion (λ x. IsReadBack (data_of x)) xs

-- a member for each of these, one after the other
pub record AddsMembers {X : Type 0} (name_of : X → List ℕ) (data_of : X → Data) (xs : List X) (old new : Written) : Type 0 where
  pub adds : Adds (flat_map (λ x. key (name_of x) ∷ tokens_of (data_of x)) xs) old new
  pub reads : AllByRecursion (λ x. IsReadBack (data_of x)) xs

-- the members that every file has, and the end of their object
pub record AddsFile (row : FileRow) (state : List ℕ) (old new : Written) : Type 0 where
  pub adds : Adds (members_tokens (members_outline (file_members row state))) old new
  pub change : IsReadBack (count row.change)
  pub lines : IsReadBack (count row.lines)
  pub tokens : IsReadBack (count row.tokens)
