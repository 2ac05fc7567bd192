-- The project that `make` makes: which files are put, and in which order.
use Rattle.std.specs.Prelude.{ℕ, zero, suc, ◌+◌, ◌*◌, ◌/◌, ◌%◌, List, [], ◌∷◌, ◌++◌, codes}
use Rattle.std.specs.Fmt.{decimal}
use Rattle.cq_base.specs.declared.change.Change.{Change}
use Rattle.cq_base.specs.declared.change.Change.TheVariants.{Put}
use Rattle.cq_base.specs.declared.lang.Lang.TheVariants.{Any}

-- `nK = nK + 1` and a line feed
abbrev pub line_of : ℕ → List ℕ
line_of k = codes "n" ++ decimal k ++ codes " = n" ++ decimal k ++ codes " + 1\n"

-- the number of a file's line, both from 0
abbrev pub number_at : ℕ → ℕ → ℕ → ℕ
number_at number file line = (number % 100 + 10 * file + line) % 100

-- the first lines of a file
abbrev pub lines_to : ℕ → ℕ → ℕ → List ℕ
lines_to number file zero = []
lines_to number file (suc line) = lines_to number file line ++ line_of (number_at number file line)

-- a file has twenty
abbrev pub text_of : ℕ → ℕ → List ℕ
text_of number file = lines_to number file 20

abbrev pub digit_of : ℕ → ℕ
digit_of n = 48 + n % 10

-- `fIIIII.txt`, with the last five digits of the file's number
abbrev pub path_of : ℕ → List ℕ
path_of file = 102 ∷ digit_of (file / 10000) ∷ digit_of (file / 1000) ∷ digit_of (file / 100) ∷ digit_of (file / 10) ∷ digit_of file ∷ codes ".txt"

abbrev pub project : List ℕ
project = codes "made"

abbrev pub put_of : ℕ → ℕ → Change
put_of number file = Put project (path_of file) Any (text_of number file)

-- the puts of the first files, in order
abbrev pub puts_to : ℕ → ℕ → List Change
puts_to number zero = []
puts_to number (suc file) = puts_to number file ++ put_of number file ∷ []
