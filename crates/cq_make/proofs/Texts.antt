-- The made files: their texts and paths are ASCII, and a text has at most 280 bytes.
use Rattle.std.proofs.Common.{◌≡◌, ℕ, zero, suc, ◌+◌, ◌*◌, ◌/◌, ◌%◌, ◌<◌, ◌≤◌, true, List, [], ◌∷◌, ◌++◌, codes, length, length-append, ap, ◌∙◌, refl, arith}
use Rattle.std.specs.Prelude.{nat_lt}
use Rattle.std.specs.Fmt.{decimal}
use Rattle.std.specs.List.{list_all}
use Rattle.std.specs.Str.{IsAscii}
use Rattle.std.proofs.lemmas.Bool.{and_parts, ltb-true}
use Rattle.std.proofs.lemmas.Fmt.{IsAscii-decimal, length-decimal-le}
use Rattle.std.proofs.lemmas.Str.{IsAscii-append, IsUtf8-from_ascii}
use Rattle.std.proofs.lemmas.Str.Ascii.{IsAscii-cons, IsAscii-nil}
use Rattle.cq_base.specs.Changes.{IsSoundChange}
use Rattle.cq_make.specs.Generator.{digit_of, line_of, lines_to, number_at, path_of, project, put_of, text_of}

below_hundred : (n : ℕ) → n % 100 < 100
below_hundred n = omega arith

are_small : (bs : List ℕ) → list_all (λ b. nat_lt b 128) bs ≡ true → IsAscii bs
are_small [] small = IsAscii-nil
are_small (b ∷ bs) small =
    let parts = and_parts (nat_lt b 128) (list_all (λ b. nat_lt b 128) bs) small in
    IsAscii-cons b bs (ltb-true b 128 parts.0) (are_small bs parts.1)

line_ascii : (k : ℕ) → k < 100 → IsAscii (line_of k)
line_ascii k small =
    let shown : IsAscii (decimal k) = IsAscii-decimal k (omega (arith, small)) in
    let first : IsAscii (codes "n" ++ decimal k) = IsAscii-append (codes "n") (decimal k) (are_small (codes "n") refl) shown in
    let middle : IsAscii (codes "n" ++ decimal k ++ codes " = n") = IsAscii-append (codes "n" ++ decimal k) (codes " = n") first (are_small (codes " = n") refl) in
    let again : IsAscii (codes "n" ++ decimal k ++ codes " = n" ++ decimal k) = IsAscii-append (codes "n" ++ decimal k ++ codes " = n") (decimal k) middle shown in
    IsAscii-append (codes "n" ++ decimal k ++ codes " = n" ++ decimal k) (codes " + 1\n") again (are_small (codes " + 1\n") refl)

lines_ascii : (number file lines : ℕ) → IsAscii (lines_to number file lines)
lines_ascii number file zero = IsAscii-nil
lines_ascii number file (suc line) = IsAscii-append (lines_to number file line) _ (lines_ascii number file line) (line_ascii (number_at number file line) (below_hundred _))

five_len : (a b c d e : List ℕ) → length (a ++ b ++ c ++ d ++ e) ≡ length a + length b + length c + length d + length e
five_len a b c d e =
    length-append (a ++ b ++ c ++ d) e ∙ ap (λ n. n + length e)
    (length-append (a ++ b ++ c) d ∙ ap (λ n. n + length d) (length-append (a ++ b) c ∙ ap (λ n. n + length c) (length-append a b)))

line_len : (k : ℕ) → k < 100 → length (line_of k) ≤ 14
line_len k small =
    let shown : length (decimal k) ≤ 2 = length-decimal-le 2 k (omega arith) small (omega (arith, small)) in
    let all : length (line_of k) ≡ 1 + length (decimal k) + 4 + length (decimal k) + 5 = five_len (codes "n") (decimal k) (codes " = n") (decimal k) (codes " + 1\n") in
    omega (arith, shown, all)

lines_len : (number file lines : ℕ) → length (lines_to number file lines) ≤ 14 * lines
lines_len number file zero = omega arith
lines_len number file (suc line) =
    let before = lines_len number file line in
    let here = line_len (number_at number file line) (below_hundred _) in
    let both = length-append (lines_to number file line) (line_of (number_at number file line)) in
    omega (arith, before, here, both)

pub text_len : (number file : ℕ) → length (text_of number file) ≤ 280
text_len number file = let most = lines_len number file 20 in omega (arith, most)

digit_first : (n : ℕ) (bs : List ℕ) → IsAscii bs → IsAscii (digit_of n ∷ bs)
digit_first n bs rest = let small : n % 10 < 10 = omega arith in IsAscii-cons (digit_of n) bs (omega (arith, small)) rest

path_ascii : (file : ℕ) → IsAscii (path_of file)
path_ascii file =
    let end : List ℕ = codes ".txt" in
    let four : List ℕ = digit_of file ∷ end in
    let three : List ℕ = digit_of (file / 10) ∷ four in
    let two : List ℕ = digit_of (file / 100) ∷ three in
    let one : List ℕ = digit_of (file / 1000) ∷ two in
    IsAscii-cons 102 (digit_of (file / 10000) ∷ one) (omega arith)
    (digit_first (file / 10000) one (digit_first (file / 1000) two (digit_first (file / 100) three (digit_first (file / 10) four (digit_first file end (are_small end refl))))))

pub put_sound : (number file : ℕ) → IsSoundChange (put_of number file)
put_sound number file = (
  IsUtf8-from_ascii project (are_small project refl),
  IsUtf8-from_ascii (path_of file) (path_ascii file),
  IsUtf8-from_ascii (text_of number file) (lines_ascii number file 20),
  let few = text_len number file in omega (arith, few),
)
