-- How many characters and parts a text has, and how long they are.
use Rattle.std.proofs.Common.{◌≡◌, ℕ, zero, suc, ◌+◌, ◌<◌, ◌≤◌, List, [], ◌∷◌, length, get_or, Bool, true, false, cond, ◌&&◌, IsUtf8, lit<, refl, ap, ◌∙◌, arith}
use Rattle.std.specs.Prelude.{◌==◌, nat_le}
use Rattle.std.proofs.lemmas.Bool.{and_parts, leb-true}
use Rattle.std.proofs.lemmas.Iterator.{YieldsList}
use Rattle.std.proofs.lemmas.Iterator.Splits.{YieldsList-from_str_split}
use Rattle.std.proofs.lemmas.Str.{length-le-encodes, encodes-chars, IsUtf8-from_is_utf8}
use Rattle.std.proofs.lemmas.List.Sums.{count_by-le-length}
use Rattle.std.proofs.lemmas.List.Splits.{length-slice_split}
use Rattle.std.specs.List.{list_all, onto_first}
use Rattle.std.specs.Str.{chars, is_utf8}
use Rattle.std.specs.declared.str.Split.{Split}
use Rattle.std.specs.Str.Iter.{split_steps, split_text, split_has_more, split_pattern}
use Rattle.std.specs.Str.Pattern.{FindsChar}
use Rattle.cq_names.specs.Names.{parts, is_part, is_path_byte, is_path_text, is_path}

pub few_chars : (text : List ℕ) → IsUtf8 text → length (chars text) ≤ length text
few_chars text utf8 = let all = ap length (encodes-chars text utf8) in omega (arith, length-le-encodes (chars text))

-- a walk over what a text is split into at `/` goes over its parts
pub yields_parts : {s t : Split ℕ} (text : List ℕ) → t ≡ s → split_text s ≡ text → split_has_more s ≡ true → split_pattern s ≡ 47 → YieldsList (split_steps FindsChar (λ a b. b ≡ a)) (λ x. x.now) t (parts text)
yields_parts text is has more pattern = YieldsList-from_str_split 47 text (lit< tt) (ap split_text is ∙ has) (ap split_has_more is ∙ more) (ap split_pattern is ∙ pattern)

pub some_parts : (text : List ℕ) → length (parts text) ≤ length text + 1
some_parts text = omega (arith, length-slice_split (λ b. b == 47) text, count_by-le-length (λ b. b == 47) text)

-- ---- a part is no longer than the text

cut_short : (is_cut : Bool) (b : ℕ) (bs : List ℕ) (ps : List (List ℕ)) (k : ℕ) (d : List ℕ) → ((j : ℕ) → j < length ps → length (get_or ps j d) ≤ length bs)
    → k < length (cond is_cut ([] ∷ ps) (onto_first b ps)) → length (get_or (cond is_cut ([] ∷ ps) (onto_first b ps)) k d) ≤ suc (length bs)
cut_short true b bs ps zero d each inside = omega arith
cut_short true b bs ps (suc k) d each inside = omega (arith, each k (omega (arith, inside)))
cut_short false b bs [] zero d each inside = omega arith
cut_short false b bs [] (suc k) d each inside = absurd (omega (arith, inside))
cut_short false b bs (p ∷ ps) zero d each inside = omega (arith, each 0 (omega arith))
cut_short false b bs (p ∷ ps) (suc k) d each inside = omega (arith, each (suc k) inside)

pub short_part : (text : List ℕ) (k : ℕ) (d : List ℕ) → k < length (parts text) → length (get_or (parts text) k d) ≤ length text
short_part [] zero d inside = omega arith
short_part [] (suc k) d inside = absurd (omega (arith, inside))
short_part (b ∷ bs) k d inside = cut_short (b == 47) b bs (parts bs) k d (λ j within. short_part bs j d within) inside

pub short_next : (text : List ℕ) (k : ℕ) (part : List ℕ) → k < length (parts text) → part ≡ get_or (parts text) k part → length part ≤ length text
short_next text k part inside is = omega (arith, ap length is, short_part text k part inside)

-- ---- a path has no more parts than bytes

cut_few : (is_cut : Bool) (b : ℕ) (bs : List ℕ) (ps : List (List ℕ)) → length ps ≤ length bs + 1 → list_all is_part (cond is_cut ([] ∷ ps) (onto_first b ps)) ≡ true
    → length (cond is_cut ([] ∷ ps) (onto_first b ps)) ≤ suc (length bs)
cut_few true b bs ps few good = let bad : false ≡ true = good in absurd (cc)
cut_few false b bs [] few good = omega arith
cut_few false b bs (p ∷ ps) few good = omega (arith, few)

few_parts : (text : List ℕ) → list_all is_part (parts text) ≡ true → length (parts text) ≤ length text
few_parts [] good = let bad : false ≡ true = good in absurd (cc)
few_parts (b ∷ bs) good = cut_few (b == 47) b bs (parts bs) (some_parts bs) good

-- ---- what is so of a path

pub path_utf8 : (path : List ℕ) → is_path path ≡ true → IsUtf8 path
path_utf8 path good = IsUtf8-from_is_utf8 path (and_parts (is_utf8 path) (is_path_text path) good).0

second_and_last : (a b c d : Bool) → (a && b && c && d) ≡ true → (b ≡ true) × (d ≡ true)
second_and_last true true true true all = (refl, refl)
second_and_last true true true false all = let bad : false ≡ true = all in absurd (cc)
second_and_last true true false d all = let bad : false ≡ true = all in absurd (cc)
second_and_last true false c d all = let bad : false ≡ true = all in absurd (cc)
second_and_last false b c d all = let bad : false ≡ true = all in absurd (cc)

form_of : (path : List ℕ) → is_path path ≡ true → (length path ≤ 512) × (list_all is_part (parts path) ≡ true)
form_of path good =
    let of_text = (and_parts (is_utf8 path) (is_path_text path) good).1 in
    let form = second_and_last (nat_le 1 (length path)) (nat_le (length path) 512) (list_all is_path_byte path) (list_all is_part (parts path)) of_text in
    (leb-true (length path) 512 form.0, form.1)

pub short_path : (path : List ℕ) → is_path path ≡ true → length path < 513
short_path path good = omega (arith, (form_of path good).0)

pub few_in_path : (path : List ℕ) → is_path path ≡ true → length (parts path) < 513
few_in_path path good = let form = form_of path good in omega (arith, form.0, few_parts path form.1)
