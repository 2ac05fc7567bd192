-- What is read at a position of the files.
use Rattle.std.proofs.Common.{◌≡◌, ◌↔◌, ℕ, zero, suc, ◌+◌, ◌<◌, Bool, true, false, cond, Option, Some, None, List, [], ◌∷◌, length, get_or, slice_get, map, nat_lt, refl, sym, ap, ◌∙◌, arith}
use Rattle.std.specs.Prelude.{not}
use Rattle.std.specs.List.{position, position_or_len}
use Rattle.std.proofs.lemmas.Bool.Decides.{nat_tests}
use Rattle.std.proofs.lemmas.List.Quantifiers.{position-Some}
use Rattle.std.proofs.lemmas.Option.{slice_get-get_or, slice_get_within, same_Some}
use Rattle.std.proofs.lemmas.Slice.Eq.{bytes_eq-Decides}
use Rattle.std.specs.Str.{bytes_eq}
use Rattle.std.proofs.lemmas.List.{get_or-map, length-map, get_or_default}
use Rattle.cq_base.specs.declared.token.Token.{Token}
use Rattle.cq_history.specs.Files.{File}
use Rattle.cq_measures.specs.Measures.{span_at}
use Rattle.cq_reply.specs.declared.reply.PlaceRow.{PlaceRow}
use Rattle.cq_work.specs.declared.work.Work.{Work}
use Rattle.cq_answer.specs.Works.{Owner, work_in, works_in}

-- what is told of the file that was read
pub told_at : {L Y : Type 0} (tell : File (Work L) → Y) (files : List (Owner L)) (i : ℕ) (x : Owner L) (d : Y) → i < length files → x ≡ get_or files i x → get_or (map tell (works_in files)) i d ≡ tell (work_in x)
told_at tell files i x d inside read =
    let many = length-map files work_in in
    get_or-map tell (works_in files) i (work_in x) d (omega (arith, many, inside)) ∙ ap tell (get_or-map work_in files i x (work_in x) inside ∙ ap work_in (sym read))

pub told_many : {L Y : Type 0} (tell : File (Work L) → Y) (files : List (Owner L)) → length (map tell (works_in files)) ≡ length files
told_many tell files = length-map (works_in files) tell ∙ length-map files work_in

-- a span that was read is the one that the definition names
pub span_read : (here spans : List Token) (at : ℕ) (x : Token) → here ≡ spans → at < length spans → x ≡ get_or spans at x → x ≡ span_at here at
span_read here spans at x same inside read =
    read ∙ get_or_default spans at x _ inside ∙ ap (λ ts. span_at ts at) (sym same)

pub row_is : (path other : List ℕ) (at first last other_first other_last : ℕ) → path ≡ other → first ≡ other_first → last ≡ other_last
    → let a : PlaceRow = record { path = path; at = at; first = first; last = last } in let b : PlaceRow = record { path = other; at = at; first = other_first; last = other_last } in a ≡ b
row_is path other at first last other_first other_last p q r = λ i. record { path = p i; at = at; first = q i; last = r i }

-- a path that is there is found
low_front : (b : Bool) (n m : ℕ) → n < m → cond b (1 + n) 0 < suc m
low_front true n m less = omega (arith, less)
low_front false n m less = omega arith

found_first : (b : Bool) (n m : ℕ) → b ≡ true → cond (not b) (1 + n) 0 < suc m
found_first true n m is = omega arith
found_first false n m is = absurd (cc)

found_within : (paths : List (List ℕ)) (path : List ℕ) (i : ℕ) → slice_get paths i ≡ Some path → position_or_len (λ (p : List ℕ). bytes_eq p path) paths < length paths
found_within [] path i put = let h = slice_get_within [] i path put in absurd (omega (arith, h))
found_within (p ∷ paths) path zero put = found_first (bytes_eq p path) (position_or_len (λ (q : List ℕ). bytes_eq q path) paths) (length paths) ((bytes_eq-Decides p path).1 (same_Some _ _ put))
found_within (p ∷ paths) path (suc i) put = low_front (not (bytes_eq p path)) (position_or_len (λ (q : List ℕ). bytes_eq q path) paths) (length paths) (found_within paths path i put)

some_where : (n m : ℕ) → n < m → cond (nat_lt n m) (Some n) None ≡ Some n
some_where n m less = let h : nat_lt n m ≡ true = grind (arith, nat_tests, less) in ap (λ b. cond b (Some n) None) h

position_there : (paths : List (List ℕ)) (path : List ℕ) (r q : Option ℕ) → ((i : ℕ) → (r ≡ Some i) ↔ (slice_get paths i ≡ Some path)) → position (λ (p : List ℕ). bytes_eq p path) paths ≡ q → r ≡ q
position_there paths path r (Some j) is found =
    let (within, same, first) = position-Some (λ (p : List ℕ). bytes_eq p path) paths j [] found in
    (is j).1 (slice_get-get_or paths j [] within ∙ ap Some ((bytes_eq-Decides (get_or paths j []) path).0 same))
position_there paths path None None is found = refl
position_there paths path (Some i) None is found =
    let there = some_where (position_or_len (λ (p : List ℕ). bytes_eq p path) paths) (length paths) (found_within paths path i ((is i).0 refl)) in
    let none : Some (position_or_len (λ (p : List ℕ). bytes_eq p path) paths) ≡ None = sym there ∙ found in
    absurd (cc)

-- what a search for a path finds
pub position_is : (paths : List (List ℕ)) (path : List ℕ) (r : Option ℕ) → ((i : ℕ) → (r ≡ Some i) ↔ (slice_get paths i ≡ Some path)) → r ≡ position (λ (p : List ℕ). bytes_eq p path) paths
position_is paths path r is = position_there paths path r (position (λ (p : List ℕ). bytes_eq p path) paths) is refl
