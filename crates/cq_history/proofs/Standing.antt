-- The files of a project are those of the last puts, in path order.
use Rattle.std.proofs.Common.{◌≡◌, ◌⊎◌, ℕ, zero, suc, ◌+◌, ◌-◌, ◌<◌, ◌≤◌, Bool, true, false, cond, Some, List, [], ◌∷◌, ◌++◌, length, refl, sym, subst, ap, ◌∙◌, ⊎_elim, inl, inr, length-append, arith}
use Rattle.std.specs.Prelude.{◌&&◌, not, slice_get}
use Rattle.std.specs.Str.{bytes_eq}
use Rattle.std.proofs.lemmas.Bool.{cases_lt, and_from, not-true}
use Rattle.std.proofs.lemmas.List.{append_assoc, append-nil}
use Rattle.std.proofs.lemmas.Slice.Eq.{bytes_eq-Decides}
use Rattle.cq_base.specs.declared.lang.Lang.{Lang}
use Rattle.cq_base.specs.declared.change.Change.{Change}
use Rattle.cq_base.specs.declared.change.Change.TheVariants.{Put, Drop, Gate}
use Rattle.cq_history.specs.Changes.{change_at, is_of_file}
use Rattle.cq_history.specs.Files.{Source, files_of, files_after, with_file, without_file, place_of}
use Rattle.cq_history.specs.Standing.{IsLastPut, AreStanding}
use Rattle.cq_history.proofs.PathOrder.{has_filter, filter_has, order_filter, has_insert, insert_has, order_insert, elsewhere}
use Rattle.cq_history.proofs.Prefixes.{files_of_push}
use Rattle.cq_history.proofs.Presence.{bytes_eq-sym}
use Rattle.cq_history.proofs.Numbers.{change_at-append}

-- ---- one change more

-- the newest change
newest_at : (cs : List Change) (c : Change) → slice_get (cs ++ c ∷ []) (length cs) ≡ Some c
newest_at [] c = refl
newest_at (d ∷ cs) c = newest_at cs c

pub newest : (cs : List Change) (c : Change) (k : ℕ) → k ≡ length cs + 1 → change_at (cs ++ c ∷ []) k ≡ Some c
newest cs c k is = let at : k - 1 ≡ length cs = omega (arith, is) in ap (slice_get (cs ++ c ∷ [])) at ∙ newest_at cs c

no_later_at : (cs : List Change) (i : ℕ) (c : Change) → length cs ≤ i → slice_get cs i ≡ Some c → ⊥
no_later_at [] i c past is = absurd (cc)
no_later_at (d ∷ cs) zero c past is = absurd (omega (arith, past))
no_later_at (d ∷ cs) (suc i) c past is = no_later_at cs i c (omega (arith, past)) is

pub no_later : (cs : List Change) (k : ℕ) (c : Change) → length cs < k → change_at cs k ≡ Some c → ⊥
no_later cs k c past is = no_later_at cs (k - 1) c (omega (arith, past)) is

some_same : (c d : Change) → Some c ≡ Some d → c ≡ d
some_same c d e = cc e

-- a file that stood, and that the change doesn't name, stands
pub still_last : (cs : List Change) (c : Change) (q : List ℕ) (f : Source) → IsLastPut cs q f → is_of_file q f.path c ≡ false → IsLastPut (cs ++ c ∷ []) q f
still_last cs c q f is apart =
    let more = length-append cs (c ∷ []) in
    record {
      accepted = (is.accepted.0, omega (arith, is.accepted.1, more));
      put = change_at-append cs (c ∷ []) f.number is.accepted ∙ is.put;
      last = λ k d behind at names.
          ⊎_elim
          (λ (past : length cs < k).
          ⊎_elim
          (λ (beyond : length cs + 1 < k). no_later (cs ++ c ∷ []) k d (omega (arith, beyond, more)) at)
          (λ (low : k ≤ length cs + 1).
          let same = some_same c d (sym (newest cs c k (omega (arith, past, low))) ∙ at) in
          let named : is_of_file q f.path c ≡ true = subst (λ x. is_of_file q f.path x ≡ true) (sym same) names in
          absurd (cc))
          (cases_lt (length cs + 1) k))
          (λ (low : k ≤ length cs). is.last k d behind (sym (change_at-append cs (c ∷ []) k (omega (arith, behind), low)) ∙ at) names)
          (cases_lt (length cs) k);
    }

-- what stands now stood before, and isn't named; or the change put it
pub was_last : (cs : List Change) (c : Change) (q : List ℕ) (f : Source) → IsLastPut (cs ++ c ∷ []) q f → (IsLastPut cs q f × (is_of_file q f.path c ≡ false)) ⊎ ((f.number ≡ length cs + 1) × (c ≡ Put q f.path f.lang f.body))
was_last cs c q f is =
    let more = length-append cs (c ∷ []) in
    ⊎_elim
    (λ (past : length cs < f.number).
    let number : f.number ≡ length cs + 1 = omega (arith, past, is.accepted.1, more) in
    inr (number, some_same c (Put q f.path f.lang f.body) (sym (newest cs c f.number number) ∙ is.put)))
    (λ (low : f.number ≤ length cs).
    inl (
      record {
        accepted = (is.accepted.0, low);
        put = sym (change_at-append cs (c ∷ []) f.number (is.accepted.0, low)) ∙ is.put;
        last = λ k d behind at names.
            ⊎_elim
            (λ (past : length cs < k). no_later cs k d past at)
            (λ (within : k ≤ length cs). is.last k d behind (change_at-append cs (c ∷ []) k (omega (arith, behind), within) ∙ at) names)
            (cases_lt (length cs) k);
      },
      unnamed (is_of_file q f.path c) refl (is.last (length cs + 1) c (omega (arith, low)) (newest cs c (length cs + 1) refl)),
    ))
    (cases_lt (length cs) f.number)
  where
    unnamed : (b : Bool) → is_of_file q f.path c ≡ b → (is_of_file q f.path c ≡ true → ⊥) → b ≡ false
    unnamed true e never = absurd (never e)
    unnamed false e never = refl

-- ---- all changes

-- a change that names no file of the project leaves them
left_standing : (cs : List Change) (c : Change) (q : List ℕ) (files : List Source) → ((p : List ℕ) → is_of_file q p c ≡ false) → AreStanding cs q files → AreStanding (cs ++ c ∷ []) q files
left_standing cs c q files apart are = record {
  ordered = are.ordered;
  each = λ f. (
    λ has. still_last cs c q f ((are.each f).0 has) (apart f.path),
    λ is. ⊎_elim (λ was. (are.each f).1 was.0) (λ put. let named : is_of_file q f.path (Put q f.path f.lang f.body) ≡ true = itself q f.path in let clash : is_of_file q f.path (Put q f.path f.lang f.body) ≡ false = subst (λ d. is_of_file q f.path d ≡ false) put.1 (apart f.path) in absurd (cc)) (was_last cs c q f is),
  );
}
  where
    itself : (q p : List ℕ) → (bytes_eq q q && bytes_eq p p) ≡ true
    itself q p = and_from _ _ ((bytes_eq-Decides q q).1 refl) ((bytes_eq-Decides p p).1 refl)

-- the project's name is this one
named_so : (q project path p : List ℕ) → bytes_eq q project ≡ true → (bytes_eq q project && bytes_eq p path) ≡ bytes_eq p path
named_so q project path p h = ap (λ b. b && bytes_eq p path) h

dropped : (cs : List Change) (q project path : List ℕ) (files : List Source) → bytes_eq q project ≡ true → AreStanding cs q files → AreStanding (cs ++ Drop project path ∷ []) q (without_file path files)
dropped cs q project path files own are =
    let c : Change = Drop project path in
    let test : Source → Bool = λ g. not (bytes_eq path g.path) in
    record {
      ordered = order_filter test files are.ordered;
      each = λ f. (
        λ has. let was = has_filter test files f has in still_last cs c q f ((are.each f).0 was.0) (named_so q project path f.path own ∙ bytes_eq-sym f.path path ∙ not-true _ was.1),
        λ is. ⊎_elim (λ was. filter_has test files f ((are.each f).1 was.0) (ap not (bytes_eq-sym path f.path ∙ sym (named_so q project path f.path own) ∙ was.1))) (λ put. let e : c ≡ Put q f.path f.lang f.body = put.1 in absurd (cc)) (was_last cs c q f is),
      );
    }

put_file : (cs : List Change) (q project path : List ℕ) (lang : Lang) (text : List ℕ) (files : List Source) → bytes_eq q project ≡ true → AreStanding cs q files → AreStanding (cs ++ Put project path lang text ∷ []) q (with_file (record { path = path; number = length cs + 1; lang = lang; body = text }) files)
put_file cs q project path lang text files own are =
    let c : Change = Put project path lang text in
    let g : Source = record { path = path; number = length cs + 1; lang = lang; body = text } in
    let test : Source → Bool = λ h. not (bytes_eq path h.path) in
    let more = length-append cs (c ∷ []) in
    let same : q ≡ project = (bytes_eq-Decides q project).0 own in
    record {
      ordered = order_insert (without_file path files) g (order_filter test files are.ordered) (elsewhere path files);
      each = λ f. (
        λ has.
            ⊎_elim
            (λ (here : g ≡ f). subst (IsLastPut (cs ++ c ∷ []) q) here (record {
              accepted = (omega arith, omega (arith, more));
              put = newest cs c (length cs + 1) refl ∙ ap (λ p. Some (Put p path lang text)) (sym same);
              last = λ k d behind at names. no_later (cs ++ c ∷ []) k d (omega (arith, behind, more)) at;
            }))
            (λ there. let was = has_filter test files f there in still_last cs c q f ((are.each f).0 was.0) (named_so q project path f.path own ∙ bytes_eq-sym f.path path ∙ not-true _ was.1))
            (has_insert (without_file path files) (place_of path (without_file path files)) g f has),
        λ is.
            insert_has (without_file path files) (place_of path (without_file path files)) g f
            (⊎_elim
            (λ was. inr (filter_has test files f ((are.each f).1 was.0) (ap not (bytes_eq-sym path f.path ∙ sym (named_so q project path f.path own) ∙ was.1))))
            (λ put. inl (made f put.0 put.1))
            (was_last cs c q f is)),
      );
    }
  where
    made : (f : Source) → f.number ≡ length cs + 1 → Put project path lang text ≡ Put q f.path f.lang f.body → record { path = path; number = length cs + 1; lang = lang; body = text } ≡ f
    made f number put =
        let p : path ≡ f.path = cc put in
        let l : lang ≡ f.lang = cc put in
        let t : text ≡ f.body = cc put in
        λ i. record { path = p i; number = sym number i; lang = l i; body = t i }

files_after_standing : (cs : List Change) (c : Change) (q : List ℕ) (files : List Source) → AreStanding cs q files → AreStanding (cs ++ c ∷ []) q (files_after q (length cs + 1) files c)
files_after_standing cs (Put project path lang text) q files are = go (bytes_eq q project) refl
  where
    go : (b : Bool) → bytes_eq q project ≡ b → AreStanding (cs ++ Put project path lang text ∷ []) q (cond b (with_file (record { path = path; number = length cs + 1; lang = lang; body = text }) files) files)
    go true h = put_file cs q project path lang text files h are
    go false h = left_standing cs (Put project path lang text) q files (λ p. ap (λ b. b && bytes_eq p path) h) are
files_after_standing cs (Drop project path) q files are = go (bytes_eq q project) refl
  where
    go : (b : Bool) → bytes_eq q project ≡ b → AreStanding (cs ++ Drop project path ∷ []) q (cond b (without_file path files) files)
    go true h = dropped cs q project path files h are
    go false h = left_standing cs (Drop project path) q files (λ p. ap (λ b. b && bytes_eq p path) h) are
files_after_standing cs (Gate project conditions) q files are = left_standing cs (Gate project conditions) q files (λ p. refl) are

one_more_standing : (cs : List Change) (c : Change) (q : List ℕ) → AreStanding cs q (files_of q cs) → AreStanding (cs ++ c ∷ []) q (files_of q (cs ++ c ∷ []))
one_more_standing cs c q are = subst (AreStanding (cs ++ c ∷ []) q) (sym (files_of_push q cs c)) (files_after_standing cs c q (files_of q cs) are)

from_standing : (cs ds : List Change) (q : List ℕ) → AreStanding cs q (files_of q cs) → AreStanding (cs ++ ds) q (files_of q (cs ++ ds))
from_standing cs [] q are = subst (λ xs. AreStanding xs q (files_of q xs)) (sym (append-nil cs)) are
from_standing cs (d ∷ ds) q are = subst (λ xs. AreStanding xs q (files_of q xs)) (append_assoc cs (d ∷ []) ds) (from_standing (cs ++ d ∷ []) ds q (one_more_standing cs d q are))

pub files_stand : (changes : List Change) (q : List ℕ) → AreStanding changes q (files_of q changes)
files_stand changes q = from_standing [] changes q (record {
  ordered = tt;
  each = λ f. (λ has. absurd has, λ is. absurd (omega (arith, is.accepted.0, is.accepted.1)));
})
