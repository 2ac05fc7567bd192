-- Marks of tokens, as more tokens are seen.
use Rattle.std.proofs.Common.{◌≡◌, ◌≢◌, ◌↔◌, ◌-◌, Bool, true, false, cond, None, append-nil, ℕ, zero, suc, ◌+◌, ◌<◌, List, [], ◌∷◌, ◌++◌, length, map, slice_get, Option, Some, IsSome, is_some, refl, sym, ap, ◌∙◌, subst, ⊎_elim, arith, length-append, true≢false}
use Rattle.std.specs.Prelude.{AllPairs, Contains}
use Rattle.std.proofs.lemmas.List.{length_push, map_push}
use Rattle.std.proofs.lemmas.List.Elements.{Contains-push_cases}
use Rattle.std.proofs.lemmas.List.Quantifiers.{all_pairs_push}
use Rattle.std.proofs.lemmas.Option.{get_or_from_slice_get, slice_get-get_or, slice_get_within, same_Some}
use Rattle.std.proofs.lemmas.Bool.{cases_order, cases_lt}
use Rattle.cq_base.proofs.Lists.{Contains-nil, slice_get-append_left, slice_get-push}
use Rattle.cq_clones.specs.Groups.{token_ahead, AreSame}
use Rattle.std.specs.BTreeMap.{BTreeMap, Updates, get, btree_map_len}
use Rattle.std.specs.Option.{unwrap_or}
use Rattle.std.specs.Ordering.{is_eq}
use Rattle.cq_base.specs.declared.norm.Norm.{Norm}
use Rattle.cq_tokens.specs.Laws.{EqualTokensTie}
use Rattle.cq_tokens.specs.Packed.{norm_in, seen_cmp}
use Rattle.cq_tokens.specs.declared.seen.Seen.{Seen}
use Rattle.cq_groups.specs.Sets.{AreMarks, AreMarksOf, IsMark, IsMarked, Grows}

-- a loop has given these keys, each with the mark of its token
pub record Marking {T K X : Type 0} (token : X → Option T) (key : X → K) (mark : X → ℕ) (seen : List T) (ks : List K) (xs : List X) : Type 0 where
  pub apart : AllPairs (λ a b. a ≢ b) seen
  pub keys : map key xs ≡ ks
  pub marks : (x : X) → Contains xs x → IsMark seen (token x) (mark x)

-- none has a mark at first
pub marks_none : {T Q : Type 0} (token : Q → T) (marks : Q → Option ℕ) → ((q : Q) → marks q ≡ None) → AreMarksOf token marks []
marks_none token marks none q mark = (λ h. absurd (true≢false (sym (ap is_some (sym (none q) ∙ h)))), λ (some, here). absurd (true≢false (sym (ap is_some here))))

pub marking_none : {T K X : Type 0} (token : X → Option T) (key : X → K) (mark : X → ℕ) (seen : List T) → AllPairs (λ a b. a ≢ b) seen → Marking token key mark seen [] []
marking_none token key mark seen apart = record {
  apart = apart;
  keys = refl;
  marks = λ x c. absurd (Contains-nil x c);
}

-- a mark stays when more is seen
pub mark_stays : {T : Type 0} (old new : List T) (token : Option T) (mark : ℕ) → Grows old new → IsMark old token mark → IsMark new token mark
mark_stays old new token zero grows is = record { within = omega arith; names = is.names }
mark_stays old new token (suc i) grows is =
    let lt : i < length old = omega (arith, is.within) in
    record {
      within = omega (arith, ap length grows.is, length-append old grows.more);
      names = ap (λ xs. slice_get xs i) grows.is ∙ slice_get-append_left old grows.more i lt ∙ is.names;
    }

-- one key more
pub marking_more : {T K X : Type 0} (token : X → Option T) (key : X → K) (mark : X → ℕ) (old new : List T) (keys more : List K) (xs : List X) (x : X) → Grows old new → AllPairs (λ a b. a ≢ b) new → IsMark new (token x) (mark x) → more ≡ keys ++ key x ∷ [] → Marking token key mark old keys xs → Marking token key mark new more (xs ++ x ∷ [])
marking_more token key mark old new keys more xs x grows apart here more_is is = record {
  apart = apart;
  keys = map_push key xs x ∙ ap (λ ks. ks ++ key x ∷ []) is.keys ∙ sym more_is;
  marks = λ z c. ⊎_elim
      (λ h. mark_stays old new (token z) (mark z) grows (is.marks z h))
      (λ e. subst (λ w. IsMark new (token w) (mark w)) e here)
      (Contains-push_cases xs x z c);
}

-- equal marks but 0 are equal tokens, and the other way round
pub same_from_marks : {T : Type 0} (seen : List T) (a b : Option T) (m n : ℕ) → IsMark seen a m → IsMark seen b n → m ≡ n → 0 < m → AreSame a b
same_from_marks seen a b zero n p q e some = absurd (omega arith)
same_from_marks seen a b (suc i) n p q e some =
    let named : slice_get seen i ≡ a = p.names in
    let lt : i < length seen = omega (arith, p.within) in
    let same : a ≡ b = sym named ∙ ap (token_ahead seen) e ∙ q.names in
    (is_there seen i a lt named, same)
  where
    is_there : {T : Type 0} (xs : List T) (i : ℕ) (a : Option T) → i < length xs → slice_get xs i ≡ a → IsSome a
    is_there [] i a lt e = absurd (omega arith)
    is_there (x ∷ xs) zero a lt e = ap is_some (sym e)
    is_there (x ∷ xs) (suc i) a lt e = is_there xs i a (omega arith) e

one_place : {T : Type 0} (seen : List T) (i j : ℕ) (t : T) → AllPairs (λ a b. a ≢ b) seen → slice_get seen i ≡ Some t → slice_get seen j ≡ Some t → i < j → ⊥
one_place seen i j t apart a b lt =
    apart i j t lt (slice_get_within seen j t b) (get_or_from_slice_get seen i t t a ∙ sym (get_or_from_slice_get seen j t t b))

pub marks_of_token : {T : Type 0} (seen : List T) (t : T) (m n : ℕ) → AllPairs (λ a b. a ≢ b) seen → IsMark seen (Some t) m → IsMark seen (Some t) n → (m ≡ n) × (0 < m)
marks_of_token seen t zero n apart p q = absurd (true≢false (sym (ap is_some p.names)))
marks_of_token seen t (suc i) zero apart p q = absurd (true≢false (sym (ap is_some q.names)))
marks_of_token seen t (suc i) (suc j) apart p q = (
  ⊎_elim (λ h. ap suc h)
      (λ other. ⊎_elim
      (λ h. absurd (one_place seen i j t apart p.names q.names h))
      (λ h. absurd (one_place seen j i t apart q.names p.names h)) other)
      (cases_order i j),
  omega arith,
)

-- a token is at one place among different ones
pub same_place : {T : Type 0} (seen : List T) (i j : ℕ) (t : T) → AllPairs (λ a b. a ≢ b) seen → slice_get seen i ≡ Some t → slice_get seen j ≡ Some t → i ≡ j
same_place seen i j t apart a b =
    ⊎_elim (λ h. h)
    (λ other. ⊎_elim
    (λ h. absurd (one_place seen i j t apart a b h))
    (λ h. absurd (one_place seen j i t apart b a h)) other)
    (cases_order i j)

-- a token that has a mark
pub mark_found : {T : Type 0} (seen : List T) (t : T) (token : Option T) (mark : ℕ) → (0 < mark) × (slice_get seen (mark - 1) ≡ Some t) → token ≡ Some t → IsMark seen token mark
mark_found seen t token zero (some, here) is = absurd (omega (arith, some))
mark_found seen t token (suc i) (some, here) is =
    let e : suc i - 1 ≡ i = omega arith in
    let at : slice_get seen i ≡ Some t = subst (λ n. slice_get seen n ≡ Some t) e here in
    record { within = slice_get_within seen i t at; names = at ∙ sym is }

-- none has one
pub no_mark : {T : Type 0} (seen : List T) (token : Option T) → token ≡ None → IsMark seen token 0
no_mark seen token is = record { within = omega arith; names = sym is }

pub grows_not : {T : Type 0} (seen : List T) → Grows seen seen
grows_not seen = record { more = []; is = sym (append-nil seen) }

-- a token that is another one, whose mark is known
pub marked_as_other : (seen : List Norm) (marks : BTreeMap Seen ℕ) (other token : Option Norm) (mark : ℕ) → AreSame other token → AreMarks marks seen → IsMark seen other mark → IsMarked seen marks token mark
marked_as_other seen marks other token mark same are is = record {
  tokens = seen;
  grows = grows_not seen;
  are = are;
  is = subst (λ o. IsMark seen o mark) same.1 is;
}

-- a token that was not there is taken in
module _ {T Q : Type 0} (token : Q → T) (old new : Q → Option ℕ) (seen : List T) (key : Q) (tie : Q → Bool) (ties : (q : Q) → (tie q ≡ true) ↔ (token key ≡ token q)) where
  absent : AreMarksOf token old seen → old key ≡ None → (k : ℕ) → slice_get seen k ≡ Some (token key) → ⊥
  absent are none k here =
      let e : suc k - 1 ≡ k = omega arith in
      let found : old key ≡ Some (suc k) = (are key (suc k)).1 (omega arith, subst (λ n. slice_get seen n ≡ Some (token key)) (sym e) here) in
      true≢false (sym (ap is_some (sym none ∙ found)))

  pub apart_more : AllPairs (λ a b. a ≢ b) seen → AreMarksOf token old seen → old key ≡ None → AllPairs (λ a b. a ≢ b) (seen ++ token key ∷ [])
  apart_more apart are none =
      all_pairs_push (λ a b. a ≢ b) seen (token key) apart
      (λ k d lt is. absent are none k (slice_get-get_or seen k d lt ∙ ap Some is))

  pub marks_more : (mark : ℕ) → mark ≡ length seen + 1 → AllPairs (λ a b. a ≢ b) seen → AreMarksOf token old seen → old key ≡ None → ((q : Q) → new q ≡ cond (tie q) (Some mark) (old q)) → AreMarksOf token new (seen ++ token key ∷ [])
  marks_more mark is apart are none updates q n = by (tie q) refl
    where
      longer : List T
      longer = seen ++ token key ∷ []

      last : slice_get longer (mark - 1) ≡ Some (token key)
      last = ap (slice_get longer) (omega (arith, is)) ∙ slice_get-push seen (token key)

      size : length longer ≡ length seen + 1
      size = length_push seen (token key)

      by : (b : Bool) → tie q ≡ b → (new q ≡ Some n) ↔ ((0 < n) × (slice_get longer (n - 1) ≡ Some (token q)))
      by true at =
          let same : token key ≡ token q = (ties q).0 at in
          let now : new q ≡ Some mark = updates q ∙ ap (λ b. cond b (Some mark) (old q)) at in (
            λ h. let e : mark ≡ n = same_Some mark n (sym now ∙ h) in (omega (arith, e, is), ap (λ k. slice_get longer (k - 1)) (sym e) ∙ last ∙ ap Some same),
            λ (some, here).
                let e : mark - 1 ≡ n - 1 = same_place longer (mark - 1) (n - 1) (token q) (apart_more apart are none) (last ∙ ap Some same) here in
                now ∙ ap Some (omega (arith, e, some, is)),
          )
      by false at =
          let now : new q ≡ old q = updates q ∙ ap (λ b. cond b (Some mark) (old q)) at in (
            λ h. let p = (are q n).0 (sym now ∙ h) in (p.0, slice_get-append_left seen (token key ∷ []) (n - 1) (slice_get_within seen (n - 1) (token q) p.1) ∙ p.1),
            λ (some, here). now ∙ (are q n).1 (
              some,
              ⊎_elim
                  (λ lt. sym (slice_get-append_left seen (token key ∷ []) (n - 1) lt) ∙ here)
                  (λ ge.
                  let within : n - 1 < length longer = slice_get_within longer (n - 1) (token q) here in
                  let e : n - 1 ≡ length seen = omega (arith, ge, within, size) in
                  let same : token key ≡ token q = same_Some _ _ (sym (ap (slice_get longer) e ∙ slice_get-push seen (token key)) ∙ here) in
                  absurd (true≢false (sym ((ties q).1 same) ∙ at)))
                  (cases_lt (n - 1) (length seen)),
            ),
          )

  -- a token that was there has its mark still
  pub marks_same : (mark : ℕ) → old key ≡ Some mark → AreMarksOf token old seen → ((q : Q) → new q ≡ cond (tie q) (Some mark) (old q)) → AreMarksOf token new seen
  marks_same mark here are updates q n = subst (λ o. (o ≡ Some n) ↔ ((0 < n) × (slice_get seen (n - 1) ≡ Some (token q)))) (sym (by (tie q) refl)) (are q n)
    where
      by : (b : Bool) → tie q ≡ b → new q ≡ old q
      by true at =
          let mine = (are key mark).0 here in
          updates q ∙ ap (λ b. cond b (Some mark) (old q)) at ∙ sym ((are q mark).1 (mine.0, mine.1 ∙ ap Some ((ties q).0 at)))
      by false at = updates q ∙ ap (λ b. cond b (Some mark) (old q)) at

pub mark_new : {T : Type 0} (seen : List T) (t : T) (token : Option T) (mark : ℕ) → mark ≡ length seen + 1 → token ≡ Some t → IsMark (seen ++ t ∷ []) token mark
mark_new seen t token mark is token_is =
    mark_found (seen ++ t ∷ []) t token mark (omega (arith, is), ap (slice_get (seen ++ t ∷ [])) (omega (arith, is)) ∙ slice_get-push seen t) token_is

-- a mark but 0 is that of a token
pub some_of_mark : {T : Type 0} (seen : List T) (token : Option T) (mark : ℕ) → IsMark seen token mark → 0 < mark → IsSome token
some_of_mark seen token mark is some = (same_from_marks seen token token mark mark is is refl some).0

-- the map after one search, which took the token in where it was new
module _ (ties : EqualTokensTie) (marks new : BTreeMap Seen ℕ) (s : Seen) (mark : ℕ) (value : Option ℕ) (was : value ≡ get seen_cmp marks s) (mark_is : mark ≡ unwrap_or value (btree_map_len marks + 1)) (updates : Updates seen_cmp marks new s (Some mark)) (size : btree_map_len new ≡ btree_map_len marks + cond (is_some value) 0 1)
    (token : Option Norm) (is : token ≡ Some (norm_in s)) (seen : List Norm) (are : AreMarks marks seen) where
  marked_new : value ≡ None → IsMarked seen new token mark
  marked_new none =
      let absent : get seen_cmp marks s ≡ None = sym was ∙ none in
      let one : cond (is_some value) 0 1 ≡ 1 = ap {B = ℕ} (λ o. cond (is_some o) 0 1) none in
      let last : mark ≡ length seen + 1 = mark_is ∙ ap (λ o. unwrap_or o (btree_map_len marks + 1)) none ∙ ap (λ n. n + 1) are.size in
      record {
        tokens = seen ++ norm_in s ∷ [];
        grows = record { more = norm_in s ∷ []; is = refl };
        are = record {
          size = omega (arith, are.size, length_push seen (norm_in s), size, one);
          apart = apart_more norm_in (get seen_cmp marks) (get seen_cmp new) seen s (λ q. is_eq (seen_cmp s q)) (ties s) are.apart are.each absent;
          each = marks_more norm_in (get seen_cmp marks) (get seen_cmp new) seen s (λ q. is_eq (seen_cmp s q)) (ties s) mark last are.apart are.each absent updates.0;
        };
        is = mark_new seen (norm_in s) token mark last is;
      }

  marked_again : (m : ℕ) → value ≡ Some m → IsMarked seen new token mark
  marked_again m some =
      let here : mark ≡ m = mark_is ∙ ap (λ o. unwrap_or o (btree_map_len marks + 1)) some in
      let found : get seen_cmp marks s ≡ Some mark = sym was ∙ some ∙ ap Some (sym here) in
      let none : cond (is_some value) 0 1 ≡ 0 = ap {B = ℕ} (λ o. cond (is_some o) 0 1) some in
      record {
        tokens = seen;
        grows = grows_not seen;
        are = record {
          size = omega (arith, are.size, size, none);
          apart = are.apart;
          each = marks_same norm_in (get seen_cmp marks) (get seen_cmp new) seen s (λ q. is_eq (seen_cmp s q)) (ties s) mark found are.each updates.0;
        };
        is = mark_found seen (norm_in s) token mark ((are.each s mark).0 found) is;
      }

  pub marked_by_entry : IsMarked seen new token mark
  marked_by_entry = by value refl
    where
      by : (o : Option ℕ) → value ≡ o → IsMarked seen new token mark
      by None none = marked_new none
      by (Some m) some = marked_again m some
