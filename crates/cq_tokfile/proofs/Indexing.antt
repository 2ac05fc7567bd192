-- All entries of files as they are collected, sorted by key, and those of one key among them.
use Rattle.std.proofs.Common.{◌≡◌, ◌≢◌, ◌⊎◌, ◌↔◌, ℕ, ◌+◌, ◌-◌, ◌<◌, ◌≤◌, true, false, IsTrue, ltb, List, [], ◌∷◌, ◌++◌, length, take, drop, get_or, slice_get, Some, sym, ap, ap₂, ◌∙◌, subst, inl, inr, ⊎_elim, arith, true≢false}
use Rattle.std.specs.Prelude.{AllPairs, Contains}
use Rattle.std.specs.Cmp.{IsStrictWeakOrder}
use Rattle.std.specs.List.Sorted.{IsNonDecreasingBy, IsPartitionPoint}
use Rattle.std.proofs.lemmas.Bool.{cases_lt, cases_eq, cases_Bool, ltb-true, lt-ltb}
use Rattle.std.proofs.lemmas.List.{length-take-le, length-drop, get_or-take, get_or-drop, get_or_past, take_more, map_push}
use Rattle.std.specs.Arc.{arc_value}
use Rattle.std.proofs.lemmas.Option.{same_Some, slice_get-get_or, slice_get_within}
use Rattle.cq_base.specs.declared.entry.Entry.{Entry}
use Rattle.cq_clones.specs.Groups.{file_at}
use Rattle.cq_clones.specs.Lists.{AreAllInOrder}
use Rattle.cq_clones.specs.Windows.{HasKey, IsEntryOf, EntryBefore, IsBucket}
use Rattle.cq_clones.proofs.InOrder.{in_order_same, in_order_push, in_order_none}
use Rattle.cq_order.specs.Order.{IsOrderOf}
use Rattle.cq_order.specs.Spots.{AreSpots}
use Rattle.cq_order.specs.declared.spots.Spot.{Spot}
use Rattle.cq_order.proofs.Sorting.{weak_order}
use Rattle.cq_history.specs.Files.{File}
use Rattle.cq_projects.specs.Spotted.{numbers_of}
use Rattle.cq_groups.proofs.KeyPlaces.{one_position}
use Rattle.cq_groups.proofs.Places.{sorted_once}
use Rattle.cq_tokens.specs.Corpus.{changes_of, keys_of}
use Rattle.cq_tokens.specs.declared.plain.FileTokens.{FileTokens}
use Rattle.cq_tokfile.specs.Loaded.{KeyedBefore, is_keyed_before, AreIndexed, AddsAllEntries, AreThoseOf, IsFirst, keys_in}
use Rattle.cq_work.specs.declared.work.Work.{Work}

-- ---- no change is in a list that has spots twice

pub spots_apart : (changes : List ℕ) (spots : List Spot) → AreSpots changes spots → AllPairs (λ a b. a ≢ b) changes
spots_apart changes spots are i j d less within same =
    let at : slice_get changes i ≡ Some (get_or changes i d) = slice_get-get_or changes i d (omega (arith, less, within)) in
    let also : slice_get changes j ≡ Some (get_or changes i d) = slice_get-get_or changes j d within ∙ ap Some (sym same) in
    let one = same_Some i j (sym ((are.each (get_or changes i d) i).1 at) ∙ (are.each (get_or changes i d) j).1 also) in
    omega (arith, less, one)

-- ---- the entries of one file

-- an entry of the windows of a file below `n`
pub record IsOfFile (change : ℕ) (keys : List ℕ) (n : ℕ) (e : Entry) : Type 0 where
  pub change_is : e.change ≡ change
  pub below : e.at < n
  pub window : slice_get keys e.at ≡ Some e.key

abbrev pub ArePushed : List Entry → ℕ → List ℕ → ℕ → List Entry → Type 0
ArePushed old change keys n entries = AreAllInOrder (λ a b. a ≢ b) (λ e. Contains old e ⊎ IsOfFile change keys n e) entries

pub pushed_none : (old : List Entry) (change : ℕ) (keys : List ℕ) → AllPairs (λ a b. a ≢ b) old → ArePushed old change keys 0 old
pushed_none old change keys apart = record {
  ordered = apart;
  each = λ e. (λ c. inl c, λ h. ⊎_elim (λ c. c) (λ is. absurd (omega (arith, is.below))) h);
}

same_entry : (a b : Entry) → a.key ≡ b.key → a.change ≡ b.change → a.at ≡ b.at → a ≡ b
same_entry a b e f g = grind arith

pub pushed_more : (old entries : List Entry) (change : ℕ) (keys : List ℕ) (n : ℕ) (e : Entry) → e.change ≡ change → e.at ≡ n → e.key ≡ get_or keys n 0 → n < length keys → ((z : Entry) → Contains old z → z.change ≢ change)
    → ArePushed old change keys n entries → ArePushed old change keys (n + 1) (entries ++ e ∷ [])
pushed_more old entries change keys n e change_is at_is key_is lt others before =
    let here : slice_get keys e.at ≡ Some e.key = ap (slice_get keys) at_is ∙ slice_get-get_or keys n 0 lt ∙ ap Some (sym key_is) in
    in_order_push (λ a b. a ≢ b) (λ z. Contains old z ⊎ IsOfFile change keys n z) (λ z. Contains old z ⊎ IsOfFile change keys (n + 1) z) entries e before
    (λ z h same. ⊎_elim
    (λ c. others z c (ap (λ w. w.change) same ∙ change_is))
    (λ is. let a : z.at ≡ e.at = ap (λ w. w.at) same in omega (arith, is.below, a, at_is)) h)
    (λ z h. ⊎_elim (λ c. inl c) (λ is. inr (record { change_is = is.change_is; below = omega (arith, is.below); window = is.window })) h)
    (inr (record { change_is = change_is; below = omega (arith, at_is); window = here }))
    (λ z h. ⊎_elim
    (λ c. inl (inl c))
    (λ is. ⊎_elim
    (λ less. inl (inr (record { change_is = is.change_is; below = less; window = is.window })))
    (λ ge.
    let at : e.at ≡ z.at = (let b = is.below in omega (arith, ge, b, at_is)) in
    inr (same_entry e z (same_Some e.key z.key (sym here ∙ ap (slice_get keys) at ∙ is.window)) (change_is ∙ sym is.change_is) at))
    (cases_lt z.at n))
    h)

pub pushed_all : (old entries : List Entry) (change : ℕ) (keys : List ℕ) (n : ℕ) → length keys ≤ n → ArePushed old change keys n entries → AddsAllEntries change keys old entries
pushed_all old entries change keys n past are =
    in_order_same (λ a b. a ≢ b) (λ z. Contains old z ⊎ IsOfFile change keys n z) (λ e. Contains old e ⊎ ((e.change ≡ change) × (slice_get keys e.at ≡ Some e.key))) entries
    (λ z h. ⊎_elim (λ c. inl c) (λ is. inr (is.change_is, is.window)) h)
    (λ z h. ⊎_elim (λ c. inl c) (λ (a, w). inr (record { change_is = a; below = (let lt = slice_get_within keys z.at z.key w in omega (arith, lt, past)); window = w })) h)
    are

-- ---- the entries of the first files

pub record IsOfFiles (changes : List ℕ) (keys : List (List ℕ)) (n : ℕ) (e : Entry) : Type 0 where
  pub file : ℕ
  pub below : file < n
  pub put : slice_get changes file ≡ Some e.change
  pub window : HasKey keys e.key (record { file = file; at = e.at })

abbrev pub AreOfFiles : List ℕ → List (List ℕ) → ℕ → List Entry → Type 0
AreOfFiles changes keys n entries = AreAllInOrder (λ a b. a ≢ b) (IsOfFiles changes keys n) entries

pub files_none : (changes : List ℕ) (keys : List (List ℕ)) (entries : List Entry) → entries ≡ [] → AreOfFiles changes keys 0 entries
files_none changes keys entries none = subst (AreOfFiles changes keys 0) (sym none) (in_order_none (λ a b. a ≢ b) (IsOfFiles changes keys 0) (λ z is. omega (arith, is.below)))

pub files_others : (changes : List ℕ) (keys : List (List ℕ)) (n change : ℕ) (entries : List Entry) → AllPairs (λ a b. a ≢ b) changes → slice_get changes n ≡ Some change → AreOfFiles changes keys n entries → (e : Entry) → Contains entries e → e.change ≢ change
files_others changes keys n change entries apart here are e c same =
    let is = (are.each e).0 c in
    let at : is.file ≡ n = one_position changes is.file n change apart (is.put ∙ ap Some same) here in
    omega (arith, is.below, at)

pub files_more : (changes : List ℕ) (keys : List (List ℕ)) (n change : ℕ) (file : List ℕ) (old new : List Entry) → slice_get changes n ≡ Some change → file_at keys n ≡ file → AreOfFiles changes keys n old → AddsAllEntries change file old new → AreOfFiles changes keys (n + 1) new
files_more changes keys n change file old new here file_is before are =
    in_order_same (λ a b. a ≢ b) (λ e. Contains old e ⊎ ((e.change ≡ change) × (slice_get file e.at ≡ Some e.key))) (IsOfFiles changes keys (n + 1)) new
    (λ z h. ⊎_elim
    (λ c. let is = (before.each z).0 c in record { file = is.file; below = omega (arith, is.below); put = is.put; window = is.window })
    (λ (a, w). record { file = n; below = omega arith; put = here ∙ ap Some (sym a); window = ap (λ f. slice_get f z.at) file_is ∙ w })
    h)
    (λ z is. ⊎_elim
    (λ less. inl ((before.each z).1 (record { file = is.file; below = less; put = is.put; window = is.window })))
    (λ ge.
    let e : is.file ≡ n = (let b = is.below in omega (arith, ge, b)) in
    inr (same_Some _ _ (sym is.put ∙ ap (slice_get changes) e ∙ here), ap (λ f. slice_get f z.at) (sym file_is) ∙ ap (λ f. slice_get (file_at keys f) z.at) (sym e) ∙ is.window))
    (cases_lt is.file n))
    are

-- ---- sorted

pub is_keyed_before-says : (a b : Entry) → IsTrue (is_keyed_before a b) ↔ KeyedBefore a b
is_keyed_before-says a b = (λ h. grind arith, λ h. grind arith)

KeyedBefore-apart : (a b : Entry) → KeyedBefore a b → KeyedBefore b a → ⊥
KeyedBefore-apart a b h k = grind arith

KeyedBefore-chain : (a b c : Entry) → ¬ KeyedBefore a b → ¬ KeyedBefore b c → ¬ KeyedBefore a c
KeyedBefore-chain a b c h k e = grind arith

pub is_keyed_before-order : IsStrictWeakOrder is_keyed_before
is_keyed_before-order = weak_order KeyedBefore is_keyed_before is_keyed_before-says KeyedBefore-apart KeyedBefore-chain

keyed_or_not : (a b : Entry) → KeyedBefore a b ⊎ (KeyedBefore a b → ⊥)
keyed_or_not a b = ⊎_elim (λ e. inl ((is_keyed_before-says a b).0 e)) (λ e. inr (λ k. true≢false (sym ((is_keyed_before-says a b).1 k) ∙ e))) (cases_Bool (is_keyed_before a b))

keyed_tie : (a b : Entry) → (KeyedBefore a b → ⊥) → (KeyedBefore b a → ⊥) → a ≡ b
keyed_tie a b h k = grind arith

keyed_sorted : (Is : Entry → Type 0) (xs ys : List Entry) → AreAllInOrder (λ a b. a ≢ b) Is xs → IsOrderOf KeyedBefore xs ys → AreAllInOrder KeyedBefore Is ys
keyed_sorted Is xs ys once order =
    sorted_once KeyedBefore Is xs ys
    (λ a b h k other. ⊎_elim
    (λ first. inl first)
    (λ no. ⊎_elim (λ later. inr later) (λ also. absurd (other (keyed_tie a b no also))) (keyed_or_not b a))
    (keyed_or_not a b))
    once order

pub files_all : (changes : List ℕ) (keys : List (List ℕ)) (n : ℕ) (entries sorted : List Entry) → length keys ≤ n → AreOfFiles changes keys n entries → IsOrderOf KeyedBefore entries sorted → AreIndexed changes keys sorted
files_all changes keys n entries sorted past are order =
    in_order_same KeyedBefore (IsOfFiles changes keys n) (IsEntryOf changes keys) sorted
    (λ z is. record { file = is.file; put = is.put; window = is.window })
    (λ z is. record { file = is.file; below = below z is; put = is.put; window = is.window })
    (keyed_sorted (IsOfFiles changes keys n) entries sorted are order)
  where
    below : (z : Entry) (is : IsEntryOf changes keys z) → is.file < n
    below z is = ⊎_elim (λ h. h)
        (λ ge.
        let w = slice_get_within (file_at keys is.file) z.at z.key is.window in
        let e = ap length (get_or_past keys is.file [] (omega (arith, ge, past))) in absurd (omega (arith, w, e)))
        (cases_lt is.file n)

-- ---- the entries of a key

-- sorted by key, the keys do not fall
pub keys_rise : (entries : List Entry) → AllPairs KeyedBefore entries → IsNonDecreasingBy (λ (e : Entry). e.key) entries
keys_rise entries ordered i j d le within =
    ⊎_elim
    (λ same. let e : (get_or entries i d).key ≡ (get_or entries j d).key = ap (λ k. (get_or entries k d).key) same in omega (arith, e))
    (λ other. ⊎_elim (λ less. omega (arith, less)) (λ tie. let e = tie.0 in omega (arith, e)) (ordered i j d (omega (arith, le, other)) within))
    (cases_eq i j)

module _ (key : ℕ) (entries : List Entry) (ordered : AllPairs KeyedBefore entries) where
  -- it is seen by the keys beside the place
  pub first_seen : (at : ℕ) → at ≤ length entries → ((d : Entry) → 0 < at → (get_or entries (at - 1) d).key < key) → ((d : Entry) → at < length entries → key ≤ (get_or entries at d).key) → IsFirst key entries at
  first_seen at bound before behind = record {
    bound = bound;
    lesser = λ k d low lt.
        let up = keys_rise entries ordered k (at - 1) d (omega (arith, lt)) (omega (arith, lt, bound)) in
        let last = before d (omega (arith, lt)) in
        omega (arith, up, last);
    others = λ k d low lt.
        let up = keys_rise entries ordered at k d low lt in
        let first = behind d (omega (arith, low, lt)) in
        omega (arith, up, first);
  }

  -- by halves
  pub first_parted : (at : ℕ) → at ≤ length entries → IsPartitionPoint (λ (e : Entry). ltb e.key key ≡ true) (λ (e : Entry). ltb e.key key ≡ false) entries at → IsFirst key entries at
  first_parted at bound point = record {
    bound = bound;
    lesser = λ k d low lt. ltb-true _ key (point.0 k d low lt);
    others = λ k d low lt. ⊎_elim (λ less. absurd (true≢false (sym (lt-ltb _ key less) ∙ point.1 k d low lt))) (λ h. h) (cases_lt (get_or entries k d).key key);
  }

-- those between the first with the key and the first with a greater one
module _ (key : ℕ) (entries : List Entry) (ordered : AllPairs KeyedBefore entries) (from to : ℕ) (further : from ≤ to) (first : IsFirst key entries from) (last : IsFirst (key + 1) entries to) where
  abbrev pub found : List Entry
  found = take (to - from) (drop from entries)

  reaches : to ≤ length entries
  reaches = last.bound

  many : length found ≡ to - from
  many = let left = length-drop from entries in let all = reaches in length-take-le (to - from) (drop from entries) (omega (arith, left, all))

  at_place : (k : ℕ) (d : Entry) → k < to - from → get_or found k d ≡ get_or entries (from + k) d
  at_place k d lt = get_or-take (to - from) (drop from entries) k d lt ∙ get_or-drop from entries k d

  has_key : (k : ℕ) (d : Entry) → k < to - from → (get_or entries (from + k) d).key ≡ key
  has_key k d lt =
      let all = reaches in
      let most = last.lesser (from + k) d (omega arith) (omega (arith, lt)) in
      let least = first.others (from + k) d (omega arith) (omega (arith, lt, all)) in
      omega (arith, most, least)

  -- and no other has it
  no_other : (k : ℕ) (d : Entry) → k < length entries → (get_or entries k d).key ≡ key → (from ≤ k) × (k < to)
  no_other k d lt is = (
    ⊎_elim (λ before. absurd (let less = first.lesser k d (omega arith) before in omega (arith, less, is))) (λ h. h) (cases_lt k from),
    ⊎_elim (λ h. h) (λ past. absurd (let more = last.others k d past lt in omega (arith, more, is))) (cases_lt k to),
  )

  tie : (a b : Entry) → a.key ≡ key → b.key ≡ key → KeyedBefore a b → EntryBefore a b
  tie a b e f before = ⊎_elim (λ less. absurd (omega (arith, less, e, f))) (λ h. h.1) before

  pub are_those : AreThoseOf key entries found
  are_those = record {
    ordered = λ i j d less inside.
        let lt : j < to - from = (let all = many in omega (arith, all, inside)) in
        let a = at_place i d (omega (arith, less, lt)) in
        let b = at_place j d lt in
        let pair = ordered (from + i) (from + j) d (omega (arith, less)) (let all = reaches in omega (arith, all, lt)) in
        let both = tie _ _ (has_key i d (omega (arith, less, lt))) (has_key j d lt) pair in
        subst (λ (x : Entry). EntryBefore x (get_or found j d)) (sym a) (subst (λ (y : Entry). EntryBefore (get_or entries (from + i) d) y) (sym b) both);
    each = λ e. (
      (λ (k, inside, is).
          let lt : k < to - from = (let all = many in omega (arith, all, inside)) in
          let there = sym (at_place k e lt) ∙ is in
          ((from + k, (let all = reaches in omega (arith, all, lt)), there), ap (λ (x : Entry). x.key) (sym there) ∙ has_key k e lt)),
      (λ ((k, inside, is), of).
          let range = no_other k e inside (ap (λ (x : Entry). x.key) is ∙ of) in
          let low_end = range.0 in
          let high_end = range.1 in
          let lt : k - from < to - from = omega (arith, low_end, high_end) in
          let i : from + (k - from) ≡ k = omega (arith, low_end) in
          (k - from, (let all = many in omega (arith, all, lt)), at_place (k - from) e lt ∙ ap (λ (m : ℕ). get_or entries m e) i ∙ is)),
    );
  }

-- the entries of a key among all are its bucket
pub is_bucket : (changes : List ℕ) (keys : List (List ℕ)) (key : ℕ) (entries found : List Entry) → AreIndexed changes keys entries → AreThoseOf key entries found → IsBucket changes keys key found
is_bucket changes keys key entries found indexed those =
    in_order_same EntryBefore (λ e. Contains entries e × (e.key ≡ key)) (λ e. (e.key ≡ key) × IsEntryOf changes keys e) found
    (λ z (c, k). (k, (indexed.each z).0 c))
    (λ z (k, is). ((indexed.each z).1 is, k))
    those

-- no files have no entries
pub nothing_indexed : {L : Type 0} (files : List (FileTokens L)) (entries : List Entry) → files ≡ [] → entries ≡ [] → AreIndexed (changes_of files) (keys_of files) entries
nothing_indexed {L} files entries none nothing =
    subst (λ (fs : List (FileTokens L)). AreIndexed (changes_of fs) (keys_of fs) entries) (sym none)
    (subst (AreIndexed [] []) (sym nothing) (in_order_none KeyedBefore (IsEntryOf [] []) (λ z is. let put = slice_get_within [] is.file z.change is.put in omega (arith, put))))

-- ---- files that are shared one by one

module _ {L : Type 0} (files : List (File (Work L))) (i : ℕ) (item : File (Work L)) (within : i < length files) (is : item ≡ get_or files i item) where
  one_more : take (i + 1) files ≡ take i files ++ item ∷ []
  one_more = take_more files i item within ∙ ap (λ (x : File (Work L)). take i files ++ x ∷ []) (sym is)

  pub shared_numbers : (shared more : List (FileTokens L)) (f : FileTokens L) → more ≡ shared ++ f ∷ [] → f.change ≡ item.number → changes_of shared ≡ numbers_of (take i files) → changes_of more ≡ numbers_of (take (i + 1) files)
  shared_numbers shared more f more_is same so_far =
      ap changes_of more_is ∙ map_push (λ (g : FileTokens L). g.change) shared f
      ∙ ap₂ (λ (ns : List ℕ) (n : ℕ). ns ++ n ∷ []) so_far same
      ∙ sym (ap numbers_of one_more ∙ map_push (λ (g : File (Work L)). g.number) (take i files) item)

  pub shared_keys : (shared more : List (FileTokens L)) (f : FileTokens L) → more ≡ shared ++ f ∷ [] → arc_value f.keys ≡ arc_value item.body.keys → keys_of shared ≡ keys_in (take i files) → keys_of more ≡ keys_in (take (i + 1) files)
  shared_keys shared more f more_is same so_far =
      ap keys_of more_is ∙ map_push (λ (g : FileTokens L). arc_value g.keys) shared f
      ∙ ap₂ (λ (ks : List (List ℕ)) (k : List ℕ). ks ++ k ∷ []) so_far same
      ∙ sym (ap keys_in one_more ∙ map_push (λ (g : File (Work L)). arc_value g.body.keys) (take i files) item)
