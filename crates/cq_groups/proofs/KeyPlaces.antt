-- Places of one key, and the entries that stand for them.
use Rattle.std.proofs.Common.{◌≡◌, ◌≢◌, ℕ, ◌+◌, ◌<◌, ◌≤◌, List, [], ◌∷◌, ◌++◌, length, get_or, take, slice_get, Some, refl, sym, ap, ap₂, ◌∙◌, subst, inl, inr, ⊎_elim, arith}
use Rattle.std.specs.Prelude.{AllPairs, Contains, Any}
use Rattle.std.proofs.lemmas.Bool.{cases_order}
use Rattle.std.proofs.lemmas.List.{get_or_past}
use Rattle.std.proofs.lemmas.List.Elements.{Contains-get_or}
use Rattle.std.proofs.lemmas.Option.{get_or_from_slice_get, slice_get_within, slice_get_cases, same_Some}
use Rattle.cq_base.specs.declared.entry.Entry.{Entry}
use Rattle.cq_base.specs.declared.group.Place.{Place}
use Rattle.cq_base.specs.declared.group.Group.{Group}
use Rattle.cq_clones.specs.Lists.{AreAllInOrder}
use Rattle.cq_clones.specs.Groups.{file_at, IsBefore, StandsAt, word_at}
use Rattle.cq_base.specs.Places.{first_place}
use Rattle.cq_clones.proofs.InOrder.{in_order_same, in_order_push, in_order_none, take_more_cases, take_more_left, take_more_here, before_at}
use Rattle.cq_clones.proofs.Words.{length-word}
use Rattle.cq_clones.proofs.GroupLaws.{within_from_standing, word_of_group}
use Rattle.cq_clones.specs.Windows.{HasKey, AreKeyed, EntryBefore, IsBucket}
use Rattle.cq_groups.specs.Sets.{AreEntries, IsGroupFrom, AreAllOnce}
use Rattle.cq_groups.specs.Places.{IsPlaceOf, IsGroupOfKey}
use Rattle.cq_groups.proofs.Words.{stands_front}
use Rattle.cq_groups.proofs.Walk.{two_in}

-- two positions of one value among different ones
pub one_position : (xs : List ℕ) (i j x : ℕ) → AllPairs (λ a b. a ≢ b) xs → slice_get xs i ≡ Some x → slice_get xs j ≡ Some x → i ≡ j
one_position xs i j x apart a b =
    let at : (k : ℕ) → slice_get xs k ≡ Some x → get_or xs k x ≡ x = λ k e. get_or_from_slice_get xs k x x e in
    ⊎_elim (λ h. h)
    (λ other. ⊎_elim
    (λ lt. absurd (apart i j x lt (slice_get_within xs j x b) (at i a ∙ sym (at j b))))
    (λ gt. absurd (apart j i x gt (slice_get_within xs i x a) (at j b ∙ sym (at i a))))
    other)
    (cases_order i j)

-- a window begins at a place, and all of it is there
pub window_within : {T : Type 0} (chunk : ℕ) (corpus : List (List T)) (keys : List (List ℕ)) (key : ℕ) (p : Place) → AreKeyed chunk corpus keys → HasKey keys key p → p.at + chunk ≤ length (file_at corpus p.file)
window_within chunk corpus keys key p keyed has =
    let h = slice_get_within (file_at keys p.file) p.at key has in omega (arith, h, keyed.windows p.file)

-- and the other way round
pub key_of_window : {T : Type 0} (chunk : ℕ) (corpus : List (List T)) (keys : List (List ℕ)) (p : Place) → AreKeyed chunk corpus keys → p.at + chunk ≤ length (file_at corpus p.file) → (key : ℕ) × HasKey keys key p
key_of_window chunk corpus keys p keyed within =
    ⊎_elim
    (λ (key, lt, here, read). (key, here))
    (λ (past, none). absurd (omega (arith, past, within, keyed.windows p.file)))
    (slice_get_cases (file_at keys p.file) p.at).1

-- all places of one key are entries in the sense of the walk
pub key_entries : {T : Type 0} (chunk least key : ℕ) (corpus : List (List T)) (keys : List (List ℕ)) (places : List Place) → 1 ≤ chunk → chunk ≤ least → AreKeyed chunk corpus keys → AreAllInOrder IsBefore (HasKey keys key) places → AreEntries corpus least places
key_entries chunk least key corpus keys places some long keyed are = record {
  ordered = are.ordered;
  inside = λ k d lt.
      let has = (are.each (get_or places k d)).0 (Contains-get_or places k d lt) in
      let h = window_within chunk corpus keys key (get_or places k d) keyed has in omega (arith, h, some);
  closed = λ p q c within stands.
      let has = (are.each p).0 c in
      let w = word_at corpus p least in
      let size : length w ≡ least = length-word (file_at corpus p.file) p.at least within in
      let q_within = within_from_standing corpus w q stands (omega (arith, size, some, long)) in
      let p_front : word_at corpus p chunk ≡ take chunk w = stands_front corpus w chunk p (omega (arith, size, long)) (ap (word_at corpus p) size) in
      let q_front : word_at corpus q chunk ≡ take chunk w = stands_front corpus w chunk q (omega (arith, size, long)) stands in
      let same = keyed.equal q p (omega (arith, q_within, size, long)) (omega (arith, within, long)) (q_front ∙ sym p_front) in
      (are.each q).1 (same ∙ has);
}

-- its groups are those of the key
pub groups_of_key : {T : Type 0} (least key : ℕ) (corpus : List (List T)) (keys : List (List ℕ)) (places : List Place) (groups : List Group) → AreAllInOrder IsBefore (HasKey keys key) places → AreAllOnce (IsGroupFrom corpus least places) groups → AreAllOnce (IsGroupOfKey corpus keys least key) groups
groups_of_key least key corpus keys places groups are once =
    in_order_same (λ g h. g ≢ h) (IsGroupFrom corpus least places) (IsGroupOfKey corpus keys least key) groups
    (λ g is. (is.0, (are.each (first_place g)).0 is.1))
    (λ g is. (is.0, (are.each (first_place g)).1 is.1))
    once

-- entries and their places

abbrev pub ArePlacesOf : List ℕ → List Entry → List Place → Type 0
ArePlacesOf changes bucket places = AreAllInOrder (λ p q. p ≢ q) (λ p. Any (λ e. IsPlaceOf changes e p) bucket) places

pub any_entry : (P : Entry → Type 0) (es : List Entry) (e : Entry) → Contains es e → P e → Any P es
any_entry P es e (k, within, at) h = (k, e, within, at, h)

-- one entry more
pub places_more : (changes : List ℕ) (bucket : List Entry) (places : List Place) (i : ℕ) (e : Entry) (p : Place) → i < length bucket → e ≡ get_or bucket i e → AllPairs EntryBefore bucket → AllPairs (λ a b. a ≢ b) changes → IsPlaceOf changes e p → ArePlacesOf changes (take i bucket) places → ArePlacesOf changes (take (i + 1) bucket) (places ++ p ∷ [])
places_more changes bucket places i e p lt read ordered apart here are =
    in_order_push (λ p q. p ≢ q) (λ z. Any (λ w. IsPlaceOf changes w z) (take i bucket)) (λ z. Any (λ w. IsPlaceOf changes w z) (take (i + 1) bucket)) places p are
    (λ z (k, w, within, at, is) same. differs w z is same (before_at EntryBefore bucket i e w lt read ordered (k, within, at)))
    (λ z (k, w, within, at, is). any_entry (λ v. IsPlaceOf changes v z) (take (i + 1) bucket) w (take_more_left bucket i e w lt read (k, within, at)) is)
    (any_entry (λ v. IsPlaceOf changes v p) (take (i + 1) bucket) e (take_more_here bucket i e lt read) here)
    (λ z (k, w, within, at, is). ⊎_elim
    (λ c. inl (any_entry (λ v. IsPlaceOf changes v z) (take i bucket) w c is))
    (λ same. inr (same_spot z (subst (λ v. IsPlaceOf changes v z) (sym same) is)))
    (take_more_cases bucket i e w lt read (k, within, at)))
  where
    differs : (w : Entry) (z : Place) → IsPlaceOf changes w z → z ≡ p → EntryBefore w e → ⊥
    differs w z is same before =
        let file : z.file ≡ p.file = ap (λ v. v.file) same in
        let at : z.at ≡ p.at = ap (λ v. v.at) same in
        let change : w.change ≡ e.change = same_Some _ _ (sym is.file ∙ ap (slice_get changes) file ∙ here.file) in
        ⊎_elim (λ less. omega (arith, less, change)) (λ both. omega (arith, both.1, is.at, at, here.at)) before

    same_spot : (z : Place) → IsPlaceOf changes e z → p ≡ z
    same_spot z is =
        let file : p.file ≡ z.file = one_position changes p.file z.file e.change apart here.file is.file in
        let at : p.at ≡ z.at = here.at ∙ sym is.at in
        ap₂ (λ (x y : ℕ). let made : Place = record { file = x; at = y } in made) file at

pub places_none : (changes : List ℕ) (bucket : List Entry) (places : List Place) → places ≡ [] → ArePlacesOf changes (take 0 bucket) places
places_none changes bucket places none = subst (ArePlacesOf changes (take 0 bucket)) (sym none) (in_order_none (λ p q. p ≢ q) (λ p. Any (λ e. IsPlaceOf changes e p) (take 0 bucket)) (λ z (k, w, within, at, is). omega arith))

-- each place of the key has an entry
module _ (changes : List ℕ) (keys : List (List ℕ)) (key : ℕ) (bucket : List Entry) (size : length keys ≡ length changes) (apart : AllPairs (λ a b. a ≢ b) changes) (is : IsBucket changes keys key bucket) where
  change_of : (p : Place) → HasKey keys key p → (c : ℕ) × (slice_get changes p.file ≡ Some c)
  change_of p has =
      ⊎_elim
      (λ (c, lt, here, read). (c, here))
      (λ (past, none).
      let h = slice_get_within (file_at keys p.file) p.at key has in
      let e = ap length (get_or_past keys p.file [] (omega (arith, past, size))) in
      absurd (omega (arith, h, e)))
      (slice_get_cases changes p.file).1

  entry_of : (p : Place) → HasKey keys key p → (e : Entry) × Contains bucket e × IsPlaceOf changes e p
  entry_of p has =
      let (c, put) = change_of p has in
      (record { key = key; change = c; at = p.at }, (is.each _).1 (refl, record { file = p.file; put = put; window = has }), record { file = put; at = refl })

  -- two places of the key have two of them
  pub two_entries : (p q : Place) → HasKey keys key p → HasKey keys key q → p ≢ q → 2 ≤ length bucket
  two_entries p q has also differ =
      let (a, a_there, a_is) = entry_of p has in
      let (b, b_there, b_is) = entry_of q also in
      two_in bucket a b a_there b_there
      (λ same.
      let file : p.file ≡ q.file = one_position changes p.file q.file a.change apart a_is.file (b_is.file ∙ ap (λ (e : Entry). Some e.change) (sym same)) in
      let at : p.at ≡ q.at = a_is.at ∙ ap (λ (e : Entry). e.at) same ∙ sym b_is.at in
      differ (ap₂ (λ (x y : ℕ). let made : Place = record { file = x; at = y } in made) file at))

  -- at the end they are all places of the key
  pub places_all : (places : List Place) → ArePlacesOf changes bucket places → AreAllInOrder (λ p q. p ≢ q) (HasKey keys key) places
  places_all places are =
      in_order_same (λ p q. p ≢ q) (λ p. Any (λ e. IsPlaceOf changes e p) bucket) (HasKey keys key) places
      (λ p (k, e, within, at, here).
      let (key_is, entry) = (is.each e).0 (k, within, at) in
      let file : entry.file ≡ p.file = one_position changes entry.file p.file e.change apart entry.put here.file in
      ap₂ (λ f n. slice_get (file_at keys f) n) (sym file) here.at ∙ entry.window ∙ ap Some key_is)
      (λ p has. let (e, there, here) = entry_of p has in any_entry (λ v. IsPlaceOf changes v p) bucket e there here)
      are

  -- and a group of the key has two of them
  pub group_entries : {T : Type 0} (chunk least : ℕ) (corpus : List (List T)) (g : Group) → 1 ≤ chunk → chunk ≤ least → AreKeyed chunk corpus keys → IsGroupOfKey corpus keys least key g → 2 ≤ length bucket
  group_entries chunk least corpus g some long keyed (group, first) =
      let (p, q, pair) = group.repeated in
      two_entries p q (key_of p pair.first) (key_of q pair.second) pair.different
    where
      word_long : chunk ≤ length group.word
      word_long = omega (arith, group.tokens, group.long, long)

      front : (z : Place) → StandsAt corpus group.word z → (z.at + chunk ≤ length (file_at corpus z.file)) × (word_at corpus z chunk ≡ take chunk group.word)
      front z stands =
          let within = within_from_standing corpus group.word z stands (omega (arith, word_long, some)) in
          (omega (arith, within, word_long), stands_front corpus group.word chunk z word_long stands)

      key_of : (z : Place) → StandsAt corpus group.word z → HasKey keys key z
      key_of z stands =
          let a = front z stands in
          let b = front (first_place g) (ap (word_at corpus (first_place g)) group.tokens ∙ word_of_group corpus least g group) in
          keyed.equal z (first_place g) a.0 b.0 (a.1 ∙ sym b.1) ∙ first

  -- so that fewer have none
  pub none_of_key : {T : Type 0} (chunk least : ℕ) (corpus : List (List T)) → 1 ≤ chunk → chunk ≤ least → AreKeyed chunk corpus keys → length bucket < 2 → AreAllOnce (IsGroupOfKey corpus keys least key) []
  none_of_key chunk least corpus some long keyed few =
      in_order_none (λ g h. g ≢ h) (IsGroupOfKey corpus keys least key)
      (λ group of_key. let many = group_entries chunk least corpus group some long keyed of_key in omega (arith, many, few))
