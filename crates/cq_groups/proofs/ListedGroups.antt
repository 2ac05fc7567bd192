-- Lists of groups by keys, as they grow, and what they are at the end.
use Rattle.std.proofs.Common.{◌≡◌, ◌≢◌, ℕ, zero, suc, ◌+◌, ◌<◌, ◌≤◌, Bool, true, false, true≢false, eqb, eqb-true, eq-eqb, List, [], ◌∷◌, ◌++◌, length, get_or, take, slice_get, Option, Some, None, refl, sym, ap, ◌∙◌, subst, ⊎_elim, arith}
use Rattle.std.specs.Prelude.{AllPairs, Contains, Any, filter}
use Rattle.std.proofs.lemmas.Bool.{cases_Bool}
use Rattle.std.proofs.lemmas.List.Elements.{Contains-append_left, Contains-append_right, Contains-append_cases}
use Rattle.std.proofs.lemmas.List.Kept.{AllPairs-filter}
use Rattle.std.proofs.lemmas.Option.{same_Some, get_or_from_slice_get, slice_get_within}
use Rattle.cq_base.specs.declared.group.Place.{Place}
use Rattle.cq_base.specs.declared.group.Group.{Group}
use Rattle.cq_clones.specs.Lists.{AreAllInOrder}
use Rattle.cq_clones.specs.Groups.{file_at, IsBefore, word_at, StandsAt, kept_after, is_free, IsGroup, ComesBefore, AreGroups, AreGroupsIn}
use Rattle.cq_base.specs.Places.{first_place}
use Rattle.cq_clones.proofs.InOrder.{in_order_same, in_order_none, take_more_cases, take_more_left, take_more_here, before_at}
use Rattle.cq_base.proofs.Lists.{Contains-nil, Contains-here, Contains-there, Contains-cases, Contains-filter, Contains-from_filter, AllPairs-append}
use Rattle.cq_clones.proofs.GroupLaws.{within_from_standing, word_of_group, groups_of_first_place}
use Rattle.cq_clones.specs.Windows.{key_at, HasKey, AreKeyed}
use Rattle.cq_order.specs.Order.{IsOrderOf}
use Rattle.cq_groups.proofs.Sorted.{groups_sorted}
use Rattle.cq_groups.specs.Sets.{AreAllOnce}
use Rattle.cq_groups.specs.Places.{IsGroupOfKey}
use Rattle.cq_groups.proofs.Words.{stands_front}
use Rattle.cq_groups.proofs.KeyPlaces.{key_of_window}
use Rattle.cq_groups.proofs.Places.{ordered_of}
use Rattle.cq_groups.specs.Listing.{HasOneOf, IsGroupOfKeys, IsKeyIn, IsRepeatedKey, AreAllRising, has_file}

any_key : (P : ℕ → Type 0) (ks : List ℕ) (k : ℕ) → Contains ks k → P k → Any P ks
any_key P ks k (i, within, at) h = (i, k, within, at, h)

-- the groups of one key more
pub groups_more : {T : Type 0} (corpus : List (List T)) (keys : List (List ℕ)) (least : ℕ) (ks : List ℕ) (i k : ℕ) (old found : List Group) → i < length ks → k ≡ get_or ks i k → AllPairs (λ a b. a < b) ks → AreAllOnce (IsGroupOfKeys corpus keys least (take i ks)) old → AreAllOnce (IsGroupOfKey corpus keys least k) found → AreAllOnce (IsGroupOfKeys corpus keys least (take (i + 1) ks)) (old ++ found)
groups_more {T} corpus keys least ks i k old found lt read rising before here = record {
  ordered = AllPairs-append (λ g h. g ≢ h) old found before.ordered here.ordered
      (λ g h c e same.
      let (n, j, within, at, has) = ((before.each g).0 c).1 in
      let has_k = ((here.each h).0 e).1 in
      let j_is : j ≡ k = same_Some _ _ (sym has ∙ ap (λ z. key_at keys (first_place z)) same ∙ has_k) in
      let less = before_at_number ks i k j lt read rising (n, within, at) in omega (arith, less, j_is));
  each = λ g. (
    λ c. ⊎_elim
        (λ a. let h = (before.each g).0 a in let (n, j, within, at, has) = h.1 in (h.0, any_key (λ z. HasKey keys z (first_place g)) (take (i + 1) ks) j (take_more_left ks i k j lt read (n, within, at)) has))
        (λ b. let h = (here.each g).0 b in (h.0, any_key (λ z. HasKey keys z (first_place g)) (take (i + 1) ks) k (take_more_here ks i k lt read) h.1))
        (Contains-append_cases old found g c),
    λ (is, (n, j, within, at, has)). ⊎_elim
        (λ a. Contains-append_left old found g ((before.each g).1 (is, any_key (λ z. HasKey keys z (first_place g)) (take i ks) j a has)))
        (λ e. Contains-append_right old found g ((here.each g).1 (is, has ∙ ap Some (sym e))))
        (take_more_cases ks i k j lt read (n, within, at)),
  );
}
  where
    before_at_number : (ks : List ℕ) (i k j : ℕ) → i < length ks → k ≡ get_or ks i k → AllPairs (λ a b. a < b) ks → Contains (take i ks) j → j < k
    before_at_number ks i k j lt read rising c = before_at (λ a b. a < b) ks i k j lt read rising c

pub groups_none : {T : Type 0} (corpus : List (List T)) (keys : List (List ℕ)) (least : ℕ) (ks : List ℕ) (groups : List Group) → groups ≡ [] → AreAllOnce (IsGroupOfKeys corpus keys least (take 0 ks)) groups
groups_none corpus keys least ks groups none =
    subst (AreAllOnce (IsGroupOfKeys corpus keys least (take 0 ks))) (sym none)
    (in_order_none (λ g h. g ≢ h) (IsGroupOfKeys corpus keys least (take 0 ks)) (λ g (is, (n, j, within, at, has)). omega arith))

-- no two of some groups agree in first place and length
groups_apart : {T : Type 0} (corpus : List (List T)) (least : ℕ) (Is : Group → Type 0) → ((g : Group) → Is g → IsGroup corpus least g) → (g h : Group) → Is g → Is h → first_place g ≡ first_place h → g.tokens ≡ h.tokens → g ≡ h
groups_apart corpus least Is all g h a b first tokens = groups_of_first_place corpus least g h (all g a) (all h b) first tokens

-- a group's word begins with a window, whose key stands at each place of the word
key_of_group : {T : Type 0} (chunk least : ℕ) (corpus : List (List T)) (keys : List (List ℕ)) (g : Group) (p : Place) → 1 ≤ chunk → chunk ≤ least → AreKeyed chunk corpus keys → (is : IsGroup corpus least g) → StandsAt corpus is.word p → (k : ℕ) × HasKey keys k p × HasKey keys k (first_place g)
key_of_group chunk least corpus keys g p some long keyed is stands =
    let f = first_place g in
    let f_stands : StandsAt corpus is.word f = ap (word_at corpus f) is.tokens ∙ word_of_group corpus least g is in
    let f_within = within_from_standing corpus is.word f f_stands (omega (arith, is.tokens, is.long, some, long)) in
    let p_within = within_from_standing corpus is.word p stands (omega (arith, is.tokens, is.long, some, long)) in
    let f_front = stands_front corpus is.word chunk f (omega (arith, is.tokens, is.long, long)) f_stands in
    let p_front = stands_front corpus is.word chunk p (omega (arith, is.tokens, is.long, long)) stands in
    let (k, has) = key_of_window chunk corpus keys p keyed (omega (arith, p_within, is.tokens, is.long, long)) in
    let same = keyed.equal f p (omega (arith, f_within, is.tokens, is.long, long)) (omega (arith, p_within, is.tokens, is.long, long)) (f_front ∙ sym p_front) in
    (k, has, same ∙ has)

-- of the keys that windows at two places have they are all groups
pub all_groups : {T : Type 0} (chunk least : ℕ) (corpus : List (List T)) (keys : List (List ℕ)) (ks : List ℕ) (found groups : List Group) → 1 ≤ chunk → chunk ≤ least → AreKeyed chunk corpus keys → AreAllRising (IsRepeatedKey keys) ks → AreAllOnce (IsGroupOfKeys corpus keys least ks) found → IsOrderOf ComesBefore found groups → AreGroups corpus least groups
all_groups {T} chunk least corpus keys ks found groups some long keyed all once order =
    in_order_same ComesBefore (IsGroupOfKeys corpus keys least ks) (IsGroup corpus least) groups
    (λ g h. h.0)
    (λ g is.
    let (p, q, pair) = is.repeated in
    let (k, has, first) = key_of_group chunk least corpus keys g p some long keyed is pair.first in
    let (j, also, other) = key_of_group chunk least corpus keys g q some long keyed is pair.second in
    let has_q : HasKey keys k q = also ∙ sym other ∙ first in
    let twice : IsRepeatedKey keys k = ⊎_elim (λ h. (p, q, h, has, has_q)) (λ h. (q, p, h, has_q, has)) (ordered_of p q pair.different) in
    (is, any_key (λ z. HasKey keys z (first_place g)) ks k ((all.each k).1 twice) first))
    (groups_sorted (IsGroupOfKeys corpus keys least ks) found groups (groups_apart corpus least (IsGroupOfKeys corpus keys least ks) (λ g h. h.0)) once order)

-- the kept places are places of the word
kept_within : (n : ℕ) (last : Option Place) (all : List Place) (p : Place) → Contains (kept_after n last all) p → Contains all p
kept_within n last [] p c = absurd (Contains-nil p c)
kept_within n last (q ∷ rest) p c =
    ⊎_elim
    (λ yes. ⊎_elim
    (λ e. subst (Contains (q ∷ rest)) e (Contains-here q rest))
    (λ h. Contains-there q p rest (kept_within n (Some q) rest p h))
    (Contains-cases q p (kept_after n (Some q) rest) (rw yes at c)))
    (λ nay. Contains-there q p rest (kept_within n last rest p (rw nay at c)))
    (cases_Bool (is_free n last q))

-- those of a file's keys with a place in the file are all groups with a place there
pub file_groups : {T : Type 0} (chunk least file : ℕ) (corpus : List (List T)) (keys : List (List ℕ)) (ks : List ℕ) (found kept groups : List Group) → 1 ≤ chunk → chunk ≤ least → AreKeyed chunk corpus keys → AreAllRising (IsKeyIn keys file) ks → AreAllOnce (IsGroupOfKeys corpus keys least ks) found → AreAllOnce (λ g. IsGroupOfKeys corpus keys least ks g × Any (λ p. p.file ≡ file) g.places) kept → IsOrderOf ComesBefore kept groups → AreGroupsIn corpus least file groups
file_groups {T} chunk least file corpus keys ks found kept groups some long keyed all once of_file order =
    in_order_same ComesBefore (λ g. IsGroupOfKeys corpus keys least ks g × Any (λ p. p.file ≡ file) g.places) (λ g. IsGroup corpus least g × Any (λ p. p.file ≡ file) g.places) groups
    (λ g h. (h.0.0, h.1))
    (λ g (is, (n, p, within, at, in_file)).
    let c : Contains is.all p = kept_within g.tokens None is.all p (subst (λ ps. Contains ps p) is.places (n, within, at)) in
    let (k, has, first) = key_of_group chunk least corpus keys g p some long keyed is ((is.occurrences.each p).0 c) in
    let there : Contains (file_at keys file) k = contained (file_at keys file) p.at k (ap (λ f. slice_get (file_at keys f) p.at) (sym in_file) ∙ has) in
    ((is, any_key (λ z. HasKey keys z (first_place g)) ks k ((all.each k).1 there) first), (n, p, within, at, in_file)))
    (groups_sorted (λ g. IsGroupOfKeys corpus keys least ks g × Any (λ p. p.file ≡ file) g.places) kept groups
    (groups_apart corpus least (λ g. IsGroupOfKeys corpus keys least ks g × Any (λ p. p.file ≡ file) g.places) (λ g h. h.0.0)) of_file order)
  where
    contained : (xs : List ℕ) (i x : ℕ) → slice_get xs i ≡ Some x → Contains xs x
    contained xs i x here = (i, slice_get_within xs i x here, get_or_from_slice_get xs i x x here)

-- a filter keeps those with a property
pub once_filtered : (Is P : Group → Type 0) (test : Group → Bool) (xs : List Group) → ((g : Group) → (test g ≡ true → P g) × (P g → test g ≡ true)) → AreAllOnce Is xs → AreAllOnce (λ g. Is g × P g) (filter test xs)
once_filtered Is P test xs says once = record {
  ordered = AllPairs-filter (λ g h. g ≢ h) test xs once.ordered;
  each = λ g. (
    λ c. let r = Contains-from_filter test xs g c in ((once.each g).0 r.0, (says g).0 r.1),
    λ h. Contains-filter test xs g ((once.each g).1 h.0) ((says g).1 h.1),
  );
}

-- the windows of a listing
pub windows_of_keys : (keys : List (List ℕ)) (Is : ℕ → Type 0) (ks : List ℕ) (windows : List Place) → AreAllRising Is ks → AreAllInOrder IsBefore (λ p. (k : ℕ) × Is k × HasKey keys k p) windows → AreAllInOrder IsBefore (HasOneOf keys ks) windows
windows_of_keys keys Is ks windows all are =
    in_order_same IsBefore (λ p. (k : ℕ) × Is k × HasKey keys k p) (HasOneOf keys ks) windows
    (λ p (k, is, has). any_key (λ z. HasKey keys z p) ks k ((all.each k).1 is) has)
    (λ p (n, k, within, at, has). (k, (all.each k).0 (n, within, at), has))
    are

pub has_file-says : (file : ℕ) (ps : List Place) → (has_file file ps ≡ true → Any (λ p. p.file ≡ file) ps) × (Any (λ p. p.file ≡ file) ps → has_file file ps ≡ true)
has_file-says file [] = (λ h. absurd (true≢false (sym h)), λ (k, p, within, at, is). absurd (omega (arith, within)))
has_file-says file (p ∷ ps) =
    let rest = has_file-says file ps in (
      λ h. ⊎_elim
          (λ yes. (0, p, omega arith, refl, eqb-true p.file file yes))
          (λ nay. let (k, q, within, at, is) = rest.0 (rw nay at h) in (suc k, q, omega (arith, within), at, is))
          (cases_Bool (eqb p.file file)),
      λ (k, q, within, at, is). ⊎_elim
          (λ yes. rw yes refl)
          (λ nay. rw nay (rest.1 (in_rest k q within at is nay)))
          (cases_Bool (eqb p.file file)),
    )
  where
    in_rest : (k : ℕ) (q : Place) → k < suc (length ps) → get_or (p ∷ ps) k q ≡ q → q.file ≡ file → eqb p.file file ≡ false → Any (λ r. r.file ≡ file) ps
    in_rest zero q within at is nay = absurd (true≢false (sym (eq-eqb p.file file (ap (λ r. r.file) at ∙ is)) ∙ nay))
    in_rest (suc k) q within at is nay = (k, q, omega (arith, within), at, is)

pub same_answer : (b c : Bool) (P : Type 0) → ((b ≡ true → P) × (P → b ≡ true)) → ((c ≡ true → P) × (P → c ≡ true)) → b ≡ c
same_answer true c P h k = sym (k.1 (h.0 refl))
same_answer false true P h k = absurd (true≢false (sym (h.1 (k.0 refl))))
same_answer false false P h k = refl
