-- Lists of groups, as they grow by the pairs of places that were compared.
use Rattle.std.proofs.Common.{◌≡◌, ◌≢◌, ◌⊎◌, ℕ, ◌+◌, ◌<◌, ◌≤◌, List, [], length, refl, sym, ap, ap₂, subst, inl, inr, ⊎_elim, arith, ◌∙◌}
use Rattle.std.specs.Prelude.{Contains, AllPairs, Any}
use Rattle.std.proofs.lemmas.Bool.{cases_order}
use Rattle.cq_base.specs.declared.group.Place.{Place}
use Rattle.cq_base.specs.declared.group.Group.{Group}
use Rattle.cq_clones.specs.Lists.{AreAllInOrder}
use Rattle.cq_clones.specs.Groups.{file_at, IsPlace, IsBefore, word_at, StandsAt, token_behind, token_before, AreSame, IsMaximalAt, kept_of, IsGroup, ComesBefore, AreGroups}
use Rattle.cq_base.specs.Places.{first_place}
use Rattle.cq_clones.proofs.InOrder.{AreAllInOrder-same, in_order_same}
use Rattle.cq_base.proofs.Lists.{Contains-nil}
use Rattle.cq_clones.proofs.Order.{IsBefore-apart}
use Rattle.cq_clones.proofs.Words.{length-word}
use Rattle.cq_clones.proofs.GroupLaws.{maximal_word, groups_of_word, word_of_group}
use Rattle.cq_order.specs.Order.{AreOrdered, IsOrderOf}
use Rattle.cq_tokens.proofs.Places.{AreSame-sym}
use Rattle.cq_scan.specs.Match.{Matches}
use Rattle.cq_scan.specs.Found.{IsPair, IsGroupOf, IsFoundBy, AreFound, Adds, IsOfWord}
use Rattle.cq_scan.proofs.Places.{place_of_word}

-- the match of two places is a maximal word where the tokens before differ
pub maximal_from_match : {T : Type 0} (corpus : List (List T)) (p q : Place) (n : ℕ) → Matches corpus p q n → p ≢ q → (AreSame (token_before corpus p) (token_before corpus q) → ⊥) → IsMaximalAt corpus (word_at corpus p n) p q
maximal_from_match corpus p q n m different left =
    let len : length (word_at corpus p n) ≡ n = length-word (file_at corpus p.file) p.at n m.first in
    record {
      different = different;
      first = ap (word_at corpus p) len;
      second = ap (word_at corpus q) len ∙ sym m.equal;
      left = left;
      right = subst (λ k. AreSame (token_behind corpus p k) (token_behind corpus q k) → ⊥) (sym len) m.right;
    }

pub made_is : {T : Type 0} (corpus : List (List T)) (least : ℕ) (p q : Place) (n : ℕ) (all : List Place) → p.at + n ≤ length (file_at corpus p.file) → least ≤ n → IsMaximalAt corpus (word_at corpus p n) p q → AreAllInOrder IsBefore (StandsAt corpus (word_at corpus p n)) all → 2 ≤ length (kept_of n all) → IsGroupOf corpus least p q (record { tokens = n; places = kept_of n all })
made_is corpus least p q n all within long pair occurrences several = record {
  is = record {
    word = word_at corpus p n;
    all = all;
    tokens = length-word (file_at corpus p.file) p.at n within;
    long = long;
    repeated = (p, q, pair);
    occurrences = occurrences;
    places = refl;
    several = several;
  };
  pair = pair;
}

-- a group of the two places is that of their match
pub pair_word : {T : Type 0} (corpus : List (List T)) (least : ℕ) (p q : Place) (n : ℕ) (g : Group) → IsMaximalAt corpus (word_at corpus p n) p q → (is : IsGroupOf corpus least p q g) → is.is.word ≡ word_at corpus p n
pair_word corpus least p q n g pair is = maximal_word corpus is.is.word (word_at corpus p n) p q is.pair pair

pub pair_tokens : {T : Type 0} (corpus : List (List T)) (least : ℕ) (p q : Place) (n : ℕ) (g : Group) → p.at + n ≤ length (file_at corpus p.file) → IsMaximalAt corpus (word_at corpus p n) p q → IsGroupOf corpus least p q g → g.tokens ≡ n
pair_tokens corpus least p q n g within pair is =
    sym is.is.tokens ∙ ap length (pair_word corpus least p q n g pair is) ∙ length-word (file_at corpus p.file) p.at n within

pub pair_places : {T : Type 0} (corpus : List (List T)) (least : ℕ) (p q : Place) (n : ℕ) (all : List Place) (g : Group) → p.at + n ≤ length (file_at corpus p.file) → IsMaximalAt corpus (word_at corpus p n) p q → AreAllInOrder IsBefore (StandsAt corpus (word_at corpus p n)) all → IsGroupOf corpus least p q g → g.places ≡ kept_of n all
pair_places corpus least p q n all g within pair occurrences is =
    let e = pair_word corpus least p q n g pair is in
    let same : is.is.all ≡ all =
    AreAllInOrder-same IsBefore IsBefore-apart (StandsAt corpus (word_at corpus p n)) is.is.all all
    (subst (λ w. AreAllInOrder IsBefore (StandsAt corpus w) is.is.all) e is.is.occurrences) occurrences in
    is.is.places ∙ ap₂ kept_of (pair_tokens corpus least p q n g within pair is) same

-- ---- adding what one pair of places gives

-- nothing is added of pairs that have no group
pub adds_none : {T : Type 0} (corpus : List (List T)) (least : ℕ) (Pairs : Place → Place → Type 0) (old : List Group) → AllPairs (AreOrdered ComesBefore) old → ((g : Group) → IsFoundBy corpus least Pairs g → ⊥) → Adds (IsFoundBy corpus least Pairs) old old
adds_none corpus least Pairs old ordered none = record {
  ordered = ordered;
  each = λ z. (λ c. inl c, λ h. ⊎_elim (λ c. c) (λ g. absurd (none z g)) h);
}

pub pair_is : {T : Type 0} (corpus : List (List T)) (least : ℕ) (p q : Place) (g : Group) → IsFoundBy corpus least (IsPair p q) g → IsGroupOf corpus least p q g
pair_is corpus least p q g found =
    subst (λ (a : Place). IsGroupOf corpus least a q g) found.pair.0
    (subst (λ (b : Place). IsGroupOf corpus least found.p b g) found.pair.1 found.group_of)

pub is_pair : {T : Type 0} (corpus : List (List T)) (least : ℕ) (p q : Place) (g : Group) → IsGroupOf corpus least p q g → IsFoundBy corpus least (IsPair p q) g
is_pair corpus least p q g is = record { p = p; q = q; pair = (refl, refl); group_of = is }

-- the group that was made of a match is the one that is added
pub adds_made : {T : Type 0} (corpus : List (List T)) (least : ℕ) (p q : Place) (n : ℕ) (all : List Place) (old new : List Group) (made : Group) → p.at + n ≤ length (file_at corpus p.file) → least ≤ n → IsMaximalAt corpus (word_at corpus p n) p q → AreAllInOrder IsBefore (StandsAt corpus (word_at corpus p n)) all → 2 ≤ length (kept_of n all) → made.tokens ≡ n → made.places ≡ kept_of n all → Adds (λ g. made ≡ g) old new → Adds (IsFoundBy corpus least (IsPair p q)) old new
adds_made corpus least p q n all old new made within long pair occurrences several tokens places is =
    in_order_same (AreOrdered ComesBefore) (λ g. Contains old g ⊎ (made ≡ g)) (λ g. Contains old g ⊎ IsFoundBy corpus least (IsPair p q) g) new
    (λ z h. ⊎_elim
    (λ c. inl c)
    (λ e. inr (is_pair corpus least p q z (subst (IsGroupOf corpus least p q)
    (same_group (record { tokens = n; places = kept_of n all }) made (sym tokens) (sym places) ∙ e)
    (made_is corpus least p q n all within long pair occurrences several))))
    h)
    (λ z h. ⊎_elim
    (λ c. inl c)
    (λ f. let g = pair_is corpus least p q z f in
    inr (same_group made z
    (tokens ∙ sym (pair_tokens corpus least p q n z within pair g))
    (places ∙ sym (pair_places corpus least p q n all z within pair occurrences g))))
    h)
    is
  where
    same_group : (g h : Group) → g.tokens ≡ h.tokens → g.places ≡ h.places → g ≡ h
    same_group g h e f = ap₂ (λ (k : ℕ) (ps : List Place). let made : Group = record { tokens = k; places = ps } in made) e f

-- a group of the corpus begins at a place of it
pub first_is_place : {T : Type 0} (corpus : List (List T)) (least : ℕ) (g : Group) → 1 ≤ least → IsGroup corpus least g → IsPlace corpus (first_place g)
first_is_place corpus least g some is =
    place_of_word corpus is.word (first_place g) (omega (arith, is.tokens, is.long, some)) (ap (word_at corpus (first_place g)) is.tokens ∙ word_of_group corpus least g is)

-- nothing is added of a pair whose word has its group there
pub adds_known : {T : Type 0} (corpus : List (List T)) (least : ℕ) (p q : Place) (n : ℕ) (old : List Group) → IsMaximalAt corpus (word_at corpus p n) p q → AreFound corpus least old → Any (IsOfWord corpus p n) old → Adds (IsFoundBy corpus least (IsPair p q)) old old
adds_known corpus least p q n old pair found (i, k, within, here, of) =
    let there : Contains old k = (i, within, here) in
    let is : IsGroup corpus least k = found.each k there in
    record {
      ordered = found.ordered;
      each = λ z. (
        λ c. inl c,
        λ h. ⊎_elim
            (λ c. c)
            (λ f. let g = pair_is corpus least p q z f in
            let words : is.word ≡ g.is.word = sym (word_of_group corpus least k is) ∙ ap (word_at corpus (first_place k)) of.0 ∙ of.1 ∙ sym (pair_word corpus least p q n z pair g) in
            subst (Contains old) (groups_of_word corpus least k z is g.is words) there)
            h,
      );
    }

-- ---- adding what more and more pairs give

-- both places of a group's pair are places of the corpus
pub places_of_pair : {T : Type 0} (corpus : List (List T)) (least : ℕ) (p q : Place) (g : Group) → 1 ≤ least → IsGroupOf corpus least p q g → IsPlace corpus p × IsPlace corpus q
places_of_pair corpus least p q g some is =
    let long : 0 < length is.is.word = omega (arith, is.is.tokens, is.is.long, some) in
    (place_of_word corpus is.is.word p long is.pair.first, place_of_word corpus is.is.word q long is.pair.second)

-- the pairs of `R` are those of `P` and those of `Q`
pub adds_more : {T : Type 0} (corpus : List (List T)) (least : ℕ) (P Q R : Place → Place → Type 0) (old mid new : List Group) → ((a b : Place) → R a b → P a b ⊎ Q a b) → ((a b : Place) → P a b → R a b) → ((a b : Place) → Q a b → R a b)
    → Adds (IsFoundBy corpus least P) old mid → Adds (IsFoundBy corpus least Q) mid new → Adds (IsFoundBy corpus least R) old new
adds_more corpus least P Q R old mid new parts first second before is =
    in_order_same (AreOrdered ComesBefore) (λ g. Contains mid g ⊎ IsFoundBy corpus least Q g) (λ g. Contains old g ⊎ IsFoundBy corpus least R g) new
    (λ z h. ⊎_elim
    (λ c. ⊎_elim (λ o. inl o) (λ f. inr (by_pairs P R z first f)) ((before.each z).0 c))
    (λ f. inr (by_pairs Q R z second f))
    h)
    (λ z h. ⊎_elim
    (λ o. inl ((before.each z).1 (inl o)))
    (λ f. ⊎_elim
    (λ a. inl ((before.each z).1 (inr (record { p = f.p; q = f.q; pair = a; group_of = f.group_of }))))
    (λ b. inr (record { p = f.p; q = f.q; pair = b; group_of = f.group_of }))
    (parts f.p f.q f.pair))
    h)
    is
  where
    by_pairs : (A B : Place → Place → Type 0) (z : Group) → ((a b : Place) → A a b → B a b) → IsFoundBy corpus least A z → IsFoundBy corpus least B z
    by_pairs A B z to f = record { p = f.p; q = f.q; pair = to f.p f.q f.pair; group_of = f.group_of }

-- the same pairs of places of the corpus
pub adds_same : {T : Type 0} (corpus : List (List T)) (least : ℕ) (P Q : Place → Place → Type 0) (old new : List Group) → 1 ≤ least → ((a b : Place) → P a b → Q a b) → ((a b : Place) → IsPlace corpus a → IsPlace corpus b → Q a b → P a b)
    → Adds (IsFoundBy corpus least P) old new → Adds (IsFoundBy corpus least Q) old new
adds_same corpus least P Q old new some to from is =
    in_order_same (AreOrdered ComesBefore) (λ g. Contains old g ⊎ IsFoundBy corpus least P g) (λ g. Contains old g ⊎ IsFoundBy corpus least Q g) new
    (λ z h. ⊎_elim (λ c. inl c) (λ f. inr (record { p = f.p; q = f.q; pair = to f.p f.q f.pair; group_of = f.group_of })) h)
    (λ z h. ⊎_elim (λ c. inl c) (λ f. inr (back z f)) h)
    is
  where
    back : (z : Group) → IsFoundBy corpus least Q z → IsFoundBy corpus least P z
    back z f =
        let both = places_of_pair corpus least f.p f.q z some f.group_of in
        record { p = f.p; q = f.q; pair = from f.p f.q both.0 both.1 f.pair; group_of = f.group_of }

-- what was found before and what is added are groups of the corpus
pub found_more : {T : Type 0} (corpus : List (List T)) (least : ℕ) (Pairs : Place → Place → Type 0) (old new : List Group) → AreFound corpus least old → Adds (IsFoundBy corpus least Pairs) old new → AreFound corpus least new
found_more corpus least Pairs old new found is = record {
  ordered = is.ordered;
  each = λ z c. ⊎_elim (λ h. found.each z h) (λ f. f.group_of.is) ((is.each z).0 c);
}

pub found_none : {T : Type 0} (corpus : List (List T)) (least : ℕ) (xs : List Group) → xs ≡ [] → AreFound corpus least xs
found_none corpus least xs none = record {
  ordered = λ i j d lt within. absurd (omega (arith, ap length none));
  each = λ z c. absurd (Contains-nil z (subst (λ ys. Contains ys z) none c));
}

-- ---- at the end each pair was compared

-- two places are the same, or one comes before the other
pub place_cases : (p q : Place) → (p ≡ q) ⊎ (IsBefore p q ⊎ IsBefore q p)
place_cases p q =
    ⊎_elim
    (λ file. ⊎_elim (λ at. inl (same_place p q file at)) (λ other. inr (⊎_elim (λ h. inl (inr (file, h))) (λ h. inr (inr (sym file, h))) other)) (cases_order p.at q.at))
    (λ other. inr (⊎_elim (λ h. inl (inl h)) (λ h. inr (inl h)) other))
    (cases_order p.file q.file)
  where
    same_place : (p q : Place) → p.file ≡ q.file → p.at ≡ q.at → p ≡ q
    same_place p q e f = grind arith

-- a maximal pair is one the other way round too
turned : {T : Type 0} (corpus : List (List T)) (word : List T) (p q : Place) → IsMaximalAt corpus word p q → IsMaximalAt corpus word q p
turned corpus word p q pair = record {
  different = λ e. pair.different (sym e);
  first = pair.second;
  second = pair.first;
  left = λ same. pair.left (AreSame-sym _ _ same);
  right = λ same. pair.right (AreSame-sym _ _ same);
}

-- the groups of the pairs in order are all groups
pub groups_all : {T : Type 0} (corpus : List (List T)) (least : ℕ) (old new : List Group) → 1 ≤ least → old ≡ [] → Adds (IsFoundBy corpus least IsBefore) old new → AreAllInOrder (AreOrdered ComesBefore) (IsGroup corpus least) new
groups_all corpus least old new some none is =
    in_order_same (AreOrdered ComesBefore) (λ g. Contains old g ⊎ IsFoundBy corpus least IsBefore g) (IsGroup corpus least) new
    (λ z h. ⊎_elim (λ c. absurd (Contains-nil z (subst (λ ys. Contains ys z) none c))) (λ f. f.group_of.is) h)
    (λ z g. inr (found z g g.repeated))
    is
  where
    found : (z : Group) (g : IsGroup corpus least z) → (p q : Place) × IsMaximalAt corpus g.word p q → IsFoundBy corpus least IsBefore z
    found z g (p, q, pair) =
        ⊎_elim
        (λ e. absurd (pair.different e))
        (λ other. ⊎_elim
        (λ h. record { p = p; q = q; pair = h; group_of = record { is = g; pair = pair } })
        (λ h. record { p = q; q = p; pair = h; group_of = record { is = g; pair = turned corpus g.word p q pair } })
        other)
        (place_cases p q)

-- all groups, put in order
pub groups_ordered : {T : Type 0} (corpus : List (List T)) (least : ℕ) (found sorted : List Group) → AreAllInOrder (AreOrdered ComesBefore) (IsGroup corpus least) found → IsOrderOf ComesBefore found sorted → AreGroups corpus least sorted
groups_ordered corpus least found sorted all is = record {
  ordered = is.strict all.ordered;
  each = λ z. (λ c. (all.each z).0 ((is.each z).0 c), λ h. (is.each z).1 ((all.each z).1 h));
}
