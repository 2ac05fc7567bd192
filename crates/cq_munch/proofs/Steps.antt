-- What may follow a character: a pattern's spellings that begin with it, without it.
use Rattle.std.proofs.Common.{◌≡◌, ℕ, Bool, true, false, cond, List, [], ◌∷◌, ◌++◌, ◌⊎◌, inl, inr, ⊎_elim, refl, sym, ap, subst, ◌∙◌}
use Rattle.std.proofs.lemmas.Bool.{eqb-true, and_parts, and_from, or_cases, or_left, or_right}
use Rattle.std.specs.Bool.{beq}
use Rattle.std.specs.List.{concat, AllByRecursion}
use Rattle.cq_munch.specs.Behind.{takes_empty, any_takes_empty, SpellsAny, joined, joined_each, behind, behind_each, same, same_ranges, has, covers, agree, agree_each}
use Rattle.cq_munch.specs.Pattern.{Range, in_ranges, Pattern, never, empty, among, except, ◌▸◌, ◌∣◌, many, Spells}

-- first the laws on the empty spelling
pub beq-is : (a b : Bool) → beq a b ≡ true → a ≡ b
beq-is true true h = refl
beq-is false false h = refl
beq-is true false h = absurd (cc)
beq-is false true h = absurd (cc)

pub beq-same : (a b : Bool) → a ≡ b → beq a b ≡ true
beq-same true b h = subst (λ v. beq true v ≡ true) h refl
beq-same false b h = subst (λ v. beq false v ≡ true) h refl

nil_cases : (a b : List ℕ) → [] ≡ a ++ b → (a ≡ []) × (b ≡ [])
nil_cases [] b h = (refl, sym h)
nil_cases (x ∷ a) b h = absurd (cc)

pub takes_empty-if : (p : Pattern) → Spells p [] → takes_empty p ≡ true
takes_empty-if never h = absurd h
takes_empty-if empty h = refl
takes_empty-if (among ranges) h = let e : [] ≡ h.0 ∷ [] = h.1 in absurd (cc)
takes_empty-if (except ranges) h = let e : [] ≡ h.0 ∷ [] = h.1 in absurd (cc)
takes_empty-if (p ▸ q) h =
    let e = nil_cases h.0 h.1 h.2 in
    and_from _ _ (takes_empty-if p (subst (Spells p) e.0 h.3)) (takes_empty-if q (subst (Spells q) e.1 h.4))
takes_empty-if (p ∣ q) h = ⊎_elim (λ a. or_left _ _ (takes_empty-if p a)) (λ b. or_right _ _ (takes_empty-if q b)) h
takes_empty-if (many p) h = refl

pub takes_empty-then : (p : Pattern) → takes_empty p ≡ true → Spells p []
takes_empty-then never h = absurd (cc)
takes_empty-then empty h = refl
takes_empty-then (among ranges) h = absurd (cc)
takes_empty-then (except ranges) h = absurd (cc)
takes_empty-then (p ▸ q) h =
    let both = and_parts _ _ h in ([], [], refl, takes_empty-then p both.0, takes_empty-then q both.1)
takes_empty-then (p ∣ q) h = ⊎_elim (λ a. inl (takes_empty-then p a)) (λ b. inr (takes_empty-then q b)) (or_cases _ _ h)
takes_empty-then (many p) h = ([], refl, tt)

-- lists of patterns
any_left : (ps qs : List Pattern) (s : List ℕ) → SpellsAny ps s → SpellsAny (ps ++ qs) s
any_left [] qs s h = absurd h
any_left (p ∷ ps) qs s h = ⊎_elim (λ a. inl a) (λ b. inr (any_left ps qs s b)) h

any_right : (ps qs : List Pattern) (s : List ℕ) → SpellsAny qs s → SpellsAny (ps ++ qs) s
any_right [] qs s h = h
any_right (p ∷ ps) qs s h = inr (any_right ps qs s h)

any_cases : (ps qs : List Pattern) (s : List ℕ) → SpellsAny (ps ++ qs) s → SpellsAny ps s ⊎ SpellsAny qs s
any_cases [] qs s h = inr h
any_cases (p ∷ ps) qs s h =
    ⊎_elim (λ a. inl (inl a)) (λ b. ⊎_elim (λ x. inl (inr x)) (λ y. inr y) (any_cases ps qs s b)) h

-- a spelling of p and then one of q
abbrev Both : (List ℕ → Type 0) → (List ℕ → Type 0) → List ℕ → Type 0
Both P Q s = (a : List ℕ) × (b : List ℕ) × (s ≡ a ++ b) × P a × Q b

joined-if : (p q : Pattern) (s : List ℕ) → Both (Spells p) (Spells q) s → Spells (joined p q) s
joined-if never q s h = h
joined-if empty q s h = subst (Spells q) (sym (h.2 ∙ ap (λ a. a ++ h.1) h.3)) h.4
joined-if (among ranges) q s h = h
joined-if (except ranges) q s h = h
joined-if (a ▸ b) q s h = h
joined-if (a ∣ b) q s h = h
joined-if (many a) q s h = h

joined-then : (p q : Pattern) (s : List ℕ) → Spells (joined p q) s → Both (Spells p) (Spells q) s
joined-then never q s h = h
joined-then empty q s h = ([], s, refl, refl, h)
joined-then (among ranges) q s h = h
joined-then (except ranges) q s h = h
joined-then (a ▸ b) q s h = h
joined-then (a ∣ b) q s h = h
joined-then (many a) q s h = h

each-if : (ps : List Pattern) (q : Pattern) (s a b : List ℕ) → s ≡ a ++ b → SpellsAny ps a → Spells q b → SpellsAny (joined_each ps q) s
each-if [] q s a b e h k = absurd h
each-if (p ∷ ps) q s a b e h k =
    ⊎_elim (λ x. inl (joined-if p q s (a, b, e, x, k))) (λ y. inr (each-if ps q s a b e y k)) h

each-then : (ps : List Pattern) (q : Pattern) (s : List ℕ) → SpellsAny (joined_each ps q) s → Both (SpellsAny ps) (Spells q) s
each-then [] q s h = absurd h
each-then (p ∷ ps) q s h =
    ⊎_elim
    (λ x. let f = joined-then p q s x in (f.0, f.1, f.2, inl f.3, f.4))
    (λ y. let f = each-then ps q s y in (f.0, f.1, f.2, inr f.3, f.4))
    h

-- a list that begins with c is cut into two: nothing is in front, or c is
cut_cases : (c : ℕ) (s a b : List ℕ) → c ∷ s ≡ a ++ b → ((a ≡ []) × (c ∷ s ≡ b)) ⊎ ((t : List ℕ) × (a ≡ c ∷ t) × (s ≡ t ++ b))
cut_cases c s [] b e = inl (refl, e)
cut_cases c s (x ∷ a) b e = let x_is : c ≡ x = cc in let rest : s ≡ a ++ b = cc in inr (a, ap (λ v. v ∷ a) (sym x_is), rest)

-- the first part that is not empty begins with c
parts_cases : (p : Pattern) (c : ℕ) (s : List ℕ) → ((t : List ℕ) → Spells p (c ∷ t) → SpellsAny (behind c p) t)
    → (parts : List (List ℕ)) → c ∷ s ≡ concat parts → AllByRecursion (Spells p) parts → SpellsAny (joined_each (behind c p) (many p)) s
parts_cases p c s step [] e each = absurd (cc)
parts_cases p c s step (part ∷ parts) e each =
    ⊎_elim
    (λ front. parts_cases p c s step parts front.1 each.1)
    (λ cut. each-if (behind c p) (many p) s cut.0 (concat parts) cut.2 (step cut.0 (subst (Spells p) cut.1 each.0)) (parts, refl, each.1))
    (cut_cases c s part (concat parts) e)

-- what begins with c in p comes after c
pub behind-if : (p : Pattern) (c : ℕ) (s : List ℕ) → Spells p (c ∷ s) → SpellsAny (behind c p) s
behind-if never c s h = absurd h
behind-if empty c s h = absurd (cc)
behind-if (among ranges) c s h =
    let same : c ≡ h.0 = let e : c ∷ s ≡ h.0 ∷ [] = h.1 in cc in
    let rest : s ≡ [] = let e : c ∷ s ≡ h.0 ∷ [] = h.1 in cc in
    let inside : in_ranges ranges c ≡ true = ap (in_ranges ranges) same ∙ h.2 in
    subst (λ v. SpellsAny (cond v (empty ∷ []) []) s) (sym inside) (inl rest)
behind-if (except ranges) c s h =
    let same : c ≡ h.0 = let e : c ∷ s ≡ h.0 ∷ [] = h.1 in cc in
    let rest : s ≡ [] = let e : c ∷ s ≡ h.0 ∷ [] = h.1 in cc in
    let outside : in_ranges ranges c ≡ false = ap (in_ranges ranges) same ∙ h.2 in
    subst (λ v. SpellsAny (cond v [] (empty ∷ [])) s) (sym outside) (inl rest)
behind-if (p ▸ q) c s h =
    ⊎_elim
    (λ front.
    let takes = takes_empty-if p (subst (Spells p) front.0 h.3) in
    any_right (joined_each (behind c p) q) _ s
    (subst (λ v. SpellsAny (cond v (behind c q) []) s) (sym takes) (behind-if q c s (subst (Spells q) (sym front.1) h.4))))
    (λ cut. any_left _ _ s (each-if (behind c p) q s cut.0 h.1 cut.2 (behind-if p c cut.0 (subst (Spells p) cut.1 h.3)) h.4))
    (cut_cases c s h.0 h.1 h.2)
behind-if (p ∣ q) c s h =
    ⊎_elim (λ a. any_left _ _ s (behind-if p c s a)) (λ b. any_right (behind c p) _ s (behind-if q c s b)) h
behind-if (many p) c s h = parts_cases p c s (behind-if p c) h.0 h.1 h.2

-- what is chosen by a test comes after a true one
chosen : (v : Bool) (ps : List Pattern) (s : List ℕ) → SpellsAny (cond v ps []) s → (v ≡ true) × SpellsAny ps s
chosen true ps s h = (refl, h)
chosen false ps s h = absurd h

not_chosen : (v : Bool) (ps : List Pattern) (s : List ℕ) → SpellsAny (cond v [] ps) s → (v ≡ false) × SpellsAny ps s
not_chosen false ps s h = (refl, h)
not_chosen true ps s h = absurd h

pub behind-then : (p : Pattern) (c : ℕ) (s : List ℕ) → SpellsAny (behind c p) s → Spells p (c ∷ s)
behind-then never c s h = absurd h
behind-then empty c s h = absurd h
behind-then (among ranges) c s h =
    let found = chosen (in_ranges ranges c) (empty ∷ []) s h in
    (c, ⊎_elim (λ e. ap (λ v. c ∷ v) e) (λ n. absurd n) found.1, found.0)
behind-then (except ranges) c s h =
    let found = not_chosen (in_ranges ranges c) (empty ∷ []) s h in
    (c, ⊎_elim (λ e. ap (λ v. c ∷ v) e) (λ n. absurd n) found.1, found.0)
behind-then (p ▸ q) c s h =
    ⊎_elim
    (λ x. let f = each-then (behind c p) q s x in (c ∷ f.0, f.1, ap (λ v. c ∷ v) f.2, behind-then p c f.0 f.3, f.4))
    (λ y. let found = chosen (takes_empty p) (behind c q) s y in ([], c ∷ s, refl, takes_empty-then p found.0, behind-then q c s found.1))
    (any_cases (joined_each (behind c p) q) _ s h)
behind-then (p ∣ q) c s h =
    ⊎_elim (λ a. inl (behind-then p c s a)) (λ b. inr (behind-then q c s b)) (any_cases (behind c p) _ s h)
behind-then (many p) c s h =
    let f = each-then (behind c p) (many p) s h in
    ((c ∷ f.0) ∷ f.4.0, ap (λ v. c ∷ v) (f.2 ∙ ap (λ v. f.0 ++ v) f.4.1), (behind-then p c f.0 f.3, f.4.2))

-- the same of lists of patterns
pub behind_each-if : (ps : List Pattern) (c : ℕ) (s : List ℕ) → SpellsAny ps (c ∷ s) → SpellsAny (behind_each c ps) s
behind_each-if [] c s h = absurd h
behind_each-if (p ∷ ps) c s h =
    ⊎_elim (λ a. any_left _ _ s (behind-if p c s a)) (λ b. any_right (behind c p) _ s (behind_each-if ps c s b)) h

pub behind_each-then : (ps : List Pattern) (c : ℕ) (s : List ℕ) → SpellsAny (behind_each c ps) s → SpellsAny ps (c ∷ s)
behind_each-then [] c s h = absurd h
behind_each-then (p ∷ ps) c s h =
    ⊎_elim (λ a. inl (behind-then p c s a)) (λ b. inr (behind_each-then ps c s b)) (any_cases (behind c p) _ s h)

pub any_takes_empty-if : (ps : List Pattern) → SpellsAny ps [] → any_takes_empty ps ≡ true
any_takes_empty-if [] h = absurd h
any_takes_empty-if (p ∷ ps) h = ⊎_elim (λ a. or_left _ _ (takes_empty-if p a)) (λ b. or_right _ _ (any_takes_empty-if ps b)) h

-- what may come after a word, and that the word is spelled where nothing may
abbrev pub behind_word : List ℕ → List Pattern → List Pattern
behind_word [] ps = ps
behind_word (c ∷ w) ps = behind_word w (behind_each c ps)

pub spelled_word : (w : List ℕ) (ps : List Pattern) → SpellsAny ps w → any_takes_empty (behind_word w ps) ≡ true
spelled_word [] ps h = any_takes_empty-if ps h
spelled_word (c ∷ w) ps h = spelled_word w (behind_each c ps) (behind_each-if ps c w h)

pub any_takes_empty-then : (ps : List Pattern) → any_takes_empty ps ≡ true → SpellsAny ps []
any_takes_empty-then [] h = absurd (cc)
any_takes_empty-then (p ∷ ps) h = ⊎_elim (λ a. inl (takes_empty-then p a)) (λ b. inr (any_takes_empty-then ps b)) (or_cases _ _ h)

pub word_if : (w : List ℕ) (ps : List Pattern) → any_takes_empty (behind_word w ps) ≡ true → SpellsAny ps w
word_if [] ps h = any_takes_empty-then ps h
word_if (c ∷ w) ps h = behind_each-then ps c w (word_if w (behind_each c ps) h)

-- what the tests mean
same_ranges-is : (rs qs : List Range) → same_ranges rs qs ≡ true → rs ≡ qs
same_ranges-is [] [] h = refl
same_ranges-is ((a, b) ∷ rs) ((c, d) ∷ qs) h =
    let first = and_parts _ _ h in
    let second = and_parts _ _ first.1 in
    let low : a ≡ c = eqb-true a c first.0 in
    let high : b ≡ d = eqb-true b d second.0 in
    let rest : rs ≡ qs = same_ranges-is rs qs second.1 in
    cc
same_ranges-is _ _ h = absurd (cc)

same-is : (p q : Pattern) → same p q ≡ true → p ≡ q
same-is never never h = refl
same-is empty empty h = refl
same-is (among rs) (among qs) h = ap among (same_ranges-is rs qs h)
same-is (except rs) (except qs) h = ap except (same_ranges-is rs qs h)
same-is (a ▸ b) (c ▸ d) h =
    let both = and_parts _ _ h in
    let left : a ≡ c = same-is a c both.0 in
    let right : b ≡ d = same-is b d both.1 in
    cc
same-is (a ∣ b) (c ∣ d) h =
    let both = and_parts _ _ h in
    let left : a ≡ c = same-is a c both.0 in
    let right : b ≡ d = same-is b d both.1 in
    cc
same-is (many a) (many b) h = ap many (same-is a b h)
same-is _ _ h = absurd (cc)

has-spells : (qs : List Pattern) (p : Pattern) (s : List ℕ) → has qs p ≡ true → Spells p s → SpellsAny qs s
has-spells [] p s h k = absurd (cc)
has-spells (q ∷ qs) p s h k =
    ⊎_elim (λ a. inl (subst (λ v. Spells v s) (same-is p q a) k)) (λ b. inr (has-spells qs p s b k)) (or_cases _ _ h)

pub covers-spells : (ps qs : List Pattern) → covers ps qs ≡ true → (s : List ℕ) → SpellsAny ps s → SpellsAny qs s
covers-spells [] qs h s k = absurd k
covers-spells (p ∷ ps) qs h s k =
    let both = and_parts _ _ h in
    ⊎_elim (λ a. has-spells qs p s both.0 a) (λ b. covers-spells ps qs both.1 s b) k

-- characters that no class tells apart have the same after them
agree-behind : (c d : ℕ) (p : Pattern) → agree c d p ≡ true → behind c p ≡ behind d p
agree-behind c d never h = refl
agree-behind c d empty h = refl
agree-behind c d (among rs) h = ap (λ v. cond v (empty ∷ []) []) (beq-is _ _ h)
agree-behind c d (except rs) h = ap (λ v. cond v [] (empty ∷ [])) (beq-is _ _ h)
agree-behind c d (p ▸ q) h =
    let both = and_parts _ _ h in
    λ i. joined_each (agree-behind c d p both.0 i) q ++ cond (takes_empty p) (agree-behind c d q both.1 i) []
agree-behind c d (p ∣ q) h =
    let both = and_parts _ _ h in
    λ i. agree-behind c d p both.0 i ++ agree-behind c d q both.1 i
agree-behind c d (many p) h = λ i. joined_each (agree-behind c d p h i) (many p)

pub agree-behind_each : (c d : ℕ) (ps : List Pattern) → agree_each c d ps ≡ true → behind_each c ps ≡ behind_each d ps
agree-behind_each c d [] h = refl
agree-behind_each c d (p ∷ ps) h =
    let both = and_parts _ _ h in
    λ i. agree-behind c d p both.0 i ++ agree-behind_each c d ps both.1 i
