-- Each step keeps the rule.
use Rattle.std.proofs.Common.{◌≡◌, ◌≢◌, ◌⊎◌, ℕ, zero, suc, ◌+◌, ◌*◌, ◌/◌, ◌%◌, ◌^◌, ◌<◌, ◌≤◌, eqb, eqb-true, eq-eqb, ne_eqb, cond, Bool, true, true≢false, List, [], ◌∷◌, ◌++◌, map, length, get_or, set, replicate, sym, refl, ap, ◌∙◌, subst, inl, inr, ⊎_elim, arith, Option, Some, None, length-set, get_or-set_other, get_or-set_same}
use Rattle.std.specs.Prelude.{IfSome, option_to_list}
use Rattle.std.proofs.lemmas.List.{append-nil}
use mathlib.Core.Logic.{dite}
use mathlib.Core.Option.{none, some, some-injective, some-ne-none}
use mathlib.Core.Option as maybe
use mathlib.Core.List.{IsPrefix}
use native.Mathlib.Decide.{ℕ_discrete}
use lib.ListN.{get_elem?, length-map, length-replicate, get_or-replicate}
use lib.Seq.{set-get_or}
use prog.Atomic.{either}
use Rattle.atomic_table.specs.Table.{State, Me, step, Act, keeps, takes, gives, stepped, Allows, Splits, Joins, Valid, carried_after, opening, rest}
use Rattle.atomic_table.proofs.Lists.{at_set, set_else, set_here, set_again, at_longer, exchanged}
use Rattle.cq_cells.specs.declared.view.View.{View}
use Rattle.cq_cells.specs.declared.view.Hand.{Hand}
use Rattle.cq_cells.specs.declared.view.Hand.TheVariants.{Free, Has}
use Rattle.cq_cells.specs.Callers.{Among, Differ, is_by, own, longer, MayCall}
use Rattle.cq_cells.specs.Counts.{least_of, more_known, Reached}
use Rattle.cq_cells.specs.Rule.{MayNote, HasCell, Claims, HandOk, Knows, Kept}
use Rattle.cq_cells.specs.Steps.{first_view, spent, less, child, witness, beside_of, took, taken, noted, noted_of, released, together, compared, AllFit, Fitting}
use Rattle.cq_cells.proofs.Fronts.{prefix_self, prefix_trans, prefix_whole, longer_case, longer_whole, one_begins, left_longer, right_longer}
use Rattle.cq_cells.proofs.Owns.{each_map, each_append, among_left, among_right, differ_append, own_more, own_less, own_between, own_none, reached_least}

abbrev pick : {P : Type 0} → Dec P → ℕ → ℕ → ℕ
pick (yes _) a b = a
pick (no _) a b = b

put : (ℕ → ℕ) → ℕ → ℕ → ℕ → ℕ
put f i c j = pick (ℕ_discrete j i) c (f j)

put_here : (f : ℕ → ℕ) (i c : ℕ) → put f i c i ≡ c
unfolding put
put_here f i c = go (ℕ_discrete i i)
  where
    go : (d : Dec (i ≡ i)) → pick d c (f i) ≡ c
    go (yes _) = refl
    go (no n) = absurd (n refl)

put_else : (f : ℕ → ℕ) (i c j : ℕ) → j ≢ i → put f i c j ≡ f j
unfolding put
put_else f i c j other = go (ℕ_discrete j i)
  where
    go : (d : Dec (j ≡ i)) → pick d c (f j) ≡ f j
    go (yes e) = absurd (other e)
    go (no _) = refl

-- what was the seat j's is the seat i's
moved : (ℕ → ℕ) → ℕ → ℕ → ℕ → ℕ
moved f j i c = pick (ℕ_discrete (f c) j) i (f c)

moved_here : (f : ℕ → ℕ) (j i c : ℕ) → f c ≡ j → moved f j i c ≡ i
unfolding moved
moved_here f j i c e = go (ℕ_discrete (f c) j)
  where
    go : (d : Dec (f c ≡ j)) → pick d i (f c) ≡ i
    go (yes _) = refl
    go (no n) = absurd (n e)

moved_else : (f : ℕ → ℕ) (j i c : ℕ) → f c ≢ j → moved f j i c ≡ f c
unfolding moved
moved_else f j i c other = go (ℕ_discrete (f c) j)
  where
    go : (d : Dec (f c ≡ j)) → pick d i (f c) ≡ f c
    go (yes e) = absurd (other e)
    go (no _) = refl

set_at : {A : Type 0} (l : List A) (i : ℕ) (a b : A) → get_elem? l i ≡ some a → get_elem? (set l i b) i ≡ some b
set_at [] i a b e = absurd (some-ne-none a (sym e))
set_at (x ∷ xs) zero a b e = refl
set_at (x ∷ xs) (suc i) a b e = set_at xs i a b e

-- the value of the slot taken last
pub first_value : {A : Type 0} (k : ℕ) (a b : A) (l m : List (ℕ × Option A)) → (k, Some a) ∷ l ≡ (k, Some b) ∷ m → a ≡ b
first_value {A = A} k a b l m e = let p : (k, Some a) ≡ (k, Some b) = cc in let q : Some a ≡ Some b = ap (λ (z : ℕ × Option A). z.1) p in cc

-- words that are all 0
pub blank_words : (words : List ℕ) (n : ℕ) → words ≡ replicate n 0 → (length words ≡ n) × ((k : ℕ) → k < length words → get_or words k 0 ≡ 0)
blank_words words n is = subst (λ (l : List ℕ). (length l ≡ n) × ((k : ℕ) → k < length l → get_or l k 0 ≡ 0)) (sym is)
    (length-replicate n 0, λ k h. get_or-replicate n k 0 0 (subst (λ (z : ℕ). k < z) (length-replicate n 0) h))

-- where an element of a longer list stands
at_snoc : {A : Type 0} (l : List A) (a b : A) (j : ℕ) → get_elem? (l ++ a ∷ []) j ≡ some b → (get_elem? l j ≡ some b) ⊎ ((j ≡ length l) × (a ≡ b))
at_snoc [] a b zero e = inr (refl, some-injective a b e)
at_snoc [] a b (suc j) e = absurd (some-ne-none b (sym e))
at_snoc (x ∷ xs) a b zero e = inl e
at_snoc (x ∷ xs) a b (suc j) e = ⊎_elim (λ t. inl t) (λ t. inr (ap suc t.0, t.1)) (at_snoc xs a b j e)

at_end : {A : Type 0} (l : List A) (a : A) → get_elem? (l ++ a ∷ []) (length l) ≡ some a
at_end [] a = refl
at_end (x ∷ xs) a = at_end xs a

-- where no number was joined
among_alone : (c : ℕ) (xs ys : List ℕ) → ys ≡ [] → Among c (xs ++ ys) → Among c xs
among_alone c xs ys gone h = subst (λ (n : List ℕ). Among c n) (ap (λ (l : List ℕ). xs ++ l) gone ∙ append-nil xs) h

differ_alone : (xs ys : List ℕ) → ys ≡ [] → Differ (xs ++ ys) → Differ xs
differ_alone xs ys gone h = subst Differ (ap (λ (l : List ℕ). xs ++ l) gone ∙ append-nil xs) h

inside : {A : Type 0} (l : List A) (j : ℕ) (b : A) → get_elem? l j ≡ some b → j < length l
inside [] j b e = absurd (some-ne-none b (sym e))
inside (x ∷ xs) zero b e = omega arith
inside (x ∷ xs) (suc j) b e = let h = inside xs j b e in omega arith

module _ {I E K : Type 0} (lawful_by : K → List E → Type 0) (fits_by : K → List E → ℕ → ℕ → I → Type 0) (asks : E → ℕ) (caller : E → Option ℕ)
    (lasts_by : (key : K) (log : List E) (e : E) (k c : ℕ) (x : I) → k ≢ 0 → lawful_by key (log ++ e ∷ []) → asks e ≤ c → fits_by key log k c x → fits_by key (log ++ e ∷ []) k c x) (total_by : K → ℕ) (key : K) where
  abbrev lawful : List E → Type 0
  lawful = lawful_by key

  abbrev fits : List E → ℕ → ℕ → I → Type 0
  fits = fits_by key

  abbrev total : ℕ
  total = total_by key

  lasts : (log : List E) (e : E) (k c : ℕ) (x : I) → k ≢ 0 → lawful (log ++ e ∷ []) → asks e ≤ c → fits log k c x → fits (log ++ e ∷ []) k c x
  lasts = lasts_by key

  abbrev V : Type 0
  V = View I E K

  abbrev St : Type 0
  St = State (Option I) V

  abbrev Sat : Type 0
  Sat = Me (Option I) V

  abbrev Homes : Type 0
  Homes = List (maybe.Option (Option I))

  abbrev Rule : St → Type 0
  Rule = Kept lawful fits asks caller total key

  abbrev Hands : List E → List ℕ → (ℕ → ℕ) → ℕ → V → Hand I E → Type 0
  Hands = HandOk lawful fits asks caller

  abbrev Known : List E → List ℕ → (ℕ → ℕ) → (ℕ → ℕ) → ℕ → ℕ → V → Type 0
  Known log words owner whose made = Knows lawful fits asks caller log words owner whose total key made

  -- an event of the seat id, by a step on the word 0
  pub record Added (i id made : ℕ) (whose : ℕ → ℕ) (words : List ℕ) (log log' : List E) : Type 0 where
    pub event : E
    pub is : log' ≡ log ++ event ∷ []
    pub first : i ≡ 0
    pub law : lawful (log ++ event ∷ [])
    pub maker : (c : ℕ) → is_by c (caller event) ≡ true → (c < made) × (whose c ≡ id)
    pub asked : (k : ℕ) → 0 < k → k < length words → asks event ≤ get_or words k 0 / 2

  abbrev Grown : ℕ → ℕ → ℕ → (ℕ → ℕ) → List ℕ → List E → List E → Type 0
  Grown i id made whose words log log' = (log' ≡ log) ⊎ Added i id made whose words log log'

  grown_prefix : (i id made : ℕ) (whose : ℕ → ℕ) (words : List ℕ) (log log' : List E) (seen : List E) → Grown i id made whose words log log' → IsPrefix seen log → IsPrefix seen log'
  grown_prefix i id made whose words log log' seen (inl same) p = subst (IsPrefix seen) (sym same) p
  grown_prefix i id made whose words log log' seen (inr t) p = prefix_trans seen log log' p (t.event ∷ [], sym t.is)

  grown_fits : (i id made : ℕ) (whose : ℕ → ℕ) (words : List ℕ) (log log' : List E) (k : ℕ) (x : I) → Grown i id made whose words log log' → k ≢ i → k < length words → fits log k (get_or words k 0 / 2) x → fits log' k (get_or words k 0 / 2) x
  grown_fits i id made whose words log log' k x (inl same) apart near f = subst (λ l. fits l k (get_or words k 0 / 2) x) (sym same) f
  grown_fits i id made whose words log log' k x (inr t) apart near f =
      let not_first : k ≢ 0 = λ z. apart (z ∙ sym t.first) in
      subst (λ l. fits l k (get_or words k 0 / 2) x) (sym t.is) (lasts log t.event k (get_or words k 0 / 2) x not_first t.law (t.asked k (omega arith) near) f)

  -- the numbers of another seat
  grown_claims : (i id made : ℕ) (whose : ℕ → ℕ) (words : List ℕ) (log log' : List E) (j : ℕ) (seen : List E) (cs : List ℕ) → Grown i id made whose words log log' → j ≢ id → Claims caller log whose made j seen cs → Claims caller log' whose made j seen cs
  grown_claims i id made whose words log log' j seen cs (inl same) other h = subst (λ l. Claims caller l whose made j seen cs) (sym same) h
  grown_claims i id made whose words log log' j seen cs (inr t) other h = subst (λ l. Claims caller l whose made j seen cs) (sym t.is)
      (each_map (λ c. (c < made) × (whose c ≡ j) × (own caller c log ≡ own caller c seen)) _ cs
      (λ c p. (p.0, p.1, own_less caller c log t.event (λ mine. other (sym p.1 ∙ (t.maker c mine).1)) ∙ p.2)) h)

  no_note : (P Q : E → Type 0) (k : ℕ) (n : Option E) → k ≢ 0 → IfSome n (λ e. (k ≡ 0) × P e) → IfSome n (λ e. (k ≡ 0) × Q e)
  no_note P Q k None apart h = tt
  no_note P Q k (Some e) apart h = absurd (apart h.0)

  -- what the rule says of another hand stays so
  hand_else : (log log' : List E) (words : List ℕ) (owner whose : ℕ → ℕ) (made i x id j : ℕ) (v : V) → Grown i id made whose words log log' → j ≢ id → (get_or words i 0 % 2 ≡ 1 → owner i ≡ id)
      → (h : Hand I E) → Hands log words owner j v h → Hands log' (set words i x) (put owner i id) j v h
  hand_else log log' words owner whose made i x id j v g other mine Free ok = tt
  hand_else log log' words owner whose made i x id j v g other mine (Has k y noted) ok =
      let apart : k ≢ i = λ e. other (sym ok.2 ∙ (ap owner e ∙ mine (ap (λ (z : ℕ). get_or words z 0 % 2) (sym e) ∙ ok.1))) in
      let word = get_or-set_other words i k x 0 apart in
      let long = length-set words i x in
      let near = ok.0 in
      let odd = ap (λ (n : ℕ). n % 2) word ∙ ok.1 in
      let own_it = put_else owner i id k apart ∙ ok.2 in
      let fit = subst (λ (n : ℕ). fits log' k (n / 2) y) (sym word) (grown_fits i id made whose words log log' k y g apart near ok.3) in
      ⊎_elim
      (λ (same : log' ≡ log). (
        omega arith,
        odd,
        own_it,
        fit,
        (λ z. ok.4 z ∙ sym same),
        subst (λ (z : ℕ × List E). IfSome noted (λ e. (k ≡ 0) × MayNote lawful asks caller z.0 v z.1 e)) (λ i. (sym long i, sym same i)) ok.5,
      ))
      (λ (t : Added i id made whose words log log').
      let not_first : k ≢ 0 = λ z. apart (z ∙ sym t.first) in
      (omega arith, odd, own_it, fit, (λ z. absurd (not_first z)), no_note _ _ k noted not_first ok.5))
      g

  -- counts never fall
  reached_on : (words : List ℕ) (i x : ℕ) → (i ≢ 0 → get_or words i 0 / 2 ≤ x / 2) → i < length words → (known : List (ℕ × ℕ)) → Reached words known → Reached (set words i x) known
  reached_on words i x up near known h = each_map (λ (z : ℕ × ℕ). (z.0 ≢ 0) × (z.1 ≤ get_or words z.0 0 / 2)) _ known
      (λ z p. (
        p.0,
        dite (ℕ_discrete z.0 i)
            (λ e. let a = p.1 in let b = up (λ q. p.0 (e ∙ q)) in let there = get_or-set_same words i x 0 near in
            let same : get_or words z.0 0 ≡ get_or words i 0 = ap (λ (k : ℕ). get_or words k 0) e in
            subst (λ (k : ℕ). z.1 ≤ get_or (set words i x) k 0 / 2) (sym e) (subst (λ (n : ℕ). z.1 ≤ n / 2) (sym there) (omega arith)))
            (λ ne. subst (λ (n : ℕ). z.1 ≤ n / 2) (sym (get_or-set_other words i z.0 x 0 ne)) p.1),
      )) h

  seats_stay : (K : ℕ → V → Type 0) (vs : List V) (me : ℕ) (w : V) → K me w → ((j : ℕ) (d : V) → j ≢ me → get_elem? vs j ≡ some d → K j d) → (j : ℕ) (d : V) → get_elem? (set vs me w) j ≡ some d → K j d
  seats_stay K vs me w mine others j d e = ⊎_elim (λ (t : (j ≡ me) × (w ≡ d)). subst (λ (x : ℕ × V). K x.0 x.1) (λ i. (sym t.0 i, t.1 i)) mine)
      (λ (t : (j ≢ me) × (get_elem? vs j ≡ some d)). others j d t.0 t.1) (at_set vs me j w d e)

  abbrev Longest : List E → List V → Type 0
  Longest log vs = (j : ℕ) × (v : V) × (get_elem? vs j ≡ some v) × ((v.seen ≡ log) ⊎ (v.beside ≡ log))

  abbrev Stands : List E → List ℕ → Homes → ℕ → Type 0
  Stands log words homes k = (x : I) × (get_elem? homes k ≡ some (some (Some x))) × fits log k (get_or words k 0 / 2) x

  abbrev Held : List V → Homes → (ℕ → ℕ) → ℕ → Type 0
  Held views homes owner k = (get_elem? homes k ≡ some none) × ((v : V) × (get_elem? views (owner k) ≡ some v) × HasCell k v.hand)

  abbrev Numbered : (ℕ → ℕ) → List V → ℕ → Type 0
  Numbered whose views c = (u : V) × (get_elem? views (whose c) ≡ some u) × Among c (u.callers ++ u.joined)

  -- a number stays with its seat, whose view keeps it
  present_stays : (whose : ℕ → ℕ) (views : List V) (id c : ℕ) (v w : V) → get_elem? views id ≡ some v → (Among c (v.callers ++ v.joined) → Among c (w.callers ++ w.joined)) → Numbered whose views c → Numbered whose (set views id w) c
  present_stays whose views id c v w at keeps_it t = dite (ℕ_discrete (whose c) id)
      (λ same. let is : t.0 ≡ v = some-injective t.0 v (sym t.1 ∙ (ap (λ (o : ℕ). get_elem? views o) same ∙ at)) in
      (w, ap (λ (o : ℕ). get_elem? (set views id w) o) same ∙ set_at views id v w at, keeps_it (subst (λ (u : V). Among c (u.callers ++ u.joined)) is t.2)))
      (λ other. (t.0, set_else views id (whose c) w other ∙ t.1, t.2))

  -- a step of the seat id on the word i, which becomes x
  step_keeps : (s : St) (r : Rule s) (i x id : ℕ) (v w : V) (homes' : Homes) (log' : List E)
      → get_elem? s.views id ≡ some v → i < length s.words → length homes' ≡ length s.homes → ((k : ℕ) → k ≢ i → get_elem? homes' k ≡ get_elem? s.homes k)
      → (get_or s.words i 0 % 2 ≡ 1 → r.owner i ≡ id) → Grown i id r.made r.whose s.words r.log log' → lawful log' → ((k : ℕ) → k ≢ i → HasCell k v.hand → HasCell k w.hand)
      → Longest log' (set s.views id w) → (i ≢ 0 → get_or s.words i 0 / 2 ≤ x / 2)
      → (x % 2 ≡ 0 → (y : I) × (get_elem? homes' i ≡ some (some (Some y))) × fits log' i (x / 2) y)
      → (x % 2 ≡ 1 → (get_elem? homes' i ≡ some none) × HasCell i w.hand) → w.callers ++ w.joined ≡ v.callers ++ v.joined
      → Known log' (set s.words i x) (put r.owner i id) r.whose r.made id w
      → Rule record { words = set s.words i x; homes = homes'; views = set s.views id w }
  step_keeps s r i x id v w homes' log' at near deep apart mine g law keeps_cells long up even odd numbers known =
      let words' : List ℕ = set s.words i x in
      let views' : List V = set s.views id w in
      let owner' : ℕ → ℕ = put r.owner i id in
      let wide = length-set s.words i x in
      let wide' = r.wide in
      let here : get_or words' i 0 ≡ x = get_or-set_same s.words i x 0 near in
      let there : (k : ℕ) → k ≢ i → get_or words' k 0 ≡ get_or s.words k 0 = λ k ne. get_or-set_other s.words i k x 0 ne in
      let now : (k : ℕ) → k ≡ i → x % 2 ≡ get_or words' k 0 % 2 = λ k is. ap (λ (n : ℕ). n % 2) (sym here) ∙ ap (λ (z : ℕ). get_or words' z 0 % 2) (sym is) in
      let mine' : get_elem? views' id ≡ some w = set_at s.views id v w at in
      let owned : (k : ℕ) → k ≢ i → (u : V) × (get_elem? s.views (r.owner k) ≡ some u) × HasCell k u.hand → (u : V) × (get_elem? views' (r.owner k) ≡ some u) × HasCell k u.hand =
      λ k ne t. dite (ℕ_discrete (r.owner k) id)
      (λ same. let is : t.0 ≡ v = some-injective t.0 v (sym t.1 ∙ (ap (λ (o : ℕ). get_elem? s.views o) same ∙ at)) in
      (w, ap (λ (o : ℕ). get_elem? views' o) same ∙ mine', keeps_cells k ne (subst (λ (u : V). HasCell k u.hand) is t.2)))
      (λ other. (t.0, set_else s.views id (r.owner k) w other ∙ t.1, t.2)) in
      record {
        log = log';
        owner = owner';
        whose = r.whose;
        made = r.made;
        wide = wide ∙ (r.wide ∙ sym deep);
        law = law;
        longest = long;
        free = λ k l e. dite (ℕ_discrete k i)
            (λ is. subst (λ (z : ℕ). Stands log' words' homes' z) (sym is) (let t = even (now k is ∙ e) in (t.0, t.1, subst (λ (n : ℕ). fits log' i (n / 2) t.0) (sym here) t.2)))
            (λ ne. let near' : k < length s.words = omega arith in let t = r.free k near' (sym (ap (λ (n : ℕ). n % 2) (there k ne)) ∙ e) in
            (t.0, apart k ne ∙ t.1, subst (λ (n : ℕ). fits log' k (n / 2) t.0) (sym (there k ne)) (grown_fits i id r.made r.whose s.words r.log log' k t.0 g ne near' t.2)));
        held = λ k l e. dite (ℕ_discrete k i)
            (λ is. subst (λ (z : ℕ). Held views' homes' owner' z) (sym is) (let t = odd (now k is ∙ e) in
            (t.0, (w, ap (λ (o : ℕ). get_elem? views' o) (put_here r.owner i id) ∙ mine', t.1))))
            (λ ne. let t = r.held k (omega arith) (sym (ap (λ (n : ℕ). n % 2) (there k ne)) ∙ e) in
            (apart k ne ∙ t.0, subst (λ (o : ℕ). (u : V) × (get_elem? views' o ≡ some u) × HasCell k u.hand) (sym (put_else r.owner i id k ne)) (owned k ne t.1)));
        present = λ c l. present_stays r.whose s.views id c v w at (λ h. subst (λ (n : List ℕ). Among c n) (sym numbers) h) (r.present c l);
        fresh = λ c l. ⊎_elim (λ (same : log' ≡ r.log). subst (λ (z : List E). own caller c z ≡ []) (sym same) (r.fresh c l))
            (λ (t : Added i id r.made r.whose s.words r.log log'). subst (λ (z : List E). own caller c z ≡ []) (sym t.is) (own_less caller c r.log t.event (λ by. absurd (let m = (t.maker c by).0 in omega arith)) ∙ r.fresh c l)) g;
        few = r.few;
        each_seat = seats_stay (Known log' words' owner' r.whose r.made) s.views id w known
            (λ j d other at_j. let t = r.each_seat j d at_j in record {
              about = t.about;
              seen = grown_prefix i id r.made r.whose s.words r.log log' d.seen g t.seen;
              beside = grown_prefix i id r.made r.whose s.words r.log log' d.beside g t.beside;
              hand = hand_else r.log log' s.words r.owner r.whose r.made i x id j d g other mine d.hand t.hand;
              callers = grown_claims i id r.made r.whose s.words r.log log' j d.seen d.callers g other t.callers;
              joined = grown_claims i id r.made r.whose s.words r.log log' j d.beside d.joined g other t.joined;
              apart = t.apart;
              known = reached_on s.words i x up near d.known t.known;
              room = t.room;
            });
      }

  -- the longest stays where this pass has seen what it had
  still_longest : (log : List E) (views : List V) (id : ℕ) (v w : V) → get_elem? views id ≡ some v → ((v.seen ≡ log) ⊎ (v.beside ≡ log) → (w.seen ≡ log) ⊎ (w.beside ≡ log)) → Longest log views → Longest log (set views id w)
  still_longest log views id v w at long t = dite (ℕ_discrete t.0 id)
      (λ same. let is : t.1 ≡ v = some-injective t.1 v (sym t.2 ∙ (ap (λ (o : ℕ). get_elem? views o) same ∙ at)) in (id, w, set_at views id v w at, long (subst (λ (u : V). (u.seen ≡ log) ⊎ (u.beside ≡ log)) is t.3)))
      (λ other. (t.0, t.1, set_else views id t.0 w other ∙ t.2, t.3))

  abbrev Goes : St → ℕ → ℕ → Sat → (ℕ → Sat → Type 0) → ℕ → Type 0
  Goes s i id m then x = (w : V) × (a : Act (Option I)) × Valid s.homes m.1 a × Rule (stepped s i x id m.1 w a) × then (get_or s.words i 0) (w, carried_after m.1 a)

  -- a step that changes nothing
  unmoved : (s : St) → Rule s → (i id : ℕ) (m : Sat) → get_elem? s.views id ≡ some m.0 → Rule (stepped s i (get_or s.words i 0) id m.1 m.0 keeps)
  unmoved s r i id m at = subst (λ (z : List ℕ × List V). Rule record { words = z.0; homes = s.homes; views = z.1 }) (λ k. (sym (set-get_or s.words i 0) k, sym (set_again s.views id m.0 at) k)) r

  reached_more : (words : List ℕ) (k c : ℕ) (known : List (ℕ × ℕ)) → (k ≢ 0 → c ≤ get_or words k 0 / 2) → Reached words known → Reached words (more_known k c known)
  reached_more words k c known le h = dite (ℕ_discrete k 0)
      (λ e. subst (λ (b : Bool). Reached words (cond b known ((k, c) ∷ known))) (sym (eq-eqb k 0 e)) h)
      (λ ne. subst (λ (b : Bool). Reached words (cond b known ((k, c) ∷ known))) (sym (ne_eqb k 0 ne)) ((ne, le ne), h))

  -- the numbers of a pass that has seen more
  claims_more : (log : List E) (whose : ℕ → ℕ) (made j : ℕ) (old new : List E) (cs : List ℕ) → IsPrefix old new → IsPrefix new log → Claims caller log whose made j old cs → Claims caller log whose made j new cs
  claims_more log whose made j old new cs p q h = each_map (λ c. (c < made) × (whose c ≡ j) × (own caller c log ≡ own caller c old)) _ cs (λ c t. (t.0, t.1, own_between caller c old new log p q t.2)) h

  -- what is true by the key of the cells is true by the one that the pass has
  by_key : (P : K → Type 0) → P key → (a : Option K) → IfSome a (λ k. k ≡ key) → IfSome a P
  by_key P p None h = tt
  by_key P p (Some k) h = subst P (sym h) p

  -- the cell is taken, with this much of the history seen
  take_with : (s : St) (r : Rule s) (n id k found : ℕ) (m : Sat) (said : maybe.Option (Option I)) (seen : List E) → get_elem? s.views id ≡ some m.0 → k < length s.words → m.0.hand ≡ Free
      → found % 2 ≡ 0 → get_or s.words k 0 ≡ found → IsPrefix m.0.seen seen → IsPrefix seen r.log → (k ≡ 0 → seen ≡ r.log) → (k ≢ 0 → seen ≡ m.0.seen) → (m.0.seen ≡ r.log → seen ≡ r.log)
      → Goes s k id m (taken lawful_by fits_by caller (step n k found (found + 1) said) m) (found + 1)
  take_with s r n id k found m said seen at near idle even is from to whole same long =
      let t = r.free k near (ap (λ (n : ℕ). n % 2) is ∙ even) in
      let y : I = t.0 in
      let c : ℕ = get_or s.words k 0 / 2 in
      let half : c ≡ (found + 1) / 2 = omega (arith, is) in
      let odd : (found + 1) % 2 ≡ 1 = omega arith in
      let w : V = took k y seen c m.0 in
      let now = get_or-set_same s.words k (found + 1) 0 near in
      let mine = r.each_seat id m.0 at in
      let wide = r.wide in
      let words' : List ℕ = set s.words k (found + 1) in
      let up : k ≢ 0 → c ≤ (found + 1) / 2 = λ _. omega arith in (
        w,
        takes k (Some y),
        t.1,
        step_keeps s r k (found + 1) id m.0 w (set s.homes k none) r.log at near (length-set s.homes k none) (λ j ne. set_else s.homes k j none ne)
            (λ e. absurd (omega (arith, is))) (inl refl) r.law (λ j ne has. absurd (subst (HasCell j) idle has))
            (still_longest r.log s.views id m.0 w at (λ h. ⊎_elim (λ (a : m.0.seen ≡ r.log). inl (long a)) (λ (b : m.0.beside ≡ r.log). inr b) h) r.longest) up
            (λ e. absurd (omega arith)) (λ _. (set_here s.homes k none (omega arith), refl)) refl
            record {
              about = mine.about;
              seen = to;
              beside = mine.beside;
              hand = (
                (let l = length-set s.words k (found + 1) in omega arith),
                ap (λ (n : ℕ). n % 2) now ∙ odd,
                put_here r.owner k id,
                subst (λ (n : ℕ). fits r.log k (n / 2) y) (sym now) (subst (λ (c : ℕ). fits r.log k c y) half t.2),
                whole,
                tt,
              );
              callers = claims_more r.log r.whose r.made id m.0.seen seen m.0.callers from to mine.callers;
              joined = mine.joined;
              apart = mine.apart;
              known = reached_more words' k c m.0.known (λ _. subst (λ (n : ℕ). c ≤ n / 2) (sym now) (omega arith)) (reached_on s.words k (found + 1) up near m.0.known mine.known);
              room = mine.room;
            },
        ((λ _. (y, r.log, seen, refl, from, to, by_key (λ a. lawful_by a r.log × fits_by a r.log k c y) (r.law, t.2) m.0.about mine.about, whole, same, each_map _ (λ c. own caller c r.log ≡ own caller c m.0.seen) m.0.callers (λ c p. p.2) mine.callers, reached_least s.words k m.0.known mine.known, λ pos c l. let room = (mine.room.0 pos).1 in r.fresh c (omega arith))), λ ne. absurd (ne is)),
      )

  pub takes_cell : (n id : ℕ) (m : Sat) (k found : ℕ) (said : maybe.Option (Option I)) → k < n → m.0.hand ≡ Free → found % 2 ≡ 0
      → Allows Rule n id m k (λ y. either (eqb y found) (found + 1) y) (taken lawful_by fits_by caller (step n k found (found + 1) said) m)
  takes_cell n id m k found said near idle even s r deep at _ = let wide = r.wide in let mine = r.each_seat id m.0 at in
      exchanged (get_or s.words k 0) found (found + 1) (Goes s k id m (taken lawful_by fits_by caller (step n k found (found + 1) said) m))
      (λ hit. dite (ℕ_discrete k 0)
      (λ first. take_with s r n id k found m said r.log at (omega arith) idle even hit mine.seen (prefix_self r.log) (λ _. refl) (λ ne. absurd (ne first)) (λ _. refl))
      (λ other. take_with s r n id k found m said m.0.seen at (omega arith) idle even hit (prefix_self m.0.seen) mine.seen (λ z. absurd (other z)) (λ _. refl) (λ e. e)))
      (λ miss. (m.0, keeps, tt, unmoved s r k id m at, ((λ e. absurd (miss e)), λ _. refl)))

  -- an event is noted on the cell in hand, or none is
  notes : (n id : ℕ) (v : V) (k : ℕ) (x : I) (old event : Option E) (cs : List (ℕ × Option I)) → IfSome event (λ e. (k ≡ 0) × MayNote lawful asks caller n v v.seen e)
      → let m : Sat = (record v { hand = Has k x old }, cs) in Allows Rule n id m k (λ y. y) (noted event (step n k 0 0 none) m)
  notes n id v₀ k x old event cs may s r deep at _ =
      let v : V = record v₀ { hand = Has k x old } in
      let w : V = record v₀ { hand = Has k x event } in
      let mine = r.each_seat id v at in
      let hand = mine.hand in
      let t = r.held k hand.0 hand.1 in
      let now = get_or-set_same s.words k (get_or s.words k 0) 0 hand.0 in
      let long = length-set s.words k (get_or s.words k 0) in
      let near = hand.0 in
      let cells : n ≡ length (set s.words k (get_or s.words k 0)) = sym deep ∙ (sym r.wide ∙ sym long) in
      let up : k ≢ 0 → get_or s.words k 0 / 2 ≤ get_or s.words k 0 / 2 = λ _. omega arith in (
        w,
        keeps,
        tt,
        step_keeps s r k (get_or s.words k 0) id v w s.homes r.log at hand.0 refl (λ j ne. refl) (λ _. hand.2) (inl refl) r.law (λ j ne has. has)
            (still_longest r.log s.views id v w at (λ h. h) r.longest) up (λ e. absurd (omega (arith, hand.1))) (λ _. (t.0, refl)) refl
            record {
              about = mine.about;
              seen = mine.seen;
              beside = mine.beside;
              hand = (omega arith, ap (λ (n : ℕ). n % 2) now ∙ hand.1, put_here r.owner k id, subst (λ (n : ℕ). fits r.log k (n / 2) x) (sym now) hand.3, hand.4, allowed v₀ (length (set s.words k (get_or s.words k 0))) cells r.log event may hand.4);
              callers = mine.callers;
              joined = mine.joined;
              apart = mine.apart;
              known = reached_on s.words k (get_or s.words k 0) up near v.known mine.known;
              room = mine.room;
            },
        refl,
      )
    where
      allowed : (v : V) (long : ℕ) → n ≡ long → (log : List E) (event : Option E) → IfSome event (λ e. (k ≡ 0) × MayNote lawful asks caller n v v.seen e) → (k ≡ 0 → v.seen ≡ log) → IfSome event (λ e. (k ≡ 0) × MayNote lawful asks caller long v log e)
      allowed v long is log None a whole = tt
      allowed v long is log (Some e) a whole = (a.0, subst (λ (z : ℕ × List E). MayNote lawful asks caller z.0 v z.1 e) (λ i. (is i, whole a.0 i)) a.1)

  pub notes_as : (n id : ℕ) (m : Sat) (k : ℕ) (x : I) (old event : Option E) → m.0.hand ≡ Has k x old → IfSome event (λ e. (k ≡ 0) × MayNote lawful asks caller n m.0 m.0.seen e)
      → Allows Rule n id m k (λ y. y) (noted event (step n k 0 0 none) m)
  notes_as n id m k x old event is may = subst (λ (h : Hand I E). let m' : Sat = (record m.0 { hand = h }, m.1) in Allows Rule n id m' k (λ y. y) (noted event (step n k 0 0 none) m')) (sym is)
      (notes n id m.0 k x old event m.1 may)

  maker_of : (whose : ℕ → ℕ) (made id : ℕ) (log seen : List E) (o : Option ℕ) (cs : List ℕ) → MayCall o cs → Claims caller log whose made id seen cs → (c : ℕ) → is_by c o ≡ true → (c < made) × (whose c ≡ id)
  maker_of whose made id log seen None cs may h c is = absurd (true≢false (sym is))
  maker_of whose made id log seen (Some d) [] may h c is = let z = may.0 in absurd (omega arith)
  maker_of whose made id log seen (Some d) (a ∷ rest) may h c is = let same : a ≡ c = sym (eqb-true c d is ∙ may.1) in subst (λ (z : ℕ). (z < made) × (whose z ≡ id)) same (h.0.0, h.0.1)

  release_with : (s : St) (r : Rule s) (n id k count : ℕ) (v : V) (x y : I) (event : Option E) (cs : List (ℕ × Option I)) → v.hand ≡ Has k x event → let m : Sat = (v, (k, Some y) ∷ cs) in
      let log' : List E = r.log ++ option_to_list event in let w : V = record v { seen = v.seen ++ option_to_list event; hand = Free; known = more_known k count v.known } in
      get_elem? s.views id ≡ some v → v.joined ≡ [] → count < 2 ^ 63 → Fitting lawful fits v.seen k x event count y → Grown k id r.made r.whose s.words r.log log' → lawful log' → IsPrefix w.seen log' → Longest log' (set s.views id w)
      → (a : Act (Option I)) × Valid s.homes m.1 a × Rule (stepped s k (2 * count) id m.1 w a) × (carried_after m.1 a ≡ cs) × (k ≢ 0 → least_of k v.known ≤ count)
  release_with s r n id k count v x y event cs holds at none_joined small fitting g law pre long =
      let w : V = record v { seen = v.seen ++ option_to_list event; hand = Free; known = more_known k count v.known } in
      let log' : List E = r.log ++ option_to_list event in
      let mine = r.each_seat id v at in
      let hand = subst (Hands r.log s.words r.owner id v) holds mine.hand in
      let near = hand.0 in
      let wide = r.wide in
      let half : count ≡ 2 * count / 2 = omega arith in
      let words' : List ℕ = set s.words k (2 * count) in
      let now = get_or-set_same s.words k (2 * count) 0 near in
      let f = fitting r.log (get_or s.words k 0 / 2) r.law mine.seen hand.4 hand.3 in
      let up : k ≢ 0 → get_or s.words k 0 / 2 ≤ 2 * count / 2 = λ ne. let h = f.1 ne in omega arith in (
        gives,
        tt,
        step_keeps s r k (2 * count) id v w (set s.homes k (some (Some y))) log' at near (length-set s.homes k (some (Some y))) (λ j ne. set_else s.homes k j (some (Some y)) ne) (λ _. hand.2) g law
            (λ j ne has. absurd (let h : k ≡ j = subst (HasCell j) holds has in ne (sym h))) long up (λ _. (y, set_here s.homes k (some (Some y)) (omega arith), subst (λ (c : ℕ). fits log' k c y) half f.0)) (λ e. absurd (omega arith)) refl
            record {
              about = mine.about;
              seen = pre;
              beside = grown_prefix k id r.made r.whose s.words r.log log' v.beside g mine.beside;
              hand = tt;
              callers = each_map (λ c. (c < r.made) × (r.whose c ≡ id) × (own caller c r.log ≡ own caller c v.seen)) _ v.callers (λ c p. (p.0, p.1, own_more caller c r.log v.seen (option_to_list event) p.2)) mine.callers;
              joined = subst (Claims caller log' r.whose r.made id v.beside) (sym none_joined) tt;
              apart = mine.apart;
              known = reached_more words' k count v.known (λ _. subst (λ (n : ℕ). count ≤ n / 2) (sym now) (omega arith)) (reached_on s.words k (2 * count) up near v.known mine.known);
              room = mine.room;
            },
        refl,
        (λ ne. let a = f.1 ne in let b = reached_least s.words k v.known mine.known in omega arith),
      )

  releases : (n id k count : ℕ) (v : V) (x y : I) (event : Option E) (cs : List (ℕ × Option I)) → v.hand ≡ Has k x event → v.joined ≡ [] → let m : Sat = (v, (k, Some y) ∷ cs) in
      let w : V = record v { seen = v.seen ++ option_to_list event; hand = Free; known = more_known k count v.known } in
      count < 2 ^ 63 → Fitting lawful fits v.seen k x event count y → Allows Rule n id m k (λ _. 2 * count) (λ _ m'. (m' ≡ (w, cs)) × (k ≢ 0 → least_of k v.known ≤ count))
  releases n id k count v x y None cs holds none_joined small fitting s r deep at _ =
      let mine = r.each_seat id v at in
      let same : r.log ++ [] ≡ r.log = append-nil r.log in
      let w : V = record v { seen = v.seen ++ []; hand = Free; known = more_known k count v.known } in
      let t = release_with s r n id k count v x y None cs holds at none_joined small fitting (inl same) (subst lawful (sym same) r.law)
      (subst (λ (z : List E × List E). IsPrefix z.0 z.1) (λ i. (sym (append-nil v.seen) i, sym same i)) mine.seen)
      (subst (λ (l : List E). Longest l (set s.views id w)) (sym same) (still_longest r.log s.views id v w at (λ h. ⊎_elim (λ (a : v.seen ≡ r.log). inl (append-nil v.seen ∙ a)) (λ (b : v.beside ≡ r.log). inr b) h) r.longest)) in
      (w, t.0, t.1, t.2, ((λ i. (w, t.3 i)), t.4))
  releases n id k count v x y (Some e) cs holds none_joined small fitting s r deep at _ =
      let w : V = record v { seen = v.seen ++ e ∷ []; hand = Free; known = more_known k count v.known } in
      let mine = r.each_seat id v at in
      let hand = subst (Hands r.log s.words r.owner id v) holds mine.hand in
      let note = hand.5 in
      let whole : v.seen ≡ r.log = hand.4 note.0 in
      let whole' : v.seen ++ e ∷ [] ≡ r.log ++ e ∷ [] = ap (λ (l : List E). l ++ e ∷ []) whole in
      let added : Added k id r.made r.whose s.words r.log (r.log ++ e ∷ []) = record {
        event = e;
        is = refl;
        first = note.0;
        law = note.1.0;
        maker = maker_of r.whose r.made id r.log v.seen (caller e) v.callers note.1.1 mine.callers;
        asked = λ j some_j near. let a = note.1.2 j some_j near in let b = reached_least s.words j v.known mine.known in omega arith;
      } in
      let t = release_with s r n id k count v x y (Some e) cs holds at none_joined small fitting (inr added) note.1.0
      (subst (λ (l : List E). IsPrefix (v.seen ++ e ∷ []) l) whole' (prefix_self (v.seen ++ e ∷ []))) (id, w, set_at s.views id v w at, inl whole') in
      (w, t.0, t.1, t.2, ((λ i. (w, t.3 i)), t.4))

  pub releases_as : (n id : ℕ) (m : Sat) (k count : ℕ) (x y : I) (event : Option E) (cs : List (ℕ × Option I)) → m.0.hand ≡ Has k x event → m.1 ≡ (k, Some y) ∷ cs → m.0.joined ≡ [] → count < 2 ^ 63 → Fitting lawful fits m.0.seen k x event count y
      → Allows Rule n id m k (λ _. 2 * count) (λ _. released (step n k (2 * count) 0 none) m (2 * count))
  releases_as n id m k count x y event cs is carried none_joined small fitting s r deep at fit =
      let half : count ≡ 2 * count / 2 = omega arith in
      let went : (h : Hand I E) (l : List (ℕ × Option I)) → h ≡ Has k x event → l ≡ (k, Some y) ∷ cs
      → let a : Sat = (record m.0 { seen = m.0.seen ++ option_to_list event; hand = Free; known = more_known k count m.0.known }, cs) in
      let b : Sat = (record m.0 { seen = m.0.seen ++ option_to_list (noted_of h); hand = Free; known = more_known k (2 * count / 2) m.0.known }, rest l) in a ≡ b =
      λ h l p q i. (record m.0 { seen = m.0.seen ++ option_to_list (noted_of (sym p i)); hand = Free; known = more_known k (half i) m.0.known }, rest (sym q i)) in
      let f = subst (λ (l : List (ℕ × Option I)). let m' : Sat = (m.0, l) in Allows Rule n id m' k (λ _. 2 * count) (λ _ m''. (m'' ≡ (record m.0 { seen = m.0.seen ++ option_to_list event; hand = Free; known = more_known k count m.0.known }, cs)) × (k ≢ 0 → least_of k m.0.known ≤ count))) (sym carried)
      (releases n id k count m.0 x y event cs is none_joined small fitting) s r deep at fit in
      (f.0, f.1, f.2, f.3, (f.4.0 ∙ went m.0.hand m.1 is carried, λ ne. let low = f.4.1 ne in omega arith))

  pub splits_pass : (id : ℕ) (v : V) → v.hand ≡ Free → 0 < v.room → v.joined ≡ [] → Splits Rule id v (less v) (child v)
  splits_pass id v idle some_room none_joined s r at =
      let mine = r.each_seat id v at in
      let w : V = less v in
      let new : V = child v in
      let is_first : 0 < v.next = dite (ℕ_discrete v.next 0) (λ z. absurd (let h = mine.room.1 z in omega arith)) (λ ne. omega arith) in
      let room = mine.room.0 is_first in
      let n : ℕ = length (set s.views id w) in
      let whose' : ℕ → ℕ = put r.whose v.next n in
      let made' : ℕ = r.made + 1 in
      let views' : List V = set s.views id w ++ new ∷ [] in
      let K : ℕ → V → Type 0 = Known r.log s.words r.owner whose' made' in
      let old_claims : (j : ℕ) (seen : List E) (cs : List ℕ) → Claims caller r.log r.whose r.made j seen cs → Claims caller r.log whose' made' j seen cs =
      λ j seen cs h. each_map (λ c. (c < r.made) × (r.whose c ≡ j) × (own caller c r.log ≡ own caller c seen)) _ cs
      (λ c p. let lt = p.0 in (omega arith, put_else r.whose v.next n c (λ e. let q = room.1 in omega arith) ∙ p.1, p.2)) h in
      let none_yet : own caller v.next r.log ≡ own caller v.next v.seen = own_none caller v.next v.seen r.log mine.seen (r.fresh v.next (let q = room.1 in omega arith)) in
      let made_more : v.next + 1 ≡ made' = let q = room.1 in omega arith in
      record {
        log = r.log;
        owner = r.owner;
        whose = whose';
        made = made';
        wide = r.wide;
        law = r.law;
        longest = let t = still_longest r.log s.views id v w at (λ h. h) r.longest in (t.0, t.1, at_longer (set s.views id w) (new ∷ []) t.0 t.1 t.2, t.3);
        free = r.free;
        held = λ k l e. let t = r.held k l e in (
          t.0,
          dite (ℕ_discrete (r.owner k) id)
              (λ same. let is : t.1.0 ≡ v = some-injective t.1.0 v (sym t.1.1 ∙ (ap (λ (o : ℕ). get_elem? s.views o) same ∙ at)) in
              absurd (subst (HasCell k) idle (subst (λ (z : V). HasCell k z.hand) is t.1.2)))
              (λ ne. (t.1.0, at_longer (set s.views id w) (new ∷ []) (r.owner k) t.1.0 (set_else s.views id (r.owner k) w ne ∙ t.1.1), t.1.2)),
        );
        present = λ c l. dite (ℕ_discrete c v.next)
            (λ same. subst (Numbered whose' views') (sym same) (new, ap (λ (o : ℕ). get_elem? views' o) (put_here r.whose v.next n) ∙ at_end (set s.views id w) new, inl refl))
            (λ ne. let q = room.1 in let t = present_stays r.whose s.views id c v w at (λ h. h) (r.present c (omega arith)) in
            (t.0, ap (λ (o : ℕ). get_elem? views' o) (put_else r.whose v.next n c ne) ∙ at_longer (set s.views id w) (new ∷ []) (r.whose c) t.0 t.1, t.2));
        fresh = λ c l. r.fresh c (omega arith);
        few = let a = room.1 in let b = room.2 in omega arith;
        each_seat = λ j u e. ⊎_elim
            (λ (old : get_elem? (set s.views id w) j ≡ some u). seats_stay K s.views id w
            record {
              about = mine.about;
              seen = mine.seen;
              beside = mine.beside;
              hand = subst (λ (h : Hand I E). Hands r.log s.words r.owner id w h) (sym idle) tt;
              callers = old_claims id v.seen v.callers mine.callers;
              joined = old_claims id v.beside v.joined mine.joined;
              apart = mine.apart;
              known = mine.known;
              room = ((λ _. (room.0, made_more, (let a = room.2 in omega arith))), λ z. absurd (omega arith));
            }
            (λ i d other at_i. let t = r.each_seat i d at_i in record {
              about = t.about;
              seen = t.seen;
              beside = t.beside;
              hand = t.hand;
              callers = old_claims i d.seen d.callers t.callers;
              joined = old_claims i d.beside d.joined t.joined;
              apart = t.apart;
              known = t.known;
              room = ((λ pos. absurd (other ((t.room.0 pos).0 ∙ sym room.0))), t.room.1);
            }) j u old)
            (λ (t : (j ≡ n) × (new ≡ u)). subst (λ (z : ℕ × V). K z.0 z.1) (λ i. (sym t.0 i, t.1 i)) record {
              about = mine.about;
              seen = mine.seen;
              beside = (r.log, refl);
              hand = tt;
              callers = (((let q = room.1 in omega arith), put_here r.whose v.next n, none_yet), tt);
              joined = tt;
              apart = (tt, tt);
              known = mine.known;
              room = ((λ pos. absurd (omega arith)), λ _. refl);
            })
            (at_snoc (set s.views id w) new u j e);
      }

  -- a seat of no caller moves no number
  pub splits_witness : (id : ℕ) (v : V) → v.hand ≡ Free → Splits Rule id v v (witness v)
  splits_witness id v idle s r at =
      let mine = r.each_seat id v at in
      let new : V = witness v in
      let vs : List V = set s.views id v in
      let K : ℕ → V → Type 0 = Known r.log s.words r.owner r.whose r.made in
      record {
        log = r.log;
        owner = r.owner;
        whose = r.whose;
        made = r.made;
        wide = r.wide;
        law = r.law;
        longest = let t = still_longest r.log s.views id v v at (λ h. h) r.longest in (t.0, t.1, at_longer vs (new ∷ []) t.0 t.1 t.2, t.3);
        free = r.free;
        held = λ k l e. let t = r.held k l e in (
          t.0,
          dite (ℕ_discrete (r.owner k) id)
              (λ same. let is : t.1.0 ≡ v = some-injective t.1.0 v (sym t.1.1 ∙ (ap (λ (o : ℕ). get_elem? s.views o) same ∙ at)) in
              absurd (subst (HasCell k) idle (subst (λ (z : V). HasCell k z.hand) is t.1.2)))
              (λ ne. (t.1.0, at_longer vs (new ∷ []) (r.owner k) t.1.0 (set_else s.views id (r.owner k) v ne ∙ t.1.1), t.1.2)),
        );
        present = λ c l. let t = present_stays r.whose s.views id c v v at (λ h. h) (r.present c l) in (t.0, at_longer vs (new ∷ []) (r.whose c) t.0 t.1, t.2);
        fresh = r.fresh;
        few = r.few;
        each_seat = λ j u e. ⊎_elim
            (λ (old : get_elem? vs j ≡ some u). seats_stay K s.views id v mine (λ i d _. r.each_seat i d) j u old)
            (λ (t : (j ≡ length vs) × (new ≡ u)). subst (λ (z : ℕ × V). K z.0 z.1) (λ i. (sym t.0 i, t.1 i)) record {
              about = mine.about;
              seen = mine.seen;
              beside = (r.log, refl);
              hand = tt;
              callers = tt;
              joined = tt;
              apart = tt;
              known = mine.known;
              room = ((λ pos. absurd (omega arith)), λ _. refl);
            })
            (at_snoc vs new u j e);
      }

  pub joins_pass : (id : ℕ) (v : V) (other : ℕ) (u : V) → v.hand ≡ Free → v.beside ≡ [] → v.joined ≡ [] → u.beside ≡ [] → u.joined ≡ [] → u.hand ≡ Free → Joins Rule id v other u (beside_of v u) spent
  joins_pass id v other u idle_mine bare none_joined bare' none_joined' idle s r at apart there =
      let w : V = beside_of v u in
      let mine = r.each_seat id v at in
      let there' : get_elem? s.views other ≡ some u = sym (set_else s.views id other w apart) ∙ there in
      let theirs = r.each_seat other u there' in
      let vs : List V = set s.views id w in
      let views' : List V = set vs other spent in
      let apart' : id ≢ other = λ e. apart (sym e) in
      let at' : get_elem? views' id ≡ some w = set_else vs other id spent apart' ∙ set_at s.views id v w at in
      let whose' : ℕ → ℕ = moved r.whose other id in
      let K : ℕ → V → Type 0 = Known r.log s.words r.owner whose' r.made in
      let empty : (l : List E) → IsPrefix l r.log → [] ≡ r.log → l ≡ r.log = λ l p e. prefix_whole l r.log p (let n = ap length e in omega arith) in
      let same_claims : (j : ℕ) (seen : List E) (cs : List ℕ) → j ≢ other → Claims caller r.log r.whose r.made j seen cs → Claims caller r.log whose' r.made j seen cs =
      λ j seen cs ne h. each_map (λ c. (c < r.made) × (r.whose c ≡ j) × (own caller c r.log ≡ own caller c seen)) _ cs
      (λ c p. (p.0, moved_else r.whose other id c (λ e. ne (sym p.1 ∙ e)) ∙ p.1, p.2)) h in
      let which : (j : ℕ) (d : V) → get_elem? s.views j ≡ some d → (d.seen ≡ r.log) ⊎ (d.beside ≡ r.log) → Longest r.log views' =
      λ j d e h. dite (ℕ_discrete j id)
      (λ same. let is : d ≡ v = some-injective d v (sym e ∙ (ap (λ (o : ℕ). get_elem? s.views o) same ∙ at)) in
      (id, w, at', ⊎_elim (λ (a : d.seen ≡ r.log). inl (sym (ap (λ (z : V). z.seen) is) ∙ a)) (λ (b : d.beside ≡ r.log). inl (empty v.seen mine.seen (sym bare ∙ (sym (ap (λ (z : V). z.beside) is) ∙ b)))) h))
      (λ ne. dite (ℕ_discrete j other)
      (λ same. let is : d ≡ u = some-injective d u (sym e ∙ (ap (λ (o : ℕ). get_elem? s.views o) same ∙ there')) in
      (id, w, at', ⊎_elim (λ (a : d.seen ≡ r.log). inr (sym (ap (λ (z : V). z.seen) is) ∙ a)) (λ (b : d.beside ≡ r.log). inl (empty v.seen mine.seen (sym bare' ∙ (sym (ap (λ (z : V). z.beside) is) ∙ b)))) h))
      (λ ne'. (j, d, set_else vs other j spent ne' ∙ (set_else s.views id j w ne ∙ e), h))) in
      record {
        log = r.log;
        owner = r.owner;
        whose = whose';
        made = r.made;
        wide = r.wide;
        law = r.law;
        longest = which r.longest.0 r.longest.1 r.longest.2 r.longest.3;
        free = r.free;
        held = λ k l e. let t = r.held k l e in (
          t.0,
          dite (ℕ_discrete (r.owner k) id)
              (λ same. let is : t.1.0 ≡ v = some-injective t.1.0 v (sym t.1.1 ∙ (ap (λ (o : ℕ). get_elem? s.views o) same ∙ at)) in
              absurd (subst (HasCell k) idle_mine (subst (λ (z : V). HasCell k z.hand) is t.1.2)))
              (λ ne. dite (ℕ_discrete (r.owner k) other)
              (λ same. let is : t.1.0 ≡ u = some-injective t.1.0 u (sym t.1.1 ∙ (ap (λ (o : ℕ). get_elem? s.views o) same ∙ there')) in
              absurd (subst (HasCell k) idle (subst (λ (z : V). HasCell k z.hand) is t.1.2)))
              (λ ne'. (t.1.0, set_else vs other (r.owner k) spent ne' ∙ (set_else s.views id (r.owner k) w ne ∙ t.1.1), t.1.2))),
        );
        present = λ c l. let t = r.present c l in dite (ℕ_discrete (r.whose c) other)
            (λ theirs_is. let is : t.0 ≡ u = some-injective t.0 u (sym t.1 ∙ (ap (λ (o : ℕ). get_elem? s.views o) theirs_is ∙ there')) in
            (w, ap (λ (o : ℕ). get_elem? views' o) (moved_here r.whose other id c theirs_is) ∙ at', among_right c v.callers u.callers (among_alone c u.callers u.joined none_joined' (subst (λ (z : V). Among c (z.callers ++ z.joined)) is t.2))))
            (λ ne. let a = present_stays r.whose s.views id c v w at (λ h. among_left c v.callers u.callers (among_alone c v.callers v.joined none_joined h)) t in
            (a.0, ap (λ (o : ℕ). get_elem? views' o) (moved_else r.whose other id c ne) ∙ (set_else vs other (r.whose c) spent ne ∙ a.1), a.2));
        fresh = r.fresh;
        few = r.few;
        each_seat = seats_stay K vs other spent
            record { about = tt; seen = (r.log, refl); beside = (r.log, refl); hand = tt; callers = tt; joined = tt; apart = tt; known = tt; room = ((λ pos. absurd (omega arith)), λ _. refl) }
            (λ j d ne at_j. seats_stay (λ j d. j ≢ other → K j d) s.views id w
            (λ _. record {
              about = mine.about;
              seen = mine.seen;
              beside = theirs.seen;
              hand = subst (λ (h : Hand I E). Hands r.log s.words r.owner id w h) (sym idle_mine) tt;
              callers = same_claims id v.seen v.callers apart' mine.callers;
              joined = each_map (λ c. (c < r.made) × (r.whose c ≡ other) × (own caller c r.log ≡ own caller c u.seen)) _ u.callers (λ c p. (p.0, moved_here r.whose other id c p.1, p.2)) theirs.callers;
              apart = differ_append v.callers u.callers r.whose id other apart'
                  (each_map (λ c. (c < r.made) × (r.whose c ≡ id) × (own caller c r.log ≡ own caller c v.seen)) (λ c. r.whose c ≡ id) v.callers (λ c p. p.1) mine.callers)
                  (each_map (λ c. (c < r.made) × (r.whose c ≡ other) × (own caller c r.log ≡ own caller c u.seen)) (λ c. r.whose c ≡ other) u.callers (λ c p. p.1) theirs.callers)
                  (differ_alone v.callers v.joined none_joined mine.apart) (differ_alone u.callers u.joined none_joined' theirs.apart);
              known = each_append _ v.known u.known mine.known theirs.known;
              room = mine.room;
            })
            (λ i z _ at_i ne'. let t = r.each_seat i z at_i in record {
              about = t.about;
              seen = t.seen;
              beside = t.beside;
              hand = t.hand;
              callers = same_claims i z.seen z.callers ne' t.callers;
              joined = same_claims i z.beside z.joined ne' t.joined;
              apart = t.apart;
              known = t.known;
              room = t.room;
            }) j d at_j ne);
      }

  pub compares_as : (n id : ℕ) (m : Sat) (k : ℕ) → m.0.hand ≡ Free → Allows Rule n id m k (λ y. y) (compared caller (step n k 0 0 none) m)
  compares_as n id m k idle s r deep at _ =
      let v : V = m.0 in
      let w : V = together v in
      let mine = r.each_seat id v at in
      let a = left_longer v.seen v.beside r.log mine.seen mine.beside in
      let b = right_longer v.seen v.beside r.log mine.seen mine.beside in
      let pre : IsPrefix (longer v.seen v.beside) r.log = longer_case v.seen v.beside (λ l. IsPrefix l r.log) (λ _. mine.beside) (λ _. mine.seen) in
      let K : ℕ → V → Type 0 = Known r.log s.words r.owner r.whose r.made in (
        w,
        keeps,
        tt,
        subst (λ (ws : List ℕ). Rule record { words = ws; homes = s.homes; views = set s.views id w }) (sym (set-get_or s.words k 0)) record {
          log = r.log;
          owner = r.owner;
          whose = r.whose;
          made = r.made;
          wide = r.wide;
          law = r.law;
          longest = still_longest r.log s.views id v w at (λ h. inl (longer_whole v.seen v.beside r.log mine.seen mine.beside h)) r.longest;
          free = r.free;
          held = λ j l e. let t = r.held j l e in (
            t.0,
            dite (ℕ_discrete (r.owner j) id)
                (λ same. let is : t.1.0 ≡ v = some-injective t.1.0 v (sym t.1.1 ∙ (ap (λ (o : ℕ). get_elem? s.views o) same ∙ at)) in
                absurd (subst (HasCell j) idle (subst (λ (z : V). HasCell j z.hand) is t.1.2)))
                (λ ne. (t.1.0, set_else s.views id (r.owner j) w ne ∙ t.1.1, t.1.2)),
          );
          present = λ c l. present_stays r.whose s.views id c v w at (λ h. subst (λ (n : List ℕ). Among c n) (sym (append-nil (v.callers ++ v.joined))) h) (r.present c l);
          fresh = r.fresh;
          few = r.few;
          each_seat = seats_stay K s.views id w
              record {
                about = mine.about;
                seen = pre;
                beside = (r.log, refl);
                hand = subst (λ (h : Hand I E). Hands r.log s.words r.owner id w h) (sym idle) tt;
                callers = each_append _ v.callers v.joined (claims_more r.log r.whose r.made id v.seen (longer v.seen v.beside) v.callers a pre mine.callers)
                    (claims_more r.log r.whose r.made id v.beside (longer v.seen v.beside) v.joined b pre mine.joined);
                joined = tt;
                apart = subst Differ (sym (append-nil (v.callers ++ v.joined))) mine.apart;
                known = mine.known;
                room = mine.room;
              } (λ j d _. r.each_seat j d);
        },
        (
          refl,
          one_begins v.seen v.beside r.log mine.seen mine.beside,
          each_map (λ c. (c < r.made) × (r.whose c ≡ id) × (own caller c r.log ≡ own caller c v.seen)) _ v.callers (λ c t. sym (own_between caller c v.seen (longer v.seen v.beside) r.log a pre t.2) ∙ t.2) mine.callers,
          each_map (λ c. (c < r.made) × (r.whose c ≡ id) × (own caller c r.log ≡ own caller c v.beside)) _ v.joined (λ c t. sym (own_between caller c v.beside (longer v.seen v.beside) r.log b pre t.2) ∙ t.2) mine.joined,
          mine.apart,
          (λ pos c l. let room = (mine.room.0 pos).1 in let none_yet = r.fresh c (omega arith) in sym (own_none caller c (longer v.seen v.beside) r.log pre none_yet) ∙ none_yet),
        ),
      )

  -- each value fits its cell
  fit_at : (xs : List I) (from k : ℕ) → AllFit fits from xs → k < length xs → (x : I) × (get_elem? (map some (map Some xs)) k ≡ some (some (Some x))) × fits [] (from + k) 0 x
  fit_at [] from k all h = absurd (omega arith)
  fit_at (x ∷ xs) from zero all h = (x, refl, subst (λ (j : ℕ). fits [] j 0 x) (omega arith) all.0)
  fit_at (x ∷ xs) from (suc k) all h = let t = fit_at xs (from + 1) k all.1 (omega arith) in (t.0, t.1, subst (λ (j : ℕ). fits [] j 0 t.0) (omega arith) t.2)

  pub starts : (words : List ℕ) (xs : List I) → 0 < total → length words ≡ length xs → ((k : ℕ) → k < length words → get_or words k 0 ≡ 0) → lawful [] → AllFit fits 0 xs → Rule (opening words (map Some xs) (first_view total key))
  starts words xs some_caller wide zeros law all = record {
    log = [];
    owner = λ _. 0;
    whose = λ _. 0;
    made = 1;
    wide = wide ∙ (sym (length-map xs (λ (x : I). Some x)) ∙ sym (length-map (map Some xs) (λ (x : Option I). some x)));
    law = law;
    longest = (0, first_view total key, refl, inl refl);
    free = λ k l e. let t = fit_at xs 0 k all (omega arith) in (t.0, t.1, subst (λ (z : ℕ × ℕ). fits [] z.0 z.1 t.0) (λ i. let a : 0 + k ≡ k = omega arith in let b : 0 ≡ get_or words k 0 / 2 = omega (arith, zeros k l) in (a i, b i)) t.2);
    held = λ k l e. absurd (omega (arith, zeros k l));
    present = λ c l. (first_view total key, refl, inl (omega arith));
    fresh = λ c l. refl;
    few = omega arith;
    each_seat = one;
  }
    where
      one : (j : ℕ) (v : V) → get_elem? (first_view total key ∷ []) j ≡ some v → Known [] words (λ _. 0) (λ _. 0) 1 j v
      one zero v e = subst (Known [] words (λ _. 0) (λ _. 0) 1 0) (some-injective _ _ e)
          record { about = refl; seen = ([], refl); beside = ([], refl); hand = tt; callers = ((omega arith, refl, refl), tt); joined = tt; apart = (tt, tt); known = tt; room = ((λ _. (refl, refl, omega arith)), λ z. absurd (omega arith)) }
      one (suc j) v e = absurd (some-ne-none v (sym e))
