-- A shard applies the next change, and is right for each history that begins with what was seen.
use Rattle.std.proofs.Common.{◌≡◌, ℕ, zero, suc, ◌+◌, ◌-◌, ◌<◌, ◌≤◌, ◌^◌, List, [], ◌∷◌, ◌++◌, length, take, drop, get_or, Result, Ok, Err, Option, Some, None, option_map, Global, Bor, refl, sym, ap, ◌∙◌, subst, inl, inr, ⊎_elim, arith}
use Rattle.std.specs.Prelude.{All, IfSome, OnOk, OnErr, option_copied}
use Rattle.std.specs.Arc.{arc_value}
use Rattle.std.specs.declared.sync.Arc.{Arc}
use Rattle.std.proofs.lemmas.Bool.{cases_eq}
use Rattle.std.proofs.lemmas.List.Elements.{All-cons, All-nil, All-get_or}
use Rattle.std.proofs.lemmas.List.Sums.{prefix_len-le-length}
use Rattle.cq_base.specs.declared.lang.Lang.{Lang}
use Rattle.cq_base.specs.declared.change.Change.{Change}
use Rattle.cq_base.specs.declared.change.Change.TheVariants.{Put, Drop, Gate}
use Rattle.cq_base.specs.declared.settings.Settings.{Settings}
use Rattle.cq_history.specs.declared.event.Event.{Event}
use Rattle.cq_history.specs.Changes.{change_at}
use Rattle.cq_history.specs.State.{state, accepted, ready, is_done}
use Rattle.cq_history.proofs.Prefixes.{accepted-append}
use Rattle.cq_history.proofs.Numbers.{change_at-append}
use Rattle.cq_history.proofs.Doing.{slots_number}
use Rattle.cq_shard.specs.Shard.{Contents, StandsFor, StandsOnWith, HasItsWork, HaveTheirWorks}
use Rattle.cq_cells.specs.Passes.{HasReached, least}
use Rattle.cq_chain.specs.declared.about.About.{About}
use Rattle.cq_chain.specs.Held.{state_in}
use Rattle.cq_chain.specs.Passes.{BoardPass, IsStep}
use Rattle.cq_shared.specs.Advancing.{AreWorksFrom, StandsWithWorks}

-- ---- one work of a list

pub slice_is : {A : Type 0} (xs : List A) (a b : ℕ) (d : A) → b ≡ a + 1 → a < length xs → take (b - a) (drop a xs) ≡ get_or xs a d ∷ []
slice_is xs a b d is lt = ap (λ n. take n (drop a xs)) (let one : b - a ≡ 1 = omega (arith, is) in one) ∙ go xs a lt
  where
    go : (ys : List _) (n : ℕ) → n < length ys → take 1 (drop n ys) ≡ get_or ys n d ∷ []
    go [] n near = absurd (omega (arith, near))
    go (y ∷ ys) zero near = refl
    go (y ∷ ys) (suc n) near = go ys n (omega (arith, near))

module _ {W : Type 0} (keys_in : W → List ℕ) (IsWork : Lang → List ℕ → W → Type 0) where
  abbrev IsOwned : Lang → List ℕ → Arc W Global → Type 0
  IsOwned lang text w = IsWork lang text (arc_value w)

  abbrev HasFewKeys : Option (Arc W Global) → Type 0
  HasFewKeys work = IfSome work (λ w. length (keys_in (arc_value w)) < 2 ^ 32)

  module _ (changes : List Change) (base to applied : ℕ) (works slice : List (Option (Arc W Global))) (are : AreWorksFrom keys_in IsWork changes base to works) (low : base ≤ applied) (high : applied < to) (d : Option (Arc W Global)) (is : slice ≡ get_or works (applied - base) d ∷ []) where
    pub within : applied - base < length works
    within = let n = are.number in omega (arith, n, low, high)

    pub one_work : length slice ≡ 1
    one_work = ap length is

    pub few_keys : All HasFewKeys slice
    few_keys = subst (All HasFewKeys) (sym is) (All-cons HasFewKeys (get_or works (applied - base) d) [] (All-get_or HasFewKeys works (applied - base) d within are.few) (All-nil HasFewKeys))

    -- after later changes, too
    pub its_work : (later : List Change) → applied < length changes → HaveTheirWorks IsOwned (changes ++ later) applied slice
    its_work later near =
        let at : base + (applied - base) ≡ applied = omega (arith, low) in
        let same : change_at (changes ++ later) (applied + 1) ≡ change_at changes (base + (applied - base) + 1) = change_at-append changes later (applied + 1) (omega arith, omega (arith, near)) ∙ ap (λ n. change_at changes (n + 1)) (sym at) in
        subst (HaveTheirWorks IsOwned (changes ++ later) applied) (sym is) (single (changes ++ later) applied (get_or works (applied - base) d) (subst (λ o. HasItsWork IsOwned o (get_or works (applied - base) d)) (sym same) (are.theirs (applied - base) d within)))
      where
        single : (cs : List Change) (n : ℕ) (w : Option (Arc W Global)) → HasItsWork IsOwned (change_at cs (n + 1)) w → HaveTheirWorks IsOwned cs n (w ∷ [])
        single cs n w has zero e lt = subst (λ m. HasItsWork IsOwned (change_at cs (m + 1)) w) (let e : n ≡ n + 0 = omega arith in e) has
        single cs n w has (suc i) e lt = absurd (omega (arith, lt))

  -- ---- its work as the shard is lent it

  lent_given : (o : Option Change) (held : Option (Arc W Global)) → HasItsWork IsOwned o held → HasItsWork IsWork o (option_map arc_value held)
  lent_given (Some (Put project path lang text)) (Some x) is = is
  lent_given (Some (Put project path lang text)) None is = is
  lent_given (Some (Drop project path)) (Some x) is = is
  lent_given (Some (Drop project path)) None is = is
  lent_given (Some (Gate project conditions)) (Some x) is = is
  lent_given (Some (Gate project conditions)) None is = is
  lent_given None (Some x) is = is
  lent_given None None is = is

pub one_of : {A : Type 0} (xs : List A) (d : A) → length xs ≡ 1 → xs ≡ get_or xs 0 d ∷ []
one_of [] d one = absurd (omega (arith, one))
one_of (x ∷ []) d one = refl
one_of (x ∷ y ∷ xs) d one = absurd (omega (arith, one))

module _ {W : Type 0} (keys_in : W → List ℕ) where
  abbrev FewOwned : Option (Arc W Global) → Type 0
  FewOwned held = IfSome held (λ w. length (keys_in (arc_value w)) < 2 ^ 32)

  few_in : (lent : Option (Bor W)) (held : Option (Arc W Global)) → option_copied lent ≡ option_map arc_value held → FewOwned held → IfSome lent (λ w. length (keys_in w.now) < 2 ^ 32)
  few_in None held is few = tt
  few_in (Some w) None is few = absurd (cc)
  few_in (Some w) (Some x) is few = subst (λ (o : Option W). IfSome o (λ v. length (keys_in v) < 2 ^ 32)) (sym is) few

  pub few_lent : (works : List (Option (Arc W Global))) (held : Option (Arc W Global)) (lent : Option (Bor W)) → works ≡ held ∷ [] → option_copied lent ≡ option_map arc_value held → All FewOwned works → IfSome lent (λ w. length (keys_in w.now) < 2 ^ 32)
  few_lent works held lent one is few = few_in lent held is (All-get_or FewOwned (held ∷ []) 0 held (omega arith) (subst (All FewOwned) one few))

module _ {W : Type 0} (keys_in : W → List ℕ) (IsWorkOf : Settings → Lang → List ℕ → W → Type 0) where
  pub stands_lent : {E : Type 0} (works : List (Option (Arc W Global))) (held : Option (Arc W Global)) (old new : Contents) (next : ℕ) (lent : Option W) (r : Result (Unit {0}) E) → works ≡ held ∷ [] → next ≡ old.applied + 1 → lent ≡ option_map arc_value held
      → OnOk r (StandsOnWith keys_in IsWorkOf next lent old new) → StandsWithWorks keys_in IsWorkOf old works (OnOk r) new
  stands_lent works held old new next lent (Err e) one at is stands = λ set changes before theirs. tt
  stands_lent works held old new next lent (Ok u) one at is stands = λ set changes before theirs.
      let has : HasItsWork (λ lang text (w : Arc W Global). IsWorkOf set lang text (arc_value w)) (change_at changes (old.applied + 0 + 1)) held = subst (HaveTheirWorks (λ lang text (w : Arc W Global). IsWorkOf set lang text (arc_value w)) changes old.applied) one theirs 0 held (omega arith) in
      let here : old.applied + 0 + 1 ≡ next = omega (arith, at) in
      stands set changes before (subst (HasItsWork (IsWorkOf set) (change_at changes next)) (sym is) (lent_given keys_in (IsWorkOf set) (change_at changes next) held (subst (λ n. HasItsWork (λ lang text (w : Arc W Global). IsWorkOf set lang text (arc_value w)) (change_at changes n) held) here has)))

-- ---- the step

pub within_accepted : (about : About) (seen : List Event) (n : ℕ) → n ≤ ready (state_in about seen) → n ≤ length (accepted seen)
within_accepted about seen n low = omega (arith, low, prefix_len-le-length is_done (state about.callers seen).slots, slots_number about.callers seen)

module _ (IsWindow : Lang → List ℕ → ℕ → ℕ → Type 0) (about : About) (seen : List Event) where
  pub same_step : (x : Contents) → IsStep IsWindow about seen x x
  same_step x = record { applied = inl refl; swept = inl refl; number_is = refl; shards = refl; stands = λ later is. is }

  pub steps : {E : Type 0} (r : Result (Unit {0}) E) (x y : Contents) → x.applied + 1 ≤ ready (state_in about seen) → OnOk r (y.applied ≡ x.applied + 1) → OnOk r ((y.shard ≡ x.shard) × (y.shards ≡ x.shards) × (y.floor ≡ x.floor)) → OnErr r (y ≡ x)
      → ((later : List Change) → StandsFor IsWindow (accepted seen ++ later) x → OnOk r (StandsFor IsWindow (accepted seen ++ later) y)) → IsStep IsWindow about seen x y
  steps (Err e) x y most applied kept same stands = subst (IsStep IsWindow about seen x) (sym same) (same_step x)
  steps (Ok u) x y most applied kept same stands = record {
    applied = inr (applied, omega (arith, applied, most));
    swept = inl kept.2;
    number_is = kept.0;
    shards = kept.1;
    stands = λ later was. subst (λ cs. StandsFor IsWindow cs y) (sym (accepted-append seen later)) (stands (accepted later) (subst (λ cs. StandsFor IsWindow cs x) (accepted-append seen later) was));
  }

-- ---- how far the shards are known to be

pub risen : (p q : BoardPass) (shard applied : ℕ) → HasReached shard applied p q → (s : ℕ) → least p s ≤ least q s
risen p q shard applied reached s =
    ⊎_elim
    (λ (same : s ≡ shard). let here = reached.here in let low = reached.risen in subst (λ n. least p n ≤ least q n) (sym same) (omega (arith, here, low)))
    (λ other. let e = reached.elsewhere s other in omega (arith, e))
    (cases_eq s shard)

pub result_applied : {E : Type 0} (r : Result (Unit {0}) E) (x y : Contents) → OnOk r (y.applied ≡ x.applied + 1) → OnErr r (y ≡ x) → x.applied ≤ y.applied
result_applied (Ok u) x y applied same = omega (arith, applied)
result_applied (Err e) x y applied same = let s = ap (λ (c : Contents). c.applied) same in omega (arith, s)

pub first_is : {E : Type 0} (r : Result (Unit {0}) E) (x y : Contents) (base known : ℕ) → base ≤ x.applied → OnOk r (y.applied ≡ x.applied + 1) → known ≡ y.applied → OnOk r (base + 1 ≤ known)
first_is (Ok u) x y base known low applied here = omega (arith, low, applied, here)
first_is (Err e) x y base known low applied here = tt

pub next_is : {E : Type 0} (r : Result (Unit {0}) E) (x y : Contents) (before to known : ℕ) → before ≤ x.applied → OnOk r (y.applied ≡ x.applied + 1) → known ≡ y.applied → OnOk r ((n : ℕ) → n ≤ before → n < to → n + 1 ≤ known)
next_is (Ok u) x y before to known low applied here = λ n le lt. omega (arith, low, applied, here, le)
next_is (Err e) x y before to known low applied here = tt
