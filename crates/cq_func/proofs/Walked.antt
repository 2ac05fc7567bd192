-- One token of a walk along bodies that never cross.
use Rattle.std.proofs.Common.{◌≡◌, ℕ, zero, suc, ◌+◌, ◌-◌, ◌<◌, ◌≤◌, Bool, true, false, cond, eqb, ltb, leb, not, ◌&&◌, List, [], ◌∷◌, ◌++◌, length, get_or, set, refl, sym, ap, ◌∙◌, subst, ⊎_elim, arith}
use Rattle.std.specs.Prelude.{All, Contains, count_by, reverse}
use Rattle.std.specs.List.{list_any, range_with_len}
use Rattle.std.proofs.lemmas.Bool.{cases_eq, cases_lt, cases_Bool, ltb-true, leb-true, lt-ltb, le-ltb, le-leb, eq-eqb, ne_eqb, and_parts, and_from, and_left, and_right, not_from_true, not_from_false, cond-true, cond-false, false_from_ne_true}
use Rattle.std.proofs.lemmas.List.{length-set, get_or-set_same, get_or-set_other, get_or_default, length-reverse, get_or-reverse}
use Rattle.std.proofs.lemmas.List.Folds.{list_any-from_Any, list_any_none}
use Rattle.std.proofs.lemmas.List.Sums.{sum_by_push}
use Rattle.cq_base.specs.declared.lang.Lang.{Lang}
use Rattle.cq_base.specs.declared.token.Spelled.{Spelled}
use Rattle.cq_func.specs.declared.found.Found.{Found}
use Rattle.cq_func.specs.Functions.{decides, has, is_inside, is_own}
use Rattle.cq_func.specs.Walks.{AreBodies, AreCloses, noted, popped, moved, IsTop, IsStack, own_before, AreOwn}

-- ---- the open bodies

-- the same bodies are open at both places
abbrev SameOpen : List Found → ℕ → ℕ → Type 0
SameOpen fs a b = (f : Found) → Contains fs f → ((f.brace < a → a ≤ f.close → (f.brace < b) × (b ≤ f.close)) × (f.brace < b → b ≤ f.close → (f.brace < a) × (a ≤ f.close)))

stack_same : (fs : List Found) (a b : ℕ) (s : List ℕ) → SameOpen fs a b → IsStack fs a s → IsStack fs b s
stack_same fs a b [] same none = λ f among begun still. let w = (same f among).1 begun still in none f among w.0 w.1
stack_same fs a b (top ∷ rest) same stack =
    let t = stack.0 in
    let here = t.here in
    let begun = t.begun in
    let w = (same t.body t.among).0 (omega (arith, here, begun)) t.still in (
      record {
        body = t.body;
        among = t.among;
        here = t.here;
        begun = omega (arith, w.0, here);
        still = w.1;
        last = λ f among begun still. let v = (same f among).1 begun still in t.last f among v.0 v.1;
      },
      stack.1,
    )

-- a body begins
stack_begun : (fs : List Found) (many at : ℕ) (s : List ℕ) (f : Found) → AreBodies many fs → Contains fs f → f.brace ≡ at → IsStack fs at s → IsStack fs (at + 1) (at ∷ s)
stack_begun fs many at s f bodies among here stack =
    let long = bodies.ordered f among in (
      record {
        body = f;
        among = among;
        here = here;
        begun = omega arith;
        still = omega (arith, long, here);
        last = λ g gs begun still. omega (arith, begun);
      },
      stack,
    )

-- no body begins, and none of the open ones ends
stack_stays : (fs : List Found) (at : ℕ) (s : List ℕ) → ((f : Found) → Contains fs f → f.brace ≡ at → ⊥) → ((f : Found) → Contains fs f → f.brace < at → f.close ≡ at → ⊥) → IsStack fs at s → IsStack fs (at + 1) s
stack_stays fs at s no_begin no_end stack =
    stack_same fs at (at + 1) s
    (λ f among. (
      (λ begun still. ⊎_elim (λ (e : f.close ≡ at). absurd (no_end f among begun e)) (λ (ne : f.close ≡ at → ⊥). (omega arith, omega arith)) (cases_eq f.close at)),
      (λ begun still. ⊎_elim (λ (e : f.brace ≡ at). absurd (no_begin f among e)) (λ (ne : f.brace ≡ at → ⊥). (omega arith, omega arith)) (cases_eq f.brace at)),
    ))
    stack

-- the body on top ends
stack_ended : (fs : List Found) (many at top : ℕ) (rest : List ℕ) → AreBodies many fs → ((f : Found) → Contains fs f → f.brace ≡ at → ⊥) → (t : IsTop fs at top) → t.body.close ≡ at → IsStack fs top rest → IsStack fs (at + 1) rest
stack_ended fs many at top rest bodies no_begin t ends below =
    let here = t.here in
    let begun = t.begun in
    stack_same fs top (at + 1) rest
    (λ f among. (
      (λ before still.
          let inside = bodies.nested f t.body among t.among (omega (arith, before, here)) (omega (arith, still, here)) in
          (omega (arith, before, begun), omega (arith, inside, ends))),
      (λ before still.
          let late : f.brace < at = ⊎_elim (λ (e : f.brace ≡ at). absurd (no_begin f among e)) (λ (ne : f.brace ≡ at → ⊥). omega arith) (cases_eq f.brace at) in
          let last = t.last f among late (omega arith) in
          let other : f.brace ≡ top → ⊥ = λ (e : f.brace ≡ top). let same = bodies.same f t.body among t.among (e ∙ sym here) in omega (arith, same, ends) in
          (omega (arith, last, other), omega (arith, begun))),
    ))
    below

-- of the open bodies only the one on top can end
only_top : (fs : List Found) (many at top : ℕ) (f : Found) → AreBodies many fs → (t : IsTop fs at top) → (t.body.close ≡ at → ⊥) → Contains fs f → f.brace < at → f.close ≡ at → ⊥
only_top fs many at top f bodies t stays among begun ends =
    let here = t.here in
    let started = t.begun in
    let still = t.still in
    let last = t.last f among begun (omega arith) in
    ⊎_elim
    (λ (e : f.brace ≡ top). let same = bodies.same f t.body among t.among (e ∙ sym here) in stays (sym same ∙ ends))
    (λ (ne : f.brace ≡ top → ⊥).
    let inside = bodies.nested f t.body among t.among (omega (arith, last, ne, here)) (omega (arith, started, here, ends)) in
    absurd (omega (arith, inside, still, ends)))
    (cases_eq f.brace top)

stack_popped : (fs : List Found) (many at : ℕ) (closes s : List ℕ) → AreBodies many fs → AreCloses fs many closes → ((f : Found) → Contains fs f → f.brace ≡ at → ⊥) → IsStack fs at s → IsStack fs (at + 1) (popped closes at s)
stack_popped fs many at closes [] bodies are no_begin stack = stack_stays fs at [] no_begin (λ f among begun ends. stack f among begun (omega arith)) stack
stack_popped fs many at closes (top ∷ rest) bodies are no_begin stack =
    let t = stack.0 in
    let read : get_or closes top 0 ≡ t.body.close = ap (λ i. get_or closes i 0) (sym t.here) ∙ are.each t.body t.among in
    ⊎_elim
    (λ (e : t.body.close ≡ at).
    subst (IsStack fs (at + 1)) (sym (cond-true (eqb (get_or closes top 0) at) rest (top ∷ rest) (eq-eqb _ _ (read ∙ e))))
    (stack_ended fs many at top rest bodies no_begin t e stack.1))
    (λ (ne : t.body.close ≡ at → ⊥).
    subst (IsStack fs (at + 1)) (sym (cond-false (eqb (get_or closes top 0) at) rest (top ∷ rest) (ne_eqb _ _ (λ (e : get_or closes top 0 ≡ at). ne (sym read ∙ e)))))
    (stack_stays fs at (top ∷ rest) no_begin (λ f among begun ends. only_top fs many at top f bodies t ne among begun ends) stack))
    (cases_eq t.body.close at)

pub stack_moved : (fs : List Found) (many at : ℕ) (closes s : List ℕ) → at < many → AreBodies many fs → AreCloses fs many closes → IsStack fs at s → IsStack fs (at + 1) (moved closes at s)
stack_moved fs many at closes s inside bodies are stack =
    let long = are.long in
    ⊎_elim
    (λ (lt : get_or closes at 0 < length closes).
    let one = are.only at inside (omega (arith, long, lt)) in
    subst (IsStack fs (at + 1)) (sym (cond-true (ltb (get_or closes at 0) (length closes)) (at ∷ s) (popped closes at s) (lt-ltb _ _ lt)))
    (stack_begun fs many at s one.0 bodies one.1 one.2 stack))
    (λ (ge : length closes ≤ get_or closes at 0).
    let no_begin : (f : Found) → Contains fs f → f.brace ≡ at → ⊥ =
    λ f among e. let read : get_or closes at 0 ≡ f.close = ap (λ i. get_or closes i 0) (sym e) ∙ are.each f among in let within = (bodies.within f among).2 in omega (arith, read, within, long, ge) in
    subst (IsStack fs (at + 1)) (sym (cond-false (ltb (get_or closes at 0) (length closes)) (at ∷ s) (popped closes at s) (le-ltb _ _ ge)))
    (stack_popped fs many at closes s bodies are no_begin stack))
    (cases_lt (get_or closes at 0) (length closes))

-- every open body begins at a place
pub stack_within : (fs : List Found) (at : ℕ) (s : List ℕ) → IsStack fs at s → All (λ b. b < at) s
stack_within fs at [] stack k d inside = absurd (omega arith)
stack_within fs at (top ∷ rest) stack zero d inside = stack.0.begun
stack_within fs at (top ∷ rest) stack (suc k) d inside =
    let lower = stack_within fs top rest stack.1 k d (omega arith) in
    let begun = stack.0.begun in
    omega (arith, lower, begun)

-- ---- whose a token is

has_true : (f : Found) (at : ℕ) → f.brace < at → at ≤ f.close → has f at ≡ true
has_true f at begun still = and_from (ltb f.brace at) (leb at f.close) (lt-ltb f.brace at begun) (le-leb at f.close still)

has_parts : (f : Found) (at : ℕ) → has f at ≡ true → (f.brace < at) × (at ≤ f.close)
has_parts f at is = let parts = and_parts (ltb f.brace at) (leb at f.close) is in (ltb-true f.brace at parts.0, leb-true at f.close parts.1)

-- nothing that is open has it: it is no function's
own_none : (fs : List Found) (at : ℕ) (f : Found) → ((g : Found) → Contains fs g → g.brace < at → at ≤ g.close → ⊥) → Contains fs f → is_own fs f at ≡ false
own_none fs at f none among =
    and_left (has f at) (not (list_any (λ g. is_inside f g && has g at) fs))
    (false_from_ne_true (has f at) (λ (is : has f at ≡ true). let w = has_parts f at is in none f among w.0 w.1))

any_from : (p : Found → Bool) (fs : List Found) (g : Found) → Contains fs g → p g ≡ true → list_any p fs ≡ true
any_from p fs g among passes = list_any-from_Any p fs (among.0, g, among.1, among.2, passes)

-- of the body on top it is
own_top : (fs : List Found) (many at top : ℕ) (f : Found) → AreBodies many fs → IsTop fs at top → Contains fs f → f.brace ≡ top → is_own fs f at ≡ true
own_top fs many at top f bodies t among e =
    let here = t.here in
    let begun = t.begun in
    let same = bodies.same f t.body among t.among (e ∙ sym here) in
    let still = t.still in
    and_from (has f at) (not (list_any (λ g. is_inside f g && has g at) fs))
    (has_true f at (omega (arith, begun, e)) (omega (arith, still, same)))
    (not_from_false (list_any (λ g. is_inside f g && has g at) fs)
    (list_any_none (λ g. is_inside f g && has g at) fs (λ k d inside.
    let g = get_or fs k d in
    let is_there : Contains fs g = (k, inside, get_or_same fs k d inside) in
    false_from_ne_true (is_inside f g && has g at) (λ (is : (is_inside f g && has g at) ≡ true).
    let parts = and_parts (is_inside f g) (has g at) is in
    let in_f = and_parts (ltb f.brace g.brace) (ltb g.close f.close) parts.0 in
    let w = has_parts g at parts.1 in
    let last = t.last g is_there w.0 w.1 in
    let above = ltb-true f.brace g.brace in_f.0 in
    omega (arith, last, above, e)))))
  where
    get_or_same : (xs : List Found) (k : ℕ) (d : Found) → k < length xs → get_or xs k (get_or xs k d) ≡ get_or xs k d
    get_or_same [] k d inside = absurd (omega arith)
    get_or_same (x ∷ xs) zero d inside = refl
    get_or_same (x ∷ xs) (suc k) d inside = get_or_same xs k d (omega arith)

-- of another it is not, since the one on top is inside each other one that has it
own_other : (fs : List Found) (many at top : ℕ) (f : Found) → AreBodies many fs → IsTop fs at top → Contains fs f → (f.brace ≡ top → ⊥) → is_own fs f at ≡ false
own_other fs many at top f bodies t among ne =
    let here = t.here in
    let begun = t.begun in
    let still = t.still in
    ⊎_elim
    (λ (is : has f at ≡ true).
    let w = has_parts f at is in
    let last = t.last f among w.0 w.1 in
    let above : f.brace < t.body.brace = omega (arith, last, ne, here) in
    let inside = bodies.nested f t.body among t.among above (omega (arith, here, begun, w.1)) in
    and_right (has f at) (not (list_any (λ g. is_inside f g && has g at) fs))
    (not_from_true (list_any (λ g. is_inside f g && has g at) fs)
    (any_from (λ g. is_inside f g && has g at) fs t.body t.among
    (and_from (is_inside f t.body) (has t.body at) (and_from (ltb f.brace t.body.brace) (ltb t.body.close f.close) (lt-ltb _ _ above) (lt-ltb _ _ inside))
    (has_true t.body at (omega (arith, here, begun)) still)))))
    (λ (is : has f at ≡ false). and_left (has f at) (not (list_any (λ g. is_inside f g && has g at) fs)) is)
    (cases_Bool (has f at))

-- ---- the counts

range_more : (a n : ℕ) → range_with_len a (suc n) ≡ range_with_len a n ++ (a + n) ∷ []
range_more a zero = ap (λ x. x ∷ []) (let e : a ≡ a + 0 = omega arith in e)
range_more a (suc n) = ap (λ xs. a ∷ xs) (range_more (a + 1) n ∙ ap (λ x. range_with_len (a + 1) n ++ x ∷ []) (let e : a + 1 + n ≡ a + suc n = omega arith in e))

pub range_next : (n : ℕ) → range_with_len 0 (n + 1) ≡ range_with_len 0 n ++ n ∷ []
range_next n = ap (range_with_len 0) (let e : n + 1 ≡ suc n = omega arith in e) ∙ range_more 0 n ∙ ap (λ x. range_with_len 0 n ++ x ∷ []) (let e : 0 + n ≡ n = omega arith in e)

own_next : (l : Lang) (ts : List Spelled) (fs : List Found) (f : Found) (at : ℕ) → own_before l ts fs f (at + 1) ≡ own_before l ts fs f at + cond (decides l ts at && is_own fs f at) 1 0
own_next l ts fs f at =
    ap (count_by (λ k. decides l ts k && is_own fs f k)) (range_next at)
    ∙ sum_by_push (λ k. cond (decides l ts k && is_own fs f k) 1 0) (range_with_len 0 at) at

-- no decision: nothing changes
pub own_passed : (l : Lang) (ts : List Spelled) (fs : List Found) (at : ℕ) (own : List ℕ) → decides l ts at ≡ false → AreOwn l ts fs at own → AreOwn l ts fs (at + 1) own
own_passed l ts fs at own is are = record {
  long = are.long;
  each = λ f among.
      are.each f among ∙ let next = own_next l ts fs f at in let none = cond-false {A = ℕ} (decides l ts at && is_own fs f at) 1 0 (and_left (decides l ts at) (is_own fs f at) is) in omega (arith, next, none);
  few = λ k d inside. let few = are.few k d inside in omega (arith, few);
}

few_set : (own : List ℕ) (top at : ℕ) → top < length own → All (λ n. n ≤ at) own → All (λ n. n ≤ at + 1) (set own top (get_or own top 0 + 1))
few_set own top at inside few k d within =
    let long = length-set own top (get_or own top 0 + 1) in
    ⊎_elim
    (λ (e : k ≡ top). let is = ap (λ i. get_or (set own top (get_or own top 0 + 1)) i d) e ∙ get_or-set_same own top (get_or own top 0 + 1) d inside in let was = few top 0 inside in omega (arith, is, was))
    (λ (ne : k ≡ top → ⊥). let is = get_or-set_other own top k (get_or own top 0 + 1) d ne in let was = few k d (omega (arith, long, within)) in omega (arith, is, was))
    (cases_eq k top)

-- a decision: the body on top has one more, where there is one
pub own_noted : (l : Lang) (ts : List Spelled) (fs : List Found) (many at : ℕ) (s own : List ℕ) → many ≡ length ts → at < many → AreBodies many fs → decides l ts at ≡ true → IsStack fs at s → AreOwn l ts fs at own → AreOwn l ts fs (at + 1) (noted s own)
own_noted l ts fs many at [] own whole inside bodies is stack are = record {
  long = are.long;
  each = λ f among.
      are.each f among ∙ let next = own_next l ts fs f at in let none = cond-false {A = ℕ} (decides l ts at && is_own fs f at) 1 0 (and_right (decides l ts at) (is_own fs f at) (own_none fs at f stack among)) in omega (arith, next, none);
  few = λ k d within. let few = are.few k d within in omega (arith, few);
}
own_noted l ts fs many at (top ∷ rest) own whole inside bodies is stack are = record {
  long = length-set own top (get_or own top 0 + 1) ∙ are.long;
  each = λ f among.
      let long = are.long in
      let begun = stack.0.begun in
      let next = own_next l ts fs f at in
      let was = are.each f among in
      ⊎_elim
      (λ (e : f.brace ≡ top).
      let one = cond-true {A = ℕ} (decides l ts at && is_own fs f at) 1 0 (and_from (decides l ts at) (is_own fs f at) is (own_top fs many at top f bodies stack.0 among e)) in
      let read = ap (λ i. get_or (set own top (get_or own top 0 + 1)) i 0) e ∙ get_or-set_same own top (get_or own top 0 + 1) 0 (omega (arith, long, begun, whole)) in
      let old = ap (λ i. get_or own i 0) e in
      omega (arith, next, one, read, old, was))
      (λ (ne : f.brace ≡ top → ⊥).
      let none = cond-false {A = ℕ} (decides l ts at && is_own fs f at) 1 0 (and_right (decides l ts at) (is_own fs f at) (own_other fs many at top f bodies stack.0 among ne)) in
      let read = get_or-set_other own top f.brace (get_or own top 0 + 1) 0 ne in
      omega (arith, next, none, read, was))
      (cases_eq f.brace top);
  few = let long = are.long in let begun = stack.0.begun in few_set own top at (omega (arith, long, begun, whole)) are.few;
}

pub own_begins : (l : Lang) (ts : List Spelled) (fs : List Found) (own : List ℕ) → length own ≡ length ts → ((k : ℕ) → k < length own → get_or own k 0 ≡ 0) → ((f : Found) → Contains fs f → f.brace < length ts) → AreOwn l ts fs 0 own
own_begins l ts fs own long zeros within = record {
  long = long;
  each = λ f among. zeros f.brace (let w = within f among in omega (arith, w, long));
  few = λ k d inside. let z = zeros k inside in let e = get_or_default own k d 0 inside in omega (arith, z, e);
}

pub own_step : (l : Lang) (ts : List Spelled) (fs : List Found) (at : ℕ) (s own : List ℕ) (b : Bool) → at < length ts → AreBodies (length ts) fs → b ≡ decides l ts at → IsStack fs at s → AreOwn l ts fs at own → AreOwn l ts fs (at + 1) (cond b (noted s own) own)
own_step l ts fs at s own true inside bodies is stack are = own_noted l ts fs (length ts) at s own refl inside bodies (sym is) stack are
own_step l ts fs at s own false inside bodies is stack are = own_passed l ts fs at own (sym is) are

below_reversed : (n : ℕ) (xs : List ℕ) → All (λ b. b < n) (reverse xs) → All (λ b. b < n) xs
below_reversed n xs all k d inside =
    let long = length-reverse xs in
    let there : length xs - 1 - (length xs - 1 - k) ≡ k = omega arith in
    subst (λ b. b < n) (get_or-reverse xs (length xs - 1 - k) d (omega arith) ∙ ap (λ i. get_or xs i d) there) (all (length xs - 1 - k) d (omega (arith, long)))

-- the open bodies begin at places
pub stack_places : (fs : List Found) (at many : ℕ) (xs : List ℕ) → at ≤ many → IsStack fs at (reverse xs) → All (λ b. b < many) xs
stack_places fs at many xs within stack k d inside = let low = below_reversed at xs (stack_within fs at (reverse xs) stack) k d inside in omega (arith, low)
