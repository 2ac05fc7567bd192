-- One unit more of the translation, and what its units are.
use Rattle.std.proofs.Common.{◌≡◌, ℕ, zero, suc, ◌+◌, ◌-◌, ◌<◌, ◌≤◌, Bool, true, false, not, ◌&&◌, ◌==◌, Result, Ok, Err, List, [], ◌∷◌, ◌++◌, length, take, drop, refl, sym, ap, subst, ◌∙◌, append_assoc, arith}
use Rattle.std.specs.Prelude.{IfOk}
use Rattle.std.proofs.lemmas.List.{drop_more, drop_all, append-nil, take_rest}
use Rattle.cq_munch.specs.Lexed.{AreBytes, InOrder, IsByte, unit_at}
use Rattle.cq_munch.specs.declared.unit.Unit.{Unit}
use Rattle.cq_lex_java.specs.Escapes.{IsStepWithin}
use Rattle.cq_lex_java.specs.Translation.{spanning, before, len_of, by_step, read_at, translated}
use Rattle.cq_lex_java.specs.declared.escape.Step.{Step}
use Rattle.cq_lex_java.specs.declared.escape.Step.TheVariants as steps
use Rattle.cq_lex_java.proofs.Spans.{first_before, step-within, two_bytes}

-- what stands before, and the rest
abbrev pub front : List Unit → Result (List Unit) ℕ → Result (List Unit) ℕ
front xs (Ok ys) = Ok (xs ++ ys)
front xs (Err at) = Err at

front-before : (out : List Unit) (u : Unit) (r : Result (List Unit) ℕ) → front out (before u r) ≡ front (out ++ u ∷ []) r
front-before out u (Ok us) = ap Ok (sym (append_assoc out (u ∷ []) us))
front-before out u (Err at) = refl

skipping : (n : ℕ) (odd : Bool) (u : Unit) (us : List Unit) → 0 < n → translated n odd (u ∷ us) ≡ translated (n - 1) odd us
unfolding translated
skipping zero odd u us some = absurd (omega arith)
skipping (suc n) odd u us some = let e : n ≡ suc n - 1 = omega arith in ap (λ k. translated k odd us) e

pub reading : (odd : Bool) (u : Unit) (us : List Unit) (step : Step) → read_at odd (u ∷ us) ≡ step
    → translated 0 odd (u ∷ us) ≡ by_step step u us (translated 0 ((u.ch == 92) && not odd) us) (translated (len_of step - 1) false us)
unfolding translated
reading odd u us step is = ap (λ s. by_step s u us (translated 0 ((u.ch == 92) && not odd) us) (translated (len_of s - 1) false us)) is

module _ (units out : List Unit) (i skip : ℕ) (odd : Bool) (inside : i < length units) (so_far : front out (translated skip odd (drop i units)) ≡ translated 0 false units) where
  abbrev u : Unit
  u = unit_at units i

  abbrev us : List Unit
  us = drop (i + 1) units

  cut : drop i units ≡ u ∷ us
  cut = drop_more units i (record { ch = 0; start = 0; len = 0 }) inside

  pub skipped : 0 < skip → front out (translated (skip - 1) odd us) ≡ translated 0 false units
  skipped some = ap (front out) (sym (ap (translated skip odd) cut ∙ skipping skip odd u us some)) ∙ so_far

  module _ (none : skip ≡ 0) (step : Step) (step_is : step ≡ read_at odd (take (length units - i) (drop i units))) where
    is : read_at odd (u ∷ us) ≡ step
    is = ap (read_at odd) (sym cut ∙ sym (take_rest units i)) ∙ sym step_is

    here : front out (by_step step u us (translated 0 ((u.ch == 92) && not odd) us) (translated (len_of step - 1) false us)) ≡ translated 0 false units
    here = ap (front out) (sym (ap (λ n. translated n odd (drop i units)) none ∙ ap (translated 0 odd) cut ∙ reading odd u us step is)) ∙ so_far

  pub plain : skip ≡ 0 → steps.Plain ≡ read_at odd (take (length units - i) (drop i units)) → (more : List Unit) → more ≡ out ++ u ∷ [] → front more (translated 0 ((u.ch == 92) && not odd) us) ≡ translated 0 false units
  plain none step_is more more_is =
      ap (λ v. front v (translated 0 ((u.ch == 92) && not odd) us)) more_is ∙ sym (front-before out u (translated 0 ((u.ch == 92) && not odd) us)) ∙ here none steps.Plain step_is

  pub fault : skip ≡ 0 → steps.Fault ≡ read_at odd (take (length units - i) (drop i units)) → Err u.start ≡ translated 0 false units
  fault none step_is = here none steps.Fault step_is

  pub one : skip ≡ 0 → (ch len : ℕ) → steps.One ch len ≡ read_at odd (take (length units - i) (drop i units)) → (more : List Unit) (whole : Unit) → more ≡ out ++ whole ∷ [] → whole ≡ spanning ch (take (length units - i) (drop i units)) len
      → front more (translated (len - 1) false us) ≡ translated 0 false units
  one none ch len step_is more whole more_is whole_is =
      let same : whole ≡ spanning ch (u ∷ us) len = whole_is ∙ ap (λ v. spanning ch v len) (take_rest units i ∙ cut) in
      ap (λ v. front v (translated (len - 1) false us)) (more_is ∙ ap (λ w. out ++ w ∷ []) same)
      ∙ sym (front-before out (spanning ch (u ∷ us) len) (translated (len - 1) false us)) ∙ here none (steps.One ch len) step_is

pub translated_all : (units out : List Unit) (i skip : ℕ) (odd : Bool) → length units ≤ i → front out (translated skip odd (drop i units)) ≡ translated 0 false units → Ok out ≡ translated 0 false units
unfolding translated
translated_all units out i skip odd end so_far =
    ap Ok (sym (append-nil out)) ∙ ap (λ v. front out (translated skip odd v)) (sym (drop_all i units end)) ∙ so_far

-- ---- the units lie in order

-- the byte after so many units
pub after : ℕ → ℕ → List Unit → ℕ
after zero from vs = from
after (suc n) from [] = from
after (suc n) from (v ∷ vs) = after n (v.start + v.len) vs

last_end : (k : ℕ) (u : Unit) (us : List Unit) → k < length (u ∷ us) → (unit_at (u ∷ us) k).start + (unit_at (u ∷ us) k).len ≡ after k (u.start + u.len) us
unfolding after
last_end zero u us inside = refl
last_end (suc k) u [] inside = absurd (omega arith)
last_end (suc k) u (v ∷ us) inside = last_end k v us (omega arith)

if_before : (P Q : List Unit → Type 0) (u : Unit) (r : Result (List Unit) ℕ) → ((v : List Unit) → P v → Q (u ∷ v)) → IfOk r P → IfOk (before u r) Q
if_before P Q u (Ok v) more h = more v h
if_before P Q u (Err at) more h = tt

read-within : (odd : Bool) (u : Unit) (us : List Unit) → IsStepWithin (length (u ∷ us)) (read_at odd (u ∷ us))
read-within true u vs = tt
read-within false u vs = step-within (u ∷ vs)

module _ (to : ℕ) where
  order_by : (step : Step) (u : Unit) (us : List Unit) (from : ℕ) (plain behind : Result (List Unit) ℕ) → IsStepWithin (length (u ∷ us)) step → InOrder from (u ∷ us) to
      → IfOk plain (λ v. InOrder (u.start + u.len) v to) → IfOk behind (λ v. InOrder (after (len_of step - 1) (u.start + u.len) us) v to) → IfOk (by_step step u us plain behind) (λ v. InOrder from v to)
  order_by steps.Plain u us from plain behind within order p b = if_before (λ v. InOrder (u.start + u.len) v to) (λ v. InOrder from v to) u plain (λ v h. (order.0, order.1, h)) p
  order_by steps.Fault u us from plain behind within order p b = tt
  order_by (steps.One ch len) u us from plain behind within order p b =
      let inside : len - 1 < length (u ∷ us) = omega (arith, within.0, within.1) in
      let less = first_before (u ∷ us) (len - 1) from to inside order in
      let end = last_end (len - 1) u us inside in
      if_before (λ v. InOrder (after (len - 1) (u.start + u.len) us) v to) (λ v. InOrder from v to) (spanning ch (u ∷ us) len) behind
      (λ v h. (order.0, omega (arith, less), subst (λ n. InOrder n v to) (omega (arith, less, end)) h)) b

  pub translated-InOrder : (skip : ℕ) (odd : Bool) (from : ℕ) (us : List Unit) → InOrder from us to → IfOk (translated skip odd us) (λ v. InOrder (after skip from us) v to)
  unfolding translated after
  translated-InOrder zero odd from [] order = order
  translated-InOrder (suc n) odd from [] order = order
  translated-InOrder (suc n) odd from (u ∷ us) order = translated-InOrder n odd (u.start + u.len) us order.2
  translated-InOrder zero odd from (u ∷ us) order =
      order_by (read_at odd (u ∷ us)) u us from _ _ (read-within odd u us) order
      (translated-InOrder 0 ((u.ch == 92) && not odd) (u.start + u.len) us order.2)
      (translated-InOrder (len_of (read_at odd (u ∷ us)) - 1) false (u.start + u.len) us order.2)

pub translated-order : (from to : ℕ) (us : List Unit) → InOrder from us to → IfOk (translated 0 false us) (λ v. InOrder from v to)
unfolding after
translated-order from to us order = translated-InOrder to 0 false from us order

-- ---- and are no more

short_by : (step : Step) (u : Unit) (us : List Unit) (plain behind : Result (List Unit) ℕ) → IfOk plain (λ v. length v ≤ length us) → IfOk behind (λ v. length v ≤ length us) → IfOk (by_step step u us plain behind) (λ v. length v ≤ length (u ∷ us))
short_by steps.Plain u us plain behind p b = if_before (λ v. length v ≤ length us) (λ v. length v ≤ length (u ∷ us)) u plain (λ v h. omega (arith, h)) p
short_by steps.Fault u us plain behind p b = tt
short_by (steps.One ch len) u us plain behind p b = if_before (λ v. length v ≤ length us) (λ v. length v ≤ length (u ∷ us)) (spanning ch (u ∷ us) len) behind (λ v h. omega (arith, h)) b

longer : (n : ℕ) (r : Result (List Unit) ℕ) → IfOk r (λ v. length v ≤ n) → IfOk r (λ v. length v ≤ suc n)
longer n (Ok v) h = omega (arith, h)
longer n (Err at) h = tt

pub translated-short : (skip : ℕ) (odd : Bool) (us : List Unit) → IfOk (translated skip odd us) (λ v. length v ≤ length us)
unfolding translated
translated-short zero odd [] = omega arith
translated-short (suc n) odd [] = omega arith
translated-short (suc n) odd (u ∷ us) = longer (length us) (translated n odd us) (translated-short n odd us)
translated-short zero odd (u ∷ us) =
    short_by (read_at odd (u ∷ us)) u us _ _ (translated-short 0 ((u.ch == 92) && not odd) us) (translated-short (len_of (read_at odd (u ∷ us)) - 1) false us)

pub shorter : (m n : ℕ) (r : Result (List Unit) ℕ) → m ≤ n → IfOk r (λ v. length v ≤ m) → IfOk r (λ v. length v ≤ n)
shorter m n (Ok v) le h = omega (arith, le, h)
shorter m n (Err at) le h = tt

-- ---- and those of one byte are spelled by it

module _ (bytes : List ℕ) (to : ℕ) where
  -- an escape has more bytes
  not_one : (ch len : ℕ) (u : Unit) (us : List Unit) (from : ℕ) → IsStepWithin (length (u ∷ us)) (steps.One ch len) → InOrder from (u ∷ us) to → IsByte bytes (spanning ch (u ∷ us) len)
  not_one ch len u us from within order one =
      let place : suc (len - 2) ≡ len - 1 = omega (arith, within.0) in
      let more = two_bytes u us (len - 2) from to (omega (arith, within.0, within.1)) order in
      let end : (unit_at (u ∷ us) (suc (len - 2))).start + (unit_at (u ∷ us) (suc (len - 2))).len ≡ (unit_at (u ∷ us) (len - 1)).start + (unit_at (u ∷ us) (len - 1)).len =
      ap (λ k. (unit_at (u ∷ us) k).start + (unit_at (u ∷ us) k).len) place in
      absurd (omega (arith, more, end, one))

  bytes_by : (step : Step) (u : Unit) (us : List Unit) (from : ℕ) (plain behind : Result (List Unit) ℕ) → IsStepWithin (length (u ∷ us)) step → InOrder from (u ∷ us) to → IsByte bytes u
      → IfOk plain (AreBytes bytes) → IfOk behind (AreBytes bytes) → IfOk (by_step step u us plain behind) (AreBytes bytes)
  bytes_by steps.Plain v vs from plain behind within order own p b = if_before (AreBytes bytes) (AreBytes bytes) v plain (λ w h. (own, h)) p
  bytes_by steps.Fault v vs from plain behind within order own p b = tt
  bytes_by (steps.One ch len) v vs from plain behind within order own p b =
      if_before (AreBytes bytes) (AreBytes bytes) (spanning ch (v ∷ vs) len) behind (λ w h. (not_one ch len v vs from within order, h)) b

  pub translated-bytes : (skip : ℕ) (odd : Bool) (from : ℕ) (us : List Unit) → InOrder from us to → AreBytes bytes us → IfOk (translated skip odd us) (AreBytes bytes)
  unfolding translated
  translated-bytes zero odd from [] order are = tt
  translated-bytes (suc n) odd from [] order are = tt
  translated-bytes (suc n) odd from (u ∷ us) order are = translated-bytes n odd (u.start + u.len) us order.2 are.1
  translated-bytes zero odd from (u ∷ us) order are =
      bytes_by (read_at odd (u ∷ us)) u us from _ _ (read-within odd u us) order are.0
      (translated-bytes 0 ((u.ch == 92) && not odd) (u.start + u.len) us order.2 are.1)
      (translated-bytes (len_of (read_at odd (u ∷ us)) - 1) false (u.start + u.len) us order.2 are.1)
