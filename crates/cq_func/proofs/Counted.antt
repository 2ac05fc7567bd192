-- Levels of brackets tell where as many are opened as are closed.
use Rattle.std.proofs.Common.{◌≡◌, ℕ, ◌+◌, ◌-◌, ◌*◌, ◌<◌, ◌≤◌, Bool, cond, eqb, List, [], ◌∷◌, ◌++◌, length, get_or, take, drop, ap, ◌∙◌, subst, ⊎_elim, arith}
use Rattle.std.specs.Prelude.{count_by}
use Rattle.std.proofs.lemmas.Bool.{cases_eq}
use Rattle.std.proofs.lemmas.Bool.Decides.{same_from_decides, Decides-eqb, Decides-like}
use Rattle.std.proofs.lemmas.List.{take-append-drop, take-take, drop-take, length-take-le, length_push, get_or_push, get_or_append_left}
use Rattle.std.proofs.lemmas.List.Sums.{sum_by-append, sum_by_more, count_by-le-length}
use Rattle.cq_base.specs.declared.lang.Lang.{Lang}
use Rattle.cq_base.specs.declared.token.Spelled.{Spelled}
use Rattle.cq_func.specs.declared.brackets.Kind.{Kind}
use Rattle.cq_func.specs.Brackets.{opens, closes, are_even, before}
use Rattle.cq_func.specs.Levels.{level, AreLevels}

pub eqb_same : (a b c d : ℕ) → (a ≡ b → c ≡ d) → (c ≡ d → a ≡ b) → eqb a b ≡ eqb c d
eqb_same a b c d to back = same_from_decides (eqb a b) (eqb c d) (Decides-eqb a b) (Decides-like (eqb c d) back to (Decides-eqb c d))

take_parts : {X : Type 0} (i m : ℕ) (xs : List X) → take (i + m) xs ≡ take i xs ++ take m (drop i xs)
take_parts i m xs =
    let whole = take-append-drop i (take (i + m) xs) in
    let front = take-take i (i + m) xs (omega arith) in
    let back = drop-take i m xs in
    cc

-- a count over the tokens from one place to another
count_parts : (p : Spelled → Bool) (ts : List Spelled) (x y : ℕ) → x ≤ y → count_by p (take y ts) ≡ count_by p (take x ts) + count_by p (take (y - x) (drop x ts))
count_parts p ts x y le =
    let far : y ≡ x + (y - x) = omega arith in
    ap (λ k. count_by p (take k ts)) far ∙ ap (count_by p) (take_parts x (y - x) ts)
    ∙ sum_by-append (λ t. cond (p t) 1 0) (take x ts) (take (y - x) (drop x ts))

pub count_few : (p : Spelled → Bool) (ts : List Spelled) (at : ℕ) → at ≤ length ts → count_by p (take at ts) ≤ at
count_few p ts at le = let few = count_by-le-length p (take at ts) in let long = length-take-le at ts le in omega (arith, few, long)

pub level-small : (l : Lang) (k : Kind) (ts : List Spelled) (at : ℕ) → at ≤ length ts → level l k ts at ≤ 2 * length ts
unfolding level
level-small l k ts at le = let few = count_few (opens l k) ts at le in omega (arith, few)

-- the tokens between two places are even where the places have one level
pub level-tells : (l : Lang) (k : Kind) (ts : List Spelled) (x y : ℕ) → x ≤ y → y ≤ length ts → eqb (level l k ts y) (level l k ts x) ≡ are_even l k (take (y - x) (drop x ts))
unfolding level
level-tells l k ts x y le within =
    let o = count_parts (opens l k) ts x y le in
    let c = count_parts (closes l k) ts x y le in
    let few = count_few (closes l k) ts y within in
    let fewer = count_few (closes l k) ts x (omega arith) in
    eqb_same _ _ _ _ (λ (e : length ts + count_by (opens l k) (take y ts) - count_by (closes l k) (take y ts) ≡ length ts + count_by (opens l k) (take x ts) - count_by (closes l k) (take x ts)). omega (arith, o, c, few, fewer, e))
    (λ (e : count_by (opens l k) (take (y - x) (drop x ts)) ≡ count_by (closes l k) (take (y - x) (drop x ts))). omega (arith, o, c, few, fewer, e))

-- all tokens before a place
pub level-before : (l : Lang) (k : Kind) (ts : List Spelled) (at : ℕ) → at ≤ length ts → eqb (level l k ts at) (length ts) ≡ are_even l k (before ts at)
unfolding level
level-before l k ts at within =
    let few = count_few (closes l k) ts at within in
    eqb_same _ _ _ _ (λ (e : length ts + count_by (opens l k) (take at ts) - count_by (closes l k) (take at ts) ≡ length ts). omega (arith, few, e))
    (λ (e : count_by (opens l k) (take at ts) ≡ count_by (closes l k) (take at ts)). omega (arith, few, e))

pub level-first : (l : Lang) (k : Kind) (ts : List Spelled) → level l k ts 0 ≡ length ts
unfolding level
level-first l k ts = omega arith

-- one token more
pub level-more : (l : Lang) (k : Kind) (ts : List Spelled) (at : ℕ) (d : Spelled) → at < length ts → level l k ts (at + 1) + cond (closes l k (get_or ts at d)) 1 0 ≡ level l k ts at + cond (opens l k (get_or ts at d)) 1 0
unfolding level
level-more l k ts at d lt =
    let o = sum_by_more (λ t. cond (opens l k t) 1 0) ts at d lt in
    let c = sum_by_more (λ t. cond (closes l k t) 1 0) ts at d lt in
    let few = count_few (closes l k) ts (at + 1) (omega arith) in
    let fewer = count_few (closes l k) ts at (omega arith) in
    omega (arith, o, c, few, fewer)

-- the levels as far as they are known
pub record AreLevelled (l : Lang) (k : Kind) (ts : List Spelled) (far : ℕ) (levels : List ℕ) : Type 0 where
  pub many : length levels ≡ far + 1
  pub each : (at : ℕ) → at ≤ far → get_or levels at 0 ≡ level l k ts at

pub levelled_first : (l : Lang) (k : Kind) (ts : List Spelled) (first : ℕ) → first ≡ level l k ts 0 → AreLevelled l k ts 0 (first ∷ [])
levelled_first l k ts first is = record {
  many = omega arith;
  each = λ at low. let e : 0 ≡ at = omega arith in subst (λ i. get_or (first ∷ []) i 0 ≡ level l k ts i) e is;
}

pub levelled_more : (l : Lang) (k : Kind) (ts : List Spelled) (far : ℕ) (levels : List ℕ) (next : ℕ) → next ≡ level l k ts (far + 1) → AreLevelled l k ts far levels → AreLevelled l k ts (far + 1) (levels ++ next ∷ [])
levelled_more l k ts far levels next is before = record {
  many = let more = length_push levels next in let many = before.many in omega (arith, more, many);
  each = λ at low.
      let many = before.many in
      ⊎_elim
      (λ (e : far + 1 ≡ at). subst (λ i. get_or (levels ++ next ∷ []) i 0 ≡ level l k ts i) e (get_or_push levels next 0 (far + 1) many ∙ is))
      (λ (ne : far + 1 ≡ at → ⊥). get_or_append_left levels (next ∷ []) 0 at (omega (arith, many)) ∙ before.each at (omega arith))
      (cases_eq (far + 1) at);
}

pub levelled_all : (l : Lang) (k : Kind) (ts : List Spelled) (far : ℕ) (levels : List ℕ) → far ≡ length ts → AreLevelled l k ts far levels → AreLevels l k ts levels
levelled_all l k ts far levels whole all = record {
  many = let many = all.many in omega (arith, many);
  each = λ at low. all.each at (omega arith);
}
