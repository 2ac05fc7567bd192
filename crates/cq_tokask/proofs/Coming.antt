-- Bytes that come piece by piece.
use Rattle.std.proofs.Common.{◌≡◌, ℕ, ◌+◌, ◌-◌, ◌≤◌, List, [], ◌++◌, length, take, Option, None, Some, Ok, Err, Result, sym, ap, ◌∙◌, append_assoc, arith, length-append}
use Rattle.std.specs.Prelude.{OnErr}
use Rattle.std.proofs.KnownBytes.{Consumes-nil, Consumes-trans}
use Rattle.std.specs.Io.KnownBytes.{Consumes, Keeps}
use Rattle.std.proofs.lemmas.List.{append-nil, length-take-le, take-take}
use Rattle.cq_tokask.specs.Taken.{CameBehind}

pub came_none : (a : Option (List ℕ)) (old : List ℕ) → CameBehind a a old old []
came_none a old = record { consumed = Consumes-nil a; behind = sym (append-nil old) }

pub came_more : (a b d : Option (List ℕ)) (old mid new got more : List ℕ) → CameBehind a b old mid got → CameBehind b d mid new more → CameBehind a d old new (got ++ more)
came_more a b d old mid new got more first next = record {
  consumed = Consumes-trans a b d got more first.consumed next.consumed;
  behind = next.behind ∙ ap (λ (x : List ℕ). x ++ more) first.behind ∙ append_assoc old got more;
}

-- nothing is taken of what stays
pub consumes_nothing : (a b : Option (List ℕ)) → Keeps a b → Consumes a b []
consumes_nothing None b kept = tt
consumes_nothing (Some xs) None kept = kept
consumes_nothing (Some xs) (Some ys) kept = sym kept

-- some bytes of a piece of which a front was read came
pub came_some : (a b : Option (List ℕ)) (old new piece : List ℕ) (n size : ℕ) → n ≤ size → size ≤ length piece → Consumes a b (take n (take size piece)) → new ≡ old ++ take n piece → (got : List ℕ) × CameBehind a b old new got × (length got ≡ n)
came_some a b old new piece n size few room took grown =
    let len : length (take n (take size piece)) ≡ n = ap length (take-take n size piece few) ∙ length-take-le n piece (omega (arith, few, room)) in
    (take n (take size piece), record { consumed = took; behind = grown ∙ ap (λ (p : List ℕ). old ++ p) (sym (take-take n size piece few)) }, len)

-- so many came, and so many are left of what is wanted
pub record ComesSoFar (a b : Option (List ℕ)) (old now : List ℕ) (count left : ℕ) : Type 0 where
  pub got : List ℕ
  pub came : CameBehind a b old now got
  pub many : length got + left ≡ count

pub comes_more : (a b d : Option (List ℕ)) (old mid new more : List ℕ) (count left n : ℕ) → ComesSoFar a b old mid count left → CameBehind b d mid new more → length more ≡ n → n ≤ left → ComesSoFar a d old new count (left - n)
comes_more a b d old mid new more count left n so came many fits = record {
  got = so.got ++ more;
  came = came_more a b d old mid new so.got more so.came came;
  many = (let both = length-append so.got more in let before = so.many in omega (arith, both, before, many, fits));
}

-- what holds anyway holds at an error
pub on_err : {T E : Type 0} {P : Type 0} (r : Result T E) → P → OnErr r P
on_err (Ok x) is = tt
on_err (Err e) is = is
