-- The numbers of changes, as more are accepted, and the slots that they name.
use Rattle.std.proofs.Common.{◌≡◌, ◌≢◌, ℕ, ◌-◌, ◌<◌, Bool, true, false, cond, List, ◌++◌, get_or, set, refl, ap, ◌∙◌, arith}
use Rattle.std.specs.Prelude.{◌==◌}
use Rattle.std.proofs.lemmas.List.{get_or-set_same, get_or-set_other}
use Rattle.cq_base.specs.declared.change.Change.{Change}
use Rattle.cq_base.proofs.Lists.{slice_get-append_left}
use Rattle.cq_history.specs.Changes.{change_at, IsNumber}
use Rattle.cq_history.specs.State.{Slot, no_slot}

-- a change has its number for good
pub change_at-append : (cs ds : List Change) (r : ℕ) → IsNumber cs r → change_at (cs ++ ds) r ≡ change_at cs r
change_at-append cs ds r is = slice_get-append_left cs ds (r - 1) (omega (arith, is.0, is.1))

pub same_number : (r t : ℕ) → (r == t) ≡ true → r ≡ t
same_number r t h = grind arith

pub other_number : (r t : ℕ) → (r == t) ≡ false → r ≢ t
other_number r t h = grind arith

one_less : (r t : ℕ) → 0 < r → 0 < t → (r == t) ≡ false → r - 1 ≢ t - 1
one_less r t some there h = grind arith

-- of the slots that of one number is set
pub slot-set : (xs : List Slot) (t r : ℕ) (slot : Slot) → 0 < r → IsNumber xs t → get_or (set xs (t - 1) slot) (r - 1) no_slot ≡ cond (r == t) slot (get_or xs (r - 1) no_slot)
slot-set xs t r slot some there = go (r == t) refl
  where
    go : (b : Bool) → (r == t) ≡ b → get_or (set xs (t - 1) slot) (r - 1) no_slot ≡ cond b slot (get_or xs (r - 1) no_slot)
    go true h = ap (λ n. get_or (set xs (t - 1) slot) (n - 1) no_slot) (same_number r t h) ∙ get_or-set_same xs (t - 1) slot no_slot (omega (arith, there.0, there.1))
    go false h = get_or-set_other xs (t - 1) (r - 1) slot no_slot (one_less r t some there.0 h)

pub cond-ap : {A B : Type 0} (f : A → B) (b : Bool) (x y : A) → f (cond b x y) ≡ cond b (f x) (f y)
cond-ap f true x y = refl
cond-ap f false x y = refl
