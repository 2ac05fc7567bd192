use Rattle.std.proofs.Common.{◌≡◌, ℕ, ◌≤◌, None, [], ◌∷◌, Contains, zero, suc, refl, subst, All, arith}
use Rattle.std.proofs.lemmas.List.Elements.{All-cons, All-nil}
use Rattle.std.specs.Prelude.{codes}
use Rattle.cq_base.specs.declared.lang.Lang.TheVariants.{Any}
use Rattle.cq_history.specs.State.{accepted}
use Rattle.cq_history.specs.Lawful.{IsBelow}
use Rattle.cq_history.specs.Script.{script, text_put}
use Rattle.cq_history.specs.Superseded.{IsSuperseded, AreSuperseded}
use Rattle.cq_history.proofs.laws.the_script_is_as_worked_out.Goals as goal

-- no view is open
closed : All (IsBelow 2) (None ∷ None ∷ [])
closed = All-cons (IsBelow 2) None (None ∷ []) tt (All-cons (IsBelow 2) None [] tt (All-nil (IsBelow 2)))

-- the floor at the first text lets go of nothing
none_superseded : AreSuperseded (accepted script) 1 []
none_superseded = record {
  rising = λ k within. absurd (omega (arith, within));
  each = λ number. (
    λ (k, within, here). absurd (omega (arith, within)),
    λ is. absurd (omega (arith, is.accepted.0, is.behind, is.within)),
  );
}

first_goes : IsSuperseded (accepted script) 2 1
first_goes = record {
  project = codes "p";
  path = codes "t";
  lang = Any;
  text = codes "a b c";
  later = 2;
  change = text_put (codes "d e");
  accepted = (omega arith, omega arith);
  put = refl;
  behind = omega arith;
  within = omega arith;
  next = refl;
  same_file = refl;
}

-- the one at the second lets go of the first
first_superseded : AreSuperseded (accepted script) 2 (1 ∷ [])
first_superseded = record {
  rising = λ k within. absurd (omega (arith, within));
  each = λ number. (λ has. subst (IsSuperseded (accepted script) 2) (only number has) first_goes, λ is. subst (Contains (1 ∷ [])) (first number is) (0, omega arith, refl));
}
  where
    only : (number : ℕ) → Contains (1 ∷ []) number → 1 ≡ number
    only number (zero, within, here) = here
    only number (suc k, within, here) = absurd (omega (arith, within))

    first : (number : ℕ) → IsSuperseded (accepted script) 2 number → 1 ≡ number
    first number is = omega (arith, is.accepted.0, is.behind, is.within)

pub returns : goal.returns
returns c = record {
  lawful = ((omega arith, (refl, refl, refl)), ((omega arith, ((omega arith, omega arith), refl)), ((tt, (omega arith, omega arith)), ((omega arith, (refl, refl, refl)), ((omega arith, ((omega arith, omega arith), refl)), ((omega arith, (refl, refl)), ((tt, (omega arith, omega arith)), tt)))))));
  ready_is = refl;
  published = refl;
  view = refl;
  floor_waits = λ allowed. let low : 2 ≤ 1 = allowed.1.2 1 None (omega arith) in omega (arith, low);
  first_files = refl;
  second_files = refl;
  goes_on = ((omega arith, (refl, refl, refl)), ((omega arith, ((omega arith, omega arith), refl)), ((tt, (omega arith, omega arith)), ((omega arith, (refl, refl, refl)), ((omega arith, ((omega arith, omega arith), refl)), ((omega arith, (refl, refl)), ((tt, (omega arith, omega arith)), ((omega arith, refl), ((tt, (omega arith, omega arith, closed)), ((omega arith, (refl, refl)), tt))))))))));
  floor = refl;
  view_then = refl;
  kept = none_superseded;
  superseded = first_superseded;
}
