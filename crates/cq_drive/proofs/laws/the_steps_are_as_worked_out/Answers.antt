use Rattle.std.proofs.Common.{◌≡◌, ◌≤◌, true, false, [], ◌∷◌, None, refl, inl, inr, arith, true≢false}
use Rattle.std.proofs.lemmas.List.Elements.{All-cons, All-nil, All-replicate}
use Rattle.cq_board.specs.declared.answers.Refused.TheVariants as refused
use Rattle.cq_history.specs.Lawful.{IsBelow}
use Rattle.cq_drive.proofs.laws.the_steps_are_as_worked_out.Goals as goal

pub returns : goal.returns
returns c = record {
  publish_waits = inr (λ may. let low : 1 ≤ 0 = may.2 1 0 (omega arith) in omega (arith, low), (refl, refl));
  applies = inl (omega arith, (refl, refl));
  applies_no_more = inr (λ may. let low : 2 ≤ 1 = may in omega (arith, low), (refl, refl));
  publishes = inl ((omega arith, omega arith, All-cons (λ a. 1 ≤ a) 1 (1 ∷ []) (omega arith) (All-cons (λ a. 1 ≤ a) 1 [] (omega arith) (All-nil (λ a. 1 ≤ a)))), (refl, refl));
  opens = inl (refl, (refl, refl));
  nothing_free = inr (λ may. let low : 2 ≤ 1 = may.1 in omega (arith, low), (refl, refl));
  asks = (refl, refl);
  not_again = inr (λ may. let done : true ≡ false = may.1 in absurd (true≢false done), (refl, refl));
  not_open = (inr (refl, refl), refl);
  absent = inr (refused.Absent, refl, (refl, refl));
  floor_waits = inr (λ may. let low : 2 ≤ 1 = may.2 1 None (omega arith) in omega (arith, low), (refl, refl));
  sets_floor = inl ((omega arith, omega arith, All-replicate (IsBelow 2) 16 None tt), (refl, refl));
  not_below = inr (λ may. let low : 3 ≤ 1 = may.0 in omega (arith, low), (refl, refl));
  not_above = inr (λ may. let low : 3 ≤ 2 = may.1 in omega (arith, low), (refl, refl));
  sweeps = (refl, refl);
}
