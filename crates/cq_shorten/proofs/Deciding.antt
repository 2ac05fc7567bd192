-- Whether a change is accepted, by the three tests of what is held, and what is held at first.
use Rattle.std.proofs.Common.{◌≡◌, ◌⊎◌, ◌<◌, ◌≤◌, Bool, true, false, [], refl, inl, inr, arith}
use Rattle.std.specs.Prelude.{is_none}
use Rattle.cq_base.specs.declared.settings.Settings.{Settings}
use Rattle.cq_board.specs.Answers.{cause_among}
use Rattle.cq_kept.specs.Accepted.{accepted_from}
use Rattle.cq_shorten.specs.Keeping.{Has}
use Rattle.cq_shorten.specs.declared.held.Shortener.{Shortener}

-- nothing is against it exactly if no test passes
pub accepted_without : (absent full long : Bool) → absent ≡ false → full ≡ false → long ≡ false → is_none (cause_among absent full long) ≡ true
accepted_without true full long there room short = absurd (cc)
accepted_without false true long there room short = absurd (cc)
accepted_without false false true there room short = absurd (cc)
accepted_without false false false there room short = refl

pub none_passed : (absent full long : Bool) → is_none (cause_among absent full long) ≡ true → (absent ≡ false) × (full ≡ false) × (long ≡ false)
none_passed true full long none = absurd (cc)
none_passed false true long none = absurd (cc)
none_passed false false true none = absurd (cc)
none_passed false false false none = (refl, refl, refl)

-- and something is if one passes
pub refused_with : (absent full long : Bool) → (absent ≡ true) ⊎ ((full ≡ true) ⊎ (long ≡ true)) → is_none (cause_among absent full long) ≡ false
refused_with true full long why = refl
refused_with false true long why = refl
refused_with false false true why = refl
refused_with false false false (inl passed) = absurd (cc)
refused_with false false false (inr (inl passed)) = absurd (cc)
refused_with false false false (inr (inr passed)) = absurd (cc)

-- nothing was taken
pub nothing_taken : (set : Settings) (s : Shortener) → s.changes ≡ accepted_from set [] 0 → Has s set [] []
nothing_taken set s new = record {
  changes_are = new;
  paired = refl;
  lines = λ number kept. let low : 0 < number = kept.0.0 in let high : number ≤ 0 = kept.0.1 in absurd (omega (arith, low, high));
}
