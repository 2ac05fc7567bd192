-- Which changes stay in a sweep.
use Rattle.std.proofs.Common.{◌≡◌, ℕ, ◌<◌, true, nat_lt, List, inl, inr, ⊎_elim}
use Rattle.std.specs.Prelude.{◌⊎◌, Contains}
use Rattle.std.proofs.lemmas.Bool.{eqb-true, lt-ltb, ltb-true, or_left, or_right, or_cases}
use Rattle.std.proofs.lemmas.Map.Views.{Contains-from_any}
use Rattle.cq_shard.specs.Tables.{is_among, stays}
use Rattle.cq_shard.proofs.Entries.{any_of}

pub stays_above : (floor : ℕ) (keep : List ℕ) (n : ℕ) → floor < n → stays floor keep n ≡ true
stays_above floor keep n above = or_left (nat_lt floor n) (is_among keep n) (lt-ltb floor n above)

pub stays_kept : (floor : ℕ) (keep : List ℕ) (n : ℕ) → Contains keep n → stays floor keep n ≡ true
stays_kept floor keep n there = or_right (nat_lt floor n) (is_among keep n) (any_of n keep there)

pub stays_cases : (floor : ℕ) (keep : List ℕ) (n : ℕ) → stays floor keep n ≡ true → (floor < n) ⊎ Contains keep n
stays_cases floor keep n is = ⊎_elim
    (λ above. inl (ltb-true floor n above))
    (λ kept. inr (Contains-from_any eqb-true n keep kept))
    (or_cases (nat_lt floor n) (is_among keep n) is)
