-- The passes with which sessions and workers begin, and those that their threads have.
use Rattle.std.specs.Prelude.{◌≡◌, ℕ, List, None, All}
use Rattle.cq_base.specs.declared.settings.Settings.{Settings}
use Rattle.cq_base.specs.Settings.{IsInRange}
use Rattle.cq_cells.specs.Passes.{by_of}
use Rattle.cq_chain.specs.Passes.{BoardPass}
use Rattle.cq_history.specs.State.{view_of}
use Rattle.cq_shared.specs.declared.shared.Shared.{Shared}
use Rattle.cq_shared.specs.SharedPasses.{IsPassOf, settings_of, state_of}

-- the pass is of the hub, and has no view open
pub record IsIdle {W R : Type 0} (hub : Shared W R) (p : BoardPass) : Type 0 where
  pub of : IsPassOf hub p
  pub closed : view_of (state_of hub p.seen) (by_of p) ≡ None

-- it is so, and the settings are the hub's
pub record IsSeated {W R : Type 0} (set : Settings) (hub : Shared W R) (p : BoardPass) : Type 0 where
  pub in_range : IsInRange set
  pub settings : settings_of hub ≡ set
  pub idle : IsIdle hub p

-- it is so, and a cutter takes at most as many bytes of a connection as the settings allow
pub record IsFurnished {W R : Type 0} (set : Settings) (hub : Shared W R) (p : BoardPass) (limit : ℕ) : Type 0 where
  pub seated : IsSeated set hub p
  pub limit_is : limit ≡ set.byte_limit

-- each of them is of a hub with these settings
abbrev pub AreSetTo : {T : Type 0} → (T → Settings) → Settings → List T → Type 0
AreSetTo settings set xs = All (λ x. settings x ≡ set) xs
