-- How the serving of doors ended.
use Rattle.std.specs.Prelude.{◌≡◌, ℕ, Bool, true, false, Option, Some, IfSome}
use Rattle.cq_base.specs.declared.settings.Settings.{Settings}
use Rattle.cq_io.specs.Causes.{Rose}
use Rattle.cq_listen.specs.declared.listening.Served.{Served}

-- By whether a call of the doors failed, with their count of faults before and now, and how many connections were to come
-- and are: the count rose; or it is as before, and no connection is to come, if the doors say so.
abbrev pub HasEnded : ℕ → ℕ → Option ℕ → Option ℕ → Bool → Type 0
HasEnded faults faults_now left left_now true = Rose faults faults_now
HasEnded faults faults_now left left_now false =
    (faults_now ≡ faults) × IfSome left (λ _. left_now ≡ Some 0)

-- it was done by these settings, with so many workers and so many sessions
pub record IsServedWith (set : Settings) (workers sessions : ℕ) (served : Served) : Type 0 where
  pub settings_are : served.settings ≡ set
  pub workers_are : served.workers ≡ workers
  pub sessions_are : served.sessions ≡ sessions
