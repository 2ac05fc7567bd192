-- A worked case of what a board answers and allows, with wrong answers that the definitions refuse.
use Rattle.std.proofs.Common.{◌≡◌, ◌≤◌, true, false, true≢false, [], ◌∷◌, None, Some, arith}
use Rattle.cq_base.specs.declared.lang.Lang.TheVariants.{Any}
use Rattle.cq_base.specs.declared.change.Change.TheVariants.{Put}
use Rattle.cq_base.specs.declared.settings.Settings.{Settings}
use Rattle.cq_history.specs.declared.event.Event.TheVariants as event
use Rattle.cq_history.specs.Lawful.{Permits}
use Rattle.cq_history.specs.State.{State}
use Rattle.cq_board.specs.declared.answers.Refused.TheVariants.{FullChanges}
use Rattle.cq_board.specs.Answers.{asked_of, cause_among, greatest_floor, IsDonePut}

-- Two puts are accepted. The first is done, and caller 0 has the second. Version 1 is published; caller 0 views version 0, and
-- caller 1 has no view open.
abbrev two_puts : State
two_puts = record {
  slots = record { change = Put (0 ∷ []) (1 ∷ []) Any []; finished = true; holder = None } ∷ record { change = Put (0 ∷ []) (2 ∷ []) Any []; finished = false; holder = Some 0 } ∷ [];
  published = 1;
  floor = 0;
  views = Some 0 ∷ None ∷ [];
}

-- ---- what is told

not_all_done : (asked_of two_puts).done ≡ 2 → ⊥
not_all_done e = absurd (omega (arith, e))

not_one_accepted : (asked_of two_puts).accepted ≡ 1 → ⊥
not_one_accepted e = absurd (omega (arith, e))

some_undone : (asked_of two_puts).undone ≡ None → ⊥
some_undone e = absurd (cc)

-- the floor is no higher than the version that is viewed
not_the_published_one : greatest_floor two_puts ≡ 1 → ⊥
not_the_published_one e = absurd (omega (arith, e))

-- there is no work of the put that is not done
no_work_of_the_second : IsDonePut two_puts 2 → ⊥
no_work_of_the_second done = absurd (cc)

-- a drop of a path with no file, on a board that is full, is refused for its path
not_full_first : cause_among true true false ≡ Some FullChanges → ⊥
not_full_first e = absurd (cc)

-- ---- what is allowed

module _ (set : Settings) where
  -- the change that caller 0 has is not given to caller 1
  not_taken_twice : Permits set two_puts (event.Took 1 2) → ⊥
  not_taken_twice may = let first = may.0 in absurd (omega (arith, first))

  -- caller 1, who doesn't have it, can't give it back
  not_given_back_by_another : Permits set two_puts (event.Back 1 2) → ⊥
  not_given_back_by_another may = let held : Some 0 ≡ Some 1 = may.1 in absurd (cc)

  -- a work comes once
  not_done_again : Permits set two_puts (event.Done 0 1) → ⊥
  not_done_again may = absurd (true≢false may.1)

  -- no version is published before its works are done
  not_published_early : Permits set two_puts (event.Publish 2) → ⊥
  not_published_early may = let done : 2 ≤ 1 = may.1 in absurd (omega (arith, done))

  -- nor one that is published already
  not_published_again : Permits set two_puts (event.Publish 1) → ⊥
  not_published_again may = let above = may.0 in absurd (omega (arith, above))

  -- a view is of the published version
  not_opened_at_the_accepted_count : Permits set two_puts (event.Open 1 2) → ⊥
  not_opened_at_the_accepted_count may = let same = may.0 in absurd (omega (arith, same))

  -- the floor stays below what is viewed
  not_above_a_view : Permits set two_puts (event.Floor 1) → ⊥
  not_above_a_view may = let low : 1 ≤ 0 = may.2 0 None (omega arith) in absurd (omega (arith, low))
