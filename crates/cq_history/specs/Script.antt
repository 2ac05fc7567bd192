-- A history that was worked out by hand: one file put twice by a first caller, a second one's view between, and the floor
-- after it.
use Rattle.std.specs.Prelude.{◌≡◌, ℕ, ◌^◌, false, List, [], ◌∷◌, ◌++◌, map, Some, codes}
use Rattle.cq_base.specs.declared.lang.Lang.TheVariants.{Any}
use Rattle.cq_base.specs.declared.settings.Settings.{Settings}
use Rattle.cq_base.specs.declared.change.Change.{Change}
use Rattle.cq_base.specs.declared.change.Change.TheVariants.{Put}
use Rattle.cq_history.specs.declared.event.Event.{Event}
use Rattle.cq_history.specs.declared.event.Event.TheVariants.{Accept, Done, Publish, Open, Shut, Floor}
use Rattle.cq_history.specs.State.{state, accepted, ready, view_of}
use Rattle.cq_history.specs.Files.{files_at}
use Rattle.cq_history.specs.Lawful.{Allowed, Lawful}
use Rattle.cq_history.specs.Superseded.{AreSuperseded}

abbrev pub script_settings : Settings
script_settings = record { chunk = 2; shards = 2; key_bits = 0; ignore_ids = false; ignore_lits = false; change_limit = 262144; text_limit = 33554432; byte_limit = 2 ^ 60 }

abbrev pub text_put : List ℕ → Change
text_put text = Put (codes "p") (codes "t") Any text

-- the first text is put, done and published; the second is accepted and done; the view opens at the first; the second is
-- published
abbrev pub script : List Event
script = Accept 0 (text_put (codes "a b c")) ∷ Done 0 1 ∷ Publish 1 ∷ Accept 0 (text_put (codes "d e")) ∷ Done 0 2 ∷ Open 1 1 ∷ Publish 2 ∷ []

-- the view is shut, the floor is raised, and a view opens at the second
abbrev pub rest_of_script : List Event
rest_of_script = Shut 1 ∷ Floor 2 ∷ Open 1 2 ∷ []

pub record IsAsWorkedOut : Type 0 where
  pub lawful : Lawful script_settings 2 script
  pub ready_is : ready (state 2 script) ≡ 2
  pub published : (state 2 script).published ≡ 2
  pub view : view_of (state 2 script) 1 ≡ Some 1
  pub floor_waits : Allowed script_settings (state 2 script) (Floor 2) → ⊥
  pub first_files : map (λ f. f.number) (files_at (accepted script) 1 (codes "p")) ≡ 1 ∷ []
  pub second_files : map (λ f. f.number) (files_at (accepted script) 2 (codes "p")) ≡ 2 ∷ []
  pub goes_on : Lawful script_settings 2 (script ++ rest_of_script)
  pub floor : (state 2 (script ++ rest_of_script)).floor ≡ 2
  pub view_then : view_of (state 2 (script ++ rest_of_script)) 1 ≡ Some 2
  pub kept : AreSuperseded (accepted script) 1 []
  pub superseded : AreSuperseded (accepted script) 2 (1 ∷ [])
