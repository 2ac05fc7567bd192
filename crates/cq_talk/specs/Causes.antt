-- Why a change is not accepted, by the changes before it, and what is replied.
use Rattle.std.specs.Prelude.{ℕ, ◌+◌, List, [], map, length, Option, Some, None}
use Rattle.cq_base.specs.declared.settings.Settings.{Settings}
use Rattle.cq_base.specs.declared.change.Change.{Change}
use Rattle.cq_history.specs.State.{State, new_slot}
use Rattle.cq_board.specs.Answers.{refusal_of}
use Rattle.cq_board.specs.declared.answers.Refused.{Refused}
use Rattle.cq_reply.specs.declared.reply.Reply.{Reply}
use Rattle.cq_reply.specs.declared.reply.Reply.TheVariants as reply
use Rattle.cq_answer.specs.Refusals.{cause_told}

-- these changes, with a floor
abbrev pub state_at : List Change → ℕ → State
state_at changes floor = record { slots = map new_slot changes; published = 0; floor = floor; views = [] }

-- the first cause against a change after these changes, with the floor there, if there is one
abbrev pub cause : Settings → List Change → ℕ → Change → Option Refused
cause set changes floor change = refusal_of set (state_at changes floor) change

-- the number that a change gets after these changes, or the cause against it
abbrev pub change_told : List Change → Option Refused → Reply
change_told changes None = reply.Change (length changes + 1)
change_told changes (Some why) = cause_told why
