-- What a line of a script says: the step that it is, or why it is refused.
use Rattle.std.specs.Prelude.{ℕ, List, if◌then◌else◌, Option, Some, None, Result, Ok, Err, is_some, option_and_then, unwrap_or, codes}
use Rattle.serde_json.specs.Data.{Data, null}
use Rattle.serde_json.specs.Find.{get, as_object}
use Rattle.cq_base.specs.declared.settings.Settings.{Settings}
use Rattle.cq_request.specs.declared.request.Request.{Request}
use Rattle.cq_request.specs.declared.request.Request.TheVariants as request
use Rattle.cq_base.specs.declared.refusal.Refusal.{Refusal}
use Rattle.cq_base.specs.declared.refusal.Refusal.TheVariants as refusal
use Rattle.cq_request.specs.Members.{number_at}
use Rattle.cq_request.specs.Spelled.{spelled}
use Rattle.cq_request.specs.Reading.{value_says, of_spelled}
use Rattle.cq_drive.specs.declared.row.StepKind.{StepKind}
use Rattle.cq_drive.specs.declared.row.StepKind.TheVariants as kind
use Rattle.cq_drive.specs.declared.step.ScriptStep.{ScriptStep}
use Rattle.cq_drive.specs.declared.step.ScriptStep.TheVariants as step
use Rattle.cq_drive.specs.Rows.{below, fault_of, kind_of}

-- ---- the members of an object that has all fields of its row

abbrev pub below_at : ℕ → List ℕ → Data → Option ℕ
below_at bound key d = option_and_then (below bound) (get key d)

abbrev pub by_of : Data → ℕ
by_of d = unwrap_or (below_at 16 (codes "by") d) 0

abbrev pub shard_of : ℕ → Data → ℕ
shard_of shards d = unwrap_or (below_at shards (codes "shard") d) 0

abbrev pub number_or : List ℕ → Data → ℕ
number_or key d = unwrap_or (number_at key d) 0

abbrev pub request_in : Data → Data
request_in d = unwrap_or (get (codes "request") d) null

-- the step that brings what a request asks for; a request of another kind is none of its row
abbrev pub accept_of : ℕ → Result Request Refusal → Result ScriptStep Refusal
accept_of by (Ok (request.Change change)) = Ok (step.Accept by change)
accept_of by (Ok (request.Query query)) = Err (refusal.Field (codes "request"))
accept_of by (Ok request.State) = Err (refusal.Field (codes "request"))
accept_of by (Err r) = Err r

-- the step that answers it
abbrev pub reply_of : ℕ → Result Request Refusal → Result ScriptStep Refusal
reply_of by (Ok (request.Change change)) = Err (refusal.Field (codes "request"))
reply_of by (Ok (request.Query query)) = Ok (step.Reply by query)
reply_of by (Ok request.State) = Err (refusal.Field (codes "request"))
reply_of by (Err r) = Err r

-- the step of such an object, or the refusal that its request has
abbrev pub step_of : Settings → StepKind → Data → Result ScriptStep Refusal
step_of s kind.Accept d = accept_of (by_of d) (value_says s.chunk (request_in d))
step_of s kind.Ask d = Ok (step.Ask (by_of d))
step_of s kind.Took d = Ok (step.Took (by_of d))
step_of s kind.Back d = Ok (step.Back (by_of d) (number_or (codes "change") d))
step_of s kind.Done d = Ok (step.Done (by_of d) (number_or (codes "change") d))
step_of s kind.Apply d = Ok (step.Apply (shard_of s.shards d))
step_of s kind.Publish d = Ok (step.Publish (number_or (codes "version") d))
step_of s kind.Open d = Ok (step.Open (by_of d))
step_of s kind.Read d = Ok (step.Read (by_of d) (shard_of s.shards d) (number_or (codes "key") d))
step_of s kind.Reply d = reply_of (by_of d) (value_says s.chunk (request_in d))
step_of s kind.Shut d = Ok (step.Shut (by_of d))
step_of s kind.Floor d = Ok (step.Floor (number_or (codes "version") d))
step_of s kind.Sweep d = Ok (step.Sweep (shard_of s.shards d))

-- ---- values and lines

abbrev pub unless_fault : Option (List ℕ) → Result ScriptStep Refusal → Result ScriptStep Refusal
unless_fault None says = says
unless_fault (Some name) says = Err (refusal.Field name)

abbrev pub object_says : Settings → Option StepKind → Data → Result ScriptStep Refusal
object_says s None d = Err refusal.Op
object_says s (Some k) d = unless_fault (fault_of s.shards k d) (step_of s k d)

-- what a value says: it has to be an object
abbrev pub step_said : Settings → Data → Result ScriptStep Refusal
step_said s d = if is_some (as_object d) then object_says s (kind_of d) d else Err refusal.Json

-- what a line says
abbrev pub step_read : Settings → List ℕ → Result ScriptStep Refusal
step_read s line = of_spelled (step_said s) (spelled line)
