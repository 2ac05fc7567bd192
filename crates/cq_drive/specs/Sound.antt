-- What a step that was read has: a caller below 16, a shard that there is, a sound change, and a sound query.
use Rattle.std.specs.Prelude.{◌<◌, ⊤}
use Rattle.cq_base.specs.declared.settings.Settings.{Settings}
use Rattle.cq_base.specs.Changes.{IsSoundChange}
use Rattle.cq_request.specs.Sound.{IsSoundQuery}
use Rattle.cq_drive.specs.declared.step.ScriptStep.{ScriptStep}
use Rattle.cq_drive.specs.declared.step.ScriptStep.TheVariants as step

abbrev pub IsSoundStep : Settings → ScriptStep → Type 0
IsSoundStep s (step.Accept by change) = (by < 16) × IsSoundChange change
IsSoundStep s (step.Ask by) = by < 16
IsSoundStep s (step.Took by) = by < 16
IsSoundStep s (step.Back by change) = by < 16
IsSoundStep s (step.Done by change) = by < 16
IsSoundStep s (step.Apply shard) = shard < s.shards
IsSoundStep s (step.Publish version) = ⊤
IsSoundStep s (step.Open by) = by < 16
IsSoundStep s (step.Read by shard key) = (by < 16) × (shard < s.shards)
IsSoundStep s (step.Reply by query) = (by < 16) × IsSoundQuery s.chunk query
IsSoundStep s (step.Shut by) = by < 16
IsSoundStep s (step.Floor version) = ⊤
IsSoundStep s (step.Sweep shard) = shard < s.shards
