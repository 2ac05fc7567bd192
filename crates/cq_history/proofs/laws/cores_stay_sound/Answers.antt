use Rattle.cq_history.proofs.Cores.{step_is_sound, first_is_sound}
use Rattle.cq_history.proofs.laws.cores_stay_sound.Goals as goal

pub returns : goal.returns
returns c = λ settings callers shards. (first_is_sound settings callers shards, step_is_sound settings callers)
