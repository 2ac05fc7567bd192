use Rattle.cq_hub.specs.SoloPasses.{SoloStands}
use Rattle.cq_make.specs.Made.{HasPut}
use Rattle.cq_make.proofs.putting.put_all.Given as goal

-- those before it are put
abbrev pub invariant-loop-file : goal.invariant-loop-file
invariant-loop-file g l = HasPut (SoloStands g.W.Indexed.keys_in g.W.Indexed.IsWorkOf) l.hub l.pass l.number l.file
