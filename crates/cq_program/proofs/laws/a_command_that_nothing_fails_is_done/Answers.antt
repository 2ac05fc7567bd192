use Rattle.cq_program.proofs.Complete.{sessions_complete, sessions_beside_complete, scripts_complete, made_complete, listens_complete}
use Rattle.cq_program.proofs.laws.a_command_that_nothing_fails_is_done.Goals as goal

pub returns-clause-sessions : goal.returns-clause-sessions
returns-clause-sessions c = sessions_complete

pub returns-clause-beside : goal.returns-clause-beside
returns-clause-beside c = sessions_beside_complete

pub returns-clause-scripts : goal.returns-clause-scripts
returns-clause-scripts c = scripts_complete

pub returns-clause-made : goal.returns-clause-made
returns-clause-made c = made_complete

pub returns-clause-listens : goal.returns-clause-listens
returns-clause-listens c = listens_complete
