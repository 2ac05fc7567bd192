use Rattle.std.proofs.Common.{List, subst}
use Rattle.std.specs.Prelude.{IfOk}
use Rattle.cq_base.specs.declared.change.Change.{Change}
use Rattle.cq_export.proofs.Holding.{few_changes}
use Rattle.cq_export.proofs.Sounding.{both_ok, version_sound}
use Rattle.cq_export.proofs.exporting.made.Goals as goal
use Rattle.cq_history.specs.State.{changes_in}
use Rattle.cq_tokask.specs.Exported.{IsOfChanges}
use Rattle.cq_tokfile.specs.Snapshot.{IsSoundSnapshot}

pub last_version-requires-clause-holds : goal.last_version-requires-clause-holds
last_version-requires-clause-holds g c = c.in_ok-make_all.ensures.on.holds

pub last_version-requires-clause-all : goal.last_version-requires-clause-all
last_version-requires-clause-all g c = c.in_ok-make_all.ensures.all

pub returns-clause-of_changes : goal.returns-clause-of_changes
returns-clause-of_changes g c =
    subst (λ (changes : List Change). IfOk c.last_version.result (IsOfChanges c.args.keyer.now.settings changes c.args.project.now)) c.in_ok-make_all.ensures.on.same c.last_version.ensures.of_changes

pub returns-clause-sound : goal.returns-clause-sound
returns-clause-sound g c =
    both_ok c.last_version.result _ _ (IsSoundSnapshot c.args.keyer.now.settings)
    (λ s of errors. version_sound c.args.keyer.now.settings (changes_in c.args.board.now.state) c.args.project.now s c.requires.in_range c.requires.holds.stands.sound c.requires.named (few_changes c.args.keyer.now.settings c.args.board.now c.requires.holds) c.requires.project of errors)
    (returns-clause-of_changes g c)
    c.last_version.ensures.conditions
