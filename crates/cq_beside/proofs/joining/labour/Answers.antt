use Rattle.std.proofs.Common.{◌∙◌, refl, sym, subst}
use Rattle.cq_base.specs.Settings.{IsInRange}
use Rattle.cq_cells.specs.Passes.{by_of}
use Rattle.cq_talk.specs.Gathered.{StaysQuiet}
use Rattle.cq_beside.proofs.Gathering.{labour_quiet}
use Rattle.cq_beside.proofs.joining.labour.Goals as goal

pub work-requires-clause-in_range : goal.work-requires-clause-in_range
work-requires-clause-in_range g c = subst IsInRange (sym c.plain-keyer.ensures) c.requires.in_range

pub work-requires-clause-hub_settings : goal.work-requires-clause-hub_settings
work-requires-clause-hub_settings g c = c.requires.settings ∙ sym c.plain-keyer.ensures

pub returns : goal.returns
returns g c =
    let p = c.args.pass in
    let l = c.work.ensures.labours (by_of p) p.seen (record { is = c.requires.of; caller = refl; seen = refl }) in
    record {
      worked = record {
        of = l.stands.is;
        caller = l.stands.caller;
        quiet = λ none. subst (λ h. StaysQuiet h (by_of p)) (sym l.stands.seen) (labour_quiet ⊥ (by_of p) p.seen l.after l.holds none);
      };
    }
