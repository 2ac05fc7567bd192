use Rattle.std.proofs.Common.{◌∙◌, ◌≤◌, subst, sym}
use Rattle.cq_base.specs.Settings.{IsInRange}
use Rattle.cq_base.specs.declared.settings.Settings.{Settings}
use Rattle.cq_request.specs.declared.request.Kind.TheVariants as kind
use Rattle.cq_make.specs.Summary.{IsAnsweredByAll}
use Rattle.cq_make.proofs.Asked.{reply_by_puts}
use Rattle.cq_make.proofs.making.line_made.Goals as goal

pub reply_of-requires-clause-in_range : goal.reply_of-requires-clause-in_range
reply_of-requires-clause-in_range g c κs lives = subst IsInRange (sym c.plain-keyer.ensures) c.requires.in_range

pub reply_of-requires-clause-short : goal.reply_of-requires-clause-short
reply_of-requires-clause-short g c κs lives = subst (λ (set : Settings). set.chunk ≤ 50) (sym c.plain-keyer.ensures) c.requires.short

pub reply_of-requires-clause-hub_settings : goal.reply_of-requires-clause-hub_settings
reply_of-requires-clause-hub_settings g c κs lives = c.in_ok-made.ensures.settings ∙ sym c.plain-keyer.ensures

pub reply_of-requires-2-clause-in_range : goal.reply_of-requires-2-clause-in_range
reply_of-requires-2-clause-in_range g c κs lives = subst IsInRange (sym c.plain-keyer.ensures) c.requires.in_range

pub reply_of-requires-2-clause-short : goal.reply_of-requires-2-clause-short
reply_of-requires-2-clause-short g c κs lives = subst (λ (set : Settings). set.chunk ≤ 50) (sym c.plain-keyer.ensures) c.requires.short

pub reply_of-requires-2-clause-hub_settings : goal.reply_of-requires-2-clause-hub_settings
reply_of-requires-2-clause-hub_settings g c κs lives = c.in_ok-made.ensures.settings ∙ sym c.plain-keyer.ensures

pub reply_of-requires-3-clause-in_range : goal.reply_of-requires-3-clause-in_range
reply_of-requires-3-clause-in_range g c κs lives = subst IsInRange (sym c.plain-keyer.ensures) c.requires.in_range

pub reply_of-requires-3-clause-short : goal.reply_of-requires-3-clause-short
reply_of-requires-3-clause-short g c κs lives = subst (λ (set : Settings). set.chunk ≤ 50) (sym c.plain-keyer.ensures) c.requires.short

pub reply_of-requires-3-clause-hub_settings : goal.reply_of-requires-3-clause-hub_settings
reply_of-requires-3-clause-hub_settings g c κs lives = c.in_ok-made.ensures.settings ∙ sym c.plain-keyer.ensures

pub line_told-requires-clause-groups : goal.line_told-requires-clause-groups
line_told-requires-clause-groups g c =
    let r = c.in_ok-put_all.ensures.put in
    let first = c.in_ok-groups.ensures.reply r.0 r.1 r.2 r.3.0 tt in
    reply_by_puts c.args.settings.now c.args.project.number c.args.project.files kind.Groups r.1 c.in_ok-groups.groups first.after (subst (λ (set : Settings). IsAnsweredByAll set kind.Groups r.1 c.in_ok-groups.groups first.after) c.plain-keyer.ensures first.holds) r.3.1

pub line_told-requires-clause-measures : goal.line_told-requires-clause-measures
line_told-requires-clause-measures g c =
    let r = c.in_ok-put_all.ensures.put in
    let first = c.in_ok-groups.ensures.reply r.0 r.1 r.2 r.3.0 tt in
    let second = c.in_ok-measures.ensures.reply r.0 first.after first.stands first.closed tt in
    reply_by_puts c.args.settings.now c.args.project.number c.args.project.files kind.Measures first.after c.in_ok-measures.measures second.after (subst (λ (set : Settings). IsAnsweredByAll set kind.Measures first.after c.in_ok-measures.measures second.after) c.plain-keyer.ensures second.holds) (first.holds.same ∙ r.3.1)

pub line_told-requires-clause-rows : goal.line_told-requires-clause-rows
line_told-requires-clause-rows g c =
    let r = c.in_ok-put_all.ensures.put in
    let first = c.in_ok-groups.ensures.reply r.0 r.1 r.2 r.3.0 tt in
    let second = c.in_ok-measures.ensures.reply r.0 first.after first.stands first.closed tt in
    let third = c.in_ok-rows.ensures.reply r.0 second.after second.stands second.closed tt in
    reply_by_puts c.args.settings.now c.args.project.number c.args.project.files kind.Files second.after c.in_ok-rows.rows third.after (subst (λ (set : Settings). IsAnsweredByAll set kind.Files second.after c.in_ok-rows.rows third.after) c.plain-keyer.ensures third.holds) (second.holds.same ∙ (first.holds.same ∙ r.3.1))
