use Rattle.std.proofs.Common.{refl, ◌∙◌, subst}
use Rattle.cq_lines.specs.LineLogs.{log_at}
use Rattle.cq_talk.specs.Saying.{Says}
use Rattle.cq_keeper.proofs.Writing.{first_of, kept_or_broken, refused_still}
use Rattle.cq_shared.proofs.Calling.{stays}
use Rattle.cq_keeper.proofs.locked.Locked.accept.Goals as goal

pub returns-then-not-self-clause-refused : goal.returns-then-not-self-clause-refused
returns-then-not-self-clause-refused g c = stays c.args.hub.now c.args.pass.now c.args.pass.now (λ _. Unit {0}) c.requires.of refl refl refl refl tt

pub accept_by_first-requires-clause-first : goal.accept_by_first-requires-clause-first
accept_by_first-requires-clause-first g c =
    let log = c.self.inside.log in
    let p = c.self.inside.pass in
    first_of g.K.Sink g.N.LogOf c.args.hub.now c.requires.keeps (log_at log.sink.now log.whole) p p c.self.invariant.1 c.args.pass.now c.requires.of

pub invariant_of-self : goal.invariant_of-self
invariant_of-self g c =
    let hub = c.args.hub.now in
    let old = c.self.inside.log in
    let new = c.keep.new.self in
    let p = c.self.inside.pass in
    let q = c.accept_by_first.new.first in
    let says = subst (λ cells. Says cells.about.settings.chunk c.args.line.now c.args.change) c.requires.keeps c.requires.says in (
      c.keep.ensures.same_reference ∙ c.self.invariant.0,
      kept_or_broken g.K.Sink g.N.LogOf hub c.requires.keeps (log_at old.sink.now old.whole) p q c.self.invariant.1 c.args.change c.args.line.now says c.in-Ok.ensures.first (log_at new.sink.now new.whole) c.keep.result c.if-not-self.false c.keep.ensures.kept c.keep.ensures.broken,
    )

pub invariant_of-self-in-Err : goal.invariant_of-self-in-Err
invariant_of-self-in-Err g c =
    let log = c.self.inside.log in
    let p = c.self.inside.pass in
    (c.self.invariant.0, refused_still g.K.Sink g.N.LogOf c.args.hub.now c.requires.keeps (log_at log.sink.now log.whole) p c.accept_by_first.new.first c.self.invariant.1 c.in-Err.ensures.still)
