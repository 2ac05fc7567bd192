use Rattle.std.proofs.Common.{get_or, sym, subst, arith}
use Rattle.std.specs.Prelude.{Contains}
use Rattle.std.proofs.lemmas.Bool.{iff_false}
use Rattle.std.proofs.lemmas.List.{take_all}
use Rattle.cq_base.specs.declared.group.Place.{Place}
use Rattle.cq_base.proofs.Lists.{same_default}
use Rattle.cq_clones.specs.Lists.{AreAllInOrder}
use Rattle.cq_clones.specs.Groups.{IsBefore, StandsAt, word_at}
use Rattle.cq_clones.proofs.InOrder.{keep_more, skip_more}
use Rattle.cq_tokens.specs.Parts.{tokens_in}
use Rattle.cq_scan.proofs.Places.{standing_of_all}
use Rattle.cq_scan.proofs.occurrences.occurrences.Goals as goal
use Rattle.cq_scan.proofs.occurrences.occurrences.Goals.{then-stands_at+in_ok-push, else-stands_at}

pub loop-z-preserved : goal.loop-z-preserved
loop-z-preserved g c =
    let corpus = tokens_in c.args.files.now in
    let places = c.args.places.now in
    let i = c.loop-z.z-index in
    let origin : Place = record { file = 0; at = 0 } in
    let z : Place = get_or places i origin in
    let read = sym (same_default places i origin c.loop-z-test.true) in
    elim c.if-stands_at.branch [
      | then-stands_at+in_ok-push w ↦ rw (w.found-is, w.in_ok-push.ensures.items)
          (keep_more IsBefore (StandsAt corpus (word_at corpus c.args.p c.args.n)) places c.loop-z.found.items i z c.loop-z-test.true read c.requires.places.ordered (c.stands_at.ensures.0 w.if-stands_at.true) c.loop-z.invariant)
      | else-stands_at w ↦ rw w.found-is
          (skip_more IsBefore (StandsAt corpus (word_at corpus c.args.p c.args.n)) places c.loop-z.found.items i z c.loop-z-test.true read (iff_false c.stands_at.ensures w.if-stands_at.false) c.loop-z.invariant)
    ]

pub returns : goal.returns
returns g c =
    let corpus = tokens_in c.args.files.now in
    let places = c.args.places.now in
    standing_of_all corpus c.args.p c.args.n places c.loop-z.found.items c.requires.within c.requires.some c.requires.places
    (subst (λ ys. AreAllInOrder IsBefore (λ z. Contains ys z × StandsAt corpus (word_at corpus c.args.p c.args.n) z) c.loop-z.found.items)
    (take_all c.loop-z.z-index places (omega (arith, c.loop-z-test.false))) c.loop-z.invariant)
