use Rattle.std.proofs.lemmas.Bool.{iff_false}
use Rattle.cq_scan.proofs.Ordered.{adds_there, adds_new}
use Rattle.cq_scan.proofs.known.add_once.Goals as goal

pub returns-then-is_listed : goal.returns-then-is_listed
returns-then-is_listed c = adds_there _ c.args.group c.requires.ordered c.requires.ties (rw c.deref.ensures.value at (c.is_listed.ensures.0 c.if-is_listed.true))

pub returns : goal.returns
returns c = rw c.in_ok-push.ensures.items (adds_new _ c.args.group c.requires.ordered (rw c.deref.ensures.value at (iff_false c.is_listed.ensures c.if-is_listed.false)))
