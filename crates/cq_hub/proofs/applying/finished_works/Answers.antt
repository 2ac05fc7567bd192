use Rattle.std.proofs.Common.{◌+◌, ◌≤◌, ◌<◌, ◌^◌, length, sym, subst, ap, arith}
use Rattle.std.specs.Prelude.{All, IfSome}
use Rattle.std.specs.Arc.{arc_value}
use Rattle.std.proofs.lemmas.List.{length_push}
use Rattle.std.proofs.lemmas.List.Elements.{All-push}
use Rattle.cq_history.specs.Changes.{change_at}
use Rattle.cq_history.specs.State.{changes_in, ready, slot_of}
use Rattle.cq_shard.specs.Shard.{HasItsWork, HaveTheirWorks}
use Rattle.cq_shard.proofs.Given.{work_given, held_given}
use Rattle.cq_board.proofs.Works.{work_above}
use Rattle.cq_hub.proofs.ShardSteps.{works_more, few_for}
use Rattle.cq_hub.proofs.applying.finished_works.Goals as goal

pub changes-preserved : goal.changes-preserved
changes-preserved g c =
    let b = c.args.board.now in
    let inv = c.changes.invariant in
    let works = c.changes.works.items in
    let i = c.changes.i in
    let work = c.in_ok-work.work in
    let lt = c.changes-test.true in
    let within : i + 1 ≤ ready b.state = (let most = c.requires.done in omega (arith, lt, most)) in
    let above : b.state.floor < i + 1 = (let low = c.requires.floor in let first = inv.number in omega (arith, low, first)) in
    let given = held_given (g.W.Indexed.IsWorkOf b.settings) arc_value (change_at (changes_in b.state) (i + 1)) work (work_given (g.W.Indexed.IsWorkOf b.settings) arc_value b.state (i + 1) work (omega arith) within (work_above b.state (i + 1) work above c.in_ok-work.ensures.some) c.in_ok-work.ensures.work) in
    let few = few_for (g.W.Indexed.IsWorkOf b.settings) g.W.Indexed.keys_in (g.met.W.Indexed.few b.settings) (slot_of b.state (i + 1)).change work c.in_ok-work.ensures.work in
    let pushed = c.in_ok-push.ensures.items in
    record {
      number = (let n = inv.number in let many = length_push works work in let same = ap length pushed in omega (arith, n, many, same));
      most = omega (arith, lt);
      few = subst (All (λ work. IfSome work (λ w. length (g.W.Indexed.keys_in (arc_value w)) < 2 ^ 32))) (sym pushed) (All-push (λ work. IfSome work (λ w. length (g.W.Indexed.keys_in (arc_value w)) < 2 ^ 32)) works work inv.few few);
      works = subst (HaveTheirWorks (λ lang text w. g.W.Indexed.IsWorkOf b.settings lang text (arc_value w)) (changes_in b.state) c.args.from) (sym pushed)
          (works_more (g.W.Indexed.IsWorkOf b.settings) (changes_in b.state) c.args.from works work
          (subst (λ n. HasItsWork (λ lang text w. g.W.Indexed.IsWorkOf b.settings lang text (arc_value w)) (change_at (changes_in b.state) n) work) (ap (λ n. n + 1) (sym inv.number)) given)
          inv.works);
    }
