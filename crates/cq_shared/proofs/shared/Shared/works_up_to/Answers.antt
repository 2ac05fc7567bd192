use Rattle.std.proofs.Common.{◌≡◌, ◌≤◌, sym, ap, ◌∙◌, subst, subst₂, append-nil, arith}
use Rattle.cq_history.specs.State.{State, accepted, changes_in, ready}
use Rattle.cq_history.proofs.Bounds.{in_order}
use Rattle.cq_history.proofs.Prefixes.{changes_in-state}
use Rattle.cq_chain.specs.Held.{IsBoard}
use Rattle.cq_shared.specs.declared.deed.Deed.TheVariants as deed
use Rattle.cq_shared.specs.Advancing.{AreWorksFrom}
use Rattle.cq_shared.specs.SharedPasses.{cells_of, callers_of, settings_of, state_of}
use Rattle.cq_shared.proofs.Calling.{state_is, called, ready_seen}
use Rattle.cq_shared.proofs.shared.Shared.works_up_to.Goals as goal

pub finished_works-works-requires : goal.finished_works-works-requires
finished_works-works-requires g c =
    let e = c.enter_board-board.ensures in
    let m = c.enter_board-board.new.pass in
    let b = c.relist_where_published-listed.new.board in
    let hub = c.args.self.now in
    let board : IsBoard (cells_of hub).about m.seen b = subst (IsBoard (cells_of hub).about m.seen) (sym c.relist_where_published-listed.ensures) e.board in
    let is = state_is (cells_of hub).about m.seen b board in
    record {
      floor = subst (λ (s : State). s.floor ≤ c.published-base.result) (sym is)
          (let low = (in_order (settings_of hub) (callers_of hub) m.seen e.of.law.lawful).floor in let base = c.published-base.ensures ∙ ap (λ (s : State). s.published) (state_is (cells_of hub).about m.seen c.enter_board-board.result e.board) in omega (arith, low, base));
      done = subst (λ (s : State). c.args.to ≤ ready s) (sym is) (ready_seen hub (settings_of hub) c.args.pass.now.seen m.seen e.seen e.of.law.lawful c.args.to c.requires.done);
    }

pub returns-clause-calls : goal.returns-clause-calls
returns-clause-calls g c =
    let e = c.enter_board-board.ensures in
    let m = c.enter_board-board.new.pass in
    called c.args.self.now c.args.pass.now m c.leave_after.new.pass c.requires.of e.seen e.own e.same c.leave_after.ensures.of c.leave_after.ensures.free c.leave_after.ensures.same deed.Nothing _ c.leave_after.ensures.seen tt

pub returns-in_err-works-clause-calls : goal.returns-in_err-works-clause-calls
returns-in_err-works-clause-calls g c =
    let e = c.enter_board-board.ensures in
    let m = c.enter_board-board.new.pass in
    called c.args.self.now c.args.pass.now m c.leave_after.new.pass c.requires.of e.seen e.own e.same c.leave_after.ensures.of c.leave_after.ensures.free c.leave_after.ensures.same deed.Nothing _ c.leave_after.ensures.seen tt

pub returns-in_err-listed-clause-calls : goal.returns-in_err-listed-clause-calls
returns-in_err-listed-clause-calls g c =
    let e = c.enter_board-board.ensures in
    let m = c.enter_board-board.new.pass in
    called c.args.self.now c.args.pass.now m c.leave_after.new.pass c.requires.of e.seen e.own e.same c.leave_after.ensures.of c.leave_after.ensures.free c.leave_after.ensures.same deed.Nothing _ c.leave_after.ensures.seen tt

pub returns-clause-base : goal.returns-clause-base
returns-clause-base g c =
    let e = c.enter_board-board.ensures in
    let m = c.enter_board-board.new.pass in
    let hub = c.args.self.now in
    let seen : m.seen ≡ c.leave_after.new.pass.seen = sym (append-nil m.seen) ∙ sym c.leave_after.ensures.seen in
    c.published-base.ensures ∙ ap (λ (s : State). s.published) (state_is (cells_of hub).about m.seen c.enter_board-board.result e.board) ∙ ap (λ l. (state_of hub l).published) seen

pub returns-clause-works : goal.returns-clause-works
returns-clause-works g c =
    let e = c.enter_board-board.ensures in
    let m = c.enter_board-board.new.pass in
    let b = c.relist_where_published-listed.new.board in
    let hub = c.args.self.now in
    let board : IsBoard (cells_of hub).about m.seen b = subst (IsBoard (cells_of hub).about m.seen) (sym c.relist_where_published-listed.ensures) e.board in
    let works = c.in_ok-works.ensures in
    let seen : m.seen ≡ c.leave_after.new.pass.seen = sym (append-nil m.seen) ∙ sym c.leave_after.ensures.seen in
    let same : changes_in b.state ≡ accepted c.leave_after.new.pass.seen = ap changes_in (state_is (cells_of hub).about m.seen b board) ∙ changes_in-state (callers_of hub) m.seen ∙ ap accepted seen in
    subst₂ (λ set cs. AreWorksFrom g.W.Indexed.keys_in (g.W.Indexed.IsWorkOf set) cs c.published-base.result c.args.to c.in_ok-works.field-0.items) board.settings same (record { number = works.number; few = works.few; theirs = works.works })
