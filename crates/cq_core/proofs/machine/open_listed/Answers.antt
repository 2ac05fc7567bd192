use Rattle.std.proofs.Common.{◌≡◌, ◌<◌, length, None, sym, subst}
use Rattle.std.specs.Prelude.{IfOk, OnErr}
use Rattle.cq_history.specs.declared.event.Event.TheVariants as event
use Rattle.cq_history.specs.State.{view_of}
use Rattle.cq_board.specs.Stands.{BoardState, Adds}
use Rattle.cq_core.specs.Views.{IsView}
use Rattle.cq_core.proofs.machine.open_listed.Goals as goal

pub open-requires : goal.open-requires
open-requires g c = record {
  caller = subst (λ (b : BoardState). c.args.by < length b.state.views) (sym c.relist.ensures) c.requires.caller;
  closed = subst (λ (b : BoardState). view_of b.state c.args.by ≡ None) (sym c.relist.ensures) c.requires.closed;
}

pub returns-clause-adds : goal.returns-clause-adds
returns-clause-adds g c = subst (λ (b : BoardState). IfOk c.open.result (λ v. Adds (event.Open c.args.by v.version) b c.open.new.self)) c.relist.ensures c.open.ensures.adds

pub returns-clause-version : goal.returns-clause-version
returns-clause-version g c = subst (λ (b : BoardState). IfOk c.open.result (λ v. v.version ≡ b.state.published)) c.relist.ensures c.open.ensures.version

pub returns-clause-listing : goal.returns-clause-listing
returns-clause-listing g c = subst (λ (b : BoardState). IfOk c.open.result (IsView (g.W.Indexed.IsWorkOf b.settings) b.state)) c.relist.ensures c.open.ensures.listing

pub returns-clause-err : goal.returns-clause-err
returns-clause-err g c = subst (λ (b : BoardState). OnErr c.open.result (c.open.new.self ≡ b)) c.relist.ensures c.open.ensures.err
