use Rattle.std.proofs.Common.{◌≡◌, ◌≤◌, ◌∷◌, [], List, ℕ, length, refl, sym, subst, subst₂}
use Rattle.std.specs.Arc.{arc_value}
use Rattle.std.specs.Str.{IsUtf8}
use Rattle.cq_base.specs.declared.change.Change.{Change}
use Rattle.cq_base.specs.declared.settings.Settings.{Settings}
use Rattle.cq_cells.specs.Passes.{by_of}
use Rattle.cq_history.specs.Changes.{IsWorkFor}
use Rattle.cq_history.specs.State.{slot_of, IsAccepted}
use Rattle.cq_history.specs.declared.event.Event.{Event}
use Rattle.cq_history.specs.declared.event.Event.TheVariants.{Took}
use Rattle.cq_history.proofs.Doing as doing
use Rattle.cq_board.proofs.Jobs.{job_work}
use Rattle.cq_shared.specs.SharedPasses.{callers_of, settings_of, state_of}
use Rattle.cq_work.specs.Work.{IsWorkOf}
use Rattle.cq_serve_kept.proofs.Lowering.{done_taken}
use Rattle.cq_serve_kept.proofs.FirstPass.{of_finished, taken_finished}
use Rattle.cq_serve_kept.proofs.reloading.make_works.Goals as goal

pub works-init : goal.works-init
works-init g c = record { ready = c.requires.ready; still = λ set changes is. is }

pub work_for-requires-clause-utf8 : goal.work_for-requires-clause-utf8
work_for-requires-clause-utf8 g c =
    let took = rw c.in-Some.is at c.in_ok-job.ensures.taken in
    subst IsUtf8 (sym c.deref.ensures) took.says.3.0

pub work_for-requires-clause-short : goal.work_for-requires-clause-short
work_for-requires-clause-short g c =
    let took = rw c.in-Some.is at c.in_ok-job.ensures.taken in
    subst (λ (text : List ℕ). length text ≤ 1048576) (sym c.deref.ensures) took.says.3.1

pub finish-finished-requires : goal.finish-finished-requires
finish-finished-requires g c =
    let hub = c.args.hub.now in
    let p = c.works.pass in
    let job = c.in-Some.job in
    let took = rw c.in-Some.is at c.in_ok-job.ensures.taken in
    let seen = subst (λ (h : List Event). IsAccepted (state_of hub h) job.change × ((slot_of (state_of hub h) job.change).change ≡ (slot_of (state_of hub took.mid) job.change).change)) (sym took.seen)
    (doing.accepted_stays (callers_of hub) took.mid (Took (by_of p) job.change ∷ []) job.change took.says.1) in
    let made = subst₂ (λ (s : Settings) (text : List ℕ). IsWorkOf s job.lang text (arc_value c.in_ok-work-in-Some.work)) (sym c.works.invariant.ready.settings) c.deref.ensures c.in_ok-work-in-Some.ensures in
    record {
      of = took.of;
      accepted = seen.0;
      work = subst (λ (x : Change). IsWorkFor (IsWorkOf (settings_of hub)) x (arc_value c.in_ok-work-in-Some.work)) (sym seen.1) (job_work (IsWorkOf (settings_of hub)) (state_of hub took.mid) job.change job (arc_value c.in_ok-work-in-Some.work) refl took.says.2 made);
    }

pub works-preserved : goal.works-preserved
works-preserved g c =
    let hub = c.args.hub.now in
    let i = c.works.invariant in
    let took = rw c.in-Some.is at c.in_ok-job.ensures.taken in
    record {
      ready = record {
        in_range = i.ready.in_range;
        settings = i.ready.settings;
        of = of_finished hub c.take.new.pass c.finish-finished.new.pass c.in-Some.job.change c.finish-finished.result c.finish-finished.ensures.done c.finish-finished.ensures.already;
      };
      still = λ set changes is.
          taken_finished hub set changes c.works.pass (i.still set changes is) c.take.new.pass c.finish-finished.new.pass c.in-Some.job.change _ took c.finish-finished.result c.finish-finished.ensures.done c.finish-finished.ensures.already;
    }

pub returns-in-None-clause-done : goal.returns-in-None-clause-done
returns-in-None-clause-done g c = λ set changes is.
    let hub = c.args.hub.now in
    done_taken hub set changes c.works.pass c.take.new.pass (c.works.invariant.still set changes is) (rw c.in-None.is at c.in_ok-job.ensures.taken)
