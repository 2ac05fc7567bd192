use Rattle.std.proofs.Common.{ℕ, List, rules, refl, ap, sym, subst, subst₂, inl, inr}
use Rattle.cq_base.specs.declared.settings.Settings.{Settings}
use Rattle.cq_lines.proofs.Serving.{serves_as}
use Rattle.cq_tokfile.specs.declared.snapshot.Snapshot.{Snapshot}
use Rattle.cq_tokask.proofs.Coming.{on_err}
use Rattle.cq_tokask.proofs.Fronts.{framed_alone, none_behind_file, other_is_no_file, framed_is_no_file, told_of, of_known}
use Rattle.cq_tokask.specs.Kept.{BeginsWithNoFile}
use Rattle.cq_lines.specs.Held.{Held}
use Rattle.cq_lines.specs.Serving.{HasEndCause, Serves}
use Rattle.cq_reply.specs.Written.{line_of}
use Rattle.cq_tokask.specs.Asked.{AnswersLines}
use Rattle.cq_tokfile.specs.Snapshot.{IsTokenFile}
use Rattle.cq_tokask.proofs.kept.ask.Goals as goal

pub returns-in-Failed-clause-asks : goal.returns-in-Failed-clause-asks
returns-in-Failed-clause-asks g c =
    let failed = rw c.in-Failed.is at c.in_ok-bytes.ensures.takes in
    inl (record {
      ended = refl;
      got = failed.0.0;
      taken = failed.0.1;
      unfinished = other_is_no_file c.args.keyer.now.settings failed.0.0 failed.0.2;
      rose = failed.1;
      unwritten = refl;
    })

pub returns-in-Other-clause-asks : goal.returns-in-Other-clause-asks
returns-in-Other-clause-asks g c =
    let other = rw c.in-Other.is at c.in_ok-bytes.ensures.takes in
    (of_known (g.S.Source.rest c.args.source.now) _ _ (other_is_no_file c.args.keyer.now.settings) other.0, other.1, refl)

pub serve_lines-end-requires-clause-ready : goal.serve_lines-end-requires-clause-ready
serve_lines-end-requires-clause-ready g c =
    let is = rw c.in-Some.is at c.in_ok-found.ensures in
    (search rules, c.requires.in_range, is.sound, c.in_ok-loaded.ensures.of)

pub returns-in_default-clause-asks : goal.returns-in_default-clause-asks
returns-in_default-clause-asks g c =
    let taken = rw c.in-Framed.is at c.in_ok-bytes.ensures.takes in
    let none = rw c.in_default.is at c.in_ok-found.ensures in (
      told_of (BeginsWithNoFile g.row.L.Denot g.S.Source g.K.Sink c.args.keyer.now.settings) _ _ c.in-Framed.bytes.items taken.1
          (λ left. framed_is_no_file c.args.keyer.now.settings c.in-Framed.bytes.items left taken.0 (λ s is. none s (subst (IsTokenFile c.args.keyer.now.settings s) (sym c.deref.ensures.value) is))),
      taken.2,
      refl,
    )

pub returns-clause-asks : goal.returns-clause-asks
returns-clause-asks g c =
    let taken = rw c.in-Framed.is at c.in_ok-bytes.ensures.takes in
    let is = rw c.in-Some.is at c.in_ok-found.ensures in
    let serves = serves_as line_of _ (AnswersLines c.in-Some.snapshot c.args.keyer.now.settings) (λ lines replies is. subst₂ (λ (s : Snapshot g.row.L.Denot) (set : Settings). AnswersLines s set lines replies) is.1 is.2 is.0) _ _ _ _ _ _
    (c.serve_lines-end.ensures.served tt (tt, refl, refl)) in
    inr (
      record {
        snapshot = c.in-Some.snapshot;
        file = c.in-Framed.bytes.items;
        is_file = subst (λ (bytes : List ℕ). IsTokenFile c.args.keyer.now.settings c.in-Some.snapshot bytes) c.deref.ensures.value is;
        behind = g.S.Source.rest c.take_front.new.source;
        taken = taken.1;
        serves = subst (λ (n : ℕ). Serves line_of (AnswersLines c.in-Some.snapshot c.args.keyer.now.settings) n (g.S.Source.rest c.take_front.new.source) (g.S.Source.rest c.serve_lines-end.new.source) (g.K.Sink.written c.args.sink.now) (g.K.Sink.written c.serve_lines-end.new.sink) c.serve_lines-end.result) (ap (λ (h : Held). h.limit) c.in_ok-lines.ensures) serves;
      },
      subst (λ (n : ℕ). HasEndCause n (g.S.Source.faults c.serve_lines-end.new.source) (g.K.Sink.faults c.args.sink.now) (g.K.Sink.faults c.serve_lines-end.new.sink) c.serve_lines-end.result) taken.2 c.serve_lines-end.ensures.cause,
    )

pub returns-in_err-bytes-clause-no_line : goal.returns-in_err-bytes-clause-no_line
returns-in_err-bytes-clause-no_line g c =
    let (got, taken, none) = c.in_err-bytes.ensures.none_behind in
    on_err c.from_residual.result (record { got = got; taken = taken; none_behind = none_behind_file c.args.keyer.now.settings got none })

pub returns-in_err-found-clause-no_line : goal.returns-in_err-found-clause-no_line
returns-in_err-found-clause-no_line g c =
    let taken = rw c.in-Framed.is at c.in_ok-bytes.ensures.takes in
    let bytes = c.in-Framed.bytes.items in
    on_err c.from_residual-in_err-found.result (record { got = bytes; taken = taken.1; none_behind = none_behind_file c.args.keyer.now.settings bytes (framed_alone bytes taken.0) })

pub returns-in_err-loaded-clause-no_line : goal.returns-in_err-loaded-clause-no_line
returns-in_err-loaded-clause-no_line g c =
    let taken = rw c.in-Framed.is at c.in_ok-bytes.ensures.takes in
    let bytes = c.in-Framed.bytes.items in
    on_err c.from_residual-in_err-loaded.result (record { got = bytes; taken = taken.1; none_behind = none_behind_file c.args.keyer.now.settings bytes (framed_alone bytes taken.0) })

pub returns-in_err-lines-clause-no_line : goal.returns-in_err-lines-clause-no_line
returns-in_err-lines-clause-no_line g c =
    let taken = rw c.in-Framed.is at c.in_ok-bytes.ensures.takes in
    let bytes = c.in-Framed.bytes.items in
    on_err c.from_residual-in_err-lines.result (record { got = bytes; taken = taken.1; none_behind = none_behind_file c.args.keyer.now.settings bytes (framed_alone bytes taken.0) })
