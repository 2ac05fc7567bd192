use Rattle.std.proofs.Common.{rules, ◌≡◌, sym, subst}
use Rattle.cq_base.specs.declared.settings.Settings.{Settings}
use Rattle.cq_words.specs.declared.command.Export.{Export}
use Rattle.cq_words.specs.declared.command.Listen.{Listen}
use Rattle.cq_words.specs.declared.command.Make.{Make}
use Rattle.cq_program.specs.Top.{AsksFile, Drives, ExportsFile, IsMade, Logs, ShortensLog}
use Rattle.cq_program.proofs.Ended.{unread}
use Rattle.cq_program.proofs.Kept.{no_line_taken}
use Rattle.cq_program.proofs.program.top.Goals as goal

pub returns-in-Ok-Some-Drive-clause-drives : goal.returns-in-Ok-Some-Drive-clause-drives
returns-in-Ok-Some-Drive-clause-drives g c = λ settings is.
    let same : settings ≡ c.in-Ok-Some-Drive.settings = search rules in
    subst (λ (x : Settings). Drives g.S.Source g.K.Sink x c.args.source.now c.driven.new.source c.args.sink.now c.driven.new.sink c.driven.result) (sym same) c.driven.ensures.drives

pub returns-in-Ok-Some-Export-clause-exports : goal.returns-in-Ok-Some-Export-clause-exports
returns-in-Ok-Some-Export-clause-exports g c = λ asked is.
    let same : asked ≡ c.in-Ok-Some-Export.asked = search rules in
    subst (λ (x : Export). ExportsFile g.row.L.Denot g.S.Source g.K.Sink x c.args.source.now c.exported.new.source c.args.sink.now c.exported.new.sink c.exported.result) (sym same) c.exported.ensures.exports

pub returns-in-Ok-Some-Ask-clause-asks : goal.returns-in-Ok-Some-Ask-clause-asks
returns-in-Ok-Some-Ask-clause-asks g c = λ settings is.
    let same : settings ≡ c.in-Ok-Some-Ask.settings = search rules in
    subst (λ (x : Settings). AsksFile g.row.L.Denot g.S.Source g.K.Sink x c.args.source.now c.kept.new.source c.args.sink.now c.kept.new.sink c.kept.result) (sym same) c.kept.ensures.asks

pub returns-in-Ok-Some-Make-clause-makes : goal.returns-in-Ok-Some-Make-clause-makes
returns-in-Ok-Some-Make-clause-makes g c = λ asked is other.
    let same : asked ≡ c.in-Ok-Some-Make.asked = search rules in
    subst (λ (m : Make). IsMade m.number m.files (g.K.Sink.written c.args.sink.now) (g.K.Sink.written c.made.new.sink) (g.K.Sink.faults c.args.sink.now) (g.K.Sink.faults c.made.new.sink) c.made.result) (sym same) (c.made.ensures.makes other)

pub returns-in-Ok-Some-Make-clause-ends : goal.returns-in-Ok-Some-Make-clause-ends
returns-in-Ok-Some-Make-clause-ends g c = λ some none. unread g.S.Source g.K.Sink c.args.source.now c.args.sink.now c.made.new.sink c.made.result c.made.ensures.ends

pub returns-in-Err-clause-no_line : goal.returns-in-Err-clause-no_line
returns-in-Err-clause-no_line g c = λ settings is four. no_line_taken g.row.L.Denot g.S.Source settings c.args.source.now

pub returns-in-Ok-Some-Serve-clause-logs : goal.returns-in-Ok-Some-Serve-clause-logs
returns-in-Ok-Some-Serve-clause-logs g c = λ asked is.
    let same : asked ≡ c.in-Ok-Some-Serve.asked = search rules in
    subst (λ (x : Listen). Logs g.S.Source g.K.Sink x.settings c.args.source.now c.serve_logged.new.source c.args.sink.now c.serve_logged.new.sink c.serve_logged.result.status) (sym same) c.serve_logged.ensures.logs

pub returns-in-Ok-Some-Shorten-clause-shortens : goal.returns-in-Ok-Some-Shorten-clause-shortens
returns-in-Ok-Some-Shorten-clause-shortens g c = λ settings is.
    let same : settings ≡ c.in-Ok-Some-Shorten.settings = search rules in
    subst (λ (x : Settings). ShortensLog g.S.Source g.K.Sink x c.args.source.now c.shortened.new.source c.args.sink.now c.shortened.new.sink c.shortened.result) (sym same) c.shortened.ensures.shortens
