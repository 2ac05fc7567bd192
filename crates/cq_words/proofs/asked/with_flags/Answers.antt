use Rattle.std.proofs.Common.{◌+◌, ◌∙◌, ap, sym, drop}
use Rattle.std.proofs.lemmas.List.{at_drop_more}
use Rattle.clap.specs.Words.{app_of, with_rule}
use Rattle.cq_words.specs.Asked.{with_flags, flag_arg}
use Rattle.cq_words.proofs.asked.with_flags.Goals as goal

pub loop-flag-preserved : goal.loop-flag-preserved
loop-flag-preserved c =
    let app = app_of c.loop-flag.command in
    let named = c.in_ok-command.ensures ∙ ap (λ n. with_rule app (flag_arg n)) c.flag_name.ensures in
    ap (λ a. with_flags a (drop (c.loop-flag.flag-index + 1) c.args.flags.now)) named
    ∙ sym (at_drop_more (λ ps. with_flags app ps) c.args.flags.now c.loop-flag.flag-index _ c.loop-flag-test.true)
    ∙ c.loop-flag.invariant
