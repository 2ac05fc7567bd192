use Rattle.std.proofs.Common.{◌+◌, ◌∙◌, ap, sym, drop}
use Rattle.std.proofs.lemmas.List.{at_drop_more}
use Rattle.clap.specs.Words.{app_of, with_rule}
use Rattle.cq_words.specs.Asked.{with_options, option_arg}
use Rattle.cq_words.proofs.asked.with_options.Goals as goal

pub loop-param-preserved : goal.loop-param-preserved
loop-param-preserved c =
    let app = app_of c.loop-param.command in
    let named = c.in_ok-command.ensures ∙ ap (λ n. with_rule app (option_arg n)) c.param_name.ensures in
    ap (λ a. with_options a (drop (c.loop-param.param-index + 1) c.args.params.now)) named
    ∙ sym (at_drop_more (λ ps. with_options app ps) c.args.params.now c.loop-param.param-index _ c.loop-param-test.true)
    ∙ c.loop-param.invariant
