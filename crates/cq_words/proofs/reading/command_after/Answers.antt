use Rattle.std.proofs.Common.{◌≡◌, ◌∙◌, ap, sym, List, Option, Some, None, cond}
use Rattle.std.specs.Prelude.{option_map}
use Rattle.std.specs.List.{list_all}
use Rattle.std.proofs.lemmas.Result.{IfOk-weaker}
use Rattle.clap.specs.Walk.{Row as Entry, texts}
use Rattle.clap.specs.Words.{app_of, fault_of, found_of, is_simple_and_free, matches_of, rows_of}
use Rattle.clap.specs.declared.parser.matches.ArgMatches.{ArgMatches}
use Rattle.cq_words.specs.Asked.{is_asked, when}
use Rattle.cq_words.proofs.Exact.{handed_none, handed_some}
use Rattle.cq_words.proofs.CommandExact.{answered, is_simple, refused}
use Rattle.cq_words.proofs.reading.command_after.Goals as goal

abbrev entries : Option ArgMatches → Option (List Entry)
entries = option_map (λ m. rows_of (found_of m))

pub matches_in-requires : goal.matches_in-requires
matches_in-requires c = ap is_simple_and_free c.in_ok-command.ensures ∙ is_simple c.args.verb

pub returns-in_default-clause-command : goal.returns-in_default-clause-command
returns-in_default-clause-command c =
    let words = c.args.words.now in
    let none : None ≡ cond (list_all is_asked words) (Some words) None = rw c.in_default.is at c.in_ok-texts.ensures in
    sym (refused c.args.verb words (handed_none (list_all is_asked words) words none))

pub returns-in_default-2-clause-command : goal.returns-in_default-2-clause-command
returns-in_default-2-clause-command c =
    let words = c.args.words.now in
    let some : Some (texts c.in-Some.texts.items) ≡ cond (list_all is_asked words) (Some words) None = rw c.in-Some.is at c.in_ok-texts.ensures in
    let handed = handed_some (list_all is_asked words) words (texts c.in-Some.texts.items) some in
    let same : texts c.as_slice.result.now ≡ words = ap texts c.as_slice.ensures.value ∙ handed.1 in
    let found : None ≡ when (fault_of (app_of c.in_ok-command.command) (texts c.as_slice.result.now)) (Some (matches_of (app_of c.in_ok-command.command) (texts c.as_slice.result.now))) =
    sym (ap entries c.in_default-2.is) ∙ c.in_ok-matches.ensures in
    answered c.args.verb (app_of c.in_ok-command.command) (texts c.as_slice.result.now) words None c.in_ok-command.ensures handed.0 same found

pub returns-clause-command : goal.returns-clause-command
returns-clause-command c =
    let words = c.args.words.now in
    let some : Some (texts c.in-Some.texts.items) ≡ cond (list_all is_asked words) (Some words) None = rw c.in-Some.is at c.in_ok-texts.ensures in
    let handed = handed_some (list_all is_asked words) words (texts c.in-Some.texts.items) some in
    let same : texts c.as_slice.result.now ≡ words = ap texts c.as_slice.ensures.value ∙ handed.1 in
    let rows : List Entry = rows_of (found_of c.in-Some-2.matches) in
    let found : Some rows ≡ when (fault_of (app_of c.in_ok-command.command) (texts c.as_slice.result.now)) (Some (matches_of (app_of c.in_ok-command.command) (texts c.as_slice.result.now))) =
    sym (ap entries c.in-Some-2.is) ∙ c.in_ok-matches.ensures in
    IfOk-weaker c.command_read.result _ _ (λ _ is. is ∙ answered c.args.verb (app_of c.in_ok-command.command) (texts c.as_slice.result.now) words (Some rows) c.in_ok-command.ensures handed.0 same found) c.command_read.ensures.command
