use Rattle.std.proofs.Common.{◌≡◌, ◌^◌, ◌<◌, ◌∙◌, List, [], get_or, length, sym, ap, subst, arith}
use Rattle.cq_func.specs.declared.function.Function.{Function}
use Rattle.cq_answer.specs.Parts.{IsWithin}
use Rattle.cq_answer.specs.Rows.{functions_of, worst_of}
use Rattle.cq_answer.specs.Works.{works_in, facts_in, functions_in as lists_in}
use Rattle.cq_answer.proofs.Rows.{told_at, told_many}
use Rattle.cq_answer.proofs.functions.functions_in.Goals as goal

pub worst_of-worst-requires : goal.worst_of-worst-requires
worst_of-worst-requires g c =
    let files = c.args.files.now in
    let i = c.in-Alone.file in
    let inside : i < length files = subst (IsWithin (length files)) c.in-Alone.is c.requires.within in
    let here : get_or (lists_in (works_in files)) i [] ≡ c.functions_of-functions.result.now = told_at (λ f. f.body.functions.items) files i c.index-files-file.result [] inside c.index-files-file.is ∙ sym c.functions_of-functions.ensures in
    let many = told_many (λ f. f.body.functions.items) files in
    subst (λ (fs : List Function). length fs < 2 ^ 32) here (c.requires.few i [] (omega (arith, inside, many)))

pub returns-in_ok-all_copied-in-Alone-clause-functions : goal.returns-in_ok-all_copied-in-Alone-clause-functions
returns-in_ok-all_copied-in-Alone-clause-functions g c =
    let files = c.args.files.now in
    let i = c.in-Alone.file in
    let inside : i < length files = subst (IsWithin (length files)) c.in-Alone.is c.requires.within in
    let here : get_or (lists_in (works_in files)) i [] ≡ c.functions_of-functions.result.now = told_at (λ f. f.body.functions.items) files i c.index-files-file.result [] inside c.index-files-file.is ∙ sym c.functions_of-functions.ensures in
    c.from_vec.ensures ∙ c.in_ok-all_copied-in-Alone.ensures ∙ sym here ∙ ap (functions_of (facts_in (works_in files))) (sym c.in-Alone.is)

pub returns-in_ok-all_copied-in-Alone-clause-worst : goal.returns-in_ok-all_copied-in-Alone-clause-worst
returns-in_ok-all_copied-in-Alone-clause-worst g c =
    let files = c.args.files.now in
    let i = c.in-Alone.file in
    let inside : i < length files = subst (IsWithin (length files)) c.in-Alone.is c.requires.within in
    let here : get_or (lists_in (works_in files)) i [] ≡ c.functions_of-functions.result.now = told_at (λ f. f.body.functions.items) files i c.index-files-file.result [] inside c.index-files-file.is ∙ sym c.functions_of-functions.ensures in
    c.worst_of-worst.ensures ∙ ap worst_of (sym here ∙ ap (functions_of (facts_in (works_in files))) (sym c.in-Alone.is))
