use Rattle.std.proofs.Common.{◌≡◌, ◌∙◌, ◌&&◌, Bool, true, List, map, sym, ap}
use Rattle.std.proofs.lemmas.Result.{IfOk-weaker}
use Rattle.cq_tokform.specs.declared.file.FileRecord.{FileRecord}
use Rattle.cq_tokform.specs.Spelling.{listed, recorded}
use Rattle.cq_tokform.specs.Sound.{are_apart, changes_in, has_form, is_sound_contents}
use Rattle.cq_tokform.proofs.contents.is_sound.Goals as goal

pub returns-then-not-has_form : goal.returns-then-not-has_form
returns-then-not-has_form c =
    let files = (listed c.args.contents.now).files in
    sym (ap (λ (b : Bool). b && are_apart (changes_in files)) (sym c.has_form.ensures ∙ c.if-not-has_form.true))

pub returns : goal.returns
returns c =
    let files = (listed c.args.contents.now).files in
    let yes : has_form (listed c.args.contents.now) ≡ true = sym c.has_form.ensures ∙ c.if-not-has_form.false in
    IfOk-weaker c.are_apart.result (λ (b : Bool). b ≡ are_apart (changes_in (map recorded c.as_slice.result.now))) (λ (b : Bool). b ≡ is_sound_contents (listed c.args.contents.now))
    (λ b is.
    is
    ∙ ap (λ (fs : List FileRecord). are_apart (changes_in (map recorded fs))) c.as_slice.ensures.value
    ∙ sym (ap (λ (h : Bool). h && are_apart (changes_in files)) yes))
    c.are_apart.ensures
