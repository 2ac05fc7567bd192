use Rattle.std.proofs.Common.{◌∙◌, List, ◌++◌, ap}
use Rattle.cq_base.specs.declared.change.Condition.{Condition}
use Rattle.cq_tokform.specs.Spelling.{head, counted, condition, file}
use Rattle.cq_tokfile.specs.Snapshot.{contents_of}
use Rattle.cq_tokform.proofs.Appended.{three}
use Rattle.cq_tokfile.proofs.Written.{each_has_tokens, spelled_files}
use Rattle.cq_tokfile.proofs.encoding.put_body.Goals as goal

pub put_head_of-requires : goal.put_head_of-requires
put_head_of-requires g c = c.requires.contents.head.project.short

pub put_all-requires-clause-spelled : goal.put_all-requires-clause-spelled
put_all-requires-clause-spelled g c = spelled_files c.args.settings.now c.args.snapshot.now.version c.args.snapshot.now.files c.requires.contents.files

pub put_all-requires-clause-parts : goal.put_all-requires-clause-parts
put_all-requires-clause-parts g c = each_has_tokens c.args.settings.now c.args.snapshot.now.files c.requires.parts

pub returns : goal.returns
returns g c =
    let k = contents_of c.args.snapshot.now in
    three _ _ _ _ (head c.args.settings.now k.head) (counted condition k.conditions) (counted file k.files)
    c.in_ok-put_head_of.ensures.written
    (c.in_ok-put_conditions.ensures.written ∙ ap (λ (cs : List Condition). c.put_head_of.new.out.items ++ counted condition cs) c.as_slice.ensures.value)
    c.in_ok-put_all.ensures
