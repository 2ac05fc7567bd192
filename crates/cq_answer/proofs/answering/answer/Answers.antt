use Rattle.std.proofs.Common.{◌≤◌, List, length, sym, ap, ◌∙◌, subst, arith}
use Rattle.std.proofs.lemmas.List.{length-map}
use Rattle.std.proofs.lemmas.Result.{IfOk-weaker}
use Rattle.cq_groups.proofs.KeyLists.{on_ok}
use Rattle.cq_history.specs.Files.{File}
use Rattle.cq_work.specs.declared.work.Work.{Work}
use Rattle.cq_answer.specs.Parts.{AreGroupsOf, IsWithin}
use Rattle.cq_answer.specs.Reply.{reply_of}
use Rattle.cq_answer.specs.Rows.{AreShowable, AreFewFunctions}
use Rattle.cq_answer.specs.Works.{work_in, facts_in, norms_in, chosen_in, AreNumbered}
use Rattle.cq_answer.proofs.Listable.{measurable_given, reply_given, replied, keys_asked, most_read, texts_given}
use Rattle.cq_answer.proofs.answering.answer.Goals as goal

-- as many owners as files
pub reply_of-requires-clause-within : goal.reply_of-requires-clause-within
reply_of-requires-clause-within g c κs lives =
    subst (λ n. IsWithin n c.part_of-part.result) (sym (ap length c.items-items.ensures.files) ∙ length-map c.items-items.result.now work_in) c.part_of-part.ensures.within

pub groups_of-requires-clause-listable : goal.groups_of-requires-clause-listable
groups_of-requires-clause-listable g c = c.requires.given.listable

pub returns-in_err-groups-clause-asked_most : goal.returns-in_err-groups-clause-asked_most
returns-in_err-groups-clause-asked_most g c = λ ks on.
    c.groups_of.ensures.asked_most ks (keys_asked c.args.at.now.settings.now on.changes c.args.at.now.version c.args.query.now c.args.at.now.files.now c.part_of-part.result ks on.files_are c.part_of-part.ensures.part on.asked)

pub returns-in_err-groups-clause-reads : goal.returns-in_err-groups-clause-reads
returns-in_err-groups-clause-reads g c = λ n on.
    c.groups_of.ensures.reads n (most_read c.args.at.now.settings.now on.changes c.args.at.now.version c.args.query.now c.args.at.now.files.now c.part_of-part.result n on.files_are c.part_of-part.ensures.part on.most)

pub reply_of-requires-clause-few : goal.reply_of-requires-clause-few
reply_of-requires-clause-few g c κs lives = c.requires.given.few_conditions

pub reply_of-requires-clause-measurable : goal.reply_of-requires-clause-measurable
reply_of-requires-clause-measurable g c κs lives =
    let some : 1 ≤ c.args.query.now.min = omega (arith, c.requires.settings.chunk, c.requires.long) in
    let groups : AreGroupsOf (norms_in c.args.at.now.files.now) c.args.query.now.min c.part_of-part.result c.deref.result.now = subst (λ gs. AreGroupsOf (norms_in c.args.at.now.files.now) c.args.query.now.min c.part_of-part.result gs) (sym c.deref.ensures.value) c.in_ok-groups.ensures.groups in
    subst (λ (fs : List (File (Work g.row.L.Denot))). AreShowable (facts_in fs) c.deref.result.now) (sym c.items-items.ensures.files)
    (measurable_given c.args.at.now.settings.now c.args.at.now.files.now c.args.at.now.conditions.now c.requires.given c.args.query.now.min c.part_of-part.result c.deref.result.now some groups)

pub reply_of-requires-clause-scope : goal.reply_of-requires-clause-scope
reply_of-requires-clause-scope g c κs lives = c.requires.scope.0

pub reply_of-requires-clause-numbered : goal.reply_of-requires-clause-numbered
reply_of-requires-clause-numbered g c κs lives =
    subst (λ (fs : List (File (Work g.row.L.Denot))). AreNumbered fs) (sym c.items-items.ensures.files) c.requires.given.numbered

pub reply_of-requires-clause-few_functions : goal.reply_of-requires-clause-few_functions
reply_of-requires-clause-few_functions g c κs lives =
    subst (λ (fs : List (File (Work g.row.L.Denot))). AreFewFunctions (facts_in fs)) (sym c.items-items.ensures.files) c.requires.given.few_functions

pub returns-clause-given : goal.returns-clause-given
returns-clause-given g c =
    let groups : AreGroupsOf (norms_in c.args.at.now.files.now) c.args.query.now.min c.part_of-part.result c.deref.result.now = subst (λ gs. AreGroupsOf (norms_in c.args.at.now.files.now) c.args.query.now.min c.part_of-part.result gs) (sym c.deref.ensures.value) c.in_ok-groups.ensures.groups in
    IfOk-weaker c.reply_of.result _ _ (λ r is.
    reply_given c.args.at.now.files.now c.args.at.now.conditions.now c.args.query.now c.args.at.now.version c.part_of-part.result c.deref.result.now r c.part_of-part.ensures.part groups (is ∙ ap (λ (fs : List (File (Work g.row.L.Denot))). reply_of (facts_in fs) c.args.at.now.conditions.now c.args.at.now.version c.args.query.now.kind c.part_of-part.result (chosen_in fs c.args.query.now) c.deref.result.now) c.items-items.ensures.files)) c.reply_of.ensures

pub returns-clause-reply : goal.returns-clause-reply
returns-clause-reply g c =
    let groups : AreGroupsOf (norms_in c.args.at.now.files.now) c.args.query.now.min c.part_of-part.result c.deref.result.now = subst (λ gs. AreGroupsOf (norms_in c.args.at.now.files.now) c.args.query.now.min c.part_of-part.result gs) (sym c.deref.ensures.value) c.in_ok-groups.ensures.groups in
    IfOk-weaker c.reply_of.result _ _ (λ r is changes are.
    replied c.args.at.now.settings.now changes c.args.at.now.version c.args.query.now c.args.at.now.files.now c.args.at.now.conditions.now c.part_of-part.result c.deref.result.now r are c.part_of-part.ensures.part groups (is ∙ ap (λ (fs : List (File (Work g.row.L.Denot))). reply_of (facts_in fs) c.args.at.now.conditions.now c.args.at.now.version c.args.query.now.kind c.part_of-part.result (chosen_in fs c.args.query.now) c.deref.result.now) c.items-items.ensures.files)) c.reply_of.ensures

pub returns-clause-texts : goal.returns-clause-texts
returns-clause-texts g c =
    let some : 1 ≤ c.args.query.now.min = omega (arith, c.requires.settings.chunk, c.requires.long) in
    let groups : AreGroupsOf (norms_in c.args.at.now.files.now) c.args.query.now.min c.part_of-part.result c.deref.result.now = subst (λ gs. AreGroupsOf (norms_in c.args.at.now.files.now) c.args.query.now.min c.part_of-part.result gs) (sym c.deref.ensures.value) c.in_ok-groups.ensures.groups in
    IfOk-weaker c.reply_of.result _ _ (λ r is.
    texts_given c.args.at.now.settings.now c.args.at.now.files.now c.args.at.now.conditions.now c.requires.given c.args.at.now.version c.args.query.now.kind c.args.query.now.min c.part_of-part.result (chosen_in c.args.at.now.files.now c.args.query.now) c.deref.result.now r some groups (is ∙ ap (λ (fs : List (File (Work g.row.L.Denot))). reply_of (facts_in fs) c.args.at.now.conditions.now c.args.at.now.version c.args.query.now.kind c.part_of-part.result (chosen_in fs c.args.query.now) c.deref.result.now) c.items-items.ensures.files)) c.reply_of.ensures

pub returns-clause-asked : goal.returns-clause-asked
returns-clause-asked g c =
    on_ok c.reply_of.result (λ ks on. c.in_ok-groups.ensures.asked ks (keys_asked c.args.at.now.settings.now on.changes c.args.at.now.version c.args.query.now c.args.at.now.files.now c.part_of-part.result ks on.files_are c.part_of-part.ensures.part on.asked))

pub returns-clause-asked_most : goal.returns-clause-asked_most
returns-clause-asked_most g c = λ ks on.
    c.groups_of.ensures.asked_most ks (keys_asked c.args.at.now.settings.now on.changes c.args.at.now.version c.args.query.now c.args.at.now.files.now c.part_of-part.result ks on.files_are c.part_of-part.ensures.part on.asked)

pub returns-clause-reads : goal.returns-clause-reads
returns-clause-reads g c = λ n on.
    c.groups_of.ensures.reads n (most_read c.args.at.now.settings.now on.changes c.args.at.now.version c.args.query.now c.args.at.now.files.now c.part_of-part.result n on.files_are c.part_of-part.ensures.part on.most)
