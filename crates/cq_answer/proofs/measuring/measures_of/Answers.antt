use Rattle.std.proofs.Common.{◌≡◌, length, IfOk, sym, subst}
use Rattle.cq_answer.specs.Parts.{IsWithin}
use Rattle.cq_answer.specs.Rows.{measures_of}
use Rattle.cq_answer.specs.Works.{works_in, facts_in, chosen_in}
use Rattle.cq_answer.specs.declared.part.Part.{Part}
use Rattle.cq_answer.proofs.measuring.measures_of.Goals as goal

pub measures_of_file-requires-clause-within : goal.measures_of_file-requires-clause-within
measures_of_file-requires-clause-within g c = subst (IsWithin (length c.args.files.now)) c.in-File.is c.requires.within

pub returns-in-Whole : goal.returns-in-Whole
returns-in-Whole g c =
    let files = works_in c.args.files.now in
    subst (λ (p : Part). IfOk c.measures_of_whole.result (λ m. m ≡ measures_of (facts_in files) c.args.groups.now (chosen_in files c.args.query.now) p)) (sym c.in-Whole.is) c.measures_of_whole.ensures

pub returns-in-File : goal.returns-in-File
returns-in-File g c =
    let files = works_in c.args.files.now in
    subst (λ (p : Part). IfOk c.measures_of_file.result (λ m. m ≡ measures_of (facts_in files) c.args.groups.now (chosen_in files c.args.query.now) p)) (sym c.in-File.is) c.measures_of_file.ensures
