use Rattle.std.proofs.Common.{refl}
use Rattle.cq_words.specs.Form.{AreReadInForm}
use Rattle.cq_words.specs.Table.{row_of}
use Rattle.cq_words.specs.declared.table.Verb.{Verb}
use Rattle.cq_words.specs.declared.table.Verb.TheVariants as verb
use Rattle.cq_words.proofs.FormLaws.{in_form_read, read_in_form}
use Rattle.cq_words.proofs.laws.words_in_form.Goals as goal

both : (v : Verb) → AreReadInForm (row_of v)
both verb.Run words items = (read_in_form (row_of verb.Run) refl words items, in_form_read (row_of verb.Run) refl words items)
both verb.Listen words items = (read_in_form (row_of verb.Listen) refl words items, in_form_read (row_of verb.Listen) refl words items)
both verb.Serve words items = (read_in_form (row_of verb.Serve) refl words items, in_form_read (row_of verb.Serve) refl words items)
both verb.Drive words items = (read_in_form (row_of verb.Drive) refl words items, in_form_read (row_of verb.Drive) refl words items)
both verb.Make words items = (read_in_form (row_of verb.Make) refl words items, in_form_read (row_of verb.Make) refl words items)
both verb.Export words items = (read_in_form (row_of verb.Export) refl words items, in_form_read (row_of verb.Export) refl words items)
both verb.Ask words items = (read_in_form (row_of verb.Ask) refl words items, in_form_read (row_of verb.Ask) refl words items)
both verb.Shorten words items = (read_in_form (row_of verb.Shorten) refl words items, in_form_read (row_of verb.Shorten) refl words items)

pub returns : goal.returns
returns c = both
