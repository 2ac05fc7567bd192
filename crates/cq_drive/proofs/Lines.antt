-- The lines of outcomes.
use Rattle.std.proofs.Common.{◌≡◌, ℕ, false, List, [], ◌∷◌, ◌++◌, map, refl, sym, ap, append_assoc}
use Rattle.std.specs.Prelude.{codes, decimal}
use Rattle.std.specs.Fmt.{digits}
use Rattle.serde_json.proofs.OnLiterals.{serde_json_on_literals}
use Rattle.serde_json.specs.View.{items_of}
use Rattle.serde_json.specs.Written.{has_float, items_have_float}
use Rattle.cq_base.specs.declared.entry.Entry.{Entry}
use Rattle.cq_drive.specs.Outcomes.{entry_data, read_data, line_of}
use Rattle.cq_drive.specs.declared.outcome.ScriptOutcome.TheVariants as outcome

pub done_line : codes "{\"ok\":true}\n" ≡ line_of outcome.Done
unfolding serde_json_on_literals digits
done_line = refl

pub value_line : (n : ℕ) → codes "{\"ok\":true,\"value\":" ++ decimal n ++ codes "}\n" ≡ line_of (outcome.Value n)
unfolding serde_json_on_literals
value_line n = ap (λ t. codes "{\"ok\":true,\"value\":" ++ t) (sym (append_assoc (decimal n) (codes "}") (10 ∷ [])))

pub no_job_line : codes "{\"ok\":true,\"value\":null}\n" ≡ line_of outcome.NoJob
unfolding serde_json_on_literals digits
no_job_line = refl

pub no_line : codes "{\"ok\":false}\n" ≡ line_of outcome.No
unfolding serde_json_on_literals digits
no_line = refl

entries_no_float : (entries : List Entry) → items_have_float (items_of (map entry_data entries)) ≡ false
entries_no_float [] = refl
entries_no_float (e ∷ entries) = entries_no_float entries

-- entries have no float
pub read_no_float : (entries : List Entry) → has_float (read_data entries) ≡ false
read_no_float entries = rw (entries_no_float entries) refl
