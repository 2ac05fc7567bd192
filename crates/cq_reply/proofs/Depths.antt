-- A reply nests no deeper than the reader goes.
use Rattle.std.proofs.Common.{ℕ, ◌≤◌, List, [], ◌∷◌, map, Option, Some, None, arith}
use Rattle.serde_json.specs.Data.{Data, depth, items_depth}
use Rattle.serde_json.specs.Read.{max_depth}
use Rattle.serde_json.specs.View.{items_of}
use Rattle.cq_base.specs.Refusals.{refusal_code, refusal_word, refusal_name, refusal_count}
use Rattle.cq_measures.specs.declared.outcome.Verdict.{Verdict}
use Rattle.cq_measures.specs.declared.outcome.Verdict.TheVariants as verdict
use Rattle.cq_reply.specs.declared.reply.GroupRow.{GroupRow}
use Rattle.cq_reply.specs.declared.reply.FileRow.{FileRow}
use Rattle.cq_reply.specs.declared.reply.Shown.{Shown}
use Rattle.cq_reply.specs.declared.reply.Shown.TheVariants as shown
use Rattle.cq_reply.specs.declared.reply.Reply.{Reply}
use Rattle.cq_reply.specs.declared.reply.Reply.TheVariants as reply
use Rattle.cq_reply.specs.Written.{shown_data, file_data, place_data, group_data, count, verdict_data, function_data, position_data, refusal_data, reply_data}

-- a list whose values nest no deeper than n
rows_depth : {X : Type 0} (n : ℕ) (data_of : X → Data) (rows : List X) → ((x : X) → depth (data_of x) ≤ n) → items_depth (items_of (map data_of rows)) ≤ n
rows_depth n data_of [] each = omega arith
rows_depth n data_of (x ∷ rows) each = let first = each x in let later = rows_depth n data_of rows each in omega (arith, first, later)

group_depth : (g : GroupRow) → depth (group_data g) ≤ 3
group_depth g = let places = rows_depth 1 place_data g.places (λ p. omega arith) in omega (arith, places)

shown_depth : (row : FileRow) (s : Shown) → depth (shown_data row s) ≤ 1
shown_depth row shown.Ok = omega arith
shown_depth row (shown.Fault at) = omega arith
shown_depth row shown.Large = omega arith

verdict_depth : (v : Verdict) (version : ℕ) → depth (verdict_data v version) ≤ 3
verdict_depth verdict.Ok version = omega arith
verdict_depth (verdict.Error failed) version = let positions = rows_depth 1 count failed (λ n. omega arith) in omega (arith, positions)

position_depth : (o : Option ℕ) → depth (position_data o) ≤ 0
position_depth None = omega arith
position_depth (Some n) = omega arith

refusal_depth : (code : ℕ) (word : List ℕ) (name : Option (List ℕ)) (n : Option ℕ) → depth (refusal_data code word name n) ≤ 1
refusal_depth code word (Some name) n = omega arith
refusal_depth code word None (Some n) = omega arith
refusal_depth code word None None = omega arith

pub reply_depth : (r : Reply) → depth (reply_data r) ≤ max_depth
reply_depth (reply.Change n) = omega arith
reply_depth (reply.Files files version) = let rows = rows_depth 1 file_data files (λ row. shown_depth row row.shown) in omega (arith, rows)
reply_depth (reply.Groups groups version) = let rows = rows_depth 3 group_data groups group_depth in omega (arith, rows)
reply_depth (reply.Measures measures version) = omega arith
reply_depth (reply.Verdict verdict version) = let depth_of = verdict_depth verdict version in omega (arith, depth_of)
reply_depth (reply.Functions functions version worst) = let rows = rows_depth 1 function_data functions (λ f. omega arith) in let position = position_depth worst in omega (arith, rows, position)
reply_depth (reply.State accepted done published) = omega arith
reply_depth (reply.Refused why) = let depth_of = refusal_depth (refusal_code why) (refusal_word why) (refusal_name why) (refusal_count why) in omega (arith, depth_of)
reply_depth (reply.Pending n) = omega arith
reply_depth reply.Long = omega arith
reply_depth reply.Memory = omega arith
