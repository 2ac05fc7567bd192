-- The conditions of a gate.
use Rattle.std.specs.Prelude.{◌&&◌, ◌==◌, ℕ, List, length, Bool, false, nat_le, if◌then◌else◌, Option, None, option_and_then, option_map, unwrap_or, is_some, codes}
use Rattle.std.specs.List.{list_all}
use Rattle.serde_json.specs.Data.{Data}
use Rattle.serde_json.specs.Find.{as_array}
use Rattle.cq_base.specs.declared.change.Compare.{Compare}
use Rattle.cq_base.specs.declared.change.Condition.{Condition}
use Rattle.cq_base.specs.declared.measures.Metric.{Metric}
use Rattle.cq_base.specs.Tables.{metric_named, compare_named}
use Rattle.cq_request.specs.Members.{member_count, text_at, number_at, items_in}

abbrev pub metric_at : Data → Option Metric
metric_at d = option_and_then metric_named (text_at (codes "metric") d)

abbrev pub compare_at : Data → Option Compare
compare_at d = option_and_then compare_named (text_at (codes "op") d)

abbrev pub condition_made : Metric → Compare → ℕ → Condition
condition_made m c n = record { metric = m; op = c; error = n }

-- an object with exactly the members metric, op and error
abbrev pub condition_of : Data → Option Condition
condition_of d =
    if member_count d == 3
    then option_and_then (λ m. option_and_then (λ c. option_map (condition_made m c) (number_at (codes "error") d)) (compare_at d)) (metric_at d)
    else None

-- a list of at most 32 conditions
abbrev pub are_conditions : List Data → Bool
are_conditions ds = nat_le (length ds) 32 && list_all (λ d. is_some (condition_of d)) ds

abbrev pub is_condition_list : Data → Bool
is_condition_list d = unwrap_or (option_map (λ ds. are_conditions (items_in ds)) (as_array d)) false
