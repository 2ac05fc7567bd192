use Rattle.std.proofs.Common.{rules, ◌≡◌, ℕ, List, ◌∷◌, true, false, Some, map, string_cmp, string_bytes, sym, ap, ◌∙◌, subst}
use Rattle.std.specs.Prelude.{not, option_and_then}
use Rattle.std.specs.List.Sorted.{IsStrictlySortedBy}
use Rattle.std.specs.Map.{keys_of}
use Rattle.cq_request.specs.Members.{least_key}
use Rattle.cq_request.specs.Tables.{is_of_row}
use Rattle.cq_request.proofs.LeastKey.{least_in, least_in_keys, least_first, least_later, sorted_later}
use Rattle.cq_request.proofs.table.other_key.Goals as goal

pub loop-name-init : goal.loop-name-init
loop-name-init g c =
    let is_other = λ (key : List ℕ). not (is_of_row c.args.head.now (map g.F.Ruled.rule c.args.row.now) key) in
    let rest : c.into_iter-name-iterator.result ≡ keys_of c.in_ok-members.members.now.entries = search rules in
    (tt, tt, subst (IsStrictlySortedBy string_cmp) (sym rest) c.keys-name-items.ensures.ordered, ap (least_in is_other) rest ∙ sym (least_in_keys is_other c.in_ok-members.members.now.entries) ∙ ap (option_and_then (least_key is_other)) c.in_ok-members.ensures)

pub returns-then-not-is_of_row : goal.returns-then-not-is_of_row
returns-then-not-is_of_row g c =
    let is_other = λ (key : List ℕ). not (is_of_row c.args.head.now (map g.F.Ruled.rule c.args.row.now) key) in
    let left : c.loop-name.name-iterator ≡ c.in-Some.name.now ∷ c.next.new.self = search rules in
    let sorted : IsStrictlySortedBy string_cmp (c.in-Some.name.now ∷ c.next.new.self) = subst (IsStrictlySortedBy string_cmp) left c.loop-name.invariant.2 in
    let other : is_other (string_bytes c.in-Some.name.now) ≡ true = search rules in
    let found = least_first is_other c.in-Some.name.now c.next.new.self sorted other in
    ap Some c.as_str-then-not-is_of_row.ensures.value ∙ (sym found ∙ ap (least_in is_other) (sym left) ∙ c.loop-name.invariant.3)

pub loop-name-preserved : goal.loop-name-preserved
loop-name-preserved g c =
    let is_other = λ (key : List ℕ). not (is_of_row c.args.head.now (map g.F.Ruled.rule c.args.row.now) key) in
    let left : c.loop-name.name-iterator ≡ c.in-Some.name.now ∷ c.next.new.self = search rules in
    let sorted : IsStrictlySortedBy string_cmp (c.in-Some.name.now ∷ c.next.new.self) = subst (IsStrictlySortedBy string_cmp) left c.loop-name.invariant.2 in
    let known : is_other (string_bytes c.in-Some.name.now) ≡ false = search rules in
    (tt, tt, sorted_later c.in-Some.name.now c.next.new.self sorted, sym (least_later is_other c.in-Some.name.now c.next.new.self known) ∙ ap (least_in is_other) (sym left) ∙ c.loop-name.invariant.3)
