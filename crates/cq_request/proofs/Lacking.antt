-- What an object lacks in which no other key was found, and the path of each kind of query.
use Rattle.std.proofs.Common.{◌≡◌, ℕ, List, Bool, true, false, cond, Option, Some, None, Ordering, Less, Equal, Greater, nat_cmp, refl, sym, ap, ◌∙◌}
use Rattle.std.specs.Prelude.{not, option_and_then, codes}
use Rattle.std.specs.Ordering.{match_ordering}
use Rattle.std.specs.Cmp.Lexicographic.{slice_cmp}
use Rattle.std.proofs.lemmas.Map.Lookups.{exact_bytes}
use Rattle.serde_json.specs.Data.{Data, Members, no_members, member}
use Rattle.serde_json.specs.Find.{get, get_member, as_object, as_str}
use Rattle.cq_request.specs.declared.request.Kind.{Kind}
use Rattle.cq_request.specs.declared.request.Kind.TheVariants as kind
use Rattle.cq_request.specs.Members.{least_key, lesser, text_at}
use Rattle.cq_request.specs.Tables.{Rule, is_of_row, bad_field, other_key}
use Rattle.cq_request.specs.Rows.{rules_of, fault_of}
use Rattle.cq_request.specs.Sound.{IsPathOf}
use Rattle.cq_request.specs.Reading.{value_refused, why_refused, op_asking}
use Rattle.cq_request.proofs.Listed.{get_of_object}
use Rattle.cq_request.proofs.Passing.{none_named, second_none, path_there}

not_here : (b : Bool) (k : List ℕ) (o : Option (List ℕ)) → cond b (Some k) o ≡ None → (b ≡ false) × (o ≡ None)
not_here true k o none = absurd (cc)
not_here false k o none = (refl, none)

beside : (passes : List ℕ → Bool) (k l : List ℕ) (o : Ordering) (e : Data) (later : Option Data) → slice_cmp nat_cmp k l ≡ o → passes k ≡ true → passes l ≡ false → later ≡ None → match_ordering o later (Some e) later ≡ None
beside passes k l Less e later is here there none = none
beside passes k l Equal e later is here there none = let same : true ≡ false = sym here ∙ ap passes (exact_bytes k l is) ∙ there in absurd (cc)
beside passes k l Greater e later is here there none = none

no_key : (passes : List ℕ → Bool) (k : List ℕ) (ms : Members) → least_key passes ms ≡ None → passes k ≡ true → get_member k ms ≡ None
no_key passes k no_members none is = refl
no_key passes k (member l e ms) none is =
    let parts = not_here (passes l) (lesser l (least_key passes ms)) (least_key passes ms) none in
    beside passes k l (slice_cmp nat_cmp k l) e (get_member k ms) refl is parts.0 (no_key passes k ms parts.1 is)

in_object : (passes : List ℕ → Bool) (k : List ℕ) (o : Option Members) → option_and_then (least_key passes) o ≡ None → passes k ≡ true → option_and_then (get_member k) o ≡ None
in_object passes k None none is = refl
in_object passes k (Some ms) none is = no_key passes k ms none is

no_member : (head : List ℕ) (row : List Rule) (k : List ℕ) (d : Data) → other_key head row d ≡ None → not (is_of_row head row k) ≡ true → get k d ≡ None
no_member head row k d none other = get_of_object k d ∙ in_object (λ key. not (is_of_row head row key)) k (as_object d) none other

-- a path that is in no row
path_lacks : (chunk : ℕ) (k : Kind) (d : Data) → why_refused chunk (op_asking k) d ≡ None → not (is_of_row (codes "op") (rules_of (op_asking k)) (codes "path")) ≡ true → text_at (codes "path") d ≡ None
path_lacks chunk k d accepted other =
    let none = second_none (bad_field (rules_of (op_asking k)) d) _ (none_named (fault_of (op_asking k) d) (value_refused chunk d) accepted).0 in
    ap (option_and_then as_str) (no_member (codes "op") (rules_of (op_asking k)) (codes "path") d none other)

pub path_of_kind : (chunk : ℕ) (k : Kind) (d : Data) → why_refused chunk (op_asking k) d ≡ None → IsPathOf k (text_at (codes "path") d)
path_of_kind chunk kind.Files d accepted = path_lacks chunk kind.Files d accepted refl
path_of_kind chunk kind.Groups d accepted = tt
path_of_kind chunk kind.Measures d accepted = tt
path_of_kind chunk kind.Verdict d accepted = path_lacks chunk kind.Verdict d accepted refl
path_of_kind chunk kind.Functions d accepted = path_there chunk d accepted
