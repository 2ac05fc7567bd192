-- The line of a value is read as that value.
use Rattle.std.proofs.Common.{◌≡◌, ℕ, suc, ◌<◌, ◌≤◌, ◌^◌, max, List, [], ◌++◌, Option, Some, option_map, option_and_then, refl, sym, ap, ap₂, ◌∙◌, arith, append-nil}
use Rattle.std.specs.Prelude.{⊤}
use Rattle.json.specs.Token.{Token}
use Rattle.json.specs.Lex.{tokens}
use Rattle.json.specs.Json as json
use Rattle.json.specs.Print.{print}
use Rattle.json.specs.Tree as tree
use Rattle.json.specs.Written.{Written}
use Rattle.json.proofs.Printed.Trees.{value-json_tokens}
use Rattle.serde_json.specs.Data.{Data, null, boolean, number, string, array, object, Items, no_items, item, Members, no_members, member, put, depth, items_depth, members_depth}
use Rattle.serde_json.specs.Read.{of_json, of_members, max_depth, read}
use Rattle.serde_json.specs.Written.{outline, items_outline, members_outline, compact_text}
use Rattle.serde_json.proofs.Numbers.{number_of-decimal}
use Rattle.serde_json.proofs.Texts.{print-outline}
use Rattle.cq_reply.specs.Added.{Adds, tokens_of, IsReadBack}
use Rattle.cq_reply.specs.Written.{count}

-- ---- numbers and objects

pub count_read : (n : ℕ) → n < 2 ^ 64 → IsReadBack (count n)
count_read n small = ap (option_map number) (number_of-decimal n small)

abbrev pub AreReadBack : Members → Type 0
AreReadBack no_members = ⊤
AreReadBack (member k d ms) = IsReadBack d × AreReadBack ms

abbrev pub put_all : Members → Members → Members
put_all no_members found = found
put_all (member k d ms) found = put_all ms (put k d found)

all_read : (ms found : Members) → AreReadBack ms → of_members (members_outline ms) found ≡ Some (put_all ms found)
all_read no_members found each = refl
all_read (member k d ms) found each = ap (option_and_then (λ e. of_members (members_outline ms) (put k e found))) each.0 ∙ all_read ms (put k d found) each.1

-- an object whose members are in order
pub object_read : (ms : Members) → AreReadBack ms → put_all ms no_members ≡ ms → IsReadBack (object ms)
object_read ms each in_order = ap (option_map object) (all_read ms no_members each ∙ ap Some in_order)

-- ---- a text

mutual
  outline_depth : (d : Data) → tree.depth (outline d) ≡ depth d
  outline_depth null = refl
  outline_depth (boolean b) = refl
  outline_depth (number n) = refl
  outline_depth (string s) = refl
  outline_depth (array ds) = ap suc (items_outline_depth ds)
  outline_depth (object ms) = ap suc (members_outline_depth ms)

  items_outline_depth : (ds : Items) → tree.items_depth (items_outline ds) ≡ items_depth ds
  items_outline_depth no_items = refl
  items_outline_depth (item d ds) = ap₂ max (outline_depth d) (items_outline_depth ds)

  members_outline_depth : (ms : Members) → tree.members_depth (members_outline ms) ≡ members_depth ms
  members_outline_depth no_members = refl
  members_outline_depth (member k d ms) = ap₂ max (outline_depth d) (members_outline_depth ms)

abbrev whole : Option (json.Json × List Token) → Option Data
whole o = option_and_then of_json (option_and_then (λ p. json.if_last p.0 p.1) o)

pub text_read : (d : Data) → tokens (print (tokens_of d)) ≡ tokens_of d → IsReadBack d → depth d ≤ max_depth → read (compact_text d) ≡ Some d
text_read d lexed reads shallow =
    let same : tokens (compact_text d) ≡ tokens_of d ++ [] = ap tokens (sym (print-outline d)) ∙ lexed ∙ sym (append-nil (tokens_of d)) in
    ap whole (ap (json.value max_depth) same ∙ value-json_tokens (outline d) max_depth [] (omega (arith, shallow, outline_depth d))) ∙ reads

-- what stands in a buffer that was empty
pub text_made : (d : Data) (old new : Written) → Adds (tokens_of d) old new → old.before ≡ [] → old.tokens ≡ [] → new.before ++ print new.tokens ≡ compact_text d
text_made d old new added empty none =
    let begin : new.before ≡ [] = added.before ∙ empty in
    let all : new.tokens ≡ tokens_of d = added.tokens ∙ ap (λ ts. ts ++ tokens_of d) none in
    ap₂ (λ bs ts. bs ++ print ts) begin all ∙ print-outline d

pub lexed_made : (d : Data) (old new : Written) → Adds (tokens_of d) old new → old.tokens ≡ [] → tokens (print new.tokens) ≡ new.tokens → tokens (print (tokens_of d)) ≡ tokens_of d
lexed_made d old new added none lexed =
    let all : new.tokens ≡ tokens_of d = added.tokens ∙ ap (λ ts. ts ++ tokens_of d) none in
    ap (λ ts. tokens (print ts)) (sym all) ∙ lexed ∙ all
