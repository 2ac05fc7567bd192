-- The lines that need no memory.
use Rattle.std.proofs.Common.{◌≡◌, ℕ, ◌<◌, ◌^◌, List, [], ◌∷◌, ◌++◌, refl, sym, ap, subst, arith, append_assoc}
use Rattle.std.specs.Prelude.{codes, decimal}
use Rattle.std.specs.Fmt.{digits}
use Rattle.json.specs.Tree.{HasNumbers}
use Rattle.json.proofs.Printed.Decimals.{IsNumber-decimal}
use Rattle.json.proofs.Printed.Tokens.{tokens-print}
use Rattle.json.proofs.Printed.Trees.{ArePrintable-json_tokens}
use Rattle.serde_json.specs.Written.{outline, compact_text}
use Rattle.serde_json.proofs.OnLiterals.{serde_json_on_literals}
use Rattle.cq_reply.specs.Added.{IsReadBack}
use Rattle.cq_reply.specs.Written.{reply_data, line_of, ReadsAs}
use Rattle.cq_reply.specs.declared.reply.Reply.{Reply}
use Rattle.cq_reply.specs.declared.reply.Reply.TheVariants as reply
use Rattle.cq_reply.proofs.Depths.{reply_depth}
use Rattle.cq_reply.proofs.Read.{count_read, object_read, text_read}

pub change_line : (n : ℕ) → codes "{\"change\":" ++ decimal n ++ codes ",\"ok\":true}\n" ≡ line_of (reply.Change n)
unfolding serde_json_on_literals
change_line n = ap (λ t. codes "{\"change\":" ++ t) (sym (append_assoc (decimal n) (codes ",\"ok\":true}") (10 ∷ [])))

pub pending_line : (n : ℕ) → codes "{\"code\":12,\"error\":\"pending\",\"number\":" ++ decimal n ++ codes ",\"ok\":false}\n" ≡ line_of (reply.Pending n)
unfolding serde_json_on_literals digits
pending_line n = ap (λ t. codes "{\"code\":12,\"error\":\"pending\",\"number\":" ++ t) (sym (append_assoc (decimal n) (codes ",\"ok\":false}") (10 ∷ [])))

pub long_line : codes "{\"code\":13,\"error\":\"long\",\"ok\":false}\n" ≡ line_of reply.Long
unfolding serde_json_on_literals digits
long_line = refl

pub memory_line : codes "{\"code\":14,\"error\":\"memory\",\"ok\":false}\n" ≡ line_of reply.Memory
unfolding serde_json_on_literals digits
memory_line = refl

-- ---- what they are read as

short_read : (r : Reply) → HasNumbers (outline (reply_data r)) → IsReadBack (reply_data r) → ReadsAs (line_of r) (reply_data r)
short_read r numbers reads = record {
  text = compact_text (reply_data r);
  line_is = refl;
  reads = text_read (reply_data r) (tokens-print _ (ArePrintable-json_tokens (outline (reply_data r)) numbers)) reads (reply_depth r);
}

pub change_read : (n : ℕ) → n < 2 ^ 64 → ReadsAs (line_of (reply.Change n)) (reply_data (reply.Change n))
change_read n small = short_read (reply.Change n) (IsNumber-decimal n small, (tt, tt)) (object_read _ (count_read n small, (refl, tt)) refl)

pub pending_read : (n : ℕ) → n < 2 ^ 64 → ReadsAs (line_of (reply.Pending n)) (reply_data (reply.Pending n))
pending_read n small =
    short_read (reply.Pending n) (IsNumber-decimal 12 (omega arith), (tt, (IsNumber-decimal n small, (tt, tt)))) (object_read _ (count_read 12 (omega arith), (refl, (count_read n small, (refl, tt)))) refl)

pub long_read : ReadsAs (line_of reply.Long) (reply_data reply.Long)
long_read = short_read reply.Long (IsNumber-decimal 13 (omega arith), (tt, (tt, tt))) (object_read _ (count_read 13 (omega arith), (refl, (refl, tt))) refl)

pub memory_read : ReadsAs (line_of reply.Memory) (reply_data reply.Memory)
memory_read = short_read reply.Memory (IsNumber-decimal 14 (omega arith), (tt, (tt, tt))) (object_read _ (count_read 14 (omega arith), (refl, (refl, tt))) refl)

-- a line that is the line of the reply
pub read_as : {r s : Reply} {line : List ℕ} → line ≡ line_of r → r ≡ s → ReadsAs (line_of r) (reply_data r) → ReadsAs line (reply_data s)
read_as {r = r} {s = s} {line = line} is same reads = subst (λ (x : Reply). ReadsAs line (reply_data x)) same (subst (λ (t : List ℕ). ReadsAs t (reply_data r)) (sym is) reads)
