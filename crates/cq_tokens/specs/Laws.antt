-- What a reader may rely on of tokens.
use Rattle.std.specs.Prelude.{◌≡◌, ◌↔◌, true}
use Rattle.std.specs.Ordering.{is_eq}
use Rattle.cq_tokens.specs.declared.seen.Seen.{Seen}
use Rattle.cq_tokens.specs.Packed.{norm_in, seen_cmp}

-- two tokens tie in their order exactly if they are the same
abbrev pub EqualTokensTie : Type 0
EqualTokensTie = (a b : Seen) → (is_eq (seen_cmp a b) ≡ true) ↔ (norm_in a ≡ norm_in b)
