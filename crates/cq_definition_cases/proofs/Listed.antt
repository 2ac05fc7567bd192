-- Tokens that are listed, as they are compared, and their keys.
use Rattle.std.specs.Prelude.{◌≡◌, ℕ, true, false, List, [], ◌∷◌, length, codes}
use Rattle.std.proofs.Common.{arith, ap}
use Rattle.cq_base.specs.declared.lang.Lang.TheVariants as lang
use Rattle.cq_base.specs.declared.settings.Settings.{Settings}
use Rattle.cq_base.specs.declared.token.Class.TheVariants as class
use Rattle.cq_base.specs.declared.token.Spelled.{Spelled}
use Rattle.cq_normal.specs.Kept.{kept}
use Rattle.cq_normal.specs.Normal.{normal_text}

-- the name `a` at a byte
abbrev name_at : ℕ → Spelled
name_at start = record { token = record { class = class.Ident; start = start; len = 1; first_line = 1; last_line = 1 }; text = codes "a" }

pub one_mark_leaves_tokens_out : length (kept (record { at = 1; on = false } ∷ []) (name_at 0 ∷ name_at 2 ∷ [])) ≡ 2 → ⊥
one_mark_leaves_tokens_out e = omega (arith, e)

pub a_token_where_the_mark_begins_is_listed : length (kept (record { at = 2; on = false } ∷ []) (name_at 0 ∷ name_at 2 ∷ [])) ≡ 1 → ⊥
a_token_where_the_mark_begins_is_listed e = omega (arith, e)

abbrev settings : Settings
settings = record { chunk = 2; shards = 16; key_bits = 64; ignore_ids = true; ignore_lits = false; change_limit = 262144; text_limit = 33554432; byte_limit = 1152921504606846976 }

pub a_word_is_never_ignored : normal_text settings lang.Java class.Word (codes "if") ≡ [] → ⊥
a_word_is_never_ignored e = omega (arith, ap (λ (s : List ℕ). length s) e)

pub a_digraph_is_what_it_stands_for : normal_text settings lang.C class.Punct (codes "<:") ≡ codes "<:" → ⊥
a_digraph_is_what_it_stands_for e = omega (arith, ap (λ (s : List ℕ). length s) e)

pub only_c_has_digraphs : normal_text settings lang.Java class.Punct (codes "<:") ≡ codes "[" → ⊥
only_c_has_digraphs e = omega (arith, ap (λ (s : List ℕ). length s) e)
