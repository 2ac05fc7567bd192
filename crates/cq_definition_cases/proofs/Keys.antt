-- Wrong keys, states and counts of a text.
use Rattle.std.specs.Prelude.{◌≡◌, ℕ, false, [], ◌∷◌, length, None, codes}
use Rattle.std.proofs.Common.{arith, refl}
use Rattle.cq_base.specs.declared.lang.Lang.TheVariants as lang
use Rattle.cq_base.specs.declared.settings.Settings.{Settings}
use Rattle.cq_base.specs.declared.token.Class.TheVariants as class
use Rattle.cq_base.specs.declared.token.Spelled.{Spelled}
use Rattle.cq_munch.specs.declared.munching.Lexed.TheVariants as lexed
use Rattle.cq_work.specs.Counts.{counts_of, early_ncloc}
use Rattle.cq_work.specs.Keys.{Rolls, code_of, key_of, keys_of, weight}
use Rattle.cq_work.specs.Lexing.{state_of}
use Rattle.cq_work.specs.declared.work.State.TheVariants as state

-- windows of two tokens, and keys of so many bits
abbrev settings : ℕ → Settings
settings bits = record { chunk = 2; shards = 16; key_bits = bits; ignore_ids = false; ignore_lits = false; change_limit = 262144; text_limit = 33554432; byte_limit = 1152921504606846976 }

pub a_key_goes_by_the_order_of_tokens : key_of (settings 64) (1 ∷ 2 ∷ []) ≡ key_of (settings 64) (2 ∷ 1 ∷ []) → ⊥
a_key_goes_by_the_order_of_tokens e = omega (arith, e)

pub a_key_keeps_so_many_bits : key_of (settings 8) (1 ∷ 2 ∷ []) ≡ key_of (settings 64) (1 ∷ 2 ∷ []) → ⊥
a_key_keeps_so_many_bits e = omega (arith, e)

pub the_code_that_goes_out_counts_no_more : Rolls (settings 64) 1 3 (key_of (settings 64) (1 ∷ 2 ∷ [])) (key_of (settings 64) (1 ∷ 2 ∷ 3 ∷ [])) → ⊥
the_code_that_goes_out_counts_no_more rolls = let e = rolls (2 ∷ []) refl refl in omega (arith, e)

pub a_code_weighs_a_power_for_each_token : weight (settings 64) ≡ 6364136223846793005 → ⊥
a_code_weighs_a_power_for_each_token e = omega (arith, e)

pub three_tokens_have_two_windows : length (keys_of (settings 64) (1 ∷ 2 ∷ 3 ∷ [])) ≡ 1 → ⊥
three_tokens_have_two_windows e = omega (arith, e)

pub a_code_goes_by_the_text :
    code_of (record { lang = lang.Any; class = class.Ident; text = codes "a" }) ≡ code_of (record { lang = lang.Any; class = class.Ident; text = codes "b" }) → ⊥
a_code_goes_by_the_text e = omega (arith, e)

pub a_fault_stands_at_its_byte : state_of (lexed.Fault 3) ≡ state.Fault 4 → ⊥
a_fault_stands_at_its_byte e = grind (arith, e)

abbrev token : Spelled
token = record { token = record { class = class.Ident; start = 0; len = 1; first_line = 1; last_line = 1 }; text = codes "a" }

pub lines_of_marked_texts_are_counted_before : early_ncloc (record { at = 0; on = false } ∷ []) (token ∷ []) ≡ None → ⊥
lines_of_marked_texts_are_counted_before e = grind (arith, e)

pub a_text_has_its_lines_of_code : (counts_of lang.Any (codes "a") state.Ok (token ∷ [])).ncloc ≡ 0 → ⊥
a_text_has_its_lines_of_code e = omega (arith, e)
