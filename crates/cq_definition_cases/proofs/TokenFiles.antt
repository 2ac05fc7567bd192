-- Bytes that are no part of a token file, and parts that may not stand in one.
use Rattle.std.specs.Prelude.{◌≡◌, ℕ, true, false, List, [], ◌∷◌, is_some, codes}
use Rattle.cq_base.specs.declared.lang.Lang.TheVariants as lang
use Rattle.cq_base.specs.declared.settings.Settings.{Settings}
use Rattle.cq_base.specs.declared.token.Class.TheVariants as class
use Rattle.cq_definition_cases.proofs.Different.{is_false, is_true}
use Rattle.cq_tokform.specs.Reading.{announced, behind_mark, body_at, text_at}
use Rattle.cq_tokform.specs.Sound.{are_apart, is_path_before, is_sound_function, is_sound_head, is_sound_token, rise}
use Rattle.cq_tokform.specs.Spelling.{Recorded}
use Rattle.cq_work.specs.declared.work.State.TheVariants as states

abbrev settings : Settings
settings = record { chunk = 2; shards = 16; key_bits = 64; ignore_ids = false; ignore_lits = false; change_limit = 262144; text_limit = 33554432; byte_limit = 1152921504606846976 }

-- two bytes are announced, and one is there
pub a_text_ends_within_the_bytes : is_some (text_at (0 ∷ 0 ∷ 0 ∷ 2 ∷ 97 ∷ [])) ≡ true → ⊥
unfolding text_at
a_text_ends_within_the_bytes e = is_false e

pub a_body_ends_within_the_bytes : is_some (body_at 2 (97 ∷ [])) ≡ true → ⊥
a_body_ends_within_the_bytes e = is_false e

pub another_mark_begins_none : is_some (behind_mark (codes "CQTOK002")) ≡ true → ⊥
another_mark_begins_none e = is_false e

pub a_body_is_no_longer_than_2_to_the_28 : is_some (announced (67 ∷ 81 ∷ 84 ∷ 79 ∷ 75 ∷ 48 ∷ 48 ∷ 49 ∷ 0 ∷ 0 ∷ 0 ∷ 0 ∷ 16 ∷ 0 ∷ 0 ∷ 1 ∷ [])) ≡ true → ⊥
a_body_is_no_longer_than_2_to_the_28 e = is_false e

pub a_body_may_have_2_to_the_28_bytes : is_some (announced (67 ∷ 81 ∷ 84 ∷ 79 ∷ 75 ∷ 48 ∷ 48 ∷ 49 ∷ 0 ∷ 0 ∷ 0 ∷ 0 ∷ 16 ∷ 0 ∷ 0 ∷ 0 ∷ [])) ≡ false → ⊥
a_body_may_have_2_to_the_28_bytes e = is_true e

pub a_head_has_the_flags_of_the_settings : is_sound_head settings 1 2 1 0 ≡ true → ⊥
a_head_has_the_flags_of_the_settings e = is_false e

pub a_token_lies_within_the_lines :
    is_sound_token settings 1 (record { token = record { class = class.Ident; start = 0; len = 1; first_line = 1; last_line = 2 }; text = [] }) ≡ true → ⊥
a_token_lies_within_the_lines e = is_false e

pub a_function_lies_within_the_lines : is_sound_function 3 (record { name = codes "f"; first = 2; last = 4; complexity = 1 }) ≡ true → ⊥
a_function_lies_within_the_lines e = is_false e

-- ---- two files

abbrev file : List ℕ → ℕ → Recorded
file path change = record { path = path; change = change; lang = lang.Any; state = states.Ok; counts = record { lines = 1; ncloc = 0; complexity = 1 }; tokens = []; functions = [] }

pub two_paths_may_rise : rise is_path_before (file (codes "a") 1 ∷ file (codes "b") 2 ∷ []) ≡ false → ⊥
two_paths_may_rise e = is_true e

pub no_path_stands_twice : rise is_path_before (file (codes "a") 1 ∷ file (codes "a") 2 ∷ []) ≡ true → ⊥
no_path_stands_twice e = is_false e

pub paths_stand_in_their_order : rise is_path_before (file (codes "b") 1 ∷ file (codes "a") 2 ∷ []) ≡ true → ⊥
paths_stand_in_their_order e = is_false e

pub no_change_put_two_files : are_apart (1 ∷ 1 ∷ []) ≡ true → ⊥
no_change_put_two_files e = is_false e
