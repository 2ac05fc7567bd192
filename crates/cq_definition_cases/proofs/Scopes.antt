-- Files that are not chosen, and paths that do not fit. What stars mean, `cq_scope` has as laws.
use Rattle.std.specs.Prelude.{◌≡◌, ◌&&◌, ℕ, Bool, true, false, None, [], ◌∷◌, codes}
use Rattle.cq_base.specs.declared.lang.Lang.TheVariants as lang
use Rattle.cq_definition_cases.proofs.Different.{is_false, is_true}
use Rattle.cq_history.specs.Files.{File}
use Rattle.cq_scope.specs.Chosen.{is_chosen}
use Rattle.cq_scope.specs.Fits.{fits, part_fits}

-- the file `a` that change 3 put
abbrev file : File ℕ
file = record { path = codes "a"; number = 3; lang = lang.Any; body = 0 }

pub a_file_of_the_version_itself_is_not_since_it : is_chosen None 3 file ≡ true → ⊥
a_file_of_the_version_itself_is_not_since_it e = is_false e

pub a_file_of_a_later_change_is_since : is_chosen None 2 file ≡ false → ⊥
a_file_of_a_later_change_is_since e = is_true e

none_behind : (b : Bool) → (b && false) ≡ true → ⊥
none_behind true e = is_false e
none_behind false e = is_false e

pub a_star_crosses_no_slash : fits (codes "a*c") (codes "a/c") ≡ true → ⊥
a_star_crosses_no_slash e = none_behind _ e

-- the character 233, which UTF-8 spells in two bytes
pub a_question_mark_fits_any_one_character : part_fits (codes "?") (233 ∷ []) ≡ false → ⊥
a_question_mark_fits_any_one_character e = is_true e

pub a_question_mark_fits_no_two_characters : part_fits (codes "?") (195 ∷ 169 ∷ []) ≡ true → ⊥
a_question_mark_fits_no_two_characters e = is_false e
