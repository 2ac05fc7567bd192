-- What is spelled in UTF-8 is a path where the text is one, and nothing else is.
use Rattle.std.proofs.Common.{◌≡◌, ℕ, List, Bool, true, false, ◌&&◌, IsUtf8, refl, sym, ap, ◌∙◌}
use Rattle.std.proofs.lemmas.Bool.{and_parts}
use Rattle.std.proofs.lemmas.Str.{IsUtf8-from_is_utf8, is_utf8-from_IsUtf8}
use Rattle.std.specs.Str.{is_utf8}
use Rattle.cq_names.specs.Names.{is_path_text, is_path}

pub path_utf8 : (path : List ℕ) → is_path path ≡ true → IsUtf8 path
path_utf8 path good = IsUtf8-from_is_utf8 path (and_parts (is_utf8 path) (is_path_text path) good).0

pub path_spelled : (bytes text : List ℕ) (r : Bool) → (text ≡ bytes) × IsUtf8 bytes → r ≡ is_path_text text → r ≡ is_path bytes
path_spelled bytes text r good is = is ∙ ap is_path_text good.0 ∙ sym (ap (λ b. b && is_path_text bytes) (is_utf8-from_IsUtf8 bytes good.1))

pub path_broken : (bytes : List ℕ) → (IsUtf8 bytes → ⊥) → false ≡ is_path bytes
path_broken bytes broken = by (is_utf8 bytes) refl
  where
    by : (b : Bool) → is_utf8 bytes ≡ b → false ≡ (b && is_path_text bytes)
    by true is = absurd (broken (IsUtf8-from_is_utf8 bytes is))
    by false is = refl
