-- The characters of identifiers (C11 6.4.2.1 and annex D, in the profile of UAX #31 with a dollar sign).
use Rattle.std.specs.Prelude.{ℕ, Bool, ◌||◌, ◌==◌}
use Rattle.cq_munch.specs.Characters.{seen_as}
use Rattle.unicode_ident.specs.Ident.{is_xid_start, is_xid_continue}

unfoldable pub begins_identifier : ℕ → Bool
begins_identifier c = (is_xid_start c || (c == 95)) || (c == 36)

unfoldable pub continues_identifier : ℕ → Bool
continues_identifier c = is_xid_continue c || (c == 36)

-- how patterns see a character
abbrev pub stood : ℕ → ℕ
stood c = seen_as begins_identifier continues_identifier c
