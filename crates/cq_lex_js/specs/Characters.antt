-- White space, line terminators, and the characters of names (ECMA-262 12.2, 12.3, 12.7).
use Rattle.std.specs.Prelude.{ℕ, Bool, ◌&&◌, ◌||◌, ◌==◌, nat_lt, nat_le, if◌then◌else◌}
use Rattle.cq_munch.specs.Characters.{seen_as}
use Rattle.ucd_derived.specs.Binary.{is_id_start, is_id_continue}

-- a line or paragraph separator
abbrev pub is_separator : ℕ → Bool
is_separator c = (c == 8232) || (c == 8233)

-- past ASCII: the characters of category Zs, ZWNBSP, and the separators
unfoldable pub is_wide_blank : ℕ → Bool
is_wide_blank c =
    (c == 160) || ((c == 5760) || ((nat_le 8192 c && nat_le c 8202) || ((c == 8239) || ((c == 8287) || ((c == 12288) || ((c == 65279) || is_separator c))))))

-- ID_Start (UAX #31), a dollar sign and an underscore
unfoldable pub begins_name : ℕ → Bool
begins_name c = is_id_start c || ((c == 36) || (c == 95))

-- ID_Continue, a dollar sign, ZWNJ and ZWJ
unfoldable pub continues_name : ℕ → Bool
continues_name c = is_id_continue c || ((c == 36) || ((c == 8204) || (c == 8205)))

-- how the patterns of names and punctuators see a character: a blank past ASCII as a space
abbrev pub stood : ℕ → ℕ
stood c = if nat_lt c 128 then c else (if is_wide_blank c then 32 else seen_as begins_name continues_name c)

-- how those of literals do: 128 stands for a separator, and 130 for all others past ASCII
abbrev pub lined : ℕ → ℕ
lined c = if nat_lt c 128 then c else (if is_separator c then 128 else 130)
