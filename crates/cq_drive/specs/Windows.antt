-- The windows of a text and their keys, by what the text is lexed to.
use Rattle.std.specs.Prelude.{◌≡◌, ℕ, List, Some, slice_get}
use Rattle.cq_base.specs.declared.lang.Lang.{Lang}
use Rattle.cq_base.specs.declared.settings.Settings.{Settings}
use Rattle.cq_work.specs.Keys.{window_keys}
use Rattle.cq_munch.specs.declared.munching.Lexed.{Lexed}
use Rattle.cq_normal.specs.Normal.{normal}
use Rattle.cq_work.specs.Lexing.{LexesTo, kept_in}

-- the window that begins with this token, of those that are listed, has this key
pub record HasKeyAt (set : Settings) (lang : Lang) (text : List ℕ) (at key : ℕ) : Type 0 where
  pub answer : Lexed
  pub lexes : LexesTo lang text answer
  pub is_key : slice_get (window_keys set (normal set lang (kept_in answer))) at ≡ Some key
