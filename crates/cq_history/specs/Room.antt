-- Histories that were worked out by hand: at most two changes are kept, and a view's floor makes room for more.
use Rattle.std.specs.Prelude.{◌≡◌, ◌^◌, true, false, List, [], ◌∷◌, ◌++◌, codes}
use Rattle.cq_base.specs.declared.settings.Settings.{Settings}
use Rattle.cq_base.specs.declared.change.Change.TheVariants.{Drop}
use Rattle.cq_history.specs.declared.event.Event.{Event}
use Rattle.cq_history.specs.declared.event.Event.TheVariants.{Accept, Done, Publish, Floor}
use Rattle.cq_history.specs.State.{state}
use Rattle.cq_history.specs.Lawful.{is_full, is_long, kept_changes, kept_text_bytes}
use Rattle.cq_history.specs.Script.{text_put}

abbrev pub room_settings : Settings
room_settings = record { chunk = 2; shards = 1; key_bits = 64; ignore_ids = false; ignore_lits = false; change_limit = 2; text_limit = 8; byte_limit = 2 ^ 60 }

-- a text is put, and put again
abbrev pub two_puts : List Event
two_puts = Accept 0 (text_put (codes "aaaa")) ∷ Done 0 1 ∷ Accept 0 (text_put (codes "bbb")) ∷ Done 0 2 ∷ []

-- a text is put, and its file dropped
abbrev pub put_and_drop : List Event
put_and_drop = Accept 0 (text_put (codes "aaaa")) ∷ Done 0 1 ∷ Accept 0 (Drop (codes "p") (codes "t")) ∷ []

-- the limits before and after the floors 1 and 2
pub record IsRoomAsWorkedOut : Type 0 where
  pub full : is_full room_settings (state 1 two_puts) ≡ true
  pub full_when_published : is_full room_settings (state 1 (two_puts ++ Publish 2 ∷ [])) ≡ true
  pub full_at_the_first : is_full room_settings (state 1 (two_puts ++ Publish 2 ∷ Floor 1 ∷ [])) ≡ true
  pub room : is_full room_settings (state 1 (two_puts ++ Publish 2 ∷ Floor 2 ∷ [])) ≡ false
  pub one_kept : kept_changes (state 1 (two_puts ++ Publish 2 ∷ Floor 2 ∷ [])) ≡ 1
  pub long : is_long room_settings (state 1 (two_puts ++ Publish 2 ∷ Floor 1 ∷ [])) (text_put (codes "cc")) ≡ true
  pub fits : is_long room_settings (state 1 (two_puts ++ Publish 2 ∷ Floor 2 ∷ [])) (text_put (codes "ccccc")) ≡ false
  pub none_kept : kept_changes (state 1 (put_and_drop ++ Publish 2 ∷ Floor 2 ∷ [])) ≡ 0
  pub no_bytes : kept_text_bytes (state 1 (put_and_drop ++ Publish 2 ∷ Floor 2 ∷ [])) ≡ 0
