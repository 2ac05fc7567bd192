-- Logs that were worked out by hand. `L` is a line that says a change which is accepted at first, `P` one that is no JSON object.
use Rattle.std.specs.Prelude.{◌≡◌, ℕ, true, false, List, [], ◌∷◌, Some, None, Ok, Err, codes}
use Rattle.cq_base.specs.declared.change.Change.{Change}
use Rattle.cq_base.specs.declared.settings.Settings.{Settings}
use Rattle.cq_log.specs.Logs.{front_of, held_in, is_accepted}
use Rattle.cq_log.specs.Mending.{is_unclosed, mending}
use Rattle.cq_base.specs.declared.refusal.Refusal.TheVariants as refusal
use Rattle.cq_request.specs.declared.request.Request.TheVariants as request
use Rattle.cq_talk.specs.Said.{Read, said}

-- how a log ends
pub record EndsAsWorkedOut : Type 0 where
  pub nothing : is_unclosed [] ≡ false
  pub a_line : is_unclosed (codes "L\n") ≡ false
  pub no_feed : is_unclosed (codes "L\nL") ≡ true
  pub empty_line : is_unclosed (codes "P\n\n") ≡ false
  pub two_feeds : mending true true ≡ codes "\n\n"
  pub one_feed : mending true false ≡ codes "\n"
  pub the_second_feed : mending false true ≡ codes "\n"
  pub no_mending : mending false false ≡ []

-- a line that is cut off, mended or not, by itself and before a whole one
pub record HoldsAsWorkedOut (set : Settings) (L P : List ℕ) (change : Change) : Type 0 where
  pub nothing : held_in set [] ≡ Some (front_of [] [] false)
  pub whole : held_in set (L ∷ []) ≡ Some (front_of (L ∷ []) (change ∷ []) false)
  pub torn : held_in set (P ∷ []) ≡ Some (front_of [] [] true)
  pub torn_after_whole : held_in set (L ∷ P ∷ []) ≡ Some (front_of (L ∷ []) (change ∷ []) true)
  pub mended : held_in set (P ∷ [] ∷ L ∷ []) ≡ Some (front_of (L ∷ []) (change ∷ []) false)
  pub mended_again : held_in set (P ∷ [] ∷ P ∷ [] ∷ []) ≡ Some (front_of [] [] false)
  pub not_mended : held_in set (P ∷ L ∷ []) ≡ None
  pub torn_twice : held_in set (P ∷ P ∷ []) ≡ None

abbrev pub TheyHoldAsWorkedOut : Type 0
TheyHoldAsWorkedOut =
    (set : Settings) (a b : ℕ) (L P : List ℕ) (change : Change)
    → said set.chunk (a ∷ L) ≡ Read (Ok (request.Change change)) → said set.chunk (b ∷ P) ≡ Read (Err refusal.Json) → is_accepted set [] change ≡ true
    → HoldsAsWorkedOut set (a ∷ L) (b ∷ P) change
