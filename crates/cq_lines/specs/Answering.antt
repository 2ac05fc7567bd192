-- What answers lines one by one, and the replies that it has given so far.
use Rattle.std.specs.Prelude.{◌≡◌, ℕ, ◌<◌, List, [], ◌∷◌, ◌++◌, length, flat_map, Option, Some, None, Result, Ok, Err}
use Rattle.std.specs.Io.KnownBytes.{Appends}
use Rattle.cq_io.specs.Sending.{Sends}
use Rattle.cq_lines.specs.Pieces.{line_limit}

-- a front of the piece was sent
abbrev pub SendsFront : Option (List ℕ) → Option (List ℕ) → List ℕ → Type 0
SendsFront before after piece = (front more : List ℕ) × (front ++ more ≡ piece) × Appends before after front

-- over what answers, the bytes of a reply, how the answering may have begun, and that lines have these replies from such a
-- beginning, between what it was then and what it is now
module _ {A F R : Type 0} (line_of : R → List ℕ) (AreReplies : F → A → A → List (List ℕ) → List R → Type 0) where
  -- the line has a reply after those before it, which was sent, or a front of it if the sink failed
  abbrev pub AnswersLine : {E : Type 0} → A → A → List ℕ → Option (List ℕ) → Option (List ℕ) → Result (Unit {0}) E → Type 0
  AnswersLine old new line before after result =
      (from : F) (first : A) (lines : List (List ℕ)) (replies : List R) → AreReplies from first old lines replies → (reply : R) × AreReplies from first new (lines ++ line ∷ []) (replies ++ reply ∷ []) × Sends before after (line_of reply) result

  -- it is so, whichever line it was that is too long
  abbrev pub AnswersLong : {E : Type 0} → A → A → Option (List ℕ) → Option (List ℕ) → Result (Unit {0}) E → Type 0
  AnswersLong old new before after result = (line : List ℕ) → line_limit < length line → AnswersLine old new line before after result

  -- what may stop, for a cause, at a line: then this holds of the lines up to that one, and of their replies
  module _ {C : Type 0} (HasStopped : F → A → A → List (List ℕ) → List R → C → Type 0) where
    -- the line has a reply, which was sent, or a front of it; or it was the last one, and the replies that it has were sent
    abbrev pub AnswersOrStops : {E : Type 0} → A → A → List ℕ → Option (List ℕ) → Option (List ℕ) → Result (Option C) E → Type 0
    AnswersOrStops old new line before after (Ok None) =
        (from : F) (first : A) (lines : List (List ℕ)) (replies : List R) → AreReplies from first old lines replies → (reply : R) × AreReplies from first new (lines ++ line ∷ []) (replies ++ reply ∷ []) × Appends before after (line_of reply)
    AnswersOrStops old new line before after (Ok (Some cause)) =
        (from : F) (first : A) (lines : List (List ℕ)) (replies : List R) → AreReplies from first old lines replies → (more : List R) × HasStopped from first new (lines ++ line ∷ []) (replies ++ more) cause × Appends before after (flat_map line_of more)
    AnswersOrStops old new line before after (Err e) =
        (from : F) (first : A) (lines : List (List ℕ)) (replies : List R) → AreReplies from first old lines replies → (reply : R) × AreReplies from first new (lines ++ line ∷ []) (replies ++ reply ∷ []) × SendsFront before after (line_of reply)

    -- it is so, whichever line it was that is too long
    abbrev pub AnswersLongOrStops : {E : Type 0} → A → A → Option (List ℕ) → Option (List ℕ) → Result (Option C) E → Type 0
    AnswersLongOrStops old new before after result = (line : List ℕ) → line_limit < length line → AnswersOrStops old new line before after result

-- unless it stopped or the sink failed, it may be asked again
abbrev pub StaysReady : {C E : Type 0} → Type 0 → Result (Option C) E → Type 0
StaysReady Ready (Ok None) = Ready
StaysReady Ready (Ok (Some cause)) = Unit {0}
StaysReady Ready (Err e) = Unit {0}
