-- A line is sent, and then its line feed.
use Rattle.std.proofs.Common.{◌≡◌, ℕ, List, [], ◌∷◌, ◌++◌, Option, Ok, Err, Result, ap, sym, ◌∙◌, append_assoc}
use Rattle.std.proofs.KnownBytes.{Appends-trans}
use Rattle.std.specs.Io.KnownBytes.{Appends}
use Rattle.cq_io.specs.Sending.{Sends}
use Rattle.cq_lines.specs.Pieces.{ended}

-- a front of these bytes was written
abbrev Front : Option (List ℕ) → Option (List ℕ) → List ℕ → Type 0
Front old new bytes = (front more : List ℕ) × (front ++ more ≡ bytes) × Appends old new front

-- both are written
pub both_sent : (a b c : Option (List ℕ)) (line : List ℕ) → Appends a b line → Appends b c (10 ∷ []) → Appends a c (ended line)
both_sent a b c line one two = Appends-trans a b c line (10 ∷ []) one two

-- a front of the line is one of the line with its line feed
pub line_broken : (a b : Option (List ℕ)) (line : List ℕ) → Front a b line → Front a b (ended line)
line_broken a b line (front, more, parts, sent) = (front, more ++ 10 ∷ [], sym (append_assoc front more (10 ∷ [])) ∙ ap (λ (bytes : List ℕ). bytes ++ 10 ∷ []) parts, sent)

-- and so is the line with a front of its line feed
pub feed_broken : (a b c : Option (List ℕ)) (line : List ℕ) → Appends a b line → Front b c (10 ∷ []) → Front a c (ended line)
feed_broken a b c line one (front, more, parts, sent) = (line ++ front, more, append_assoc line front more ∙ ap (λ (bytes : List ℕ). line ++ bytes) parts, Appends-trans a b c line front one sent)

-- the line was written, and then its line feed or none of it
pub then_feed : {E : Type 0} (a b c : Option (List ℕ)) (line : List ℕ) (result : Result (Unit {0}) E) → Appends a b line → Sends b c (10 ∷ []) result → Sends a c (ended line) result
then_feed a b c line (Ok u) one two = both_sent a b c line one two
then_feed a b c line (Err e) one two = feed_broken a b c line one two
