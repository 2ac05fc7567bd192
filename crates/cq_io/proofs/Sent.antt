-- One more write of a piece.
use Rattle.std.proofs.Common.{◌≡◌, ℕ, ◌-◌, ◌≤◌, List, ◌++◌, length, take, drop, Option, ap, ◌∙◌, append_assoc, arith}
use Rattle.std.proofs.lemmas.Grind.{common_steps}
use Rattle.std.proofs.lemmas.List.{take-append-drop}
use Rattle.std.proofs.KnownBytes.{Appends-trans}
use Rattle.std.specs.Io.KnownBytes.{Appends}
use Rattle.cq_io.specs.Sending.{HasSent}

pub sent_more : (a b c : Option (List ℕ)) (rest piece : List ℕ) (n : ℕ) → HasSent a b rest piece → n ≤ length rest → Appends b c (take n rest) → HasSent a c (take (length rest - n) (drop n rest)) piece
sent_more a b c rest piece n sent within more =
    let left : take (length rest - n) (drop n rest) ≡ drop n rest = grind (arith, common_steps) in
    record {
      front = sent.front ++ take n rest;
      parts = append_assoc sent.front (take n rest) (take (length rest - n) (drop n rest)) ∙ (ap (λ r. sent.front ++ (take n rest ++ r)) left ∙ (ap (λ r. sent.front ++ r) (take-append-drop n rest) ∙ sent.parts));
      written = Appends-trans a b c sent.front (take n rest) sent.written more;
    }
