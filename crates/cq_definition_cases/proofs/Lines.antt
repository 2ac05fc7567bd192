-- What a cutter of lines may not find, and what may not be written for lines.
use Rattle.std.specs.Prelude.{◌≡◌, ◌⊎◌, ℕ, ◌<◌, true, false, List, [], ◌∷◌, ◌++◌, length, flat_map, Option, Some}
use Rattle.std.proofs.Common.{Bor, arith, ap, refl, sym, ◌∙◌, inl, inr, append-nil}
use Rattle.cq_definition_cases.proofs.Different.{is_true}
use Rattle.cq_io.specs.declared.sink.Sink as sink
use Rattle.cq_lines.specs.Cutting.{Cuts, HasCutCause, IsNext, IsSpent}
use Rattle.cq_lines.specs.Held.{Held}
use Rattle.cq_lines.specs.LineLogs.{BreaksOff, Logged, log_at}
use Rattle.cq_lines.specs.Pieces.{all_lines, ended, split}
use Rattle.cq_lines.specs.Serving.{Serves}
use Rattle.cq_lines.specs.declared.ending.End.TheVariants as end
use Rattle.cq_lines.specs.declared.lines.Cut.TheVariants as cut

-- one byte was taken, which is no line feed, of nine that may be
abbrev one_byte : Held
one_byte = record { pending = 97 ∷ []; taken = 1; limit = 9; over = false }

pub a_last_line_needs_no_line_feed : (before after : Option (List ℕ)) (new : Held) → Cuts before after one_byte cut.End new → ⊥
a_last_line_needs_no_line_feed before after new cuts = let none = ap (λ (s : List ℕ). length s) cuts.finds.0 in omega (arith, none)

pub no_line_is_given_after_a_failed_read : (line : Bor (List ℕ)) → HasCutCause 0 1 (cut.Line line) → ⊥
no_line_is_given_after_a_failed_read line same = let none : 1 ≡ 0 = same in omega (arith, none)

pub the_limit_is_not_reached_one_byte_before_it : IsSpent (record { pending = []; taken = 8; limit = 9; over = false }) → ⊥
the_limit_is_not_reached_one_byte_before_it spent = let all = spent.taken in omega (arith, all)

-- the line `a` with its line feed, and two bytes of which only one is held then
abbrev line : List ℕ
line = 97 ∷ []

abbrev bytes : List ℕ
bytes = 97 ∷ 10 ∷ 98 ∷ 99 ∷ []

pub no_byte_is_lost : (at_end : Type 0) (new : Held) → new.pending ≡ 99 ∷ [] → IsNext at_end bytes line new → ⊥
no_byte_is_lost at_end new left next = of next.1
  where
    held : length new.pending ≡ 1
    held = ap (λ (s : List ℕ). length s) left

    of : ((bytes ≡ ended line ++ new.pending) × (new.over ≡ false)) ⊎ ((bytes ≡ line) × (0 < length line) × (new.pending ≡ []) × (new.over ≡ true) × at_end × (new.taken < new.limit)) → ⊥
    of (inl closed) = let all = ap (λ (s : List ℕ). length s) closed.0 in omega (arith, all, held)
    of (inr last) = let all = ap (λ (s : List ℕ). length s) last.0 in omega (arith, all)

-- ---- serving: the reply to a line is the line

abbrev are_echoes : List (List ℕ) → List (List ℕ) → Type 0
are_echoes lines replies = replies ≡ lines

-- the source has the line `a`, all of which was read, and nothing was written before
written_of_a : (written : List ℕ) → Serves ended are_echoes 9 (Some (97 ∷ 10 ∷ [])) (Some []) (Some []) (Some written) end.Finished → written ≡ 97 ∷ 10 ∷ []
unfolding split
written_of_a written serves =
    let got : 97 ∷ 10 ∷ [] ≡ serves.got = serves.bytes ∙ append-nil serves.got in
    let replied = serves.served.2 in
    let all : replied.replies ≡ all_lines (97 ∷ 10 ∷ []) = replied.talk ∙ ap all_lines (sym got) in replied.written ∙ ap (λ (rs : List (List ℕ)). flat_map ended rs) all

pub a_line_has_its_reply : Serves ended are_echoes 9 (Some (97 ∷ 10 ∷ [])) (Some []) (Some []) (Some (97 ∷ 10 ∷ [])) end.Finished
unfolding split
a_line_has_its_reply =
    record { got = 97 ∷ 10 ∷ []; bytes = refl; served = (refl, omega arith, record { replies = (97 ∷ []) ∷ []; talk = refl; written = refl }) }

pub no_line_is_without_a_reply : Serves ended are_echoes 9 (Some (97 ∷ 10 ∷ [])) (Some []) (Some []) (Some []) end.Finished → ⊥
no_line_is_without_a_reply serves = let none : 0 ≡ 2 = ap (λ (s : List ℕ). length s) (written_of_a [] serves) in omega (arith, none)

pub no_line_has_two_replies : Serves ended are_echoes 9 (Some (97 ∷ 10 ∷ [])) (Some []) (Some []) (Some (97 ∷ 10 ∷ 97 ∷ 10 ∷ [])) end.Finished → ⊥
no_line_has_two_replies serves = let two : 4 ≡ 2 = ap (λ (s : List ℕ). length s) (written_of_a (97 ∷ 10 ∷ 97 ∷ 10 ∷ []) serves) in omega (arith, two)

pub the_limit_is_not_the_end : (written : List ℕ) → Serves ended are_echoes 2 (Some (97 ∷ 10 ∷ [])) (Some []) (Some []) (Some written) end.Finished → ⊥
the_limit_is_not_the_end written serves =
    let got : 97 ∷ 10 ∷ [] ≡ serves.got = serves.bytes ∙ append-nil serves.got in
    let two : 2 ≡ length serves.got = ap (λ (s : List ℕ). length s) got in
    let fewer : length serves.got < 2 = serves.served.1 in omega (arith, two, fewer)

-- ---- a log of lines, whose sink failed

pub no_line_is_kept_after_a_failure : {K : Type 0} (onto : sink.Ghosts K) (old : Logged K) (after : K) (line : List ℕ) → BreaksOff onto old (log_at after true) line → ⊥
no_line_is_kept_after_a_failure onto old after _ breaks = is_true breaks.broken

pub nothing_is_written_after_a_failure : {K : Type 0} (onto : sink.Ghosts K) (before : K) (new : Logged K) (line : List ℕ) → BreaksOff onto (log_at before false) new line → new.sink ≡ before
nothing_is_written_after_a_failure onto before new _ breaks = breaks.later refl
