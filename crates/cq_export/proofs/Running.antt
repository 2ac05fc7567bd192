-- The changes of the lines that were cut, one line more, and the ends.
use Rattle.std.proofs.Common.{◌≡◌, ℕ, ◌+◌, ◌≤◌, List, [], ◌∷◌, ◌++◌, length, Option, true, sym, subst, arith}
use Rattle.std.specs.Io.KnownBytes.{Consumes, IsAtEnd}
use Rattle.std.proofs.lemmas.Slice.Zip.{all_zipped_more}
use Rattle.cq_base.specs.declared.change.Change.{Change}
use Rattle.cq_base.specs.declared.settings.Settings.{Settings}
use Rattle.cq_board.specs.Stands.{BoardState}
use Rattle.cq_export.specs.Lines.{Says, SayChanges, IsRefused, HasAccepted, TakesRefused, TakesLine, TakenSoFar, Takes}
use Rattle.cq_export.specs.declared.taking.Taken.TheVariants as taken
use Rattle.cq_lines.proofs.Whole.{cut_none, cut_line, cut_whole, run_ends}
use Rattle.cq_lines.specs.Cutting.{IsNext, Cuts}
use Rattle.cq_lines.specs.Held.{Held}
use Rattle.cq_lines.specs.Runs.{CutTo, IsFresh}
use Rattle.cq_lines.specs.declared.lines.Cut.TheVariants as cut
use Rattle.cq_talk.specs.Said.{said}

-- no more bytes came than may
cut_within : (limit : ℕ) (a d : Option (List ℕ)) (y : Held) (lines : List (List ℕ)) (so : CutTo limit a d y lines) → length so.got ≤ limit
cut_within limit a d y lines so = omega (arith, so.taken, so.within, so.limited)

module _ (set : Settings) where
  -- nothing was cut
  pub none_taken : (rest : Option (List ℕ)) (held : Held) (b : BoardState) → IsFresh held → held.limit ≡ set.byte_limit → HasAccepted set [] b → TakenSoFar set rest rest held b
  none_taken rest held b fresh limit has = record {
    lines = [];
    changes = [];
    cut = subst (λ (n : ℕ). CutTo n rest rest held []) limit (cut_none rest held fresh);
    say = tt;
    accepted = has;
  }

  -- a line was cut
  module _ (a b d : Option (List ℕ)) (x y : Held) (old : BoardState) (got line : List ℕ) (so : TakenSoFar set a b x old)
      (came : Consumes b d got) (taken : y.taken ≡ x.taken + length got) (within : y.taken ≤ y.limit) (same : y.limit ≡ x.limit) (going : x.over ≡ true → ⊥) (next : IsNext (IsAtEnd d) (x.pending ++ got) line y) where
    now_cut : CutTo set.byte_limit a d y (so.lines ++ line ∷ [])
    now_cut = cut_line set.byte_limit a b d x y so.lines got line so.cut came taken within same going next

    -- and its change accepted
    pub one_taken : (new : BoardState) → TakesLine set line old new true → TakenSoFar set a d y new
    one_taken new takes =
        let more = takes so.changes so.accepted in
        record {
          lines = so.lines ++ line ∷ [];
          changes = so.changes ++ more.0 ∷ [];
          cut = now_cut;
          say = all_zipped_more (Says set.chunk) so.lines so.changes line more.0 so.say more.1;
          accepted = more.2;
        }

    -- and it is refused
    pub line_refused : IsRefused set so.changes (said set.chunk line) → (changes : List Change) × TakesRefused set a d changes
    line_refused refused = (
      so.changes,
      record {
        got = now_cut.got;
        bytes = now_cut.bytes;
        within = cut_within set.byte_limit a d y (so.lines ++ line ∷ []) now_cut;
        lines = so.lines;
        line = line;
        whole = cut_whole set.byte_limit a d y (so.lines ++ line ∷ []) now_cut;
        say = so.say;
        accepted = so.accepted.accepted;
        refused = refused;
      },
    )

  -- no line was cut
  module _ (a b d : Option (List ℕ)) (x y : Held) (board : BoardState) (so : TakenSoFar set a b x board) where
    say_same : (lines : List (List ℕ)) → lines ≡ so.lines → SayChanges set.chunk lines so.changes
    say_same lines is = subst (λ (ls : List (List ℕ)). SayChanges set.chunk ls so.changes) (sym is) so.say

    pub at_end : Cuts b d x cut.End y → Takes set a d board taken.All
    at_end cuts =
        let run = run_ends set.byte_limit a b d x y so.lines cut.End so.cut cuts in (
          so.changes,
          record { got = run.got; bytes = run.bytes; at_end = run.ends.0; fewer = run.ends.1; say = say_same _ run.ends.2; accepted = so.accepted.accepted },
          so.accepted,
        )

    pub at_limit : Cuts b d x cut.Spent y → Takes set a d board taken.Spent
    at_limit cuts =
        let run = run_ends set.byte_limit a b d x y so.lines cut.Spent so.cut cuts in
        (so.changes, (record { got = run.got; bytes = run.bytes; say = say_same _ run.ends.1; accepted = so.accepted.accepted }, run.ends.0))

    pub at_fault : Cuts b d x cut.ReadFault y → Takes set a d board taken.Failed
    at_fault cuts =
        let run = run_ends set.byte_limit a b d x y so.lines cut.ReadFault so.cut cuts in
        (so.changes, record { got = run.got; bytes = run.bytes; say = say_same _ run.ends.1; accepted = so.accepted.accepted })
