-- What was taken of the lines that were cut, one line more, and the ends.
use Rattle.std.proofs.Common.{◌≡◌, ℕ, ◌+◌, ◌<◌, ◌≤◌, Bool, true, false, List, [], ◌∷◌, ◌++◌, length, flat_map, Option, Some, None, inl, inr, refl, sym, ap, ◌∙◌, subst, append_assoc, length-append, arith}
use Rattle.std.proofs.KnownBytes.{Consumes-trans}
use Rattle.std.proofs.lemmas.Bool.{lt-ltb}
use Rattle.std.specs.Io.KnownBytes.{Consumes, IsAtEnd}
use Rattle.cq_base.specs.declared.change.Change.{Change}
use Rattle.cq_base.specs.declared.settings.Settings.{Settings}
use Rattle.cq_lines.proofs.Whole.{append_nil, cut_none, cut_line, cut_whole, run_ends, split_rest}
use Rattle.cq_lines.specs.Cutting.{IsNext, Cuts}
use Rattle.cq_lines.specs.Held.{Held}
use Rattle.cq_lines.specs.Pieces.{ended, split, all_lines, line_limit}
use Rattle.cq_lines.specs.Runs.{CutTo, IsFresh}
use Rattle.cq_lines.specs.declared.lines.Cut.TheVariants as cut
use Rattle.cq_log.specs.Logs.{held_in}
use Rattle.cq_log.specs.Mending.{is_unclosed}
use Rattle.cq_log.specs.Takers.{HasHeld, TakesLine, TakesRefused, TakenSoFar, Takes}
use Rattle.cq_log.specs.declared.taking.Taken.TheVariants as taken
use Rattle.cq_log.proofs.Saying.{long_refused}

-- no more bytes came than may
cut_within : (limit : ℕ) (a d : Option (List ℕ)) (y : Held) (lines : List (List ℕ)) (so : CutTo limit a d y lines) → length so.got ≤ limit
cut_within limit a d y lines so = omega (arith, so.taken, so.within, so.limited)

-- a run that came to the end of its source: its lines are those of the bytes, and whether the last had a line feed
record EndsHere (limit : ℕ) (a d : Option (List ℕ)) (lines : List (List ℕ)) (over : Bool) : Type 0 where
  got : List ℕ
  bytes : Consumes a d got
  at_end : IsAtEnd d
  fewer : length got < limit
  all : all_lines got ≡ lines
  unclosed : over ≡ is_unclosed got

nothing_pending : (p got : List ℕ) → p ≡ [] → p ++ got ≡ [] → got ≡ []
nothing_pending p got e h = sym (ap (λ t. t ++ got) e) ∙ h

ends_here : (limit : ℕ) (a b d : Option (List ℕ)) (x y : Held) (lines : List (List ℕ)) → CutTo limit a b x lines → Cuts b d x cut.End y → EndsHere limit a d lines x.over
ends_here limit a b d x y lines so cuts =
    let f = cuts.finds in
    let got = so.got ++ cuts.got in
    let count : y.taken ≡ length got = omega (arith, length-append so.got cuts.got, so.taken, cuts.taken) in
    elim so.cut [
      | inl going_on ↦
          let whole : got ≡ flat_map ended lines ++ [] = ap (λ t. t ++ cuts.got) going_on.1 ∙ (append_assoc (flat_map ended lines) x.pending cuts.got ∙ ap (λ t. flat_map ended lines ++ t) f.0) in
          let all : split got ≡ (lines, []) = ap split whole ∙ split_rest lines [] going_on.0 (λ k low. absurd (omega arith)) in
          elim f.3 [
            | inl over ↦ let bad : true ≡ false = sym over ∙ going_on.2 in absurd (cc)
            | inr ends ↦ record {
              got = got;
              bytes = Consumes-trans a b d so.got cuts.got so.bytes cuts.bytes;
              at_end = ends.0;
              fewer = omega (arith, count, ends.1, cuts.limit, so.limited);
              all = rw all (append_nil lines);
              unclosed = going_on.2 ∙ sym (rw all refl);
            }
          ]
      | inr done ↦
          let none : cuts.got ≡ [] = nothing_pending x.pending cuts.got done.1 f.0 in
          let kept : d ≡ b = (cuts.stays done.2).1 in
          let same : got ≡ so.got = ap (λ t. so.got ++ t) none ∙ append_nil so.got in
          record {
            got = got;
            bytes = Consumes-trans a b d so.got cuts.got so.bytes cuts.bytes;
            at_end = subst IsAtEnd (sym kept) done.3;
            fewer = omega (arith, ap length same, so.taken, done.4, so.limited);
            all = ap all_lines same ∙ done.0;
            unclosed = done.2 ∙ sym (ap is_unclosed same ∙ lt-ltb 0 (length (split so.got).1) done.5);
          }
    ]

module _ {T : Type 0} (Has : T → Settings → List (List ℕ) → List Change → Type 0) (set : Settings) where
  -- nothing was cut
  pub none_taken : (rest : Option (List ℕ)) (held : Held) (t : T) → IsFresh held → held.limit ≡ set.byte_limit → Has t set [] [] → TakenSoFar Has set rest rest held false t
  none_taken rest held t fresh limit has = record {
    lines = [];
    cut = subst (λ (n : ℕ). CutTo n rest rest held []) limit (cut_none rest held fresh);
    has = record { own = []; changes = []; held = refl; has = has };
  }

  -- a line was cut
  module _ (a b d : Option (List ℕ)) (x y : Held) (torn : Bool) (old : T) (got line : List ℕ) (so : TakenSoFar Has set a b x torn old)
      (came : Consumes b d got) (count : y.taken ≡ x.taken + length got) (within : y.taken ≤ y.limit) (same : y.limit ≡ x.limit) (going : x.over ≡ true → ⊥) (next : IsNext (IsAtEnd d) (x.pending ++ got) line y) where
    now_cut : CutTo set.byte_limit a d y (so.lines ++ line ∷ [])
    now_cut = cut_line set.byte_limit a b d x y so.lines got line so.cut came count within same going next

    -- and taken
    pub one_taken : (new : T) (now : Bool) → TakesLine Has set torn line old new (Some now) → TakenSoFar Has set a d y now new
    one_taken new now takes = record { lines = so.lines ++ line ∷ []; cut = now_cut; has = takes so.lines so.has }

    refused_here : (new : T) → held_in set (so.lines ++ line ∷ []) ≡ None → TakesRefused Has set a d new
    refused_here new none = record {
      got = now_cut.got;
      bytes = now_cut.bytes;
      within = cut_within set.byte_limit a d y (so.lines ++ line ∷ []) now_cut;
      lines = so.lines ++ line ∷ [];
      whole = cut_whole set.byte_limit a d y (so.lines ++ line ∷ []) now_cut;
      refused = none;
    }

    -- and refused
    pub line_refused : (new : T) → TakesLine Has set torn line old new None → TakesRefused Has set a d new
    line_refused new takes = refused_here new (takes so.lines so.has)

    pub line_too_long : line_limit < length line → TakesRefused Has set a d old
    line_too_long long = refused_here old (long_refused Has set torn line old so.lines long so.has)

  -- no line was cut
  module _ (a b d : Option (List ℕ)) (x y : Held) (torn : Bool) (t : T) (so : TakenSoFar Has set a b x torn t) where
    held_same : (lines : List (List ℕ)) → lines ≡ so.lines → HasHeld Has set lines torn t
    held_same lines is = subst (λ (ls : List (List ℕ)). HasHeld Has set ls torn t) (sym is) so.has

    pub at_end : (unclosed : Bool) → unclosed ≡ x.over → Cuts b d x cut.End y → Takes Has set a d t (taken.All unclosed torn)
    at_end unclosed is cuts =
        let end = ends_here set.byte_limit a b d x y so.lines so.cut cuts in
        record { got = end.got; bytes = end.bytes; at_end = end.at_end; fewer = end.fewer; has = held_same _ end.all; unclosed_is = is ∙ end.unclosed }

    pub at_limit : Cuts b d x cut.Spent y → Takes Has set a d t taken.Spent
    at_limit cuts =
        let run = run_ends set.byte_limit a b d x y so.lines cut.Spent so.cut cuts in
        (record { got = run.got; bytes = run.bytes; torn = torn; has = held_same _ run.ends.1 }, run.ends.0)

    pub at_fault : Cuts b d x cut.ReadFault y → Takes Has set a d t taken.Failed
    at_fault cuts =
        let run = run_ends set.byte_limit a b d x y so.lines cut.ReadFault so.cut cuts in
        record { got = run.got; bytes = run.bytes; torn = torn; has = held_same _ run.ends.1 }
