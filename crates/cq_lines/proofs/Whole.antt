-- A run of the cutter, call by call.
use Rattle.std.proofs.Common.{◌≡◌, ℕ, ◌+◌, ◌-◌, ◌<◌, ◌≤◌, List, [], ◌∷◌, ◌++◌, length, flat_map, Option, Some, true, false, inl, inr, refl, sym, ap, ◌∙◌, append_assoc, length-append, arith, subst, ap₂, Bool, cond, eqb}
use Rattle.std.specs.List.{AllByRecursion}
use Rattle.std.proofs.lemmas.Bool.{eqb-true}
use Rattle.std.proofs.KnownBytes.{Consumes-nil, Consumes-trans}
use Rattle.std.specs.Io.KnownBytes.{Consumes, IsAtEnd}
use Rattle.cq_lines.specs.Held.{Held}
use Rattle.cq_lines.specs.Pieces.{HasNoFeed, ended, split, onto_split, closed_lines, all_lines, last_line}
use Rattle.cq_lines.specs.Cutting.{IsNext, Cuts}
use Rattle.cq_lines.specs.Runs.{CutTo, IsFresh, AreWhole, RunEnds}
use Rattle.cq_lines.specs.declared.lines.Cut.{Cut}
use Rattle.cq_lines.specs.declared.lines.Cut.TheVariants as cut
use Rattle.cq_lines.proofs.Splitting.{split_clean, split_lines}

pub append_nil : {X : Type 0} (xs : List X) → xs ++ [] ≡ xs
append_nil [] = refl
append_nil (x ∷ xs) = ap (λ ys. x ∷ ys) (append_nil xs)

pub flat_map_more : {X : Type 0} (f : X → List ℕ) (xs : List X) (x : X) → flat_map f (xs ++ x ∷ []) ≡ flat_map f xs ++ f x
flat_map_more f [] x = append_nil (f x)
flat_map_more f (y ∷ xs) x = ap (λ t. f y ++ t) (flat_map_more f xs x) ∙ sym (append_assoc (f y) (flat_map f xs) (f x))

clean_more : (lines : List (List ℕ)) (line : List ℕ) → AllByRecursion HasNoFeed lines → HasNoFeed line → AllByRecursion HasNoFeed (lines ++ line ∷ [])
clean_more [] line h one = (one, tt)
clean_more (l ∷ lines) line h one = (h.0, clean_more lines line h.1 one)

-- lines with their feeds, and a rest with none
pub split_rest : (lines : List (List ℕ)) (rest : List ℕ) → AllByRecursion HasNoFeed lines → HasNoFeed rest → split (flat_map ended lines ++ rest) ≡ (lines, rest)
split_rest lines rest each clean = split_lines lines rest each ∙ rw (split_clean rest clean) (ap (λ (ls : List (List ℕ)). let p : List (List ℕ) × List ℕ = (ls, rest) in p) (append_nil lines))

last_line_some : (rest : List ℕ) → 0 < length rest → last_line rest ≡ rest ∷ []
last_line_some [] some = absurd (omega arith)
last_line_some (b ∷ rest) some = refl

pub cut_none : (rest : Option (List ℕ)) (held : Held) → IsFresh held → CutTo held.limit rest rest held []
cut_none rest held fresh = record { got = []; bytes = Consumes-nil rest; taken = fresh.taken; within = rw fresh.taken (omega arith); limited = refl; cut = inl (tt, sym fresh.pending, fresh.over) }

pub cut_line : (limit : ℕ) (a b c : Option (List ℕ)) (x y : Held) (lines : List (List ℕ)) (got line : List ℕ) → CutTo limit a b x lines → Consumes b c got → y.taken ≡ x.taken + length got → y.taken ≤ y.limit → y.limit ≡ x.limit → (x.over ≡ true → ⊥)
    → IsNext (IsAtEnd c) (x.pending ++ got) line y → CutTo limit a c y (lines ++ line ∷ [])
cut_line limit a b c x y lines got line so came taken within same going next =
    elim so.cut [
      | inr ended_now ↦ absurd (going ended_now.2)
      | inl going_on ↦
          let whole : so.got ++ got ≡ flat_map ended lines ++ (x.pending ++ got) = ap (λ t. t ++ got) going_on.1 ∙ append_assoc (flat_map ended lines) x.pending got in
          let count : y.taken ≡ length (so.got ++ got) = omega (arith, length-append so.got got, so.taken, taken) in
          elim next.1 [
            | inl closed ↦ record {
              got = so.got ++ got;
              bytes = Consumes-trans a b c so.got got so.bytes came;
              taken = count;
              within = within;
              limited = same ∙ so.limited;
              cut = inl (clean_more lines line going_on.0 next.0, whole ∙ (ap (λ t. flat_map ended lines ++ t) closed.0 ∙ (sym (append_assoc (flat_map ended lines) (ended line) y.pending) ∙ ap (λ t. t ++ y.pending) (sym (flat_map_more ended lines line)))), closed.1);
            }
            | inr last ↦
                let all : split (so.got ++ got) ≡ (lines, line) = ap split (whole ∙ ap (λ t. flat_map ended lines ++ t) last.0) ∙ split_rest lines line going_on.0 next.0 in
                record {
                  got = so.got ++ got;
                  bytes = Consumes-trans a b c so.got got so.bytes came;
                  taken = count;
                  within = within;
                  limited = same ∙ so.limited;
                  cut = inr (rw all (ap (λ t. lines ++ t) (last_line_some line last.1)), last.2, last.3, last.4, last.5, rw all last.1);
                }
          ]
    ]

-- the lines so far are the first of all lines
pub cut_front : (limit : ℕ) (a c : Option (List ℕ)) (y : Held) (lines : List (List ℕ)) (so : CutTo limit a c y lines) → (others : List (List ℕ)) × (lines ++ others ≡ all_lines so.got)
cut_front limit a c y lines so =
    elim so.cut [
      | inr done ↦ ([], append_nil lines ∙ sym done.0)
      | inl going_on ↦
          let e : split so.got ≡ (lines ++ (split y.pending).0, (split y.pending).1) = ap split going_on.1 ∙ split_lines lines y.pending going_on.0 in
          ((split y.pending).0 ++ last_line (split y.pending).1, rw e (sym (append_assoc lines (split y.pending).0 (last_line (split y.pending).1))))
    ]

-- and they are whole
pub cut_whole : (limit : ℕ) (a c : Option (List ℕ)) (y : Held) (lines : List (List ℕ)) (so : CutTo limit a c y lines) → AreWhole limit c so.got lines
cut_whole limit a c y lines so =
    elim so.cut [
      | inr done ↦ inr (done.3, omega (arith, done.4, so.taken, so.limited), sym done.0)
      | inl going_on ↦
          let e : split so.got ≡ (lines ++ (split y.pending).0, (split y.pending).1) = ap split going_on.1 ∙ split_lines lines y.pending going_on.0 in
          inl ((split y.pending).0, sym (ap (λ (p : List (List ℕ) × List ℕ). p.0) e))
    ]

-- what was cut is all that has a feed
closed_now : (limit : ℕ) (a b : Option (List ℕ)) (x : Held) (lines : List (List ℕ)) (so : CutTo limit a b x lines) (got : List ℕ) → (x.over ≡ true → ⊥) → HasNoFeed (x.pending ++ got) → closed_lines (so.got ++ got) ≡ lines
closed_now limit a b x lines so got going clean =
    elim so.cut [
      | inr done ↦ absurd (going done.2)
      | inl going_on ↦
          let whole : so.got ++ got ≡ flat_map ended lines ++ (x.pending ++ got) = ap (λ t. t ++ got) going_on.1 ∙ append_assoc (flat_map ended lines) x.pending got in
          let all : split (so.got ++ got) ≡ (lines, x.pending ++ got) = ap split whole ∙ split_rest lines (x.pending ++ got) going_on.0 clean in
          ap (λ (p : List (List ℕ) × List ℕ). p.0) all
    ]

nothing_pending : (p got : List ℕ) → p ≡ [] → p ++ got ≡ [] → got ≡ []
nothing_pending p got e h = sym (ap (λ t. t ++ got) e) ∙ h

run_finished : (limit : ℕ) (a b c : Option (List ℕ)) (x y : Held) (lines : List (List ℕ)) → CutTo limit a b x lines → Cuts b c x cut.End y → RunEnds limit a c lines cut.End
run_finished limit a b c x y lines so cuts =
    let f = cuts.finds in
    let got = so.got ++ cuts.got in
    let count : y.taken ≡ length got = omega (arith, length-append so.got cuts.got, so.taken, cuts.taken) in
    elim so.cut [
      | inl going_on ↦
          let whole : got ≡ flat_map ended lines ++ [] = ap (λ t. t ++ cuts.got) going_on.1 ∙ (append_assoc (flat_map ended lines) x.pending cuts.got ∙ ap (λ t. flat_map ended lines ++ t) f.0) in
          let all : split got ≡ (lines, []) = ap split whole ∙ split_rest lines [] going_on.0 (λ k low. absurd (omega arith)) in
          elim f.3 [
            | inl over ↦ let bad : true ≡ false = sym over ∙ going_on.2 in cc
            | inr ends ↦ record {
              got = got;
              bytes = Consumes-trans a b c so.got cuts.got so.bytes cuts.bytes;
              ends = (ends.0, omega (arith, count, ends.1, cuts.limit, so.limited), rw all (append_nil lines));
            }
          ]
      | inr done ↦
          let none : cuts.got ≡ [] = nothing_pending x.pending cuts.got done.1 f.0 in
          let kept : c ≡ b = (cuts.stays done.2).1 in
          let same : got ≡ so.got = ap (λ t. so.got ++ t) none ∙ append_nil so.got in
          record {
            got = got;
            bytes = Consumes-trans a b c so.got cuts.got so.bytes cuts.bytes;
            ends = (subst IsAtEnd (sym kept) done.3, omega (arith, ap length same, so.taken, done.4, so.limited), ap all_lines same ∙ done.0);
          }
    ]

pub run_ends : (limit : ℕ) (a b c : Option (List ℕ)) (x y : Held) (lines : List (List ℕ)) (found : Cut) → CutTo limit a b x lines → Cuts b c x found y → RunEnds limit a c lines found
run_ends limit a b c x y lines cut.End so cuts = run_finished limit a b c x y lines so cuts
run_ends limit a b c x y lines cut.Spent so cuts = record {
  got = so.got ++ cuts.got;
  bytes = Consumes-trans a b c so.got cuts.got so.bytes cuts.bytes;
  ends = (omega (arith, length-append so.got cuts.got, so.taken, cuts.taken, cuts.finds.1.taken, cuts.limit, so.limited), closed_now limit a b x lines so cuts.got (λ e. (cuts.stays e).0) cuts.finds.0);
}
run_ends limit a b c x y lines cut.ReadFault so cuts = record {
  got = so.got ++ cuts.got;
  bytes = Consumes-trans a b c so.got cuts.got so.bytes cuts.bytes;
  ends = (omega (arith, length-append so.got cuts.got, so.taken, cuts.taken, cuts.finds.3, cuts.limit, so.limited), closed_now limit a b x lines so cuts.got (λ e. (cuts.stays e).0) cuts.finds.0);
}
run_ends limit a b c x y lines (cut.Line line) so cuts = record { got = so.got ++ cuts.got; bytes = Consumes-trans a b c so.got cuts.got so.bytes cuts.bytes; ends = tt }
run_ends limit a b c x y lines cut.TooLong so cuts = record { got = so.got ++ cuts.got; bytes = Consumes-trans a b c so.got cuts.got so.bytes cuts.bytes; ends = tt }

-- the bytes of a run to the end are all bytes
all_taken : (limit : ℕ) (bytes left : List ℕ) (lines : List (List ℕ)) (run : RunEnds limit (Some bytes) (Some left) lines cut.End) → run.got ≡ bytes
all_taken limit bytes left lines run = sym (append_nil run.got) ∙ ap (λ t. run.got ++ t) (sym run.ends.0) ∙ sym run.bytes

pub runs_agree : (limit other_limit : ℕ) (bytes left other_left : List ℕ) (lines other_lines : List (List ℕ)) → RunEnds limit (Some bytes) (Some left) lines cut.End → RunEnds other_limit (Some bytes) (Some other_left) other_lines cut.End → lines ≡ other_lines
runs_agree limit other_limit bytes left other_left lines other_lines run other =
    sym run.ends.2 ∙ ap all_lines (all_taken limit bytes left lines run ∙ sym (all_taken other_limit bytes other_left other_lines other)) ∙ other.ends.2

-- a turn after which fewer bytes may come, or fewer are pending
pub fewer : (at_end : Type 0) (x y : Held) (got line : List ℕ) → y.taken ≡ x.taken + length got → y.taken ≤ y.limit → y.limit ≡ x.limit → IsNext at_end (x.pending ++ got) line y
    → (y.limit - y.taken) + length y.pending < (x.limit - x.taken) + length x.pending
fewer at_end x y got line taken within same next =
    let whole : length (x.pending ++ got) ≡ length x.pending + length got = length-append x.pending got in
    elim next.1 [
      | inl closed ↦
          let e : length x.pending + length got ≡ length (ended line) + length y.pending = sym whole ∙ (ap length closed.0 ∙ length-append (ended line) y.pending) in
          let one : length (ended line) ≡ length line + 1 = length-append line (10 ∷ []) in
          omega arith
      | inr last ↦
          let e : length x.pending + length got ≡ length line = sym whole ∙ ap length last.0 in
          let some : 0 < length line = last.1 in
          let none : length y.pending ≡ 0 = ap length last.2 in
          omega arith
    ]

-- the lines that a feed closes and the rest are the bytes
onto_whole : (b : ℕ) (lines : List (List ℕ)) (rest bytes : List ℕ) → flat_map ended lines ++ rest ≡ bytes → flat_map ended (onto_split b lines rest).0 ++ (onto_split b lines rest).1 ≡ b ∷ bytes
onto_whole b [] rest bytes e = ap (λ t. b ∷ t) e
onto_whole b (line ∷ lines) rest bytes e = ap (λ t. b ∷ t) e

feed_whole : (b : ℕ) (eq : Bool) (lines : List (List ℕ)) (rest bytes : List ℕ) → (eq ≡ true → b ≡ 10) → flat_map ended lines ++ rest ≡ bytes
    → let p : List (List ℕ) × List ℕ = cond eq ([] ∷ lines, rest) (onto_split b lines rest) in flat_map ended p.0 ++ p.1 ≡ b ∷ bytes
feed_whole b true lines rest bytes is e = ap₂ (λ (x : ℕ) (xs : List ℕ). x ∷ xs) (sym (is refl)) e
feed_whole b false lines rest bytes is e = onto_whole b lines rest bytes e

pub split_whole : (bytes : List ℕ) → flat_map ended (split bytes).0 ++ (split bytes).1 ≡ bytes
unfolding split
split_whole [] = refl
split_whole (b ∷ bytes) = feed_whole b (eqb b 10) (split bytes).0 (split bytes).1 bytes (eqb-true b 10) (split_whole bytes)
