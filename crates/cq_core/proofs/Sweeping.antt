-- A shard of a core that is swept to the board's floor.
use Rattle.std.proofs.Common.{◌≡◌, ℕ, ◌<◌, ◌≤◌, List, length, map, get_or, set, sym, ap, ◌∙◌, subst, arith}
use Rattle.std.specs.Prelude.{slice_index}
use Rattle.std.proofs.lemmas.List.{length-map, map-set, set-get_or, get_or-map}
use Rattle.std.proofs.lemmas.List.Elements.{All-set}
use Rattle.cq_base.specs.declared.lang.Lang.{Lang}
use Rattle.cq_history.specs.State.{State, changes_in, state as state_of}
use Rattle.cq_history.specs.Core.{Core, MayStep, stepped}
use Rattle.cq_history.specs.Core.Step.{Sweeps}
use Rattle.cq_history.specs.Gone.{AreKeptPuts}
use Rattle.cq_history.proofs.Bounds.{in_order}
use Rattle.cq_history.proofs.Cores.{step_is_sound}
use Rattle.cq_shard.specs.Laws.{StandsSwept, KnowsWhatIsKept}
use Rattle.cq_shard.specs.Shard as shard
use Rattle.cq_shard.specs.Shard.{Contents, AreKnown, swept}
use Rattle.cq_board.specs.Stands as board
use Rattle.cq_core.specs.Cores.{StandsFor, applied_of, floor_of}
use Rattle.cq_core.specs.Steps.{Takes}
use Rattle.cq_core.proofs.Numbering.{numbered_set}
use Rattle.cq_core.proofs.Stepping.{core}

module _ (IsWindow : Lang → List ℕ → ℕ → ℕ → Type 0) (b : board.BoardState) (shards : List Contents) (i : ℕ) (old : Contents) (within : i < length shards) (read : old ≡ get_or shards i old) where
  module _ (k : Core) (is : StandsFor IsWindow k (core b shards)) where
    floor_then : b.state.floor ≡ (state_of (length b.state.views) k.history).floor
    floor_then = ap (λ (s : State). s.floor) is.past.is

    floor_here : slice_index k.floors i ≡ old.floor
    floor_here = ap (λ xs. slice_index xs i) (sym is.floors) ∙ get_or-map floor_of shards i old 0 within ∙ ap floor_of (sym read)

    -- it was swept no further than the floor is, and has applied all up to there
    pub low : old.floor ≤ b.state.floor
    low =
        let at = is.sound.floors i 0 (omega (arith, within, length-map shards floor_of, ap length is.floors)) in
        omega (arith, at, floor_here, floor_then)

    pub high : b.state.floor ≤ old.applied
    high =
        let here : slice_index k.applied i ≡ old.applied = ap (λ xs. slice_index xs i) (sym is.applied) ∙ get_or-map applied_of shards i old 0 within ∙ ap applied_of (sym read) in
        let at = is.sound.applied i 0 (omega (arith, within, length-map shards applied_of, ap length is.applied)) in
        let order = in_order b.settings (length b.state.views) k.history is.past.lawful in
        omega (arith, at.0, here, floor_then, order.floor)

    -- it knows what the floor keeps
    pub known : KnowsWhatIsKept IsWindow → (keep : List ℕ) → AreKeptPuts (changes_in b.state) b.state.floor keep → AreKnown keep old
    known law keep are =
        law (changes_in b.state) old b.state.floor keep low high are (subst (shard.StandsFor IsWindow (changes_in b.state)) (sym read) (is.shards i old within))

    may : MayStep b.settings (length b.state.views) k (Sweeps i b.state.floor)
    may = (omega (arith, low, floor_here), omega (arith, floor_then))

  -- ---- it is there already

  module _ (there : b.state.floor ≤ old.floor) where
    stands_there : (k : Core) → StandsFor IsWindow k (core b shards) → StandsFor IsWindow (stepped k (Sweeps i b.state.floor)) (core b shards)
    stands_there k is =
        let same : get_or k.floors i 0 ≡ b.state.floor = omega (arith, floor_here k is, low k is, there) in
        record {
          past = is.past;
          applied = is.applied;
          floors = is.floors ∙ sym (set-get_or k.floors i 0) ∙ ap (set k.floors i) same;
          sound = step_is_sound b.settings (length b.state.views) k (Sweeps i b.state.floor) is.sound (may k is);
          shards = is.shards;
          numbered = is.numbered;
        }

    pub takes_there : Takes IsWindow (Sweeps i b.state.floor) (core b shards) (core b shards)
    takes_there = record { may = λ k is. may k is; core = λ k is. stands_there k is }

  -- ---- it is swept up to the floor but for what this keeps

  module _ (law : StandsSwept IsWindow) (keep : List ℕ) (new : Contents) (are : AreKeptPuts (changes_in b.state) b.state.floor keep) (swept_is : new ≡ swept b.state.floor keep old) where
    applied_same : new.applied ≡ old.applied
    applied_same = ap applied_of swept_is

    floor_new : new.floor ≡ b.state.floor
    floor_new = ap floor_of swept_is

    pub stands_swept : (k : Core) → StandsFor IsWindow k (core b shards) → StandsFor IsWindow (stepped k (Sweeps i b.state.floor)) (core b (set shards i new))
    stands_swept k is = record {
      past = is.past;
      applied = map-set applied_of shards i new ∙ ap (set (map applied_of shards) i) (applied_same ∙ ap applied_of read ∙ sym (get_or-map applied_of shards i old 0 within)) ∙ set-get_or (map applied_of shards) i 0 ∙ is.applied;
      floors = map-set floor_of shards i new ∙ ap (set (map floor_of shards) i) floor_new ∙ ap (λ xs. set xs i b.state.floor) is.floors;
      sound = step_is_sound b.settings (length b.state.views) k (Sweeps i b.state.floor) is.sound (may k is);
      shards = All-set (shard.StandsFor IsWindow (changes_in b.state)) shards i new
          (subst (shard.StandsFor IsWindow (changes_in b.state)) (sym swept_is)
          (law (changes_in b.state) old b.state.floor keep (low k is) are (subst (shard.StandsFor IsWindow (changes_in b.state)) (sym read) (is.shards i old within)))) is.shards;
      numbered = numbered_set b.settings.shards shards i old new is.numbered within read (ap (λ (c : Contents). c.shard) swept_is) (ap (λ (c : Contents). c.shards) swept_is) (omega (arith, floor_new, applied_same, high k is));
    }

    pub takes_swept : Takes IsWindow (Sweeps i b.state.floor) (core b shards) (core b (set shards i new))
    takes_swept = record { may = λ k is. may k is; core = λ k is. stands_swept k is }
