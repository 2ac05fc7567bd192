-- A shard of a core that applies the next change.
use Rattle.std.proofs.Common.{◌≡◌, ◌↔◌, ℕ, zero, suc, ◌+◌, ◌%◌, ◌<◌, ◌≤◌, Bool, true, false, cond, List, [], ◌∷◌, ◌++◌, length, map, get_or, set, Option, Some, None, Global, refl, sym, ap, ◌∙◌, subst, subst₂, arith}
use Rattle.std.specs.Prelude.{IfSome, IsSome, option_map, slice_index, count_by, ◌==◌}
use Rattle.std.specs.Arc.{arc_value}
use Rattle.std.specs.declared.sync.Arc.{Arc}
use Rattle.std.proofs.lemmas.List.{length-map, map-set, set-get_or, get_or-map}
use Rattle.std.proofs.lemmas.List.Elements.{All-set}
use Rattle.std.proofs.lemmas.List.Sums.{sum_by-cons}
use Rattle.cq_base.specs.declared.lang.Lang.{Lang}
use Rattle.cq_base.specs.declared.settings.Settings.{Settings}
use Rattle.cq_base.specs.declared.entry.Entry.{Entry}
use Rattle.cq_base.specs.declared.change.Change.{Change}
use Rattle.cq_base.specs.declared.change.Change.TheVariants.{Put, Drop, Gate}
use Rattle.cq_history.specs.Changes.{change_at, IsWorkFor}
use Rattle.cq_history.specs.State.{State, slot_of, changes_in, ready, state as state_of}
use Rattle.cq_history.specs.Core.{Core, stepped}
use Rattle.cq_history.specs.Core.Step.{Applies}
use Rattle.cq_history.proofs.Bounds.{in_order}
use Rattle.cq_history.proofs.Cores.{step_is_sound}
use Rattle.cq_shard.specs.Shard as shard
use Rattle.cq_shard.proofs.Given.{work_given}
use Rattle.cq_shard.specs.Shard.{Contents, entries_of, brought}
use Rattle.cq_board.specs.Answers.{IsKeptWork}
use Rattle.cq_board.proofs.Works.{work_above}
use Rattle.cq_board.specs.Stands as board
use Rattle.cq_core.specs.Cores.{StandsFor, AreNumbered, applied_of, floor_of}
use Rattle.cq_core.specs.Steps.{Takes, HasSoMany, HasNext}
use Rattle.cq_core.proofs.Numbering.{numbered_set}
use Rattle.cq_core.proofs.Stepping.{core}

-- ---- what the change brings

-- an entry for each key that is the shard's
entries_number : (r s n at : ℕ) (keys : List ℕ) → length (entries_of r s n at keys) ≡ count_by (λ key. key % n == s) keys
entries_number r s n at [] = refl
entries_number r s n at (key ∷ keys) =
    one (key % n == s) (record { key = key; change = r; at = at }) (entries_of r s n (at + 1) keys) (count_by (λ k. k % n == s) keys) (entries_number r s n (at + 1) keys)
    ∙ sym (sum_by-cons (λ k. cond (k % n == s) 1 0) key keys)
  where
    one : (b : Bool) (e : Entry) (rest : List Entry) (m : ℕ) → length rest ≡ m → length (cond b (e ∷ []) [] ++ rest) ≡ cond b 1 0 + m
    one true e rest m is = omega (arith, is)
    one false e rest m is = omega (arith, is)

module _ {W : Type 0} (keys_in : W → List ℕ) (IsWorkOf : Settings → Lang → List ℕ → W → Type 0) where
  has_so_many : (set : Settings) (i number : ℕ) (c : Option Change) (work : Option W) → shard.HasItsWork (IsWorkOf set) c work → (d : Change) × (c ≡ Some d) × HasSoMany keys_in IsWorkOf set i d (length (brought keys_in number i set.shards work))
  has_so_many set i number (Some (Put project path lang text)) (Some w) is = (Put project path lang text, refl, (w, is, entries_number number i set.shards 0 (keys_in w)))
  has_so_many set i number (Some (Put project path lang text)) None is = absurd is
  has_so_many set i number (Some (Drop project path)) (Some w) is = absurd is
  has_so_many set i number (Some (Drop project path)) None is = (Drop project path, refl, refl)
  has_so_many set i number (Some (Gate project conditions)) (Some w) is = absurd is
  has_so_many set i number (Some (Gate project conditions)) None is = (Gate project conditions, refl, refl)
  has_so_many set i number None work is = absurd is

  -- what the next change of a shard brings it
  pub has_next : (b : board.BoardState) (shards : List Contents) (i r : ℕ) (old : Contents) (work : Option W) → AreNumbered b.settings.shards shards → i < length shards → old ≡ get_or shards i old → r ≡ old.applied + 1 → shard.HasItsWork (IsWorkOf b.settings) (change_at (changes_in b.state) r) work
      → HasNext keys_in IsWorkOf (core b shards) i (length (brought keys_in r old.shard old.shards work))
  has_next b shards i r old work numbered within read next is =
      let here : slice_index (map applied_of shards) i ≡ old.applied = get_or-map applied_of shards i old 0 within ∙ ap applied_of (sym read) in
      let each = numbered.each i old within in
      let first : old.shard ≡ i = ap (λ (x : Contents). x.shard) read ∙ each.0 in
      let all : old.shards ≡ b.settings.shards = ap (λ (x : Contents). x.shards) read ∙ each.1 in
      let (d, at, many) = has_so_many b.settings i r (change_at (changes_in b.state) r) work is in
      record {
        next = d;
        is_next = ap (change_at (changes_in b.state)) (ap (λ n. n + 1) here ∙ sym next) ∙ at;
        so_many = subst₂ (λ s n. HasSoMany keys_in IsWorkOf b.settings i d (length (brought keys_in r s n work))) (sym first) (sym all) many;
      }

-- what is read of a shard, twice
pub shard_read : (shards : List Contents) (i : ℕ) (a b : Contents) → i < length shards → a ≡ get_or shards i a → b ≡ get_or shards i b → a ≡ b
shard_read shards i a b within p q = p ∙ same_default_both shards i a b within ∙ sym q
  where
    same_default_both : (xs : List Contents) (k : ℕ) (d e : Contents) → k < length xs → get_or xs k d ≡ get_or xs k e
    same_default_both [] k d e lt = absurd (omega (arith, lt))
    same_default_both (x ∷ xs) zero d e lt = refl
    same_default_both (x ∷ xs) (suc k) d e lt = same_default_both xs k d e (omega (arith, lt))

-- no shard has applied less than the floor
pub floor_passed : (IsWindow : Lang → List ℕ → ℕ → ℕ → Type 0) (b : board.BoardState) (shards : List Contents) (k : Core) → StandsFor IsWindow k (core b shards) → (i : ℕ) (old : Contents) → i < length shards → old ≡ get_or shards i old → b.state.floor ≤ old.applied
floor_passed IsWindow b shards k is i old within read =
    let here : slice_index k.applied i ≡ old.applied = ap (λ xs. slice_index xs i) (sym is.applied) ∙ get_or-map applied_of shards i old 0 within ∙ ap applied_of (sym read) in
    let reached = is.sound.applied i 0 (omega (arith, within, ap length is.applied, length-map shards applied_of)) in
    let low = (in_order b.settings (length b.state.views) k.history is.sound.lawful).floor in
    let floor : b.state.floor ≡ (state_of (length b.state.views) k.history).floor = ap (λ (s : State). s.floor) is.past.is in
    omega (arith, low, floor, reached.0, here)

-- the shard whose next change is ready, with what the board gives of that change's work
pub record IsNextOf {W : Type 0} (IsWorkOf : Settings → Lang → List ℕ → W → Type 0) (b : board.BoardState) (shards : List Contents) (i applied : ℕ) (old : Contents) (lent : Option W) : Type 0 where
  pub within : i < length shards
  pub read : old ≡ get_or shards i old
  pub same : applied ≡ old.applied
  pub below : applied + 1 ≤ ready b.state
  pub work : shard.HasItsWork (IsWorkOf b.settings) (change_at (changes_in b.state) (applied + 1)) lent

pub next_of : {W : Type 0} (IsWorkOf : Settings → Lang → List ℕ → W → Type 0) (b : board.BoardState) (shards : List Contents) (i applied : ℕ) (first old : Contents) (work : Option (Arc W Global)) (lent : Option W) → AreNumbered b.settings.shards shards → i < b.settings.shards → first ≡ get_or shards i first → old ≡ get_or shards i old → applied ≡ first.applied
    → b.state.floor ≤ first.applied → applied + 1 ≤ ready b.state → IsSome work ↔ IsKeptWork b.state (applied + 1) → IfSome work (λ w. IsWorkFor (IsWorkOf b.settings) (slot_of b.state (applied + 1)).change (arc_value w)) → lent ≡ option_map arc_value work → IsNextOf IsWorkOf b shards i applied old lent
next_of IsWorkOf b shards i applied first old work lent numbered mine at read first_is low below some is lent_is =
    let within : i < length shards = omega (arith, mine, numbered.number_is) in
    record {
      within = within;
      read = read;
      same = first_is ∙ ap applied_of (shard_read shards i first old within at read);
      below = below;
      work = subst (shard.HasItsWork (IsWorkOf b.settings) (change_at (changes_in b.state) (applied + 1))) (sym lent_is) (work_given (IsWorkOf b.settings) arc_value b.state (applied + 1) work (omega arith) below (work_above b.state (applied + 1) work (omega (arith, low, first_is)) some) is);
    }

-- ---- the shard

-- one of the shards has applied the next change
pub record HasApplied (IsWindow : Lang → List ℕ → ℕ → ℕ → Type 0) (b : board.BoardState) (shards : List Contents) (i : ℕ) (old new : Contents) : Type 0 where
  pub within : i < length shards
  pub read : old ≡ get_or shards i old
  pub next : old.applied + 1 ≤ ready b.state
  pub applied : new.applied ≡ old.applied + 1
  pub number : new.shard ≡ old.shard
  pub numbers : new.shards ≡ old.shards
  pub floor : new.floor ≡ old.floor
  pub stands : shard.StandsFor IsWindow (changes_in b.state) old → shard.StandsFor IsWindow (changes_in b.state) new

module _ (IsWindow : Lang → List ℕ → ℕ → ℕ → Type 0) (b : board.BoardState) (shards : List Contents) (i : ℕ) (old new : Contents) (has : HasApplied IsWindow b shards i old new) where
  applied_set : map applied_of (set shards i new) ≡ set (map applied_of shards) i (slice_index (map applied_of shards) i + 1)
  applied_set = map-set applied_of shards i new ∙ ap (set (map applied_of shards) i) (has.applied ∙ ap (λ n. n + 1) (ap applied_of has.read ∙ sym (get_or-map applied_of shards i old 0 has.within)))

  floors_set : map floor_of (set shards i new) ≡ map floor_of shards
  floors_set = map-set floor_of shards i new ∙ ap (set (map floor_of shards) i) (has.floor ∙ ap floor_of has.read ∙ sym (get_or-map floor_of shards i old 0 has.within)) ∙ set-get_or (map floor_of shards) i 0

  module _ (k : Core) (is : StandsFor IsWindow k (core b shards)) where
    may : (i < length k.applied) × (slice_index k.applied i + 1 ≤ ready (state_of (length b.state.views) k.history))
    may =
        let here : slice_index k.applied i ≡ old.applied = ap (λ xs. slice_index xs i) (sym is.applied) ∙ get_or-map applied_of shards i old 0 has.within ∙ ap applied_of (sym has.read) in
        let reach : ready b.state ≡ ready (state_of (length b.state.views) k.history) = ap ready is.past.is in
        (omega (arith, has.within, ap length is.applied, length-map shards applied_of), omega (arith, has.next, here, reach))

    pub stands_applied : StandsFor IsWindow (stepped k (Applies i)) (core b (set shards i new))
    stands_applied = record {
      past = is.past;
      applied = applied_set ∙ ap (λ xs. set xs i (slice_index xs i + 1)) is.applied;
      floors = floors_set ∙ is.floors;
      sound = step_is_sound b.settings (length b.state.views) k (Applies i) is.sound may;
      shards = All-set (shard.StandsFor IsWindow (changes_in b.state)) shards i new (has.stands (subst (shard.StandsFor IsWindow (changes_in b.state)) (sym has.read) (is.shards i old has.within))) is.shards;
      numbered = numbered_set b.settings.shards shards i old new is.numbered has.within has.read has.number has.numbers
          (let low = is.numbered.passed i old has.within in let f = ap floor_of has.read in let a = ap applied_of has.read in omega (arith, low, f, a, has.floor, has.applied));
    }

  pub takes_applied : Takes IsWindow (Applies i) (core b shards) (core b (set shards i new))
  takes_applied = record {
    may = λ k is. may k is;
    core = λ k is. stands_applied k is;
  }
