-- Passes over a board and its shards.
use Rattle.std.proofs.Common.{◌≡◌, ◌≢◌, ℕ, suc, ◌+◌, ◌<◌, ◌≤◌, ◌^◌, ◌%◌, cond, List, [], ◌∷◌, ◌++◌, length, get_or, Option, Some, None, refl, sym, ap, ◌∙◌, subst, subst₂, inl, inr, ⊎_elim, arith, append-nil, ne_eqb}
use Rattle.std.specs.Prelude.{All, IfSome, option_to_list, slice_index}
use Rattle.std.specs.List.{AllByRecursion}
use Rattle.std.proofs.lemmas.Bool.{cases_lt}
use Rattle.std.proofs.lemmas.List.Elements.{All-nil}
use Rattle.std.proofs.lemmas.List.Sums.{prefix_len-le-length}
use mathlib.Core.List.{IsPrefix}
use Rattle.cq_base.specs.declared.lang.Lang.{Lang}
use Rattle.cq_base.specs.declared.settings.Settings.{Settings}
use Rattle.cq_base.specs.Changes.{IsSoundChange}
use Rattle.cq_history.specs.declared.event.Event.{Event}
use Rattle.cq_history.specs.State as history
use Rattle.cq_history.specs.State.{state, accepted, changes_in, maker, own, ready, is_done, view_of}
use Rattle.cq_history.specs.Lawful.{Lawful, IsBelow}
use Rattle.cq_history.specs.Lasts.{view_in}
use Rattle.cq_history.specs.Core.{IsReached}
use Rattle.cq_history.proofs.States.{Lawful-prefix}
use Rattle.cq_history.proofs.Prefixes.{changes_in-state, own-append}
use Rattle.cq_history.proofs.Falling.{never_falls}
use Rattle.cq_history.proofs.Bounds.{views_above_floor}
use Rattle.cq_history.proofs.Openings.{view_is, view_own}
use Rattle.cq_history.proofs.Limits.{few_accepted}
use Rattle.cq_shard.specs.Shard.{Contents, HasWindow, StandsFor}
use Rattle.cq_shard.proofs.Standing.{first_stands}
use Rattle.cq_board.specs.Stands as board
use Rattle.cq_board.specs.Stands.{BoardState}
use Rattle.cq_cells.specs.declared.item.Item.{Item}
use Rattle.cq_cells.specs.declared.item.Item.TheVariants as item
use Rattle.cq_cells.specs.declared.view.Hand.{Hand}
use Rattle.cq_cells.specs.declared.view.Hand.TheVariants.{Free, Has}
use Rattle.cq_cells.specs.Callers as callers
use Rattle.cq_cells.specs.Callers.{Each, Differ, OwnSame, NoneFrom, MayCall, longer}
use Rattle.cq_cells.specs.Passes as passes
use Rattle.cq_cells.specs.Passes.{IsFree, IsSameCaller, HasBoard, HasShard, HasReached, by_of}
use Rattle.cq_cells.proofs.Fronts.{longer_case}
use Rattle.cq_chain.specs.declared.about.About.{About}
use Rattle.cq_chain.specs.Held.{IsOfFirst, AcceptedByFirst, IsLawful, IsBoard, IsShardOf, IsShardAt, state_in, asks}
use Rattle.cq_chain.specs.Passes.{BoardCells, BoardPass, IsPassOf, IsOwn, HasNoneFrom, MayAdd, IsFound, IsStep, MayLeave, AreFresh}

-- ---- own events

same_maker : (c : ℕ) (by : Option ℕ) → callers.is_by c by ≡ history.is_by c by
same_maker c None = refl
same_maker c (Some d) = refl

own_same : (c : ℕ) (log : List Event) → callers.own maker c log ≡ own c log
own_same c [] = refl
own_same c (e ∷ es) = λ i. cond (same_maker c (maker e) i) (e ∷ own_same c es i) (own_same c es i)

all_same : (cs : List ℕ) (new old : List Event) → OwnSame maker cs new old → Each (λ c. own c new ≡ own c old) cs
all_same [] new old h = tt
all_same (c ∷ cs) new old h = (sym (own_same c new) ∙ h.0 ∙ own_same c old, all_same cs new old h.1)

pub is_own : (p : BoardPass) (log : List Event) → passes.IsOwn maker p log → IsOwn p log
is_own p log h = record { by = sym (own_same (by_of p) log) ∙ h.by ∙ own_same (by_of p) p.seen; all = all_same p.callers log p.seen h.all }

pub none_from : (next : ℕ) (log : List Event) → NoneFrom maker next log → HasNoneFrom next log
none_from next log h c from = sym (own_same c log) ∙ h c from

-- ---- callers that are still to be made

first_stays : (xs ys : List ℕ) → 0 < length xs → slice_index (xs ++ ys) 0 ≡ slice_index xs 0
first_stays [] ys some_x = absurd (omega arith)
first_stays (x ∷ xs) ys some_x = refl

-- an event that another made, or nobody
not_own : (c by : ℕ) (e : Event) (m : Option ℕ) → IfSome m (λ d. d ≡ by) → c ≢ by → cond (history.is_by c m) (e ∷ []) [] ≡ []
not_own c by e None mine other = refl
not_own c by e (Some d) mine other = ap (λ b. cond b (e ∷ []) []) (ne_eqb c d (λ same. other (same ∙ mine)))

own_after : (cells : BoardCells) (p : BoardPass) (event : Option Event) → IfSome event (MayAdd cells p) → (c : ℕ) → c ≢ by_of p → own c (p.seen ++ option_to_list event) ≡ own c p.seen
own_after cells p None may c other = ap (own c) (append-nil p.seen)
own_after cells p (Some e) may c other = own-append c p.seen (e ∷ []) ∙ (ap (λ l. own c p.seen ++ l) (not_own c (by_of p) e (maker e) may.maker other) ∙ append-nil (own c p.seen))

module _ (p q : BoardPass) where
  same_next : q.next ≡ p.next → 0 < q.next → 0 < p.next
  same_next next pos = subst (λ (n : ℕ). 0 < n) next pos

  pub made_same : IsSameCaller p q → (0 < p.next → by_of p < p.next) → 0 < q.next → by_of q < q.next
  made_same same made pos = subst₂ (λ (cs : List ℕ) (n : ℕ). slice_index cs 0 < n) (sym same.callers) (sym same.next) (made (same_next same.next pos))

  pub made_joined : (others : List ℕ) → 0 < length p.callers → q.callers ≡ p.callers ++ others → q.next ≡ p.next → (0 < p.next → by_of p < p.next) → 0 < q.next → by_of q < q.next
  made_joined others has_caller callers next made pos =
      subst₂ (λ (c n : ℕ). c < n) (sym (ap (λ (cs : List ℕ). slice_index cs 0) callers ∙ first_stays p.callers others has_caller)) (sym next) (made (same_next next pos))

  pub unmade_same : IsSameCaller p q → q.seen ≡ p.seen → (0 < p.next → HasNoneFrom p.next p.seen) → 0 < q.next → HasNoneFrom q.next q.seen
  unmade_same same seen unmade pos = subst₂ HasNoneFrom (sym same.next) (sym seen) (unmade (same_next same.next pos))

  -- after an event of its own, or of nobody
  pub unmade_more : (cells : BoardCells) (event : Option Event) → IfSome event (MayAdd cells p) → IsSameCaller p q → q.seen ≡ p.seen ++ option_to_list event
      → (0 < p.next → by_of p < p.next) → (0 < p.next → HasNoneFrom p.next p.seen) → 0 < q.next → HasNoneFrom q.next q.seen
  unmade_more cells event may same seen made unmade pos c from =
      let pos_p = same_next same.next pos in
      let from_p : p.next ≤ c = let e = same.next in omega (arith, from, e) in
      let below = made pos_p in
      ap (own c) seen ∙ own_after cells p event may c (λ e. absurd (omega (arith, e, below, from_p))) ∙ unmade pos_p c from_p

-- whose pass makes callers has a number to give
pub makes : (next room : ℕ) → (next ≡ 0 → room ≡ 0) → 0 < room → 0 < next
makes next room later some_room = ⊎_elim (λ lt. lt) (λ ge. let none : next ≡ 0 = omega (arith, ge) in absurd (let e = later none in omega (arith, e, some_room))) (cases_lt 0 next)

-- ---- the cell in hand

cell_of : Hand (Item BoardState Contents) Event → ℕ
cell_of Free = 0
cell_of (Has k x noted) = k

shard_in : Contents → Hand (Item BoardState Contents) Event → Contents
shard_in d Free = d
shard_in d (Has k (item.Board b) noted) = d
shard_in d (Has k (item.Shard x) noted) = x

pub same_shard : (p : BoardPass) (s t : ℕ) (x y : Contents) → HasShard p s x → HasShard p t y → x ≡ y
unfolding shard_in
same_shard p s t x y one two = ap (shard_in x) (sym one ∙ two)

-- a shard in hand is counted in 63 bits
pub few_free : (p : BoardPass) → IsFree p → (s : ℕ) (x : Contents) → HasShard p s x → x.applied < 2 ^ 63
unfolding cell_of
few_free p free s x has = let e = ap cell_of (sym free ∙ has) in absurd (omega (arith, e))

pub few_board : (p : BoardPass) (b : BoardState) → HasBoard p b → (s : ℕ) (x : Contents) → HasShard p s x → x.applied < 2 ^ 63
unfolding cell_of
few_board p b held s x has = let e = ap cell_of (sym held ∙ has) in absurd (omega (arith, e))

pub few_shard : (p : BoardPass) (t : ℕ) (y : Contents) → HasShard p t y → y.applied < 2 ^ 63 → (s : ℕ) (x : Contents) → HasShard p s x → x.applied < 2 ^ 63
few_shard p t y here few s x has = subst (λ (z : Contents). z.applied < 2 ^ 63) (same_shard p t s y x here has) few

-- ---- passes

pub is_pass : (here cells : BoardCells) (q : BoardPass) → here ≡ cells → here.callers ≡ here.about.callers → passes.IsPassOf here q → IsLawful cells.about q.seen → Differ q.callers
    → ((s : ℕ) (x : Contents) → HasShard q s x → x.applied < 2 ^ 63) → (0 < q.next → by_of q < q.next) → (0 < q.next → HasNoneFrom q.next q.seen) → IsPassOf cells q
is_pass here cells q is many mine law apart few made unmade =
    let of_them : passes.IsPassOf cells q = subst (λ (z : BoardCells). passes.IsPassOf z q) is mine in
    let all : cells.callers ≡ cells.about.callers = subst (λ (z : BoardCells). z.callers ≡ z.about.callers) is many in
    record {
      of = of_them;
      law = law;
      caller = subst (λ (n : ℕ). by_of q < n) all of_them.below;
      apart = apart;
      room = λ some_room. of_them.first some_room ∙ all;
      few = few;
      made = made;
      unmade = unmade;
    }

pub longer_lawful : (about : About) (seen more : List Event) → IsLawful about seen → IsLawful about more → IsLawful about (longer seen more)
longer_lawful about seen more one two = longer_case seen more (IsLawful about) (λ _. two) (λ _. one)

-- ---- the board

all_of_both : (xs ys : List Event) → AllByRecursion IsOfFirst xs → AllByRecursion IsOfFirst ys → AllByRecursion IsOfFirst (xs ++ ys)
all_of_both [] ys one two = two
all_of_both (x ∷ xs) ys one two = (one.0, all_of_both xs ys one.1 two)

accepted_event : (cells : BoardCells) (p : BoardPass) (event : Option Event) → IfSome event (MayAdd cells p) → AcceptedByFirst cells.about (option_to_list event)
accepted_event cells p None may only = tt
accepted_event cells p (Some e) may only = may.accepts only

-- an acceptance that is added is by a caller who may
pub accepted_more : (cells : BoardCells) (p : BoardPass) (event : Option Event) → IsLawful cells.about p.seen → IfSome event (MayAdd cells p) → AcceptedByFirst cells.about (p.seen ++ option_to_list event)
accepted_more cells p event law may only = all_of_both p.seen (option_to_list event) (law.accepts only) (accepted_event cells p event may only)

pub board_lawful : (about : About) (log : List Event) (b : BoardState) → IsBoard about log b → AcceptedByFirst about log → IsLawful about log
board_lawful about log b is accepts = record {
  lawful = subst (λ (z : Settings × ℕ). Lawful z.0 z.1 log) (λ i. (is.settings i, is.callers i)) is.stands.lawful;
  sound = subst (All IsSoundChange) (ap changes_in is.stands.is ∙ changes_in-state (length b.state.views) log) is.stands.sound;
  accepts = accepts;
}

may_call : (p : BoardPass) (by : Option ℕ) → 0 < length p.callers → IfSome by (λ c. c ≡ by_of p) → MayCall by p.callers
may_call p None some_caller mine = tt
may_call p (Some c) some_caller mine = (some_caller, mine)

-- what the board says of an event and what the caller does make it one that may be noted
pub may_add : (here cells : BoardCells) (p : BoardPass) (event : Option Event) (b : BoardState) → here ≡ cells → here.shards ≡ here.about.settings.shards → IsPassOf cells p → IsBoard cells.about (p.seen ++ option_to_list event) b
    → IfSome event (MayAdd cells p) → IfSome event (passes.MayAdd (IsLawful here.about) asks maker here p)
may_add here cells p None b is many mine right may = tt
may_add here cells p (Some e) b is many mine right may =
    subst (λ (z : BoardCells). passes.MayAdd (IsLawful z.about) asks maker z p e) (sym is)
    (record {
      law = board_lawful cells.about (p.seen ++ e ∷ []) b right (accepted_more cells p (Some e) mine.law may);
      maker = may_call p (maker e) mine.of.has_caller may.maker;
      applied = λ s near. may.applied s (subst (λ (n : ℕ). s < n) (subst (λ (z : BoardCells). z.shards ≡ z.about.settings.shards) is many) near);
    })

-- the half of the board's word
pub half : (n events : ℕ) → events ≡ n % 2 ^ 64 → events % 2 ^ 63 ≡ n % 2 ^ 63
half n events is = omega (arith, is)

-- ---- a shard that was taken

module _ {W : Type 0} (keys_in : W → List ℕ) (IsWorkOf : Settings → Lang → List ℕ → W → Type 0) (about : About) (p q : BoardPass) (s : ℕ) (x : Contents)
    (found : passes.IsFound (IsLawful about) (IsShardAt keys_in IsWorkOf about) maker s x p q) where
  pub found_here : IsFound keys_in IsWorkOf about p s x
  found_here = record { log = found.log; begins = found.begins; law = found.law; own = is_own p found.log found.own; is = found.is.1 }

  -- it has applied what is published
  pub found_published : (state_in about p.seen).published ≤ x.applied
  found_published =
      let later = found.begins.0 in
      let rises = never_falls about.settings about.callers p.seen later (subst (λ l. Lawful about.settings about.callers l) (sym found.begins.1) found.law.lawful) in
      let there : (state about.callers (p.seen ++ later)).published ≡ (state about.callers found.log).published = ap (λ l. (state about.callers l).published) found.begins.1 in
      omega (arith, rises.1, there, found.is.1.reached.0)

  -- it was swept no further than the caller's open version
  pub found_swept : IsBelow x.floor (view_of (state_in about p.seen) (by_of p))
  found_swept = below (view_of (state_in about p.seen) (by_of p)) (λ v open_here. omega (arith, found.is.1.swept, views_above_floor about.settings about.callers found.log found.law.lawful (by_of p) v (same_view ∙ open_here)))
    where
      law_seen : Lawful about.settings about.callers p.seen
      law_seen = Lawful-prefix about.settings about.callers p.seen found.begins.0 (subst (λ l. Lawful about.settings about.callers l) (sym found.begins.1) found.law.lawful)

      same_view : view_of (state about.callers found.log) (by_of p) ≡ view_of (state_in about p.seen) (by_of p)
      same_view =
          view_is about.settings about.callers found.log (by_of p) found.law.lawful ∙ view_own (by_of p) found.log ∙ ap (view_in (by_of p)) (is_own p found.log found.own).by
          ∙ sym (view_own (by_of p) p.seen) ∙ sym (view_is about.settings about.callers p.seen (by_of p) law_seen)

      below : (view : Option ℕ) → ((v : ℕ) → view ≡ Some v → x.floor ≤ v) → IsBelow x.floor view
      below None all = tt
      below (Some v) all = all v refl

  pub found_reached : HasReached s x.applied p q
  found_reached = subst (λ (n : ℕ). HasReached s n p q) found.is.0 found.reached

  pub found_small : x.applied < 2 ^ 63
  found_small = subst (λ (n : ℕ). n < 2 ^ 63) found.is.0 found.small

-- ---- a shard that goes back

step_right : (IsWindow : Lang → List ℕ → ℕ → ℕ → Type 0) (about : About) (seen log : List Event) (s : ℕ) (old new : Contents) → IsStep IsWindow about seen old new
    → IsLawful about log → IsPrefix seen log → IsShardOf IsWindow about log s old → IsShardOf IsWindow about log s new
step_right IsWindow about seen log s old new step law begins was =
    let later = begins.0 in
    let rises = never_falls about.settings about.callers seen later (subst (λ l. Lawful about.settings about.callers l) (sym begins.1) law.lawful) in
    let ready_there : ready (state about.callers (seen ++ later)) ≡ ready (state about.callers log) = ap (λ l. ready (state about.callers l)) begins.1 in
    let floor_there : (state about.callers (seen ++ later)).floor ≡ (state about.callers log).floor = ap (λ l. (state about.callers l).floor) begins.1 in
    record {
      stands = subst (λ l. StandsFor IsWindow (accepted l) new) begins.1 (step.stands later (subst (λ l. StandsFor IsWindow (accepted l) old) (sym begins.1) was.stands));
      reached = ⊎_elim (λ (same : new.applied ≡ old.applied). subst (IsReached (state_in about log)) (sym same) was.reached)
          (λ (more : (new.applied ≡ old.applied + 1) × (new.applied ≤ ready (state_in about seen))). (omega (arith, was.reached.0, more.0), omega (arith, more.1, rises.0, ready_there))) step.applied;
      swept = ⊎_elim (λ (same : new.floor ≡ old.floor). omega (arith, same, was.swept)) (λ (up : new.floor ≤ (state_in about seen).floor). omega (arith, up, rises.2, floor_there)) step.swept;
      number_is = step.number_is ∙ was.number_is;
      shards = step.shards ∙ was.shards;
    }

module _ {W : Type 0} (keys_in : W → List ℕ) (IsWorkOf : Settings → Lang → List ℕ → W → Type 0) where
  pub may_leave : (about : About) (p : BoardPass) (s : ℕ) (new : Contents) → MayLeave keys_in IsWorkOf about p s new → passes.MayLeave (IsLawful about) (IsShardAt keys_in IsWorkOf about) p s new.applied new
  may_leave about p s new may x has log a law begins was =
      let same : x ≡ may.was = same_shard p s s x may.was has may.hand in
      let is : IsShardOf (HasWindow keys_in IsWorkOf about.settings) about log s may.was = subst (IsShardOf (HasWindow keys_in IsWorkOf about.settings) about log s) same was.1 in
      let count : a ≡ may.was.applied = was.0 ∙ ap (λ (z : Contents). z.applied) same in (
        (refl, step_right (HasWindow keys_in IsWorkOf about.settings) about p.seen log s may.was new may.step law begins is),
        ⊎_elim (λ (e : new.applied ≡ may.was.applied). inl (e ∙ sym count)) (λ (more : (new.applied ≡ may.was.applied + 1) × (new.applied ≤ ready (state_in about p.seen))). inr (more.0 ∙ ap (λ n. n + 1) (sym count))) may.step.applied,
      )

  pub may_count : (cells : BoardCells) (p : BoardPass) (s : ℕ) (new : Contents) → cells.about.settings.change_limit < 2 ^ 63 → IsPassOf cells p → MayLeave keys_in IsWorkOf cells.about p s new → new.applied < 2 ^ 63
  may_count cells p s new limit mine may =
      let about = cells.about in
      let few = few_accepted about.settings about.callers p.seen mine.law.lawful in
      let within = prefix_len-le-length is_done (state about.callers p.seen).slots in
      let was = mine.few s may.was may.hand in
      ⊎_elim (λ (e : new.applied ≡ may.was.applied). omega (arith, e, was)) (λ (more : (new.applied ≡ may.was.applied + 1) × (new.applied ≤ ready (state_in about p.seen))). omega (arith, more.1, within, few.0, few.1, limit)) may.step.applied

-- ---- before any event

pub none_lawful : (about : About) → IsLawful about []
none_lawful about = record { lawful = tt; sound = All-nil IsSoundChange; accepts = λ only. tt }

pub first_board : (about : About) (b : BoardState) → about.settings ≡ b.settings → about.callers ≡ length b.state.views → board.StandsFor [] b → IsBoard about [] b
first_board about b settings many stands = record { stands = stands; settings = sym settings; callers = sym many }

module _ {W : Type 0} (keys_in : W → List ℕ) (IsWorkOf : Settings → Lang → List ℕ → W → Type 0) (about : About) where
  fresh : ℕ → Contents
  fresh s = record { shard = s; shards = about.settings.shards; applied = 0; floor = 0; puts = []; entries = [] }

  first_shard : (s : ℕ) (x : Contents) → x ≡ fresh s → IsShardAt keys_in IsWorkOf about [] s 0 x
  unfolding fresh
  first_shard s x is =
      let none = ap (λ (z : Contents). z.applied) is in
      let floor = ap (λ (z : Contents). z.floor) is in (
        sym none,
        record {
          stands = first_stands (HasWindow keys_in IsWorkOf about.settings) [] x none (ap (λ (z : Contents). z.puts) is) (ap (λ (z : Contents). z.entries) is);
          reached = (omega (arith, none), omega (arith, none));
          swept = omega (arith, floor);
          number_is = ap (λ (z : Contents). z.shard) is;
          shards = ap (λ (z : Contents). z.shards) is;
        },
      )

  first_from : (s : ℕ) (xs : List Contents) → ((i : ℕ) (d : Contents) → i < length xs → get_or xs i d ≡ fresh (s + i)) → passes.AreFresh (IsShardAt keys_in IsWorkOf about) s xs
  first_from s [] each = tt
  first_from s (x ∷ xs) each = (
    (let here : s + 0 ≡ s = omega arith in first_shard s x (each 0 x (omega arith) ∙ ap fresh here)),
    first_from (s + 1) xs (λ i d near. let next : s + suc i ≡ s + 1 + i = omega arith in each (suc i) d (omega (arith, near)) ∙ ap fresh next),
  )

  pub first_shards : (number : ℕ) (xs : List Contents) → about.settings.shards ≡ number → AreFresh number xs → passes.AreFresh (IsShardAt keys_in IsWorkOf about) 0 xs
  unfolding fresh
  first_shards number xs is are = first_from 0 xs (λ i d near. let next : i ≡ 0 + i = omega arith in
      are.each i d near ∙ ap (λ n. record { shard = i; shards = n; applied = 0; floor = 0; puts = []; entries = [] }) (sym is) ∙ ap fresh next)
