-- Passes and their views.
use Rattle.std.proofs.Common.{◌≡◌, ℕ, suc, ◌+◌, ◌-◌, ◌^◌, ◌%◌, ◌<◌, ◌≤◌, max, add-one, eq-eqb, ne_eqb, cond, Bool, true, false, List, [], ◌∷◌, ◌++◌, map, length, sym, refl, ap, ◌∙◌, subst, ⊎_elim, arith, Option, Some, None}
use Rattle.std.specs.Prelude.{IfSome, option_to_list, slice_index, nat_eq}
use Rattle.std.proofs.lemmas.List.{append-nil}
use mathlib.Core.List.{IsPrefix}
use Rattle.atomic_table.specs.Seated.{TableId}
use Rattle.cq_cells.specs.declared.view.View.{View}
use Rattle.cq_cells.specs.declared.view.Hand.{Hand}
use Rattle.cq_cells.specs.declared.view.Hand.TheVariants.{Free, Has}
use Rattle.cq_cells.specs.declared.item.Item.{Item}
use Rattle.cq_cells.specs.declared.item.Item.TheVariants as item
use Rattle.cq_cells.specs.Callers.{own, OwnSame}
use Rattle.cq_cells.specs.Counts.{least_of, more_known}
use Rattle.cq_cells.specs.Rule.{MayNote}
use Rattle.cq_cells.specs.Steps.{noted_of, first_view, less, child, IsCompared, KeepsCaller, AllFit, Fitting}
use Rattle.cq_cells.specs.Items.{Fits}
use Rattle.cq_cells.specs.Passes.{CellsState, PassState, pass_state, Lies, PassOk, HasReached, MayAdd, IsFound, IsStep, AreFresh, IsOwn, least}

module _ {I E : Type 0} where
  value_of : Hand I E → I → I
  value_of Free x = x
  value_of (Has k y noted) x = y

  -- what one hand says of the value and of the event
  pub same_value : (h : Hand I E) (k : ℕ) (x y : I) (d e : Option E) → h ≡ Has k x d → h ≡ Has k y e → x ≡ y
  unfolding value_of
  same_value h k x y d e p q = ap (λ (z : Hand I E). value_of z x) (sym p ∙ q)

  pub same_note : (h : Hand I E) (k : ℕ) (x y : I) (d e : Option E) → h ≡ Has k x d → h ≡ Has k y e → d ≡ e
  same_note h k x y d e p q = ap noted_of (sym p ∙ q)

module _ {I E K : Type 0} (by next : ℕ) (v : View I E K) (slots : List (ℕ × Option I)) where
  pub idle_seat : PassOk by next v slots → v.hand ≡ Free → (v.hand ≡ Free) × (slots ≡ []) × IsCompared v
  idle_seat ok free = (free, subst (λ (h : Hand I E). Lies h slots) free ok.lies, (ok.beside, ok.joined))

  pub held_seat : (k : ℕ) (x : I) (noted : Option E) → PassOk by next v slots → v.hand ≡ Has k x noted → (v.hand ≡ Has k x noted) × (slots ≡ (k, None) ∷ []) × IsCompared v
  held_seat k x noted ok has = (has, subst (λ (h : Hand I E). Lies h slots) has ok.lies, (ok.beside, ok.joined))

  ok_now : (w : View I E K) (slots' : List (ℕ × Option I)) → PassOk by next v slots → Lies w.hand slots' → IsCompared w → KeepsCaller v w → PassOk by next w slots'
  ok_now w slots' ok lies compared same = record {
    lies = lies;
    beside = compared.0;
    joined = compared.1;
    by_is = ok.by_is ∙ ap (λ (l : List ℕ). slice_index l 0) (sym same.1);
    next_is = ok.next_is ∙ sym same.2;
  }

  -- it has taken a cell
  pub ok_held : (w : View I E K) (slots' : List (ℕ × Option I)) (k : ℕ) (x : I) (noted : Option E) → PassOk by next v slots
      → (w.hand ≡ Has k x noted) × (slots' ≡ (k, None) ∷ []) × IsCompared w → KeepsCaller v w → PassOk by next w slots'
  ok_held w slots' k x noted ok has same = ok_now w slots' ok (subst (λ (h : Hand I E). Lies h slots') (sym has.0) has.1) has.2 same

  -- it has released one
  pub ok_idle : (w : View I E K) (slots' : List (ℕ × Option I)) → PassOk by next v slots
      → (w.hand ≡ Free) × (slots' ≡ []) × IsCompared w → KeepsCaller v w → PassOk by next w slots'
  ok_idle w slots' ok has same = ok_now w slots' ok (subst (λ (h : Hand I E). Lies h slots') (sym has.0) has.1) has.2 same

  -- it has made a caller
  pub ok_less : (w : View I E K) (slots' : List (ℕ × Option I)) → PassOk by next v slots
      → (w.hand ≡ Free) × (slots' ≡ []) × IsCompared w → w ≡ less v → PassOk by (next + 1) w slots'
  ok_less w slots' ok has is = record {
    lies = subst (λ (h : Hand I E). Lies h slots') (sym has.0) has.1;
    beside = has.2.0;
    joined = has.2.1;
    by_is = ok.by_is ∙ ap (λ (z : View I E K). slice_index z.callers 0) (sym is);
    next_is = ap (λ (n : ℕ). n + 1) ok.next_is ∙ ap (λ (z : View I E K). z.next) (sym is);
  }

  pub ok_child : (w : View I E K) (slots' : List (ℕ × Option I)) → PassOk by next v slots
      → (w.hand ≡ Free) × (slots' ≡ []) × IsCompared w → w ≡ child v → PassOk next 0 w slots'
  ok_child w slots' ok has is = record {
    lies = subst (λ (h : Hand I E). Lies h slots') (sym has.0) has.1;
    beside = has.2.0;
    joined = has.2.1;
    by_is = ok.next_is ∙ ap (λ (z : View I E K). slice_index z.callers 0) (sym is);
    next_is = ap (λ (z : View I E K). z.next) (sym is);
  }

  -- another was joined into it
  pub ok_joined : (w : View I E K) (slots' : List (ℕ × Option I)) (others : List ℕ) → 0 < length v.callers → PassOk by next v slots
      → (w.hand ≡ Free) × (slots' ≡ []) × IsCompared w → w.callers ≡ v.callers ++ others → w.next ≡ v.next → PassOk by next w slots'
  ok_joined w slots' others some_one ok has callers same = record {
    lies = subst (λ (h : Hand I E). Lies h slots') (sym has.0) has.1;
    beside = has.2.0;
    joined = has.2.1;
    by_is = ok.by_is ∙ (sym (first_stays v.callers some_one) ∙ ap (λ (l : List ℕ). slice_index l 0) (sym callers));
    next_is = ok.next_is ∙ sym same;
  }
    where
      first_stays : (xs : List ℕ) → 0 < length xs → slice_index (xs ++ others) 0 ≡ slice_index xs 0
      first_stays [] some_x = absurd (omega arith)
      first_stays (x ∷ xs) some_x = refl

pub ok_first : {I E K : Type 0} (total : ℕ) (key : K) (v : View I E K) (slots : List (ℕ × Option I)) → (v.hand ≡ Free) × (slots ≡ []) × IsCompared v → v ≡ first_view total key → PassOk 0 1 v slots
ok_first {I} {E} {K} total key v slots has is = record {
  lies = subst (λ (h : Hand I E). Lies h slots) (sym has.0) has.1;
  beside = has.2.0;
  joined = has.2.1;
  by_is = ap (λ (z : View I E K). slice_index z.callers 0) (sym is);
  next_is = ap (λ (z : View I E K). z.next) (sym is);
}

pub keeps_both : {I E K : Type 0} (u v w : View I E K) → KeepsCaller u v → KeepsCaller v w → KeepsCaller u w
keeps_both u v w p q = (q.0 ∙ p.0, q.1 ∙ p.1, q.2 ∙ p.2, q.3 ∙ p.3)

-- of the events of a pass's callers
pub owns : {I E K : Type 0} (caller : E → Option ℕ) (p' p : PassState I E K) (log : List E) → p' ≡ p → 0 < length p.callers → OwnSame caller p'.callers log p'.seen → IsOwn caller p log
owns {I} {E} {K} caller p' p log is some_one h =
    let every : OwnSame caller p.callers log p.seen = subst (λ (z : PassState I E K). OwnSame caller z.callers log z.seen) is h in record { by = first p.callers some_one every; all = every }
  where
    first : (cs : List ℕ) → 0 < length cs → OwnSame caller cs log p.seen → own caller (slice_index cs 0) log ≡ own caller (slice_index cs 0) p.seen
    first [] some_c all = absurd (omega arith)
    first (c ∷ cs) some_c all = all.0

-- what is known of the shards
pub least_append : (k : ℕ) (xs ys : List (ℕ × ℕ)) → least_of k (xs ++ ys) ≡ max (least_of k xs) (least_of k ys)
least_append k [] ys = omega arith
least_append k (x ∷ xs) ys = go (nat_eq k x.0) (least_append k xs ys)
  where
    go : (b : Bool) → least_of k (xs ++ ys) ≡ max (least_of k xs) (least_of k ys)
        → cond b (max x.1 (least_of k (xs ++ ys))) (least_of k (xs ++ ys)) ≡ max (cond b (max x.1 (least_of k xs)) (least_of k xs)) (least_of k ys)
    go true e = omega (arith, e)
    go false e = e

pub has_reached : {I E K : Type 0} (s c : ℕ) (p q : PassState I E K) → q.known ≡ more_known (s + 1) c p.known → least_of (s + 1) p.known ≤ c → HasReached s c p q
has_reached s c p q is low =
    let known : List (ℕ × ℕ) = p.known in
    let more : q.known ≡ (s + 1, c) ∷ known = is ∙ ap (λ (b : Bool). cond b known ((s + 1, c) ∷ known)) (ne_eqb (s + 1) 0 (λ e. absurd (omega arith))) in
    record {
      here = ap (least_of (s + 1)) more ∙ (ap (λ (b : Bool). cond b (max c (least_of (s + 1) known)) (least_of (s + 1) known)) (eq-eqb (s + 1) (s + 1) refl) ∙ omega (arith, low));
      risen = low;
      elsewhere = λ j ne. ap (least_of (j + 1)) more ∙ ap (λ (b : Bool). cond b (max c (least_of (j + 1) known)) (least_of (j + 1) known)) (ne_eqb (j + 1) (s + 1) (λ e. ne (omega (arith, e))));
    }

-- what is known of the shards, once another pass was joined
pub joined_least : {I E K : Type 0} (table table' : TableId) (asked asked' : ℕ) (v w u : View I E K) (p q : PassState I E K) → pass_state table asked v ≡ p → pass_state table' asked' w ≡ q → u.known ≡ v.known ++ w.known
    → (s : ℕ) → least_of (s + 1) u.known ≡ max (least p s) (least q s)
joined_least table table' asked asked' v w u p q e f is s = ap (least_of (s + 1)) is ∙ (least_append (s + 1) v.known w.known ∙ (λ i. max (least (e i) s) (least (f i) s)))

pub reached_now : {I E K : Type 0} (s c : ℕ) (p' p q : PassState I E K) → p' ≡ p → q.known ≡ more_known (s + 1) c p'.known → least_of (s + 1) p'.known ≤ c → HasReached s c p q
reached_now {I} {E} {K} s c p' p q e is low = subst (λ (z : PassState I E K). HasReached s c z q) e (has_reached s c p' q is low)

pub may_note : {I E K : Type 0} (lawful : K → List E → Type 0) (asks : E → ℕ) (caller : E → Option ℕ) (here cells : CellsState K) (table : TableId) (asked : ℕ) (v : View I E K) (p : PassState I E K) (count k : ℕ) (event : Option E)
    → here ≡ cells → pass_state table asked v ≡ p → k ≡ 0 → here.shards ≡ count - 1
    → IfSome event (MayAdd (lawful cells.about) asks caller cells p) → IfSome event (λ e. (k ≡ 0) × MayNote (lawful here.about) asks caller count v v.seen e)
may_note {I} {E} {K} lawful asks caller here cells table asked v p count k None e f first is may = tt
may_note {I} {E} {K} lawful asks caller here cells table asked v p count k (Some event) e f first is may =
    let mine = subst (λ (z : CellsState K × PassState I E K). MayAdd (lawful z.0.about) asks caller z.0 z.1 event) (λ i. (sym e i, sym f i)) may in
    (first, (mine.law, mine.maker, λ j pos near. let back : (j - 1) + 1 ≡ j = omega arith in subst (λ (n : ℕ). asks event ≤ least_of n v.known) back (mine.applied (j - 1) (omega (arith, is)))))

module _ {B S E : Type 0} (board : List E → B → Type 0) (shard : List E → ℕ → ℕ → S → Type 0) where
  shard_is : (log : List E) (s c : ℕ) (y : Item B S) (x : S) → y ≡ item.Shard x → Fits board shard log (s + 1) c y → shard log s c x
  shard_is log s c y x is h =
      let there : Fits board shard log (suc s) c (item.Shard x) = subst (λ (z : ℕ × Item B S). Fits board shard log z.0 c z.1) (λ i. (add-one s i, is i)) h in there

  in_cell : (log : List E) (s c : ℕ) (x : S) → shard log s c x → Fits board shard log (s + 1) c (item.Shard x)
  in_cell log s c x h =
      let there : Fits board shard log (suc s) c (item.Shard x) = h in subst (λ (k : ℕ). Fits board shard log k c (item.Shard x)) (sym (add-one s)) there

  pub all_fit : (b : B) (xs : List S) → board [] b → AreFresh shard 0 xs → AllFit (Fits board shard) 0 (item.Board b ∷ map (λ (x : S). item.Shard x) xs)
  all_fit b xs right fresh = ((refl, right), shards_fit 0 xs fresh)
    where
      shards_fit : (s : ℕ) (ys : List S) → AreFresh shard s ys → AllFit (Fits board shard) (s + 1) (map (λ (x : S). item.Shard x) ys)
      shards_fit s [] h = tt
      shards_fit s (y ∷ ys) h = (in_cell [] s 0 y h.0, shards_fit (s + 1) ys h.1)

module _ {B S E K : Type 0} (lawful : K → List E → Type 0) (board : K → List E → B → Type 0) (shard : K → List E → ℕ → ℕ → S → Type 0) (here cells : CellsState K) (p' p : PassState (Item B S) E K) (is_here : here ≡ cells) (is_mine : p' ≡ p) where
  -- the board that goes back is right
  pub board_fits : (seen : List E) (x : Item B S) (noted event : Option E) (events : ℕ) (b : B) → seen ≡ p'.seen → noted ≡ event → events ≡ length (p.seen ++ option_to_list event) % 2 ^ 63
      → board cells.about (p.seen ++ option_to_list event) b → Fitting (lawful here.about) (Fits (board here.about) (shard here.about)) seen 0 x noted events (item.Board b)
  board_fits seen x noted event events b stays same count right log c law pre whole fit =
      let all : p.seen ≡ log = ap (λ (z : PassState (Item B S) E K). z.seen) (sym is_mine) ∙ (sym stays ∙ whole refl) in (
        subst (λ (z : K × (List E × Option E)). Fits (board z.0) (shard z.0) (z.1.0 ++ option_to_list z.1.1) 0 events (item.Board b)) (λ i. ((sym is_here i).about, (all i, sym same i))) (count, right),
        λ ne. absurd (ne refl),
      )

  -- the shard that goes back is right
  pub shard_fits : (s applied : ℕ) (x y : S) (z : Item B S) (noted : Option E) → z ≡ item.Shard x → noted ≡ None → IsStep (lawful cells.about) (shard cells.about) p.seen s x applied y
      → Fitting (lawful here.about) (Fits (board here.about) (shard here.about)) p'.seen (s + 1) z noted applied (item.Shard y)
  shard_fits s applied x y z noted is none_noted steps log c law pre whole fit =
      let steps' = subst (λ (z : CellsState K × PassState (Item B S) E K). IsStep (lawful z.0.about) (shard z.0.about) z.1.seen s x applied y) (λ i. (sym is_here i, sym is_mine i)) steps in
      let went = steps' log c law pre (shard_is (board here.about) (shard here.about) log s c z x is fit) in
      let same : log ≡ log ++ option_to_list noted = sym (append-nil log) ∙ ap (λ (n : Option E). log ++ option_to_list n) (sym none_noted) in (
        subst (λ (l : List E). Fits (board here.about) (shard here.about) l (s + 1) applied (item.Shard y)) same (in_cell (board here.about) (shard here.about) log s applied y went.0),
        λ _. ⊎_elim (λ (e : applied ≡ c). omega (arith, e)) (λ (e : applied ≡ c + 1). omega (arith, e)) went.1,
      )

  -- the shard that was taken
  pub found : 0 < length p.callers → (caller : E → Option ℕ) (s c : ℕ) (x : S) (z : Item B S) (log : List E) (q : PassState (Item B S) E K) → z ≡ item.Shard x → q.seen ≡ p'.seen → IsPrefix q.seen log → lawful here.about log
      → Fits (board here.about) (shard here.about) log (s + 1) c z → OwnSame caller p'.callers log p'.seen → c < 2 ^ 63 → q.known ≡ more_known (s + 1) c p'.known → least_of (s + 1) p'.known ≤ c
      → IsFound (lawful cells.about) (shard cells.about) caller s x p q
  found some_one caller s c x z log q is same pre law fit own small known low =
      let was : IsFound (lawful here.about) (shard here.about) caller s x p' q = record {
        log = log;
        applied = c;
        begins = subst (λ (l : List E). IsPrefix l log) same pre;
        law = law;
        own = owns caller p' p' log refl (subst (λ (z : PassState (Item B S) E K). 0 < length z.callers) (sym is_mine) some_one) own;
        is = shard_is (board here.about) (shard here.about) log s c z x is fit;
        small = small;
        reached = has_reached s c p' q known low;
      } in
      subst (λ (z : CellsState K × PassState (Item B S) E K). IsFound (lawful z.0.about) (shard z.0.about) caller s x z.1 q) (λ i. (is_here i, is_mine i)) was
