-- Where all passes are joined, and none but the talk's caller accepted a change.
use Rattle.std.proofs.Common.{◌≡◌, ◌⊎◌, ℕ, zero, suc, ◌<◌, ◌≤◌, Bool, true, false, cond, List, [], ◌∷◌, ◌++◌, length, get_or, Some, refl, sym, ap, ◌∙◌, subst, inl, inr, ⊎_elim, arith, append-nil, append_assoc, length-append, lt-ltb, le-ltb, eq-eqb}
use Rattle.std.specs.List.{AllByRecursion}
use Rattle.std.proofs.lemmas.Bool.{cases_lt}
use mathlib.Core.List.{IsPrefix}
use Rattle.cq_base.specs.declared.settings.Settings.{Settings}
use Rattle.cq_history.specs.declared.event.Event.{Event}
use Rattle.cq_history.specs.declared.event.Event.TheVariants.{Accept, Ask, Took, Back, Done, Publish, Open, Shut, Floor}
use Rattle.cq_history.specs.State.{own, maker, is_by}
use Rattle.cq_history.specs.Lawful.{Lawful}
use Rattle.cq_history.proofs.States.{Lawful-prefix}
use Rattle.cq_hub.proofs.Growing.{all-append}
use Rattle.cq_talk.specs.Laws.{ActsBy}
use Rattle.cq_reply.specs.declared.reply.Reply.{Reply}
use Rattle.cq_talk.specs.Said.{Said}
use Rattle.cq_talk.specs.Talk.{Talk}
use Rattle.cq_talk.specs.Beside.{IsBeside, nothing_known}
use Rattle.cq_talk.specs.Gathered.{Gathered, AreAllJoined, Joins, IsQuiet, StaysQuiet, longer}
use Rattle.cq_talk.proofs.BesideRows.{all_before}
use Rattle.cq_talk.proofs.BesideTalk.{beside_from_nothing}

-- ---- each event is accepted by whom its own events show

less_step : (e : Event) (es : List Event) (b : Bool) → AllByRecursion IsQuiet (cond b (e ∷ es) es) → AllByRecursion IsQuiet es
less_step e es true quiet = quiet.1
less_step e es false quiet = quiet

-- an event of a caller that stays quiet is so
mine_quiet : (by : ℕ) (e : Event) (more : List Event) → maker e ≡ Some by → StaysQuiet (e ∷ more) by → IsQuiet e
mine_quiet by e more is quiet = (subst (λ b. AllByRecursion IsQuiet (cond b (e ∷ own by more) (own by more))) (ap (is_by by) is ∙ eq-eqb by by refl) quiet).0

acts_by : (c : ℕ) (e : Event) (more : List Event) → ((w : ℕ) → (w ≡ c) ⊎ StaysQuiet (e ∷ more) w) → ActsBy c e
acts_by c (Accept by change) more others = elim (others by) [ inl same ↦ same | inr quiet ↦ absurd (mine_quiet by (Accept by change) more refl quiet) ]
acts_by c (Ask by) more others = tt
acts_by c (Took by r) more others = tt
acts_by c (Back by r) more others = tt
acts_by c (Done by r) more others = tt
acts_by c (Publish p) more others = tt
acts_by c (Open by p) more others = elim (others by) [ inl same ↦ same | inr quiet ↦ absurd (mine_quiet by (Open by p) more refl quiet) ]
acts_by c (Shut by) more others = tt
acts_by c (Floor f) more others = tt

-- where all other callers stay quiet, no event accepts a change or opens a view but the caller's
pub only_by : (c : ℕ) (h : List Event) → ((w : ℕ) → (w ≡ c) ⊎ StaysQuiet h w) → AllByRecursion (ActsBy c) h
only_by c [] others = tt
only_by c (e ∷ more) others = (acts_by c e more others, only_by c more (λ w. elim (others w) [ inl same ↦ inl same | inr quiet ↦ inr (less_step e (own w more) (is_by w (maker e)) quiet) ]))

-- ---- joins

of_longer : (xs ys : List Event) → length xs < length ys → IsPrefix xs ys ⊎ IsPrefix ys xs → IsPrefix xs ys
of_longer xs ys lt (inl begins) = begins
of_longer xs ys lt (inr begins) = let n = ap length begins.1 in let m = length-append ys begins.0 in absurd (omega (arith, lt, n, m))

begins_longer : (xs ys : List Event) → IsPrefix xs ys ⊎ IsPrefix ys xs → IsPrefix xs (longer xs ys)
begins_longer xs ys either =
    ⊎_elim
    (λ (lt : length xs < length ys). subst (λ b. IsPrefix xs (cond b ys xs)) (sym (lt-ltb (length xs) (length ys) lt)) (of_longer xs ys lt either))
    (λ (ge : length ys ≤ length xs). subst (λ b. IsPrefix xs (cond b ys xs)) (sym (le-ltb (length xs) (length ys) ge)) ([], append-nil xs))
    (cases_lt (length xs) (length ys))

prefix_then : (xs ys zs : List Event) → IsPrefix xs ys → IsPrefix ys zs → IsPrefix xs zs
prefix_then xs ys zs one two = (one.0 ++ two.0, sym (append_assoc xs one.0 two.0) ∙ (ap (λ g. g ++ two.0) one.1 ∙ two.1))

pub gathered_alone : (c : ℕ) (after : List Event) → Gathered c after (c ∷ []) after
gathered_alone c after = record { begins = ([], append-nil after); others = (inl refl, tt) }

still_others : (c : ℕ) (seen new : List Event) (mine : List ℕ) → AllByRecursion (λ (w : ℕ). (w ≡ c) ⊎ StaysQuiet seen w) mine → AllByRecursion (λ (w : ℕ). own w new ≡ own w seen) mine → AllByRecursion (λ (w : ℕ). (w ≡ c) ⊎ StaysQuiet new w) mine
still_others c seen new [] all same = tt
still_others c seen new (w ∷ ws) all same = (elim all.0 [ inl is ↦ inl is | inr quiet ↦ inr (subst (AllByRecursion IsQuiet) (sym same.0) quiet) ], still_others c seen new ws all.1 same.1)

new_others : (c : ℕ) (other new : List Event) (theirs : List ℕ) → AllByRecursion (StaysQuiet other) theirs → AllByRecursion (λ (w : ℕ). own w new ≡ own w other) theirs → AllByRecursion (λ (w : ℕ). (w ≡ c) ⊎ StaysQuiet new w) theirs
new_others c other new [] all same = tt
new_others c other new (w ∷ ws) all same = (inr (subst (AllByRecursion IsQuiet) (sym same.0) all.0), new_others c other new ws all.1 same.1)

pub gathered_more : (c : ℕ) (after seen other new : List Event) (mine theirs : List ℕ) → Gathered c after mine seen → Joins mine seen theirs other new → AllByRecursion (StaysQuiet other) theirs → Gathered c after (mine ++ theirs) new
gathered_more c after seen other new mine theirs so joins none = record {
  begins = prefix_then after seen new so.begins (subst (IsPrefix seen) (sym joins.kept) (begins_longer seen other joins.one_begins));
  others = all-append _ mine theirs (still_others c seen new mine so.others joins.own_mine) (new_others c other new theirs none joins.own_theirs);
}

-- ---- all are joined

at_place : (P : ℕ → Type 0) (xs : List ℕ) (i : ℕ) → AllByRecursion P xs → i < length xs → P (get_or xs i 0)
at_place P [] i all lt = absurd (omega (arith, lt))
at_place P (x ∷ xs) zero all lt = all.0
at_place P (x ∷ xs) (suc i) all lt = at_place P xs i all.1 (omega (arith, lt))

all_others : (c made : ℕ) (after seen : List Event) (joined : List ℕ) → Gathered c after joined seen → AreAllJoined made joined seen → (w : ℕ) → (w ≡ c) ⊎ StaysQuiet seen w
all_others c made after seen joined so all w =
    ⊎_elim
    (λ (lt : w < made). let place = all.joined w lt in subst (λ n. (n ≡ c) ⊎ StaysQuiet seen n) place.2 (at_place (λ n. (n ≡ c) ⊎ StaysQuiet seen n) joined place.0 so.others place.1))
    (λ (past : made ≤ w). inr (subst (AllByRecursion IsQuiet) (sym (all.no_others w past)) tt))
    (cases_lt w made)

pub beside_workers : (set : Settings) (callers c made : ℕ) (after seen : List Event) (joined : List ℕ) (lines : List Said) (replies : List Reply) → Talk set callers ⊥ c 0 [] lines replies after → Lawful set callers seen → Gathered c after joined seen → AreAllJoined made joined seen → IsBeside set nothing_known lines replies
beside_workers set callers c made after seen joined lines replies talk law so all =
    beside_from_nothing set callers ⊥ c after lines replies talk (Lawful-prefix set callers after so.begins.0 (subst (Lawful set callers) (sym so.begins.1) law))
    (all_before (ActsBy c) after so.begins.0 (subst (AllByRecursion (ActsBy c)) (sym so.begins.1) (only_by c seen (all_others c made after seen joined so all))))
