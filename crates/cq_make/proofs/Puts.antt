-- The made files are accepted one by one by a hub that is alone.
use Rattle.std.proofs.Common.{◌≡◌, ℕ, zero, suc, ◌+◌, ◌*◌, ◌^◌, ◌<◌, ◌≤◌, false, cond, Some, None, List, [], ◌∷◌, ◌++◌, map, length, length-append, sym, ap, ap₂, ◌∙◌, subst, refl, inl, inr, arith}
use Rattle.std.specs.Prelude.{nat_le, nat_lt, sum_by}
use Rattle.std.proofs.lemmas.Bool.{lt-leb, le-ltb, or_from}
use Rattle.std.proofs.lemmas.List.{length-map}
use Rattle.std.proofs.lemmas.List.Sums.{sum_by-append}
use Rattle.cq_base.specs.declared.change.Change.{Change}
use Rattle.cq_base.specs.declared.settings.Settings.{Settings}
use Rattle.cq_board.specs.declared.answers.Refused.{Refused}
use Rattle.cq_board.specs.declared.answers.Refused.TheVariants as refused
use Rattle.cq_history.specs.Changes.{text_len as change_len}
use Rattle.cq_history.specs.Gone.{kept_count, kept_bytes}
use Rattle.cq_history.specs.Lawful.{is_full, kept_changes, kept_text_bytes}
use Rattle.cq_history.specs.State.{new_slot, state, accepted}
use Rattle.cq_history.specs.declared.event.Event.{Event}
use Rattle.cq_history.specs.declared.event.Event.TheVariants.{Accept}
use Rattle.cq_history.proofs.Keeping.{all_kept}
use Rattle.cq_history.proofs.Prefixes.{accepted-append}
use Rattle.cq_hub.specs.Hubs.{Calls, Grows, Never}
use Rattle.cq_hub.specs.Says.{IsRefusedFor}
use Rattle.cq_talk.specs.Causes.{state_at, cause}
use Rattle.cq_talk.specs.Steps.{IsClosed, Leads}
use Rattle.cq_talk.proofs.AloneRows.{alone_same}
use Rattle.cq_talk.proofs.Causing.{cause_is, changes_new}
use Rattle.cq_talk.proofs.Leading.{lead_event}
use Rattle.cq_talk.proofs.Rooming.{none_higher}
use Rattle.cq_make.specs.Generator.{put_of, puts_to, text_of}
use Rattle.cq_make.proofs.Texts.{text_len}

pub puts_many : (number files : ℕ) → length (puts_to number files) ≡ files
puts_many number zero = refl
puts_many number (suc file) =
    let before = puts_many number file in
    let both = length-append (puts_to number file) (put_of number file ∷ []) in
    omega (arith, before, both)

puts_len : (number files : ℕ) → sum_by change_len (puts_to number files) ≤ 280 * files
puts_len number zero = omega arith
puts_len number (suc file) =
    let before = puts_len number file in
    let here = text_len number file in
    let both = sum_by-append change_len (puts_to number file) (put_of number file ∷ []) in
    omega (arith, before, here, both)

-- there is no cause against the next one, with no version given up, nor with some
no_cause : (set : Settings) (number file floor : ℕ) → file + 1 ≤ set.change_limit → file < 2 ^ 60 → 280 * (file + 1) ≤ set.text_limit → cause set (puts_to number file) floor (put_of number file) ≡ None
no_cause set number file floor few low room =
    let puts = puts_to number file in
    let same = changes_new puts in
    let all = all_kept puts in
    let many = length-map puts new_slot in
    let count = puts_many number file in
    let bytes = puts_len number file in
    let here = text_len number file in
    let kept : kept_changes (state_at puts 0) ≡ length puts = ap (λ cs. kept_count cs 0) same ∙ all.0 in
    let sum : kept_text_bytes (state_at puts 0) ≡ sum_by change_len puts = ap (λ cs. kept_bytes cs 0) same ∙ all.1 in
    let not_full : is_full set (state_at puts 0) ≡ false =
    or_from (nat_le set.change_limit (kept_changes (state_at puts 0))) (nat_le (2 ^ 60) (length (map new_slot puts))) (lt-leb set.change_limit (kept_changes (state_at puts 0)) (omega (arith, kept, count, few))) (lt-leb (2 ^ 60) (length (map new_slot puts)) (omega (arith, many, count, low))) in
    let not_long : nat_lt set.text_limit (kept_text_bytes (state_at puts 0) + length (text_of number file)) ≡ false = le-ltb set.text_limit (kept_text_bytes (state_at puts 0) + length (text_of number file)) (omega (arith, sum, bytes, here, room)) in
    none_higher set puts 0 floor (omega arith) (put_of number file) (ap₂ (λ full long. cond full (Some refused.FullChanges) (cond long (Some refused.FullText) None)) not_full not_long)

-- a cause other than memory
abbrev pub IsOther : Refused → Type 0
IsOther refused.Memory = ⊥
IsOther refused.Absent = Unit {0}
IsOther refused.FullChanges = Unit {0}
IsOther refused.FullText = Unit {0}

pub never_refused : (set : Settings) (number file c : ℕ) (h mid : List Event) (change : Change) (why : Refused) → file + 1 ≤ set.change_limit → file < 2 ^ 60 → 280 * (file + 1) ≤ set.text_limit
    → accepted h ≡ puts_to number file → change ≡ put_of number file → Grows (Unit {0}) Never c h mid [] → IsOther why → IsRefusedFor set 1 change why mid → ⊥
never_refused set number file c h mid change why few low room put is others other (inl memory) = subst IsOther memory other
never_refused set number file c h mid change why few low room put is others other (inr told) =
    let known : accepted mid ≡ puts_to number file = ap accepted (alone_same c h mid others) ∙ put in
    let none : Some why ≡ None = sym told ∙ cause_is set 1 mid (puts_to number file) change known ∙ ap (cause set (puts_to number file) (state 1 mid).floor) is ∙ no_cause set number file (state 1 mid).floor few low room in
    absurd (cc)

pub one_put : {S P : Type 0} (Stands : S → P → ℕ → List Event → Type 0) (number file c : ℕ) (hub : S) (pass : P) (h : List Event) (change : Change) (Says : List Event → Type 0)
    → Calls Stands (Unit {0}) Never c hub pass h (Accept c change ∷ []) Says → IsClosed 1 c h → change ≡ put_of number file → accepted h ≡ puts_to number file
    → Leads Stands 1 c hub pass (λ after. accepted after ≡ puts_to number (file + 1))
one_put Stands number file c hub pass h change Says call closed is put =
    lead_event Stands (Unit {0}) 1 c hub pass Never h (Accept c change) Says _ call refl tt closed
    (λ others says.
    let one : suc file ≡ file + 1 = omega arith in
    accepted-append call.mid (Accept c change ∷ [])
    ∙ ap₂ (λ before next. before ++ next ∷ []) (ap accepted (alone_same c h call.mid others) ∙ put) is
    ∙ ap (puts_to number) one)
