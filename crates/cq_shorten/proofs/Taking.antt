-- One change more is held, with its line.
use Rattle.std.proofs.Common.{◌≡◌, ◌⊎◌, ℕ, ◌+◌, ◌-◌, ◌<◌, ◌≤◌, true, false, List, [], ◌∷◌, ◌++◌, length, map, get_or, nat_eq, Some, sym, ap, ap₂, ◌∙◌, subst, ⊎_elim, length-append, arith}
use Rattle.std.specs.Prelude.{Vec, is_none}
use Rattle.std.specs.BTreeMap.{BTreeMap, get, is_at}
use Rattle.std.specs.Cmp.{unsigned_tied}
use Rattle.std.specs.Ordering.{nat_cmp}
use Rattle.std.specs.declared.alloc.Global.{Global}
use Rattle.std.proofs.Math.ListN.{get_or-append}
use Rattle.std.proofs.Math.Seq.{get_or-append_seam}
use Rattle.std.proofs.lemmas.Bool.{cases_lt, eqb-true, false_from_ne_true}
use Rattle.std.proofs.lemmas.List.{length-map, map-append}
use Rattle.cq_base.specs.declared.change.Change.{Change}
use Rattle.cq_base.specs.declared.settings.Settings.{Settings}
use Rattle.cq_board.specs.Answers.{cause_among}
use Rattle.cq_history.proofs.Forgetting.{stays_gone}
use Rattle.cq_history.specs.Gone.{IsKept}
use Rattle.cq_history.specs.Lawful.{is_absent, is_full, is_long}
use Rattle.cq_history.specs.State.{new_slot}
use Rattle.cq_kept.specs.Accepted.{Accepted, Holds, accepted_from, bare_state, with_accepted}
use Rattle.cq_log.specs.Logs.{is_accepted}
use Rattle.cq_shorten.proofs.Deciding.{accepted_without, refused_with}
use Rattle.cq_shorten.specs.Keeping.{Has, HasLine}
use Rattle.cq_shorten.specs.declared.held.Shortener.{Shortener}
use Rattle.cq_talk.proofs.Causing.{changes_new}

-- one change more was accepted
pub one_longer : (old new : Accepted) (change : Change) → new ≡ with_accepted old change → length new.slots ≡ length old.slots + 1
one_longer old new change is = ap (λ (a : Accepted). length a.slots) is ∙ length-append old.slots (new_slot change ∷ [])

module _ (set : Settings) (own : List (List ℕ)) (changes : List Change) (line : List ℕ) (change : Change) (old new : Shortener) (has : Has old set own changes) where
  -- no test was passed, so it is accepted
  pub none_against : is_absent (bare_state old.changes) change ≡ false → is_full old.changes.settings (bare_state old.changes) ≡ false → is_long old.changes.settings (bare_state old.changes) change ≡ false
      → is_accepted set changes change ≡ true
  none_against there room short =
      subst (λ (a : Accepted). is_none (cause_among (is_absent (bare_state a) change) (is_full a.settings (bare_state a)) (is_long a.settings (bare_state a) change)) ≡ true) has.changes_are
      (accepted_without (is_absent (bare_state old.changes) change) (is_full old.changes.settings (bare_state old.changes)) (is_long old.changes.settings (bare_state old.changes) change) there room short)

  -- a test was passed, so it is not
  pub some_against : (is_absent (bare_state old.changes) change ≡ true) ⊎ ((is_full old.changes.settings (bare_state old.changes) ≡ true) ⊎ (is_long old.changes.settings (bare_state old.changes) change ≡ true))
      → is_accepted set changes change ≡ false
  some_against why =
      subst (λ (a : Accepted). is_none (cause_among (is_absent (bare_state a) change) (is_full a.settings (bare_state a)) (is_long a.settings (bare_state a) change)) ≡ false) has.changes_are
      (refused_with (is_absent (bare_state old.changes) change) (is_full old.changes.settings (bare_state old.changes)) (is_long old.changes.settings (bare_state old.changes) change) why)

  module _ (mid : BTreeMap ℕ (Vec ℕ Global)) (held : Vec ℕ Global) (at : Accepted) (number : ℕ) (next : number ≡ length old.changes.slots + 1) (here : get nat_cmp mid number ≡ Some held) (items : held.items ≡ line)
      (others : (q : ℕ) → is_at (nat_cmp number) q ≡ false → get nat_cmp mid q ≡ get nat_cmp old.lines q)
      (at_is : at ≡ accepted_from old.changes.settings (old.changes.slots ++ new_slot change ∷ []) number) (now : new.changes ≡ at) (eased : (k : ℕ) → Holds at k → get nat_cmp new.lines k ≡ get nat_cmp mid k) where
    many : number ≡ length changes + 1
    many =
        let slots : length old.changes.slots ≡ length (map new_slot changes) = ap (λ (a : Accepted). length a.slots) has.changes_are in
        let count : length (map new_slot changes) ≡ length changes = length-map changes new_slot in
        omega (arith, next, slots, count)

    long : length (changes ++ change ∷ []) ≡ number
    long = omega (arith, many, length-append changes (change ∷ []))

    now_is : new.changes ≡ accepted_from set (map new_slot (changes ++ change ∷ [])) (length (changes ++ change ∷ []))
    now_is =
        now ∙ at_is ∙ ap (λ (a : Accepted). accepted_from a.settings (a.slots ++ new_slot change ∷ []) number) has.changes_are
        ∙ ap₂ (λ slots n. accepted_from set slots n) (sym (map-append new_slot changes (change ∷ []))) (sym long)

    still_held : (k : ℕ) → IsKept (changes ++ change ∷ []) (length (changes ++ change ∷ [])) k → get nat_cmp new.lines k ≡ get nat_cmp mid k
    still_held k kept =
        eased k
        (subst (λ (a : Accepted). Holds a k) (sym now_is ∙ now)
        (subst (λ (cs : List Change). IsKept cs (length (changes ++ change ∷ [])) k) (sym (changes_new (changes ++ change ∷ []))) kept))

    newest_line : (k : ℕ) → k ≡ number → get nat_cmp new.lines k ≡ get nat_cmp mid k → HasLine new k (get_or (own ++ line ∷ []) (k - 1) [])
    newest_line k is same =
        let place : k - 1 ≡ length own = omega (arith, is, many, has.paired) in
        (held, same ∙ ap (λ (n : ℕ). get nat_cmp mid n) is ∙ here, items ∙ sym (ap (λ (i : ℕ). get_or (own ++ line ∷ []) i []) place ∙ get_or-append_seam own line [] []))

    earlier_line : (k : ℕ) → k ≤ length changes → IsKept (changes ++ change ∷ []) (length (changes ++ change ∷ [])) k → get nat_cmp new.lines k ≡ get nat_cmp mid k → HasLine new k (get_or (own ++ line ∷ []) (k - 1) [])
    earlier_line k low kept same =
        let was : HasLine old k (get_or own (k - 1) []) =
        has.lines k ((kept.0.0, low), λ gone. kept.1 (stays_gone changes (change ∷ []) (length changes) (length (changes ++ change ∷ [])) k (omega (arith, long, many)) gone))
        in
        let apart : is_at (nat_cmp number) k ≡ false = unsigned_tied number k ∙ false_from_ne_true (nat_eq number k) (λ e. let same_number = eqb-true number k e in omega (arith, same_number, many, low)) in
        (was.0, same ∙ others k apart ∙ was.1, was.2 ∙ sym (get_or-append own (line ∷ []) [] (k - 1) (omega (arith, kept.0.0, low, has.paired))))

    pub has_one_more : Has new set (own ++ line ∷ []) (changes ++ change ∷ [])
    has_one_more = record {
      changes_are = now_is;
      paired = omega (arith, has.paired, length-append own (line ∷ []), length-append changes (change ∷ []));
      lines = λ k kept.
          ⊎_elim (λ (past : length changes < k). newest_line k (omega (arith, past, kept.0.1, long, many)) (still_held k kept)) (λ (low : k ≤ length changes). earlier_line k low kept (still_held k kept))
          (cases_lt (length changes) k);
    }
