-- The puts that a floor keeps stay those when more is accepted.
use Rattle.std.proofs.Common.{◌≡◌, ℕ, ◌-◌, ◌≤◌, Bool, List, ◌++◌, length, get_or, sym, ap, ◌∙◌, arith, length-append}
use Rattle.std.proofs.lemmas.List.{get_or_append_left}
use Rattle.cq_base.specs.declared.change.Change.{Change}
use Rattle.cq_base.specs.declared.change.Change.TheVariants.{Put, Drop, Gate}
use Rattle.cq_history.specs.Changes.{is_put, is_of_file, is_gate_of, no_change, IsNumber}
use Rattle.cq_history.specs.Gone.{IsFollowed, IsOver, IsGone, AreKeptPuts}
use Rattle.cq_history.proofs.Numbers.{change_at-append}
use Rattle.cq_history.proofs.Forgetting.{stays_gone}

module _ (changes later : List Change) (floor : ℕ) (low : floor ≤ length changes) where
  was_followed : (test : Change → Bool) (r : ℕ) → IsFollowed test (changes ++ later) floor r → IsFollowed test changes floor r
  was_followed test r f = record {
    later = f.later;
    change = f.change;
    behind = f.behind;
    within = f.within;
    next = sym (change_at-append changes later f.later (omega (arith, f.behind), omega (arith, f.within, low))) ∙ f.next;
    passes = f.passes;
  }

  was_over : (r : ℕ) (c : Change) → IsOver (changes ++ later) floor r c → IsOver changes floor r c
  was_over r (Put project path lang text) over = was_followed (is_of_file project path) r over
  was_over r (Drop project path) over = tt
  was_over r (Gate project conditions) over = was_followed (is_gate_of project) r over

  pub was_gone : (r : ℕ) → IsGone (changes ++ later) floor r → IsGone changes floor r
  was_gone r g =
      let number : IsNumber changes r = (g.accepted.0, omega (arith, g.within, low)) in
      record {
        change = g.change;
        accepted = number;
        within = g.within;
        is = sym (change_at-append changes later r number) ∙ g.is;
        over = was_over r g.change g.over;
      }

  same_put : (r : ℕ) → IsNumber changes r → is_put (get_or (changes ++ later) (r - 1) no_change) ≡ is_put (get_or changes (r - 1) no_change)
  same_put r is = ap is_put (get_or_append_left changes later no_change (r - 1) (omega (arith, is.0, is.1)))

  pub puts_stay : (keep : List ℕ) → AreKeptPuts changes floor keep → AreKeptPuts (changes ++ later) floor keep
  puts_stay keep are =
      let more = length-append changes later in
      record {
        rising = are.rising;
        each = λ r. (
          λ has.
              let is = (are.each r).0 has in
              (((is.0.0.0, omega (arith, is.0.0.1, more)), λ g. is.0.1 (was_gone r g)), is.1, same_put r is.0.0 ∙ is.2),
          λ is.
              let number : IsNumber changes r = (is.0.0.0, omega (arith, is.1, low)) in
              (are.each r).1 ((number, λ g. is.0.1 (stays_gone changes later floor floor r (omega arith) g)), is.1, sym (same_put r number) ∙ is.2),
        );
      }

pub kept_puts_stay : (changes later : List Change) (floor : ℕ) (keep : List ℕ) → floor ≤ length changes → AreKeptPuts changes floor keep → AreKeptPuts (changes ++ later) floor keep
kept_puts_stay changes later floor keep low are = puts_stay changes later floor low keep are
