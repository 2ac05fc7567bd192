-- What one change more lets go of, as soon as the floor is there.
use Rattle.std.proofs.Common.{◌≡◌, ◌⊎◌, ◌↔◌, ℕ, zero, suc, ◌+◌, ◌<◌, ◌≤◌, Bool, true, false, List, [], ◌∷◌, ◌++◌, length, take, drop, Option, Some, None, refl, sym, ap, ◌∙◌, subst, inl, inr, ⊎_elim, arith, true≢false}
use Rattle.std.specs.Prelude.{All, AllPairs, Contains}
use Rattle.std.specs.List.{list_any}
use Rattle.std.proofs.lemmas.Bool.{cases_lt}
use Rattle.std.proofs.lemmas.Option.{none-some}
use Rattle.std.proofs.lemmas.List.{length-append}
use Rattle.std.proofs.lemmas.List.Elements.{All-append, All-nil, Contains-append_left, Contains-append_right, Contains-append_cases}
use Rattle.cq_base.specs.declared.lang.Lang.{Lang}
use Rattle.cq_base.specs.declared.change.Condition.{Condition}
use Rattle.cq_base.specs.declared.change.Change.{Change}
use Rattle.cq_base.specs.declared.change.Change.TheVariants.{Put, Drop, Gate}
use Rattle.cq_base.proofs.Lists.{AllPairs-nil, AllPairs-append}
use Rattle.cq_history.specs.Changes.{change_at, is_of_file, is_gate_of, IsNumber}
use Rattle.cq_history.specs.Gone.{IsFollowed, IsOver, IsGone}
use Rattle.cq_history.proofs.Forgetting.{any_follows, follows_any, stays_gone}
use Rattle.cq_history.proofs.Numbers.{change_at-append}
use Rattle.cq_history.proofs.Standing.{newest, no_later}
use Rattle.cq_kept.specs.declared.over.Over.{Over}
use Rattle.cq_kept.specs.Over.{noted, IsNoLater, AreOthers, AreNoted}

some_same : {A : Type 0} (a b : A) → Some a ≡ Some b → a ≡ b
some_same a b h = cc h

-- ---- a later change that passes a test

abbrev pub NoneBehind : (Change → Bool) → List Change → ℕ → Type 0
NoneBehind test changes r = (k : ℕ) (d : Change) → r < k → change_at changes k ≡ Some d → test d ≡ true → ⊥

module _ (test : Change → Bool) (changes : List Change) where
  within_changes : (k : ℕ) (d : Change) → change_at changes k ≡ Some d → k ≤ length changes
  within_changes k d is = ⊎_elim (λ past. absurd (no_later changes k d past is)) (λ le. le) (cases_lt (length changes) k)

  followed_or_none : (r : ℕ) → IsFollowed test changes (length changes) r ⊎ NoneBehind test changes r
  followed_or_none r = by (list_any test (drop r (take (length changes) changes))) refl
    where
      by : (b : Bool) → list_any test (drop r (take (length changes) changes)) ≡ b → IsFollowed test changes (length changes) r ⊎ NoneBehind test changes r
      by true is = inl (any_follows test changes (length changes) r is)
      by false is = inr (λ k d behind at passes.
          true≢false (sym (follows_any test changes (length changes) r (record { later = k; change = d; behind = behind; within = within_changes k d at; next = at; passes = passes })) ∙ is))

  followed_at : (floor higher r : ℕ) → floor ≤ higher → IsFollowed test changes floor r → IsFollowed test changes higher r
  followed_at floor higher r le f = record {
    later = f.later;
    change = f.change;
    behind = f.behind;
    within = omega (arith, f.within, le);
    next = f.next;
    passes = f.passes;
  }

  module _ (c : Change) where
    many : length (changes ++ c ∷ []) ≡ length changes + 1
    many = length-append changes (c ∷ [])

    was_followed : (floor r : ℕ) → IsFollowed test (changes ++ c ∷ []) floor r → IsFollowed test changes floor r ⊎ ((length changes + 1 ≤ floor) × (test c ≡ true))
    was_followed floor r f =
        ⊎_elim
        (λ (past : length changes < f.later).
        ⊎_elim
        (λ (beyond : length changes + 1 < f.later). absurd (no_later (changes ++ c ∷ []) f.later f.change (omega (arith, beyond, many)) f.next))
        (λ (here : f.later ≤ length changes + 1).
        let same : c ≡ f.change = some_same c f.change (sym (newest changes c f.later (omega (arith, past, here))) ∙ f.next) in
        inr (omega (arith, past, f.within), ap test same ∙ f.passes))
        (cases_lt (length changes + 1) f.later))
        (λ (before : f.later ≤ length changes).
        inl (record {
          later = f.later;
          change = f.change;
          behind = f.behind;
          within = f.within;
          next = sym (change_at-append changes (c ∷ []) f.later (omega (arith, f.behind), before)) ∙ f.next;
          passes = f.passes;
        }))
        (cases_lt (length changes) f.later)

    now_followed : (floor r : ℕ) → r ≤ length changes → length changes + 1 ≤ floor → test c ≡ true → IsFollowed test (changes ++ c ∷ []) floor r
    now_followed floor r low up passes = record {
      later = length changes + 1;
      change = c;
      behind = omega (arith, low);
      within = up;
      next = newest changes c (length changes + 1) refl;
      passes = passes;
    }

    last_not_followed : (floor r : ℕ) → r ≡ length changes + 1 → IsFollowed test (changes ++ c ∷ []) floor r → ⊥
    last_not_followed floor r at f = no_later (changes ++ c ∷ []) f.later f.change (omega (arith, at, f.behind, many)) f.next

-- ---- what one change more lets go of

-- a put of the file that the change names, and no later one names it
pub record IsEndedPut (changes : List Change) (c : Change) (r : ℕ) : Type 0 where
  pub project : List ℕ
  pub path : List ℕ
  pub lang : Lang
  pub text : List ℕ
  pub number : IsNumber changes r
  pub is : change_at changes r ≡ Some (Put project path lang text)
  pub names : is_of_file project path c ≡ true
  pub none : NoneBehind (is_of_file project path) changes r

-- a gate of the project to which the change gives conditions, and no later one gives it some
pub record IsEndedGate (changes : List Change) (c : Change) (r : ℕ) : Type 0 where
  pub project : List ℕ
  pub conditions : List Condition
  pub number : IsNumber changes r
  pub is : change_at changes r ≡ Some (Gate project conditions)
  pub names : is_gate_of project c ≡ true
  pub none : NoneBehind (is_gate_of project) changes r

abbrev pub IsDropping : Change → Type 0
IsDropping (Put project path lang text) = ⊥
IsDropping (Drop project path) = Unit {0}
IsDropping (Gate project conditions) = ⊥

abbrev pub IsEnded : List Change → Change → ℕ → Type 0
IsEnded changes c r = IsEndedPut changes c r ⊎ (IsEndedGate changes c r ⊎ ((r ≡ length changes + 1) × IsDropping c))

module _ (changes : List Change) (c : Change) where
  longer_by : length (changes ++ c ∷ []) ≡ length changes + 1
  longer_by = length-append changes (c ∷ [])

  gone_by : (floor r : ℕ) (d : Change) → IsNumber changes r → r ≤ floor → change_at changes r ≡ Some d → IsOver changes floor r d → IsGone changes floor r
  gone_by floor r d number within is over = record { change = d; accepted = number; within = within; is = is; over = over }

  -- an older one
  old_gone : (floor r : ℕ) (d : Change) → IsNumber changes r → r ≤ floor → change_at changes r ≡ Some d → IsOver (changes ++ c ∷ []) floor r d → IsGone changes floor r ⊎ ((length changes + 1 ≤ floor) × IsEnded changes c r)
  old_gone floor r (Put q p lang text) number within is over =
      let test : Change → Bool = is_of_file q p in
      ⊎_elim
      (λ was. inl (gone_by floor r (Put q p lang text) number within is was))
      (λ (up, names).
      ⊎_elim
      (λ was. inl (gone_by floor r (Put q p lang text) number within is (followed_at test changes (length changes) floor r (omega (arith, up)) was)))
      (λ none. inr (up, inl (record { project = q; path = p; lang = lang; text = text; number = number; is = is; names = names; none = none })))
      (followed_or_none test changes r))
      (was_followed test changes c floor r over)
  old_gone floor r (Drop q p) number within is over = inl (gone_by floor r (Drop q p) number within is tt)
  old_gone floor r (Gate q conditions) number within is over =
      let test : Change → Bool = is_gate_of q in
      ⊎_elim
      (λ was. inl (gone_by floor r (Gate q conditions) number within is was))
      (λ (up, names).
      ⊎_elim
      (λ was. inl (gone_by floor r (Gate q conditions) number within is (followed_at test changes (length changes) floor r (omega (arith, up)) was)))
      (λ none. inr (up, inr (inl (record { project = q; conditions = conditions; number = number; is = is; names = names; none = none }))))
      (followed_or_none test changes r))
      (was_followed test changes c floor r over)

  -- the newest
  new_gone : (floor r : ℕ) (d : Change) → r ≡ length changes + 1 → IsOver (changes ++ c ∷ []) floor r d → IsDropping d
  new_gone floor r (Put q p lang text) at over = absurd (last_not_followed (is_of_file q p) changes c floor r at over)
  new_gone floor r (Drop q p) at over = tt
  new_gone floor r (Gate q conditions) at over = absurd (last_not_followed (is_gate_of q) changes c floor r at over)

  dropping_over : (floor r : ℕ) (d : Change) → IsDropping d → IsOver (changes ++ c ∷ []) floor r d
  dropping_over floor r (Put q p lang text) is = absurd is
  dropping_over floor r (Drop q p) is = tt
  dropping_over floor r (Gate q conditions) is = absurd is

  gone_more : (floor r : ℕ) → IsGone (changes ++ c ∷ []) floor r ↔ (IsGone changes floor r ⊎ ((length changes + 1 ≤ floor) × IsEnded changes c r))
  gone_more floor r = (
    λ g. ⊎_elim
        (λ (past : length changes < r).
        let at : r ≡ length changes + 1 = omega (arith, past, g.accepted.1, longer_by) in
        let same : g.change ≡ c = some_same g.change c (sym g.is ∙ newest changes c r at) in
        inr (omega (arith, at, g.within), inr (inr (at, subst IsDropping same (new_gone floor r g.change at g.over)))))
        (λ (low : r ≤ length changes).
        old_gone floor r g.change (g.accepted.0, low) g.within (sym (change_at-append changes (c ∷ []) r (g.accepted.0, low)) ∙ g.is) g.over)
        (cases_lt (length changes) r),
    λ either. ⊎_elim
        (λ was. stays_gone changes (c ∷ []) floor floor r (omega arith) was)
        (λ (up, ended).
        ⊎_elim
        (λ (e : IsEndedPut changes c r).
        record {
          change = Put e.project e.path e.lang e.text;
          accepted = (e.number.0, omega (arith, e.number.1, longer_by));
          within = omega (arith, e.number.1, up);
          is = change_at-append changes (c ∷ []) r e.number ∙ e.is;
          over = now_followed (is_of_file e.project e.path) changes c floor r e.number.1 up e.names;
        })
        (λ rest.
        ⊎_elim
        (λ (e : IsEndedGate changes c r).
        record {
          change = Gate e.project e.conditions;
          accepted = (e.number.0, omega (arith, e.number.1, longer_by));
          within = omega (arith, e.number.1, up);
          is = change_at-append changes (c ∷ []) r e.number ∙ e.is;
          over = now_followed (is_gate_of e.project) changes c floor r e.number.1 up e.names;
        })
        (λ (at, dropping).
        record {
          change = c;
          accepted = (omega (arith, at), omega (arith, at, longer_by));
          within = omega (arith, at, up);
          is = newest changes c r at;
          over = dropping_over floor r c dropping;
        })
        rest)
        ended)
        either,
  )

  -- it was kept till then
  not_yet : (floor r : ℕ) → IsEnded changes c r → IsGone changes floor r → ⊥
  not_yet floor r ended g =
      ⊎_elim
      (λ (e : IsEndedPut changes c r).
      let f : IsFollowed (is_of_file e.project e.path) changes floor r = subst (IsOver changes floor r) (some_same g.change (Put e.project e.path e.lang e.text) (sym g.is ∙ e.is)) g.over in
      e.none f.later f.change f.behind f.next f.passes)
      (λ rest.
      ⊎_elim
      (λ (e : IsEndedGate changes c r).
      let f : IsFollowed (is_gate_of e.project) changes floor r = subst (IsOver changes floor r) (some_same g.change (Gate e.project e.conditions) (sym g.is ∙ e.is)) g.over in
      e.none f.later f.change f.behind f.next f.passes)
      (λ (at, dropping). omega (arith, at, g.accepted.1))
      rest)
      ended

-- ---- what is noted of it

only : (n : ℕ) (o : Option ℕ) (x : Over) → Contains (noted n o) x → (x.by ≡ n) × (o ≡ Some x.number)
only n None x (k, within, at) = absurd (omega (arith, within))
only n (Some r) x (zero, within, at) = (ap (λ (y : Over). y.by) (sym at), ap (λ (y : Over). Some y.number) at)
only n (Some r) x (suc k, within, at) = absurd (omega (arith, within))

has_noted : (n : ℕ) (o : Option ℕ) (r : ℕ) → o ≡ Some r → Contains (noted n o) (record { by = n; number = r })
has_noted n None r e = absurd (none-some r e)
has_noted n (Some k) r e = (0, omega arith, ap (λ (m : ℕ). let x : Over = record { by = n; number = m } in x) (some_same k r e))

few_pairs : (R : Over → Over → Type 0) (n : ℕ) (o : Option ℕ) → AllPairs R (noted n o)
few_pairs R n None i j d lt within = absurd (omega (arith, within))
few_pairs R n (Some r) i j d lt within = absurd (omega (arith, lt, within))

all_noted : (P : Over → Type 0) (n : ℕ) (o : Option ℕ) → ((r : ℕ) → P (record { by = n; number = r })) → All P (noted n o)
all_noted P n None each k d within = absurd (omega (arith, within))
all_noted P n (Some r) each zero d within = each r
all_noted P n (Some r) each (suc k) d within = absurd (omega (arith, within))

at_all : (P : Over → Type 0) (all : List Over) → All P all → (x : Over) → Contains all x → P x
at_all P all each x (k, within, at) = subst P at (each k x within)

module _ (changes : List Change) (c : Change) (o own : Option ℕ) (ends : (r : ℕ) → ((o ≡ Some r) ⊎ (own ≡ Some r)) ↔ IsEnded changes c r) (apart : (r : ℕ) → o ≡ Some r → own ≡ Some r → ⊥) (low : ℕ) (all : List Over) (within_low : low ≤ length changes) (are : AreNoted changes low all) where
  abbrev n : ℕ
  n = length changes + 1

  abbrev news : List Over
  news = noted (length changes + 1) o ++ noted (length changes + 1) own

  of_news : (x : Over) → Contains news x → (x.by ≡ n) × ((o ≡ Some x.number) ⊎ (own ≡ Some x.number))
  of_news x has =
      ⊎_elim
      (λ first. let p = only n o x first in (p.0, inl p.1))
      (λ second. let p = only n own x second in (p.0, inr p.1))
      (Contains-append_cases (noted n o) (noted n own) x has)

  in_news : (r : ℕ) → ((o ≡ Some r) ⊎ (own ≡ Some r)) → Contains news (record { by = length changes + 1; number = r })
  in_news r either =
      ⊎_elim
      (λ is. Contains-append_left (noted n o) (noted n own) _ (has_noted n o r is))
      (λ is. Contains-append_right (noted n o) (noted n own) _ (has_noted n own r is))
      either

  pub noted_more : AreNoted (changes ++ c ∷ []) low (all ++ (noted (length changes + 1) o ++ noted (length changes + 1) own))
  noted_more =
      let more = length-append changes (c ∷ []) in
      record {
        in_order = AllPairs-append IsNoLater all news are.in_order
            (AllPairs-append IsNoLater (noted n o) (noted n own) (few_pairs IsNoLater n o) (few_pairs IsNoLater n own) (λ x y first second. let p = only n o x first in let q = only n own y second in omega (arith, p.0, q.0)))
            (λ x y old new. let p = of_news y new in let q = at_all (λ x. x.by ≤ length changes) all are.known x old in omega (arith, p.0, q));
        once = AllPairs-append AreOthers all news are.once
            (AllPairs-append AreOthers (noted n o) (noted n own) (few_pairs AreOthers n o) (few_pairs AreOthers n own)
            (λ x y first second same. apart x.number (only n o x first).1 ((only n own y second).1 ∙ ap (λ m. Some m) (sym same))))
            (λ x y old new same.
            let above = at_all (λ x. low < x.by) all are.above x old in
            let gone = ((are.each x.by x.number (omega (arith, above))).0 (x, old, omega arith, refl)).0 in
            not_yet changes c x.by x.number (subst (IsEnded changes c) (sym same) ((ends y.number).0 (of_news y new).1)) gone);
        above = All-append (λ x. low < x.by) all news are.above
            (All-append (λ x. low < x.by) (noted n o) (noted n own) (all_noted (λ x. low < x.by) n o (λ r. omega (arith, within_low))) (all_noted (λ x. low < x.by) n own (λ r. omega (arith, within_low))));
        known = All-append (λ x. x.by ≤ length (changes ++ c ∷ [])) all news (λ k d lt. omega (arith, are.known k d lt, more))
            (All-append (λ x. x.by ≤ length (changes ++ c ∷ [])) (noted n o) (noted n own) (all_noted (λ x. x.by ≤ length (changes ++ c ∷ [])) n o (λ r. omega (arith, more))) (all_noted (λ x. x.by ≤ length (changes ++ c ∷ [])) n own (λ r. omega (arith, more))));
        each = λ higher r up. (
          λ (x, has, within, is).
              ⊎_elim
              (λ old.
              let gone = (are.each higher r up).0 (x, old, within, is) in (
                (gone_more changes c higher r).1 (inl gone.0),
                λ now. ⊎_elim (λ early. gone.1 early) (λ (past, ended). omega (arith, past, within_low)) ((gone_more changes c low r).0 now),
              ))
              (λ new.
              let p = of_news x new in
              let ended : IsEnded changes c r = subst (IsEnded changes c) is ((ends x.number).0 p.1) in (
                (gone_more changes c higher r).1 (inr (omega (arith, p.0, within), ended)),
                λ now. ⊎_elim (λ early. not_yet changes c low r ended early) (λ (past, again). omega (arith, past, within_low)) ((gone_more changes c low r).0 now),
              ))
              (Contains-append_cases all news x has),
          λ (gone, kept).
              ⊎_elim
              (λ was.
              let (x, old, within, is) = (are.each higher r up).1 (was, λ early. kept ((gone_more changes c low r).1 (inl early))) in
              (x, Contains-append_left all news x old, within, is))
              (λ (past, ended). (record { by = length changes + 1; number = r }, Contains-append_right all news _ (in_news r ((ends r).1 ended)), past, refl))
              ((gone_more changes c higher r).0 gone),
        );
      }

-- nothing is over before there are changes
pub none_noted : AreNoted [] 0 []
none_noted = record {
  in_order = AllPairs-nil IsNoLater;
  once = AllPairs-nil AreOthers;
  above = All-nil (λ x. 0 < x.by);
  known = All-nil (λ x. x.by ≤ 0);
  each = λ higher r up. (λ (x, (k, within, at), le, is). absurd (omega (arith, within)), λ (gone, kept). absurd (omega (arith, gone.accepted.0, gone.accepted.1)));
}
