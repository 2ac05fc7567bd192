-- The longest spelling at the front, as a scan reads one character more.
use Rattle.std.proofs.Common.{◌≡◌, ℕ, ◌+◌, ◌<◌, ◌≤◌, Option, Some, None, List, [], ◌∷◌, ◌++◌, ◌↔◌, length, take, drop, arith, refl, sym, ap, subst, ◌∙◌, ⊎_elim, length-take-le, map, get_or, append_assoc}
use Rattle.std.proofs.lemmas.List.{take-take, take_all, take_more, drop_more, append-nil, get_or-map, length-map, get_or-take, take-append-drop}
use Rattle.std.proofs.lemmas.Bool.{cases_lt}
use Rattle.cq_munch.specs.declared.unit.Unit.{Unit}
use Rattle.cq_munch.specs.Longest.{LongestAt}
use Rattle.cq_munch.specs.Scans.{Scanned}

-- what holds of the first i characters alone
module _ (set : List ℕ → Type 0) (text : List ℕ) (i : ℕ) (inside : i ≤ length text) where
  length_is : length (take i text) ≡ i
  length_is = length-take-le i text inside

  front_is : (m : ℕ) → m ≤ i → take m (take i text) ≡ take m text
  front_is m h = take-take m i text h

  -- no spelling ends after i, so the longest of the front is the longest of all
  pub stopped : (found : Option ℕ) → LongestAt set (take i text) found → ((m : ℕ) → i < m → m ≤ length text → set (take m text) → ⊥) → LongestAt set text found
  stopped None h none = λ m some within spelled.
      ⊎_elim
      (λ behind. none m behind within spelled)
      (λ before. h m some (omega (arith, length_is)) (subst set (sym (front_is m before)) spelled))
      (cases_lt i m)
  stopped (Some n) h none =
      let short : n ≤ i = omega (arith, h.within, length_is) in
      record {
        some = h.some;
        within = omega arith;
        spelled = subst set (front_is n short) h.spelled;
        longest = λ m more within spelled.
            ⊎_elim
            (λ behind. none m behind within spelled)
            (λ before. h.longest m more (omega (arith, length_is)) (subst set (sym (front_is m before)) spelled))
            (cases_lt i m);
      }

  longer_front : i < length text → length (take (i + 1) text) ≡ i + 1
  longer_front h = length-take-le (i + 1) text (omega arith)

  -- a spelling that ends after character i is the longest so far
  pub won : i < length text → set (take (i + 1) text) → LongestAt set (take (i + 1) text) (Some (i + 1))
  won h spelled = record {
    some = omega arith;
    within = omega (arith, longer_front h);
    spelled = subst set (sym (take-take (i + 1) (i + 1) text (omega arith))) spelled;
    longest = λ m more within. absurd (omega (arith, longer_front h));
  }

-- none ends there, so the longest stays
pub kept : (set : List ℕ → Type 0) (text : List ℕ) (i : ℕ) (found : Option ℕ) → i < length text → LongestAt set (take i text) found
    → (set (take (i + 1) text) → ⊥) → LongestAt set (take (i + 1) text) found
kept set text i found h best none =
    let front = take (i + 1) text in
    let length_is : length (take (i + 1) text) ≡ i + 1 = length-take-le (i + 1) text (omega arith) in
    let shorter : take i (take (i + 1) text) ≡ take i text = take-take i (i + 1) text (omega arith) in
    stopped set (take (i + 1) text) i (omega (arith, length_is)) found (subst (λ t. LongestAt set t found) (sym shorter) best)
    (λ m more within spelled.
    let m_is : m ≡ i + 1 = omega (arith, length_is) in
    none (subst set (ap (λ k. take k (take (i + 1) text)) m_is ∙ take-take (i + 1) (i + 1) text (omega arith)) spelled))

module _ {set rest : List ℕ → Type 0} {text : List ℕ} {i : ℕ} {found : Option ℕ} (so_far : Scanned set rest text i found) (c : ℕ) (inside : i < length text) (c_is : get_or text i 0 ≡ c) where
  one_more : take (i + 1) text ≡ take i text ++ c ∷ []
  one_more = take_more text i 0 inside ∙ ap (λ v. take i text ++ v ∷ []) c_is

  module _ (rest' : List ℕ → Type 0) (next : (s : List ℕ) → rest (c ∷ s) ↔ rest' s) where
    regrouped : (s : List ℕ) → take (i + 1) text ++ s ≡ take i text ++ c ∷ s
    regrouped s = ap (λ v. v ++ s) one_more ∙ append_assoc (take i text) (c ∷ []) s

    still_goes : (s : List ℕ) → set (take (i + 1) text ++ s) ↔ rest' s
    still_goes s = (
      λ h. (next s).0 ((so_far.goes (c ∷ s)).0 (subst set (regrouped s) h)),
      λ h. subst set (sym (regrouped s)) ((so_far.goes (c ∷ s)).1 ((next s).1 h)),
    )

    -- a spelling ends after c
    pub scanned_won : rest' [] → Scanned set rest' text (i + 1) (Some (i + 1))
    scanned_won ends = record {
      goes = still_goes;
      best = won set text i (omega arith) inside (subst set (append-nil (take (i + 1) text)) ((still_goes []).1 ends));
    }

    -- none does
    pub scanned_kept : (rest' [] → ⊥) → Scanned set rest' text (i + 1) found
    scanned_kept none = record {
      goes = still_goes;
      best = kept set text i found inside so_far.best (λ h. none ((still_goes []).0 (subst set (sym (append-nil (take (i + 1) text))) h)));
    }

  -- nothing goes on with c
  pub scanned_stopped : ((s : List ℕ) → rest (c ∷ s) → ⊥) → LongestAt set text found
  scanned_stopped none =
      stopped set text i (omega arith) found so_far.best
      (λ m more within spelled.
      let front = take m text in
      let length_is : length (take m text) ≡ m = length-take-le m text within in
      let c_there : get_or (take m text) i 0 ≡ c = get_or-take m text i 0 more ∙ c_is in
      let cut : take m text ≡ take i text ++ c ∷ drop (i + 1) (take m text) =
      sym (take-append-drop i (take m text)) ∙ (λ j. take-take i m text (omega arith) j ++ drop_more (take m text) i 0 (omega (arith, length_is)) j)
      ∙ ap (λ v. take i text ++ v ∷ drop (i + 1) (take m text)) c_there in
      none (drop (i + 1) (take m text)) ((so_far.goes _).0 (subst set cut spelled)))

-- the scan has read all
pub scanned_all : (set rest : List ℕ → Type 0) (text : List ℕ) (i : ℕ) (found : Option ℕ) → Scanned set rest text i found → length text ≤ i → LongestAt set text found
scanned_all set rest text i found so_far end = subst (λ t. LongestAt set t found) (take_all i text end) so_far.best

pub scanned_none : (set : List ℕ → Type 0) (text : List ℕ) → Scanned set set text 0 None
scanned_none set text = record { goes = λ s. (λ h. h, λ h. h); best = λ m some within. absurd (omega arith) }

-- nothing goes on from the state
pub scanned_ended : (set rest : List ℕ → Type 0) (text : List ℕ) (i : ℕ) (found : Option ℕ) → Scanned set rest text i found → ((c : ℕ) (s : List ℕ) → rest (c ∷ s) → ⊥) → LongestAt set text found
scanned_ended set rest text i found so_far none =
    ⊎_elim
    (λ inside. scanned_stopped so_far (get_or text i 0) inside refl (none (get_or text i 0)))
    (λ end. scanned_all set rest text i found so_far end)
    (cases_lt i (length text))

-- a unit's character
pub ch_at : (units : List Unit) (i : ℕ) → i < length units → get_or (map (λ (u : Unit). u.ch) units) i 0 ≡ (get_or units i (record { ch = 0; start = 0; len = 0 })).ch
ch_at units i h = get_or-map (λ (u : Unit). u.ch) units i (record { ch = 0; start = 0; len = 0 }) 0 h

pub as_many : (units : List Unit) (i : ℕ) → i < length units → i < length (map (λ (u : Unit). u.ch) units)
as_many units i h = let e = length-map units (λ (u : Unit). u.ch) in omega arith

-- and as a table sees it
pub seen_at : (stood : ℕ → ℕ) (units : List Unit) (i : ℕ) → i < length units → get_or (map (λ (u : Unit). stood u.ch) units) i 0 ≡ stood (get_or units i (record { ch = 0; start = 0; len = 0 })).ch
seen_at stood units i h = get_or-map (λ (u : Unit). stood u.ch) units i (record { ch = 0; start = 0; len = 0 }) 0 h

pub as_many_seen : (stood : ℕ → ℕ) (units : List Unit) (i : ℕ) → i < length units → i < length (map (λ (u : Unit). stood u.ch) units)
as_many_seen stood units i h = let e = length-map units (λ (u : Unit). stood u.ch) in omega (arith, e, h)

-- the same spellings have the same longest one
pub LongestAt-same : (S T : List ℕ → Type 0) → ((s : List ℕ) → S s ↔ T s) → (text : List ℕ) (found : Option ℕ) → LongestAt S text found → LongestAt T text found
LongestAt-same S T same text None h = λ m some within spelled. h m some within ((same _).1 spelled)
LongestAt-same S T same text (Some n) h = record {
  some = h.some;
  within = h.within;
  spelled = (same _).0 h.spelled;
  longest = λ m more within spelled. h.longest m more within ((same _).1 spelled);
}
