-- The kept places of a word are among its places, and reach over all of them.
use Rattle.std.proofs.Common.{◌≡◌, ◌⊎◌, ℕ, ◌<◌, Bool, true, false, true≢false, cond, Option, Some, None, List, [], ◌∷◌, ◌++◌, refl, subst, inl, inr, ⊎_elim, arith}
use Rattle.std.specs.Prelude.{⊤, AllPairs, Contains}
use Rattle.cq_base.specs.declared.group.Place.{Place}
use Rattle.cq_clones.specs.Groups.{IsBefore, is_free, kept_after, kept_of}
use Rattle.cq_clones.specs.Readers.{Covers}
use Rattle.cq_base.proofs.Lists.{Contains-here, Contains-there, Contains-cases, Contains-nil, AllPairs-head, AllPairs-tail}

-- one that is taken, or not, and the rest
front_cases : (b : Bool) (p z : Place) (rest : List Place) → Contains ((cond b (p ∷ []) []) ++ rest) z → (p ≡ z) ⊎ Contains rest z
front_cases true p z rest c = Contains-cases p z rest c
front_cases false p z rest c = inr c

kept_after_among : (n : ℕ) (last : Option Place) (all : List Place) (z : Place) → Contains (kept_after n last all) z → Contains all z
kept_after_among n last [] z c = absurd (Contains-nil z c)
kept_after_among n last (p ∷ rest) z c =
    ⊎_elim
    (λ e. (0, omega arith, e))
    (λ later. Contains-there p z rest (kept_after_among n (cond (is_free n last p) (Some p) last) rest z later))
    (front_cases (is_free n last p) p z (kept_after n (cond (is_free n last p) (Some p) last) rest) c)

-- a kept place is a place
pub kept_among : (n : ℕ) (all : List Place) (z : Place) → Contains (kept_of n all) z → Contains all z
kept_among n all z c = kept_after_among n None all z c

-- the last kept place, if there is one, reaches over the place
ReachedBy : ℕ → Option Place → Place → Type 0
ReachedBy n None p = ⊥
ReachedBy n (Some last) p = Covers n last p

-- a kept place does, or the last one before
abbrev IsReached : ℕ → Option Place → List Place → Place → Type 0
IsReached n last kept p = ((k : Place) × Contains kept k × Covers n k p) ⊎ ReachedBy n last p

IsBehind : Option Place → Place → Type 0
IsBehind None p = ⊤
IsBehind (Some last) p = IsBefore last p

-- an occurrence that is not kept begins before the end of the last kept one
reached_unless_free : (n : ℕ) (last : Option Place) (p : Place) → IsBehind last p → is_free n last p ≡ false → ReachedBy n last p
unfolding IsBehind ReachedBy
reached_unless_free n None p behind e = absurd (true≢false e)
reached_unless_free n (Some last) p behind e = grind arith

reached_here : (n : ℕ) (b : Bool) (last : Option Place) (p : Place) (kept : List Place) → 0 < n → (b ≡ false → ReachedBy n last p) → IsReached n last ((cond b (p ∷ []) []) ++ kept) p
reached_here n true last p kept some other = inl (p, Contains-here p kept, (refl, omega arith, omega arith))
reached_here n false last p kept some other = inr (other refl)

reached_later : (n : ℕ) (b : Bool) (last : Option Place) (q p : Place) (kept : List Place) → IsReached n (cond b (Some q) last) kept p → IsReached n last ((cond b (q ∷ []) []) ++ kept) p
unfolding ReachedBy
reached_later n true last q p kept is =
    ⊎_elim (λ (k, among, covers). inl (k, Contains-there q k kept among, covers)) (λ covers. inl (q, Contains-here q kept, covers)) is
reached_later n false last q p kept is = is

behind_next : (b : Bool) (last : Option Place) (q p : Place) → IsBehind last p → IsBefore q p → IsBehind (cond b (Some q) last) p
unfolding IsBehind
behind_next true last q p behind before = before
behind_next false last q p behind before = behind

kept_after_reach : (n : ℕ) (last : Option Place) (all : List Place) (p : Place) → 0 < n → AllPairs IsBefore all → ((z : Place) → Contains all z → IsBehind last z) → Contains all p → IsReached n last (kept_after n last all) p
kept_after_reach n last [] p some ordered behind c = absurd (Contains-nil p c)
kept_after_reach n last (q ∷ rest) p some ordered behind c =
    let b : Bool = is_free n last q in
    let next : Option Place = cond b (Some q) last in
    ⊎_elim
    (λ e. subst (IsReached n last (kept_after n last (q ∷ rest))) e
    (reached_here n b last q (kept_after n next rest) some (reached_unless_free n last q (behind q (Contains-here q rest)))))
    (λ later. reached_later n b last q p (kept_after n next rest)
    (kept_after_reach n next rest p some (AllPairs-tail IsBefore q rest ordered)
    (λ z among. behind_next b last q z (behind z (Contains-there q z rest among)) (AllPairs-head IsBefore q z rest ordered among))
    later))
    (Contains-cases q p rest c)

-- each place lies within a kept word
pub kept_reach : (n : ℕ) (all : List Place) (p : Place) → 0 < n → AllPairs IsBefore all → Contains all p → (k : Place) × Contains (kept_of n all) k × Covers n k p
unfolding ReachedBy IsBehind
kept_reach n all p some ordered c =
    ⊎_elim (λ found. found) (λ none. absurd none) (kept_after_reach n None all p some ordered (λ z among. record {}) c)
