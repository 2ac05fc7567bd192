-- What may follow a character in a pattern: the spellings that begin with it, without it.
use Rattle.std.specs.Prelude.{ℕ, zero, suc, Option, Some, None, nat_lt, Bool, true, false, cond, ◌&&◌, ◌||◌, ◌==◌, List, [], ◌∷◌, ◌++◌, ◌⊎◌}
use Rattle.std.specs.Bool.{beq}
use Rattle.cq_munch.specs.Pattern.{Range, in_ranges, Pattern, never, empty, among, except, ◌▸◌, ◌∣◌, many, Spells}

-- the pattern has the spelling of no characters
abbrev pub takes_empty : Pattern → Bool
takes_empty never = false
takes_empty empty = true
takes_empty (among ranges) = false
takes_empty (except ranges) = false
takes_empty (p ▸ q) = takes_empty p && takes_empty q
takes_empty (p ∣ q) = takes_empty p || takes_empty q
takes_empty (many p) = true

-- one of the patterns has the spelling
abbrev pub SpellsAny : List Pattern → List ℕ → Type 0
SpellsAny [] s = ⊥
SpellsAny (p ∷ ps) s = Spells p s ⊎ SpellsAny ps s

-- p, and then q
abbrev pub joined : Pattern → Pattern → Pattern
joined empty q = q
joined p q = p ▸ q

abbrev pub joined_each : List Pattern → Pattern → List Pattern
joined_each [] q = []
joined_each (p ∷ ps) q = joined p q ∷ joined_each ps q

-- what may follow a first character c
abbrev pub behind : ℕ → Pattern → List Pattern
behind c never = []
behind c empty = []
behind c (among ranges) = cond (in_ranges ranges c) (empty ∷ []) []
behind c (except ranges) = cond (in_ranges ranges c) [] (empty ∷ [])
behind c (p ▸ q) = joined_each (behind c p) q ++ cond (takes_empty p) (behind c q) []
behind c (p ∣ q) = behind c p ++ behind c q
behind c (many p) = joined_each (behind c p) (many p)

abbrev pub behind_each : ℕ → List Pattern → List Pattern
behind_each c [] = []
behind_each c (p ∷ ps) = behind c p ++ behind_each c ps

abbrev pub any_takes_empty : List Pattern → Bool
any_takes_empty [] = false
any_takes_empty (p ∷ ps) = takes_empty p || any_takes_empty ps

-- tests that compute
abbrev pub same_ranges : List Range → List Range → Bool
same_ranges [] [] = true
same_ranges (r ∷ rs) (q ∷ qs) = (r.0 == q.0) && ((r.1 == q.1) && same_ranges rs qs)
same_ranges _ _ = false

abbrev pub same : Pattern → Pattern → Bool
same never never = true
same empty empty = true
same (among rs) (among qs) = same_ranges rs qs
same (except rs) (except qs) = same_ranges rs qs
same (a ▸ b) (c ▸ d) = same a c && same b d
same (a ∣ b) (c ∣ d) = same a c && same b d
same (many a) (many b) = same a b
same _ _ = false

abbrev pub has : List Pattern → Pattern → Bool
has [] p = false
has (q ∷ qs) p = same p q || has qs p

-- each of the first is among the second
abbrev pub covers : List Pattern → List Pattern → Bool
covers [] qs = true
covers (p ∷ ps) qs = has qs p && covers ps qs

abbrev pub distinct : List Pattern → List Pattern
distinct [] = []
distinct (p ∷ ps) = let rest = distinct ps in cond (has rest p) rest (p ∷ rest)

-- what may follow a text
abbrev pub after : List ℕ → List Pattern → List Pattern
after [] ps = ps
after (c ∷ cs) ps = after cs (distinct (behind_each c ps))

-- no class of the pattern distinguishes the two characters
abbrev pub agree : ℕ → ℕ → Pattern → Bool
agree c d never = true
agree c d empty = true
agree c d (among rs) = beq (in_ranges rs c) (in_ranges rs d)
agree c d (except rs) = beq (in_ranges rs c) (in_ranges rs d)
agree c d (p ▸ q) = agree c d p && agree c d q
agree c d (p ∣ q) = agree c d p && agree c d q
agree c d (many p) = agree c d p

abbrev pub agree_each : ℕ → ℕ → List Pattern → Bool
agree_each c d [] = true
agree_each c d (p ∷ ps) = agree c d p && agree_each c d ps

-- an entry of a table: after c, the patterns ps leave these, or None if nothing is left
abbrev pub entry_ok : List Pattern → ℕ → Option (List Pattern) → Bool
entry_ok ps c None = covers (behind_each c ps) []
entry_ok ps c (Some qs) = covers (behind_each c ps) qs && covers qs (behind_each c ps)

-- every range ends before a character
abbrev pub ranges_below : ℕ → List Range → Bool
ranges_below n [] = true
ranges_below n (r ∷ rs) = nat_lt r.1 n && ranges_below n rs

abbrev pub all_below : ℕ → Pattern → Bool
all_below n never = true
all_below n empty = true
all_below n (among rs) = ranges_below n rs
all_below n (except rs) = ranges_below n rs
all_below n (p ▸ q) = all_below n p && all_below n q
all_below n (p ∣ q) = all_below n p && all_below n q
all_below n (many p) = all_below n p

-- the test passes at each number below n
abbrev pub each_below : ℕ → (ℕ → Bool) → Bool
each_below zero test = true
each_below (suc n) test = test n && each_below n test
