-- What a set of the places of one word tells of the word's group.
use Rattle.std.proofs.Common.{◌≡◌, ◌≢◌, ◌⊎◌, ℕ, ◌<◌, List, [], ◌∷◌, Option, Some, None, refl, sym, ap, ap₂, ◌∙◌, subst, inl, inr, ⊎_elim, arith, true≢false}
use Rattle.std.specs.Prelude.{All, AllPairs, Contains}
use Rattle.std.proofs.lemmas.Bool.{cases_eq}
use Rattle.std.proofs.lemmas.List.Elements.{All-cons, All-nil}
use Rattle.cq_base.specs.declared.group.Place.{Place}
use Rattle.cq_clones.specs.Groups.{token_behind, token_before, AreSame}
use Rattle.cq_base.proofs.Lists.{Contains-here, Contains-there}
use Rattle.cq_tokens.proofs.Places.{AreSame-sym}
use Rattle.cq_groups.specs.Sets.{Marked, IsMark, AreMarked}
use Rattle.cq_groups.proofs.Marking.{same_from_marks, marks_of_token}
use Rattle.cq_groups.proofs.Pairs.{Fails, both_fail}

pub AreSame-trans : {T : Type 0} (a b c : Option T) → AreSame a b → AreSame b c → AreSame a c
AreSame-trans a b c h k = (h.0, h.1 ∙ k.1)

same_place : (p q : Place) → (p ≡ q) ⊎ (p ≡ q → ⊥)
same_place p q =
    ⊎_elim
    (λ f. ⊎_elim (λ a. inl (ap₂ (λ (x y : ℕ). let made : Place = record { file = x; at = y } in made) f a)) (λ nay. inr (λ e. nay (ap (λ w. w.at) e))) (cases_eq p.at q.at))
    (λ nay. inr (λ e. nay (ap (λ w. w.file) e)))
    (cases_eq p.file q.file)

-- the marks decide whether two tokens are there and equal
pub marks_decide : {T : Type 0} (seen : List T) (a b : Option T) (m n : ℕ) → AllPairs (λ x y. x ≢ y) seen → IsMark seen a m → IsMark seen b n → AreSame a b ⊎ (AreSame a b → ⊥)
marks_decide seen a b m n apart p q =
    ⊎_elim
    (λ e. ⊎_elim
    (λ z. inr (λ h. some_mark seen a b m n apart p q h (λ k. omega (arith, k.1))))
    (λ nz. inl (same_from_marks seen a b m n p q e (omega arith)))
    (cases_eq m 0))
    (λ nay. inr (λ h. some_mark seen a b m n apart p q h (λ k. nay k.0)))
    (cases_eq m n)
  where
    some_mark : {T : Type 0} (seen : List T) (a b : Option T) (m n : ℕ) → AllPairs (λ x y. x ≢ y) seen → IsMark seen a m → IsMark seen b n → AreSame a b → ((m ≡ n) × (0 < m) → ⊥) → ⊥
    some_mark seen None b m n apart p q h nay = absurd (true≢false (sym h.0))
    some_mark seen (Some t) b m n apart p q h nay = nay (marks_of_token seen t m n apart p (subst (λ o. IsMark seen o n) (sym h.1) q))

pub marks_same : {T : Type 0} (seen : List T) (a b : Option T) (m n : ℕ) → AllPairs (λ x y. x ≢ y) seen → IsMark seen a m → IsMark seen b n → AreSame a b → (m ≡ n) × (0 < m)
marks_same seen None b m n apart p q h = absurd (true≢false (sym h.0))
marks_same seen (Some t) b m n apart p q h = marks_of_token seen t m n apart p (subst (λ o. IsMark seen o n) (sym h.1) q)

-- an element with another number, where not all have this one
pub other_number : {X : Type 0} (f : X → ℕ) (n : ℕ) (xs : List X) → (All (λ x. f x ≡ n) xs → ⊥) → (x : X) × Contains xs x × (f x ≡ n → ⊥)
other_number f n [] nay = absurd (nay (All-nil (λ x. f x ≡ n)))
other_number f n (x ∷ xs) nay =
    ⊎_elim
    (λ here. let r = other_number f n xs (λ all. nay (All-cons (λ x. f x ≡ n) x xs here all)) in (r.0, Contains-there x r.0 xs r.1, r.2))
    (λ not_here. (x, Contains-here x xs, not_here))
    (cases_eq (f x) n)

-- where neither the tokens before nor those after are all there and equal, some two places show it together
pub two_places : {T : Type 0} (corpus : List (List T)) (d : ℕ) (xs : List Marked) (o x : Marked) (lefts : List T) (apart : AllPairs (λ a b. a ≢ b) lefts)
    → ((z : Marked) → Contains xs z → IsMark lefts (token_before corpus z.spot.place) z.spot.left)
    → AreMarked corpus d xs → Contains xs o → Contains xs x → o.spot.place ≢ x.spot.place
    → ((0 < o.spot.left) × All (λ z. z.spot.left ≡ o.spot.left) xs → ⊥)
    → ((0 < o.mark) × All (λ z. z.mark ≡ o.mark) xs → ⊥)
    → Fails (λ p. (z : Marked) × Contains xs z × (z.spot.place ≡ p)) (λ p q. AreSame (token_before corpus p) (token_before corpus q)) (λ p q. AreSame (token_behind corpus p d) (token_behind corpus q d))
two_places {T} corpus d xs o x lefts apart is_left is_mark o_in x_in differ no_left no_mark =
    let b = find (λ z. z.spot.left) no_left in
    let e = find (λ z. z.mark) no_mark in
    both_fail _ (λ p q. AreSame (token_before corpus p) (token_before corpus q)) (λ p q. AreSame (token_behind corpus p d) (token_behind corpus q d))
    same_place
    (λ p q. AreSame-sym _ _) (λ p q r. AreSame-trans _ _ _)
    (λ p q. AreSame-sym _ _) (λ p q r. AreSame-trans _ _ _)
    o.spot.place x.spot.place b.0.spot.place e.0.spot.place
    (o, o_in, refl) (x, x_in, refl) (b.0, b.1, refl) (e.0, e.1, refl) differ
    (λ h. b.2 (marks_same lefts _ _ o.spot.left b.0.spot.left apart (is_left o o_in) (is_left b.0 b.1) h))
    (λ h. e.2 (marks_same is_mark.seen _ _ o.mark e.0.mark is_mark.apart (is_mark.marks o o_in) (is_mark.marks e.0 e.1) h))
    (marks_decide is_mark.seen _ _ o.mark b.0.mark is_mark.apart (is_mark.marks o o_in) (is_mark.marks b.0 b.1))
    (marks_decide lefts _ _ o.spot.left e.0.spot.left apart (is_left o o_in) (is_left e.0 e.1))
  where
    find : (f : Marked → ℕ) → ((0 < f o) × All (λ z. f z ≡ f o) xs → ⊥) → (z : Marked) × Contains xs z × ((f o ≡ f z) × (0 < f o) → ⊥)
    find f nay =
        ⊎_elim
        (λ zero. (o, o_in, λ h. omega (arith, h.1, zero)))
        (λ some. let r = other_number f (f o) xs (λ all. nay (omega arith, all)) in (r.0, r.1, λ h. r.2 (sym h.0)))
        (cases_eq (f o) 0)
