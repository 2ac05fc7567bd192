-- Tokens whose texts lie one after the other: one more, and the one at a position.
use Rattle.std.proofs.Common.{◌≡◌, ℕ, zero, suc, ◌+◌, ◌-◌, ◌<◌, ◌≤◌, Some, None, List, [], ◌∷◌, ◌++◌, length, take, drop, get_or, refl, ap, ap₂, ◌∙◌, arith}
use Rattle.std.specs.Prelude.{slice_get}
use Rattle.std.proofs.lemmas.List.{drop_at, take_all, drop-append-le, take-append-le, length-drop}
use Rattle.cq_base.specs.declared.lang.Lang.{Lang}
use Rattle.cq_base.specs.declared.token.Class.{Class}
use Rattle.cq_base.specs.declared.norm.Norm.{Norm}
use Rattle.cq_tokens.specs.declared.packed.Mark.{Mark}
use Rattle.cq_tokens.specs.Packed.{bytes_between, norms_from, AreEnds, start_at, last_end}

-- the bytes between two places stay if more come after them
between_more : (start end : ℕ) (bytes text : List ℕ) → start ≤ end → end ≤ length bytes → bytes_between start end (bytes ++ text) ≡ bytes_between start end bytes
between_more start end bytes text low high =
    let left = length-drop start bytes in
    ap (take (end - start)) (drop-append-le start bytes text (omega (arith, low, high)))
    ∙ take-append-le (end - start) (drop start bytes) text (omega (arith, left, low, high))

-- those that come after are between
between_new : (bytes text : List ℕ) → bytes_between (length bytes) (length bytes + length text) (bytes ++ text) ≡ text
between_new bytes text =
    ap (take (length bytes + length text - length bytes)) (drop_at bytes text (length bytes) refl)
    ∙ take_all (length bytes + length text - length bytes) text (omega arith)

low_end : (start : ℕ) (marks : List Mark) (last : ℕ) → AreEnds start marks last → start ≤ last
low_end start [] last ends = ends
low_end start (m ∷ marks) last ends = let later = low_end m.end marks last ends.1 in let first = ends.0 in omega (arith, first, later)

-- one token more
pub norms_more : (start : ℕ) (marks : List Mark) (bytes text : List ℕ) (lang : Lang) (class : Class) → AreEnds start marks (length bytes) → last_end start marks ≡ length bytes →
    norms_from start (marks ++ record { lang = lang; class = class; end = length bytes + length text } ∷ []) (bytes ++ text) ≡ norms_from start marks bytes ++ record { lang = lang; class = class; text = text } ∷ []
norms_more start [] bytes text lang class ends last =
    ap (λ (t : List ℕ). let n : Norm = record { lang = lang; class = class; text = t } in n ∷ []) (ap (λ s. bytes_between s (length bytes + length text) (bytes ++ text)) last ∙ between_new bytes text)
norms_more start (m ∷ marks) bytes text lang class ends last =
    ap₂ (λ (t : List ℕ) (ns : List Norm). let n : Norm = record { lang = m.lang; class = m.class; text = t } in n ∷ ns)
    (between_more start m.end bytes text ends.0 (low_end m.end marks (length bytes) ends.1))
    (norms_more m.end marks bytes text lang class ends.1 last)

pub ends_more : (start : ℕ) (marks : List Mark) (n more : ℕ) (lang : Lang) (class : Class) → AreEnds start marks n → AreEnds start (marks ++ record { lang = lang; class = class; end = n + more } ∷ []) (n + more)
ends_more start [] n more lang class ends = (omega (arith, ends), omega arith)
ends_more start (m ∷ marks) n more lang class ends = (ends.0, ends_more m.end marks n more lang class ends.1)

pub last_more : (start : ℕ) (marks : List Mark) (m : Mark) → last_end start (marks ++ m ∷ []) ≡ m.end
last_more start [] m = refl
last_more start (x ∷ marks) m = last_more x.end marks m

-- ---- the token at a position

pub start_is : (start : ℕ) (marks : List Mark) (i : ℕ) (d : Mark) → i < length marks → start_at start marks (suc i) ≡ (get_or marks i d).end
start_is start [] i d inside = absurd (omega (arith, inside))
start_is start (m ∷ marks) zero d inside = refl
start_is start (m ∷ marks) (suc i) d inside = start_is m.end marks i d (omega (arith, inside))

pub ends_are : (start : ℕ) (marks : List Mark) (last i : ℕ) (d : Mark) → AreEnds start marks last → i < length marks → (start_at start marks i ≤ (get_or marks i d).end) × ((get_or marks i d).end ≤ last)
ends_are start [] last i d ends inside = absurd (omega (arith, inside))
ends_are start (m ∷ marks) last zero d ends inside = (ends.0, low_end m.end marks last ends.1)
ends_are start (m ∷ marks) last (suc i) d ends inside = ends_are m.end marks last i d ends.1 (omega (arith, inside))

pub norm_at : (start : ℕ) (marks : List Mark) (bytes : List ℕ) (i : ℕ) (d : Mark) → i < length marks →
    slice_get (norms_from start marks bytes) i ≡ Some (record { lang = (get_or marks i d).lang; class = (get_or marks i d).class; text = bytes_between (start_at start marks i) (get_or marks i d).end bytes })
norm_at start [] bytes i d inside = absurd (omega (arith, inside))
norm_at start (m ∷ marks) bytes zero d inside = refl
norm_at start (m ∷ marks) bytes (suc i) d inside = norm_at m.end marks bytes i d (omega (arith, inside))

pub none_at : (start : ℕ) (marks : List Mark) (bytes : List ℕ) (i : ℕ) → length marks ≤ i → slice_get (norms_from start marks bytes) i ≡ None
none_at start [] bytes i past = refl
none_at start (m ∷ marks) bytes zero past = absurd (omega (arith, past))
none_at start (m ∷ marks) bytes (suc i) past = none_at m.end marks bytes i (omega (arith, past))

pub as_many : (start : ℕ) (marks : List Mark) (bytes : List ℕ) → length (norms_from start marks bytes) ≡ length marks
as_many start [] bytes = refl
as_many start (m ∷ marks) bytes = ap suc (as_many m.end marks bytes)
