-- Several pieces written one after the other.
use Rattle.std.proofs.Common.{◌≡◌, ◌<◌, ◌+◌, ℕ, List, [], ◌∷◌, ◌++◌, length, take, get_or, sym, ap, ◌∙◌, append_assoc}
use Rattle.std.specs.List.{flat_map}
use Rattle.std.proofs.lemmas.List.{take_more, flat_map_more}

pub two : (o p q a b : List ℕ) → p ≡ o ++ a → q ≡ p ++ b → q ≡ o ++ (a ++ b)
two o p q a b e f = f ∙ ap (λ (x : List ℕ). x ++ b) e ∙ append_assoc o a b

pub three : (o p q r a b c : List ℕ) → p ≡ o ++ a → q ≡ p ++ b → r ≡ q ++ c → r ≡ o ++ (a ++ (b ++ c))
three o p q r a b c e f g = two o p r a (b ++ c) e (two p q r b c f g)

pub four : (o p q r s a b c d : List ℕ) → p ≡ o ++ a → q ≡ p ++ b → r ≡ q ++ c → s ≡ r ++ d → s ≡ o ++ (a ++ (b ++ (c ++ d)))
four o p q r s a b c d e f g h = two o p s a (b ++ (c ++ d)) e (three p q r s b c d f g h)

pub five : (o p q r s t a b c d k : List ℕ) → p ≡ o ++ a → q ≡ p ++ b → r ≡ q ++ c → s ≡ r ++ d → t ≡ s ++ k → t ≡ o ++ (a ++ (b ++ (c ++ (d ++ k))))
five o p q r s t a b c d k e f g h i = two o p t a (b ++ (c ++ (d ++ k))) e (four p q r s t b c d k f g h i)

-- one element more of a list, after those before it
pub written_on : {A : Type 0} (spell : A → List ℕ) (xs : List A) (i : ℕ) (item d : A) (front before behind : List ℕ) → i < length xs → item ≡ get_or xs i d
    → before ≡ front ++ flat_map spell (take i xs) → behind ≡ before ++ spell item → behind ≡ front ++ flat_map spell (take (i + 1) xs)
written_on {A = A} spell xs i item d front before behind lt is so_far more =
    more
    ∙ ap (λ (b : List ℕ). b ++ spell item) so_far
    ∙ flat_map_more spell front (take i xs) item
    ∙ ap (λ (ys : List A). front ++ flat_map spell ys) (ap (λ (x : A). take i xs ++ x ∷ []) is ∙ sym (take_more xs i d lt))
