-- What a walk over a list has made of its front, by one more.
use Rattle.std.proofs.Common.{Global, ◌≡◌, ℕ, ◌+◌, ◌<◌, List, [], ◌∷◌, ◌++◌, length, map, get_or, take, sym, ap, ap₂, ◌∙◌}
use Rattle.std.specs.Arc.{arc_value}
use Rattle.std.specs.declared.sync.Arc.{Arc}
use Rattle.std.proofs.lemmas.List.{append_assoc, map-append, take_more}
use Rattle.cq_history.specs.Files.{File}
use Rattle.cq_projects.specs.Spotted.{numbers_of}

module _ {X Y : Type 0} (f : X → Y) (xs : List X) (i : ℕ) (x : X) (within : i < length xs) (read : x ≡ get_or xs i x) where
  mapped_more : map f (take i xs) ++ f x ∷ [] ≡ map f (take (i + 1) xs)
  mapped_more = sym (map-append f (take i xs) (x ∷ [])) ∙ ap (λ y. map f (take i xs ++ y ∷ [])) read ∙ ap (map f) (sym (take_more xs i x within))

  pub made_more : (made now : List Y) (y : Y) → y ≡ f x → now ≡ made ++ y ∷ [] → made ≡ map f (take i xs) → now ≡ map f (take (i + 1) xs)
  made_more made now y same pushed was = pushed ∙ ap₂ (λ ys z. ys ++ z ∷ []) was same ∙ mapped_more

  pub shared_more : (start done now : List X) (z : X) → f z ≡ f x → now ≡ done ++ z ∷ [] → map f done ≡ map f start ++ map f (take i xs) → map f now ≡ map f start ++ map f (take (i + 1) xs)
  shared_more start done now z same pushed was =
      ap (map f) pushed ∙ map-append f done (z ∷ []) ∙ ap₂ (λ ys y. ys ++ y ∷ []) was same
      ∙ append_assoc (map f start) (map f (take i xs)) (f x ∷ []) ∙ ap (λ ys. map f start ++ ys) mapped_more

module _ {W : Type 0} where
  pub numbers_more : (hs : List (Arc (File W) Global)) (i : ℕ) (h : Arc (File W) Global) → i < length hs → h ≡ get_or hs i h → (made now : List ℕ) (n : ℕ) → n ≡ (arc_value h).number → now ≡ made ++ n ∷ [] → made ≡ numbers_of (map arc_value (take i hs)) → now ≡ numbers_of (map arc_value (take (i + 1) hs))
  numbers_more hs i h within read made now n same pushed was =
      pushed ∙ ap₂ (λ ns k. ns ++ k ∷ []) was same
      ∙ sym (map-append (λ (f : File W). f.number) (map arc_value (take i hs)) (arc_value h ∷ [])) ∙ ap numbers_of (mapped_more arc_value hs i h within read)
