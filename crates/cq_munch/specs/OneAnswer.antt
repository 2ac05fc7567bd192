-- A text is lexed in one way.
use Rattle.std.proofs.Common.{◌≡◌, ℕ, ◌+◌, Some, None, Result, Ok, Err, List, [], ◌∷◌, length, take, drop, refl, sym, ap, subst, ◌∙◌, ⊎_elim, arith, length-drop}
use Rattle.std.proofs.lemmas.List.{length-map}
use Rattle.std.proofs.lemmas.Bool.{cases_lt}
use Rattle.cq_munch.specs.declared.unit.Unit.{Unit}
use Rattle.cq_munch.specs.Longest.{IsLongest}
use Rattle.cq_munch.specs.declared.element.Found.{Found}
use Rattle.cq_base.specs.declared.token.Spelled.{Spelled}
use Rattle.cq_munch.specs.declared.munching.Lexed.{Lexed}
use Rattle.cq_munch.specs.declared.munching.Lexed.TheVariants as lexed
use Rattle.cq_munch.specs.Characters.{characters}
use Rattle.cq_munch.specs.Language.{Language, Takes, Allows, HasOneKind}
use Rattle.cq_munch.specs.Lexed.{Follow, IsWhole, EndsAt, IsLexed, Alike, HasOneAnswer, tokens_of, marks_of, units_of, unit_at}

one_length : (set : List ℕ → Type 0) (text : List ℕ) (m n : ℕ) → IsLongest set text m → IsLongest set text n → m ≡ n
one_length set text m n h k =
    ⊎_elim
    (λ less. absurd (h.longest n less k.within k.spelled))
    (λ more. ⊎_elim (λ less. absurd (k.longest m less h.within h.spelled)) (λ same. omega arith) (cases_lt n m))
    (cases_lt m n)

module _ (lang : Language) (one_kind : HasOneKind lang) where
  takes_one : (at mode : ℕ) (text : List ℕ) (f g : Found) → Takes lang at mode text (Some f) → Takes lang at mode text (Some g) → f ≡ g
  takes_one at mode text f g h k =
      let units : f.units ≡ g.units = one_length (Allows lang at mode text) text f.units g.units h.0 k.0 in
      let spell : f.spell ≡ g.spell = one_kind at mode text (take g.units text) f.spell g.spell (subst (λ n. lang.tried at mode text f.spell (take n text)) units h.1) k.1 in
      let mode_is : f.mode ≡ g.mode = h.2 ∙ (λ i. lang.mode_behind mode (spell i) (take (units i) text)) ∙ sym k.2 in
      λ i. record { spell = spell i; units = units i; mode = mode_is i }

  takes_or_not : (at mode : ℕ) (text : List ℕ) (f : Found) → Takes lang at mode text (Some f) → Takes lang at mode text None → ⊥
  takes_or_not at mode text f h none = none f.units h.0.some h.0.within h.0.spelled

  -- nothing is taken there
  abbrev Stops : List ℕ → ℕ → ℕ → Type 0
  Stops text at mode = (f : Found) → Takes lang at mode (drop at text) (Some f) → ⊥

  -- two ways that stop are one
  one_way : (text : List ℕ) (at mode : ℕ) (fs gs : List Found) (a m b n : ℕ) → Follow lang text at mode fs a m → Follow lang text at mode gs b n → Stops text a m → Stops text b n
      → (fs ≡ gs) × (a ≡ b) × (m ≡ n)
  one_way text at mode [] [] a m b n h k s t = (refl, sym h.0 ∙ k.0, sym h.1 ∙ k.1)
  one_way text at mode [] (g ∷ gs) a m b n h k s t =
      absurd (s g (subst (λ v. Takes lang v m (drop v text) (Some g)) h.0 (subst (λ v. Takes lang at v (drop at text) (Some g)) h.1 k.0)))
  one_way text at mode (f ∷ fs) [] a m b n h k s t =
      absurd (t f (subst (λ v. Takes lang v n (drop v text) (Some f)) k.0 (subst (λ v. Takes lang at v (drop at text) (Some f)) k.1 h.0)))
  one_way text at mode (f ∷ fs) (g ∷ gs) a m b n h k s t =
      let same : f ≡ g = takes_one at mode (drop at text) f g h.0 k.0 in
      let rest = one_way text (at + f.units) f.mode fs gs a m b n h.1 (subst (λ (v : Found). Follow lang text (at + v.units) v.mode gs b n) (sym same) k.1) s t in
      (λ i. same i ∷ rest.0 i, rest.1, rest.2)

  -- at the end nothing is left to take
  stops_at_end : (units : List Unit) (mode : ℕ) → Stops (characters units) (length units) mode
  stops_at_end units mode f h =
      let none = length-drop (length units) (characters units) in
      let as_many = length-map units (λ (u : Unit). u.ch) in
      let within = h.0.within in
      let some = h.0.some in
      absurd (omega arith)

  one_whole : (units : List Unit) (fs gs : List Found) → IsWhole lang units fs → IsWhole lang units gs → fs ≡ gs
  one_whole units fs gs h k =
      (one_way (characters units) 0 0 fs gs (length units) h.0 (length units) k.0 h.1 k.1 (stops_at_end units h.0) (stops_at_end units k.0)).0

  one_fault : (units : List Unit) (a b : ℕ) → EndsAt lang units a → EndsAt lang units b → a ≡ b
  one_fault units a b h k =
      let same = one_way (characters units) 0 0 h.elements k.elements h.at h.mode k.at k.mode h.before k.before
      (λ f taken. takes_or_not h.at h.mode _ f taken h.nothing) (λ f taken. takes_or_not k.at k.mode _ f taken k.nothing) in
      h.byte_is ∙ ap (λ v. (unit_at units v).start) same.1 ∙ sym k.byte_is

  no_both : {A : Type 0} (units : List Unit) (byte : ℕ) (fs : List Found) → EndsAt lang units byte → IsWhole lang units fs → A
  no_both units byte fs h k =
      let same = one_way (characters units) 0 0 h.elements fs h.at h.mode (length units) k.0 h.before k.1
      (λ f taken. takes_or_not h.at h.mode _ f taken h.nothing) (stops_at_end units k.0) in
      let at = same.1 in
      let inside = h.inside in
      absurd (omega arith)

  module _ (translated : List Unit → Result (List Unit) ℕ) (completed : List ℕ → List Spelled → List Spelled) where
    -- by what the translation gives
    by_translation : (bytes : List ℕ) (r : Result (List Unit) ℕ) → translated (units_of bytes) ≡ r → (a b : Lexed) → IsLexed lang (λ _. r) completed bytes a → IsLexed lang (λ _. r) completed bytes b → Alike a b
    by_translation bytes (Err e) is (lexed.Fault a) (lexed.Fault b) h k = h ∙ sym k
    by_translation bytes (Err e) is (lexed.Tokens v marks) b h k = absurd h
    by_translation bytes (Err e) is lexed.Large b h k = absurd h
    by_translation bytes (Err e) is a (lexed.Tokens w others) h k = absurd k
    by_translation bytes (Err e) is a lexed.Large h k = absurd k
    by_translation bytes (Ok units) is (lexed.Fault a) (lexed.Fault b) h k = one_fault units a b h k
    by_translation bytes (Ok units) is (lexed.Fault a) (lexed.Tokens w others) h k = no_both units a k.0 h k.1
    by_translation bytes (Ok units) is (lexed.Fault a) lexed.Large h k = no_both units a k.0 h k.1
    by_translation bytes (Ok units) is (lexed.Tokens v marks) (lexed.Fault b) h k = no_both units b h.0 k h.1
    by_translation bytes (Ok units) is lexed.Large (lexed.Fault b) h k = no_both units b h.0 k h.1
    by_translation bytes (Ok units) is (lexed.Tokens v marks) (lexed.Tokens w others) h k =
        let same = one_whole units h.0 k.0 h.1 k.1 in
        (h.2 ∙ ap (λ fs. completed bytes (tokens_of bytes units 0 fs)) same ∙ sym k.2, h.4 ∙ ap (marks_of units 0) same ∙ sym k.4)
    by_translation bytes (Ok units) is lexed.Large lexed.Large h k = tt
    by_translation bytes (Ok units) is (lexed.Tokens v marks) lexed.Large h k =
        let same = ap (λ fs. length (completed bytes (tokens_of bytes units 0 fs))) (one_whole units h.0 k.0 h.1 k.1) in
        let count = ap length h.2 in
        absurd (omega (arith, h.3, k.2))
    by_translation bytes (Ok units) is lexed.Large (lexed.Tokens w others) h k =
        let same = ap (λ fs. length (completed bytes (tokens_of bytes units 0 fs))) (one_whole units h.0 k.0 h.1 k.1) in
        let count = ap length k.2 in
        absurd (omega (arith, k.3, h.2))

    told : (bytes : List ℕ) (a : Lexed) → IsLexed lang translated completed bytes a → IsLexed lang (λ _. translated (units_of bytes)) completed bytes a
    told bytes (lexed.Fault a) h = h
    told bytes (lexed.Tokens v marks) h = h
    told bytes lexed.Large h = h

    pub one_answer : HasOneAnswer lang translated completed
    one_answer bytes a b h k = by_translation bytes (translated (units_of bytes)) refl a b (told bytes a h) (told bytes b k)
