-- A group is determined by its word, a maximal word by its two places.
use Rattle.std.proofs.Common.{◌≡◌, ℕ, ◌+◌, ◌<◌, ◌≤◌, List, [], ◌∷◌, length, get_or, sym, ap, ap₂, ◌∙◌, subst, ⊎_elim, arith}
use Rattle.std.specs.Prelude.{Contains}
use Rattle.std.proofs.lemmas.Bool.{cases_order}
use Rattle.cq_base.specs.declared.group.Place.{Place}
use Rattle.cq_base.specs.declared.group.Group.{Group}
use Rattle.cq_clones.specs.Lists.{AreAllInOrder}
use Rattle.cq_clones.specs.Groups.{file_at, IsBefore, word_at, StandsAt, IsMaximalAt, kept_of, IsGroup}
use Rattle.cq_base.specs.Places.{first_place}
use Rattle.cq_clones.proofs.InOrder.{AreAllInOrder-same}
use Rattle.cq_base.proofs.Lists.{Contains-here}
use Rattle.cq_clones.proofs.Order.{IsBefore-apart}
use Rattle.cq_clones.proofs.Words.{tokens_from_words, within_from_word}

-- a word of at least one token that stands at a place stands within its file
pub within_from_standing : {T : Type 0} (corpus : List (List T)) (word : List T) (p : Place) → StandsAt corpus word p → 0 < length word → p.at + length word ≤ length (file_at corpus p.file)
within_from_standing corpus word p stands some = within_from_word (file_at corpus p.file) p.at (length word) (ap length stands) some

-- the first of the kept places is the first of all
first_kept : (n : ℕ) (all : List Place) (origin : Place) → 0 < length (kept_of n all) → Contains all (get_or (kept_of n all) 0 origin)
first_kept n [] origin some = absurd (omega arith)
first_kept n (p ∷ rest) origin some = Contains-here p rest

-- a group's word stands at its first place
pub word_of_group : {T : Type 0} (corpus : List (List T)) (least : ℕ) (g : Group) (is : IsGroup corpus least g) → word_at corpus (first_place g) g.tokens ≡ is.word
word_of_group corpus least g is =
    let origin : Place = record { file = 0; at = 0 } in
    let some : 0 < length (kept_of g.tokens is.all) = omega (arith, ap length is.places, is.several) in
    let e : first_place g ≡ get_or (kept_of g.tokens is.all) 0 origin = ap (λ ps. get_or ps 0 origin) is.places in
    let here : StandsAt corpus is.word (get_or (kept_of g.tokens is.all) 0 origin) = (is.occurrences.each _).0 (first_kept g.tokens is.all origin some) in
    ap₂ (word_at corpus) e (sym is.tokens) ∙ here

-- two groups of one word are one group
pub groups_of_word : {T : Type 0} (corpus : List (List T)) (least : ℕ) (g h : Group) (a : IsGroup corpus least g) (b : IsGroup corpus least h) → a.word ≡ b.word → g ≡ h
groups_of_word corpus least g h a b e =
    let tokens : g.tokens ≡ h.tokens = sym a.tokens ∙ ap length e ∙ b.tokens in
    let all : a.all ≡ b.all =
    AreAllInOrder-same IsBefore IsBefore-apart (StandsAt corpus b.word) a.all b.all
    (subst (λ w. AreAllInOrder IsBefore (StandsAt corpus w) a.all) e a.occurrences) b.occurrences in
    let places : g.places ≡ h.places = a.places ∙ ap₂ kept_of tokens all ∙ sym b.places in
    ap₂ (λ (n : ℕ) (ps : List Place). let made : Group = record { tokens = n; places = ps } in made) tokens places

-- no two groups agree in first place and length
pub groups_of_first_place : {T : Type 0} (corpus : List (List T)) (least : ℕ) (g h : Group) → IsGroup corpus least g → IsGroup corpus least h → first_place g ≡ first_place h → g.tokens ≡ h.tokens → g ≡ h
groups_of_first_place corpus least g h a b first tokens =
    groups_of_word corpus least g h a b (sym (word_of_group corpus least g a) ∙ ap₂ (word_at corpus) first tokens ∙ word_of_group corpus least h b)

not_longer : {T : Type 0} (corpus : List (List T)) (v w : List T) (p q : Place) → IsMaximalAt corpus v p q → IsMaximalAt corpus w p q → length v < length w → ⊥
not_longer corpus v w p q a b lt =
    let some : 0 < length w = omega arith in
    a.right (tokens_from_words (file_at corpus p.file) (file_at corpus q.file) p.at q.at (length w)
    (within_from_standing corpus w p b.first some) (within_from_standing corpus w q b.second some)
    (b.first ∙ sym b.second) (length v) lt)

-- two places have at most one maximal word
pub maximal_word : {T : Type 0} (corpus : List (List T)) (v w : List T) (p q : Place) → IsMaximalAt corpus v p q → IsMaximalAt corpus w p q → v ≡ w
maximal_word corpus v w p q a b =
    let e : length v ≡ length w =
    ⊎_elim (λ h. h)
    (λ other. ⊎_elim (λ h. absurd (not_longer corpus v w p q a b h)) (λ h. absurd (not_longer corpus w v p q b a h)) other)
    (cases_order (length v) (length w)) in
    sym a.first ∙ ap (word_at corpus p) e ∙ b.first
