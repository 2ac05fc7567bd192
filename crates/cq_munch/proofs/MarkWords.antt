-- How a walk finds the last of the two words.
use Rattle.std.proofs.Common.{◌≡◌, ℕ, zero, suc, ◌+◌, ◌-◌, ◌<◌, ◌≤◌, ◌==◌, ◌&&◌, Bool, true, false, if◌then◌else◌, Option, Some, None, List, [], ◌∷◌, length, take, drop, get_or, codes, refl, sym, ap, ap₂, ◌∙◌, arith, length-drop}
use Rattle.std.proofs.lemmas.Bool.{eq-eqb, ne_eqb, false≢true, and_left, and_right}
use Rattle.std.proofs.lemmas.List.{drop_more, drop_all, drop-drop, get_or-drop, length-map}
use Rattle.std.specs.Option.{option_or}
use Rattle.cq_munch.specs.declared.unit.Unit.{Unit}
use Rattle.cq_munch.specs.Characters.{characters}
use Rattle.cq_munch.specs.Lexed.{unit_at}
use Rattle.cq_munch.specs.LastWord.{SaysLast, TheLastWordCounts}
use Rattle.cq_munch.specs.ListingMarks.{leads, said, said_at}
use Rattle.cq_munch.specs.Table.{begins}
use Rattle.cq_munch.proofs.Front.{ch_at, as_many}
use Rattle.cq_munch.proofs.Texts.{characters_from}

-- ---- a word of which so many characters stand there

begins_at : (word text : List ℕ) (i : ℕ) → i < length word → i < length text → begins (drop i word) (drop i text) ≡ (get_or text i 0 == get_or word i 0) && begins (drop (i + 1) word) (drop (i + 1) text)
begins_at word text i inside within = ap₂ begins (drop_more word i 0 inside) (drop_more text i 0 within)

module _ (word : List ℕ) (units : List Unit) (i : ℕ) (so_far : begins word (characters units) ≡ begins (drop i word) (drop i (characters units))) where
  -- the characters end first
  pub word_short : i < length word → length units ≤ i → false ≡ begins word (characters units)
  word_short inside short =
      let many = length-map units (λ (u : Unit). u.ch) in
      sym (so_far ∙ ap₂ begins (drop_more word i 0 inside) (drop_all i (characters units) (omega (arith, many, short))))

  -- another character stands there
  pub word_other : i < length word → i < length units → ((unit_at units i).ch ≡ get_or word i 0 → ⊥) → false ≡ begins word (characters units)
  word_other inside within other =
      let test : (get_or (characters units) i 0 == get_or word i 0) ≡ false = ne_eqb (get_or (characters units) i 0) (get_or word i 0) (λ same. other (sym (ch_at units i within) ∙ same)) in
      sym (so_far ∙ begins_at word (characters units) i inside (as_many units i within) ∙ ap (λ b. b && begins (drop (i + 1) word) (drop (i + 1) (characters units))) test)

  -- the same character
  pub word_same : i < length word → i < length units → (unit_at units i).ch ≡ get_or word i 0 → begins word (characters units) ≡ begins (drop (i + 1) word) (drop (i + 1) (characters units))
  word_same inside within same =
      let test : (get_or (characters units) i 0 == get_or word i 0) ≡ true = eq-eqb (get_or (characters units) i 0) (get_or word i 0) (ch_at units i within ∙ same) in
      so_far ∙ begins_at word (characters units) i inside (as_many units i within) ∙ ap (λ b. b && begins (drop (i + 1) word) (drop (i + 1) (characters units))) test

-- ---- the last word

or_assoc : {A : Type 0} (a b c : Option A) → option_or (option_or a b) c ≡ option_or a (option_or b c)
or_assoc None b c = refl
or_assoc (Some a) b c = refl

said_more : (text : List ℕ) (i : ℕ) (last : Option Bool) → i < length text → said text ≡ option_or (said (drop i text)) last → said text ≡ option_or (said (drop (i + 1) text)) (option_or (said_at (drop i text)) last)
said_more text i last inside so_far =
    let more : drop i text ≡ get_or text i 0 ∷ drop (i + 1) text = drop_more text i 0 inside in
    so_far ∙ ap (λ cs. option_or (said cs) last) more
    ∙ or_assoc (said (drop (i + 1) text)) (said_at (get_or text i 0 ∷ drop (i + 1) text)) last
    ∙ ap (λ cs. option_or (said (drop (i + 1) text)) (option_or (said_at cs) last)) (sym more)

-- the walk goes on after a unit
pub said_step : (units : List Unit) (i : ℕ) (last next : Option Bool) → i < length units → said (characters units) ≡ option_or (said (drop i (characters units))) last → next ≡ option_or (said_at (characters (take (length units - i) (drop i units)))) last
    → said (characters units) ≡ option_or (said (drop (i + 1) (characters units))) next
said_step units i last next inside so_far next_is =
    said_more (characters units) i last (as_many units i inside) so_far
    ∙ ap (option_or (said (drop (i + 1) (characters units)))) (ap (λ cs. option_or (said_at cs) last) (sym (characters_from units i)) ∙ sym next_is)

-- both words begin with a C
pub none_said : (units : List Unit) → 0 < length units → ((unit_at units 0).ch ≡ 67 → ⊥) → said_at (characters units) ≡ None
none_said [] some other = absurd (omega arith)
none_said (u ∷ units) some other =
    ap (λ b. if b && begins (codes "PD-OFF") (characters units) then Some false else (if b && begins (codes "PD-ON") (characters units) then Some true else None)) (ne_eqb u.ch 67 other)

pub stays_said : (units : List Unit) (before : Option Bool) → 0 < length units → ((unit_at units 0).ch ≡ 67 → ⊥) → before ≡ option_or (said_at (characters units)) before
stays_said units before some other = sym (ap (λ v. option_or v before) (none_said units some other))

-- ---- what is said is what the last word says

or_first : (a b : Option Bool) → option_or a b ≡ None → a ≡ None
or_first None b none = refl
or_first (Some on) b none = absurd (cc)

or_second : (a b : Option Bool) → option_or a b ≡ None → b ≡ None
or_second None b none = none
or_second (Some on) b none = absurd (cc)

nothing_at_end : (at : ℕ) → said_at (drop at []) ≡ None
nothing_at_end zero = refl
nothing_at_end (suc at) = refl

none_anywhere : (text : List ℕ) → said text ≡ None → (at : ℕ) → said_at (drop at text) ≡ None
none_anywhere [] none at = nothing_at_end at
none_anywhere (c ∷ text) none zero = or_second (said text) (said_at (c ∷ text)) none
none_anywhere (c ∷ text) none (suc at) = none_anywhere text (or_first (said text) (said_at (c ∷ text)) none) at

said_nowhere : (text : List ℕ) → ((at : ℕ) → said_at (drop at text) ≡ None) → said text ≡ None
said_nowhere [] none = refl
said_nowhere (c ∷ text) none = ap₂ option_or (said_nowhere text (λ at. none (suc at))) (none 0)

-- ---- characters at which no word begins

-- another character stands at a place of the word
begins_other : (word text : List ℕ) (k : ℕ) → k < length word → (get_or text k 0 ≡ get_or word k 0 → ⊥) → begins word text ≡ false
begins_other [] text k inside other = absurd (omega arith)
begins_other (c ∷ word) [] k inside other = refl
begins_other (c ∷ word) (d ∷ text) zero inside other = and_left (d == c) (begins word text) (ne_eqb d c other)
begins_other (c ∷ word) (d ∷ text) (suc k) inside other = and_right (d == c) (begins word text) (begins_other word text k (omega (arith, inside)) other)

-- the text ends before the word
begins_short : (word text : List ℕ) → length text < length word → begins word text ≡ false
begins_short [] text short = absurd (omega arith)
begins_short (c ∷ word) [] short = refl
begins_short (c ∷ word) (d ∷ text) short = and_right (d == c) (begins word text) (begins_short word text (omega (arith, short)))

none_begins : (text : List ℕ) → begins (codes "CPD-OFF") text ≡ false → begins (codes "CPD-ON") text ≡ false → said_at text ≡ None
none_begins text off on = ap₂ (λ a b. if a then Some false else (if b then Some true else None)) off on

off_long : length (codes "CPD-OFF") ≡ 7
off_long = refl

on_long : length (codes "CPD-ON") ≡ 6
on_long = refl

both_lead : (k : ℕ) → k < 5 → get_or (codes "CPD-ON") k 0 ≡ get_or (codes "CPD-OFF") k 0
both_lead zero small = refl
both_lead (suc zero) small = refl
both_lead (suc (suc zero)) small = refl
both_lead (suc (suc (suc zero))) small = refl
both_lead (suc (suc (suc (suc zero)))) small = refl
both_lead (suc (suc (suc (suc (suc k))))) small = absurd (omega arith)

no_lead : (c k : ℕ) → k < 5 → leads c ≡ false → c ≡ get_or (codes "CPD-OFF") k 0 → ⊥
no_lead c zero small none is = false≢true (sym none ∙ ap leads is)
no_lead c (suc zero) small none is = false≢true (sym none ∙ ap leads is)
no_lead c (suc (suc zero)) small none is = false≢true (sym none ∙ ap leads is)
no_lead c (suc (suc (suc zero))) small none is = false≢true (sym none ∙ ap leads is)
no_lead c (suc (suc (suc (suc zero)))) small none is = false≢true (sym none ∙ ap leads is)
no_lead c (suc (suc (suc (suc (suc k))))) small none is = absurd (omega arith)

-- one of the first five characters is none of the words' first five
none_leads : (text : List ℕ) (k : ℕ) → k < 5 → leads (get_or text k 0) ≡ false → said_at text ≡ None
none_leads text k small none =
    none_begins text
    (begins_other (codes "CPD-OFF") text k (omega (arith, small, off_long)) (no_lead (get_or text k 0) k small none))
    (begins_other (codes "CPD-ON") text k (omega (arith, small, on_long)) (λ is. no_lead (get_or text k 0) k small none (is ∙ both_lead k small)))

or_none : (a : Option Bool) → option_or a None ≡ a
or_none None = refl
or_none (Some on) = refl

-- characters at which no word begins are passed over
passed : (n : ℕ) (text : List ℕ) → ((k : ℕ) → k < n → said_at (drop k text) ≡ None) → said text ≡ said (drop n text)
passed zero text none = refl
passed (suc n) [] none = refl
passed (suc n) (c ∷ text) none =
    ap (option_or (said text)) (none 0 (omega arith)) ∙ or_none (said text) ∙ passed n text (λ k small. none (suc k) (omega (arith, small)))

fifth_of : (text : List ℕ) (k : ℕ) → k < 5 → get_or (drop k text) (4 - k) 0 ≡ get_or text 4 0
fifth_of text k small = let there : k + (4 - k) ≡ 4 = omega (arith, small) in get_or-drop k text (4 - k) 0 ∙ ap (λ j. get_or text j 0) there

-- five of them
pub said_skip : (units : List Unit) (at : ℕ) (last : Option Bool) → at + 4 < length units → said (characters units) ≡ option_or (said (drop at (characters units))) last → leads (unit_at units (at + 4)).ch ≡ false
    → said (characters units) ≡ option_or (said (drop (at + 5) (characters units))) last
said_skip units at last inside so_far none =
    let text : List ℕ = drop at (characters units) in
    let there : leads (get_or text 4 0) ≡ false = ap leads (get_or-drop at (characters units) 4 0 ∙ ch_at units (at + 4) inside) ∙ none in
    so_far ∙ ap (λ v. option_or v last)
    (passed 5 text (λ k small. none_leads (drop k text) (4 - k) (omega arith) (ap leads (fifth_of text k small) ∙ there))
    ∙ ap said (drop-drop 5 at (characters units)))

-- fewer than five are left
short_at : (text : List ℕ) → length text < 5 → said_at text ≡ None
short_at text short = none_begins text (begins_short (codes "CPD-OFF") text (omega (arith, short, off_long))) (begins_short (codes "CPD-ON") text (omega (arith, short, on_long)))

pub said_end : (units : List Unit) (at : ℕ) (last : Option Bool) → length units ≤ at + 4 → said (characters units) ≡ option_or (said (drop at (characters units))) last → last ≡ said (characters units)
said_end units at last end so_far =
    let text : List ℕ = drop at (characters units) in
    let many = length-map units (λ (u : Unit). u.ch) in
    let left = length-drop at (characters units) in
    sym (so_far ∙ ap (λ v. option_or v last) (said_nowhere text (λ k. let fewer = length-drop k text in short_at (drop k text) (omega (arith, many, left, fewer, end)))))

later_on : (c : ℕ) (text : List ℕ) (on : Bool) → SaysLast text on → SaysLast (c ∷ text) on
later_on c text on says = record { at = suc says.at; says = says.says; last = last }
  where
    last : (later : ℕ) → suc says.at < later → said_at (drop later (c ∷ text)) ≡ None
    last zero behind = absurd (omega arith)
    last (suc later) behind = says.last later (omega (arith, behind))

at_front : (c : ℕ) (text : List ℕ) (on : Bool) → said_at (c ∷ text) ≡ Some on → said text ≡ None → SaysLast (c ∷ text) on
at_front c text on says none = record { at = 0; says = says; last = last }
  where
    last : (later : ℕ) → 0 < later → said_at (drop later (c ∷ text)) ≡ None
    last zero behind = absurd (omega arith)
    last (suc later) behind = none_anywhere text none later

by_rest : (c : ℕ) (text : List ℕ) (on : Bool) (rest : Option Bool) → said text ≡ rest → option_or rest (said_at (c ∷ text)) ≡ Some on → ((b : Bool) → said text ≡ Some b → SaysLast text b) → SaysLast (c ∷ text) on
by_rest c text on None none says found = at_front c text on says none
by_rest c text on (Some b) some says found = later_on c text on (found on (some ∙ says))

says_last : (text : List ℕ) (on : Bool) → said text ≡ Some on → SaysLast text on
says_last [] on says = absurd (cc)
says_last (c ∷ text) on says = by_rest c text on (said text) refl says (says_last text)

last_says : (text : List ℕ) (on : Bool) (at : ℕ) → said_at (drop at text) ≡ Some on → ((later : ℕ) → at < later → said_at (drop later text) ≡ None) → said text ≡ Some on
last_says [] on at says last = let none = nothing_at_end at in absurd (cc)
last_says (c ∷ text) on zero says last =
    ap (λ rest. option_or rest (said_at (c ∷ text))) (said_nowhere text (λ at. last (suc at) (omega arith))) ∙ says
last_says (c ∷ text) on (suc at) says last =
    ap (λ rest. option_or rest (said_at (c ∷ text))) (last_says text on at says (λ later behind. last (suc later) (omega (arith, behind))))

pub the_last_word_counts : TheLastWordCounts
the_last_word_counts text on = (says_last text on, λ last. last_says text on last.at last.says last.last)
