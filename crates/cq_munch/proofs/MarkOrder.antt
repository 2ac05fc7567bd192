-- The marks of elements that stand one after the other are in order.
use Rattle.std.proofs.Common.{◌≡◌, ℕ, zero, suc, ◌+◌, ◌<◌, ◌≤◌, Bool, Option, Some, None, option_map, List, [], ◌∷◌, length, take, drop, get_or, sym, subst, arith, length-drop, length-take-le}
use Rattle.std.proofs.lemmas.List.{length-map}
use Rattle.std.specs.List.{cons_option}
use Rattle.std.specs.Prelude.{⊤}
use Rattle.cq_base.specs.declared.token.Mark.{Mark}
use Rattle.cq_munch.specs.declared.element.Found.{Found}
use Rattle.cq_munch.specs.declared.element.Spell.{Spell}
use Rattle.cq_munch.specs.declared.element.Spell.TheVariants.{Blank, Comment, Token as TokenOf}
use Rattle.cq_munch.specs.declared.unit.Unit.{Unit}
use Rattle.cq_munch.specs.Characters.{characters}
use Rattle.cq_munch.specs.Language.{Language}
use Rattle.cq_munch.specs.Lexed.{Follow, InOrder, AreInOrder, mark_of, marks_of, unit_at, end_of}
use Rattle.cq_munch.specs.ListingMarks.{said}
use Rattle.cq_munch.proofs.Elements.{further}
use Rattle.cq_munch.proofs.Orders.{InOrder-take, InOrder-ends, InOrder-behind}

-- the first begins at a byte or after it, and no other before the one that it follows
abbrev Rise : ℕ → List Mark → Type 0
Rise from [] = ⊤
Rise from (m ∷ marks) = (from ≤ m.at) × Rise m.at marks

rise_from : (a b : ℕ) (marks : List Mark) → a ≤ b → Rise b marks → Rise a marks
rise_from a b [] le rise = tt
rise_from a b (m ∷ marks) le rise = (omega (arith, rise.0), rise.1)

abbrev mark_at : ℕ → Bool → Mark
mark_at at on = record { at = at; on = on }

rise_said : (from at end : ℕ) (on : Option Bool) (marks : List Mark) → from ≤ at → at ≤ end → Rise end marks → Rise from (cons_option (option_map (mark_at at) on) marks)
rise_said from at end None marks low high rise = rise_from from end marks (omega arith) rise
rise_said from at end (Some b) marks low high rise = (low, rise_from at end marks high rise)

rise_more : (from end : ℕ) (spell : Spell) (units : List Unit) (marks : List Mark) → from ≤ (unit_at units 0).start → (unit_at units 0).start ≤ end → Rise end marks → Rise from (cons_option (mark_of spell units) marks)
rise_more from end Blank units marks low high rise = rise_from from end marks (omega arith) rise
rise_more from end Comment units marks low high rise = rise_said from (unit_at units 0).start end (said (characters units)) marks low high rise
rise_more from end (TokenOf class) units marks low high rise = rise_from from end marks (omega arith) rise

marks_rise : (lang : Language) (units : List Unit) (from at mode : ℕ) (fs : List Found) (end last to : ℕ) → Follow lang (characters units) at mode fs end last → InOrder from (drop at units) to → Rise from (marks_of units at fs)
marks_rise lang units from at mode [] end last to follow order = tt
marks_rise lang units from at mode (f ∷ fs) end last to follow order =
    let here : List Unit = take f.units (drop at units) in
    let some : 0 < f.units = follow.0.0.some in
    let as_many = length-map units (λ (u : Unit). u.ch) in
    let characters_left = length-drop at (characters units) in
    let units_left = length-drop at units in
    let left : f.units ≤ length (drop at units) = omega (arith, follow.0.0.within, as_many, characters_left, units_left) in
    let many : 0 < length here = taken_some f.units (drop at units) some left in
    let ends = InOrder-ends from here to (InOrder-take f.units from (drop at units) to order) many in
    let behind : InOrder (end_of here) (drop (at + f.units) units) to = subst (λ us. InOrder (end_of here) us to) (further at f.units units) (InOrder-behind f.units from (drop at units) to some left order) in
    rise_more from (end_of here) f.spell here (marks_of units (at + f.units) fs) ends.0 (omega (arith, ends.1)) (marks_rise lang units (end_of here) (at + f.units) f.mode fs end last to follow.1 behind)
  where
    taken_some : (n : ℕ) (xs : List Unit) → 0 < n → n ≤ length xs → 0 < length (take n xs)
    taken_some n xs some within = omega (arith, length-take-le n xs within)

none_below : (from : ℕ) (marks : List Mark) (j : ℕ) (d : Mark) → Rise from marks → j < length marks → from ≤ (get_or marks j d).at
none_below from [] j d rise inside = absurd (omega arith)
none_below from (m ∷ marks) zero d rise inside = rise.0
none_below from (m ∷ marks) (suc j) d rise inside =
    let later = none_below m.at marks j d rise.1 (omega (arith, inside)) in
    omega (arith, later, rise.0)

in_order : (from : ℕ) (marks : List Mark) → Rise from marks → (i j : ℕ) (d : Mark) → i ≤ j → j < length marks → (get_or marks i d).at ≤ (get_or marks j d).at
in_order from [] rise i j d le inside = absurd (omega arith)
in_order from (m ∷ marks) rise zero zero d le inside = omega arith
in_order from (m ∷ marks) rise zero (suc j) d le inside = none_below m.at marks j d rise.1 (omega (arith, inside))
in_order from (m ∷ marks) rise (suc i) zero d le inside = absurd (omega (arith, le))
in_order from (m ∷ marks) rise (suc i) (suc j) d le inside = in_order m.at marks rise.1 i j d (omega (arith, le)) (omega (arith, inside))

-- those of all elements up to one
pub marks_in_order : (lang : Language) (units : List Unit) (fs : List Found) (end last to : ℕ) (marks : List Mark) → Follow lang (characters units) 0 0 fs end last → InOrder 0 units to → marks ≡ marks_of units 0 fs → AreInOrder marks
marks_in_order lang units fs end last to marks follow order is =
    in_order 0 marks (subst (Rise 0) (sym is) (marks_rise lang units 0 0 0 fs end last to follow order))
