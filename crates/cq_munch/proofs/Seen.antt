-- Rows of a table that sees characters past ASCII by what stands for them.
use Rattle.std.proofs.Common.{◌≡◌, ℕ, ◌<◌, Bool, true, false, if◌then◌else◌, Option, Some, None, List, [], ◌∷◌, ◌↔◌, inl, inr, ⊎_elim, map, take, refl, sym, ap, subst, arith}
use Rattle.std.proofs.lemmas.Bool.{lt-ltb, le-ltb, cases_lt}
use Rattle.std.proofs.lemmas.List.{length-map, take-map}
use Rattle.cq_munch.specs.Characters.{characters, seen_by, seen_as}
use Rattle.cq_munch.specs.Language.{Takes}
use Rattle.cq_munch.specs.Patterned.{Patterned, rows_of, rows_seen}
use Rattle.cq_munch.specs.PlainNames.{IsItselfBelow}
use Rattle.cq_munch.specs.Table.{InTable, table}
use Rattle.cq_munch.specs.declared.element.Found.{Found}
use Rattle.cq_munch.specs.declared.element.Spell.{Spell}
use Rattle.cq_munch.specs.declared.unit.Unit.{Unit}
use Rattle.cq_munch.proofs.OneKind.{OneKind}

-- ---- what stands for a character

module _ (begins continues : ℕ → Bool) where
  pub itself_below : IsItselfBelow 128 (seen_as begins continues)
  itself_below c low = ap (λ b. if b then c else (if begins c then 128 else (if continues c then 129 else 130))) (lt-ltb c 128 low)

  past : (b d : Bool) → (if b then 128 else (if d then 129 else 130)) < 131
  past true d = omega arith
  past false true = omega arith
  past false false = omega arith

  pub seen_below : (c : ℕ) → seen_as begins continues c < 131
  seen_below c =
      ⊎_elim
      (λ low. subst (λ n. n < 131) (sym (itself_below c low)) (omega (arith, low)))
      (λ high. subst (λ n. n < 131) (sym (ap (λ b. if b then c else (if begins c then 128 else (if continues c then 129 else 130))) (le-ltb c 128 high))) (past (begins c) (continues c)))
      (cases_lt c 128)

-- ---- rows

-- the characters of units, as they are seen
pub seen_is : (stood : ℕ → ℕ) (units : List Unit) → seen_by stood units ≡ map stood (characters units)
seen_is stood [] = refl
seen_is stood (u ∷ units) = ap (λ v. stood u.ch ∷ v) (seen_is stood units)

module _ (stood : ℕ → ℕ) where
  pub in_seen : (ps : Patterned) (spell : Spell) (s : List ℕ) → InTable (rows_seen stood ps) spell s ↔ InTable (rows_of ps) spell (map stood s)
  in_seen [] spell s = (λ h. h, λ h. h)
  in_seen (p ∷ ps) spell s =
      let rest = in_seen ps spell s in
      (λ h. ⊎_elim (λ own. inl own) (λ other. inr (rest.0 other)) h, λ h. ⊎_elim (λ own. inl own) (λ other. inr (rest.1 other)) h)

  pub one_kind_seen : (ps : Patterned) → OneKind (rows_of ps) → OneKind (rows_seen stood ps)
  one_kind_seen ps one s a b h k = one (map stood s) a b ((in_seen ps a s).0 h) ((in_seen ps b s).0 k)

  module _ (ps : Patterned) (at mode : ℕ) (text : List ℕ) where
    seen_front : (spell : Spell) (m : ℕ) → InTable (rows_seen stood ps) spell (take m text) → InTable (rows_of ps) spell (take m (map stood text))
    seen_front spell m h = subst (InTable (rows_of ps) spell) (sym (take-map stood m text)) ((in_seen ps spell (take m text)).0 h)

    pub taken_seen : (r : Option Found) → Takes (table (rows_of ps)) at mode (map stood text) r → Takes (table (rows_seen stood ps)) at mode text r
    taken_seen None h = λ m some within x. let long = length-map text stood in h m some (omega (arith, within, long)) (x.0, seen_front x.0 m x.1)
    taken_seen (Some f) h =
        let long = length-map text stood in
        let fits = h.0.within in
        let own : InTable (rows_seen stood ps) f.spell (take f.units text) = (in_seen ps f.spell (take f.units text)).1 (subst (InTable (rows_of ps) f.spell) (take-map stood f.units text) h.1) in (
          record {
            some = h.0.some;
            within = omega (arith, fits, long);
            spelled = (f.spell, own);
            longest = λ m more within x. h.0.longest m more (omega (arith, within, long)) (x.0, seen_front x.0 m x.1);
          },
          own,
          h.2,
        )
