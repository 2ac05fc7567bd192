-- A byte order mark, and places where none is.
use Rattle.std.proofs.Common.{◌≡◌, ℕ, zero, suc, ◌<◌, Option, Some, true, false, List, [], ◌∷◌, length, take, drop, ◌+◌, refl, sym, ap, subst, ◌∙◌, arith, length-take-le}
use Rattle.std.proofs.lemmas.Bool.{eqb-true, MatchBool-at_true, MatchBool-at_false}
use Rattle.cq_base.proofs.Bools.{MatchBool-from_true, MatchBool-from_false}
use Rattle.cq_munch.specs.Characters.{characters}
use Rattle.cq_munch.specs.Language.{Language, Takes, marked, has_mark}
use Rattle.cq_munch.specs.Lexed.{unit_at}
use Rattle.cq_munch.specs.declared.element.Found.{Found}
use Rattle.cq_munch.specs.declared.element.Spell.TheVariants.{Blank}
use Rattle.cq_munch.specs.declared.unit.Unit.{Unit}
use Rattle.cq_munch.proofs.Joining.{carried}
use Rattle.cq_munch.proofs.Texts.{from_unit}

-- where there is no mark, the language's own rows are tried
pub takes_unmarked : (lang : Language) (at mode : ℕ) (text : List ℕ) → has_mark at text ≡ false → (r : Option Found) → Takes lang at mode text r → Takes (marked lang) at mode text r
takes_unmarked lang at mode text h r taken =
    carried lang (marked lang) at mode text (λ spell s x. MatchBool-from_false (has_mark at text) ((spell ≡ Blank) × (s ≡ 65279 ∷ [])) (lang.tried at mode text spell s) h x) (λ spell s. refl)
    (λ spell m some within x. MatchBool-at_false ((spell ≡ Blank) × (take m text ≡ 65279 ∷ [])) (lang.tried at mode text spell (take m text)) h x) r taken

-- the mark itself
takes_mark : (lang : Language) (at mode next c : ℕ) (cs : List ℕ) → has_mark at (c ∷ cs) ≡ true → next ≡ lang.mode_behind mode Blank (c ∷ [])
    → Takes (marked lang) at mode (c ∷ cs) (Some (record { spell = Blank; units = 1; mode = next }))
takes_mark lang (suc at) mode next c cs h same = absurd (cc)
takes_mark lang zero mode next c cs h same =
    let alone : c ∷ [] ≡ 65279 ∷ [] = ap (λ v. v ∷ []) (eqb-true c 65279 h) in
    let rows : (marked lang).tried 0 mode (c ∷ cs) Blank (c ∷ []) =
    MatchBool-from_true (has_mark 0 (c ∷ cs)) ((Blank ≡ Blank) × (c ∷ [] ≡ 65279 ∷ [])) (lang.tried 0 mode (c ∷ cs) Blank (c ∷ [])) h (refl, alone) in (
      record {
        some = omega arith;
        within = omega arith;
        spelled = (Blank, rows);
        longest = λ m more within spelled.
            let is_mark = MatchBool-at_true ((spelled.0 ≡ Blank) × (take m (c ∷ cs) ≡ 65279 ∷ [])) (lang.tried 0 mode (c ∷ cs) spelled.0 (take m (c ∷ cs))) h spelled.1 in
            let one = ap length is_mark.1 in
            let as_long = length-take-le m (c ∷ cs) within in
            omega arith;
      },
      rows,
      same,
    )

pub takes_mark_at : (lang : Language) (units : List Unit) (at mode next : ℕ) → at < length units → has_mark at (drop at (characters units)) ≡ true → next ≡ lang.mode_behind mode Blank ((unit_at units at).ch ∷ [])
    → Takes (marked lang) at mode (drop at (characters units)) (Some (record { spell = Blank; units = 1; mode = next }))
takes_mark_at lang units at mode next inside h same =
    let cut = from_unit units at inside in
    subst (λ t. Takes (marked lang) at mode t (Some (record { spell = Blank; units = 1; mode = next }))) (sym cut)
    (takes_mark lang at mode next (unit_at units at).ch (drop (at + 1) (characters units)) (ap (has_mark at) (sym cut) ∙ h) same)
