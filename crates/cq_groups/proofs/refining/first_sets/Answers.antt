use Rattle.std.proofs.lemmas.Bool.{iff_false}
use Rattle.std.proofs.Common.{ap, ◌∙◌, subst, sym, refl, inl, inr}
use Rattle.cq_groups.specs.Rows.{all_of}
use Rattle.cq_groups.specs.Sets.{MayGive}
use Rattle.cq_groups.proofs.RowLaws.{singles_are_rows}
use Rattle.cq_groups.proofs.Walk.{first_alone}
use Rattle.cq_groups.proofs.refining.first_sets.Goals as goal
use Rattle.cq_groups.proofs.refining.first_sets.Goals.{then-may_give+in_ok-push, else-may_give}

pub invariant_of-set : goal.invariant_of-set
invariant_of-set c = record { rows_are = singles_are_rows 0 c.in_ok-rows.rows.items c.in_ok-rows.ensures.single }

pub returns : goal.returns
returns c =
    let spots = c.in_ok-rows.ensures.spots ∙ c.deref.ensures.value in
    let is = ap all_of c.deref-2.ensures.value ∙ spots in
    elim c.if-may_give.branch [
      | then-may_give+in_ok-push w ↦ rw w.sets-is
          (inl (subst MayGive is (c.may_give.ensures.0 w.if-may_give.true), first_alone _ _ _ _ w.in_ok-push.ensures.items c.new-sets.ensures.items refl spots))
      | else-may_give w ↦ rw w.sets-is (inr (λ h. iff_false c.may_give.ensures w.if-may_give.false (subst MayGive (sym is) h), c.new-sets.ensures.items))
    ]
