use Rattle.std.proofs.Common.{◌≡◌, ℕ, List, ◌++◌, ◌+◌, ◌-◌, drop, ap, ◌∙◌, arith}
use Rattle.std.specs.Prelude.{vec_len, vec_capacity}
use Rattle.cq_munch.specs.declared.unit.Unit.{Unit}
use Rattle.cq_lex_c.specs.Splices.{spliced}
use Rattle.cq_lex_c.proofs.Leaving.{skipped, pushed, started, spliced_all}
use Rattle.cq_lex_c.proofs.splice.splice.Goals as goal
use Rattle.cq_lex_c.proofs.splice.splice.Goals.{then-skip-gt0, else-skip-gt0+then-len-eq0, else-skip-gt0+else-len-eq0}

-- the join's values are those of the branch
joined : (units out out' : List Unit) (skip skip' i : ℕ) → out' ≡ out → skip' ≡ skip → out ++ spliced skip (drop (i + 1) units) ≡ spliced 0 units → out' ++ spliced skip' (drop (i + 1) units) ≡ spliced 0 units
joined units out out' skip skip' i out_is skip_is h = (λ j. out_is j ++ spliced (skip_is j) (drop (i + 1) units)) ∙ h

pub loop-i-init : goal.loop-i-init
loop-i-init c = record {
  so_far = ap (λ v. v ++ spliced 0 c.args.units.now) c.in_ok-out.ensures.items;
  counted = let none = c.in_ok-out.ensures.len in omega (arith, none);
  room = c.in_ok-out.ensures.capacity;
}

pub returns : goal.returns
returns c = spliced_all c.args.units.now c.loop-i.out.items c.loop-i.i c.loop-i.skip (omega arith) c.loop-i.invariant.so_far

pub loop-i-preserved : goal.loop-i-preserved
loop-i-preserved c =
    let units = c.args.units.now in
    let i = c.loop-i.i in
    let so_far = c.loop-i.invariant.so_far in
    let counted = c.loop-i.invariant.counted in
    let room = c.loop-i.invariant.room in
    elim c.if-skip-gt0.branch [
      | then-skip-gt0 w ↦
          let same_len = ap (λ v. vec_len v) w.out-is in
          let same_room = ap (λ v. vec_capacity v) w.out-is in
          record {
            so_far = joined units c.loop-i.out.items _ (c.loop-i.skip - 1) _ i (ap (λ v. v.items) w.out-is) w.skip-is (skipped units c.loop-i.out.items i c.loop-i.skip c.loop-i-test.true so_far w.if-skip-gt0.true);
            counted = omega (arith, same_len, counted);
            room = omega (arith, same_room, room);
          }
      | else-skip-gt0+then-len-eq0 w ↦
          let same_len = ap (λ v. vec_len v) w.out-is in
          let same_room = ap (λ v. vec_capacity v) w.out-is in
          record {
            so_far = joined units w.push_reserved.new.self.items _ c.loop-i.skip _ i (ap (λ v. v.items) w.out-is) w.skip-is
                (pushed units c.loop-i.out.items i c.loop-i.skip c.loop-i-test.true so_far w.splice_len-len.result (omega (arith, w.if-skip-gt0.false)) w.splice_len-len.ensures w.if-len-eq0.true _ w.push_reserved.ensures.items);
            counted = omega (arith, same_len, counted, w.push_reserved.ensures.len);
            room = omega (arith, same_room, room, w.push_reserved.ensures.capacity);
          }
      | else-skip-gt0+else-len-eq0 w ↦
          let same_len = ap (λ v. vec_len v) w.out-is in
          let same_room = ap (λ v. vec_capacity v) w.out-is in
          record {
            so_far = joined units c.loop-i.out.items _ (w.splice_len-len.result - 1) _ i (ap (λ v. v.items) w.out-is) w.skip-is
                (started units c.loop-i.out.items i c.loop-i.skip c.loop-i-test.true so_far w.splice_len-len.result (omega (arith, w.if-skip-gt0.false)) w.splice_len-len.ensures (let not_none = w.if-len-eq0.false in omega arith));
            counted = omega (arith, same_len, counted);
            room = omega (arith, same_room, room);
          }
    ]
