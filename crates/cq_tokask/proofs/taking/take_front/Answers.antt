use Rattle.std.proofs.Common.{◌≡◌, ◌∙◌, ◌++◌, List, ℕ, Some, None, [], sym, ap, subst, arith}
use Rattle.std.proofs.KnownBytes.{Consumes-nil, Consumes-trans, Consumes-whole}
use Rattle.std.specs.Io.KnownBytes.{Consumes}
use Rattle.cq_io.specs.Causes.{Rose}
use Rattle.cq_tokask.specs.Taken.{BeginsOther, IsFramed}
use Rattle.cq_tokask.proofs.Coming.{on_err}
use Rattle.cq_tokask.proofs.Fronts.{too_short, announces_none, some_missing, all_there, at_most_head, at_most_announced, told_of}
use Rattle.cq_tokform.proofs.Fields.{IsBytes}
use Rattle.cq_tokform.specs.Reading.{announced}
use Rattle.cq_tokask.proofs.taking.take_front.Goals as goal

-- `take` is the first call, of 16 bytes, and `take-2` that of the body
pub returns-in-Ended-clause-takes : goal.returns-in-Ended-clause-takes
returns-in-Ended-clause-takes g c =
    let first = rw c.in-Ended.is at c.in_ok-take.ensures.bytes in
    (Consumes-whole _ _ first.got BeginsOther first.came.consumed first.ends.1 (too_short first.got first.ends.0), first.ends.2)

pub returns-in-Failed-clause-takes : goal.returns-in-Failed-clause-takes
returns-in-Failed-clause-takes g c =
    let first = rw c.in-Failed.is at c.in_ok-take.ensures.bytes in
    ((first.got, first.came.consumed, too_short first.got first.ends.0), first.ends.1)

pub returns-in_default-clause-takes : goal.returns-in_default-clause-takes
returns-in_default-clause-takes g c =
    let first = rw c.in-All.is at c.in_ok-take.ensures.bytes in
    let seen : c.deref.result.now ≡ first.got = c.deref.ensures.value ∙ first.came.behind ∙ ap (λ (o : List ℕ). o ++ first.got) c.new-bytes.ensures.items in
    let none : announced first.got ≡ None = sym (c.in_default.ensures.told ∙ ap announced seen) in
    (told_of BeginsOther _ _ first.got first.came.consumed (λ left. announces_none first.got left first.ends.0 none), first.ends.1)

pub returns-in-Ended-2-clause-takes : goal.returns-in-Ended-2-clause-takes
returns-in-Ended-2-clause-takes g c =
    let first = rw c.in-All.is at c.in_ok-take.ensures.bytes in
    let rest = rw c.in-Ended-2.is at c.in_ok-take-2.ensures.bytes in
    let seen : c.deref.result.now ≡ first.got = c.deref.ensures.value ∙ first.came.behind ∙ ap (λ (o : List ℕ). o ++ first.got) c.new-bytes.ensures.items in
    let told : announced first.got ≡ Some c.in-Some.len = sym (c.in-Some.ensures.told ∙ ap announced seen) in (
      Consumes-whole _ _ (first.got ++ rest.got) BeginsOther (Consumes-trans _ _ _ first.got rest.got first.came.consumed rest.came.consumed) rest.ends.1 (some_missing first.got rest.got c.in-Some.len first.ends.0 told rest.ends.0),
      rest.ends.2 ∙ first.ends.1,
    )

pub returns-clause-takes : goal.returns-clause-takes
returns-clause-takes g c =
    let first = rw c.in-All.is at c.in_ok-take.ensures.bytes in
    let rest = rw c.in-Failed-2.is at c.in_ok-take-2.ensures.bytes in
    let seen : c.deref.result.now ≡ first.got = c.deref.ensures.value ∙ first.came.behind ∙ ap (λ (o : List ℕ). o ++ first.got) c.new-bytes.ensures.items in
    let told : announced first.got ≡ Some c.in-Some.len = sym (c.in-Some.ensures.told ∙ ap announced seen) in (
      (first.got ++ rest.got, Consumes-trans _ _ _ first.got rest.got first.came.consumed rest.came.consumed, some_missing first.got rest.got c.in-Some.len first.ends.0 told rest.ends.0),
      subst (λ (n : ℕ). Rose n (g.S.Source.faults c.take-2.new.source)) first.ends.1 rest.ends.1,
    )

pub returns-in-All-2-clause-takes : goal.returns-in-All-2-clause-takes
returns-in-All-2-clause-takes g c =
    let first = rw c.in-All.is at c.in_ok-take.ensures.bytes in
    let rest = rw c.in-All-2.is at c.in_ok-take-2.ensures.bytes in
    let mid : c.take.new.out.items ≡ first.got = first.came.behind ∙ ap (λ (o : List ℕ). o ++ first.got) c.new-bytes.ensures.items in
    let seen : c.deref.result.now ≡ first.got = c.deref.ensures.value ∙ mid in
    let told : announced first.got ≡ Some c.in-Some.len = sym (c.in-Some.ensures.told ∙ ap announced seen) in
    let fits : IsBytes first.got = subst IsBytes seen c.length_told.ensures.fit in
    let all : c.take-2.new.out.items ≡ first.got ++ rest.got = rest.came.behind ∙ ap (λ (o : List ℕ). o ++ rest.got) mid in (
      subst IsFramed (sym all) (all_there first.got rest.got c.in-Some.len fits first.ends.0 told rest.ends.0),
      subst (λ (b : List ℕ). Consumes (g.S.Source.rest c.args.source.now) (g.S.Source.rest c.take-2.new.source) b) (sym all) (Consumes-trans _ _ _ first.got rest.got first.came.consumed rest.came.consumed),
      rest.ends.1 ∙ first.ends.1,
    )

pub returns-in_err-piece-clause-none_behind : goal.returns-in_err-piece-clause-none_behind
returns-in_err-piece-clause-none_behind g c = on_err c.from_residual.result ([], Consumes-nil (g.S.Source.rest c.args.source.now), at_most_head [] (omega arith))

pub returns-in_err-take-clause-none_behind : goal.returns-in_err-take-clause-none_behind
returns-in_err-take-clause-none_behind g c =
    let (got, came, few) = c.in_err-take.ensures.few in
    on_err c.from_residual-in_err-take.result (got, came, at_most_head got few)

pub returns-in_err-take-2-clause-none_behind : goal.returns-in_err-take-2-clause-none_behind
returns-in_err-take-2-clause-none_behind g c =
    let first = rw c.in-All.is at c.in_ok-take.ensures.bytes in
    let (more, came, few) = c.in_err-take-2.ensures.few in
    let seen : c.deref.result.now ≡ first.got = c.deref.ensures.value ∙ first.came.behind ∙ ap (λ (o : List ℕ). o ++ first.got) c.new-bytes.ensures.items in
    let told : announced first.got ≡ Some c.in-Some.len = sym (c.in-Some.ensures.told ∙ ap announced seen) in
    on_err c.from_residual-in_err-take-2.result
    (first.got ++ more, Consumes-trans _ _ _ first.got more first.came.consumed came, at_most_announced first.got more c.in-Some.len first.ends.0 told few)
