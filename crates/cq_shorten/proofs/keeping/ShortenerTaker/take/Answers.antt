use Rattle.std.proofs.Common.{◌≡◌, ◌∷◌, ◌++◌, [], true, false, sym, ap, subst, ◌∙◌, inl, inr, arith}
use Rattle.cq_base.specs.declared.change.Change.{Change}
use Rattle.cq_kept.specs.Accepted.{Accepted, accepted_from}
use Rattle.cq_kept.specs.Slots.{change_of}
use Rattle.cq_log.specs.Logs.{is_accepted}
use Rattle.cq_shorten.proofs.Taking.{has_one_more, none_against, one_longer, some_against}
use Rattle.cq_shorten.specs.Keeping.{Has}
use Rattle.cq_shorten.proofs.keeping.ShortenerTaker.take.Goals as goal
use Rattle.cq_shorten.proofs.keeping.ShortenerTaker.take.Goals.{then-is_absent-via-then-is_absent, then-is_absent-via-else-is_absent+then-is_full, then-is_absent-via-else-is_absent+else-is_full+then-is_long}

pub returns-then-is_absent-clause-takes : goal.returns-then-is_absent-clause-takes
returns-then-is_absent-clause-takes c = λ own changes has.
    let said = change_of c.in_ok-change.change in
    let old = c.args.self.now in
    subst (λ (change : Change). is_accepted c.args._settings.now changes change ≡ false) c.in_ok-change.ensures.change
    (some_against c.args._settings.now own changes c.args.line.now said old old has (
    elim c.then-is_absent.branch [
      | then-is_absent-via-then-is_absent w ↦ inl (sym c.is_absent.ensures ∙ w.if-is_absent.true)
      | then-is_absent-via-else-is_absent+then-is_full w ↦ inr (inl (sym w.is_full.ensures ∙ w.if-is_full.true))
      | then-is_absent-via-else-is_absent+else-is_full+then-is_long w ↦ inr (inr (sym w.is_long.ensures ∙ w.if-is_long.true))
    ]
    ))

pub set_floor-requires-clause-low : goal.set_floor-requires-clause-low
set_floor-requires-clause-low c =
    let same : c.accept.new.self.floor ≡ c.args.self.now.changes.floor = ap (λ (a : Accepted). a.floor) c.in_ok-accept.ensures.more in
    let longer = one_longer c.args.self.now.changes c.accept.new.self (change_of c.in_ok-change.change) c.in_ok-accept.ensures.more in
    omega (arith, same, longer, c.args.self.now.low, c.len-number.ensures)

pub returns-clause-takes : goal.returns-clause-takes
returns-clause-takes c = λ own changes has.
    let set = c.args._settings.now in
    let said = change_of c.in_ok-change.change in
    let old = c.args.self.now in
    let number = c.len-number.result in
    let next = c.len-number.ensures ∙ one_longer old.changes c.accept.new.self said c.in_ok-accept.ensures.more in
    let at = c.set_floor.new.self in
    let at_is = c.set_floor.ensures ∙ ap (λ (a : Accepted). accepted_from a.settings a.slots number) c.in_ok-accept.ensures.more in
    subst (λ (change : Change). (is_accepted set changes change ≡ true) × Has c.ease.new.self set (own ++ c.args.line.now ∷ []) (changes ++ change ∷ [])) c.in_ok-change.ensures.change (
      none_against set own changes c.args.line.now said old c.ease.new.self has (sym c.is_absent.ensures ∙ c.if-is_absent.false) (sym c.is_full.ensures ∙ c.if-is_full.false) (sym c.is_long.ensures ∙ c.if-is_long.false),
      has_one_more set own changes c.args.line.now said old c.ease.new.self has c.insert.new.self c.in_ok-line.line at number next c.in_ok-insert.ensures.updates.1 c.in_ok-line.ensures c.in_ok-insert.ensures.updates.2 at_is c.ease.ensures.same c.ease.ensures.lines,
    )
