use Rattle.std.proofs.Common.{◌≡◌, ◌∙◌, ◌<◌, length, sym, ap, rules, arith}
use Rattle.std.specs.Arc.{arc_value}
use Rattle.std.proofs.lemmas.List.{take_all}
use Rattle.std.proofs.lemmas.Option.{get_or_from_slice_get}
use Rattle.cq_projects.specs.Spotted.{numbers_of}
use Rattle.cq_tokfile.specs.Loaded.{keys_in}
use Rattle.cq_tokfile.proofs.Indexing.{shared_numbers, shared_keys}
use Rattle.cq_tokfile.proofs.loaded.shared_files.Goals as goal

pub loop-i-preserved : goal.loop-i-preserved
loop-i-preserved g c =
    let files = c.args.files.now in
    let i = c.loop-i.i in
    let item = c.at-held.result.now in
    let test = c.loop-i-test.true in
    let len = c.len-i-end.ensures in
    let within : i < length files = omega (arith, test, len) in
    let is = sym (get_or_from_slice_get files i item item c.at-held.ensures) in
    let keys : arc_value c.in_ok-try_clone-2.field-0 ≡ arc_value item.body.keys = search rules in (
      shared_numbers files i item within is c.loop-i.shared.items c.push.new.self.items _ c.in_ok-push.ensures.items (search rules) c.loop-i.invariant.0,
      shared_keys files i item within is c.loop-i.shared.items c.push.new.self.items _ c.in_ok-push.ensures.items keys c.loop-i.invariant.1,
    )

pub returns-clause-changes : goal.returns-clause-changes
returns-clause-changes g c =
    let test = c.loop-i-test.false in
    let len = c.len-i-end.ensures in
    c.loop-i.invariant.0 ∙ ap numbers_of (take_all c.loop-i.i c.args.files.now (omega (arith, test, len)))

pub returns-clause-keys : goal.returns-clause-keys
returns-clause-keys g c =
    let test = c.loop-i-test.false in
    let len = c.len-i-end.ensures in
    c.loop-i.invariant.1 ∙ ap keys_in (take_all c.loop-i.i c.args.files.now (omega (arith, test, len)))
