use Rattle.std.proofs.Common.{◌≡◌, ◌++◌, ◌∷◌, [], map}
use Rattle.std.proofs.lemmas.Result.{err_from_is_err_and}
use Rattle.std.proofs.lemmas.List.{map_push}
use Rattle.cq_tokform.specs.Spelling.{recorded}
use Rattle.cq_tokform.specs.Reading.{file_at, items_at}
use Rattle.cq_tokform.proofs.Counted.{goes_on, ends, is_done}
use Rattle.cq_tokform.proofs.files.files_at.Goals as goal

pub returns-in_err-file : goal.returns-in_err-file
returns-in_err-file c =
    let p = err_from_is_err_and c.from_residual.result c.from_residual.ensures.1 in
    rw (p.1, p.2) (ends (file_at c.args.settings.now c.args.version) (map recorded c.loop.files.items) c.args.count c.loop.counter c.loop.rest.now c.in_err-file.field-0.0 (items_at (file_at c.args.settings.now c.args.version) c.args.count c.args.bytes.now) c.loop-test.true c.in_err-file.ensures c.loop.invariant)

pub loop-preserved : goal.loop-preserved
loop-preserved c =
    let e : map recorded c.push.new.self.items ≡ map recorded c.loop.files.items ++ recorded c.in_ok-file.file ∷ [] = rw c.in_ok-push.ensures.items (map_push _ c.loop.files.items c.in_ok-file.file) in
    rw e (goes_on (file_at c.args.settings.now c.args.version) (map recorded c.loop.files.items) c.args.count c.loop.counter c.loop.rest.now (recorded c.in_ok-file.file) c.in_ok-file.after.now (items_at (file_at c.args.settings.now c.args.version) c.args.count c.args.bytes.now) c.loop-test.true c.in_ok-file.ensures c.loop.invariant)

pub returns : goal.returns
returns c = is_done (file_at c.args.settings.now c.args.version) (map recorded c.loop.files.items) c.args.count c.loop.counter c.loop.rest.now (items_at (file_at c.args.settings.now c.args.version) c.args.count c.args.bytes.now) c.loop-test.false c.loop.invariant
