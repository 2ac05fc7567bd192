use Rattle.std.proofs.Common.{◌∙◌, ℕ, List, ◌++◌, length, map, ap, sym, subst, append_assoc, arith}
use Rattle.std.specs.Int.{w32, to_be_bytes}
use Rattle.std.specs.List.{flat_map}
use Rattle.std.proofs.lemmas.List.{append-nil, take_all, length-map}
use Rattle.std.proofs.lemmas.List.Folds.{flat_map-map}
use Rattle.std.proofs.lemmas.Option.{get_or_from_slice_get}
use Rattle.cq_tokform.specs.Spelling.{file}
use Rattle.cq_history.specs.Files.{File}
use Rattle.cq_work.specs.declared.work.Work.{Work}
use Rattle.cq_tokform.specs.Sound.{HasSpelling}
use Rattle.cq_tokfile.specs.Snapshot.{record_of, HasTokenForEachPlace}
use Rattle.cq_tokform.proofs.Appended.{written_on}
use Rattle.cq_tokfile.proofs.encoding.put_all.Goals as goal

pub loop-i-init : goal.loop-i-init
loop-i-init g c = c.in_ok-put_u32.ensures.written ∙ ap (λ (n : ℕ). c.args.out.now.items ++ to_be_bytes w32 n) c.len.ensures ∙ sym (append-nil (c.args.out.now.items ++ to_be_bytes w32 (length c.args.files.now)))

pub put_held-requires-clause-spelled : goal.put_held-requires-clause-spelled
put_held-requires-clause-spelled g c =
    let test = c.loop-i-test.true in
    let len = c.len-i-end.ensures in
    let item = c.at.result.now in
    subst (λ (f : File (Work g.row.L.Denot)). HasSpelling (record_of f)) (get_or_from_slice_get c.args.files.now c.loop-i.i item item c.at.ensures) (c.requires.spelled c.loop-i.i item (omega (arith, test, len)))

pub put_held-requires-clause-parts : goal.put_held-requires-clause-parts
put_held-requires-clause-parts g c =
    let test = c.loop-i-test.true in
    let len = c.len-i-end.ensures in
    let item = c.at.result.now in
    subst (λ (f : File (Work g.row.L.Denot)). HasTokenForEachPlace f) (get_or_from_slice_get c.args.files.now c.loop-i.i item item c.at.ensures) (c.requires.parts c.loop-i.i item (omega (arith, test, len)))

pub loop-i-preserved : goal.loop-i-preserved
loop-i-preserved g c =
    let test = c.loop-i-test.true in
    let len = c.len-i-end.ensures in
    let item = c.at.result.now in
    written_on (λ f. file (record_of f)) c.args.files.now c.loop-i.i item item (c.args.out.now.items ++ to_be_bytes w32 (length c.args.files.now)) c.loop-i.out.items c.put_held.new.out.items (omega (arith, test, len)) (sym (get_or_from_slice_get c.args.files.now c.loop-i.i item item c.at.ensures)) c.loop-i.invariant c.in_ok-put_held.ensures

pub returns : goal.returns
returns g c =
    let files = c.args.files.now in
    let old = c.args.out.now.items in
    let test = c.loop-i-test.false in
    let len = c.len-i-end.ensures in
    c.loop-i.invariant
    ∙ ap (λ fs. (old ++ to_be_bytes w32 (length files)) ++ flat_map (λ f. file (record_of f)) fs) (take_all c.loop-i.i files (omega (arith, test, len)))
    ∙ append_assoc old (to_be_bytes w32 (length files)) (flat_map (λ f. file (record_of f)) files)
    ∙ ap (λ (bytes : List ℕ). old ++ (to_be_bytes w32 (length files) ++ bytes)) (sym (flat_map-map file record_of files))
    ∙ ap (λ (n : ℕ). old ++ (to_be_bytes w32 n ++ flat_map file (map record_of files))) (sym (length-map files record_of))
