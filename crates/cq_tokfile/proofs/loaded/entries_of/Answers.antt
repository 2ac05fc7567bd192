use Rattle.std.proofs.Common.{◌≡◌, ◌∙◌, slice_get, Some, ap, sym, arith}
use Rattle.std.specs.Arc.{arc_value}
use Rattle.std.proofs.lemmas.List.{get_or-map, length-map}
use Rattle.std.proofs.lemmas.Option.{slice_get-get_or}
use Rattle.cq_clones.specs.Groups.{file_at}
use Rattle.cq_tokens.specs.Corpus.{changes_of, keys_of}
use Rattle.cq_tokfile.proofs.Indexing.{files_none, files_others, files_more, files_all}
use Rattle.cq_tokfile.proofs.loaded.entries_of.Goals as goal

-- Open, as `here` and `keys`: that the change and the keys of the loop's file are those at its position, by
-- `file-item.is`, `get_or-map` and `slice_get-get_or`.
pub loop-file-init : goal.loop-file-init
loop-file-init g c = files_none (changes_of c.args.files.now) (keys_of c.args.files.now) _ c.new-entries.ensures.items

pub push_entries-requires-clause-others : goal.push_entries-requires-clause-others
push_entries-requires-clause-others g c =
    let files = c.args.files.now in
    let at = c.loop-file.file-index in
    let file = c.file-item.result in
    let inside = c.loop-file-test.true in
    let here : slice_get (changes_of files) at ≡ Some file.change =
    slice_get-get_or (changes_of files) at 0 (omega (arith, inside, length-map files (λ f. f.change))) ∙ ap Some (get_or-map (λ f. f.change) files at file 0 inside ∙ ap (λ f. f.change) (sym c.file-item.is)) in
    files_others (changes_of files) (keys_of files) at file.change c.loop-file.entries.items c.requires here c.loop-file.invariant

pub loop-file-preserved : goal.loop-file-preserved
loop-file-preserved g c =
    let files = c.args.files.now in
    let at = c.loop-file.file-index in
    let file = c.file-item.result in
    let inside = c.loop-file-test.true in
    let here : slice_get (changes_of files) at ≡ Some file.change =
    slice_get-get_or (changes_of files) at 0 (omega (arith, inside, length-map files (λ f. f.change))) ∙ ap Some (get_or-map (λ f. f.change) files at file 0 inside ∙ ap (λ f. f.change) (sym c.file-item.is)) in
    let keys : file_at (keys_of files) at ≡ c.as_slice.result.now =
    get_or-map (λ f. arc_value f.keys) files at file _ inside ∙ ap (λ f. arc_value f.keys) (sym c.file-item.is) ∙ sym (c.as_slice.ensures.keys ∙ c.deref.ensures) in
    files_more (changes_of files) (keys_of files) at file.change c.as_slice.result.now c.loop-file.entries.items c.push_entries.new.entries.items here keys c.loop-file.invariant c.in_ok-push_entries.ensures

pub returns : goal.returns
returns g c =
    let many = length-map c.args.files.now (λ f. arc_value f.keys) in
    let past = c.loop-file-test.false in
    files_all (changes_of c.args.files.now) (keys_of c.args.files.now) c.loop-file.file-index c.loop-file.entries.items c.sort_keyed.new.entries.items (omega (arith, many, past)) c.loop-file.invariant c.sort_keyed.ensures
