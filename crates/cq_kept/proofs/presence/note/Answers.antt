use Rattle.std.proofs.Common.{Some, Ok, Err, Result, ◌++◌, refl, ap, ◌∙◌}
use Rattle.std.specs.Prelude.{OnErr}
use Rattle.cq_kept.specs.Slots.{change_of}
use Rattle.cq_kept.specs.Over.{noted}
use Rattle.cq_kept.proofs.Places.{put_noted, drop_noted, gate_noted, presence_same}
use Rattle.cq_kept.proofs.presence.note.Goals as goal

always_err : {T E : Type 0} {P : Type 0} (r : Result T E) → P → OnErr r P
always_err (Ok x) h = tt
always_err (Err e) h = h

pub returns-in_ok-replaced-in-Put-clause-more : goal.returns-in_ok-replaced-in-Put-clause-more
returns-in_ok-replaced-in-Put-clause-more c changes floor next low was =
    put_noted changes floor c.args.number next low c.args.there.now _ was c.in_ok-key-in-Put.key _ _ c.in_ok-key-in-Put.ensures.project c.in_ok-key-in-Put.ensures.path c.in_ok-replaced-in-Put.replaced c.in_ok-replaced-in-Put.ensures.old
    _ _ (change_of c.args.change.now) (ap change_of c.in-Put.is)
    (c.note_over.ensures.items ∙ ap (λ xs. xs ++ noted c.args.number c.in_ok-replaced-in-Put.replaced) c.in_ok-reserve.ensures.items) c.in_ok-replaced-in-Put.ensures.updates.0 refl

pub returns-in-Drop-clause-more : goal.returns-in-Drop-clause-more
returns-in-Drop-clause-more c changes floor next low was =
    drop_noted changes floor c.args.number next low c.args.there.now _ was c.in-Drop.file _ _ refl refl c.remove-dropped.result c.remove-dropped.ensures.value
    (change_of c.args.change.now) (ap change_of c.in-Drop.is)
    (c.note_over-in-Drop-2.ensures.items ∙ ap (λ xs. xs ++ noted c.args.number (Some c.args.number)) (c.note_over-in-Drop.ensures.items ∙ ap (λ xs. xs ++ noted c.args.number c.remove-dropped.result) c.in_ok-reserve.ensures.items))
    c.remove-dropped.ensures.updates.0 refl

pub returns-in_ok-replaced-in-Gate-clause-more : goal.returns-in_ok-replaced-in-Gate-clause-more
returns-in_ok-replaced-in-Gate-clause-more c changes floor next low was =
    gate_noted changes floor c.args.number next low c.args.there.now _ was c.in_ok-key-in-Gate.key _ _ c.in_ok-key-in-Gate.ensures c.in_ok-replaced-in-Gate.replaced c.in_ok-replaced-in-Gate.ensures.old
    (change_of c.args.change.now) (ap change_of c.in-Gate.is)
    (c.note_over-in-Gate.ensures.items ∙ ap (λ xs. xs ++ noted c.args.number c.in_ok-replaced-in-Gate.replaced) c.in_ok-reserve.ensures.items) c.in_ok-replaced-in-Gate.ensures.updates.0 refl

pub returns-in_err-key-in-Put-clause-same : goal.returns-in_err-key-in-Put-clause-same
returns-in_err-key-in-Put-clause-same c = always_err c.from_residual-in_err-key-in-Put.result (λ changes floor was. presence_same changes floor c.args.there.now _ refl refl c.in_ok-reserve.ensures.items was)

pub returns-in_err-replaced-in-Put-clause-same : goal.returns-in_err-replaced-in-Put-clause-same
returns-in_err-replaced-in-Put-clause-same c = always_err c.from_residual-in_err-replaced-in-Put.result (λ changes floor was. presence_same changes floor c.args.there.now _ c.in_err-replaced-in-Put.ensures.err refl c.in_ok-reserve.ensures.items was)

pub returns-in_err-key-in-Gate-clause-same : goal.returns-in_err-key-in-Gate-clause-same
returns-in_err-key-in-Gate-clause-same c = always_err c.from_residual-in_err-key-in-Gate.result (λ changes floor was. presence_same changes floor c.args.there.now _ refl refl c.in_ok-reserve.ensures.items was)

pub returns-in_err-replaced-in-Gate-clause-same : goal.returns-in_err-replaced-in-Gate-clause-same
returns-in_err-replaced-in-Gate-clause-same c = always_err c.from_residual-in_err-replaced-in-Gate.result (λ changes floor was. presence_same changes floor c.args.there.now _ refl c.in_err-replaced-in-Gate.ensures.err c.in_ok-reserve.ensures.items was)
