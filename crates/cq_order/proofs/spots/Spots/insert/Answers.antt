use Rattle.std.proofs.Common.{◌≡◌, ◌+◌, ◌<◌, ◌^◌, length, map, set, ℕ, sym, ap, ◌∙◌, subst, arith}
use Rattle.std.specs.Prelude.{All}
use Rattle.std.proofs.lemmas.List.Elements.{All-push}
use Rattle.std.proofs.lemmas.List.{length_push, length-map}
use Rattle.std.proofs.lemmas.Result.{on_ok_weaker}
use Rattle.cq_order.specs.declared.spots.Spot.{Spot}
use Rattle.cq_order.specs.Spots.{Inserts, paired, opened}
use Rattle.cq_order.proofs.Pairing.{length_paired, files_within, last_kept, whole}
use Rattle.cq_order.proofs.SpotEdits.{inserts, appends}
use Rattle.cq_order.proofs.spots.Spots.insert.Goals as goal

pub returns-then-spot-len-clause-inserted : goal.returns-then-spot-len-clause-inserted
returns-then-spot-len-clause-inserted c =
    on_ok_weaker c.push.result (λ pushed. subst (Inserts c.args.len c.args.spot c.args.self.now) (sym pushed) (appends c.args.len c.args.spot c.args.self.now c.if-spot-len.true)) c.push.ensures.pushed

pub open_at-requires : goal.open_at-requires
open_at-requires c =
    let cs = c.self-2.inside.changes.items in
    let fs = c.self-2.inside.files.items in
    let room : c.args.spot.file + 1 < 2 ^ 32 = omega (arith, c.requires.within, c.requires.few) in
    let pushed = c.self-2.view_is ∙ c.in_ok-push.ensures.pushed in
    subst (All (λ (file : ℕ). file + 1 < 2 ^ 32)) (sym c.as_mut_slice.ensures.value)
    (files_within (λ file. file + 1 < 2 ^ 32) cs fs c.self-2.invariant
    (subst (All (λ (s : Spot). s.file + 1 < 2 ^ 32)) (sym pushed) (All-push (λ (s : Spot). s.file + 1 < 2 ^ 32) c.args.self.now c.args.spot c.requires.room room)))

pub index_mut-requires : goal.index_mut-requires
index_mut-requires c =
    let size = length_paired c.self.inside.changes.items c.self.inside.files.items c.self.invariant in
    let now = length_paired c.self-2.inside.changes.items c.self-2.inside.files.items c.self-2.invariant in
    let pushed = ap length (c.self-2.view_is ∙ c.in_ok-push.ensures.pushed) ∙ length_push c.args.self.now c.args.spot in
    omega (arith, size, now, pushed, ap length c.self.view_is, c.self.invariant, c.self-2.invariant, c.len-last.ensures, c.self.inside.files.ok.0, c.self-2.inside.files.ok.0)

pub returns-clause-inserted : goal.returns-clause-inserted
returns-clause-inserted c =
    let cs = c.self-2.inside.changes.items in
    let fs = c.self-2.inside.files.items in
    let old = c.args.self.now in
    let size = length_paired c.self.inside.changes.items c.self.inside.files.items c.self.invariant in
    let last : c.len-last.result ≡ length old = omega (arith, size, ap length c.self.view_is, c.self.invariant, c.len-last.ensures, c.self.inside.files.ok.0) in
    let moved : c.open_at.new.files ≡ map (opened c.args.spot.file) fs = c.open_at.ensures ∙ ap (map (opened c.args.spot.file)) c.as_mut_slice.ensures.value in
    let left = whole _ c.open_at.new.files fs (omega (arith, c.self-2.inside.files.ok.0)) (ap length moved ∙ length-map fs (opened c.args.spot.file)) in
    let now =
    ap (λ xs. paired cs (set xs c.len-last.result c.args.spot.file)) (left ∙ moved)
    ∙ last_kept cs fs c.self-2.invariant (opened c.args.spot.file) old c.args.spot c.len-last.result (c.self-2.view_is ∙ c.in_ok-push.ensures.pushed) last in
    subst (Inserts c.args.len c.args.spot old) (sym now) (inserts c.args.len c.args.spot old c.requires.within)
