use Rattle.std.proofs.Common.{◌≡◌, map, drop, string_bytes, Ok, sym, subst, ap, ◌∙◌, refl}
use Rattle.std.specs.Vec.Iter.{into_iter_items, into_iter_steps}
use Rattle.std.proofs.lemmas.Iterator.{YieldsList, items_from_collect}
use Rattle.std.proofs.lemmas.Iterator.Adapters.{YieldsList-from_vec, YieldsList-from_skip}
use Rattle.std.proofs.lemmas.Result.{IfOk-weaker}
use Rattle.cqd.proofs.words_of.Goals as goal

pub returns : goal.returns
returns c =
    let road = YieldsList-from_vec {s = c.args.args} (into_iter_items c.args.args) refl c.args.args.rest.ok.0 in
    let skipped = YieldsList-from_skip {s = c.skip.result} 1 (subst (λ it. YieldsList into_iter_steps (λ y. y) it (into_iter_items c.args.args)) (sym c.skip.ensures.source) road) c.skip.ensures.count in
    let all : c.in_ok-words.words.items ≡ drop 1 (into_iter_items c.args.args) = items_from_collect {E = Unit {0}} (Ok c.in_ok-words.words) c.in_ok-words.ensures.ran skipped in
    IfOk-weaker c.texts_of.result _ _ (λ texts is. is ∙ ap (map string_bytes) (c.deref.ensures.value ∙ all)) c.texts_of.ensures
