use Rattle.std.proofs.Common.{◌≡◌, ◌∙◌, ◌++◌, ◌∷◌, [], map, ap, sym, rules, subst, arith}
use Rattle.std.specs.Arc.{arc_value}
use Rattle.std.specs.Vec.Iter.{into_iter_items}
use Rattle.std.proofs.lemmas.List.{length-map, map_push, nil_from_length}
use Rattle.cq_tokform.specs.Spelling.{recorded}
use Rattle.cq_tokfile.proofs.Decoded.{AreMadeSoFar, made_none, made_more, made_all}
use Rattle.cq_tokfile.proofs.decoding.held_all.Goals as goal

pub loop-file-init : goal.loop-file-init
loop-file-init g c =
    let given : into_iter_items c.into_iter-file-iterator.result ≡ c.args.files.items = c.into_iter-file-iterator.ensures.into_iter_gives.0 in
    let none : map arc_value c.in_ok-all.all.items ≡ [] = ap (map arc_value) c.in_ok-all.ensures.items in
    subst (AreMadeSoFar c.args.keyer.now.settings (map recorded c.args.files.items) (map arc_value c.in_ok-all.all.items)) (sym (ap (map recorded) given))
    (made_none c.args.keyer.now.settings (map recorded c.args.files.items) _ none c.requires.few c.requires.short)

pub held_of-requires-clause-few : goal.held_of-requires-clause-few
held_of-requires-clause-few g c =
    let left = ap (map recorded) c.in-Some.ensures.steps.0 in
    (subst (AreMadeSoFar c.args.keyer.now.settings (map recorded c.args.files.items) (map arc_value c.loop-file.all.items)) left c.loop-file.invariant).few.0

pub held_of-requires-clause-short : goal.held_of-requires-clause-short
held_of-requires-clause-short g c =
    let left = ap (map recorded) c.in-Some.ensures.steps.0 in
    (subst (AreMadeSoFar c.args.keyer.now.settings (map recorded c.args.files.items) (map arc_value c.loop-file.all.items)) left c.loop-file.invariant).short.0

pub loop-file-preserved : goal.loop-file-preserved
loop-file-preserved g c =
    let left = ap (map recorded) c.in-Some.ensures.steps.0 in
    let more : map arc_value c.push.new.self.items ≡ map arc_value c.loop-file.all.items ++ c.in_ok-held.held ∷ [] =
    ap (map arc_value) c.in_ok-push.ensures.items ∙ map_push arc_value c.loop-file.all.items _ ∙ search rules in
    made_more c.args.keyer.now.settings (map recorded c.args.files.items) (map arc_value c.loop-file.all.items) (map arc_value c.push.new.self.items) _ (map recorded (into_iter_items c.next.new.self)) c.in_ok-held.held (recorded c.in-Some.file)
    left more c.in_ok-held.ensures.same c.in_ok-held.ensures.parts c.loop-file.invariant

pub returns : goal.returns
returns g c = made_all c.args.keyer.now.settings (map recorded c.args.files.items) (map arc_value c.loop-file.all.items) (map recorded (into_iter_items c.loop-file.file-iterator)) (nil_from_length (map recorded (into_iter_items c.loop-file.file-iterator)) (omega (arith, length-map (into_iter_items c.loop-file.file-iterator) recorded, c.in-None.ensures.steps.0))) c.loop-file.invariant
