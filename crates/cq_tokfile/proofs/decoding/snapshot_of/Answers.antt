use Rattle.std.proofs.Common.{◌≡◌, ◌∙◌, List, map, ap, sym, subst}
use Rattle.std.specs.Arc.{arc_value}
use Rattle.std.specs.Prelude.{All}
use Rattle.cq_tokform.specs.Spelling.{Contents, Recorded, listed}
use Rattle.cq_tokfile.specs.Snapshot.{IsOneFile, record_of}
use Rattle.cq_tokfile.proofs.Decoded.{few_tokens, short_tokens, rising_snapshot, apart_snapshot, sound_snapshot}
use Rattle.cq_tokfile.proofs.decoding.snapshot_of.Goals as goal

pub held_all-requires-clause-few : goal.held_all-requires-clause-few
held_all-requires-clause-few g c = few_tokens c.args.keyer.now.settings (listed c.args.contents).head.version (listed c.args.contents).files c.requires.sound.contents.files

pub held_all-requires-clause-short : goal.held_all-requires-clause-short
held_all-requires-clause-short g c = short_tokens c.args.keyer.now.settings (listed c.args.contents) c.requires.sound.fits

pub gathered-requires-clause-rising : goal.gathered-requires-clause-rising
gathered-requires-clause-rising g c = rising_snapshot c.args.keyer.now.settings (listed c.args.contents) (map arc_value c.in_ok-items.items.items) c.requires.sound.contents c.in_ok-items.ensures.same

pub gathered-requires-clause-apart : goal.gathered-requires-clause-apart
gathered-requires-clause-apart g c = apart_snapshot c.args.keyer.now.settings (listed c.args.contents) (map arc_value c.in_ok-items.items.items) c.requires.sound.contents c.in_ok-items.ensures.same

pub returns-clause-same : goal.returns-clause-same
returns-clause-same g c =
    let files : map record_of c.in_ok-files.files ≡ (listed c.args.contents).files = ap (map record_of) c.in_ok-files.ensures ∙ c.in_ok-items.ensures.same in
    ap (λ (fs : List Recorded). let k : Contents = record { head = c.args.contents.head; conditions = c.args.contents.conditions.items; files = fs } in k) files

pub returns-clause-sound : goal.returns-clause-sound
returns-clause-sound g c =
    let files : map record_of c.in_ok-files.files ≡ (listed c.args.contents).files = ap (map record_of) c.in_ok-files.ensures ∙ c.in_ok-items.ensures.same in
    let same = ap (λ (fs : List Recorded). let k : Contents = record { head = c.args.contents.head; conditions = c.args.contents.conditions.items; files = fs } in k) files in
    sound_snapshot c.args.keyer.now.settings (listed c.args.contents) _ c.requires.sound.contents same (subst (λ fs. All (IsOneFile c.args.keyer.now.settings) fs) (sym c.in_ok-files.ensures) c.in_ok-items.ensures.parts)
