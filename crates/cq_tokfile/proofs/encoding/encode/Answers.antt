use Rattle.std.proofs.Common.{◌≡◌, ◌∙◌, ◌≤◌, ℕ, [], List, ◌++◌, length, ap, sym, arith}
use Rattle.std.specs.Int.{w64, to_be_bytes}
use Rattle.cq_tokform.specs.Spelling.{mark, body}
use Rattle.cq_tokfile.specs.Snapshot.{contents_of, body_length}
use Rattle.cq_tokform.proofs.Appended.{three}
use Rattle.cq_tokfile.proofs.Written.{body_bytes, too_large, fits_count}
use Rattle.cq_tokfile.proofs.encoding.encode.Goals as goal

pub body_length-len-requires : goal.body_length-len-requires
body_length-len-requires g c = c.requires.contents.few_conditions

pub returns-then-len-gt268435456 : goal.returns-then-len-gt268435456
returns-then-len-gt268435456 g c = λ fits.
    let bytes = body_bytes c.args.settings.now c.args.snapshot.now c.requires in
    too_large c.body_length-len.result (body_length c.args.snapshot.now) c.body_length-len.ensures c.if-len-gt268435456.true (omega (arith, bytes, fits))

pub returns : goal.returns
returns g c =
    let k = contents_of c.args.snapshot.now in
    let inside = body c.args.settings.now k in
    let bytes = body_bytes c.args.settings.now c.args.snapshot.now c.requires in
    let small = fits_count c.body_length-len.result (body_length c.args.snapshot.now) c.body_length-len.ensures c.if-len-gt268435456.false in
    let len : c.body_length-len.result ≡ length inside = small.1 ∙ sym bytes in
    let fits : length inside ≤ 268435456 = omega (arith, bytes, small.0) in
    let written = three [] _ _ _ mark (to_be_bytes w64 (length inside)) inside
    (c.in_ok-put_mark.ensures.written ∙ ap (λ (b : List ℕ). b ++ mark) c.in_ok-out.ensures.items)
    (c.in_ok-put_u64.ensures.written ∙ ap (λ (n : ℕ). c.put_mark.new.out.items ++ to_be_bytes w64 n) len)
    c.in_ok-put_body.ensures in
    record { sound = c.requires; fits = fits; is = written }
