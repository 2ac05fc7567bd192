use Rattle.std.proofs.Common.{◌∙◌, ℕ, List, ◌++◌, length, get_or, ap, sym, refl, append_assoc, arith}
use Rattle.std.specs.Int.{w32, to_be_bytes}
use Rattle.std.specs.List.{flat_map}
use Rattle.std.proofs.lemmas.List.{append-nil, take_all}
use Rattle.cq_base.specs.declared.token.Spelled.{Spelled}
use Rattle.cq_tokform.specs.Spelling.{token}
use Rattle.cq_tokfile.specs.Snapshot.{spelled_of}
use Rattle.cq_tokform.proofs.Appended.{written_on}
use Rattle.cq_tokfile.proofs.Written.{no_token, spelled_length}
use Rattle.cq_tokfile.proofs.encoding.put_spelled.Goals as goal

pub loop-i-init : goal.loop-i-init
loop-i-init g c = c.in_ok-put_u32.ensures.written ∙ ap (λ (n : ℕ). c.args.out.now.items ++ to_be_bytes w32 n) c.len.ensures ∙ sym (append-nil (c.args.out.now.items ++ to_be_bytes w32 (length c.args.tokens.now)))

pub loop-i-preserved : goal.loop-i-preserved
loop-i-preserved g c =
    let all = spelled_of c.args.spans.now c.args.tokens.now in
    let many = spelled_length c.args.spans.now c.args.tokens.now c.requires.same in
    let test = c.loop-i-test.true in
    let len = c.len-i-end.ensures in
    written_on token all c.loop-i.i (get_or all c.loop-i.i no_token) no_token (c.args.out.now.items ++ to_be_bytes w32 (length c.args.tokens.now)) c.loop-i.out.items c.put_token_at.new.out.items (omega (arith, many, test, len)) refl c.loop-i.invariant (c.in_ok-put_token_at.ensures no_token)

pub returns : goal.returns
returns g c =
    let all = spelled_of c.args.spans.now c.args.tokens.now in
    let many = spelled_length c.args.spans.now c.args.tokens.now c.requires.same in
    let test = c.loop-i-test.false in
    let len = c.len-i-end.ensures in
    let old = c.args.out.now.items in
    c.loop-i.invariant
    ∙ ap (λ (ss : List Spelled). (old ++ to_be_bytes w32 (length c.args.tokens.now)) ++ flat_map token ss) (take_all c.loop-i.i all (omega (arith, many, test, len)))
    ∙ append_assoc old (to_be_bytes w32 (length c.args.tokens.now)) (flat_map token all)
    ∙ ap (λ (n : ℕ). old ++ (to_be_bytes w32 n ++ flat_map token all)) (sym many)
