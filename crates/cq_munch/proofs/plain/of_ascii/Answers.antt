use Rattle.std.proofs.Common.{◌≡◌, ◌+◌, ◌++◌, ◌∷◌, [], get_or, sym, ap, subst, ◌∙◌, arith, rules}
use Rattle.std.proofs.lemmas.Str.{IsUtf8-from_ascii}
use Rattle.std.specs.Str.{IsAscii}
use Rattle.cq_munch.specs.Lexed.{AreBytes, placed}
use Rattle.cq_munch.proofs.Decoding.{ascii_none, ascii_more, ascii_all, ascii_in_order, ascii_short, all_seen, one_seen}
use Rattle.cq_munch.proofs.Bytes.{units_of-bytes}
use Rattle.cq_munch.proofs.plain.of_ascii.Goals as goal

pub loop-i-init : goal.loop-i-init
loop-i-init c = record {
  seen = λ k none. absurd (omega arith);
  so_far = λ ascii. ap (λ v. v ++ placed 0 c.args.bytes.now) c.in_ok-units.ensures.items ∙ ascii_none c.args.bytes.now ascii;
  counted = c.in_ok-units.ensures.len;
  room = c.in_ok-units.ensures.capacity;
}

pub loop-i-preserved : goal.loop-i-preserved
loop-i-preserved c =
    let bytes = c.args.bytes.now in
    let i = c.loop-i.i in
    let made : c.push_reserved.new.self.items ≡ c.loop-i.units.items ++ record { ch = get_or bytes i 0; start = i; len = 1 } ∷ [] = search rules in
    record {
      seen = one_seen bytes i c.loop-i.invariant.seen c.if-byte-ge128.false;
      so_far = λ ascii. ascii_more bytes ascii c.loop-i.units.items c.push_reserved.new.self.items i c.loop-i-test.true (c.loop-i.invariant.so_far ascii) made;
      counted = c.push_reserved.ensures.len ∙ ap (λ n. n + 1) c.loop-i.invariant.counted;
      room = let room = c.loop-i.invariant.room in let same = c.push_reserved.ensures.capacity in omega (arith, room, same);
    }

pub returns-clause-units : goal.returns-clause-units
returns-clause-units c =
    let ascii : IsAscii c.args.bytes.now = all_seen c.args.bytes.now c.loop-i.i c.loop-i-test.false c.loop-i.invariant.seen in
    ascii_all c.args.bytes.now ascii c.loop-i.units.items c.loop-i.i c.loop-i-test.false (c.loop-i.invariant.so_far ascii)

pub returns-clause-in_order : goal.returns-clause-in_order
returns-clause-in_order c =
    let ascii : IsAscii c.args.bytes.now = all_seen c.args.bytes.now c.loop-i.i c.loop-i-test.false c.loop-i.invariant.seen in
    ascii_in_order c.args.bytes.now ascii c.loop-i.units.items (ascii_all c.args.bytes.now ascii c.loop-i.units.items c.loop-i.i c.loop-i-test.false (c.loop-i.invariant.so_far ascii))

pub returns-clause-short : goal.returns-clause-short
returns-clause-short c =
    let ascii : IsAscii c.args.bytes.now = all_seen c.args.bytes.now c.loop-i.i c.loop-i-test.false c.loop-i.invariant.seen in
    ascii_short c.args.bytes.now ascii c.loop-i.units.items (ascii_all c.args.bytes.now ascii c.loop-i.units.items c.loop-i.i c.loop-i-test.false (c.loop-i.invariant.so_far ascii))

pub returns-clause-bytes : goal.returns-clause-bytes
returns-clause-bytes c =
    let ascii : IsAscii c.args.bytes.now = all_seen c.args.bytes.now c.loop-i.i c.loop-i-test.false c.loop-i.invariant.seen in
    subst (AreBytes c.args.bytes.now) (sym (returns-clause-units c)) (units_of-bytes c.args.bytes.now (IsUtf8-from_ascii c.args.bytes.now ascii))
