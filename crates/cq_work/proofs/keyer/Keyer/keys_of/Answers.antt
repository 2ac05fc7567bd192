use Rattle.std.proofs.Common.{ℕ, ◌+◌, ◌<◌, length, get_or, subst, arith, rules}
use Rattle.cq_work.specs.Keys.{Rolls}
use Rattle.cq_work.proofs.Windows.{keys_short, keys_more, keys_all, key_on}
use Rattle.cq_work.proofs.keyer.Keyer.keys_of.Goals as goal

pub returns-then-codes-chunk : goal.returns-then-codes-chunk
returns-then-codes-chunk g c = search (rules, keys_short c.args.self.now.settings c.args.codes.now (omega (arith, c.if-codes-chunk.true, c.chunk-chunk.ensures)))

pub windows-preserved : goal.windows-preserved
windows-preserved g c =
    let s = c.args.self.now.settings in
    let codes = c.args.codes.now in
    let at = c.windows.at in
    let inside : at + s.chunk < length codes = omega (arith, c.windows-test.true, c.chunk-chunk.ensures, c.if-codes-chunk.false) in
    let rolls = subst (λ (n : ℕ). Rolls s (get_or codes at 0) (get_or codes (at + n) 0) c.windows.key c.rolled-key.result) c.chunk-chunk.ensures c.rolled-key.ensures in
    let key_is = key_on s codes at c.windows.key c.rolled-key.result c.requires.some inside rolls c.windows.invariant.key in
    record {
      key = key_is;
      keys = keys_more s codes c.windows.keys.items c.push-in-windows.new.self.items (at + 1) c.rolled-key.result c.requires.some (omega (arith, inside)) c.windows.invariant.keys key_is (search rules);
    }

pub returns : goal.returns
returns g c = keys_all (c.args.self.now.settings) c.args.codes.now c.windows.keys.items (c.windows.at + 1) (omega (arith, c.windows-test.false, c.chunk-chunk.ensures, c.if-codes-chunk.false, c.windows.auto.at-end, c.requires.some)) (omega (arith, c.windows-test.false, c.chunk-chunk.ensures, c.if-codes-chunk.false, c.requires.some)) c.windows.invariant.keys
