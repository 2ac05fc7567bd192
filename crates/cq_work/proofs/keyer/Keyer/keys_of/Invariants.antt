use Rattle.std.proofs.Common.{◌≡◌, ◌+◌, ◌++◌, take, drop}
use Rattle.cq_work.specs.Keys.{key_of, keys_of}
use Rattle.cq_work.proofs.keyer.Keyer.keys_of.Given as goal

abbrev pub invariant-windows : goal.invariant-windows
invariant-windows g l = record {
  key : l.key ≡ key_of l.self.settings (take l.self.settings.chunk (drop l.at l.codes));
  keys : l.keys.items ++ keys_of l.self.settings (drop (l.at + 1) l.codes) ≡ keys_of l.self.settings l.codes;
}
