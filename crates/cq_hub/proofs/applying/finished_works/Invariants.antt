use Rattle.std.proofs.Common.{◌≡◌, ◌+◌, ◌-◌, ◌<◌, ◌≤◌, ◌^◌, length}
use Rattle.std.specs.Prelude.{All, IfSome}
use Rattle.std.specs.Arc.{arc_value}
use Rattle.cq_history.specs.State.{changes_in}
use Rattle.cq_shard.specs.Shard.{HaveTheirWorks}
use Rattle.cq_hub.proofs.applying.finished_works.Given as goal

abbrev pub invariant-changes : goal.invariant-changes
invariant-changes g l = record {
  number : l.from + length l.works.items ≡ l.i;
  most : l.i - l.to ≤ l.from - l.to;
  few : All (λ work. IfSome work (λ w. length (g.W.Indexed.keys_in (arc_value w)) < 2 ^ 32)) l.works.items;
  works : HaveTheirWorks (λ lang text w. g.W.Indexed.IsWorkOf l.board.settings lang text (arc_value w)) (changes_in l.board.state) l.from l.works.items;
}
