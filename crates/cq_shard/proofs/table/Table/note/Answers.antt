use Rattle.std.proofs.Common.{◌++◌, ℕ, List, length, sym, ap, subst, ◌∙◌, arith}
use Rattle.std.specs.List.Sorted.{IsStrictlyIncreasing}
use Rattle.cq_shard.specs.Blocks.{GrowsBy, puts_in}
use Rattle.cq_shard.proofs.Blocks.{grows_none}
use Rattle.cq_shard.proofs.table.Table.note.Goals as goal

pub append-requires-clause-rising : goal.append-requires-clause-rising
append-requires-clause-rising c = subst (λ (ns : List ℕ). IsStrictlyIncreasing (ns ++ c.args.puts.now)) (sym (c.self.view_is ∙ c.make_room.ensures)) c.requires

pub append-requires-clause-sized : goal.append-requires-clause-sized
append-requires-clause-sized c = let same = ap length c.deref.ensures.value in let many = c.in_ok-sizes.ensures in omega (arith, same, many)

pub returns-clause-noted : goal.returns-clause-noted
returns-clause-noted c = c.in_ok-append.ensures.appended ∙ ap (λ (ns : List ℕ). ns ++ c.args.puts.now) (c.self.view_is ∙ c.make_room.ensures)

pub returns-clause-grown : goal.returns-clause-grown
returns-clause-grown c = subst (λ (ns : List ℕ). GrowsBy c.args.puts.now ns (puts_in c.append.new.blocks.items)) (c.self.view_is ∙ c.make_room.ensures) c.append.ensures.grown

pub returns-in_err-append-clause-grown : goal.returns-in_err-append-clause-grown
returns-in_err-append-clause-grown c = subst (λ (ns : List ℕ). GrowsBy c.args.puts.now ns (puts_in c.append.new.blocks.items)) (c.self.view_is ∙ c.make_room.ensures) c.append.ensures.grown

pub returns-in_err-make_room-clause-grown : goal.returns-in_err-make_room-clause-grown
returns-in_err-make_room-clause-grown c = subst (λ (ns : List ℕ). GrowsBy c.args.puts.now c.args.self.now ns) (sym c.make_room.ensures) (grows_none c.args.puts.now c.args.self.now)

pub returns-in_err-sizes-clause-grown : goal.returns-in_err-sizes-clause-grown
returns-in_err-sizes-clause-grown c = grows_none c.args.puts.now c.args.self.now
