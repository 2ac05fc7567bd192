use Rattle.std.proofs.Common.{◌≡◌, ◌++◌, ◌∙◌, ◌-◌, length, get_or, set, sym, ap, subst, arith}
use Rattle.std.proofs.lemmas.List.{set-get_or}
use Rattle.cq_shard.specs.declared.table.Block.{Block}
use Rattle.cq_shard.specs.Blocks.{IsTableOf, puts_in}
use Rattle.cq_shard.proofs.Blocks.{appended_last, last_rises_by}
use Rattle.cq_shard.proofs.Storing.{always_err}
use Rattle.cq_shard.proofs.table.append_last.Goals as goal

pub append_to-requires-clause-rising : goal.append_to-requires-clause-rising
append_to-requires-clause-rising c =
    let blocks = c.args.blocks.now.items in
    let b = c.index_mut.result.now in
    let many = c.len-last.ensures in
    let long : c.len-last.result ≡ length blocks = omega (arith, many, c.args.blocks.now.ok.0) in
    let at : b ≡ get_or blocks (length blocks - 1) b = c.index_mut.ensures.value ∙ ap (λ n. get_or blocks (n - 1) b) long in
    last_rises_by blocks b c.args.changes.now c.requires.some at c.requires.rising

pub returns-clause-appended : goal.returns-clause-appended
returns-clause-appended c =
    let blocks = c.args.blocks.now.items in
    let changes = c.args.changes.now in
    let b = c.index_mut.result.now in
    let many = c.len-last.ensures in
    let long : c.len-last.result ≡ length blocks = omega (arith, many, c.args.blocks.now.ok.0) in
    let at : b ≡ get_or blocks (length blocks - 1) b = c.index_mut.ensures.value ∙ ap (λ n. get_or blocks (n - 1) b) long in
    subst (λ n. IsTableOf (puts_in blocks ++ changes) (set blocks (n - 1) c.append_to.new.block)) (sym long)
    (appended_last blocks b changes c.requires.some at c.requires.rising c.append_to.new.block c.requires.table c.in_ok-append_to.ensures.appended)

pub returns-in_err-append_to-clause-same : goal.returns-in_err-append_to-clause-same
returns-in_err-append_to-clause-same c =
    let blocks = c.args.blocks.now.items in
    let last = c.len-last.result - 1 in
    always_err c.from_residual.result (ap (λ (b : Block). set blocks last b) (c.in_err-append_to.ensures.same ∙ c.index_mut.ensures.value) ∙ set-get_or blocks last c.index_mut.result.now)
