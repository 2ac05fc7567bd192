use Rattle.std.proofs.Common.{◌++◌, ◌∷◌, [], List, take, sym, subst, subst₂}
use Rattle.cq_base.specs.declared.entry.Entry.{Entry}
use Rattle.cq_shard.specs.Runs.{Precedes, AreRuns, AreRunsWith, AreAdded, entries_in}
use Rattle.cq_shard.proofs.Gathering.{runs_more, added_from}
use Rattle.cq_shard.proofs.runs.Runs.add.Goals as goal

pub gather-requires : goal.gather-requires
gather-requires g c =
    let runs = c.self.inside.runs.items in
    let added = c.args.entries.items in
    let rows = c.sorted_rows.result.items in
    subst (λ (rs : List (List Entry)). AreRuns (rs ++ rows ∷ [])) (sym c.deref.ensures.value)
    (runs_more runs rows added c.self.invariant c.sorted_rows.ensures.sorted (λ e. (c.sorted_rows.ensures.each e).0)
    (subst (λ (es : List Entry). Precedes es added) (sym c.self.view_is) c.requires.later))

pub returns-in_ok-put-clause-added : goal.returns-in_ok-put-clause-added
returns-in_ok-put-clause-added g c =
    let runs = c.self.inside.runs.items in
    let added = c.args.entries.items in
    let rows = c.sorted_rows.result.items in
    let more = c.put.new.runs.items in
    let gathered : AreRunsWith runs rows more =
    subst (AreRunsWith runs rows) (sym c.in_ok-put.ensures.put)
    (subst₂ (λ (rs : List (List Entry)) (last : List Entry). AreRunsWith rs rows (take c.in_ok-kept.kept rs ++ last ∷ [])) c.deref.ensures.value (sym c.in_ok-run.ensures) c.in_ok-kept.ensures.runs) in
    subst (λ (es : List Entry). AreAdded es added (entries_in more)) c.self.view_is (added_from runs more rows added c.sorted_rows.ensures.each gathered)
