use Rattle.cq_part_cases.proofs.publishing.swept.Goals as goal

pub sweep-requires : goal.sweep-requires
sweep-requires g c =
    let r = c.requires in
    record { stands = (r.0, r.1, r.2) }
