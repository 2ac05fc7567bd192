use Rattle.cq_kept.proofs.put_text.PutText.shared.Given as goal

abbrev pub ghost-again : goal.ghost-again
ghost-again a = a.self.now.bytes
