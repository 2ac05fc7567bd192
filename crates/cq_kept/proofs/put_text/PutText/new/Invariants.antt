use Rattle.cq_kept.proofs.put_text.PutText.new.Given as goal

abbrev pub ghost-of_text : goal.ghost-of_text
ghost-of_text a = a.text.now
