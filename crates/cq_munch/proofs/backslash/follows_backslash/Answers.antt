use Rattle.std.proofs.Common.{ℕ, ◌∷◌, [], List, ◌+◌, length, subst, sym}
use Rattle.memchr.specs.Find.{Nowhere, OccursAt}
use Rattle.cq_munch.proofs.Backslashes.{none_follows, some_follows}
use Rattle.cq_munch.proofs.backslash.follows_backslash.Goals as goal

pub returns-in-Some : goal.returns-in-Some
returns-in-Some c =
    sym (some_follows c.args.text.now c.args.ch c.requires.utf8 c.requires.ascii
    (subst (λ (bytes : List ℕ). OccursAt bytes (92 ∷ c.args.ch ∷ []) c.in-Some.field-0) c.as_bytes.ensures c.in-Some.ensures.1))

pub returns-in-None : goal.returns-in-None
returns-in-None c =
    sym (none_follows c.args.text.now c.args.ch c.requires.utf8 c.requires.ascii
    (subst (λ (bytes : List ℕ). Nowhere (OccursAt bytes (92 ∷ c.args.ch ∷ [])) 0 (length bytes + 1)) c.as_bytes.ensures c.in-None.ensures))
