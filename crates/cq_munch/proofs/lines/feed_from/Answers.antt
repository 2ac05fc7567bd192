use Rattle.std.proofs.Common.{ℕ, Some, None, List, length, drop, sym, subst, ap, ◌∙◌}
use Rattle.std.proofs.lemmas.List.{take_rest}
use Rattle.memchr.specs.Find.{IsFirstByte, is_byte}
use Rattle.cq_base.specs.Lines.{line_feed}
use Rattle.cq_munch.specs.Feeds.{IsFeed}
use Rattle.cq_munch.proofs.Feeds.{feed_found, feed_none}
use Rattle.cq_munch.proofs.lines.feed_from.Goals as goal

pub returns-in-Some : goal.returns-in-Some
returns-in-Some c =
    feed_found c.args.text.now c.args.from c.requires.within c.in-Some.len
    (subst (λ (h : List ℕ). IsFirstByte (is_byte line_feed) h (Some c.in-Some.len)) (take_rest c.as_bytes-bytes.result.now c.args.from ∙ ap (drop c.args.from) c.as_bytes-bytes.ensures) c.in-Some.ensures)

pub returns-in-None : goal.returns-in-None
returns-in-None c =
    subst (λ (bs : List ℕ). IsFeed c.args.text.now c.args.from (length bs)) (sym c.as_bytes-bytes.ensures)
    (feed_none c.args.text.now c.args.from c.requires.within
    (subst (λ (h : List ℕ). IsFirstByte (is_byte line_feed) h None) (take_rest c.as_bytes-bytes.result.now c.args.from ∙ ap (drop c.args.from) c.as_bytes-bytes.ensures) c.in-None.ensures))
