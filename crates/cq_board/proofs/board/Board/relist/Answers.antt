use Rattle.std.proofs.Common.{inl, arith}
use Rattle.std.specs.Arc.{arc_value}
use Rattle.cq_board.proofs.OneMore.{listed_low, listed_from, listed_back, board_published}
use Rattle.cq_board.proofs.board.Board.relist.Goals as goal

pub advance_to-requires : goal.advance_to-requires
advance_to-requires g c = record {
  order = listed_low (g.W.Indexed.IsWorkOf c.self.inside.changes.settings) c.self.inside.changes.settings c.self.inside.changes.slots c.self.inside.changes.floor c.self.inside.undone c.self.inside.free c.self.inside.published c.self.inside.listed (arc_value c.self.inside.listing) c.self.inside.views.items c.self.invariant c.self.inside.published (omega arith);
  from = listed_from (g.W.Indexed.IsWorkOf c.self.inside.changes.settings) c.self.inside.changes.settings c.self.inside.changes.slots c.self.inside.changes.floor c.self.inside.undone c.self.inside.free c.self.inside.published c.self.inside.listed (arc_value c.self.inside.listing) c.self.inside.views.items c.self.invariant;
  floor = c.self.invariant.in_order.0;
  done = c.self.invariant.in_order.1;
  listing = c.self.invariant.listing;
}

pub invariant_of-self-2 : goal.invariant_of-self-2
invariant_of-self-2 g c =
    board_published (g.W.Indexed.IsWorkOf c.self.inside.changes.settings) c.self.inside.changes.settings c.self.inside.changes.slots c.self.inside.changes.floor c.self.inside.undone c.self.inside.free c.self.inside.published c.self.inside.listed (arc_value c.self.inside.listing) c.self.inside.views.items c.self.invariant c.self.inside.published c.advance_to.new.at (arc_value c.advance_to.new.listing) (omega arith) c.self.invariant.in_order.1 (inl c.in_ok-advance_to.ensures.next) c.advance_to.ensures.listing

pub invariant_of-self : goal.invariant_of-self
invariant_of-self g c =
    board_published (g.W.Indexed.IsWorkOf c.self.inside.changes.settings) c.self.inside.changes.settings c.self.inside.changes.slots c.self.inside.changes.floor c.self.inside.undone c.self.inside.free c.self.inside.published c.self.inside.listed (arc_value c.self.inside.listing) c.self.inside.views.items c.self.invariant c.self.inside.published c.advance_to.new.at (arc_value c.advance_to.new.listing) (omega arith) c.self.invariant.in_order.1 (listed_back (g.W.Indexed.IsWorkOf c.self.inside.changes.settings) c.self.inside.changes.settings c.self.inside.changes.slots c.self.inside.changes.floor c.self.inside.undone c.self.inside.free c.self.inside.published c.self.inside.listed (arc_value c.self.inside.listing) c.self.inside.views.items c.self.invariant c.advance_to.new.at c.in_err-advance_to.ensures.back) c.advance_to.ensures.listing
