-- Where the numbers of the puts that a floor keeps are.
use Rattle.std.specs.Prelude.{ℕ, List}
use Rattle.std.specs.Arc.{arc_value}
use Rattle.cq_board.specs.declared.keep.Source.{Source}
use Rattle.cq_board.specs.declared.keep.Source.TheVariants.{Shared, Own}

module _ {W : Type 0} where
  abbrev pub numbers_in : Source W → List ℕ
  numbers_in (Shared listing) = (arc_value listing).live
  numbers_in (Own numbers) = numbers.items
