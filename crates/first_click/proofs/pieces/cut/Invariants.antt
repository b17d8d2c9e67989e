use Rattle.std.proofs.Common.{map, length, false}
use Rattle.first_click.specs.Walks.{Walk}
use Rattle.first_click.specs.Pieces.{Stands}
use Rattle.first_click.specs.Reading.Views.{piece_of}
use Rattle.first_click.proofs.pieces.cut.Given as goal

-- the pieces so far lead to here
abbrev pub invariant-loop-piece : goal.invariant-loop-piece
invariant-loop-piece l = Walk Stands (false, l.text) (map piece_of l.pieces.items) (l.at.after_word, l.at.rest.now)

abbrev pub decreases-loop-piece : goal.decreases-loop-piece
decreases-loop-piece l = length l.at.rest.now
