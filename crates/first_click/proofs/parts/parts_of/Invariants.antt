use Rattle.std.proofs.Common.{◌≡◌, ◌++◌, drop, length, map}
use Rattle.first_click.specs.Handlers.{parts_behind, handlers_of}
use Rattle.first_click.specs.Reading.Handlers.{with_numbers}
use Rattle.first_click.specs.Reading.Views.{piece_of}
use Rattle.first_click.proofs.parts.parts_of.Given as goal

-- with what the pieces that are left give, the parts and the handlers are whole
abbrev pub invariant-loop-piece : goal.invariant-loop-piece
invariant-loop-piece l =
    record {
      parts : l.parts.items ++ parts_behind (length l.handlers) (map piece_of (drop l.piece-index l.pieces)) ≡ parts_behind 0 (map piece_of l.pieces);
      handlers : with_numbers l.handlers (handlers_of l.methods (map piece_of (drop l.piece-index l.pieces))) ≡ handlers_of l.methods (map piece_of l.pieces);
    }
