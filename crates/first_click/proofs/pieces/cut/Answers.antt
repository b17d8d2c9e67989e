use Rattle.std.proofs.Common.{◌∷◌, [], sym}
use Rattle.std.proofs.lemmas.List.{map-append}
use Rattle.first_click.specs.Walks.{stay}
use Rattle.first_click.specs.Pieces.{Stands}
use Rattle.first_click.specs.Reading.Views.{piece_of}
use Rattle.first_click.proofs.Reading.WalkLemmas.{walk-more}
use Rattle.first_click.proofs.Reading.PieceLemmas.{piece_at-some, shorter}
use Rattle.first_click.proofs.pieces.cut.Goals as goal

pub loop-piece-init : goal.loop-piece-init
loop-piece-init c = rw c.new-pieces.ensures.items (stay _)

pub loop-piece-smaller : goal.loop-piece-smaller
loop-piece-smaller c =
    shorter _ _ _ (piece_at-some (c.loop-piece.at.after_word, c.loop-piece.at.rest.now) (piece_of c.in-Some.piece, (c.in-Some.next.after_word, c.in-Some.next.rest.now)) (sym c.in-Some.ensures))

pub loop-piece-preserved : goal.loop-piece-preserved
loop-piece-preserved c =
    rw (c.in_ok-push.ensures.items, map-append piece_of c.loop-piece.pieces.items (c.in-Some.piece ∷ []))
    (walk-more Stands _ _ _ _ (piece_of c.in-Some.piece) c.loop-piece.invariant (piece_at-some (c.loop-piece.at.after_word, c.loop-piece.at.rest.now) (piece_of c.in-Some.piece, (c.in-Some.next.after_word, c.in-Some.next.rest.now)) (sym c.in-Some.ensures)))
