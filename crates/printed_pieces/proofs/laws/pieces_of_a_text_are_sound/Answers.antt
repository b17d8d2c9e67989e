use Rattle.printed_pieces.proofs.SoundPieces.{pieces_sound}
use Rattle.printed_pieces.proofs.laws.pieces_of_a_text_are_sound.Goals as goal

pub returns : goal.returns
returns c = pieces_sound
