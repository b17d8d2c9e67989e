-- What the values of the code stand for.
use Rattle.frame_text.specs.Frames.{Listed, listed}
use Rattle.frame_text.specs.declared.listing.Front.{Front}

abbrev pub front_of : Front → Listed
front_of it = listed it.lines.items it.given
