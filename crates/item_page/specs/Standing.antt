-- What the values of the code stand for.
use Rattle.page_meaning.specs.Fresh.{Dressed, Shown, shown}
use Rattle.item_page.specs.declared.dressing.Dress.{Dress}
use Rattle.item_page.specs.declared.showing.Front.{Front}

abbrev pub dress_of : Dress → Dressed
dress_of it = record { attributes = it.attributes; handlers = it.handlers; given = it.given }

abbrev pub front_of : Front → Shown
front_of it = shown it.nodes it.given
