use Rattle.std.proofs.Common.{◌≡◌, drop}
use Rattle.page_meaning.specs.Fresh.{all_worn, dressed}
use Rattle.item_page.specs.Standing.{dress_of}
use Rattle.item_page.proofs.dressing.dressed.Given as goal

-- what is put on, with what is left, is what all of them are
abbrev pub invariant-loop-one : goal.invariant-loop-one
invariant-loop-one l = all_worn (drop l.one-index l.worn) (dress_of l.dress) ≡ dressed l.given l.worn
