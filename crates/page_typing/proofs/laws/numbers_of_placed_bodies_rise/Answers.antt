use Rattle.page_typing.proofs.RisingNumbers.{rises_content}
use Rattle.page_typing.proofs.laws.numbers_of_placed_bodies_rise.Goals as goal

pub returns : goal.returns
returns c = λ home n m nodes s formed. rises_content home n m nodes s formed
