use Rattle.razor_reader.proofs.PlaceBounds.{place_bound}
use Rattle.razor_reader.proofs.laws.places_are_no_further_than_the_text_is_long.Goals as goal

pub returns : goal.returns
returns c = place_bound
