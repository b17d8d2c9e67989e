use Rattle.page_typing.proofs.NarrowLambdas.{body_follows}
use Rattle.page_typing.proofs.laws.bodies_stay_fine_where_their_names_mean_the_same.Goals as goal

pub returns : goal.returns
returns c = body_follows
