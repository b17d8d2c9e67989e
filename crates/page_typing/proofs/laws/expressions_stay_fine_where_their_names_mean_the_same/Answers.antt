use Rattle.page_typing.proofs.NarrowTrees.{expression_tree}
use Rattle.page_typing.proofs.laws.expressions_stay_fine_where_their_names_mean_the_same.Goals as goal

pub returns : goal.returns
returns c = λ a f s others locals n. (expression_tree a f s others locals n).0
