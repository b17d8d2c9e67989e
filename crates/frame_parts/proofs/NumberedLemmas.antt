-- Numbers of fragments, seen by what these do.
use Rattle.std.proofs.Common.{◌≡◌, Ordering, Less, Equal, Greater, ℕ, List, [], ◌∷◌, map, refl, ap, ◌∙◌}
use Rattle.std.specs.BTreeMap.{insert_entry}
use Rattle.std.specs.Ordering.{match_ordering, nat_cmp}
use Rattle.drawing_meaning.specs.Acts.{Act}
use Rattle.frame_program.specs.Operations.{act_of}
use Rattle.frame_program.specs.declared.operation.Operation.{Operation}
use Rattle.frame_parts.specs.Views.{acts_of}

by_order : (o : Ordering) (a b c : List (ℕ × List Operation)) → acts_of (match_ordering o a b c) ≡ match_ordering o (acts_of a) (acts_of b) (acts_of c)
by_order Less a b c = refl
by_order Equal a b c = refl
by_order Greater a b c = refl

pub acts_inserted : (entries : List (ℕ × List Operation)) (number : ℕ) (operations : List Operation) →
    acts_of (insert_entry nat_cmp entries number operations) ≡ insert_entry nat_cmp (acts_of entries) number (map act_of operations)
acts_inserted [] number operations = refl
acts_inserted (one ∷ others) number operations =
    by_order (nat_cmp number one.0) ((number, operations) ∷ one ∷ others) ((one.0, operations) ∷ others) (one ∷ insert_entry nat_cmp others number operations)
    ∙ ap (λ (more : List (ℕ × List Act)). match_ordering (nat_cmp number one.0) ((number, map act_of operations) ∷ acts_of (one ∷ others)) ((one.0, map act_of operations) ∷ acts_of others) ((one.0, map act_of one.1) ∷ more))
    (acts_inserted others number operations)
