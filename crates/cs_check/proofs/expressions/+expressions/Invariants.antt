use Rattle.std.proofs.Common.{◌≡◌, ◌+◌, ◌*◌, max, map, drop}
use Rattle.cs_rules.specs.Judged.{each}
use Rattle.cs_rules.specs.Expressions.{replacements, of_no_record}
use Rattle.cs_forbidden.specs.Trees.{uses}
use Rattle.cs_forbidden.specs.Forms.{piece, given}
use Rattle.cs_forms.specs.Views.{scope_of, forbidden_of, declared}
use Rattle.cs_forms.proofs.FrontLemmas.{with_front}
use Rattle.cs_check.proofs.FrontLemmas.{in_front}
use Rattle.cs_check.proofs.expressions.+expressions.Given as goal

-- the values so far, and those of the rest
abbrev pub invariant-values-loop-argument : goal.invariant-values-loop-argument
invariant-values-loop-argument l =
    each (λ argument. argument (scope_of l.names)) (map (λ x. x.value) (map (uses (forbidden_of l.names)) l.arguments))
    ≡ with_front l.xs.items (each (λ argument. argument (scope_of l.names)) (map (λ x. x.value) (map (uses (forbidden_of l.names)) (drop l.argument-index l.arguments))))

abbrev pub invariant-pieces-loop-part : goal.invariant-pieces-loop-part
invariant-pieces-loop-part l =
    each (λ part. part (scope_of l.names)) (map (piece (forbidden_of l.names)) l.parts) ≡ with_front l.codes (each (λ part. part (scope_of l.names)) (map (piece (forbidden_of l.names)) (drop l.part-index l.parts)))

abbrev pub invariant-replacements-loop-part : goal.invariant-replacements-loop-part
invariant-replacements-loop-part l =
    replacements (scope_of l.names) (declared l.found) (map (given (forbidden_of l.names)) l.parts)
    ≡ in_front l.replaced.positions l.replaced.wanted l.replaced.values.items (replacements (scope_of l.names) (declared l.found) (map (given (forbidden_of l.names)) (drop l.part-index l.parts)))

-- no value so far breaks a rule
abbrev pub invariant-of_no_record-loop-part : goal.invariant-of_no_record-loop-part
invariant-of_no_record-loop-part l =
    of_no_record (map (given (forbidden_of l.names)) l.parts) l.wrong (scope_of l.names) ≡ of_no_record (map (given (forbidden_of l.names)) (drop l.part-index l.parts)) l.wrong (scope_of l.names)

-- how deep the trees are, and who calls whom at one depth
abbrev pub decreases-form : goal.decreases-form
decreases-form l = 8 * goal.size-form l + 0

abbrev pub decreases-value_called : goal.decreases-value_called
decreases-value_called l = 8 * goal.size-value_called l + 1

abbrev pub decreases-asked : goal.decreases-asked
decreases-asked l = 8 * goal.size-asked l + 1

abbrev pub decreases-value : goal.decreases-value
decreases-value l = 8 * goal.size-value l + 2

abbrev pub decreases-called_form : goal.decreases-called_form
decreases-called_form l = 8 * goal.size-called_form l + 2

abbrev pub decreases-asked_callee : goal.decreases-asked_callee
decreases-asked_callee l = 8 * goal.size-asked_callee l + 3

abbrev pub decreases-callee : goal.decreases-callee
decreases-callee l = 8 * goal.size-callee l + 4

abbrev pub decreases-values : goal.decreases-values
decreases-values l = 8 * goal.size-values l + 3

abbrev pub decreases-hole : goal.decreases-hole
decreases-hole l = 8 * goal.size-hole l + 3

abbrev pub decreases-piece : goal.decreases-piece
decreases-piece l = 8 * goal.size-piece l + 4

abbrev pub decreases-pieces : goal.decreases-pieces
decreases-pieces l = 8 * goal.size-pieces l + 5

abbrev pub decreases-interpolated : goal.decreases-interpolated
decreases-interpolated l = 8 * goal.size-interpolated l + 6

abbrev pub decreases-unary : goal.decreases-unary
decreases-unary l = 8 * goal.size-unary l + 6

abbrev pub decreases-cast : goal.decreases-cast
decreases-cast l = 8 * goal.size-cast l + 6

abbrev pub decreases-member : goal.decreases-member
decreases-member l = 8 * goal.size-member l + 6

abbrev pub decreases-member_or_null : goal.decreases-member_or_null
decreases-member_or_null l = 8 * goal.size-member_or_null l + 6

abbrev pub decreases-member_called : goal.decreases-member_called
decreases-member_called l = 8 * goal.size-member_called l + 6

abbrev pub decreases-new : goal.decreases-new
decreases-new l = 8 * goal.size-new l + 6

abbrev pub decreases-replacing : goal.decreases-replacing
decreases-replacing l = 8 * goal.size-replacing l + 3

abbrev pub decreases-replacements : goal.decreases-replacements
decreases-replacements l = 8 * goal.size-replacements l + 4

abbrev pub decreases-of_no_record : goal.decreases-of_no_record
decreases-of_no_record l = 8 * goal.size-of_no_record l + 4

abbrev pub decreases-given : goal.decreases-given
decreases-given l = 8 * goal.size-given l + 3

abbrev pub decreases-with_record : goal.decreases-with_record
decreases-with_record l = 8 * goal.size-with_record l + 5

abbrev pub decreases-assign : goal.decreases-assign
decreases-assign l = 8 * goal.size-assign l + 6

abbrev pub decreases-binary : goal.decreases-binary
decreases-binary l = 8 * (max (goal.size-value (record { the-lifetimes = (l.the-lifetimes.0, (l.the-lifetimes.0, (l.the-lifetimes.0, tt {0}))); names = l.names; e = l.a })) (goal.size-value (record { the-lifetimes = (l.the-lifetimes.0, (l.the-lifetimes.0, (l.the-lifetimes.0, tt {0}))); names = l.names; e = l.b }))) + 6

abbrev pub decreases-conditional : goal.decreases-conditional
decreases-conditional l = 8 * (max (goal.size-value (record { the-lifetimes = (l.the-lifetimes.0, (l.the-lifetimes.0, (l.the-lifetimes.0, tt {0}))); names = l.names; e = l.condition })) (max (goal.size-value (record { the-lifetimes = (l.the-lifetimes.0, (l.the-lifetimes.0, (l.the-lifetimes.0, tt {0}))); names = l.names; e = l.a })) (goal.size-value (record { the-lifetimes = (l.the-lifetimes.0, (l.the-lifetimes.0, (l.the-lifetimes.0, tt {0}))); names = l.names; e = l.b })))) + 6

abbrev pub decreases-index : goal.decreases-index
decreases-index l = 8 * (max (goal.size-value (record { the-lifetimes = (l.the-lifetimes.0, (l.the-lifetimes.0, (l.the-lifetimes.0, tt {0}))); names = l.names; e = l.a })) (goal.size-value (record { the-lifetimes = (l.the-lifetimes.0, (l.the-lifetimes.0, (l.the-lifetimes.0, tt {0}))); names = l.names; e = l.i }))) + 6

abbrev pub decreases-call : goal.decreases-call
decreases-call l = 8 * (max (goal.size-callee (record { the-lifetimes = (l.the-lifetimes.0, (l.the-lifetimes.0, (l.the-lifetimes.0, tt {0}))); names = l.names; e = l.target })) (goal.size-values (record { the-lifetimes = (l.the-lifetimes.0, (l.the-lifetimes.0, (l.the-lifetimes.0, tt {0}))); names = l.names; arguments = l.arguments }))) + 6

abbrev pub decreases-with_of : goal.decreases-with_of
decreases-with_of l = 8 * (max (goal.size-value (record { the-lifetimes = (l.the-lifetimes.0, (l.the-lifetimes.0, (l.the-lifetimes.0, tt {0}))); names = l.names; e = l.a })) (goal.size-of_no_record (record { the-lifetimes = (l.the-lifetimes.0, (l.the-lifetimes.0, (l.the-lifetimes.0, tt {0}))); names = l.names; parts = l.parts; wrong = l.place }))) + 6
