use Rattle.std.proofs.Common.{◌≡◌, ◌+◌, ◌*◌, ◌++◌, ◌∷◌, max, take}
use Rattle.std.specs.List.{flat_map}
use Rattle.cs_token.specs.declared.token.TokenKind.TheVariants as k
use Rattle.cs_token.specs.declared.token.Sign.TheVariants as s
use Rattle.cs_print.specs.Printed.{whole, printed, part_kinds, text_kinds, statement_kinds, section_kinds}
use Rattle.cs_print.specs.Layout.{code_text}
use Rattle.cs_print.proofs.+code.Given as goal

abbrev pub invariant-lists::push_more_values-loop-value : goal.invariant-lists::push_more_values-loop-value
invariant-lists::push_more_values-loop-value l = l.out ≡ l.initial.out ++ flat_map (λ x. code_text (k.Sign s.Comma ∷ whole (printed x))) (take l.value-index l.values)

abbrev pub invariant-lists::push_more_parts-loop-part : goal.invariant-lists::push_more_parts-loop-part
invariant-lists::push_more_parts-loop-part l = l.out ≡ l.initial.out ++ flat_map (λ x. code_text (k.Sign s.Comma ∷ part_kinds x)) (take l.part-index l.parts)

abbrev pub invariant-lists::push_texts-loop-part : goal.invariant-lists::push_texts-loop-part
invariant-lists::push_texts-loop-part l = l.out ≡ l.initial.out ++ flat_map (λ x. code_text (text_kinds x)) (take l.part-index l.parts)

abbrev pub invariant-lists::push_statements-loop-statement : goal.invariant-lists::push_statements-loop-statement
invariant-lists::push_statements-loop-statement l = l.out ≡ l.initial.out ++ flat_map (λ x. code_text (statement_kinds x)) (take l.statement-index l.statements)

abbrev pub invariant-lists::push_sections-loop-section : goal.invariant-lists::push_sections-loop-section
invariant-lists::push_sections-loop-section l = l.out ≡ l.initial.out ++ flat_map (λ x. code_text (section_kinds x)) (take l.section-index l.sections)

-- how deep the trees are, and who calls whom at one depth
abbrev pub decreases-expressions::push_form : goal.decreases-expressions::push_form
decreases-expressions::push_form l = 16 * goal.size-expressions::push_form l + 0

abbrev pub decreases-expressions::push_at : goal.decreases-expressions::push_at
decreases-expressions::push_at l = 16 * goal.size-expressions::push_at l + 1

abbrev pub decreases-expressions::push_whole : goal.decreases-expressions::push_whole
decreases-expressions::push_whole l = 16 * goal.size-expressions::push_whole l + 2

abbrev pub decreases-expressions::push_unary : goal.decreases-expressions::push_unary
decreases-expressions::push_unary l = 16 * goal.size-expressions::push_unary l + 8

abbrev pub decreases-expressions::push_cast : goal.decreases-expressions::push_cast
decreases-expressions::push_cast l = 16 * goal.size-expressions::push_cast l + 8

abbrev pub decreases-expressions::push_member : goal.decreases-expressions::push_member
decreases-expressions::push_member l = 16 * goal.size-expressions::push_member l + 8

abbrev pub decreases-expressions::push_null_member : goal.decreases-expressions::push_null_member
decreases-expressions::push_null_member l = 16 * goal.size-expressions::push_null_member l + 8

abbrev pub decreases-expressions::push_new : goal.decreases-expressions::push_new
decreases-expressions::push_new l = 16 * goal.size-expressions::push_new l + 8

abbrev pub decreases-expressions::push_interpolated : goal.decreases-expressions::push_interpolated
decreases-expressions::push_interpolated l = 16 * goal.size-expressions::push_interpolated l + 8

abbrev pub decreases-expressions::push_assign : goal.decreases-expressions::push_assign
decreases-expressions::push_assign l = 16 * goal.size-expressions::push_assign l + 8

abbrev pub decreases-expressions::push_lambda : goal.decreases-expressions::push_lambda
decreases-expressions::push_lambda l = 16 * goal.size-expressions::push_lambda l + 8

abbrev pub decreases-statements::push_statement_form : goal.decreases-statements::push_statement_form
decreases-statements::push_statement_form l = 16 * goal.size-statements::push_statement_form l + 0

abbrev pub decreases-statements::push_statement : goal.decreases-statements::push_statement
decreases-statements::push_statement l = 16 * goal.size-statements::push_statement l + 1

abbrev pub decreases-statements::push_block : goal.decreases-statements::push_block
decreases-statements::push_block l = 16 * goal.size-statements::push_block l + 3

abbrev pub decreases-statements::push_body : goal.decreases-statements::push_body
decreases-statements::push_body l = 16 * goal.size-statements::push_body l + 4

abbrev pub decreases-statements::push_act : goal.decreases-statements::push_act
decreases-statements::push_act l = 16 * goal.size-statements::push_act l + 3

abbrev pub decreases-statements::push_await : goal.decreases-statements::push_await
decreases-statements::push_await l = 16 * goal.size-statements::push_await l + 8

abbrev pub decreases-statements::push_optional : goal.decreases-statements::push_optional
decreases-statements::push_optional l = 16 * goal.size-statements::push_optional l + 3

abbrev pub decreases-statements::push_return : goal.decreases-statements::push_return
decreases-statements::push_return l = 16 * goal.size-statements::push_return l + 8

abbrev pub decreases-statements::push_initial : goal.decreases-statements::push_initial
decreases-statements::push_initial l = 16 * goal.size-statements::push_initial l + 3

abbrev pub decreases-statements::push_in_round : goal.decreases-statements::push_in_round
decreases-statements::push_in_round l = 16 * goal.size-statements::push_in_round l + 3

abbrev pub decreases-statements::push_otherwise : goal.decreases-statements::push_otherwise
decreases-statements::push_otherwise l = 16 * goal.size-statements::push_otherwise l + 3

abbrev pub decreases-statements::push_start : goal.decreases-statements::push_start
decreases-statements::push_start l = 16 * goal.size-statements::push_start l + 3

abbrev pub decreases-lists::push_arguments : goal.decreases-lists::push_arguments
decreases-lists::push_arguments l = 16 * goal.size-lists::push_arguments l + 6

abbrev pub decreases-lists::push_values : goal.decreases-lists::push_values
decreases-lists::push_values l = 16 * goal.size-lists::push_values l + 5

abbrev pub decreases-lists::push_another_value : goal.decreases-lists::push_another_value
decreases-lists::push_another_value l = 16 * goal.size-lists::push_another_value l + 3

abbrev pub decreases-lists::push_more_values : goal.decreases-lists::push_more_values
decreases-lists::push_more_values l = 16 * goal.size-lists::push_more_values l + 4

abbrev pub decreases-lists::push_given : goal.decreases-lists::push_given
decreases-lists::push_given l = 16 * goal.size-lists::push_given l + 3

abbrev pub decreases-lists::push_parts : goal.decreases-lists::push_parts
decreases-lists::push_parts l = 16 * goal.size-lists::push_parts l + 6

abbrev pub decreases-lists::push_another_part : goal.decreases-lists::push_another_part
decreases-lists::push_another_part l = 16 * goal.size-lists::push_another_part l + 4

abbrev pub decreases-lists::push_more_parts : goal.decreases-lists::push_more_parts
decreases-lists::push_more_parts l = 16 * goal.size-lists::push_more_parts l + 5

abbrev pub decreases-lists::push_text_part : goal.decreases-lists::push_text_part
decreases-lists::push_text_part l = 16 * goal.size-lists::push_text_part l + 4

abbrev pub decreases-lists::push_hole : goal.decreases-lists::push_hole
decreases-lists::push_hole l = 16 * goal.size-lists::push_hole l + 3

abbrev pub decreases-lists::push_texts : goal.decreases-lists::push_texts
decreases-lists::push_texts l = 16 * goal.size-lists::push_texts l + 5

abbrev pub decreases-lists::push_statements : goal.decreases-lists::push_statements
decreases-lists::push_statements l = 16 * goal.size-lists::push_statements l + 2

abbrev pub decreases-lists::push_section : goal.decreases-lists::push_section
decreases-lists::push_section l = 16 * goal.size-lists::push_section l + 3

abbrev pub decreases-lists::push_sections : goal.decreases-lists::push_sections
decreases-lists::push_sections l = 16 * goal.size-lists::push_sections l + 4

abbrev pub decreases-expressions::push_binary : goal.decreases-expressions::push_binary
decreases-expressions::push_binary l = 16 * (max (goal.size-expressions::push_whole (record { the-lifetimes = (l.the-lifetimes.0, (l.the-lifetimes.0, tt {0})); alloc = l.alloc; out = l.out; a = l.a })) (goal.size-expressions::push_whole (record { the-lifetimes = (l.the-lifetimes.0, (l.the-lifetimes.0, tt {0})); alloc = l.alloc; out = l.out; a = l.b }))) + 8

abbrev pub decreases-expressions::push_conditional : goal.decreases-expressions::push_conditional
decreases-expressions::push_conditional l = 16 * (max (goal.size-expressions::push_whole (record { the-lifetimes = (l.the-lifetimes.0, (l.the-lifetimes.0, tt {0})); alloc = l.alloc; out = l.out; a = l.test })) (max (goal.size-expressions::push_whole (record { the-lifetimes = (l.the-lifetimes.0, (l.the-lifetimes.0, tt {0})); alloc = l.alloc; out = l.out; a = l.a })) (goal.size-expressions::push_whole (record { the-lifetimes = (l.the-lifetimes.0, (l.the-lifetimes.0, tt {0})); alloc = l.alloc; out = l.out; a = l.b })))) + 8

abbrev pub decreases-expressions::push_index : goal.decreases-expressions::push_index
decreases-expressions::push_index l = 16 * (max (goal.size-expressions::push_whole (record { the-lifetimes = (l.the-lifetimes.0, (l.the-lifetimes.0, tt {0})); alloc = l.alloc; out = l.out; a = l.a })) (goal.size-expressions::push_whole (record { the-lifetimes = (l.the-lifetimes.0, (l.the-lifetimes.0, tt {0})); alloc = l.alloc; out = l.out; a = l.i }))) + 8

abbrev pub decreases-expressions::push_call : goal.decreases-expressions::push_call
decreases-expressions::push_call l = 16 * (max (goal.size-expressions::push_whole (record { the-lifetimes = (l.the-lifetimes.0, (l.the-lifetimes.0, tt {0})); alloc = l.alloc; out = l.out; a = l.a })) (goal.size-lists::push_arguments (record { the-lifetimes = (l.the-lifetimes.0, (l.the-lifetimes.0, tt {0})); alloc = l.alloc; out = l.out; arguments = l.arguments }))) + 8

abbrev pub decreases-expressions::push_with : goal.decreases-expressions::push_with
decreases-expressions::push_with l = 16 * (max (goal.size-expressions::push_whole (record { the-lifetimes = (l.the-lifetimes.0, (l.the-lifetimes.0, tt {0})); alloc = l.alloc; out = l.out; a = l.a })) (goal.size-lists::push_parts (record { the-lifetimes = (l.the-lifetimes.0, (l.the-lifetimes.0, tt {0})); alloc = l.alloc; out = l.out; parts = l.parts }))) + 8

abbrev pub decreases-statements::push_local : goal.decreases-statements::push_local
decreases-statements::push_local l = 16 * (goal.size-statements::push_initial (record { the-lifetimes = (l.the-lifetimes.0, (l.the-lifetimes.0, tt {0})); alloc = l.alloc; out = l.out; value = l.value })) + 8

abbrev pub decreases-statements::push_if : goal.decreases-statements::push_if
decreases-statements::push_if l = 16 * (max (goal.size-expressions::push_whole (record { the-lifetimes = (l.the-lifetimes.0, (l.the-lifetimes.0, tt {0})); alloc = l.alloc; out = l.out; a = l.condition })) (max (goal.size-statements::push_statement (record { the-lifetimes = (l.the-lifetimes.0, (l.the-lifetimes.0, tt {0})); alloc = l.alloc; out = l.out; a = l.yes })) (goal.size-statements::push_otherwise (record { the-lifetimes = (l.the-lifetimes.0, (l.the-lifetimes.0, tt {0})); alloc = l.alloc; out = l.out; no = l.no })))) + 8

abbrev pub decreases-statements::push_while : goal.decreases-statements::push_while
decreases-statements::push_while l = 16 * (max (goal.size-expressions::push_whole (record { the-lifetimes = (l.the-lifetimes.0, (l.the-lifetimes.0, tt {0})); alloc = l.alloc; out = l.out; a = l.condition })) (goal.size-statements::push_statement (record { the-lifetimes = (l.the-lifetimes.0, (l.the-lifetimes.0, tt {0})); alloc = l.alloc; out = l.out; a = l.body }))) + 8

abbrev pub decreases-statements::push_foreach : goal.decreases-statements::push_foreach
decreases-statements::push_foreach l = 16 * (max (goal.size-expressions::push_whole (record { the-lifetimes = (l.the-lifetimes.0, (l.the-lifetimes.0, tt {0})); alloc = l.alloc; out = l.out; a = l.list })) (goal.size-statements::push_statement (record { the-lifetimes = (l.the-lifetimes.0, (l.the-lifetimes.0, tt {0})); alloc = l.alloc; out = l.out; a = l.body }))) + 8

abbrev pub decreases-statements::push_switch : goal.decreases-statements::push_switch
decreases-statements::push_switch l = 16 * (max (goal.size-expressions::push_whole (record { the-lifetimes = (l.the-lifetimes.0, (l.the-lifetimes.0, tt {0})); alloc = l.alloc; out = l.out; a = l.value })) (goal.size-lists::push_sections (record { the-lifetimes = (l.the-lifetimes.0, (l.the-lifetimes.0, tt {0})); alloc = l.alloc; out = l.out; sections = l.sections }))) + 8

abbrev pub decreases-statements::push_for : goal.decreases-statements::push_for
decreases-statements::push_for l = 16 * (max (goal.size-statements::push_start (record { the-lifetimes = (l.the-lifetimes.0, (l.the-lifetimes.0, tt {0})); alloc = l.alloc; out = l.out; start = l.start })) (max (goal.size-statements::push_optional (record { the-lifetimes = (l.the-lifetimes.0, (l.the-lifetimes.0, tt {0})); alloc = l.alloc; out = l.out; a = l.condition })) (max (goal.size-statements::push_optional (record { the-lifetimes = (l.the-lifetimes.0, (l.the-lifetimes.0, tt {0})); alloc = l.alloc; out = l.out; a = l.step })) (goal.size-statements::push_statement (record { the-lifetimes = (l.the-lifetimes.0, (l.the-lifetimes.0, tt {0})); alloc = l.alloc; out = l.out; a = l.body }))))) + 8
