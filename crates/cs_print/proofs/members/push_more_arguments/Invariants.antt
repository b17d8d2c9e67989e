use Rattle.std.proofs.Common.{◌≡◌, ◌++◌, ◌∷◌, take}
use Rattle.std.specs.List.{flat_map}
use Rattle.cs_token.specs.declared.token.TokenKind.TheVariants as k
use Rattle.cs_token.specs.declared.token.Sign.TheVariants as s
use Rattle.cs_print.specs.PrintedMembers.{argument_kinds}
use Rattle.cs_print.specs.Layout.{code_text}
use Rattle.cs_print.proofs.members.push_more_arguments.Given as goal

abbrev pub invariant-loop-argument : goal.invariant-loop-argument
invariant-loop-argument l = l.out ≡ l.initial.out ++ flat_map (λ x. code_text (k.Sign s.Comma ∷ argument_kinds x)) (take l.argument-index l.arguments)
