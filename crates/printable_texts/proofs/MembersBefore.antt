-- What tokens spell, they spell before other tokens too: members.
use Rattle.std.proofs.Common.{ℕ, Bool, List, ◌∷◌, ◌++◌}
use Rattle.std.specs.declared.option.Option.{Option}
use Rattle.std.proofs.lemmas.List.{append_cancel_right}
use Rattle.cs_ast.specs.declared.cs_type.TypeExpr.{TypeExpr}
use Rattle.cs_ast.specs.declared.expression.Body.{Body}
use Rattle.cs_ast.specs.declared.expression.Expr.{Expr}
use Rattle.cs_ast.specs.declared.member.Argument.{Argument}
use Rattle.cs_ast.specs.declared.member.Member.{Member}
use Rattle.cs_ast.specs.declared.member.MemberKind.{MemberKind}
use Rattle.cs_token.specs.declared.token.Token.{Token}
use Rattle.cs_grammar.specs.Members.{Modifiers, SomeArguments, ArgumentList, Result, MethodBody, Accessors, PropertyEnd, Attribute, Declared, Supplied, IsMember, SpelledMembers}
use Rattle.cs_grammar.specs.Members as mb
use Rattle.printable_texts.proofs.CodeBefore.{type_before, expression_before, statements_before, initial_before}

module _ (more : List Token) where
  pub modifiers_before : {x0 : List Token} {x1 : List Token} → Modifiers x0 x1 → Modifiers (x0 ++ more) (x1 ++ more)
  modifiers_before (mb.none rest) = mb.none (rest ++ more)
  modifiers_before (mb.more word t ts rest h1 h2 h3) = mb.more word t (ts ++ more) (rest ++ more) h1 h2 (modifiers_before h3)

  pub some_arguments_before : {x0 : List Token} {x1 : List Token} {x2 : List Argument} → SomeArguments x0 x1 x2 → SomeArguments (x0 ++ more) (x1 ++ more) x2
  some_arguments_before (mb.one x n ts rest a h1 h2) = mb.one x n (ts ++ more) (rest ++ more) a (type_before more h1) h2
  some_arguments_before (mb.more x n t ts us rest a others h1 h2 h3 h4) = mb.more x n t (ts ++ more) (us ++ more) (rest ++ more) a others (type_before more h1) h2 h3 (some_arguments_before h4)

  pub argument_list_before : {x0 : List Token} {x1 : List Token} {x2 : List Argument} → ArgumentList x0 x1 x2 → ArgumentList (x0 ++ more) (x1 ++ more) x2
  argument_list_before (mb.none c rest h1) = mb.none c (rest ++ more) h1
  argument_list_before (mb.some c ts rest arguments h1 h2) = mb.some c (ts ++ more) (rest ++ more) arguments (some_arguments_before h1) h2

  pub result_before : {x0 : List Token} {x1 : List Token} {x2 : Option TypeExpr} → Result x0 x1 x2 → Result (x0 ++ more) (x1 ++ more) x2
  result_before (mb.value ts rest a h1) = mb.value (ts ++ more) (rest ++ more) a (type_before more h1)
  result_before (mb.void t rest h1) = mb.void t (rest ++ more) h1
  result_before (mb.task t rest h1) = mb.task t (rest ++ more) h1
  result_before (mb.async_task t u rest h1 h2) = mb.async_task t u (rest ++ more) h1 h2

  pub body_before : {x0 : List Token} {x1 : List Token} {x2 : Body} → MethodBody x0 x1 x2 → MethodBody (x0 ++ more) (x1 ++ more) x2
  body_before (mb.value p t c ts rest a h1 h2 h3) = mb.value p t c (ts ++ more) (rest ++ more) a h1 (expression_before more h2) h3
  body_before (mb.block o c ts rest statements h1 h2 h3) = mb.block o c (ts ++ more) (rest ++ more) statements h1 (statements_before more h2) h3

  pub accessors_before : {x0 : List Token} {x1 : List Token} → Accessors x0 x1 → Accessors (x0 ++ more) (x1 ++ more)
  accessors_before (mb.accessors o g m t n c rest h1 h2 h3 h4 h5 h6) = mb.accessors o g m t n c (rest ++ more) h1 h2 h3 h4 h5 h6

  pub property_end_before : {x0 : List Token} {x1 : List Token} {x2 : Option Expr} → PropertyEnd x0 x1 x2 → PropertyEnd (x0 ++ more) (x1 ++ more) x2
  property_end_before (mb.none rest) = mb.none (rest ++ more)
  property_end_before (mb.some p t c ts rest a h1 h2 h3) = mb.some p t c (ts ++ more) (rest ++ more) a h1 (expression_before more h2) h3

  pub attribute_before : {x0 : List Token} {x1 : List Token} {x2 : Bool} {x3 : Option (List ℕ)} → Attribute x0 x1 x2 x3 → Attribute (x0 ++ more) (x1 ++ more) x2 x3
  attribute_before (mb.parameter o n c rest h1 h2 h3) = mb.parameter o n c (rest ++ more) h1 h2 h3
  attribute_before (mb.cascading o n c rest h1 h2 h3) = mb.cascading o n c (rest ++ more) h1 h2 h3
  attribute_before (mb.cascading_of x o n b m t v d c rest h1 h2 h3 h4 h5 h6 h7 h8) = mb.cascading_of x o n b m t v d c (rest ++ more) h1 h2 h3 h4 h5 h6 h7 h8

  pub declared_before : {x0 : List Token} {x1 : List Token} {x2 : MemberKind} → Declared x0 x1 x2 → Declared (x0 ++ more) (x1 ++ more) x2
  declared_before (mb.field x n c ts us rest a value h1 h2 h3 h4) = mb.field x n c (ts ++ more) (us ++ more) (rest ++ more) a value (type_before more h1) h2 (initial_before more h3) h4
  declared_before (mb.property x n ts us vs rest a value h1 h2 h3 h4) = mb.property x n (ts ++ more) (us ++ more) (vs ++ more) (rest ++ more) a value (type_before more h1) h2 (accessors_before h3) (property_end_before h4)
  declared_before (mb.getter x p n t c ts us rest a value h1 h2 h3 h4 h5) = mb.getter x p n t c (ts ++ more) (us ++ more) (rest ++ more) a value (type_before more h1) h2 h3 (expression_before more h4) h5
  declared_before (mb.method x n o ts us vs rest a arguments b h1 h2 h3 h4 h5 h6) = mb.method x n o (ts ++ more) (us ++ more) (vs ++ more) (rest ++ more) a arguments b (result_before h1) (λ u e. h2 u (append_cancel_right ts (u ∷ n ∷ o ∷ us) more e)) h3 h4 (argument_list_before h5) (body_before h6)
  declared_before (mb.record_of x t n o c ts rest parts h1 h2 h3 h4 h5) = mb.record_of x t n o c (ts ++ more) (rest ++ more) parts h1 h2 h3 (argument_list_before h4) h5

  pub supplied_before : {x0 : Bool} {x1 : Option (List ℕ)} {x2 : List Token} {x3 : List Token} {x4 : MemberKind} → Supplied x0 x1 x2 x3 x4 → Supplied x0 x1 (x2 ++ more) (x3 ++ more) x4
  supplied_before (mb.supplied cascading source x n ts us vs rest a value h1 h2 h3 h4) = mb.supplied cascading source x n (ts ++ more) (us ++ more) (vs ++ more) (rest ++ more) a value (type_before more h1) h2 (accessors_before h3) (property_end_before h4)

  pub member_before : {x0 : List Token} {x1 : List Token} {x2 : Member} → IsMember x0 x1 x2 → IsMember (x0 ++ more) (x1 ++ more) x2
  member_before (mb.plain t ts us rest kind h1 h2) = mb.plain t (ts ++ more) (us ++ more) (rest ++ more) kind (modifiers_before h1) (declared_before h2)
  member_before (mb.parameter cascading source t ts us vs rest kind h1 h2 h3) = mb.parameter cascading source t (ts ++ more) (us ++ more) (vs ++ more) (rest ++ more) kind (attribute_before h1) (modifiers_before h2) (supplied_before h3)

-- members before others
pub members_both : (ts us : List Token) (members others : List Member) → SpelledMembers ts members → SpelledMembers us others → SpelledMembers (ts ++ us) (members ++ others)
members_both _ us _ others mb.none h = h
members_both _ us _ others (mb.more ts vs first later is hs) h = mb.more (ts ++ us) (vs ++ us) first (later ++ others) (member_before us is) (members_both vs us later others hs h)
