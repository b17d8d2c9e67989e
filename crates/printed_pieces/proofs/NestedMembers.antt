-- The tokens of lambdas and members have whole brackets.
use Rattle.std.proofs.Common.{ℕ, Bool, false, List, [], ◌∷◌, refl}
use Rattle.std.specs.declared.option.Option.{Option}
use Rattle.cs_ast.specs.declared.cs_type.TypeExpr.{TypeExpr}
use Rattle.cs_ast.specs.declared.expression.Body.{Body}
use Rattle.cs_ast.specs.declared.expression.Expr.{Expr}
use Rattle.cs_ast.specs.declared.member.Argument.{Argument}
use Rattle.cs_ast.specs.declared.member.Member.{Member}
use Rattle.cs_ast.specs.declared.member.MemberKind.{MemberKind}
use Rattle.cs_token.specs.declared.token.Token.{Token}
use Rattle.cs_token.specs.declared.token.TokenKind.TheVariants as k
use Rattle.cs_token.specs.declared.token.Sign.TheVariants as s
use Rattle.cs_token.specs.declared.token.Word.TheVariants as w
use Rattle.cs_grammar.specs.Lambdas as la
use Rattle.cs_grammar.specs.Lambdas.{LambdaBody, SpelledValue}
use Rattle.cs_grammar.specs.Members as g
use Rattle.cs_grammar.specs.Members.{SpelledMembers}
use Rattle.cs_grammar.specs.Statements.{no_jumps}
use Rattle.cs_grammar.specs.Tokens.{IsSign}
use Rattle.printed_pieces.proofs.Nests.{Nests, join, kind_flat, named, worded, signed}
use Rattle.printed_pieces.proofs.Nests as n
use Rattle.printed_pieces.proofs.NestedExpressions.{type_nests, expression_nests}
use Rattle.printed_pieces.proofs.NestedStatements.{change_nests, initial_nests, ended, statements_nest}

-- lambdas

body_nests : (ts rest : List Token) (b : Body) → LambdaBody ts rest b → Nests false ts rest
body_nests _ _ _ (la.result p ts rest a h) = expression_nests false 0 p ts rest a h
body_nests _ _ _ (la.change p ts rest a h) = change_nests false p ts rest a h
body_nests _ _ _ (la.LambdaBody.block o c ts rest statements opens inner closes) = n.braces false o c ts rest rest opens (statements_nest no_jumps ts (c ∷ rest) statements inner) closes (n.none false rest)

pub value_nests : (ts : List Token) (a : Expr) → SpelledValue ts a → Nests false ts []
value_nests _ _ (la.expression p ts a h) = expression_nests false 0 p ts [] a h
value_nests _ _ (la.markup p o t c ts a opens is closes h) =
    n.round false false o c (t ∷ c ∷ ts) ts [] opens (worded false w.MarkupString t (c ∷ ts) (c ∷ ts) is (n.none false (c ∷ ts))) closes (expression_nests false 11 p ts [] a h)

pub spelled_nests : (ts : List Token) (a : Expr) → la.Spelled ts a → Nests false ts []
spelled_nests _ _ (la.value ts a h) = value_nests ts a h
spelled_nests _ _ (la.of_none o c r ts b opens closes arrow h) =
    n.round false false o c (c ∷ r ∷ ts) (r ∷ ts) [] opens (n.none false (c ∷ r ∷ ts)) closes (signed false s.Arrow r ts [] arrow refl (body_nests ts [] b h))
spelled_nests _ _ (la.of_name x m r ts b is arrow h) = named false x m (r ∷ ts) [] is (signed false s.Arrow r ts [] arrow refl (body_nests ts [] b h))
spelled_nests _ _ (la.of_one x o m c r ts b opens is closes arrow h) =
    n.round false false o c (m ∷ c ∷ r ∷ ts) (r ∷ ts) [] opens (named false x m (c ∷ r ∷ ts) (c ∷ r ∷ ts) is (n.none false (c ∷ r ∷ ts))) closes (signed false s.Arrow r ts [] arrow refl (body_nests ts [] b h))

-- members

modifiers_nest : (ts rest : List Token) → g.Modifiers ts rest → Nests false ts rest
modifiers_nest _ _ (g.Modifiers.none rest) = n.none false rest
modifiers_nest _ _ (g.Modifiers.more word t ts rest is may later) = worded false word t ts rest is (modifiers_nest ts rest later)

arguments_nest : (ts rest : List Token) (all : List Argument) → g.SomeArguments ts rest all → Nests false ts rest
arguments_nest _ _ _ (g.SomeArguments.one x m ts rest a h is) = join false ts (m ∷ rest) rest (type_nests false ts (m ∷ rest) a h) (named false x m rest rest is (n.none false rest))
arguments_nest _ _ _ (g.SomeArguments.more x m t ts us rest a others h is comma later) =
    join false ts (m ∷ t ∷ us) rest (type_nests false ts (m ∷ t ∷ us) a h) (named false x m (t ∷ us) rest is (signed false s.Comma t us rest comma refl (arguments_nest us rest others later)))

list_nests : (o : Token) (ts rest : List Token) (all : List Argument) → IsSign s.OpenRound o → g.ArgumentList ts rest all → Nests false (o ∷ ts) rest
list_nests o _ _ _ opens (g.ArgumentList.none c rest closes) = n.round false false o c (c ∷ rest) rest rest opens (n.none false (c ∷ rest)) closes (n.none false rest)
list_nests o _ _ _ opens (g.ArgumentList.some c ts rest all h closes) = n.round false false o c ts rest rest opens (arguments_nest ts (c ∷ rest) all h) closes (n.none false rest)

result_nests : (ts rest : List Token) (a : Option TypeExpr) → g.Result ts rest a → Nests false ts rest
result_nests _ _ _ (g.Result.value ts rest a h) = type_nests false ts rest a h
result_nests _ _ _ (g.Result.void t rest is) = worded false w.Void t rest rest is (n.none false rest)
result_nests _ _ _ (g.Result.task t rest is) = worded false w.Task t rest rest is (n.none false rest)
result_nests _ _ _ (g.Result.async_task t u rest is also) = worded false w.Async t (u ∷ rest) rest is (worded false w.Task u rest rest also (n.none false rest))

method_nests : (ts rest : List Token) (b : Body) → g.MethodBody ts rest b → Nests false ts rest
method_nests _ _ _ (g.MethodBody.value p t c ts rest a arrow h ends) =
    signed false s.Arrow t ts rest arrow refl (join false ts (c ∷ rest) rest (expression_nests false 0 p ts (c ∷ rest) a h) (ended c rest rest ends (n.none false rest)))
method_nests _ _ _ (g.MethodBody.block o c ts rest statements opens inner closes) =
    n.braces false o c ts rest rest opens (statements_nest no_jumps ts (c ∷ rest) statements inner) closes (n.none false rest)

accessors_nest : (ts rest : List Token) → g.Accessors ts rest → Nests false ts rest
accessors_nest _ _ (g.accessors o gets m sets i c rest opens get one set two closes) =
    n.braces false o c (gets ∷ m ∷ sets ∷ i ∷ c ∷ rest) rest rest opens
    (named false _ gets (m ∷ sets ∷ i ∷ c ∷ rest) (c ∷ rest) get (ended m (sets ∷ i ∷ c ∷ rest) (c ∷ rest) one
    (named false _ sets (i ∷ c ∷ rest) (c ∷ rest) set (ended i (c ∷ rest) (c ∷ rest) two (n.none false (c ∷ rest)))))) closes (n.none false rest)

property_nests : (ts rest : List Token) (a : Option Expr) → g.PropertyEnd ts rest a → Nests false ts rest
property_nests _ _ _ (g.PropertyEnd.none rest) = n.none false rest
property_nests _ _ _ (g.PropertyEnd.some p t c ts rest a sets h ends) =
    signed false s.Assign t ts rest sets refl (join false ts (c ∷ rest) rest (expression_nests false 0 p ts (c ∷ rest) a h) (ended c rest rest ends (n.none false rest)))

attribute_nests : (ts rest : List Token) (cascading : Bool) (source : Option (List ℕ)) → g.Attribute ts rest cascading source → Nests false ts rest
attribute_nests _ _ _ _ (g.Attribute.parameter o m c rest opens is closes) =
    n.square false false o c (m ∷ c ∷ rest) rest rest opens (named false _ m (c ∷ rest) (c ∷ rest) is (n.none false (c ∷ rest))) closes (n.none false rest)
attribute_nests _ _ _ _ (g.Attribute.cascading o m c rest opens is closes) =
    n.square false false o c (m ∷ c ∷ rest) rest rest opens (named false _ m (c ∷ rest) (c ∷ rest) is (n.none false (c ∷ rest))) closes (n.none false rest)
attribute_nests _ _ _ _ (g.Attribute.cascading_of x o m b i t v d c rest opens is begins name sets text ends closes) =
    n.square false false o c (m ∷ b ∷ i ∷ t ∷ v ∷ d ∷ c ∷ rest) rest rest opens
    (named false _ m (b ∷ i ∷ t ∷ v ∷ d ∷ c ∷ rest) (c ∷ rest) is
    (n.round false false b d (i ∷ t ∷ v ∷ d ∷ c ∷ rest) (c ∷ rest) (c ∷ rest) begins
    (named false _ i (t ∷ v ∷ d ∷ c ∷ rest) (d ∷ c ∷ rest) name (signed false s.Assign t (v ∷ d ∷ c ∷ rest) (d ∷ c ∷ rest) sets refl (kind_flat false (k.Text x) v (d ∷ c ∷ rest) (d ∷ c ∷ rest) text refl (n.none false (d ∷ c ∷ rest)))))
    ends (n.none false (c ∷ rest)))) closes (n.none false rest)

declared_nests : (ts rest : List Token) (kind : MemberKind) → g.Declared ts rest kind → Nests false ts rest
declared_nests _ _ _ (g.Declared.field x m c ts us rest a value h is starts ends) =
    join false ts (m ∷ us) rest (type_nests false ts (m ∷ us) a h) (named false x m us rest is (join false us (c ∷ rest) rest (initial_nests false us (c ∷ rest) value starts) (ended c rest rest ends (n.none false rest))))
declared_nests _ _ _ (g.Declared.property x m ts us vs rest a value h is gets ends) =
    join false ts (m ∷ us) rest (type_nests false ts (m ∷ us) a h) (named false x m us rest is (join false us vs rest (accessors_nest us vs gets) (property_nests vs rest value ends)))
declared_nests _ _ _ (g.Declared.getter x p m t c ts us rest a value h is arrow gives ends) =
    join false ts (m ∷ t ∷ us) rest (type_nests false ts (m ∷ t ∷ us) a h)
    (named false x m (t ∷ us) rest is (signed false s.Arrow t us rest arrow refl (join false us (c ∷ rest) rest (expression_nests false 0 p us (c ∷ rest) value gives) (ended c rest rest ends (n.none false rest)))))
declared_nests _ _ _ (g.Declared.method x m o ts us vs rest a all b h other is opens takes does) =
    join false ts (m ∷ o ∷ us) rest (result_nests ts (m ∷ o ∷ us) a h) (named false x m (o ∷ us) rest is (join false (o ∷ us) vs rest (list_nests o us vs all opens takes) (method_nests vs rest b does)))
declared_nests _ _ _ (g.Declared.record_of x t m o c ts rest parts first is opens takes ends) =
    named false _ t (m ∷ o ∷ ts) rest first (named false x m (o ∷ ts) rest is (join false (o ∷ ts) (c ∷ rest) rest (list_nests o ts (c ∷ rest) parts opens takes) (ended c rest rest ends (n.none false rest))))

supplied_nests : (cascading : Bool) (source : Option (List ℕ)) (ts rest : List Token) (kind : MemberKind) → g.Supplied cascading source ts rest kind → Nests false ts rest
supplied_nests _ _ _ _ _ (g.supplied cascading source x m ts us vs rest a value h is gets ends) =
    join false ts (m ∷ us) rest (type_nests false ts (m ∷ us) a h) (named false x m us rest is (join false us vs rest (accessors_nest us vs gets) (property_nests vs rest value ends)))

member_nests : (ts rest : List Token) (a : Member) → g.IsMember ts rest a → Nests false ts rest
member_nests _ _ _ (g.IsMember.plain t ts us rest kind modifiers h) = join false (t ∷ ts) us rest (modifiers_nest (t ∷ ts) us modifiers) (declared_nests us rest kind h)
member_nests _ _ _ (g.IsMember.parameter cascading source t ts us vs rest kind attribute modifiers h) =
    join false (t ∷ ts) us rest (attribute_nests (t ∷ ts) us cascading source attribute) (join false us vs rest (modifiers_nest us vs modifiers) (supplied_nests cascading source vs rest kind h))

pub members_nest : (ts : List Token) (all : List Member) → SpelledMembers ts all → Nests false ts []
members_nest _ _ (g.SpelledMembers.none) = n.none false []
members_nest _ _ (g.SpelledMembers.more ts us a others h later) = join false ts us [] (member_nests ts us a h) (members_nest us others later)
