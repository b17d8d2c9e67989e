-- What tokens spell: expressions are no lambdas, and no jump leaves the body of a lambda or of a method.
use Rattle.std.proofs.Common.{◌≡◌, ℕ, List, [], ◌∷◌, ◌++◌, refl, sym, ap, subst, ◌∙◌}
use Rattle.std.specs.Prelude.{Bool, true, false, Option, Some, None}
use Rattle.text_core.specs.declared.place.Place.{Place}
use Rattle.cs_ast.specs.declared.expression.Body.{Body, Body-F, out-Body}
use Rattle.cs_ast.specs.declared.expression.Body.TheVariants as bo
use Rattle.cs_ast.specs.declared.expression.Expr.{Expr}
use Rattle.cs_ast.specs.declared.expression.ExprKind.{ExprKind, ExprKind-F, out-ExprKind}
use Rattle.cs_ast.specs.declared.expression.ExprKind.TheVariants as ek
use Rattle.cs_ast.specs.declared.expression.Stmt.{Stmt}
use Rattle.cs_ast.specs.declared.identifier.Ident.{Ident}
use Rattle.cs_ast.specs.declared.member.Member.{Member}
use Rattle.cs_ast.specs.declared.member.MemberKind.{MemberKind}
use Rattle.cs_token.specs.declared.token.Token.{Token}
use Rattle.cs_token.specs.declared.token.Word.{Word}
use Rattle.cs_token.specs.declared.token.Word.TheVariants as w
use Rattle.cs_grammar.specs.Expressions.{Spells}
use Rattle.cs_grammar.specs.Expressions as expression
use Rattle.cs_grammar.specs.Lambdas.{LambdaBody, SpelledValue, Spelled}
use Rattle.cs_grammar.specs.Lambdas as lambda
use Rattle.cs_grammar.specs.Members.{MethodBody, Declared, Supplied, IsMember, SpelledMembers}
use Rattle.cs_grammar.specs.Members as member
use Rattle.cs_grammar.specs.Statements.{Statements, no_jumps}
use Rattle.cs_grammar.specs.Tables.{literal}
use Rattle.cs_accepted.proofs.SpelledLemmas.{spelled_stay}
use Rattle.razor_rules.specs.Values.{Level}
use Rattle.page_typing.specs.Formed.{NoJumps, LambdaFormed, MethodFormed, MethodsFormed}
use Rattle.page_typing.proofs.ProgramMembers.{no_block}

is_lambda : Level → Bool
is_lambda (ExprKind-F.Lambda name of) = true
is_lambda _ = false

-- it isn't a lambda
NoLambda : ExprKind → Type 0
NoLambda kind = is_lambda (out-ExprKind kind) ≡ false

no_lambda_at : (kind : ExprKind) (l : Level) → out-ExprKind kind ≡ l → is_lambda l ≡ false → NoLambda kind
unfolding NoLambda
no_lambda_at kind l is h = ap is_lambda is ∙ h

no_literal_lambda : (word : Word) (kind : ExprKind) → literal word ≡ Some kind → NoLambda kind
unfolding literal NoLambda is_lambda
no_literal_lambda w.True kind e = let same : ek.Bool true ≡ kind = cc in subst NoLambda same (no_lambda_at (ek.Bool true) (ExprKind-F.Bool true) (ek.outs-Bool true) refl)
no_literal_lambda w.False kind e = let same : ek.Bool false ≡ kind = cc in subst NoLambda same (no_lambda_at (ek.Bool false) (ExprKind-F.Bool false) (ek.outs-Bool false) refl)
no_literal_lambda w.Null kind e = let same : ek.Null ≡ kind = cc in subst NoLambda same (no_lambda_at ek.Null ExprKind-F.Null ek.outs-Null refl)
no_literal_lambda _ kind e = absurd (cc)

no_lambda : (l : ℕ) (p : Place) (ts rest : List Token) (a : Expr) → Spells l p ts rest a → NoLambda a.kind
unfolding NoLambda is_lambda
no_lambda l p ts rest a (expression.conditional _ _ q r t c _ us vs _ x y z _ _ _ _ _ _) = ap is_lambda (ek.outs-Conditional x y z)
no_lambda l p ts rest a (expression.binary _ sign op _ q t _ us _ x y _ _ _ _ _) = ap is_lambda (ek.outs-Binary op x y)
no_lambda l p ts rest a (expression.with_parts _ _ t o c _ us _ x parts _ _ _ _ _ _) = ap is_lambda (ek.outs-With x parts)
no_lambda l p ts rest a (expression.unary _ sign op q t us _ x _ _ _ _) = ap is_lambda (ek.outs-Unary op x)
no_lambda l p ts rest a (expression.cast _ q o t c us _ x _ _ _ _ _) = ap is_lambda (ek.outs-Cast _ x)
no_lambda l p ts rest a (expression.null_member _ n _ d t _ _ x _ _ _ _) = ap is_lambda (ek.outs-NullMember x _)
no_lambda l p ts rest a (expression.member _ n _ d t _ _ x _ _ _ _) = ap is_lambda (ek.outs-Member x _)
no_lambda l p ts rest a (expression.call _ _ o _ us _ x bs _ _ _ _) = ap is_lambda (ek.outs-Call x bs)
no_lambda l p ts rest a (expression.index _ _ q o c _ us _ x y _ _ _ _ _) = ap is_lambda (ek.outs-Index x y)
no_lambda l p ts rest a (expression.number _ n t _ _) = ap is_lambda (ek.outs-Int n)
no_lambda l p ts rest a (expression.text _ x t _ _) = ap is_lambda (ek.outs-Text x)
no_lambda l p ts rest a (expression.literals _ word kind t _ _ e) = no_literal_lambda word kind e
no_lambda l p ts rest a (expression.interpolated _ o c us _ parts _ _ _) = ap is_lambda (ek.outs-Interpolated parts)
no_lambda l p ts rest a (expression.name _ x t _ _) = ap is_lambda (ek.outs-Name x)
no_lambda l p ts rest a (expression.static _ word owner x t d n _ _ _ _ _) = ap is_lambda (ek.outs-Static owner _)
no_lambda l p ts rest a (expression.brackets _ q o c us _ _ _ h _) = no_lambda 0 q us (c ∷ rest) a h
no_lambda l p ts rest a (expression.new_record _ x t n o us _ bs _ _ _ _) = ap is_lambda (ek.outs-New _ bs)
no_lambda l p ts rest a (expression.empty_list _ t o c d n us _ type _ _ _ _ _ _) = ap is_lambda (ek.outs-EmptyList type)

value_no_lambda : (ts : List Token) (a : Expr) → SpelledValue ts a → NoLambda a.kind
unfolding NoLambda is_lambda
value_no_lambda ts a (lambda.expression p _ _ h) = no_lambda 0 p ts [] a h
value_no_lambda ts a (lambda.markup p o t c us x _ _ _ _) = ap is_lambda (ek.outs-Cast _ x)

no_lambda_formed : (a : Expr) → NoLambda a.kind → LambdaFormed a
unfolding NoLambda is_lambda
no_lambda_formed a h name it e = let k : false ≡ true = sym h ∙ ap (λ z. is_lambda (out-ExprKind z)) e ∙ ap is_lambda (ek.outs-Lambda name it) in absurd (cc)

-- no jump leaves what stands behind an arrow
value_stays : (a : Expr) → NoJumps (bo.Value a)
value_stays a statements e = absurd (no_block a statements e)

same_block : (xs ys : List Stmt) → bo.Block xs ≡ bo.Block ys → xs ≡ ys
same_block xs ys e = let k : Body-F.Body::Block xs ≡ Body-F.Body::Block ys = sym (bo.outs-Block xs) ∙ ap out-Body e ∙ bo.outs-Block ys in cc

block_stays : (ts rest : List Token) (xs : List Stmt) → Statements no_jumps ts rest xs → NoJumps (bo.Block xs)
block_stays ts rest xs h statements e = let same = same_block xs statements e in spelled_stay ts rest statements (subst (λ z. Statements no_jumps ts rest z) same h)

body_stays : (ts rest : List Token) (it : Body) → LambdaBody ts rest it → NoJumps it
body_stays ts rest it (lambda.result p _ _ a _) = value_stays a
body_stays ts rest it (lambda.change p _ _ a _) = value_stays a
body_stays ts rest it (lambda.block o c us _ statements _ h _) = block_stays us (c ∷ rest) statements h

same_body : (n m : Option Ident) (it other : Body) → ek.Lambda n it ≡ ek.Lambda m other → it ≡ other
same_body n m it other e = let k : ExprKind-F.Lambda n it ≡ ExprKind-F.Lambda m other = sym (ek.outs-Lambda n it) ∙ ap out-ExprKind e ∙ ek.outs-Lambda m other in cc

lambda_stays : (named : Option Ident) (ts : List Token) (it : Body) (a : Expr) → a.kind ≡ ek.Lambda named it → LambdaBody ts [] it → LambdaFormed a
lambda_stays named ts it a is h name other e = subst NoJumps (same_body named name it other (sym is ∙ e)) (body_stays ts [] it h)

pub spelled_formed : (ts : List Token) (a : Expr) → Spelled ts a → LambdaFormed a
spelled_formed ts a (lambda.value _ _ h) = no_lambda_formed a (value_no_lambda ts a h)
spelled_formed ts a (lambda.of_none o c r us b _ _ _ h) = lambda_stays None us b a refl h
spelled_formed ts a (lambda.of_name x n r us b _ _ h) = lambda_stays _ us b a refl h
spelled_formed ts a (lambda.of_one x o n c r us b _ _ _ _ h) = lambda_stays _ us b a refl h

-- members
method_stays : (ts rest : List Token) (it : Body) → MethodBody ts rest it → NoJumps it
method_stays ts rest it (member.value p t c us _ a _ _ _) = value_stays a
method_stays ts rest it (member.block o c us _ statements _ h _) = block_stays us (c ∷ rest) statements h

declared_formed : (ts rest : List Token) (kind : MemberKind) → Declared ts rest kind → MethodFormed kind
declared_formed ts rest kind (member.field x n c _ us _ a value _ _ _ _) = tt
declared_formed ts rest kind (member.property x n _ us vs _ a value _ _ _ _) = tt
declared_formed ts rest kind (member.getter x p n t c _ us _ a value _ _ _ _ _) = tt
declared_formed ts rest kind (member.method x n o _ us vs _ a arguments b _ _ _ _ _ h) = method_stays vs rest b h
declared_formed ts rest kind (member.record_of x t n o c us _ parts _ _ _ _ _) = tt

member_formed : (ts rest : List Token) (one : Member) → IsMember ts rest one → MethodFormed one.kind
member_formed ts rest one (member.plain t us vs _ kind _ h) = declared_formed vs rest kind h
member_formed ts rest one (member.parameter cascading source t us vs xs _ kind _ _ h) = supplied_formed cascading source xs rest kind h
  where
    supplied_formed : (of : Bool) (from : Option (List ℕ)) (xs1 rest1 : List Token) (kind1 : MemberKind) → Supplied of from xs1 rest1 kind1 → MethodFormed kind1
    supplied_formed of from xs1 rest1 kind1 (member.supplied _ _ x n _ us1 vs1 _ a value _ _ _ _) = tt

pub members_formed : (ts : List Token) (members : List Member) → SpelledMembers ts members → MethodsFormed members
members_formed ts members member.none = tt
members_formed ts members (member.more _ us first others h hs) = (member_formed ts us first h, members_formed us others hs)

pub formed_both : (xs ys : List Member) → MethodsFormed xs → MethodsFormed ys → MethodsFormed (xs ++ ys)
formed_both [] ys h g = g
formed_both (x ∷ xs) ys h g = (h.0, formed_both xs ys h.1 g)
