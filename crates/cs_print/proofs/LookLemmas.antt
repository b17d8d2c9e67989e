-- Trees that are alike look alike at their roots.
use Rattle.std.proofs.Common.{◌≡◌, ℕ, List, [], ◌∷◌, true, false, refl, sym, ap, ◌∙◌, subst}
use Rattle.std.specs.Prelude.{Bool, codes, Some, None, bytes_eq}
use Rattle.std.specs.Bool.{Decides}
use Rattle.std.proofs.lemmas.Slice.Eq.{bytes_eq-Decides}
use Rattle.text_core.specs.declared.place.Place.{Place}
use Rattle.cs_ast.specs.declared.expression.Expr.{Expr}
use Rattle.cs_ast.specs.declared.expression.ExprKind.{ExprKind, ExprKind-F, out-ExprKind, roll-ExprKind, roll-out-ExprKind}
use Rattle.cs_ast.specs.declared.expression.ExprKind.TheVariants as ek
use Rattle.cs_ast.specs.declared.expression.Stmt.{Stmt}
use Rattle.cs_ast.specs.declared.expression.StmtKind.{StmtKind, StmtKind-F, out-StmtKind, roll-StmtKind, roll-out-StmtKind}
use Rattle.cs_ast.specs.declared.expression.StmtKind.TheVariants as st
use Rattle.cs_ast.specs.declared.identifier.Ident.{Ident}
use Rattle.cs_token.specs.declared.token.Token.{Token}
use Rattle.cs_token.specs.declared.token.TokenKind.TheVariants as k
use Rattle.cs_grammar.specs.Tokens.{ident}
use Rattle.cs_grammar.specs.Expressions.{node}
use Rattle.cs_grammar.specs.Statements.{stmt, Leaves}
use Rattle.cs_grammar.specs.Statements as g
use Rattle.cs_print.specs.Alike.{Alike, AlikeKinds, AlikeStatements, AlikeForms, AlikeAllStatements}
use Rattle.cs_print.specs.Alike as al

-- a call
abbrev is_call : ExprKind → Bool
is_call kind = elim (out-ExprKind kind) [ ExprKind-F.Call f bs ↦ true | _ ↦ false ]

-- the member `InvokeAsync`
abbrev is_invoke_member : ExprKind → Bool
is_invoke_member kind = elim (out-ExprKind kind) [ ExprKind-F.Member owner n ↦ bytes_eq n.name (codes "InvokeAsync") | _ ↦ false ]

-- a call of it
abbrev is_invoke : ExprKind → Bool
is_invoke kind = elim (out-ExprKind kind) [ ExprKind-F.Call f bs ↦ is_invoke_member f.kind | _ ↦ false ]

-- a `break` or a `return`
abbrev leaves_by : StmtKind → Bool
leaves_by kind = elim (out-StmtKind kind) [ StmtKind-F.Break ↦ true | StmtKind-F.Return value ↦ true | _ ↦ false ]

pub alike_call : (j k : ExprKind) → AlikeKinds j k → is_call j ≡ is_call k
alike_call _ _ (al.same k) = refl
alike_call _ _ (al.interpolated xs ys h) = ap (λ x. elim x [ ExprKind-F.Call f bs ↦ true | _ ↦ false ]) (ek.outs-Interpolated xs) ∙ sym (ap (λ x. elim x [ ExprKind-F.Call f bs ↦ true | _ ↦ false ]) (ek.outs-Interpolated ys))
alike_call _ _ (al.unary op a b h) = ap (λ x. elim x [ ExprKind-F.Call f bs ↦ true | _ ↦ false ]) (ek.outs-Unary op a) ∙ sym (ap (λ x. elim x [ ExprKind-F.Call f bs ↦ true | _ ↦ false ]) (ek.outs-Unary op b))
alike_call _ _ (al.cast op a b h) = ap (λ x. elim x [ ExprKind-F.Call f bs ↦ true | _ ↦ false ]) (ek.outs-Cast op a) ∙ sym (ap (λ x. elim x [ ExprKind-F.Call f bs ↦ true | _ ↦ false ]) (ek.outs-Cast op b))
alike_call _ _ (al.binary op a b c d h i) = ap (λ x. elim x [ ExprKind-F.Call f bs ↦ true | _ ↦ false ]) (ek.outs-Binary op a c) ∙ sym (ap (λ x. elim x [ ExprKind-F.Call f bs ↦ true | _ ↦ false ]) (ek.outs-Binary op b d))
alike_call _ _ (al.conditional a b c d e f h i j) = ap (λ x. elim x [ ExprKind-F.Call f bs ↦ true | _ ↦ false ]) (ek.outs-Conditional a c e) ∙ sym (ap (λ x. elim x [ ExprKind-F.Call f bs ↦ true | _ ↦ false ]) (ek.outs-Conditional b d f))
alike_call _ _ (al.with_parts a b xs ys h i) = ap (λ x. elim x [ ExprKind-F.Call f bs ↦ true | _ ↦ false ]) (ek.outs-With a xs) ∙ sym (ap (λ x. elim x [ ExprKind-F.Call f bs ↦ true | _ ↦ false ]) (ek.outs-With b ys))
alike_call _ _ (al.member x p q a b h) = ap (λ x. elim x [ ExprKind-F.Call f bs ↦ true | _ ↦ false ]) (ek.outs-Member a (al.named p x)) ∙ sym (ap (λ x. elim x [ ExprKind-F.Call f bs ↦ true | _ ↦ false ]) (ek.outs-Member b (al.named q x)))
alike_call _ _ (al.null_member x p q a b h) = ap (λ x. elim x [ ExprKind-F.Call f bs ↦ true | _ ↦ false ]) (ek.outs-NullMember a (al.named p x)) ∙ sym (ap (λ x. elim x [ ExprKind-F.Call f bs ↦ true | _ ↦ false ]) (ek.outs-NullMember b (al.named q x)))
alike_call _ _ (al.call a b xs ys h i) = ap (λ x. elim x [ ExprKind-F.Call f bs ↦ true | _ ↦ false ]) (ek.outs-Call a xs) ∙ sym (ap (λ x. elim x [ ExprKind-F.Call f bs ↦ true | _ ↦ false ]) (ek.outs-Call b ys))
alike_call _ _ (al.index a b c d h i) = ap (λ x. elim x [ ExprKind-F.Call f bs ↦ true | _ ↦ false ]) (ek.outs-Index a c) ∙ sym (ap (λ x. elim x [ ExprKind-F.Call f bs ↦ true | _ ↦ false ]) (ek.outs-Index b d))
alike_call _ _ (al.new_record x p q xs ys h) = ap (λ x. elim x [ ExprKind-F.Call f bs ↦ true | _ ↦ false ]) (ek.outs-New (al.named p x) xs) ∙ sym (ap (λ x. elim x [ ExprKind-F.Call f bs ↦ true | _ ↦ false ]) (ek.outs-New (al.named q x) ys))
alike_call _ _ (al.empty_list a b h) = ap (λ x. elim x [ ExprKind-F.Call f bs ↦ true | _ ↦ false ]) (ek.outs-EmptyList a) ∙ sym (ap (λ x. elim x [ ExprKind-F.Call f bs ↦ true | _ ↦ false ]) (ek.outs-EmptyList b))
alike_call _ _ (al.static owner x p q) = ap (λ x. elim x [ ExprKind-F.Call f bs ↦ true | _ ↦ false ]) (ek.outs-Static owner (al.named p x)) ∙ sym (ap (λ x. elim x [ ExprKind-F.Call f bs ↦ true | _ ↦ false ]) (ek.outs-Static owner (al.named q x)))
alike_call _ _ (al.assign op x p q a b h) = ap (λ x. elim x [ ExprKind-F.Call f bs ↦ true | _ ↦ false ]) (ek.outs-Assign op (al.named p x) a) ∙ sym (ap (λ x. elim x [ ExprKind-F.Call f bs ↦ true | _ ↦ false ]) (ek.outs-Assign op (al.named q x) b))
alike_call _ _ (al.step op x p q) = ap (λ x. elim x [ ExprKind-F.Call f bs ↦ true | _ ↦ false ]) (ek.outs-Step op (al.named p x)) ∙ sym (ap (λ x. elim x [ ExprKind-F.Call f bs ↦ true | _ ↦ false ]) (ek.outs-Step op (al.named q x)))
alike_call _ _ (al.lambda_of_none a b h) = ap (λ x. elim x [ ExprKind-F.Call f bs ↦ true | _ ↦ false ]) (ek.outs-Lambda None a) ∙ sym (ap (λ x. elim x [ ExprKind-F.Call f bs ↦ true | _ ↦ false ]) (ek.outs-Lambda None b))
alike_call _ _ (al.lambda_of_name x p q a b h) = ap (λ x. elim x [ ExprKind-F.Call f bs ↦ true | _ ↦ false ]) (ek.outs-Lambda (Some (al.named p x)) a) ∙ sym (ap (λ x. elim x [ ExprKind-F.Call f bs ↦ true | _ ↦ false ]) (ek.outs-Lambda (Some (al.named q x)) b))

pub alike_member : (j k : ExprKind) → AlikeKinds j k → is_invoke_member j ≡ is_invoke_member k
alike_member _ _ (al.same k) = refl
alike_member _ _ (al.interpolated xs ys h) = ap (λ x. elim x [ ExprKind-F.Member owner n ↦ bytes_eq n.name (codes "InvokeAsync") | _ ↦ false ]) (ek.outs-Interpolated xs) ∙ sym (ap (λ x. elim x [ ExprKind-F.Member owner n ↦ bytes_eq n.name (codes "InvokeAsync") | _ ↦ false ]) (ek.outs-Interpolated ys))
alike_member _ _ (al.unary op a b h) = ap (λ x. elim x [ ExprKind-F.Member owner n ↦ bytes_eq n.name (codes "InvokeAsync") | _ ↦ false ]) (ek.outs-Unary op a) ∙ sym (ap (λ x. elim x [ ExprKind-F.Member owner n ↦ bytes_eq n.name (codes "InvokeAsync") | _ ↦ false ]) (ek.outs-Unary op b))
alike_member _ _ (al.cast op a b h) = ap (λ x. elim x [ ExprKind-F.Member owner n ↦ bytes_eq n.name (codes "InvokeAsync") | _ ↦ false ]) (ek.outs-Cast op a) ∙ sym (ap (λ x. elim x [ ExprKind-F.Member owner n ↦ bytes_eq n.name (codes "InvokeAsync") | _ ↦ false ]) (ek.outs-Cast op b))
alike_member _ _ (al.binary op a b c d h i) = ap (λ x. elim x [ ExprKind-F.Member owner n ↦ bytes_eq n.name (codes "InvokeAsync") | _ ↦ false ]) (ek.outs-Binary op a c) ∙ sym (ap (λ x. elim x [ ExprKind-F.Member owner n ↦ bytes_eq n.name (codes "InvokeAsync") | _ ↦ false ]) (ek.outs-Binary op b d))
alike_member _ _ (al.conditional a b c d e f h i j) = ap (λ x. elim x [ ExprKind-F.Member owner n ↦ bytes_eq n.name (codes "InvokeAsync") | _ ↦ false ]) (ek.outs-Conditional a c e) ∙ sym (ap (λ x. elim x [ ExprKind-F.Member owner n ↦ bytes_eq n.name (codes "InvokeAsync") | _ ↦ false ]) (ek.outs-Conditional b d f))
alike_member _ _ (al.with_parts a b xs ys h i) = ap (λ x. elim x [ ExprKind-F.Member owner n ↦ bytes_eq n.name (codes "InvokeAsync") | _ ↦ false ]) (ek.outs-With a xs) ∙ sym (ap (λ x. elim x [ ExprKind-F.Member owner n ↦ bytes_eq n.name (codes "InvokeAsync") | _ ↦ false ]) (ek.outs-With b ys))
alike_member _ _ (al.member x p q a b h) = ap (λ x. elim x [ ExprKind-F.Member owner n ↦ bytes_eq n.name (codes "InvokeAsync") | _ ↦ false ]) (ek.outs-Member a (al.named p x)) ∙ sym (ap (λ x. elim x [ ExprKind-F.Member owner n ↦ bytes_eq n.name (codes "InvokeAsync") | _ ↦ false ]) (ek.outs-Member b (al.named q x)))
alike_member _ _ (al.null_member x p q a b h) = ap (λ x. elim x [ ExprKind-F.Member owner n ↦ bytes_eq n.name (codes "InvokeAsync") | _ ↦ false ]) (ek.outs-NullMember a (al.named p x)) ∙ sym (ap (λ x. elim x [ ExprKind-F.Member owner n ↦ bytes_eq n.name (codes "InvokeAsync") | _ ↦ false ]) (ek.outs-NullMember b (al.named q x)))
alike_member _ _ (al.call a b xs ys h i) = ap (λ x. elim x [ ExprKind-F.Member owner n ↦ bytes_eq n.name (codes "InvokeAsync") | _ ↦ false ]) (ek.outs-Call a xs) ∙ sym (ap (λ x. elim x [ ExprKind-F.Member owner n ↦ bytes_eq n.name (codes "InvokeAsync") | _ ↦ false ]) (ek.outs-Call b ys))
alike_member _ _ (al.index a b c d h i) = ap (λ x. elim x [ ExprKind-F.Member owner n ↦ bytes_eq n.name (codes "InvokeAsync") | _ ↦ false ]) (ek.outs-Index a c) ∙ sym (ap (λ x. elim x [ ExprKind-F.Member owner n ↦ bytes_eq n.name (codes "InvokeAsync") | _ ↦ false ]) (ek.outs-Index b d))
alike_member _ _ (al.new_record x p q xs ys h) = ap (λ x. elim x [ ExprKind-F.Member owner n ↦ bytes_eq n.name (codes "InvokeAsync") | _ ↦ false ]) (ek.outs-New (al.named p x) xs) ∙ sym (ap (λ x. elim x [ ExprKind-F.Member owner n ↦ bytes_eq n.name (codes "InvokeAsync") | _ ↦ false ]) (ek.outs-New (al.named q x) ys))
alike_member _ _ (al.empty_list a b h) = ap (λ x. elim x [ ExprKind-F.Member owner n ↦ bytes_eq n.name (codes "InvokeAsync") | _ ↦ false ]) (ek.outs-EmptyList a) ∙ sym (ap (λ x. elim x [ ExprKind-F.Member owner n ↦ bytes_eq n.name (codes "InvokeAsync") | _ ↦ false ]) (ek.outs-EmptyList b))
alike_member _ _ (al.static owner x p q) = ap (λ x. elim x [ ExprKind-F.Member owner n ↦ bytes_eq n.name (codes "InvokeAsync") | _ ↦ false ]) (ek.outs-Static owner (al.named p x)) ∙ sym (ap (λ x. elim x [ ExprKind-F.Member owner n ↦ bytes_eq n.name (codes "InvokeAsync") | _ ↦ false ]) (ek.outs-Static owner (al.named q x)))
alike_member _ _ (al.assign op x p q a b h) = ap (λ x. elim x [ ExprKind-F.Member owner n ↦ bytes_eq n.name (codes "InvokeAsync") | _ ↦ false ]) (ek.outs-Assign op (al.named p x) a) ∙ sym (ap (λ x. elim x [ ExprKind-F.Member owner n ↦ bytes_eq n.name (codes "InvokeAsync") | _ ↦ false ]) (ek.outs-Assign op (al.named q x) b))
alike_member _ _ (al.step op x p q) = ap (λ x. elim x [ ExprKind-F.Member owner n ↦ bytes_eq n.name (codes "InvokeAsync") | _ ↦ false ]) (ek.outs-Step op (al.named p x)) ∙ sym (ap (λ x. elim x [ ExprKind-F.Member owner n ↦ bytes_eq n.name (codes "InvokeAsync") | _ ↦ false ]) (ek.outs-Step op (al.named q x)))
alike_member _ _ (al.lambda_of_none a b h) = ap (λ x. elim x [ ExprKind-F.Member owner n ↦ bytes_eq n.name (codes "InvokeAsync") | _ ↦ false ]) (ek.outs-Lambda None a) ∙ sym (ap (λ x. elim x [ ExprKind-F.Member owner n ↦ bytes_eq n.name (codes "InvokeAsync") | _ ↦ false ]) (ek.outs-Lambda None b))
alike_member _ _ (al.lambda_of_name x p q a b h) = ap (λ x. elim x [ ExprKind-F.Member owner n ↦ bytes_eq n.name (codes "InvokeAsync") | _ ↦ false ]) (ek.outs-Lambda (Some (al.named p x)) a) ∙ sym (ap (λ x. elim x [ ExprKind-F.Member owner n ↦ bytes_eq n.name (codes "InvokeAsync") | _ ↦ false ]) (ek.outs-Lambda (Some (al.named q x)) b))

-- the same of expressions
member_alike : (a b : Expr) → Alike a b → is_invoke_member a.kind ≡ is_invoke_member b.kind
member_alike _ _ (al.expression p q j k h) = alike_member j k h

pub alike_invoke : (j k : ExprKind) → AlikeKinds j k → is_invoke j ≡ is_invoke k
alike_invoke _ _ (al.same k) = refl
alike_invoke _ _ (al.interpolated xs ys h) = ap (λ x. elim x [ ExprKind-F.Call f bs ↦ is_invoke_member f.kind | _ ↦ false ]) (ek.outs-Interpolated xs) ∙ sym (ap (λ x. elim x [ ExprKind-F.Call f bs ↦ is_invoke_member f.kind | _ ↦ false ]) (ek.outs-Interpolated ys))
alike_invoke _ _ (al.unary op a b h) = ap (λ x. elim x [ ExprKind-F.Call f bs ↦ is_invoke_member f.kind | _ ↦ false ]) (ek.outs-Unary op a) ∙ sym (ap (λ x. elim x [ ExprKind-F.Call f bs ↦ is_invoke_member f.kind | _ ↦ false ]) (ek.outs-Unary op b))
alike_invoke _ _ (al.cast op a b h) = ap (λ x. elim x [ ExprKind-F.Call f bs ↦ is_invoke_member f.kind | _ ↦ false ]) (ek.outs-Cast op a) ∙ sym (ap (λ x. elim x [ ExprKind-F.Call f bs ↦ is_invoke_member f.kind | _ ↦ false ]) (ek.outs-Cast op b))
alike_invoke _ _ (al.binary op a b c d h i) = ap (λ x. elim x [ ExprKind-F.Call f bs ↦ is_invoke_member f.kind | _ ↦ false ]) (ek.outs-Binary op a c) ∙ sym (ap (λ x. elim x [ ExprKind-F.Call f bs ↦ is_invoke_member f.kind | _ ↦ false ]) (ek.outs-Binary op b d))
alike_invoke _ _ (al.conditional a b c d e f h i j) = ap (λ x. elim x [ ExprKind-F.Call f bs ↦ is_invoke_member f.kind | _ ↦ false ]) (ek.outs-Conditional a c e) ∙ sym (ap (λ x. elim x [ ExprKind-F.Call f bs ↦ is_invoke_member f.kind | _ ↦ false ]) (ek.outs-Conditional b d f))
alike_invoke _ _ (al.with_parts a b xs ys h i) = ap (λ x. elim x [ ExprKind-F.Call f bs ↦ is_invoke_member f.kind | _ ↦ false ]) (ek.outs-With a xs) ∙ sym (ap (λ x. elim x [ ExprKind-F.Call f bs ↦ is_invoke_member f.kind | _ ↦ false ]) (ek.outs-With b ys))
alike_invoke _ _ (al.member x p q a b h) = ap (λ x. elim x [ ExprKind-F.Call f bs ↦ is_invoke_member f.kind | _ ↦ false ]) (ek.outs-Member a (al.named p x)) ∙ sym (ap (λ x. elim x [ ExprKind-F.Call f bs ↦ is_invoke_member f.kind | _ ↦ false ]) (ek.outs-Member b (al.named q x)))
alike_invoke _ _ (al.null_member x p q a b h) = ap (λ x. elim x [ ExprKind-F.Call f bs ↦ is_invoke_member f.kind | _ ↦ false ]) (ek.outs-NullMember a (al.named p x)) ∙ sym (ap (λ x. elim x [ ExprKind-F.Call f bs ↦ is_invoke_member f.kind | _ ↦ false ]) (ek.outs-NullMember b (al.named q x)))
alike_invoke _ _ (al.call a b xs ys h i) = ap (λ x. elim x [ ExprKind-F.Call f bs ↦ is_invoke_member f.kind | _ ↦ false ]) (ek.outs-Call a xs) ∙ member_alike a b h ∙ sym (ap (λ x. elim x [ ExprKind-F.Call f bs ↦ is_invoke_member f.kind | _ ↦ false ]) (ek.outs-Call b ys))
alike_invoke _ _ (al.index a b c d h i) = ap (λ x. elim x [ ExprKind-F.Call f bs ↦ is_invoke_member f.kind | _ ↦ false ]) (ek.outs-Index a c) ∙ sym (ap (λ x. elim x [ ExprKind-F.Call f bs ↦ is_invoke_member f.kind | _ ↦ false ]) (ek.outs-Index b d))
alike_invoke _ _ (al.new_record x p q xs ys h) = ap (λ x. elim x [ ExprKind-F.Call f bs ↦ is_invoke_member f.kind | _ ↦ false ]) (ek.outs-New (al.named p x) xs) ∙ sym (ap (λ x. elim x [ ExprKind-F.Call f bs ↦ is_invoke_member f.kind | _ ↦ false ]) (ek.outs-New (al.named q x) ys))
alike_invoke _ _ (al.empty_list a b h) = ap (λ x. elim x [ ExprKind-F.Call f bs ↦ is_invoke_member f.kind | _ ↦ false ]) (ek.outs-EmptyList a) ∙ sym (ap (λ x. elim x [ ExprKind-F.Call f bs ↦ is_invoke_member f.kind | _ ↦ false ]) (ek.outs-EmptyList b))
alike_invoke _ _ (al.static owner x p q) = ap (λ x. elim x [ ExprKind-F.Call f bs ↦ is_invoke_member f.kind | _ ↦ false ]) (ek.outs-Static owner (al.named p x)) ∙ sym (ap (λ x. elim x [ ExprKind-F.Call f bs ↦ is_invoke_member f.kind | _ ↦ false ]) (ek.outs-Static owner (al.named q x)))
alike_invoke _ _ (al.assign op x p q a b h) = ap (λ x. elim x [ ExprKind-F.Call f bs ↦ is_invoke_member f.kind | _ ↦ false ]) (ek.outs-Assign op (al.named p x) a) ∙ sym (ap (λ x. elim x [ ExprKind-F.Call f bs ↦ is_invoke_member f.kind | _ ↦ false ]) (ek.outs-Assign op (al.named q x) b))
alike_invoke _ _ (al.step op x p q) = ap (λ x. elim x [ ExprKind-F.Call f bs ↦ is_invoke_member f.kind | _ ↦ false ]) (ek.outs-Step op (al.named p x)) ∙ sym (ap (λ x. elim x [ ExprKind-F.Call f bs ↦ is_invoke_member f.kind | _ ↦ false ]) (ek.outs-Step op (al.named q x)))
alike_invoke _ _ (al.lambda_of_none a b h) = ap (λ x. elim x [ ExprKind-F.Call f bs ↦ is_invoke_member f.kind | _ ↦ false ]) (ek.outs-Lambda None a) ∙ sym (ap (λ x. elim x [ ExprKind-F.Call f bs ↦ is_invoke_member f.kind | _ ↦ false ]) (ek.outs-Lambda None b))
alike_invoke _ _ (al.lambda_of_name x p q a b h) = ap (λ x. elim x [ ExprKind-F.Call f bs ↦ is_invoke_member f.kind | _ ↦ false ]) (ek.outs-Lambda (Some (al.named p x)) a) ∙ sym (ap (λ x. elim x [ ExprKind-F.Call f bs ↦ is_invoke_member f.kind | _ ↦ false ]) (ek.outs-Lambda (Some (al.named q x)) b))

-- a call, as the grammar has it
pub record CallOf (a : Expr) : Type 0 where
  pub f : Expr
  pub bs : List Expr
  pub whole : a ≡ node a.place (ek.Call f bs)

call_form : (a : Expr) → is_call a.kind ≡ true → CallOf a
call_form a e =
    elim (out-ExprKind a.kind) as (λ x. out-ExprKind a.kind ≡ x → (elim x [ ExprKind-F.Call f bs ↦ true | _ ↦ false ]) ≡ true → CallOf a) [
      | ExprKind-F.Call f bs ↦ λ m i. record {
        f = f;
        bs = bs;
        whole = ap (λ kind. node a.place kind) (sym (roll-out-ExprKind a.kind) ∙ ap roll-ExprKind m ∙ ek.rolls-Call f bs);
      }
      | _ ↦ λ m i. absurd (cc)
    ] refl e

call_is : (f : Expr) (bs : List Expr) → is_call (ek.Call f bs) ≡ true
call_is f bs = ap (λ x. elim x [ ExprKind-F.Call f bs ↦ true | _ ↦ false ]) (ek.outs-Call f bs)

-- what is like a call is one
pub call_alike : (a b : Expr) (q : Place) (f : Expr) (bs : List Expr) → a ≡ node q (ek.Call f bs) → Alike a b → CallOf b
call_alike _ _ q f bs e (al.expression p r j k h) = call_form (node r k) (sym (alike_call j k h) ∙ ap (λ x. is_call x.kind) e ∙ call_is f bs)

-- a call of the member `InvokeAsync`
pub record InvokeOf (a : Expr) : Type 0 where
  pub r : Place
  pub owner : Expr
  pub n : Token
  pub bs : List Expr
  pub whole : a ≡ node a.place (ek.Call (node r (ek.Member owner (ident n (codes "InvokeAsync")))) bs)

record MemberOf (a : Expr) : Type 0 where
  owner : Expr
  n : Token
  whole : a ≡ node a.place (ek.Member owner (ident n (codes "InvokeAsync")))

-- a token at a place
token_at : Place → Token
token_at p = record { kind = k.Name []; start = 0; end = 0; place = p }

named_so : (n : Ident) → bytes_eq n.name (codes "InvokeAsync") ≡ true → n ≡ ident (token_at n.place) (codes "InvokeAsync")
unfolding token_at
named_so n e = ap (λ x. record { place = n.place; name = x }) (same (bytes_eq n.name (codes "InvokeAsync")) e (bytes_eq-Decides n.name (codes "InvokeAsync")))
  where
    same : (d : Bool) → d ≡ true → Decides d (n.name ≡ codes "InvokeAsync") → n.name ≡ codes "InvokeAsync"
    same true i m = m.0 refl
    same false i m = absurd (cc)

member_form : (a : Expr) → is_invoke_member a.kind ≡ true → MemberOf a
member_form a e =
    elim (out-ExprKind a.kind) as (λ x. out-ExprKind a.kind ≡ x → (elim x [ ExprKind-F.Member owner n ↦ bytes_eq n.name (codes "InvokeAsync") | _ ↦ false ]) ≡ true → MemberOf a) [
      | ExprKind-F.Member owner n ↦ λ m i. record {
        owner = owner;
        n = token_at n.place;
        whole = ap (λ kind. node a.place kind) (sym (roll-out-ExprKind a.kind) ∙ ap roll-ExprKind m ∙ ek.rolls-Member owner n ∙ ap (λ j. ek.Member owner j) (named_so n i));
      }
      | _ ↦ λ m i. absurd (cc)
    ] refl e

invoke_form : (a : Expr) → is_invoke a.kind ≡ true → InvokeOf a
invoke_form a e =
    elim (out-ExprKind a.kind) as (λ x. out-ExprKind a.kind ≡ x → (elim x [ ExprKind-F.Call f bs ↦ is_invoke_member f.kind | _ ↦ false ]) ≡ true → InvokeOf a) [
      | ExprKind-F.Call f bs ↦ λ m i.
          let y = member_form f i in
          record {
            r = f.place;
            owner = y.owner;
            n = y.n;
            bs = bs;
            whole = ap (λ kind. node a.place kind) (sym (roll-out-ExprKind a.kind) ∙ ap roll-ExprKind m ∙ ek.rolls-Call f bs ∙ ap (λ j. ek.Call j bs) y.whole);
          }
      | _ ↦ λ m i. absurd (cc)
    ] refl e

same_name : (x : List ℕ) → bytes_eq x x ≡ true
same_name x = go (bytes_eq x x) (bytes_eq-Decides x x)
  where
    go : (d : Bool) → Decides d (x ≡ x) → d ≡ true
    go true m = refl
    go false m = m.1 refl

invoke_is : (r : Place) (owner : Expr) (n : Token) (bs : List Expr) → is_invoke (ek.Call (node r (ek.Member owner (ident n (codes "InvokeAsync")))) bs) ≡ true
invoke_is r owner n bs =
    ap (λ x. elim x [ ExprKind-F.Call f bs ↦ is_invoke_member f.kind | _ ↦ false ]) (ek.outs-Call (node r (ek.Member owner (ident n (codes "InvokeAsync")))) bs)
    ∙ ap (λ x. elim x [ ExprKind-F.Member owner n ↦ bytes_eq n.name (codes "InvokeAsync") | _ ↦ false ]) (ek.outs-Member owner (ident n (codes "InvokeAsync")))
    ∙ same_name (codes "InvokeAsync")

-- what is like such a call is one
pub invoke_alike : (a b : Expr) (q r : Place) (owner : Expr) (n : Token) (bs : List Expr) → a ≡ node q (ek.Call (node r (ek.Member owner (ident n (codes "InvokeAsync")))) bs) → Alike a b → InvokeOf b
invoke_alike _ _ q r owner n bs e (al.expression p o j k h) = invoke_form (node o k) (sym (alike_invoke j k h) ∙ ap (λ x. is_invoke x.kind) e ∙ invoke_is r owner n bs)

alike_leaves : (j k : StmtKind) → AlikeForms j k → leaves_by j ≡ leaves_by k
alike_leaves _ _ (al.same_form k) = refl
alike_leaves _ _ (al.local x p q s t a b h i) = ap (λ x. elim x [ StmtKind-F.Break ↦ true | StmtKind-F.Return value ↦ true | _ ↦ false ]) (st.outs-Local s (al.named p x) a) ∙ sym (ap (λ x. elim x [ StmtKind-F.Break ↦ true | StmtKind-F.Return value ↦ true | _ ↦ false ]) (st.outs-Local t (al.named q x) b))
alike_leaves _ _ (al.block xs ys h) = ap (λ x. elim x [ StmtKind-F.Break ↦ true | StmtKind-F.Return value ↦ true | _ ↦ false ]) (st.outs-Block xs) ∙ sym (ap (λ x. elim x [ StmtKind-F.Break ↦ true | StmtKind-F.Return value ↦ true | _ ↦ false ]) (st.outs-Block ys))
alike_leaves _ _ (al.if_else a b s t m n h i o) = ap (λ x. elim x [ StmtKind-F.Break ↦ true | StmtKind-F.Return value ↦ true | _ ↦ false ]) (st.outs-If a s m) ∙ sym (ap (λ x. elim x [ StmtKind-F.Break ↦ true | StmtKind-F.Return value ↦ true | _ ↦ false ]) (st.outs-If b t n))
alike_leaves _ _ (al.while_ a b s t h i) = ap (λ x. elim x [ StmtKind-F.Break ↦ true | StmtKind-F.Return value ↦ true | _ ↦ false ]) (st.outs-While a s) ∙ sym (ap (λ x. elim x [ StmtKind-F.Break ↦ true | StmtKind-F.Return value ↦ true | _ ↦ false ]) (st.outs-While b t))
alike_leaves _ _ (al.for_ m n a b c d s t h i o u) = ap (λ x. elim x [ StmtKind-F.Break ↦ true | StmtKind-F.Return value ↦ true | _ ↦ false ]) (st.outs-For m a c s) ∙ sym (ap (λ x. elim x [ StmtKind-F.Break ↦ true | StmtKind-F.Return value ↦ true | _ ↦ false ]) (st.outs-For n b d t))
alike_leaves _ _ (al.foreach_ x p q a b s t h i) = ap (λ x. elim x [ StmtKind-F.Break ↦ true | StmtKind-F.Return value ↦ true | _ ↦ false ]) (st.outs-ForEach (al.named p x) a s) ∙ sym (ap (λ x. elim x [ StmtKind-F.Break ↦ true | StmtKind-F.Return value ↦ true | _ ↦ false ]) (st.outs-ForEach (al.named q x) b t))
alike_leaves _ _ (al.switch_ a b xs ys h i) = ap (λ x. elim x [ StmtKind-F.Break ↦ true | StmtKind-F.Return value ↦ true | _ ↦ false ]) (st.outs-Switch a xs) ∙ sym (ap (λ x. elim x [ StmtKind-F.Break ↦ true | StmtKind-F.Return value ↦ true | _ ↦ false ]) (st.outs-Switch b ys))
alike_leaves _ _ (al.return_ a b h) = ap (λ x. elim x [ StmtKind-F.Break ↦ true | StmtKind-F.Return value ↦ true | _ ↦ false ]) (st.outs-Return a) ∙ sym (ap (λ x. elim x [ StmtKind-F.Break ↦ true | StmtKind-F.Return value ↦ true | _ ↦ false ]) (st.outs-Return b))
alike_leaves _ _ (al.act a b h) = ap (λ x. elim x [ StmtKind-F.Break ↦ true | StmtKind-F.Return value ↦ true | _ ↦ false ]) (st.outs-Expr a) ∙ sym (ap (λ x. elim x [ StmtKind-F.Break ↦ true | StmtKind-F.Return value ↦ true | _ ↦ false ]) (st.outs-Expr b))
alike_leaves _ _ (al.await_ a b h) = ap (λ x. elim x [ StmtKind-F.Break ↦ true | StmtKind-F.Return value ↦ true | _ ↦ false ]) (st.outs-Await a) ∙ sym (ap (λ x. elim x [ StmtKind-F.Break ↦ true | StmtKind-F.Return value ↦ true | _ ↦ false ]) (st.outs-Await b))

last_leaves : (a : Stmt) → leaves_by a.kind ≡ true → Leaves (a ∷ [])
last_leaves a e =
    elim (out-StmtKind a.kind) as (λ x. out-StmtKind a.kind ≡ x → (elim x [ StmtKind-F.Break ↦ true | StmtKind-F.Return value ↦ true | _ ↦ false ]) ≡ true → Leaves (a ∷ [])) [
      | StmtKind-F.Break ↦ λ m i. subst (λ kind. Leaves (stmt a.place kind ∷ [])) (sym (sym (roll-out-StmtKind a.kind) ∙ ap roll-StmtKind m ∙ st.rolls-Break)) (g.by_break a.place)
      | StmtKind-F.Return value ↦ λ m i. subst (λ kind. Leaves (stmt a.place kind ∷ [])) (sym (sym (roll-out-StmtKind a.kind) ∙ ap roll-StmtKind m ∙ st.rolls-Return value)) (g.by_return a.place value)
      | _ ↦ λ m i. absurd (cc)
    ] refl e

-- one that is like one that leaves
one_leaves : (a : Stmt) (trees : List Stmt) → leaves_by a.kind ≡ true → AlikeAllStatements (a ∷ []) trees → Leaves trees
one_leaves _ _ e (al.one_statement _ _ _ _ (al.statement p q j k h) al.no_statement) = last_leaves (stmt q k) (sym (alike_leaves j k h) ∙ e)

-- statements like those of which the last leaves
pub leaves_alike : (body trees : List Stmt) → Leaves body → AlikeAllStatements body trees → Leaves trees
leaves_alike _ trees (g.by_break p) each = one_leaves (stmt p st.Break) trees (ap (λ x. elim x [ StmtKind-F.Break ↦ true | StmtKind-F.Return value ↦ true | _ ↦ false ]) st.outs-Break) each
leaves_alike _ trees (g.by_return p value) each = one_leaves (stmt p (st.Return value)) trees (ap (λ x. elim x [ StmtKind-F.Break ↦ true | StmtKind-F.Return value ↦ true | _ ↦ false ]) (st.outs-Return value)) each
leaves_alike _ _ (g.later _ _ more) (al.one_statement a b xs ys h each) = g.later b ys (leaves_alike xs ys more each)
