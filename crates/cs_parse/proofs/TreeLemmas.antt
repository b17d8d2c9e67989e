-- What a tree is at its root, as the grammar has it.
use Rattle.std.proofs.Common.{◌≡◌, ℕ, suc, ◌-◌, List, [], ◌∷◌, length, refl, sym, ap, ◌∙◌, subst, arith}
use Rattle.std.specs.Prelude.{Bool, true, false, codes, Option, Some, None}
use Rattle.std.specs.Bool.{Decides}
use Rattle.std.proofs.lemmas.Slice.Eq.{bytes_eq-Decides}
use Rattle.std.specs.Str.{bytes_eq}
use Rattle.std.specs.List.{slice_get}
use Rattle.text_core.specs.declared.place.Place.{Place}
use Rattle.cs_ast.specs.declared.expression.Expr.{Expr}
use Rattle.cs_ast.specs.declared.expression.ExprKind.{ExprKind, ExprKind-F, out-ExprKind, roll-ExprKind, roll-out-ExprKind}
use Rattle.cs_ast.specs.declared.expression.ExprKind.TheVariants as ek
use Rattle.cs_ast.specs.declared.expression.Stmt.{Stmt}
use Rattle.cs_ast.specs.declared.expression.StmtKind.{StmtKind, StmtKind-F, out-StmtKind, roll-StmtKind, roll-out-StmtKind}
use Rattle.cs_ast.specs.declared.expression.StmtKind.TheVariants as st
use Rattle.cs_ast.specs.declared.identifier.Ident.{Ident}
use Rattle.cs_token.specs.declared.token.Token.{Token}
use Rattle.cs_token.specs.declared.token.TokenKind.TheVariants as k
use Rattle.cs_grammar.specs.Tokens.{ident}
use Rattle.cs_grammar.specs.Expressions.{node}
use Rattle.cs_grammar.specs.Statements.{stmt, Leaves}
use Rattle.cs_grammar.specs.Statements as g
use Rattle.cs_parse.specs.TreeViews.{is_call, is_invoke_member, is_invoke, leaves_by, leaves}

pub record CallOf (a : Expr) : Type 0 where
  pub f : Expr
  pub bs : List Expr
  pub whole : a ≡ node a.place (ek.Call f bs)

pub call_form : (a : Expr) → is_call a ≡ true → CallOf a
call_form a e =
    elim (out-ExprKind a.kind) as (λ x. out-ExprKind a.kind ≡ x → (elim x [ ExprKind-F.Call f bs ↦ true | _ ↦ false ]) ≡ true → CallOf a) [
      | ExprKind-F.Call f bs ↦ λ m i. record {
        f = f;
        bs = bs;
        whole = ap (λ kind. node a.place kind) (sym (roll-out-ExprKind a.kind) ∙ ap roll-ExprKind m ∙ ek.rolls-Call f bs);
      }
      | _ ↦ λ m i. absurd (cc)
    ] refl e

pub call_is : (q : Place) (f : Expr) (bs : List Expr) → is_call (node q (ek.Call f bs)) ≡ true
call_is q f bs = ap (λ x. elim x [ ExprKind-F.Call f bs ↦ true | _ ↦ false ]) (ek.outs-Call f bs)

-- a call of the member `InvokeAsync`
pub record InvokeOf (a : Expr) : Type 0 where
  pub r : Place
  pub owner : Expr
  pub n : Token
  pub bs : List Expr
  pub whole : a ≡ node a.place (ek.Call (node r (ek.Member owner (ident n (codes "InvokeAsync")))) bs)

record MemberOf (a : Expr) : Type 0 where
  owner : Expr
  n : Token
  whole : a ≡ node a.place (ek.Member owner (ident n (codes "InvokeAsync")))

-- a token at the place
at : Place → Token
at p = record { kind = k.Name []; start = 0; end = 0; place = p }

named : (n : Ident) → bytes_eq n.name (codes "InvokeAsync") ≡ true → n ≡ ident (at n.place) (codes "InvokeAsync")
unfolding at
named n e = ap (λ x. record { place = n.place; name = x }) (same (bytes_eq n.name (codes "InvokeAsync")) e (bytes_eq-Decides n.name (codes "InvokeAsync")))
  where
    same : (d : Bool) → d ≡ true → Decides d (n.name ≡ codes "InvokeAsync") → n.name ≡ codes "InvokeAsync"
    same true i m = m.0 refl
    same false i m = absurd (cc)

member_form : (a : Expr) → is_invoke_member a ≡ true → MemberOf a
member_form a e =
    elim (out-ExprKind a.kind) as (λ x. out-ExprKind a.kind ≡ x → (elim x [ ExprKind-F.Member owner n ↦ bytes_eq n.name (codes "InvokeAsync") | _ ↦ false ]) ≡ true → MemberOf a) [
      | ExprKind-F.Member owner n ↦ λ m i. record {
        owner = owner;
        n = at n.place;
        whole = ap (λ kind. node a.place kind) (sym (roll-out-ExprKind a.kind) ∙ ap roll-ExprKind m ∙ ek.rolls-Member owner n ∙ ap (λ j. ek.Member owner j) (named n i));
      }
      | _ ↦ λ m i. absurd (cc)
    ] refl e

pub invoke_form : (a : Expr) → is_invoke a ≡ true → InvokeOf a
invoke_form a e =
    elim (out-ExprKind a.kind) as (λ x. out-ExprKind a.kind ≡ x → (elim x [ ExprKind-F.Call f bs ↦ is_invoke_member f | _ ↦ false ]) ≡ true → InvokeOf a) [
      | ExprKind-F.Call f bs ↦ λ m i.
          let y = member_form f i in
          record {
            r = f.place;
            owner = y.owner;
            n = y.n;
            bs = bs;
            whole = ap (λ kind. node a.place kind) (sym (roll-out-ExprKind a.kind) ∙ ap roll-ExprKind m ∙ ek.rolls-Call f bs ∙ ap (λ j. ek.Call j bs) y.whole);
          }
      | _ ↦ λ m i. absurd (cc)
    ] refl e

same_name : (x : List ℕ) → bytes_eq x x ≡ true
same_name x = go (bytes_eq x x) (bytes_eq-Decides x x)
  where
    go : (d : Bool) → Decides d (x ≡ x) → d ≡ true
    go true m = refl
    go false m = m.1 refl

pub invoke_is : (q r : Place) (owner : Expr) (n : Token) (bs : List Expr) → is_invoke (node q (ek.Call (node r (ek.Member owner (ident n (codes "InvokeAsync")))) bs)) ≡ true
invoke_is q r owner n bs =
    ap (λ x. elim x [ ExprKind-F.Call f bs ↦ is_invoke_member f | _ ↦ false ]) (ek.outs-Call (node r (ek.Member owner (ident n (codes "InvokeAsync")))) bs)
    ∙ ap (λ x. elim x [ ExprKind-F.Member owner n ↦ bytes_eq n.name (codes "InvokeAsync") | _ ↦ false ]) (ek.outs-Member owner (ident n (codes "InvokeAsync")))
    ∙ same_name (codes "InvokeAsync")

-- the last one leaves
last_leaves : (a : Stmt) → leaves_by a ≡ true → Leaves (a ∷ [])
last_leaves a e =
    elim (out-StmtKind a.kind) as (λ x. out-StmtKind a.kind ≡ x → (elim x [ StmtKind-F.Break ↦ true | StmtKind-F.Return value ↦ true | _ ↦ false ]) ≡ true → Leaves (a ∷ [])) [
      | StmtKind-F.Break ↦ λ m i. subst (λ kind. Leaves (stmt a.place kind ∷ [])) (sym (sym (roll-out-StmtKind a.kind) ∙ ap roll-StmtKind m ∙ st.rolls-Break)) (g.by_break a.place)
      | StmtKind-F.Return value ↦ λ m i. subst (λ kind. Leaves (stmt a.place kind ∷ [])) (sym (sym (roll-out-StmtKind a.kind) ∙ ap roll-StmtKind m ∙ st.rolls-Return value)) (g.by_return a.place value)
      | _ ↦ λ m i. absurd (cc)
    ] refl e

pub leaves_sound : (body : List Stmt) → leaves body ≡ true → Leaves body
leaves_sound [] e = absurd (cc)
leaves_sound (a ∷ []) e = last_leaves a e
leaves_sound (a ∷ other ∷ others) e = g.later a (other ∷ others) (leaves_sound (other ∷ others) e)

pub leaves_complete : (body : List Stmt) → Leaves body → leaves body ≡ true
leaves_complete body (g.by_break p) = ap (λ x. elim x [ StmtKind-F.Break ↦ true | StmtKind-F.Return value ↦ true | _ ↦ false ]) st.outs-Break
leaves_complete body (g.by_return p value) = ap (λ x. elim x [ StmtKind-F.Break ↦ true | StmtKind-F.Return value ↦ true | _ ↦ false ]) (st.outs-Return value)
leaves_complete body (g.later a others h) = more a others (leaves_complete others h)
  where
    more : (a : Stmt) (others : List Stmt) → leaves others ≡ true → leaves (a ∷ others) ≡ true
    more a [] e = absurd (cc)
    more a (other ∷ others) e = e

-- the last element of a longer list
last_of : (a other : Stmt) (others : List Stmt) → slice_get (a ∷ other ∷ others) (length (a ∷ other ∷ others) - 1) ≡ slice_get (other ∷ others) (length (other ∷ others) - 1)
last_of a other others =
    let first : length (a ∷ other ∷ others) - 1 ≡ suc (length others) = omega arith in
    let second : length others ≡ length (other ∷ others) - 1 = omega arith in
    ap (slice_get (a ∷ other ∷ others)) first ∙ ap (slice_get (other ∷ others)) second

pub leaves_last : (body : List Stmt) (a : Stmt) → slice_get body (length body - 1) ≡ Some a → leaves body ≡ leaves_by a
leaves_last [] a e = absurd (cc)
leaves_last (first ∷ []) a e = let same : first ≡ a = cc in ap leaves_by same
leaves_last (first ∷ other ∷ others) a e = leaves_last (other ∷ others) a (sym (last_of first other others) ∙ e)

pub leaves_none : (body : List Stmt) → slice_get body (length body - 1) ≡ None → leaves body ≡ false
leaves_none [] e = refl
leaves_none (first ∷ []) e = absurd (cc)
leaves_none (first ∷ other ∷ others) e = leaves_none (other ∷ others) (sym (last_of first other others) ∙ e)
