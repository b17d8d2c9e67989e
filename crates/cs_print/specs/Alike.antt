-- Which trees of code are equal apart from the places in them.
use Rattle.std.specs.Prelude.{ℕ, Bool, List, [], ◌∷◌, Option, Some, None}
use Rattle.text_core.specs.declared.place.Place.{Place}
use Rattle.cs_ast.specs.declared.cs_type.TypeExpr.{TypeExpr}
use Rattle.cs_ast.specs.declared.cs_type.TypeKind.{TypeKind}
use Rattle.cs_ast.specs.declared.cs_type.TypeKind.TheVariants as ty
use Rattle.cs_ast.specs.declared.expression.Body.{Body}
use Rattle.cs_ast.specs.declared.expression.Body.TheVariants as body
use Rattle.cs_ast.specs.declared.expression.Expr.{Expr}
use Rattle.cs_ast.specs.declared.expression.ExprKind.{ExprKind}
use Rattle.cs_ast.specs.declared.expression.ExprKind.TheVariants as ek
use Rattle.cs_ast.specs.declared.expression.Label.{Label}
use Rattle.cs_ast.specs.declared.expression.LabelKind.{LabelKind}
use Rattle.cs_ast.specs.declared.expression.Section.{Section}
use Rattle.cs_ast.specs.declared.expression.Stmt.{Stmt}
use Rattle.cs_ast.specs.declared.expression.StmtKind.{StmtKind}
use Rattle.cs_ast.specs.declared.expression.StmtKind.TheVariants as st
use Rattle.cs_ast.specs.declared.expression.TextPart.{TextPart}
use Rattle.cs_ast.specs.declared.expression.TextPart.TheVariants as tp
use Rattle.cs_ast.specs.declared.expression.WithPart.{WithPart}
use Rattle.cs_ast.specs.declared.identifier.Ident.{Ident}
use Rattle.cs_ast.specs.declared.member.Argument.{Argument}
use Rattle.cs_ast.specs.declared.member.Member.{Member}
use Rattle.cs_ast.specs.declared.member.MemberKind.{MemberKind}
use Rattle.cs_ast.specs.declared.member.MemberKind.TheVariants as mk
use Rattle.cs_ast.specs.declared.operators.AssignOp.{AssignOp}
use Rattle.cs_ast.specs.declared.operators.BinaryOp.{BinaryOp}
use Rattle.cs_ast.specs.declared.operators.CastOp.{CastOp}
use Rattle.cs_ast.specs.declared.operators.StaticType.{StaticType}
use Rattle.cs_ast.specs.declared.operators.StepOp.{StepOp}
use Rattle.cs_ast.specs.declared.operators.UnaryOp.{UnaryOp}
use Rattle.cs_grammar.specs.Expressions.{node}
use Rattle.cs_grammar.specs.Statements.{stmt, section}
use Rattle.cs_grammar.specs.Types.{type_at}

-- a name at a place
abbrev pub named : Place → List ℕ → Ident
named place name = record { place = place; name = name }

-- two lists of as many elements, of which each two are related
pub data Each {A : Type 0} (R : A → A → Type 0) : List A → List A → Type 0 where
  none : Each R [] []
  more : (a b : A) (xs ys : List A) → R a b → Each R xs ys → Each R (a ∷ xs) (b ∷ ys)

-- neither is there, or both are and are related
pub data Both {A : Type 0} (R : A → A → Type 0) : Option A → Option A → Type 0 where
  absent : Both R None None
  present : (a b : A) → R a b → Both R (Some a) (Some b)

-- types
mutual
  pub data AlikeTypes : TypeExpr → TypeExpr → Type 0 where
    written : (p q : Place) (j k : TypeKind) → AlikeTypeKinds j k → AlikeTypes (type_at p j) (type_at q k)

  pub data AlikeTypeKinds : TypeKind → TypeKind → Type 0 where
    same : (k : TypeKind) → AlikeTypeKinds k k
    list : (a b : TypeExpr) → AlikeTypes a b → AlikeTypeKinds (ty.List a) (ty.List b)
    callback : (a b : TypeExpr) → AlikeTypes a b → AlikeTypeKinds (ty.Callback (Some a)) (ty.Callback (Some b))
    fragment : (a b : TypeExpr) → AlikeTypes a b → AlikeTypeKinds (ty.Fragment (Some a)) (ty.Fragment (Some b))

-- labels
pub data AlikeLabels : Label → Label → Type 0 where
  label : (p q : Place) (k : LabelKind) → AlikeLabels (record { place = p; kind = k }) (record { place = q; kind = k })

-- expressions and statements, lists of them, and such as may be absent
mutual
  pub data Alike : Expr → Expr → Type 0 where
    expression : (p q : Place) (j k : ExprKind) → AlikeKinds j k → Alike (node p j) (node q k)

  pub data AlikeKinds : ExprKind → ExprKind → Type 0 where
    same : (k : ExprKind) → AlikeKinds k k
    interpolated : (xs ys : List TextPart) → AlikeAllTexts xs ys → AlikeKinds (ek.Interpolated xs) (ek.Interpolated ys)
    unary : (op : UnaryOp) (a b : Expr) → Alike a b → AlikeKinds (ek.Unary op a) (ek.Unary op b)
    cast : (op : CastOp) (a b : Expr) → Alike a b → AlikeKinds (ek.Cast op a) (ek.Cast op b)
    binary : (op : BinaryOp) (a b c d : Expr) → Alike a b → Alike c d → AlikeKinds (ek.Binary op a c) (ek.Binary op b d)
    conditional : (a b c d e f : Expr) → Alike a b → Alike c d → Alike e f → AlikeKinds (ek.Conditional a c e) (ek.Conditional b d f)
    with_parts : (a b : Expr) (xs ys : List WithPart) → Alike a b → AlikeAllParts xs ys → AlikeKinds (ek.With a xs) (ek.With b ys)
    member : (x : List ℕ) (p q : Place) (a b : Expr) → Alike a b → AlikeKinds (ek.Member a (named p x)) (ek.Member b (named q x))
    null_member : (x : List ℕ) (p q : Place) (a b : Expr) → Alike a b → AlikeKinds (ek.NullMember a (named p x)) (ek.NullMember b (named q x))
    call : (a b : Expr) (xs ys : List Expr) → Alike a b → AlikeAll xs ys → AlikeKinds (ek.Call a xs) (ek.Call b ys)
    index : (a b c d : Expr) → Alike a b → Alike c d → AlikeKinds (ek.Index a c) (ek.Index b d)
    new_record : (x : List ℕ) (p q : Place) (xs ys : List Expr) → AlikeAll xs ys → AlikeKinds (ek.New (named p x) xs) (ek.New (named q x) ys)
    empty_list : (a b : TypeExpr) → AlikeTypes a b → AlikeKinds (ek.EmptyList a) (ek.EmptyList b)
    static : (owner : StaticType) (x : List ℕ) (p q : Place) → AlikeKinds (ek.Static owner (named p x)) (ek.Static owner (named q x))
    assign : (op : AssignOp) (x : List ℕ) (p q : Place) (a b : Expr) → Alike a b → AlikeKinds (ek.Assign op (named p x) a) (ek.Assign op (named q x) b)
    step : (op : StepOp) (x : List ℕ) (p q : Place) → AlikeKinds (ek.Step op (named p x)) (ek.Step op (named q x))
    lambda_of_none : (a b : Body) → AlikeBodies a b → AlikeKinds (ek.Lambda None a) (ek.Lambda None b)
    lambda_of_name : (x : List ℕ) (p q : Place) (a b : Body) → AlikeBodies a b → AlikeKinds (ek.Lambda (Some (named p x)) a) (ek.Lambda (Some (named q x)) b)

  pub data AlikeTexts : TextPart → TextPart → Type 0 where
    literal : (x : List ℕ) → AlikeTexts (tp.Literal x) (tp.Literal x)
    hole : (a b : Expr) → Alike a b → AlikeTexts (tp.Hole a) (tp.Hole b)

  pub data AlikeParts : WithPart → WithPart → Type 0 where
    part : (x : List ℕ) (p q : Place) (a b : Expr) → Alike a b → AlikeParts (record { name = named p x; value = a }) (record { name = named q x; value = b })

  pub data AlikeBodies : Body → Body → Type 0 where
    value_body : (a b : Expr) → Alike a b → AlikeBodies (body.Value a) (body.Value b)
    block_body : (xs ys : List Stmt) → AlikeAllStatements xs ys → AlikeBodies (body.Block xs) (body.Block ys)

  pub data AlikeStatements : Stmt → Stmt → Type 0 where
    statement : (p q : Place) (j k : StmtKind) → AlikeForms j k → AlikeStatements (stmt p j) (stmt q k)

  pub data AlikeForms : StmtKind → StmtKind → Type 0 where
    same_form : (k : StmtKind) → AlikeForms k k
    local : (x : List ℕ) (p q : Place) (s t : Option TypeExpr) (a b : Option Expr) →
        Both AlikeTypes s t → AlikeOption a b → AlikeForms (st.Local s (named p x) a) (st.Local t (named q x) b)
    block : (xs ys : List Stmt) → AlikeAllStatements xs ys → AlikeForms (st.Block xs) (st.Block ys)
    if_else : (a b : Expr) (s t : Stmt) (m n : Option Stmt) →
        Alike a b → AlikeStatements s t → AlikeBranch m n → AlikeForms (st.If a s m) (st.If b t n)
    while_ : (a b : Expr) (s t : Stmt) → Alike a b → AlikeStatements s t → AlikeForms (st.While a s) (st.While b t)
    for_ : (m n : Option Stmt) (a b c d : Option Expr) (s t : Stmt) →
        AlikeBranch m n → AlikeOption a b → AlikeOption c d → AlikeStatements s t → AlikeForms (st.For m a c s) (st.For n b d t)
    foreach_ : (x : List ℕ) (p q : Place) (a b : Expr) (s t : Stmt) →
        Alike a b → AlikeStatements s t → AlikeForms (st.ForEach (named p x) a s) (st.ForEach (named q x) b t)
    switch_ : (a b : Expr) (xs ys : List Section) → Alike a b → AlikeAllSections xs ys → AlikeForms (st.Switch a xs) (st.Switch b ys)
    return_ : (a b : Option Expr) → AlikeOption a b → AlikeForms (st.Return a) (st.Return b)
    act : (a b : Expr) → Alike a b → AlikeForms (st.Expr a) (st.Expr b)
    await_ : (a b : Expr) → Alike a b → AlikeForms (st.Await a) (st.Await b)

  pub data AlikeSections : Section → Section → Type 0 where
    alike_sections : (ls ms : List Label) (xs ys : List Stmt) →
        Each AlikeLabels ls ms → AlikeAllStatements xs ys → AlikeSections (section ls xs) (section ms ys)

  pub data AlikeAll : List Expr → List Expr → Type 0 where
    no_value : AlikeAll [] []
    one_value : (a b : Expr) (xs ys : List Expr) → Alike a b → AlikeAll xs ys → AlikeAll (a ∷ xs) (b ∷ ys)

  pub data AlikeAllTexts : List TextPart → List TextPart → Type 0 where
    no_text : AlikeAllTexts [] []
    one_text : (a b : TextPart) (xs ys : List TextPart) → AlikeTexts a b → AlikeAllTexts xs ys → AlikeAllTexts (a ∷ xs) (b ∷ ys)

  pub data AlikeAllParts : List WithPart → List WithPart → Type 0 where
    no_part : AlikeAllParts [] []
    one_part : (a b : WithPart) (xs ys : List WithPart) → AlikeParts a b → AlikeAllParts xs ys → AlikeAllParts (a ∷ xs) (b ∷ ys)

  pub data AlikeAllStatements : List Stmt → List Stmt → Type 0 where
    no_statement : AlikeAllStatements [] []
    one_statement : (a b : Stmt) (xs ys : List Stmt) → AlikeStatements a b → AlikeAllStatements xs ys → AlikeAllStatements (a ∷ xs) (b ∷ ys)

  pub data AlikeAllSections : List Section → List Section → Type 0 where
    no_section : AlikeAllSections [] []
    one_section : (a b : Section) (xs ys : List Section) → AlikeSections a b → AlikeAllSections xs ys → AlikeAllSections (a ∷ xs) (b ∷ ys)

  pub data AlikeOption : Option Expr → Option Expr → Type 0 where
    neither : AlikeOption None None
    both : (a b : Expr) → Alike a b → AlikeOption (Some a) (Some b)

  pub data AlikeBranch : Option Stmt → Option Stmt → Type 0 where
    no_branch : AlikeBranch None None
    branch : (a b : Stmt) → AlikeStatements a b → AlikeBranch (Some a) (Some b)

-- members
pub data AlikeArguments : Argument → Argument → Type 0 where
  argument : (x : List ℕ) (p q : Place) (a b : TypeExpr) → AlikeTypes a b →
      AlikeArguments (record { cs_type = a; name = named p x }) (record { cs_type = b; name = named q x })

pub data AlikeMemberKinds : MemberKind → MemberKind → Type 0 where
  field : (x : List ℕ) (p q : Place) (s t : TypeExpr) (a b : Option Expr) →
      AlikeTypes s t → AlikeOption a b → AlikeMemberKinds (mk.Field s (named p x) a) (mk.Field t (named q x) b)
  parameter : (cascading : Bool) (source : Option (List ℕ)) (x : List ℕ) (p q : Place) (s t : TypeExpr) (a b : Option Expr) →
      AlikeTypes s t → AlikeOption a b →
      AlikeMemberKinds (mk.Parameter cascading source s (named p x) a) (mk.Parameter cascading source t (named q x) b)
  method : (x : List ℕ) (p q : Place) (s t : Option TypeExpr) (xs ys : List Argument) (a b : Body) →
      Both AlikeTypes s t → Each AlikeArguments xs ys → AlikeBodies a b →
      AlikeMemberKinds (mk.Method s (named p x) xs a) (mk.Method t (named q x) ys b)
  getter : (x : List ℕ) (p q : Place) (s t : TypeExpr) (a b : Expr) →
      AlikeTypes s t → Alike a b → AlikeMemberKinds (mk.Getter s (named p x) a) (mk.Getter t (named q x) b)
  record_of : (x : List ℕ) (p q : Place) (xs ys : List Argument) →
      Each AlikeArguments xs ys → AlikeMemberKinds (mk.RecordDef (named p x) xs) (mk.RecordDef (named q x) ys)

pub data AlikeMembers : Member → Member → Type 0 where
  alike_members : (p q : Place) (j k : MemberKind) → AlikeMemberKinds j k → AlikeMembers (record { place = p; kind = j }) (record { place = q; kind = k })
