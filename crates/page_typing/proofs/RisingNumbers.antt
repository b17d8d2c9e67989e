-- The numbers of bodies that templates place rise with the numbers of their nodes.
use Rattle.std.proofs.Common.{◌≡◌, ℕ, ◌+◌, ◌≤◌, List, [], ◌∷◌, ◌++◌, map, refl, sym, ap, subst, arith}
use Rattle.std.specs.Prelude.{Bool, true, false, length, is_some, if◌then◌else◌, option_map, Option, Some, None, bytes_eq}
use Rattle.cs_ast.specs.declared.code.Code.TheVariants as c
use Rattle.cs_ast.specs.declared.cs_type.CsType.{CsType}
use Rattle.cs_ast.specs.declared.cs_type.CsType.TheVariants as t
use Rattle.cs_ast.specs.declared.cs_type.TypeExpr.{TypeExpr}
use Rattle.cs_ast.specs.declared.expression.Body.{Body}
use Rattle.cs_ast.specs.declared.expression.Body.TheVariants as body_form
use Rattle.cs_ast.specs.declared.member.Argument.{Argument}
use Rattle.cs_ast.specs.declared.expression.Expr.{Expr}
use Rattle.cs_ast.specs.declared.expression.ExprKind.{ExprKind-F, out-ExprKind}
use Rattle.cs_ast.specs.declared.expression.Stmt.{Stmt}
use Rattle.cs_ast.specs.declared.expression.StmtKind.{StmtKind-F, out-StmtKind}
use Rattle.cs_ast.specs.declared.expression.StmtKind.TheVariants as sk
use Rattle.cs_ast.specs.declared.identifier.Ident.{Ident}
use Rattle.cs_ast.specs.declared.member.Member.{Member}
use Rattle.cs_ast.specs.declared.member.MemberKind.{MemberKind}
use Rattle.cs_ast.specs.declared.member.MemberKind.TheVariants.{Field, Parameter, Method, Getter, RecordDef}
use Rattle.cs_ast.specs.declared.scope.Named.{Named}
use Rattle.cs_ast.specs.declared.scope.Scope.{Scope}
use Rattle.cs_grammar.specs.Statements.{stmt}
use Rattle.cs_rules.specs.Judged.{Judged, fine, breaks}
use Rattle.cs_rules.specs.Expressions.{items_of}
use Rattle.cs_rules.specs.Names.{meant, with_local}
use Rattle.cs_rules.specs.Statements as st
use Rattle.cs_rules.specs.Trees.{statement, value_in}
use Rattle.drawing_meaning.specs.Nodes as draw
use Rattle.drawing_meaning.specs.Attributes as act
use Rattle.drawing_meaning.specs.Attributes.{Dresses, wears}
use Rattle.drawing_meaning.specs.Texts.{literal}
use Rattle.razor_ast.specs.Statements.{break_at, continue_at}
use Rattle.razor_ast.specs.declared.attribute.Attribute.{Attribute}
use Rattle.razor_ast.specs.declared.attribute.AttributeKind.{AttributeKind}
use Rattle.razor_ast.specs.declared.attribute.ValuePart.{ValuePart}
use Rattle.razor_ast.specs.declared.attribute.ValuePart.TheVariants as part
use Rattle.razor_ast.specs.declared.node.TNode.{TNode, TNode-F}
use Rattle.razor_ast.specs.declared.node.TNode.TheVariants as nd
use Rattle.razor_ast.specs.declared.node.TSection.{TSection}
use Rattle.razor_rules.specs.Elements.{event_type, bound_attribute, bound_event}
use Rattle.razor_rules.specs.Scopes.{Home}
use Rattle.razor_rules.specs.Templates.{Level as StatementLevel}
use Rattle.razor_rules.specs.Values.{Level, taken_by}
use Rattle.page_meaning.specs.Attributes.{bind_kind, said_by, mixed, event, bound, key, attribute, dressed}
use Rattle.page_meaning.specs.Bodies.{method_body, member_body, member_bodies, method_or, named_body, lambda_body}
use Rattle.page_meaning.specs.Callbacks.{own_callback, meant_callback, callback_level, callback}
use Rattle.page_meaning.specs.Nodes as page_node
use Rattle.page_meaning.specs.Nodes.{or_nothing, section_acts, section_of}
use Rattle.page_meaning.specs.Parts as page
use Rattle.page_meaning.specs.Placed.{Placed, body, signature}
use Rattle.page_meaning.specs.Resolved.{Placing, Resolves, placing, behind_placed, alone, judged, put, each, each_of, if_there, value_code, place_at, ◌>>=◌}
use Rattle.page_typing.specs.Formed.{KindFormed, AttributesFormed, Formed, AllFormed, ContentFormed, SectionsFormed}
use Rattle.page_typing.specs.Formed as formed
use Rattle.page_typing.specs.Numbering.{Between, Rises}
use Rattle.page_typing.proofs.TemplateParts.{section_part, part_at, section_at}

pub between_wider : (low middle high : ℕ) (xs : List (ℕ × Placed)) → low ≤ middle → Between middle high xs → Between low high xs
between_wider low middle high [] h g = omega (arith, h, g)
between_wider low middle high (x ∷ xs) h g = (omega (arith, h, g.0), g.1)

between_higher : (low middle high : ℕ) (xs : List (ℕ × Placed)) → Between low middle xs → middle ≤ high → Between low high xs
between_higher low middle high [] h g = omega (arith, h, g)
between_higher low middle high (x ∷ xs) h g = (h.0, between_higher (x.0 + 1) middle high xs h.1 g)

pub between_both : (low middle high : ℕ) (xs ys : List (ℕ × Placed)) → Between low middle xs → Between middle high ys → Between low high (xs ++ ys)
between_both low middle high [] ys h g = between_wider low middle high ys h g
between_both low middle high (x ∷ xs) ys h g = (h.0, between_both (x.0 + 1) middle high xs ys h.1 g)

-- what two parts one after the other place
pub record Both {A B : Type 0} (j : Resolves A) (n : A → Resolves B) (it : Placing B) : Type 0 where
  first : Placing A
  second : Placing B
  one : j ≡ fine first
  two : n first.made ≡ fine second
  is : first.placed ++ second.placed ≡ it.placed

behind_parts : {B : Type 0} (placed : List (ℕ × Placed)) (k : Resolves B) (it : Placing B) → behind_placed placed k ≡ fine it → (second : Placing B) × (k ≡ fine second) × (placed ++ second.placed ≡ it.placed)
behind_parts {B} placed (fine second) it e = (second, refl, placed_eq (placing second.made (placed ++ second.placed)) it e)
  where
    placed_eq : (x y : Placing B) → fine x ≡ fine y → x.placed ≡ y.placed
    placed_eq x y e1 = let same : x ≡ y = cc in ap (λ (z : Placing B). z.placed) same
behind_parts {B} placed (breaks rule place) it e = absurd (cc)

then_parts : {A B : Type 0} (j : Resolves A) (n : A → Resolves B) (it : Placing B) → (j >>= n) ≡ fine it → Both j n it
then_parts (fine first) n it e = let k = behind_parts first.placed (n first.made) it e in record { first = first; second = k.0; one = refl; two = k.1; is = k.2 }
then_parts (breaks rule place) n it e = absurd (cc)

pub rises_then : {A B : Type 0} (low middle high : ℕ) (j : Resolves A) (n : A → Resolves B) → Rises low middle j → ((x : A) → Rises middle high (n x)) → Rises low high (j >>= n)
rises_then low middle high j n h g =
    record { between = λ it e. let p = then_parts j n it e in subst (λ z. Between low high z) p.is (between_both low middle high p.first.placed p.second.placed (h.between p.first p.one) ((g p.first.made).between p.second p.two)) }

pub rises_alone : {A : Type 0} (low high : ℕ) (x : A) → low ≤ high → Rises low high (alone x)
rises_alone {A} low high x h = record { between = λ it e. let same : placing x [] ≡ it = fine_eq (placing x []) it e in subst (λ (z : Placing A). Between low high z.placed) same h }
  where
    fine_eq : (y z : Placing A) → fine y ≡ fine z → y ≡ z
    fine_eq y z e1 = cc

pub rises_judged : {A : Type 0} (low high : ℕ) (j : Judged A) → low ≤ high → Rises low high (judged j)
rises_judged low high (fine x) h = rises_alone low high x h
rises_judged low high (breaks rule place) h = record { between = λ it e. absurd (cc) }

pub rises_wider : {A : Type 0} (low low' high high' : ℕ) (j : Resolves A) → low ≤ low' → high' ≤ high → Rises low' high' j → Rises low high j
rises_wider low low' high high' j h g m = record { between = λ it e. between_wider low low' high it.placed h (between_higher low' high' high it.placed (m.between it e) g) }

-- what places nothing more
rises_last : {A B : Type 0} (low high : ℕ) (j : Resolves A) (f : A → B) → Rises low high j → Rises low high (j >>= λ x. alone (f x))
rises_last low high j f h = rises_then low high high j (λ x. alone (f x)) h (λ x. rises_alone high high (f x) (omega arith))

rises_value : (low high : ℕ) (s : Scope) (a : Expr) → low ≤ high → Rises low high (value_code s a)
rises_value low high s a h = rises_last low high (judged (value_in s a)) (λ x. x.code) (rises_judged low high (value_in s a) h)

module _ (home : Home) where
  -- the number of a body that stands at a number of the content
  abbrev at : ℕ → ℕ
  at number = place_at home number

  rises_put : (n : ℕ) (it : Placed) → Rises n (n + 1) (put n it)
  rises_put n it = record { between = λ x e. let same : placing (tt {0}) ((n, it) ∷ []) ≡ x = fine_eq (placing (tt {0}) ((n, it) ∷ [])) x e in subst (λ (z : Placing (Unit {0})). Between n (n + 1) z.placed) same (omega arith, omega arith) }
    where
      fine_eq : (y z : Placing (Unit {0})) → fine y ≡ fine z → y ≡ z
      fine_eq y z e1 = cc

  rises_method : (n : ℕ) (result : Option TypeExpr) (arguments : List Argument) (of : Body) → Rises n (n + 1) (method_body home n result arguments of)
  unfolding method_body
  rises_method n result arguments of = rises_then n n (n + 1) (judged _) _ (rises_judged n n _ (omega arith)) (λ code. rises_put n _)

  rises_member : (n : ℕ) (kind : MemberKind) → Rises n (n + 1) (member_body home n kind)
  unfolding member_body
  rises_member n (Method result name arguments of) = rises_method n result arguments of
  rises_member n (Getter result name value) = rises_method n (Some result) [] (body_form.Value value)
  rises_member n (Field type name initial) = rises_alone n (n + 1) (tt {0}) (omega arith)
  rises_member n (Parameter cascading source type name initial) = rises_alone n (n + 1) (tt {0}) (omega arith)
  rises_member n (RecordDef name parts) = rises_alone n (n + 1) (tt {0}) (omega arith)

  pub rises_members : (n : ℕ) (members : List Member) → Rises n (n + length members) (member_bodies home n members)
  rises_members n [] = rises_alone n (n + length {A = Member} []) (tt {0}) (omega arith)
  rises_members n (one ∷ others) = rises_then n (n + 1) (n + length (one ∷ others)) (member_body home n one.kind) _ (rises_member n one.kind) (λ u. rises_wider (n + 1) (n + 1) (n + length (one ∷ others)) (n + 1 + length others) (member_bodies home (n + 1) others) (omega arith) (omega arith) (rises_members (n + 1) others))

  rises_or : (n : ℕ) (name : List ℕ) (kind : MemberKind) (further : Resolves (Unit {0})) → Rises n (n + 1) further → Rises n (n + 1) (method_or home n name kind further)
  rises_or n name (Method result other arguments of) further h = by (bytes_eq other.name name)
    where
      by : (b : Bool) → Rises n (n + 1) (if b then method_body home n result arguments of else further)
      by true = rises_method n result arguments of
      by false = h
  rises_or n name (Getter result other value) further h = h
  rises_or n name (Field type other initial) further h = h
  rises_or n name (Parameter cascading source type other initial) further h = h
  rises_or n name (RecordDef other parts) further h = h

  rises_named : (n : ℕ) (name : List ℕ) (members : List Member) → Rises n (n + 1) (named_body home n name members)
  rises_named n name [] = rises_alone n (n + 1) (tt {0}) (omega arith)
  rises_named n name (one ∷ others) = rises_or n name one.kind (named_body home n name others) (rises_named n name others)

  rises_meant : (low : ℕ) (o : Option Named) (s : Scope) (number : ℕ) (a : Expr) → Rises low low (meant_callback o home s number a)
  rises_meant low None s number a = rises_value low low s a (omega arith)
  rises_meant low (Some one) s number a = by (is_some (taken_by one.kind))
    where
      by : (b : Bool) → Rises low low (if b then alone (own_callback home number []) else value_code s a)
      by true = rises_alone low low (own_callback home number []) (omega arith)
      by false = rises_value low low s a (omega arith)

  rises_level : (l : Level) (s : Scope) (number : ℕ) (a : Expr) (argument : Option CsType) → Rises (at number) (at number + 1) (callback_level l home s number a argument)
  unfolding lambda_body
  rises_level (ExprKind-F.Lambda name of) s number a argument =
      rises_last (at number) (at number + 1) (lambda_body home s (at number) a name of argument) _ (rises_then (at number) (at number) (at number + 1) (judged _) _ (rises_judged (at number) (at number) _ (omega arith)) (λ code. rises_put (at number) _))
  rises_level (ExprKind-F.Name name) s number a argument =
      rises_then (at number) (at number + 1) (at number + 1) (named_body home (at number) name home.members) _ (rises_named (at number) name home.members) (λ u. rises_meant (at number + 1) (meant s.names name) s number a)
  rises_level _ s number a argument = rises_value (at number) (at number + 1) s a (omega arith)

  rises_callback : (s : Scope) (number : ℕ) (a : Expr) (argument : Option CsType) → Rises (at number) (at number + 1) (callback home s number a argument)
  unfolding callback
  rises_callback s number a argument = rises_level (out-ExprKind a.kind) s number a argument

  module _ (s : Scope) (element : List ℕ) (attributes : List Attribute) where
    rises_said : (low : ℕ) (one : ValuePart) → Rises low low (said_by home s element attributes one)
    rises_said low (part.Literal said) = rises_alone low low (literal said) (omega arith)
    rises_said low (part.Shown a) = rises_last low low (value_code s a) _ (rises_value low low s a (omega arith))

    rises_parts : (low : ℕ) (parts : List ValuePart) → Rises low low (each (said_by home s element attributes) parts)
    rises_parts low [] = rises_alone low low [] (omega arith)
    rises_parts low (one ∷ others) = rises_then low low low (said_by home s element attributes one) _ (rises_said low one) (λ y. rises_last low low (each (said_by home s element attributes) others) _ (rises_parts low others))

    rises_mixed : (low high number : ℕ) (name : List ℕ) (parts : List ValuePart) → low ≤ high → Rises low high (mixed home s element attributes number name parts)
    unfolding mixed
    rises_mixed low high number name [] h = rises_alone low high _ h
    rises_mixed low high number name (part.Shown a ∷ []) h = rises_last low high (value_code s a) _ (rises_value low high s a h)
    rises_mixed low high number name (part.Shown a ∷ other ∷ others) h = rises_wider low low high low _ (omega arith) h (rises_last low low (each (said_by home s element attributes) (part.Shown a ∷ other ∷ others)) _ (rises_parts low (part.Shown a ∷ other ∷ others)))
    rises_mixed low high number name (part.Literal said ∷ others) h = rises_wider low low high low _ (omega arith) h (rises_last low low (each (said_by home s element attributes) (part.Literal said ∷ others)) _ (rises_parts low (part.Literal said ∷ others)))

    rises_bound : (number : ℕ) (name : Ident) → Rises (at number) (at (number + 2)) (bound home s element attributes number name)
    unfolding bound
    rises_bound number name =
        rises_then (at number) (at (number + 1)) (at (number + 2)) (judged _) _ (rises_judged (at number) (at (number + 1)) _ (omega arith))
        (λ field. rises_wider (at (number + 1)) (at (number + 1)) (at (number + 2)) (at (number + 1) + 1) _ (omega arith) (omega arith) (rises_last (at (number + 1)) (at (number + 1) + 1) (put (at (number + 1)) (body (signature home (t.Change ∷ []) t.Nothing) (c.Bind field.0 (bind_kind field.1)))) (λ placed. wears (act.whole number (bound_attribute element attributes (Some field.1)) (c.Field field.0)) ∷ wears (act.own_handler (number + 1) (bound_event attributes) (place_at home (number + 1))) ∷ []) (rises_put (at (number + 1)) (body (signature home (t.Change ∷ []) t.Nothing) (c.Bind field.0 (bind_kind field.1))))))

    rises_kind : (n m : ℕ) (kind : AttributeKind) (name : List ℕ) → KindFormed n m name kind → Rises (at n) (at m) (attribute home s element attributes kind name)
    unfolding event key
    rises_kind n m kind name (formed.mixed _ _ parts) = rises_mixed (at n) (at (n + 1)) n name parts (omega arith)
    rises_kind n m kind name (formed.key _ _ a) = rises_last (at n) (at n) (value_code s a) _ (rises_value (at n) (at n) s a (omega arith))
    rises_kind n m kind name (formed.event _ _ a h) = rises_wider (at n) (at n) (at (n + 1)) (at n + 1) _ (omega arith) (omega arith) (rises_last (at n) (at n + 1) (callback home s n a (Some (event_type name))) _ (rises_callback s n a (Some (event_type name))))
    rises_kind n m kind name (formed.bound _ _ field) = rises_bound n field
    rises_kind n m kind name (formed.bind_event _ _) = rises_alone (at n) (at n) [] (omega arith)

    rises_all : (n m : ℕ) (all : List Attribute) → AttributesFormed n m all → Rises (at n) (at m) (each_of (λ (one : Attribute). attribute home s element attributes one.kind one.name) all)
    rises_all n m all (formed.no_attribute _) = rises_alone (at n) (at n) [] (omega arith)
    rises_all n m all (formed.an_attribute _ i _ one others h hs) =
        rises_then (at n) (at i) (at m) (attribute home s element attributes one.kind one.name) _ (rises_kind n i one.kind one.name h) (λ ys. rises_last (at i) (at m) (each_of (λ (z : Attribute). attribute home s element attributes z.kind z.name) others) _ (rises_all i m others hs))

  -- by the parts of a node
  of_part : (n m : ℕ) (node : TNode) (s : Scope) (p : page.Part) → page.part_of node ≡ p → Rises (at n) (at m) (p.makes home s) → Rises (at n) (at m) ((page.part_of node).makes home s)
  of_part n m node s p is h = subst (λ (z : page.Part). Rises (at n) (at m) (z.makes home s)) (sym is) h

  rises_option : (low : ℕ) (s : Scope) (a : Option Expr) → Rises low low (if_there (value_code s) a)
  rises_option low s None = rises_alone low low None (omega arith)
  rises_option low s (Some a) = rises_last low low (value_code s a) _ (rises_value low low s a (omega arith))

  rises_statement : (n : ℕ) (l : StatementLevel) (one : Stmt) (s : Scope) → Rises (at n) (at n) (page_node.statement_level l one s)
  rises_statement n StmtKind-F.Break one s = rises_alone (at n) (at n) _ (omega arith)
  rises_statement n _ one s = rises_last (at n) (at n) (judged (statement one s)) _ (rises_judged (at n) (at n) (statement one s) (omega arith))

  -- nodes
  mutual
    unfolding page_node.element page_node.text page_node.raw page_node.content page_node.block page_node.branch page_node.switch page_node.while_loop page_node.for_loop page_node.for_each page_node.plain_statement

    rises_node : (j : Bool) (n m : ℕ) (node : TNode) (s : Scope) → Formed j n m node → Rises (at n) (at m) ((page.part_of node).makes home s)
    rises_node j n m node s (formed.element _ _ i _ place name attributes children ha hc) =
        of_part n m node s _ (part_at (nd.Element n place name attributes children) (TNode-F.Element n place name attributes children) (nd.rolls-Element n place name attributes children))
        (rises_wider (at n) (at (n + 1)) (at m) (at m) _ (omega arith) (omega arith)
        (rises_then (at (n + 1)) (at i) (at m) (dressed home s name.name attributes) _ (rises_all s name.name attributes (n + 1) i attributes ha) (λ worn. rises_last (at i) (at m) (page.in_order (map page.part_of children) home s) _ (rises_content i m children s hc))))
    rises_node j n m node s (formed.text _ _ place said) = of_part n m node s _ (part_at (nd.Text n place said) (TNode-F.Text n place said) (nd.rolls-Text n place said)) (rises_alone (at n) (at (n + 1)) _ (omega arith))
    rises_node j n m node s (formed.raw _ _ place said) = of_part n m node s _ (part_at (nd.Raw n place said) (TNode-F.Raw n place said) (nd.rolls-Raw n place said)) (rises_alone (at n) (at (n + 1)) _ (omega arith))
    rises_node j n m node s (formed.shown _ _ place a) = of_part n m node s _ (part_at (nd.Content n place a) (TNode-F.Content n place a) (nd.rolls-Content n place a)) (rises_last (at n) (at (n + 1)) (judged (value_in s a)) _ (rises_judged (at n) (at (n + 1)) (value_in s a) (omega arith)))
    rises_node j n m node s (formed.group _ _ _ place items hc) = of_part n m node s _ (part_at (nd.Group place items) (TNode-F.Group place items) (nd.rolls-Group place items)) (rises_content n m items s hc)
    rises_node j n m node s (formed.simple _ _ one h) = of_part n m node s _ (part_at (nd.Statement one) (TNode-F.Statement one) (nd.rolls-Statement one)) (rises_statement n (out-StmtKind one.kind) one s)
    rises_node j n m node s (formed.break_out _ _ place h) = of_part n m node s _ (part_at (break_at place) (TNode-F.Statement (stmt place sk.Break)) (nd.rolls-Statement (stmt place sk.Break))) (rises_statement n (out-StmtKind sk.Break) (stmt place sk.Break) s)
    rises_node j n m node s (formed.go_on _ _ place) = of_part n m node s _ (part_at (continue_at place) (TNode-F.Statement (stmt place sk.Continue)) (nd.rolls-Statement (stmt place sk.Continue))) (rises_statement n (out-StmtKind sk.Continue) (stmt place sk.Continue) s)
    rises_node j n m node s (formed.block _ _ _ place items h) = of_part n m node s _ (part_at (nd.Block place items) (TNode-F.Block place items) (nd.rolls-Block place items)) (rises_last (at n) (at m) (page.in_order (map page.part_of items) home s) _ (rises_nodes j n m items s h))
    rises_node j n m node s (formed.if_only _ _ _ place a holds h) =
        of_part n m node s _ (part_at (nd.If place a holds None) (TNode-F.If place a holds None) (nd.rolls-If place a holds None))
        (rises_then (at n) (at n) (at m) (value_code s a) _ (rises_value (at n) (at n) s a (omega arith)) (λ code. rises_then (at n) (at m) (at m) ((page.part_of holds).makes home s) _ (rises_node j n m holds s h) (λ one. rises_last (at m) (at m) (or_nothing None home s) (λ other. draw.branch code one other ∷ []) (rises_alone (at m) (at m) [] (omega arith)))))
    rises_node j n m node s (formed.if_else _ _ i _ place a holds fails h1 h2) =
        of_part n m node s _ (part_at (nd.If place a holds (Some fails)) (TNode-F.If place a holds (Some fails)) (nd.rolls-If place a holds (Some fails)))
        (rises_then (at n) (at n) (at m) (value_code s a) _ (rises_value (at n) (at n) s a (omega arith)) (λ code. rises_then (at n) (at i) (at m) ((page.part_of holds).makes home s) _ (rises_node j n i holds s h1) (λ one. rises_last (at i) (at m) ((page.part_of fails).makes home s) _ (rises_node j i m fails s h2))))
    rises_node j n m node s (formed.switch _ _ _ place a sections h) =
        of_part n m node s _ (part_at (nd.Switch place a sections) (TNode-F.Switch place a sections) (nd.rolls-Switch place a sections))
        (rises_then (at n) (at n) (at m) (value_code s a) _ (rises_value (at n) (at n) s a (omega arith)) (λ code. rises_last (at n) (at m) (each (section_acts home s) (map (λ (one : page.Part_of_switch). one.section) (map section_part sections))) _ (rises_sections n m sections s h)))
    rises_node j n m node s (formed.while_loop _ _ _ place a turn h) =
        of_part n m node s _ (part_at (nd.While n place a turn) (TNode-F.While n place a turn) (nd.rolls-While n place a turn))
        (rises_then (at n) (at (n + 1)) (at m) (value_code s a) _ (rises_value (at n) (at (n + 1)) s a (omega arith)) (λ code. rises_last (at (n + 1)) (at m) ((page.part_of turn).makes home s) _ (rises_node true (n + 1) m turn s h)))
    rises_node j n m node s (formed.for_loop _ _ _ place start test step turn kinds h) =
        of_part n m node s _ (part_at (nd.For n place start test step turn) (TNode-F.For n place start test step turn) (nd.rolls-For n place start test step turn))
        (rises_then (at n) (at n) (at m) (judged (st.started (option_map statement start) s)) _ (rises_judged (at n) (at n) (st.started (option_map statement start) s) (omega arith))
        (λ first. rises_then (at n) (at n) (at m) (if_there (value_code first.1) test) _ (rises_option (at n) first.1 test)
        (λ code. rises_then (at n) (at (n + 1)) (at m) (if_there (value_code first.1) step) _ (rises_wider (at n) (at n) (at (n + 1)) (at n) _ (omega arith) (omega arith) (rises_option (at n) first.1 step))
        (λ next. rises_last (at (n + 1)) (at m) ((page.part_of turn).makes home first.1) _ (rises_node true (n + 1) m turn first.1 h)))))
    rises_node j n m node s (formed.for_each _ _ _ place name list turn h) =
        of_part n m node s _ (part_at (nd.ForEach n place name list turn) (TNode-F.ForEach n place name list turn) (nd.rolls-ForEach n place name list turn))
        (rises_then (at n) (at n) (at m) (judged (value_in s list)) _ (rises_judged (at n) (at n) (value_in s list) (omega arith))
        (λ x. rises_then (at n) (at (n + 1)) (at m) (judged (items_of x.place x.expr_type)) _ (rises_judged (at n) (at (n + 1)) (items_of x.place x.expr_type) (omega arith))
        (λ item. rises_last (at (n + 1)) (at m) ((page.part_of turn).makes home (with_local s name.name item)) _ (rises_node true (n + 1) m turn (with_local s name.name item) h))))

    rises_nodes : (j : Bool) (n m : ℕ) (nodes : List TNode) (s : Scope) → AllFormed j n m nodes → Rises (at n) (at m) (page.in_order (map page.part_of nodes) home s)
    rises_nodes j n m nodes s (formed.none _ _) = rises_alone (at n) (at n) [] (omega arith)
    rises_nodes j n m nodes s (formed.more _ _ i _ one others h hs) =
        rises_then (at n) (at i) (at m) ((page.part_of one).makes home s) _ (rises_node j n i one s h)
        (λ all. rises_then (at i) (at i) (at m) (judged ((page.part_of one).behind s)) _ (rises_judged (at i) (at i) ((page.part_of one).behind s) (omega arith)) (λ inner. rises_last (at i) (at m) (page.in_order (map page.part_of others) home inner) _ (rises_nodes j i m others inner hs)))

    pub rises_content : (n m : ℕ) (nodes : List TNode) (s : Scope) → ContentFormed n m nodes → Rises (at n) (at m) (page.in_order (map page.part_of nodes) home s)
    rises_content n m nodes s (formed.no_content _) = rises_alone (at n) (at n) [] (omega arith)
    rises_content n m nodes s (formed.some_content _ i _ one others none h hs) =
        rises_then (at n) (at i) (at m) ((page.part_of one).makes home s) _ (rises_node false n i one s h)
        (λ all. rises_then (at i) (at i) (at m) (judged ((page.part_of one).behind s)) _ (rises_judged (at i) (at i) ((page.part_of one).behind s) (omega arith)) (λ inner. rises_last (at i) (at m) (page.in_order (map page.part_of others) home inner) _ (rises_content i m others inner hs)))

    rises_sections : (n m : ℕ) (sections : List TSection) (s : Scope) → SectionsFormed n m sections → Rises (at n) (at m) (each (section_acts home s) (map (λ (one : page.Part_of_switch). one.section) (map section_part sections)))
    rises_sections n m sections s (formed.no_section _) = rises_alone (at n) (at n) [] (omega arith)
    rises_sections n m sections s (formed.a_section _ i _ labels items others h hs) =
        subst (λ (z : page.Part_of_switch). Rises (at n) (at m) (each (section_acts home s) (z.section ∷ map (λ (one : page.Part_of_switch). one.section) (map section_part others)))) (sym (section_at labels items))
        (rises_then (at n) (at i) (at m) (section_acts home s (section_of labels (page.in_order (map page.part_of items)))) _ (rises_last (at n) (at i) (page.in_order (map page.part_of items) home s) _ (rises_nodes true n i items s h))
        (λ y. rises_last (at i) (at m) (each (section_acts home s) (map (λ (one : page.Part_of_switch). one.section) (map section_part others))) _ (rises_sections i m others s hs)))
