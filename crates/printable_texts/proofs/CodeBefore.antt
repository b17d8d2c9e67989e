-- What tokens spell, they spell before other tokens too: statements and what is in them.
use Rattle.std.specs.Prelude.{ℕ, Bool, List, ◌++◌, Option}
use Rattle.text_core.specs.declared.place.Place.{Place}
use Rattle.cs_ast.specs.declared.cs_type.TypeExpr.{TypeExpr}
use Rattle.cs_ast.specs.declared.expression.Expr.{Expr}
use Rattle.cs_ast.specs.declared.expression.Label.{Label}
use Rattle.cs_ast.specs.declared.expression.Section.{Section}
use Rattle.cs_ast.specs.declared.expression.Stmt.{Stmt}
use Rattle.cs_ast.specs.declared.expression.StmtKind.{StmtKind}
use Rattle.cs_ast.specs.declared.expression.TextPart.{TextPart}
use Rattle.cs_ast.specs.declared.expression.WithPart.{WithPart}
use Rattle.cs_token.specs.declared.token.Token.{Token}
use Rattle.cs_grammar.specs.Types.{WritesType, WritesCore}
use Rattle.cs_grammar.specs.Types as ty
use Rattle.cs_grammar.specs.Expressions.{Spells, Arguments, Values, WithParts, TextParts}
use Rattle.cs_grammar.specs.Expressions as g
use Rattle.cs_grammar.specs.Statements.{Jumps, Changes, Acts, Declares, Initial, Simple, Start, Condition, Step, Constant, Labelled, Labels, Statement, Statements, Sections}
use Rattle.cs_grammar.specs.Statements as cs

module _ (more : List Token) where
  mutual
    pub type_before : {x0 : List Token} {x1 : List Token} {x2 : TypeExpr} → WritesType x0 x1 x2 → WritesType (x0 ++ more) (x1 ++ more) x2
    type_before (ty.bare nullable ts rest a h1) = ty.bare nullable (ts ++ more) (rest ++ more) a (core_before h1)
    type_before (ty.marked q ts rest a h1 h2) = ty.marked q (ts ++ more) (rest ++ more) a (core_before h1) h2

    pub core_before : {x0 : Bool} {x1 : List Token} {x2 : List Token} {x3 : TypeExpr} → WritesCore x0 x1 x2 x3 → WritesCore x0 (x1 ++ more) (x2 ++ more) x3
    core_before (ty.plain nullable word kind t rest h1 h2) = ty.plain nullable word kind t (rest ++ more) h1 h2
    core_before (ty.name x t rest h1) = ty.name x t (rest ++ more) h1
    core_before (ty.list t o c ts rest a h1 h2 h3 h4) = ty.list t o c (ts ++ more) (rest ++ more) a h1 h2 (type_before h3) h4
    core_before (ty.callback t rest h1) = ty.callback t (rest ++ more) h1
    core_before (ty.callback_of t o c ts rest a h1 h2 h3 h4) = ty.callback_of t o c (ts ++ more) (rest ++ more) a h1 h2 (type_before h3) h4
    core_before (ty.fragment t rest h1) = ty.fragment t (rest ++ more) h1
    core_before (ty.fragment_of t o c ts rest a h1 h2 h3 h4) = ty.fragment_of t o c (ts ++ more) (rest ++ more) a h1 h2 (type_before h3) h4

  mutual
    pub expression_before : {x0 : ℕ} {x1 : Place} {x2 : List Token} {x3 : List Token} {x4 : Expr} → Spells x0 x1 x2 x3 x4 → Spells x0 x1 (x2 ++ more) (x3 ++ more) x4
    expression_before (g.conditional l p q r t c ts us vs rest a b d h1 h2 h3 h4 h5 h6) = g.conditional l p q r t c (ts ++ more) (us ++ more) (vs ++ more) (rest ++ more) a b d h1 (expression_before h2) h3 (expression_before h4) h5 (expression_before h6)
    expression_before (g.binary l sign op p q t ts us rest a b h1 h2 h3 h4 h5) = g.binary l sign op p q t (ts ++ more) (us ++ more) (rest ++ more) a b h1 (expression_before h2) h3 h4 (expression_before h5)
    expression_before (g.with_parts l p t o c ts us rest a parts h1 h2 h3 h4 h5 h6) = g.with_parts l p t o c (ts ++ more) (us ++ more) (rest ++ more) a parts h1 (expression_before h2) h3 h4 (with_before h5) h6
    expression_before (g.unary l sign op q t ts rest a h1 h2 h3 h4) = g.unary l sign op q t (ts ++ more) (rest ++ more) a h1 h2 h3 (expression_before h4)
    expression_before (g.cast l q o t c ts rest a h1 h2 h3 h4 h5) = g.cast l q o t c (ts ++ more) (rest ++ more) a h1 h2 h3 h4 (expression_before h5)
    expression_before (g.null_member l x p d t ts rest a h1 h2 h3 h4) = g.null_member l x p d t (ts ++ more) (rest ++ more) a h1 (expression_before h2) h3 h4
    expression_before (g.member l x p d t ts rest a h1 h2 h3 h4) = g.member l x p d t (ts ++ more) (rest ++ more) a h1 (expression_before h2) h3 h4
    expression_before (g.call l p o ts us rest a bs h1 h2 h3 h4) = g.call l p o (ts ++ more) (us ++ more) (rest ++ more) a bs h1 (expression_before h2) h3 (arguments_before h4)
    expression_before (g.index l p q o c ts us rest a b h1 h2 h3 h4 h5) = g.index l p q o c (ts ++ more) (us ++ more) (rest ++ more) a b h1 (expression_before h2) h3 (expression_before h4) h5
    expression_before (g.number l n t rest h1) = g.number l n t (rest ++ more) h1
    expression_before (g.text l x t rest h1) = g.text l x t (rest ++ more) h1
    expression_before (g.literals l word kind t rest h1 h2) = g.literals l word kind t (rest ++ more) h1 h2
    expression_before (g.interpolated l o c ts rest parts h1 h2 h3) = g.interpolated l o c (ts ++ more) (rest ++ more) parts h1 (text_parts_before h2) h3
    expression_before (g.name l x t rest h1) = g.name l x t (rest ++ more) h1
    expression_before (g.static l word owner x t d n rest h1 h2 h3 h4) = g.static l word owner x t d n (rest ++ more) h1 h2 h3 h4
    expression_before (g.brackets l p o c ts rest a h1 h2 h3) = g.brackets l p o c (ts ++ more) (rest ++ more) a h1 (expression_before h2) h3
    expression_before (g.new_record l x t n o ts rest bs h1 h2 h3 h4) = g.new_record l x t n o (ts ++ more) (rest ++ more) bs h1 h2 h3 (arguments_before h4)
    expression_before (g.empty_list l t o c d n ts rest a h1 h2 h3 h4 h5 h6) = g.empty_list l t o c d n (ts ++ more) (rest ++ more) a h1 h2 (type_before h3) h4 h5 h6

    pub arguments_before : {x0 : List Token} {x1 : List Token} {x2 : List Expr} → Arguments x0 x1 x2 → Arguments (x0 ++ more) (x1 ++ more) x2
    arguments_before (g.no_argument c rest h1) = g.no_argument c (rest ++ more) h1
    arguments_before (g.some_arguments c ts rest bs h1 h2) = g.some_arguments c (ts ++ more) (rest ++ more) bs (values_before h1) h2

    pub values_before : {x0 : List Token} {x1 : List Token} {x2 : List Expr} → Values x0 x1 x2 → Values (x0 ++ more) (x1 ++ more) x2
    values_before (g.one_value p ts rest a h1) = g.one_value p (ts ++ more) (rest ++ more) a (expression_before h1)
    values_before (g.more_values p t ts us rest a bs h1 h2 h3) = g.more_values p t (ts ++ more) (us ++ more) (rest ++ more) a bs (expression_before h1) h2 (values_before h3)

    pub with_before : {x0 : List Token} {x1 : List Token} {x2 : List WithPart} → WithParts x0 x1 x2 → WithParts (x0 ++ more) (x1 ++ more) x2
    with_before (g.one_part x p n t ts rest a h1 h2 h3) = g.one_part x p n t (ts ++ more) (rest ++ more) a h1 h2 (expression_before h3)
    with_before (g.more_parts x p n t c ts us rest a parts h1 h2 h3 h4 h5) = g.more_parts x p n t c (ts ++ more) (us ++ more) (rest ++ more) a parts h1 h2 (expression_before h3) h4 (with_before h5)

    pub text_parts_before : {x0 : List Token} {x1 : List Token} {x2 : List TextPart} → TextParts x0 x1 x2 → TextParts (x0 ++ more) (x1 ++ more) x2
    text_parts_before (g.no_text_part rest) = g.no_text_part (rest ++ more)
    text_parts_before (g.literal_part x t ts rest parts h1 h2) = g.literal_part x t (ts ++ more) (rest ++ more) parts h1 (text_parts_before h2)
    text_parts_before (g.hole p o c ts us rest a parts h1 h2 h3 h4) = g.hole p o c (ts ++ more) (us ++ more) (rest ++ more) a parts h1 (expression_before h2) h3 (text_parts_before h4)

  pub change_before : {x0 : Place} {x1 : List Token} {x2 : List Token} {x3 : Expr} → Changes x0 x1 x2 x3 → Changes x0 (x1 ++ more) (x2 ++ more) x3
  change_before (cs.assign x sign op q n t ts rest a h1 h2 h3 h4) = cs.assign x sign op q n t (ts ++ more) (rest ++ more) a h1 h2 h3 (expression_before h4)
  change_before (cs.step x sign op n t rest h1 h2 h3) = cs.step x sign op n t (rest ++ more) h1 h2 h3

  pub act_before : {x0 : Place} {x1 : List Token} {x2 : List Token} {x3 : Expr} → Acts x0 x1 x2 x3 → Acts x0 (x1 ++ more) (x2 ++ more) x3
  act_before (cs.change p ts rest a h1) = cs.change p (ts ++ more) (rest ++ more) a (change_before h1)
  act_before (cs.call p q ts rest f bs h1) = cs.call p q (ts ++ more) (rest ++ more) f bs (expression_before h1)

  pub declared_type_before : {x0 : Place} {x1 : List Token} {x2 : List Token} {x3 : Option TypeExpr} → Declares x0 x1 x2 x3 → Declares x0 (x1 ++ more) (x2 ++ more) x3
  declared_type_before (cs.by_value t rest h1) = cs.by_value t (rest ++ more) h1
  declared_type_before (cs.by_type ts rest a h1) = cs.by_type (ts ++ more) (rest ++ more) a (type_before h1)

  pub initial_before : {x0 : List Token} {x1 : List Token} {x2 : Option Expr} → Initial x0 x1 x2 → Initial (x0 ++ more) (x1 ++ more) x2
  initial_before (cs.none rest) = cs.none (rest ++ more)
  initial_before (cs.some p t ts rest a h1 h2) = cs.some p t (ts ++ more) (rest ++ more) a h1 (expression_before h2)

  pub simple_before : {x0 : Place} {x1 : List Token} {x2 : List Token} {x3 : StmtKind} → Simple x0 x1 x2 x3 → Simple x0 (x1 ++ more) (x2 ++ more) x3
  simple_before (cs.local x p n ts us rest a value h1 h2 h3) = cs.local x p n (ts ++ more) (us ++ more) (rest ++ more) a value (declared_type_before h1) h2 (initial_before h3)
  simple_before (cs.act p ts rest a h1) = cs.act p (ts ++ more) (rest ++ more) a (act_before h1)

  pub start_before : {x0 : List Token} {x1 : List Token} {x2 : Option Stmt} → Start x0 x1 x2 → Start (x0 ++ more) (x1 ++ more) x2
  start_before (cs.none rest) = cs.none (rest ++ more)
  start_before (cs.some p ts rest kind h1) = cs.some p (ts ++ more) (rest ++ more) kind (simple_before h1)

  pub condition_before : {x0 : List Token} {x1 : List Token} {x2 : Option Expr} → Condition x0 x1 x2 → Condition (x0 ++ more) (x1 ++ more) x2
  condition_before (cs.none rest) = cs.none (rest ++ more)
  condition_before (cs.some p ts rest a h1) = cs.some p (ts ++ more) (rest ++ more) a (expression_before h1)

  pub step_before : {x0 : List Token} {x1 : List Token} {x2 : Option Expr} → Step x0 x1 x2 → Step (x0 ++ more) (x1 ++ more) x2
  step_before (cs.none rest) = cs.none (rest ++ more)
  step_before (cs.some p ts rest a h1) = cs.some p (ts ++ more) (rest ++ more) a (act_before h1)

  pub constant_before : {x0 : List Token} {x1 : List Token} {x2 : Label} → Constant x0 x1 x2 → Constant (x0 ++ more) (x1 ++ more) x2
  constant_before (cs.number n t rest h1) = cs.number n t (rest ++ more) h1
  constant_before (cs.minus n t u rest h1 h2) = cs.minus n t u (rest ++ more) h1 h2
  constant_before (cs.text x t rest h1) = cs.text x t (rest ++ more) h1
  constant_before (cs.yes t rest h1) = cs.yes t (rest ++ more) h1
  constant_before (cs.no t rest h1) = cs.no t (rest ++ more) h1
  constant_before (cs.null t rest h1) = cs.null t (rest ++ more) h1

  pub label_before : {x0 : List Token} {x1 : List Token} {x2 : Label} → Labelled x0 x1 x2 → Labelled (x0 ++ more) (x1 ++ more) x2
  label_before (cs.case_of t c ts rest label h1 h2 h3) = cs.case_of t c (ts ++ more) (rest ++ more) label h1 (constant_before h2) h3
  label_before (cs.default t c rest h1 h2) = cs.default t c (rest ++ more) h1 h2

  pub labels_before : {x0 : List Token} {x1 : List Token} {x2 : List Label} → Labels x0 x1 x2 → Labels (x0 ++ more) (x1 ++ more) x2
  labels_before (cs.one ts rest label h1) = cs.one (ts ++ more) (rest ++ more) label (label_before h1)
  labels_before (cs.more ts us rest label labels h1 h2) = cs.more (ts ++ more) (us ++ more) (rest ++ more) label labels (label_before h1) (labels_before h2)

  mutual
    pub statement_before : {x0 : Jumps} {x1 : Bool} {x2 : List Token} {x3 : List Token} {x4 : Stmt} → Statement x0 x1 x2 x3 x4 → Statement x0 x1 (x2 ++ more) (x3 ++ more) x4
    statement_before (cs.simple j f p c ts rest kind h1 h2) = cs.simple j f p c (ts ++ more) (rest ++ more) kind (simple_before h1) h2
    statement_before (cs.empty j f c rest h1) = cs.empty j f c (rest ++ more) h1
    statement_before (cs.block j f o c ts rest body h1 h2 h3) = cs.block j f o c (ts ++ more) (rest ++ more) body h1 (statements_before h2) h3
    statement_before (cs.if_alone j p t o c ts us rest a holds h1 h2 h3 h4 h5) = cs.if_alone j p t o c (ts ++ more) (us ++ more) (rest ++ more) a holds h1 h2 (expression_before h3) h4 (statement_before h5)
    statement_before (cs.if_else j f p t o c d ts us vs rest a holds fails h1 h2 h3 h4 h5 h6 h7) = cs.if_else j f p t o c d (ts ++ more) (us ++ more) (vs ++ more) (rest ++ more) a holds fails h1 h2 (expression_before h3) h4 (statement_before h5) h6 (statement_before h7)
    statement_before (cs.while_ j f p t o c ts us rest a body h1 h2 h3 h4 h5) = cs.while_ j f p t o c (ts ++ more) (us ++ more) (rest ++ more) a body h1 h2 (expression_before h3) h4 (statement_before h5)
    statement_before (cs.for_ j f t o m n c ts us vs xs rest start condition turn body h1 h2 h3 h4 h5 h6 h7 h8 h9) = cs.for_ j f t o m n c (ts ++ more) (us ++ more) (vs ++ more) (xs ++ more) (rest ++ more) start condition turn body h1 h2 (start_before h3) h4 (condition_before h5) h6 (step_before h7) h8 (statement_before h9)
    statement_before (cs.foreach_ j f x p t o v n i c ts us rest a body h1 h2 h3 h4 h5 h6 h7 h8) = cs.foreach_ j f x p t o v n i c (ts ++ more) (us ++ more) (rest ++ more) a body h1 h2 h3 h4 h5 (expression_before h6) h7 (statement_before h8)
    statement_before (cs.switch_ j f p t o c b d ts us rest a sections h1 h2 h3 h4 h5 h6 h7) = cs.switch_ j f p t o c b d (ts ++ more) (us ++ more) (rest ++ more) a sections h1 h2 (expression_before h3) h4 h5 (sections_before h6) h7
    statement_before (cs.await_ j f p q r t n c ts rest a bs h1 h2 h3) = cs.await_ j f p q r t n c (ts ++ more) (rest ++ more) a bs h1 (expression_before h2) h3
    statement_before (cs.break_ j f t c rest h1 h2 h3) = cs.break_ j f t c (rest ++ more) h1 h2 h3
    statement_before (cs.continue_ j f t c rest h1 h2 h3) = cs.continue_ j f t c (rest ++ more) h1 h2 h3
    statement_before (cs.return_ j f t c ts rest value h1 h2 h3) = cs.return_ j f t c (ts ++ more) (rest ++ more) value h1 (condition_before h2) h3

    pub statements_before : {x0 : Jumps} {x1 : List Token} {x2 : List Token} {x3 : List Stmt} → Statements x0 x1 x2 x3 → Statements x0 (x1 ++ more) (x2 ++ more) x3
    statements_before (cs.no_statement j rest) = cs.no_statement j (rest ++ more)
    statements_before (cs.more_statements j ts us rest first others h1 h2) = cs.more_statements j (ts ++ more) (us ++ more) (rest ++ more) first others (statement_before h1) (statements_before h2)

    pub sections_before : {x0 : Jumps} {x1 : ℕ} {x2 : List Token} {x3 : List Token} {x4 : List Section} → Sections x0 x1 x2 x3 x4 → Sections x0 x1 (x2 ++ more) (x3 ++ more) x4
    sections_before (cs.no_section j room rest) = cs.no_section j room (rest ++ more)
    sections_before (cs.more_sections j room ts us vs rest labels body others h1 h2 h3 h4 h5) = cs.more_sections j room (ts ++ more) (us ++ more) (vs ++ more) (rest ++ more) labels body others (labels_before h1) h2 (statements_before h3) h4 (sections_before h5)
