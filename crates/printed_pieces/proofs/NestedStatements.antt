-- The tokens of statements have whole brackets.
use Rattle.std.proofs.Common.{◌≡◌, ℕ, Bool, true, false, List, ◌∷◌, Some, refl}
use Rattle.std.specs.declared.option.Option.{Option}
use Rattle.text_core.specs.declared.place.Place.{Place}
use Rattle.cs_ast.specs.declared.cs_type.TypeExpr.{TypeExpr}
use Rattle.cs_ast.specs.declared.expression.Expr.{Expr}
use Rattle.cs_ast.specs.declared.expression.Label.{Label}
use Rattle.cs_ast.specs.declared.expression.Section.{Section}
use Rattle.cs_ast.specs.declared.expression.Stmt.{Stmt}
use Rattle.cs_ast.specs.declared.expression.StmtKind.{StmtKind}
use Rattle.cs_ast.specs.declared.operators.AssignOp.{AssignOp}
use Rattle.cs_ast.specs.declared.operators.StepOp.{StepOp}
use Rattle.cs_token.specs.declared.token.Token.{Token}
use Rattle.cs_token.specs.declared.token.TokenKind.TheVariants as k
use Rattle.cs_token.specs.declared.token.Sign.{Sign}
use Rattle.cs_token.specs.declared.token.Sign.TheVariants as s
use Rattle.cs_token.specs.declared.token.Word.TheVariants as w
use Rattle.cs_grammar.specs.Statements as g
use Rattle.cs_grammar.specs.Statements.{Jumps, Statement, Statements, Sections}
use Rattle.cs_grammar.specs.Tables.{assignment, step_operator}
use Rattle.cs_grammar.specs.Tokens.{IsSign}
use Rattle.printed_pieces.proofs.Nests.{Nests, is_flat, join, kind_flat, named, worded, signed}
use Rattle.printed_pieces.proofs.Nests as n
use Rattle.printed_pieces.proofs.NestedExpressions.{type_nests, expression_nests}

assignment-flat : (sign : Sign) (op : AssignOp) → assignment sign ≡ Some op → is_flat (k.Sign sign) ≡ true
unfolding assignment
assignment-flat s.Assign op e = refl
assignment-flat s.AddAssign op e = refl
assignment-flat s.SubtractAssign op e = refl
assignment-flat s.MultiplyAssign op e = refl
assignment-flat s.DivideAssign op e = refl
assignment-flat s.RemainderAssign op e = refl
assignment-flat _ op e = absurd (cc)

step-flat : (sign : Sign) (op : StepOp) → step_operator sign ≡ Some op → is_flat (k.Sign sign) ≡ true
unfolding step_operator
step-flat s.PlusPlus op e = refl
step-flat s.MinusMinus op e = refl
step-flat _ op e = absurd (cc)

-- changes, calls and simple statements, which are as strict as expressions
module _ (b : Bool) where
  pub change_nests : (p : Place) (ts rest : List Token) (a : Expr) → g.Changes p ts rest a → Nests b ts rest
  change_nests _ _ _ _ (g.assign x sign op q m t ts rest a is sets op_is value) = named b x m (t ∷ ts) rest is (signed b sign t ts rest sets (assignment-flat sign op op_is) (expression_nests b 0 q ts rest a value))
  change_nests _ _ _ _ (g.step x sign op m t rest is steps op_is) = named b x m (t ∷ rest) rest is (signed b sign t rest rest steps (step-flat sign op op_is) (n.none b rest))

  pub act_nests : (p : Place) (ts rest : List Token) (a : Expr) → g.Acts p ts rest a → Nests b ts rest
  act_nests _ _ _ _ (g.change p ts rest a h) = change_nests p ts rest a h
  act_nests _ _ _ _ (g.call p q ts rest f bs h) = expression_nests b 0 p ts rest _ h

  declares_nest : (p : Place) (ts rest : List Token) (a : Option TypeExpr) → g.Declares p ts rest a → Nests b ts rest
  declares_nest _ _ _ _ (g.by_value t rest is) = worded b w.Var t rest rest is (n.none b rest)
  declares_nest _ _ _ _ (g.by_type ts rest a h) = type_nests b ts rest a h

  pub initial_nests : (ts rest : List Token) (a : Option Expr) → g.Initial ts rest a → Nests b ts rest
  initial_nests _ _ _ (g.Initial.none rest) = n.none b rest
  initial_nests _ _ _ (g.Initial.some p t ts rest a sets value) = signed b s.Assign t ts rest sets refl (expression_nests b 0 p ts rest a value)

  pub simple_nests : (p : Place) (ts rest : List Token) (kind : StmtKind) → g.Simple p ts rest kind → Nests b ts rest
  simple_nests _ _ _ _ (g.local x p m ts us rest a value declares is starts) =
      join b ts (m ∷ us) rest (declares_nest p ts (m ∷ us) a declares) (named b x m us rest is (initial_nests us rest value starts))
  simple_nests _ _ _ _ (g.act p ts rest a h) = act_nests p ts rest a h

  pub start_nests : (ts rest : List Token) (a : Option Stmt) → g.Start ts rest a → Nests b ts rest
  start_nests _ _ _ (g.Start.none rest) = n.none b rest
  start_nests _ _ _ (g.Start.some p ts rest kind h) = simple_nests p ts rest kind h

  pub condition_nests : (ts rest : List Token) (a : Option Expr) → g.Condition ts rest a → Nests b ts rest
  condition_nests _ _ _ (g.Condition.none rest) = n.none b rest
  condition_nests _ _ _ (g.Condition.some p ts rest a h) = expression_nests b 0 p ts rest a h

  pub step_nests : (ts rest : List Token) (a : Option Expr) → g.Step ts rest a → Nests b ts rest
  step_nests _ _ _ (g.Step.none rest) = n.none b rest
  step_nests _ _ _ (g.Step.some p ts rest a h) = act_nests p ts rest a h

  pub constant_nests : (ts rest : List Token) (a : Label) → g.Constant ts rest a → Nests b ts rest
  constant_nests _ _ _ (g.number i t rest is) = kind_flat b (k.Number i) t rest rest is refl (n.none b rest)
  constant_nests _ _ _ (g.minus i t u rest is is_number) = signed b s.Minus t (u ∷ rest) rest is refl (kind_flat b _ u rest rest is_number refl (n.none b rest))
  constant_nests _ _ _ (g.text x t rest is) = kind_flat b (k.Text x) t rest rest is refl (n.none b rest)
  constant_nests _ _ _ (g.yes t rest is) = worded b w.True t rest rest is (n.none b rest)
  constant_nests _ _ _ (g.no t rest is) = worded b w.False t rest rest is (n.none b rest)
  constant_nests _ _ _ (g.null t rest is) = worded b w.Null t rest rest is (n.none b rest)

-- a colon, and a semicolon
coloned : (c : Token) (rest end : List Token) → IsSign s.Colon c → Nests false rest end → Nests false (c ∷ rest) end
coloned c rest end is more = n.parted c s.Colon rest end is n.by_colon more

pub ended : (c : Token) (rest end : List Token) → IsSign s.Semicolon c → Nests false rest end → Nests false (c ∷ rest) end
ended c rest end is more = n.parted c s.Semicolon rest end is n.by_semicolon more

-- labels
label_nests : (ts rest : List Token) (a : Label) → g.Labelled ts rest a → Nests false ts rest
label_nests _ _ _ (g.case_of t c ts rest a is constant colon) =
    worded false w.Case t ts rest is (join false ts (c ∷ rest) rest (constant_nests false ts (c ∷ rest) a constant) (coloned c rest rest colon (n.none false rest)))
label_nests _ _ _ (g.default t c rest is colon) = worded false w.Default t (c ∷ rest) rest is (coloned c rest rest colon (n.none false rest))

labels_nest : (ts rest : List Token) (all : List Label) → g.Labels ts rest all → Nests false ts rest
labels_nest _ _ _ (g.Labels.one ts rest a h) = label_nests ts rest a h
labels_nest _ _ _ (g.Labels.more ts us rest a others h later) = join false ts us rest (label_nests ts us a h) (labels_nest us rest others later)

-- what stands in round brackets, and behind them
bracketed : (o c : Token) (ts us rest : List Token) → IsSign s.OpenRound o → Nests false ts (c ∷ us) → IsSign s.CloseRound c → Nests false us rest → Nests false (o ∷ ts) rest
bracketed o c ts us rest opens inner closes outer = n.round false false o c ts us rest opens inner closes outer

mutual
  pub statement_nests : (j : Jumps) (f : Bool) (ts rest : List Token) (a : Stmt) → Statement j f ts rest a → Nests false ts rest
  statement_nests _ _ _ _ _ (g.simple j f p c ts rest kind h is) = join false ts (c ∷ rest) rest (simple_nests false p ts (c ∷ rest) kind h) (ended c rest rest is (n.none false rest))
  statement_nests _ _ _ _ _ (g.empty j f c rest is) = ended c rest rest is (n.none false rest)
  statement_nests _ _ _ _ _ (g.Statement.block j f o c ts rest body opens inner closes) = n.braces false o c ts rest rest opens (statements_nest j ts (c ∷ rest) body inner) closes (n.none false rest)
  statement_nests _ _ _ _ _ (g.if_alone j p t o c ts us rest a holds is opens inner closes later) =
      worded false w.If t (o ∷ ts) rest is (bracketed o c ts us rest opens (expression_nests false 0 p ts (c ∷ us) a inner) closes (statement_nests j false us rest holds later))
  statement_nests _ _ _ _ _ (g.if_else j f p t o c d ts us vs rest a holds fails is opens inner closes one otherwise two) =
      worded false w.If t (o ∷ ts) rest is (bracketed o c ts us rest opens (expression_nests false 0 p ts (c ∷ us) a inner) closes
      (join false us (d ∷ vs) rest (statement_nests j true us (d ∷ vs) holds one) (worded false w.Else d vs rest otherwise (statement_nests j f vs rest fails two))))
  statement_nests _ _ _ _ _ (g.while_ j f p t o c ts us rest a body is opens inner closes later) =
      worded false w.While t (o ∷ ts) rest is (bracketed o c ts us rest opens (expression_nests false 0 p ts (c ∷ us) a inner) closes (statement_nests g.in_loop f us rest body later))
  statement_nests _ _ _ _ _ (g.for_ j f t o m i c ts us vs xs rest start condition step body is opens starts one goes two steps closes later) =
      worded false w.For t (o ∷ ts) rest is (bracketed o c ts xs rest opens
      (join false ts (m ∷ us) (c ∷ xs) (start_nests false ts (m ∷ us) start starts) (ended m us (c ∷ xs) one
      (join false us (i ∷ vs) (c ∷ xs) (condition_nests false us (i ∷ vs) condition goes) (ended i vs (c ∷ xs) two (step_nests false vs (c ∷ xs) step steps)))))
      closes (statement_nests g.in_loop f xs rest body later))
  statement_nests _ _ _ _ _ (g.foreach_ j f x p t o v m i c ts us rest a body is opens var name within_it inner closes later) =
      worded false w.Foreach t (o ∷ v ∷ m ∷ i ∷ ts) rest is (bracketed o c (v ∷ m ∷ i ∷ ts) us rest opens
      (worded false w.Var v (m ∷ i ∷ ts) (c ∷ us) var (named false x m (i ∷ ts) (c ∷ us) name (worded false w.In i ts (c ∷ us) within_it (expression_nests false 0 p ts (c ∷ us) a inner))))
      closes (statement_nests g.in_loop f us rest body later))
  statement_nests _ _ _ _ _ (g.switch_ j f p t o c b d ts us rest a sections is opens inner closes begins later ends) =
      worded false w.Switch t (o ∷ ts) rest is (bracketed o c ts (b ∷ us) rest opens (expression_nests false 0 p ts (c ∷ b ∷ us) a inner) closes
      (n.braces false b d us rest rest begins (sections_nest (g.in_switch j) 1 us (d ∷ rest) sections later) ends (n.none false rest)))
  statement_nests _ _ _ _ _ (g.await_ j f p q r t m c ts rest a bs is h ends) =
      worded false w.Await t ts rest is (join false ts (c ∷ rest) rest (expression_nests false 0 p ts (c ∷ rest) _ h) (ended c rest rest ends (n.none false rest)))
  statement_nests _ _ _ _ _ (g.break_ j f t c rest may is ends) = worded false w.Break t (c ∷ rest) rest is (ended c rest rest ends (n.none false rest))
  statement_nests _ _ _ _ _ (g.continue_ j f t c rest may is ends) = worded false w.Continue t (c ∷ rest) rest is (ended c rest rest ends (n.none false rest))
  statement_nests _ _ _ _ _ (g.return_ j f t c ts rest value is h ends) =
      worded false w.Return t ts rest is (join false ts (c ∷ rest) rest (condition_nests false ts (c ∷ rest) value h) (ended c rest rest ends (n.none false rest)))

  pub statements_nest : (j : Jumps) (ts rest : List Token) (body : List Stmt) → Statements j ts rest body → Nests false ts rest
  statements_nest _ _ _ _ (g.no_statement j rest) = n.none false rest
  statements_nest _ _ _ _ (g.more_statements j ts us rest a others h later) = join false ts us rest (statement_nests j false ts us a h) (statements_nest j us rest others later)

  sections_nest : (j : Jumps) (room : ℕ) (ts rest : List Token) (sections : List Section) → Sections j room ts rest sections → Nests false ts rest
  sections_nest _ _ _ _ _ (g.no_section j room rest) = n.none false rest
  sections_nest _ _ _ _ _ (g.more_sections j room ts us vs rest labels body others marks few inner leaves later) =
      join false ts us rest (labels_nest ts us labels marks) (join false us vs rest (statements_nest j us vs body inner) (sections_nest j _ vs rest others later))
