-- What statements begin with, and how their labels are read.
use Rattle.std.proofs.Common.{◌≡◌, ℕ, zero, suc, ◌+◌, ◌-◌, ◌<◌, ◌≤◌, List, [], ◌∷◌, ◌++◌, length, refl, sym, ap, ◌∙◌, subst, arith, append_assoc}
use Rattle.std.specs.Prelude.{Bool, true, false, ◌||◌, nat_lt, neg_ℤ, if◌then◌else◌, codes, Option, Some, None}
use Rattle.std.proofs.lemmas.Bool.{le-ltb}
use Rattle.text_core.specs.declared.place.Place.{Place}
use Rattle.cs_ast.specs.declared.expression.Expr.{Expr}
use Rattle.cs_ast.specs.declared.expression.ExprKind.TheVariants as ek
use Rattle.cs_ast.specs.declared.expression.Label.{Label}
use Rattle.cs_ast.specs.declared.expression.LabelKind.TheVariants as lk
use Rattle.cs_ast.specs.declared.expression.Section.{Section}
use Rattle.cs_ast.specs.declared.expression.Stmt.{Stmt}
use Rattle.cs_ast.specs.declared.expression.StmtKind.{StmtKind}
use Rattle.cs_ast.specs.declared.expression.StmtKind.TheVariants as st
use Rattle.cs_token.specs.declared.token.Token.{Token}
use Rattle.cs_token.specs.declared.token.TokenKind.{TokenKind}
use Rattle.cs_token.specs.declared.token.TokenKind.TheVariants as k
use Rattle.cs_token.specs.declared.token.Sign.{Sign}
use Rattle.cs_token.specs.declared.token.Sign.TheVariants as s
use Rattle.cs_token.specs.declared.token.Word.{Word}
use Rattle.cs_token.specs.declared.token.Word.TheVariants as w
use Rattle.cs_grammar.specs.Tokens.{IsSign, IsWord, IsName, ident}
use Rattle.cs_grammar.specs.Expressions.{node, Spells}
use Rattle.cs_grammar.specs.Statements.{Jumps, stmt, section, defaults, Simple, Start, Condition, Step, Statement, Statements, Sections, Constant, Labelled, Labels, Leaves}
use Rattle.cs_grammar.specs.Statements as g
use Rattle.cs_parse.specs.Numbers.{sign_number, word_number}
use Rattle.cs_parse.specs.declared.statement.frame.Beginning.{Beginning}
use Rattle.cs_parse.specs.declared.statement.frame.Beginning.TheVariants as b
use Rattle.cs_parse.specs.declared.statement.frame.Frame.{Frame}
use Rattle.cs_parse.specs.declared.statement.frame.Frame.TheVariants as fr
use Rattle.cs_parse.specs.declared.statement.frame.Jumps.{Jumps as Allowed}
use Rattle.cs_parse.specs.declared.statement.frame.Next.{Next}
use Rattle.cs_parse.specs.declared.statement.frame.Next.TheVariants as nx
use Rattle.cs_parse.specs.declared.statement.frame.OpenBlock.{OpenBlock}
use Rattle.cs_parse.specs.declared.statement.frame.OpenSection.{OpenSection}
use Rattle.cs_parse.specs.declared.statement.frame.OpenSwitch.{OpenSwitch}
use Rattle.cs_parse.specs.Reading.{Read, ◌>>=◌, after, has_sign, is_sign, is_word, name_first}
use Rattle.cs_parse.specs.ExpressionReading.{expr_first}
use Rattle.cs_parse.specs.TreeViews.{is_invoke, leaves}
use Rattle.cs_parse.specs.SimpleReading.{after_word, simple_first, start_first, condition_first, step_first}
use Rattle.cs_parse.specs.StatementReading as r
use Rattle.cs_parse.specs.StatementReading.{Onward, begin, begun, beginning, begins, by_sign, by_word, is_something, is_simple, in_round, resume, has_label, labels_in, labels_first, constant_word, statement_first, rest_first, statements_in, statements_first}
use Rattle.cs_parse.proofs.TokenLemmas.{after_yes, after_not, name_yes, is_that_sign, is_that_word}
use Rattle.cs_parse.proofs.ShrinkLemmas.{labelled_less}
use Rattle.cs_parse.proofs.TreeLemmas.{invoke_is, leaves_complete}
use Rattle.cs_parse.proofs.FrameSound.{after_word_yes}
use Rattle.cs_parse.proofs.StatementLaws.{statement_law, done_law, inside_law, block_law, switch_law, section_law, statement_shorter}
use Rattle.cs_parse.proofs.SimpleComplete.{Head, simple_head, simple_complete, semicolon_stops, close_stops, expression_read, condition_complete, step_complete, start_complete}

-- what statements begin with
pub if_begins : by_word w.If ≡ b.If
unfolding by_word
if_begins = refl

pub while_begins : by_word w.While ≡ b.While
unfolding by_word
while_begins = refl

pub for_begins : by_word w.For ≡ b.For
unfolding by_word
for_begins = refl

pub for_each_begins : by_word w.Foreach ≡ b.ForEach
unfolding by_word
for_each_begins = refl

pub switch_begins : by_word w.Switch ≡ b.Switch
unfolding by_word
switch_begins = refl

pub await_begins : by_word w.Await ≡ b.Await
unfolding by_word
await_begins = refl

pub break_begins : by_word w.Break ≡ b.Break
unfolding by_word
break_begins = refl

pub continue_begins : by_word w.Continue ≡ b.Continue
unfolding by_word
continue_begins = refl

pub return_begins : by_word w.Return ≡ b.Return
unfolding by_word
return_begins = refl

pub semicolon_begins : by_sign s.Semicolon ≡ b.Empty
unfolding by_sign
semicolon_begins = refl

pub brace_begins : by_sign s.OpenBrace ≡ b.Block
unfolding by_sign
brace_begins = refl

starts_by : (t : Token) (ts : List Token) (kind : TokenKind) (by : Beginning) → t.kind ≡ kind → beginning kind ≡ by → is_something by ≡ true → begins (t ∷ ts) ≡ true
starts_by t ts kind by e q h = ap (λ x. is_something (beginning x)) e ∙ ap is_something q ∙ h

head_starts : (p : Place) (ts : List Token) → Head p ts → begins ts ≡ true
head_starts p ts x = ap begins x.whole ∙ ap is_something x.simple

pub starts : (j : Jumps) (f : Bool) (ts rest : List Token) (a : Stmt) → Statement j f ts rest a → begins ts ≡ true
starts j f ts rest a (g.simple _ _ p c _ _ kind x e) = head_starts p ts (simple_head p ts (c ∷ rest) kind x)
starts j f ts rest a (g.empty _ _ c _ e) = starts_by c rest (k.Sign s.Semicolon) b.Empty e semicolon_begins refl
starts j f ts rest a (g.block _ _ o c us _ body e1 x e2) = starts_by o us (k.Sign s.OpenBrace) b.Block e1 brace_begins refl
starts j f ts rest a (g.if_alone _ p t o c us vs _ x one e1 e2 sp e3 y) = starts_by t (o ∷ us) (k.Word w.If) b.If e1 if_begins refl
starts j f ts rest a (g.if_else _ _ p t o c d us vs xs _ x one other e1 e2 sp e3 y e4 z) = starts_by t (o ∷ us) (k.Word w.If) b.If e1 if_begins refl
starts j f ts rest a (g.while_ _ _ p t o c us vs _ x body e1 e2 sp e3 y) = starts_by t (o ∷ us) (k.Word w.While) b.While e1 while_begins refl
starts j f ts rest a (g.for_ _ _ t o m n c us vs xs ys _ start condition step body e1 e2 z1 e3 z2 e4 z3 e5 y) = starts_by t (o ∷ us) (k.Word w.For) b.For e1 for_begins refl
starts j f ts rest a (g.foreach_ _ _ x p t o v n i c us vs _ d body e1 e2 e3 e4 e5 sp e6 y) = starts_by t (o ∷ v ∷ n ∷ i ∷ us) (k.Word w.Foreach) b.ForEach e1 for_each_begins refl
starts j f ts rest a (g.switch_ _ _ p t o c d m us vs _ x sections e1 e2 sp e3 e4 y e5) = starts_by t (o ∷ us) (k.Word w.Switch) b.Switch e1 switch_begins refl
starts j f ts rest a (g.await_ _ _ p q v t n c us _ x bs e1 sp e2) = starts_by t us (k.Word w.Await) b.Await e1 await_begins refl
starts j f ts rest a (g.break_ _ _ t c _ h e1 e2) = starts_by t (c ∷ rest) (k.Word w.Break) b.Break e1 break_begins refl
starts j f ts rest a (g.continue_ _ _ t c _ h e1 e2) = starts_by t (c ∷ rest) (k.Word w.Continue) b.Continue e1 continue_begins refl
starts j f ts rest a (g.return_ _ _ t c us _ value e1 x e2) = starts_by t us (k.Word w.Return) b.Return e1 return_begins refl

-- no statement begins with `else` or a label
word_no_else : (word : Word) → is_something (by_word word) ≡ true → is_word w.Else (k.Word word) ≡ false
unfolding by_word word_number
word_no_else w.Else e = absurd (cc)
word_no_else _ e = refl

word_no_label : (word : Word) → is_something (by_word word) ≡ true → (is_word w.Case (k.Word word) || is_word w.Default (k.Word word)) ≡ false
unfolding by_word word_number
word_no_label w.Case e = absurd (cc)
word_no_label w.Default e = absurd (cc)
word_no_label _ e = refl

kind_no_else : (kind : TokenKind) → is_something (beginning kind) ≡ true → is_word w.Else kind ≡ false
kind_no_else (k.Word word) e = word_no_else word e
kind_no_else _ e = refl

kind_no_label : (kind : TokenKind) → is_something (beginning kind) ≡ true → (is_word w.Case kind || is_word w.Default kind) ≡ false
kind_no_label (k.Word word) e = word_no_label word e
kind_no_label _ e = refl

pub begins_no_else : (ts : List Token) → begins ts ≡ true → after_word w.Else ts ≡ None
begins_no_else [] e = refl
begins_no_else (t ∷ ts) e = ap (λ d. if d then Some ts else None) (kind_no_else t.kind e)

pub begins_no_label : (ts : List Token) → begins ts ≡ true → has_label ts ≡ false
begins_no_label [] e = refl
begins_no_label (t ∷ ts) e = kind_no_label t.kind e

-- a list of statements ends there
pub record Ends (rest : List Token) : Type 0 where
  pub stop : begins rest ≡ false
  pub no_else : after_word w.Else rest ≡ None

pub nothing_ends : Ends []
nothing_ends = record { stop = refl; no_else = refl }

close_begins : by_sign s.CloseBrace ≡ b.Nothing
unfolding by_sign
close_begins = refl

pub close_ends : (t : Token) (rest : List Token) → IsSign s.CloseBrace t → Ends (t ∷ rest)
close_ends t rest e = record {
  stop = ap (λ kind. is_something (beginning kind)) e ∙ ap is_something close_begins;
  no_else = ap (λ kind. if is_word w.Else kind then Some rest else None) e;
}

case_stops : is_something (by_word w.Case) ≡ false
unfolding by_word
case_stops = refl

default_stops : is_something (by_word w.Default) ≡ false
unfolding by_word
default_stops = refl

case_no_else : is_word w.Else (k.Word w.Case) ≡ false
unfolding word_number
case_no_else = refl

default_no_else : is_word w.Else (k.Word w.Default) ≡ false
unfolding word_number
default_no_else = refl

default_no_case : is_word w.Case (k.Word w.Default) ≡ false
unfolding word_number
default_no_case = refl

-- a label is there, and a list of statements ends before it
pub record Labelling (ts : List Token) : Type 0 where
  pub label : has_label ts ≡ true
  pub ends : Ends ts

word_labelling : (word : Word) (t : Token) (ts : List Token) → IsWord word t → is_something (by_word word) ≡ false → is_word w.Else (k.Word word) ≡ false →
    (is_word w.Case (k.Word word) || is_word w.Default (k.Word word)) ≡ true → Labelling (t ∷ ts)
word_labelling word t ts e q h m = record {
  label = ap (λ kind. is_word w.Case kind || is_word w.Default kind) e ∙ m;
  ends = record { stop = ap (λ kind. is_something (beginning kind)) e ∙ q; no_else = ap (λ kind. if is_word w.Else kind then Some ts else None) e ∙ ap (λ d. if d then Some ts else None) h };
}

case_label : (is_word w.Case (k.Word w.Case) || is_word w.Default (k.Word w.Case)) ≡ true
unfolding word_number
case_label = refl

default_label : (is_word w.Case (k.Word w.Default) || is_word w.Default (k.Word w.Default)) ≡ true
unfolding word_number
default_label = refl

labelled_labelling : (ts rest : List Token) (l : Label) → Labelled ts rest l → Labelling ts
labelled_labelling ts rest l (g.case_of t c us _ _ e1 x e2) = word_labelling w.Case t us e1 case_stops case_no_else case_label
labelled_labelling ts rest l (g.default t c _ e1 e2) = word_labelling w.Default t (c ∷ rest) e1 default_stops default_no_else default_label

pub labels_labelling : (ts rest : List Token) (ls : List Label) → Labels ts rest ls → Labelling ts
labels_labelling ts rest ls (g.one _ _ l x) = labelled_labelling ts rest l x
labels_labelling ts rest ls (g.more _ us _ l others x y) = labelled_labelling ts us l x

-- labels are read
minus_minus : is_sign s.Minus (k.Sign s.Minus) ≡ true
unfolding sign_number
minus_minus = refl

true_constant : constant_word w.True ≡ Some (lk.Bool true)
unfolding constant_word
true_constant = refl

false_constant : constant_word w.False ≡ Some (lk.Bool false)
unfolding constant_word
false_constant = refl

null_constant : constant_word w.Null ≡ Some lk.Null
unfolding constant_word
null_constant = refl

constant_read : (ts rest : List Token) (l : Label) → Constant ts rest l → r.constant ts ≡ Some (l, rest)
constant_read ts rest l (g.number n t _ e) = ap (λ kind. r.constant_of kind t.place rest) e
constant_read ts rest l (g.minus n t u _ e1 e2) =
    ap (λ kind. r.constant_of kind t.place (u ∷ rest)) e1
    ∙ ap (λ d. if d then r.negative t.place (u ∷ rest) else None) minus_minus
    ∙ ap (λ kind. r.negated t.place kind rest) e2
constant_read ts rest l (g.text x t _ e) = ap (λ kind. r.constant_of kind t.place rest) e
constant_read ts rest l (g.yes t _ e) = ap (λ kind. r.constant_of kind t.place rest) e ∙ ap (λ o. o >>= λ kind. Some (r.label t.place kind, rest)) true_constant
constant_read ts rest l (g.no t _ e) = ap (λ kind. r.constant_of kind t.place rest) e ∙ ap (λ o. o >>= λ kind. Some (r.label t.place kind, rest)) false_constant
constant_read ts rest l (g.null t _ e) = ap (λ kind. r.constant_of kind t.place rest) e ∙ ap (λ o. o >>= λ kind. Some (r.label t.place kind, rest)) null_constant

labelled_read : (ts rest : List Token) (l : Label) → Labelled ts rest l → r.labelled ts ≡ Some (l, rest)
labelled_read ts rest l (g.case_of t c us _ _ e1 x e2) =
    ap (λ d. if d then r.case_label us else if is_word w.Default t.kind then r.default_label t.place us else None) (is_that_word w.Case t e1)
    ∙ ap (λ o. o >>= λ y. (after s.Colon y.1 >>= λ q. Some (y.0, q))) (constant_read us (c ∷ rest) l x)
    ∙ ap (λ o. o >>= λ q. Some (l, q)) (after_yes s.Colon c rest e2)
labelled_read ts rest l (g.default t c _ e1 e2) =
    ap (λ d. if d then r.case_label (c ∷ rest) else if is_word w.Default t.kind then r.default_label t.place (c ∷ rest) else None) (ap (is_word w.Case) e1 ∙ default_no_case)
    ∙ ap (λ d. if d then r.default_label t.place (c ∷ rest) else None) (is_that_word w.Default t e1)
    ∙ ap (λ o. o >>= λ q. Some (r.label t.place lk.Default, q)) (after_yes s.Colon c rest e2)

labels_in_read : (n : ℕ) (ts rest : List Token) (ls : List Label) → has_label rest ≡ false → length ts < n → Labels ts rest ls → labels_in n ts ≡ Some (ls, rest)
unfolding labels_in
labels_in_read zero ts rest ls h len x = absurd (omega arith)
labels_in_read (suc n) ts rest ls h len (g.one _ _ l x) =
    ap (λ o. o >>= λ y. if has_label y.1 then (labels_in n y.1 >>= λ z. Some (y.0 ∷ z.0, z.1)) else Some (y.0 ∷ [], y.1)) (labelled_read ts rest l x)
    ∙ ap (λ d. if d then (labels_in n rest >>= λ z. Some (l ∷ z.0, z.1)) else Some (l ∷ [], rest)) h
labels_in_read (suc n) ts rest ls h len (g.more _ us _ l others x y) =
    let e = labelled_read ts us l x in
    let less = labelled_less ts (l, us) e in
    ap (λ o. o >>= λ y. if has_label y.1 then (labels_in n y.1 >>= λ z. Some (y.0 ∷ z.0, z.1)) else Some (y.0 ∷ [], y.1)) e
    ∙ ap (λ d. if d then (labels_in n us >>= λ z. Some (l ∷ z.0, z.1)) else Some (l ∷ [], us)) (labels_labelling us rest others y).label
    ∙ ap (λ o. o >>= λ z. Some (l ∷ z.0, z.1)) (labels_in_read n us rest others h (omega arith) y)

pub labels_read : (ts rest : List Token) (ls : List Label) → has_label rest ≡ false → Labels ts rest ls → labels_first ts ≡ Some (ls, rest)
unfolding labels_first
labels_read ts rest ls h x = labels_in_read (length ts + 1) ts rest ls h (omega arith) x
