-- Parts of statements stand in blocks and in heads.
use Rattle.std.proofs.Common.{◌≡◌, Bool, true, false, List, [], ◌∷◌, ◌++◌, None, refl, sym, ◌∙◌, subst, option_map}
use Rattle.std.specs.declared.option.Option.{Option}
use Rattle.text_core.specs.declared.place.Place.{Place}
use Rattle.cs_ast.specs.declared.cs_type.TypeExpr.{TypeExpr}
use Rattle.cs_ast.specs.declared.expression.Expr.{Expr}
use Rattle.cs_ast.specs.declared.expression.Label.{Label}
use Rattle.cs_ast.specs.declared.expression.Stmt.{Stmt}
use Rattle.cs_ast.specs.declared.expression.StmtKind.{StmtKind}
use Rattle.cs_ast.specs.declared.expression.StmtKind.TheVariants as st
use Rattle.cs_token.specs.declared.token.Token.{Token}
use Rattle.cs_token.specs.declared.token.TokenKind.TheVariants as k
use Rattle.cs_token.specs.declared.token.Sign.TheVariants as s
use Rattle.cs_token.specs.declared.token.Word.{Word}
use Rattle.cs_token.specs.declared.token.Word.TheVariants as w
use Rattle.cs_grammar.specs.Statements as g
use Rattle.cs_grammar.specs.Types as ty
use Rattle.cs_print.specs.Printed.{Kinds, Printed, in_round, ended, optional, whole, printed, joined, label_kinds, statement_kinds}
use Rattle.cs_print.specs.Printed as p
use Rattle.cs_print.proofs.CodeKinds.{IsCode}
use Rattle.cs_print.proofs.CodeKinds as c
use Rattle.cs_print.proofs.ExpressionForms.{all}
use Rattle.cs_print.proofs.ExpressionsAgain.{expression}
use Rattle.cs_print.proofs.LabelsAgain.{labels, labels_kinds}
use Rattle.cs_print.proofs.LayLemmas.{Are, code-spelled}
use Rattle.cs_print.proofs.LayLemmas as l
use Rattle.cs_print.proofs.PrintedLaws as law
use Rattle.cs_print.proofs.ReadLemmas as rd
use Rattle.cs_print.proofs.SimpleAgain.{simple, condition}
use Rattle.razor_token.specs.declared.context.Context.{Context}
use Rattle.razor_token.specs.declared.context.Context.TheVariants as x
use Rattle.razor_token.specs.declared.context.Point.{Point}
use Rattle.razor_token.specs.declared.context.Point.TheVariants as point
use Rattle.razor_token.specs.CodeFronts.{opens, closes}
use Rattle.printed_pieces.specs.Written.{AreProper, IsWritten, OneStatement}
use Rattle.printed_pieces.specs.Written as wr
use Rattle.printed_pieces.proofs.FrontLaws.{bracket, head, block}
use Rattle.printed_pieces.proofs.GoesLaws.{Goes, stop, token, goes-join}
use Rattle.printed_pieces.proofs.Nests.{Nests}
use Rattle.printed_pieces.proofs.NestedExpressions.{Fronted, fronted, front_of, expression_nests}
use Rattle.printed_pieces.proofs.NestedStatements.{simple_nests, condition_nests, constant_nests}
use Rattle.printed_pieces.proofs.NestGoes.{are-kinds, are-join}
use Rattle.printed_pieces.proofs.BlockGoes.{runs, MayBegin, some_token, may-later, plain, block-token, bracket-fits}
use Rattle.printed_pieces.proofs.ShownLaws.{IsClosed}
use Rattle.printed_pieces.proofs.WrittenCode.{proper}

-- code that stands in a block, from one point of a statement to another
pub record Segment (at : Point) (ks : Kinds) (last : Point) : Type 0 where
  pub code : IsCode ks
  pub goes : (with_else : Bool) (cs : List Context) → Goes (x.Block at with_else ∷ cs) [] ks (x.Block last with_else ∷ cs) []

pub segment-as : (at last : Point) (ks ms : Kinds) → ks ≡ ms → Segment at ks last → Segment at ms last
segment-as at last ks ms e h = subst (λ z. Segment at z last) e h

pub segment-join : (at middle last : Point) (ks ms : Kinds) → Segment at ks middle → Segment middle ms last → Segment at (ks ++ ms) last
segment-join at middle last ks ms h i = record {
  code = c.join ks ms h.code i.code;
  goes = λ with_else cs. goes-join _ (x.Block middle with_else ∷ cs) _ [] [] [] ks ms (h.goes with_else cs) (i.goes with_else cs);
}

-- a word before it
pub segment-word : (at last : Point) (word : Word) (ks : Kinds) → Segment point.Within ks last → Segment at (k.Word word ∷ ks) last
segment-word at last word ks h = record {
  code = rd.worded word ks h.code;
  goes = λ with_else cs. block-token at with_else cs (x.Block last with_else ∷ cs) (k.Word word) ks (bracket-fits at with_else (k.Word word) refl refl) refl refl (h.goes with_else cs);
}

pub segment-none : (at : Point) → Segment at [] at
segment-none at = record { code = c.none; goes = λ with_else cs. stop (x.Block at with_else) cs [] (block at with_else) }

-- a semicolon and a colon
pub segment-semicolon : (at : Point) → Segment at (k.Sign s.Semicolon ∷ []) point.Begins
segment-semicolon at = record {
  code = rd.signed s.Semicolon [] refl c.none;
  goes = λ with_else cs. block-token at with_else cs (x.Block point.Begins with_else ∷ cs) (k.Sign s.Semicolon) [] (bracket-fits at with_else (k.Sign s.Semicolon) refl refl) refl refl (stop (x.Block point.Begins with_else) cs [] (block point.Begins with_else));
}

pub segment-colon : (at : Point) → Segment at (k.Sign s.Colon ∷ []) point.Begins
segment-colon at = record {
  code = rd.signed s.Colon [] refl c.none;
  goes = λ with_else cs. block-token at with_else cs (x.Block point.Begins with_else ∷ cs) (k.Sign s.Colon) [] (bracket-fits at with_else (k.Sign s.Colon) refl refl) refl refl (stop (x.Block point.Begins with_else) cs [] (block point.Begins with_else));
}

-- code in brackets
pub segment-round : (at : Point) (ks : Kinds) → IsClosed ks → Segment at (in_round ks) point.Within
unfolding opens closes
segment-round at ks h = record {
  code = rd.signed s.OpenRound (ks ++ k.Sign s.CloseRound ∷ []) refl (rd.up_to ks s.CloseRound [] refl h.code c.none);
  goes = λ with_else cs.
      let within = x.Block point.Within with_else ∷ cs in
      token (x.Block at with_else) cs within [] [] (k.Sign s.OpenRound) (ks ++ k.Sign s.CloseRound ∷ []) (block at with_else) (bracket-fits at with_else (k.Sign s.OpenRound) refl refl)
      (goes-join (x.Bracket None false ∷ within) (x.Bracket None false ∷ within) within [] [] [] ks (k.Sign s.CloseRound ∷ []) (h.goes within)
      (token (x.Bracket None false) within within [] [] (k.Sign s.CloseRound) [] bracket refl (stop (x.Block point.Within with_else) cs [] (block point.Within with_else))));
}

pub segment-headed : (at : Point) (word : Word) (ks : Kinds) → IsClosed ks → Segment at (k.Word word ∷ in_round ks) point.Within
segment-headed at word ks h = segment-word at point.Within word (in_round ks) (segment-round point.Within ks h)

-- the same before a block in content

abbrev pub is_if : Word → Bool
is_if w.If = true
is_if _ = false

round-head : (with_else : Bool) (cs : List Context) (ks : Kinds) → IsClosed ks → Goes (x.Head with_else ∷ cs) [] (in_round ks) (x.Head with_else ∷ cs) []
unfolding opens closes
round-head with_else cs ks h =
    let outer = x.Head with_else ∷ cs in
    token (x.Head with_else) cs outer [] [] (k.Sign s.OpenRound) (ks ++ k.Sign s.CloseRound ∷ []) (head with_else) refl
    (goes-join (x.Bracket None false ∷ outer) (x.Bracket None false ∷ outer) outer [] [] [] ks (k.Sign s.CloseRound ∷ []) (h.goes outer)
    (token (x.Bracket None false) outer outer [] [] (k.Sign s.CloseRound) [] bracket refl (stop (x.Head with_else) cs [] (head with_else))))

-- the words that begin code with a block
pub data BeginsBlock : Word → Type 0 where
  by_if : BeginsBlock w.If
  by_switch : BeginsBlock w.Switch
  by_for : BeginsBlock w.For
  by_foreach : BeginsBlock w.Foreach
  by_while : BeginsBlock w.While

pub head-goes : (word : Word) (cs : List Context) (ks : Kinds) → BeginsBlock word → IsClosed ks → Goes (x.Head false ∷ cs) [] (k.Word word ∷ in_round ks) (x.Head (is_if word) ∷ cs) []
head-goes _ cs ks by_if h = token (x.Head false) cs (x.Head true ∷ cs) [] [] (k.Word w.If) (in_round ks) (head false) refl (round-head true cs ks h)
head-goes _ cs ks by_switch h = token (x.Head false) cs (x.Head false ∷ cs) [] [] (k.Word w.Switch) (in_round ks) (head false) refl (round-head false cs ks h)
head-goes _ cs ks by_for h = token (x.Head false) cs (x.Head false ∷ cs) [] [] (k.Word w.For) (in_round ks) (head false) refl (round-head false cs ks h)
head-goes _ cs ks by_foreach h = token (x.Head false) cs (x.Head false ∷ cs) [] [] (k.Word w.Foreach) (in_round ks) (head false) refl (round-head false cs ks h)
head-goes _ cs ks by_while h = token (x.Head false) cs (x.Head false ∷ cs) [] [] (k.Word w.While) (in_round ks) (head false) refl (round-head false cs ks h)

pub headed-code : (word : Word) (ks : Kinds) → IsClosed ks → IsCode (k.Word word ∷ in_round ks)
headed-code word ks h = rd.worded word (in_round ks) (rd.signed s.OpenRound (ks ++ k.Sign s.CloseRound ∷ []) refl (rd.up_to ks s.CloseRound [] refl h.code c.none))

-- strict code

pub segment-strict : (at : Point) (ks : Kinds) → IsCode ks → ((ts : List Token) → Are ks ts [] → Nests true ts [] × MayBegin at ts)
    → (with_else : Bool) (cs : List Context) → (last : Point) × Goes (x.Block at with_else ∷ cs) [] ks (x.Block last with_else ∷ cs) []
segment-strict at ks code nests with_else cs =
    let h = code-spelled ks code in
    let two = nests h.tokens h.are in
    let found = runs with_else cs true h.tokens [] refl two.0 at two.1 in
    let same : found.kinds ≡ ks = are-kinds found.kinds h.tokens [] refl found.are ∙ sym (are-kinds ks h.tokens [] refl h.are) in
    (found.last, subst (λ z. Goes (x.Block at with_else ∷ cs) [] z (x.Block found.last with_else ∷ cs) []) same found.goes)

-- it, and a semicolon
pub segment-ended : (at : Point) (ks : Kinds) → IsCode ks → ((ts : List Token) → Are ks ts [] → Nests true ts [] × MayBegin at ts) → Segment at (ended ks) point.Begins
segment-ended at ks code nests = record {
  code = c.join ks (k.Sign s.Semicolon ∷ []) code (rd.signed s.Semicolon [] refl c.none);
  goes = λ with_else cs.
      let found = segment-strict at ks code nests with_else cs in
      goes-join _ (x.Block found.0 with_else ∷ cs) _ [] [] [] ks (k.Sign s.Semicolon ∷ []) found.1 ((segment-semicolon found.0).goes with_else cs);
}

-- the first tokens of simple statements

core-front : (nullable : Bool) (ts rest : List Token) (a : TypeExpr) → ty.WritesCore nullable ts rest a → Fronted ts
core-front _ _ _ _ (ty.plain nullable word kind t rest is says) = fronted (k.Word word) t rest is refl
core-front _ _ _ _ (ty.name x t rest is) = fronted (k.Name x) t rest is refl
core-front _ _ _ _ (ty.list t o d ts rest a is less inner greater) = fronted (k.Word w.ImmutableList) t (o ∷ ts) is refl
core-front _ _ _ _ (ty.callback t rest is) = fronted (k.Word w.EventCallback) t rest is refl
core-front _ _ _ _ (ty.callback_of t o d ts rest a is less inner greater) = fronted (k.Word w.EventCallback) t (o ∷ ts) is refl
core-front _ _ _ _ (ty.fragment t rest is) = fronted (k.Word w.RenderFragment) t rest is refl
core-front _ _ _ _ (ty.fragment_of t o d ts rest a is less inner greater) = fronted (k.Word w.RenderFragment) t (o ∷ ts) is refl

type-front : (ts rest : List Token) (a : TypeExpr) → ty.WritesType ts rest a → Fronted ts
type-front _ _ _ (ty.bare nullable ts rest a core) = core-front nullable ts rest a core
type-front _ _ _ (ty.marked q ts rest a core is) = core-front true ts (q ∷ rest) a core

change-front : (q : Place) (ts rest : List Token) (a : Expr) → g.Changes q ts rest a → Fronted ts
change-front _ _ _ _ (g.assign x sign op q m t ts rest a is sets op_is value) = fronted (k.Name x) m (t ∷ ts) is refl
change-front _ _ _ _ (g.step x sign op m t rest is steps op_is) = fronted (k.Name x) m (t ∷ rest) is refl

act-front : (q : Place) (ts rest : List Token) (a : Expr) → g.Acts q ts rest a → Fronted ts
act-front _ _ _ _ (g.change q ts rest a h) = change-front q ts rest a h
act-front _ _ _ _ (g.call q r ts rest f bs h) = front_of 0 q ts rest _ h

declares-front : (q : Place) (ts rest : List Token) (a : Option TypeExpr) → g.Declares q ts rest a → Fronted ts
declares-front _ _ _ _ (g.by_value t rest is) = fronted (k.Word w.Var) t rest is refl
declares-front _ _ _ _ (g.by_type ts rest a h) = type-front ts rest a h

simple-front : (q : Place) (ts rest : List Token) (kind : StmtKind) → g.Simple q ts rest kind → Fronted ts
simple-front _ _ _ _ (g.local x q m ts us rest a value declares is starts) = declares-front q ts (m ∷ us) a declares
simple-front _ _ _ _ (g.act q ts rest a h) = act-front q ts rest a h

may-begin : (at : Point) (ts : List Token) → Fronted ts → MayBegin at ts
may-begin at ts f = subst (λ z. MayBegin at z) f.is (some_token at f.u f.us (plain at f.u.kind f.free))

-- statements

word-ended : (at : Point) (word : Word) → Segment at (k.Word word ∷ k.Sign s.Semicolon ∷ []) point.Begins
word-ended at word = segment-word at point.Begins word (k.Sign s.Semicolon ∷ []) (segment-semicolon point.Within)

later-tokens : (ts : List Token) (rest : List Token) (t : Token) → AreProper (t ∷ ts) → AreProper ts
later-tokens _ rest _ (wr.one_token t ts is apart more) = more

await-is : (a : Printed) → p.await_of a ≡ k.Word w.Await ∷ ended (whole a)
unfolding p.await_of
await-is a = refl

return-is : (a : Option Printed) → p.return_of a ≡ k.Word w.Return ∷ ended (optional a)
unfolding p.return_of
return-is a = refl

pub statement-segment : (at : Point) (ts : List Token) (a : Stmt) → OneStatement ts a → AreProper ts → Segment at (statement_kinds a) point.Begins
statement-segment at _ _ (wr.simple q d ts kind h is) known =
    let found = simple q ts (d ∷ []) kind h (proper ts known) in
    segment-as at point.Begins (ended found.ks) _ (sym (law.statement_law (g.stmt q kind) ∙ found.is))
    (segment-ended at found.ks found.again.code (λ us are. let z = found.again.reads us [] are in (simple_nests true z.place us [] z.other z.spelled, may-begin at us (simple-front z.place us [] z.other z.spelled))))
statement-segment at _ _ (wr.empty d is) known = segment-as at point.Begins _ _ (sym (law.statement_law (g.stmt d.place st.Empty) ∙ law.stmt_empty)) (segment-semicolon at)
statement-segment at _ _ (wr.await_ q r o t m d ts a bs is h ends) known =
    let found = all _ (expression 0 q ts (d ∷ []) _ h (proper ts (later-tokens ts [] t known))).again in
    segment-as at point.Begins _ _ (sym (law.statement_law (g.stmt t.place (st.Await _)) ∙ law.stmt_await _ ∙ await-is _))
    (segment-word at point.Begins w.Await _ (segment-ended point.Within _ found.code (λ us are. let z = found.reads us [] are in (expression_nests true 0 z.place us [] z.tree z.spelled, may-later point.Within us refl))))
statement-segment at _ _ (wr.break_ t d is ends) known = segment-as at point.Begins _ _ (sym (law.statement_law (g.stmt t.place st.Break) ∙ law.stmt_break)) (word-ended at w.Break)
statement-segment at _ _ (wr.continue_ t d is ends) known = segment-as at point.Begins _ _ (sym (law.statement_law (g.stmt t.place st.Continue) ∙ law.stmt_continue)) (word-ended at w.Continue)
statement-segment at _ _ (wr.return_ t d ts value is h ends) known =
    let found = condition ts (d ∷ []) value h (proper ts (later-tokens ts [] t known)) in
    segment-as at point.Begins _ _ (sym (law.statement_law (g.stmt t.place (st.Return value)) ∙ law.stmt_return value ∙ return-is (option_map printed value)))
    (segment-word at point.Begins w.Return _ (segment-ended point.Within _ found.again.code (λ us are. let z = found.again.reads us [] are in (condition_nests true us [] z.other z.spelled, may-later point.Within us refl))))

-- labels

-- what stands there up to some rest
record Labelled (with_else : Bool) (cs : List Context) (ts rest : List Token) : Type 0 where
  kinds : Kinds
  are : Are kinds ts rest
  goes : (at : Point) → Goes (x.Block at with_else ∷ cs) [] kinds (x.Block point.Begins with_else ∷ cs) []

label-goes : (with_else : Bool) (cs : List Context) (ts rest : List Token) (a : Label) → g.Labelled ts rest a → Labelled with_else cs ts rest
label-goes with_else cs _ _ _ (g.case_of t d ts rest a is constant colon) =
    let found = runs with_else cs true ts (d ∷ rest) refl (constant_nests true ts (d ∷ rest) a constant) point.Within (may-later point.Within ts refl) in
    record {
      kinds = k.Word w.Case ∷ (found.kinds ++ k.Sign s.Colon ∷ []);
      are = l.cons (k.Word w.Case) t _ ts rest is (are-join found.kinds (k.Sign s.Colon ∷ []) ts (d ∷ rest) rest found.are (l.cons (k.Sign s.Colon) d [] rest rest colon (l.nil rest)));
      goes = λ at. block-token at with_else cs (x.Block point.Begins with_else ∷ cs) (k.Word w.Case) (found.kinds ++ k.Sign s.Colon ∷ []) (bracket-fits at with_else (k.Word w.Case) refl refl) refl refl
          (goes-join _ (x.Block found.last with_else ∷ cs) _ [] [] [] found.kinds (k.Sign s.Colon ∷ []) found.goes ((segment-colon found.last).goes with_else cs));
    }
label-goes with_else cs _ _ _ (g.default t d rest is colon) = record {
  kinds = k.Word w.Default ∷ k.Sign s.Colon ∷ [];
  are = l.cons (k.Word w.Default) t _ (d ∷ rest) rest is (l.cons (k.Sign s.Colon) d [] rest rest colon (l.nil rest));
  goes = λ at. block-token at with_else cs (x.Block point.Begins with_else ∷ cs) (k.Word w.Default) (k.Sign s.Colon ∷ []) (bracket-fits at with_else (k.Word w.Default) refl refl) refl refl ((segment-colon point.Within).goes with_else cs);
}

all-labels : (with_else : Bool) (cs : List Context) (ts rest : List Token) (xs : List Label) → g.Labels ts rest xs → Labelled with_else cs ts rest
all-labels with_else cs _ _ _ (g.Labels.one ts rest a h) = label-goes with_else cs ts rest a h
all-labels with_else cs _ _ _ (g.Labels.more ts us rest a others h later) =
    let one = label-goes with_else cs ts us a h in
    let two = all-labels with_else cs us rest others later in
    record {
      kinds = one.kinds ++ two.kinds;
      are = are-join one.kinds two.kinds ts us rest one.are two.are;
      goes = λ at. goes-join _ (x.Block point.Begins with_else ∷ cs) _ [] [] [] one.kinds two.kinds (one.goes at) (two.goes point.Begins);
    }

pub labels-segment : (at : Point) (xs : List Label) → IsWritten (λ ts z. g.Labels ts [] z) xs → Segment at (labels_kinds xs) point.Begins
labels-segment at xs h =
    let found = labels h.tokens [] xs h.tree (proper h.tokens h.proper) in
    record {
      code = found.again.code;
      goes = λ with_else cs.
          let spelled = code-spelled (labels_kinds xs) found.again.code in
          let z = found.again.reads spelled.tokens [] spelled.are in
          let here = all-labels with_else cs spelled.tokens [] z.others z.spelled in
          let same : here.kinds ≡ labels_kinds xs = are-kinds here.kinds spelled.tokens [] refl here.are ∙ sym (are-kinds (labels_kinds xs) spelled.tokens [] refl spelled.are) in
          subst (λ y. Goes (x.Block at with_else ∷ cs) [] y (x.Block point.Begins with_else ∷ cs) []) same (here.goes at);
    }
