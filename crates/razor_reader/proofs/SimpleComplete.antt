-- What statements without markup and labels spell is read.
use Rattle.std.proofs.Common.{◌≡◌, ℕ, zero, suc, ◌+◌, ◌<◌, ◌≤◌, List, [], ◌∷◌, ◌++◌, length, refl, sym, ap, ◌∙◌, subst, arith, length-append}
use Rattle.std.specs.Prelude.{ℤ, Bool, true, false, not, ◌&&◌, ◌||◌, if◌then◌else◌, Option, Some, None}
use Rattle.std.specs.List.{list_all}
use Rattle.std.proofs.lemmas.Bool.{and_parts}
use Rattle.text_core.specs.declared.place.Place.{Place}
use Rattle.cs_ast.specs.declared.expression.Label.{Label}
use Rattle.cs_ast.specs.declared.expression.LabelKind.{LabelKind}
use Rattle.cs_ast.specs.declared.expression.LabelKind.TheVariants as lk
use Rattle.cs_ast.specs.declared.expression.Stmt.{Stmt}
use Rattle.cs_ast.specs.declared.expression.StmtKind.{StmtKind, StmtKind-F, out-StmtKind}
use Rattle.cs_ast.specs.declared.expression.StmtKind.TheVariants as st
use Rattle.cs_token.specs.declared.token.Token.{Token}
use Rattle.cs_token.specs.declared.token.TokenKind.{TokenKind}
use Rattle.cs_token.specs.declared.token.TokenKind.TheVariants as t
use Rattle.cs_token.specs.declared.token.Sign.{Sign}
use Rattle.cs_token.specs.declared.token.Sign.TheVariants as s
use Rattle.cs_token.specs.declared.token.Word.{Word}
use Rattle.cs_token.specs.declared.token.Word.TheVariants as w
use Rattle.cs_grammar.specs.Nesting.{too_deep}
use Rattle.cs_grammar.specs.Statements.{Jumps, Statement, Statements, Labelled, Constant, no_jumps, stmt}
use Rattle.cs_grammar.specs.Statements as cs
use Rattle.razor_token.specs.declared.piece.Piece.{Piece}
use Rattle.razor_token.specs.declared.piece.PieceKind.TheVariants as k
use Rattle.razor_ast.specs.declared.node.TNode.TheVariants as nd
use Rattle.razor_ast.specs.Brackets.{Split, with_token}
use Rattle.razor_ast.specs.Pieces.{code, codes_of}
use Rattle.razor_ast.specs.Statements.{IsSimple, Simple, IsLabel, SomeLabels, is_semicolon, is_colon}
use Rattle.razor_ast.specs.Statements as g
use Rattle.razor_reader.specs.declared.frame.Next.{Next}
use Rattle.razor_reader.specs.declared.frame.Next.TheVariants as nx
use Rattle.razor_reader.specs.declared.mark.Mark.{Mark}
use Rattle.razor_reader.specs.declared.mark.Mark.TheVariants as m
use Rattle.razor_reader.specs.Marks.{is_mark, is_token, token_mark, sign_mark, word_mark, mark_number}
use Rattle.razor_reader.specs.Reading.{Read, Numbered, ◌>>=◌, has}
use Rattle.razor_reader.specs.TokenReading.{code_to_from, code_to}
use Rattle.razor_reader.specs.CodeReading.{is_simple, only, all_statements, simple}
use Rattle.razor_reader.specs.HeadReading.{has_label, constant_word, constant, negative, label, label_of, label_first, labels_in, labels_first}
use Rattle.razor_reader.specs.StatementReading.{simple_statement}
use Rattle.razor_reader.proofs.CodeLemmas.{is_body}
use Rattle.razor_reader.proofs.ReadLemmas.{not_true}
use Rattle.razor_reader.proofs.ValueComplete.{FlatPieces, bind_is}

-- tokens up to and with the first of a mark

code_to_is : (mark : Mark) (ts : List Token) (c : Token) (rest : List Piece) → list_all (λ u. not (is_token mark u.kind)) ts ≡ true → is_token mark c.kind ≡ true
    → code_to mark (codes_of (ts ++ c ∷ []) ++ rest) ≡ Some (ts ++ c ∷ [], rest)
code_to_is mark [] c rest none is = ap (λ (b : Bool). if b then Some (c ∷ [], rest) else with_token c (code_to mark rest)) is
code_to_is mark (u ∷ ts) c rest none is =
    let parts = and_parts (not (is_token mark u.kind)) (list_all (λ u. not (is_token mark u.kind)) ts) none in
    ap (λ (b : Bool). if b then Some (u ∷ [], codes_of (ts ++ c ∷ []) ++ rest) else with_token u (code_to mark (codes_of (ts ++ c ∷ []) ++ rest))) (not_true (is_token mark u.kind) parts.0)
    ∙ ap (with_token u) (code_to_is mark ts c rest parts.1 is)

sign_semicolon : (sign : Sign) → is_semicolon (t.Sign sign) ≡ is_token m.Semicolon (t.Sign sign)
unfolding sign_mark mark_number
sign_semicolon s.Semicolon = refl
sign_semicolon _ = refl

word_semicolon : (word : Word) → is_semicolon (t.Word word) ≡ is_token m.Semicolon (t.Word word)
unfolding word_mark mark_number
word_semicolon w.If = refl
word_semicolon _ = refl

pub same_semicolon : (kind : TokenKind) → is_semicolon kind ≡ is_token m.Semicolon kind
unfolding mark_number
same_semicolon (t.Sign sign) = sign_semicolon sign
same_semicolon (t.Word word) = word_semicolon word
same_semicolon _ = refl

sign_colon : (sign : Sign) → is_colon (t.Sign sign) ≡ is_token m.Colon (t.Sign sign)
unfolding sign_mark mark_number
sign_colon s.Colon = refl
sign_colon _ = refl

word_colon : (word : Word) → is_colon (t.Word word) ≡ is_token m.Colon (t.Word word)
unfolding word_mark mark_number
word_colon w.If = refl
word_colon _ = refl

same_colon : (kind : TokenKind) → is_colon kind ≡ is_token m.Colon kind
unfolding mark_number
same_colon (t.Sign sign) = sign_colon sign
same_colon (t.Word word) = word_colon word
same_colon _ = refl

all_same : (one other : TokenKind → Bool) → ((kind : TokenKind) → one kind ≡ other kind) → (ts : List Token) → list_all (λ u. not (one u.kind)) ts ≡ list_all (λ u. not (other u.kind)) ts
all_same one other same [] = refl
all_same one other same (u ∷ ts) =
    ap (λ (b : Bool). not b && list_all (λ u. not (one u.kind)) ts) (same u.kind) ∙ ap (λ (b : Bool). not (other u.kind) && b) (all_same one other same ts)

-- a statement behind which `else` may stand is one behind which none needs to

no_else : (j : Jumps) (f : Bool) (ts rest : List Token) (a : Stmt) → Statement j f ts rest a → Statement j false ts rest a
no_else _ _ _ _ _ (cs.simple j f p c ts rest kind h i) = cs.simple j false p c ts rest kind h i
no_else _ _ _ _ _ (cs.empty j f c rest i) = cs.empty j false c rest i
no_else _ _ _ _ _ (cs.block j f o c ts rest body i h k) = cs.block j false o c ts rest body i h k
no_else _ _ _ _ _ (cs.if_alone j p u o c ts us rest a one i1 i2 h i3 x) = cs.if_alone j p u o c ts us rest a one i1 i2 h i3 x
no_else _ _ _ _ _ (cs.if_else j f p u o c d ts us vs rest a one two i1 i2 h i3 x i4 y) = cs.if_else j false p u o c d ts us vs rest a one two i1 i2 h i3 x i4 (no_else j f vs rest two y)
no_else _ _ _ _ _ (cs.while_ j f p u o c ts us rest a body i1 i2 h i3 x) = cs.while_ j false p u o c ts us rest a body i1 i2 h i3 (no_else _ f us rest body x)
no_else _ _ _ _ _ (cs.for_ j f u o v n c ts us vs xs rest start condition step body i1 i2 h1 i3 h2 i4 h3 i5 x) =
    cs.for_ j false u o v n c ts us vs xs rest start condition step body i1 i2 h1 i3 h2 i4 h3 i5 (no_else _ f xs rest body x)
no_else _ _ _ _ _ (cs.foreach_ j f x p u o v n i c ts us rest a body i1 i2 i3 i4 i5 h i6 y) =
    cs.foreach_ j false x p u o v n i c ts us rest a body i1 i2 i3 i4 i5 h i6 (no_else _ f us rest body y)
no_else _ _ _ _ _ (cs.switch_ j f p u o c b d ts us rest a sections i1 i2 h i3 i4 x i5) = cs.switch_ j false p u o c b d ts us rest a sections i1 i2 h i3 i4 x i5
no_else _ _ _ _ _ (cs.await_ j f p q r u n c ts rest a bs i1 h i2) = cs.await_ j false p q r u n c ts rest a bs i1 h i2
no_else _ _ _ _ _ (cs.break_ j f u c rest e i1 i2) = cs.break_ j false u c rest e i1 i2
no_else _ _ _ _ _ (cs.continue_ j f u c rest e i1 i2) = cs.continue_ j false u c rest e i1 i2
no_else _ _ _ _ _ (cs.return_ j f u c ts rest value i1 h i2) = cs.return_ j false u c ts rest value i1 h i2

pub simple_is : (p : Place) (kind : StmtKind) → IsSimple kind → is_simple (stmt p kind) ≡ true
simple_is p _ (g.local a name value) = ap (λ x. elim x [ StmtKind-F.Local cs_type name value ↦ true | StmtKind-F.Empty ↦ true | StmtKind-F.Expr b ↦ true | StmtKind-F.Await b ↦ true | StmtKind-F.Return value ↦ true | _ ↦ false ]) (st.outs-Local a name value)
simple_is p _ g.empty = ap (λ x. elim x [ StmtKind-F.Local cs_type name value ↦ true | StmtKind-F.Empty ↦ true | StmtKind-F.Expr b ↦ true | StmtKind-F.Await b ↦ true | StmtKind-F.Return value ↦ true | _ ↦ false ]) st.outs-Empty
simple_is p _ (g.act a) = ap (λ x. elim x [ StmtKind-F.Local cs_type name value ↦ true | StmtKind-F.Empty ↦ true | StmtKind-F.Expr b ↦ true | StmtKind-F.Await b ↦ true | StmtKind-F.Return value ↦ true | _ ↦ false ]) (st.outs-Expr a)
simple_is p _ (g.await_ a) = ap (λ x. elim x [ StmtKind-F.Local cs_type name value ↦ true | StmtKind-F.Empty ↦ true | StmtKind-F.Expr b ↦ true | StmtKind-F.Await b ↦ true | StmtKind-F.Return value ↦ true | _ ↦ false ]) (st.outs-Await a)
simple_is p _ (g.return_ value) = ap (λ x. elim x [ StmtKind-F.Local cs_type name value ↦ true | StmtKind-F.Empty ↦ true | StmtKind-F.Expr b ↦ true | StmtKind-F.Await b ↦ true | StmtKind-F.Return value ↦ true | _ ↦ false ]) (st.outs-Return value)

pub semicolon_is : is_token m.Semicolon (t.Sign s.Semicolon) ≡ true
unfolding sign_mark mark_number
semicolon_is = refl

pub simple_read : (ts : List Token) (a : Stmt) → too_deep ts ≡ None → Statement no_jumps false ts [] a → IsSimple a.kind → simple ts ≡ Some a
simple_read ts a flat h kind =
    bind_is (all_statements ts) (a ∷ []) (λ body. (only body >>= λ a. if is_simple a then Some a else None))
    (is_body ts (a ∷ []) (flat, cs.more_statements no_jumps ts [] [] a [] h (cs.no_statement no_jumps [])))
    ∙ ap (λ (b : Bool). if b then Some a else None) (simple_is a.place a.kind kind)

pub simple_complete : (ps rest : List Piece) (n : ℕ) (a : Stmt) → FlatPieces ps → Simple ps rest a → simple_statement false n ps ≡ Some (nx.Done (nd.Statement a), n, rest)
simple_complete _ _ n _ f (g.simple ts c rest a none is h kind) =
    let whole : List Token = ts ++ c ∷ [] in
    let first : code_to m.Semicolon (codes_of whole ++ rest) ≡ Some (whole, rest) =
    code_to_is m.Semicolon ts c rest (sym (all_same is_semicolon (is_token m.Semicolon) same_semicolon ts) ∙ none) (ap (is_token m.Semicolon) is ∙ semicolon_is) in
    let read : simple whole ≡ Some a = simple_read whole a (f.flat [] whole rest refl) (no_else no_jumps true whole [] a h) kind in
    bind_is (code_to m.Semicolon (codes_of whole ++ rest)) (whole, rest) (λ x. (simple x.0 >>= λ a. Some (nx.Done (nd.Statement a), n, x.1))) first
    ∙ bind_is (simple whole) a (λ a. Some (nx.Done (nd.Statement a), n, rest)) read

-- labels

case_is : is_token m.Case (t.Word w.Case) ≡ true
unfolding word_mark mark_number
case_is = refl

default_is : is_token m.Default (t.Word w.Default) ≡ true
unfolding word_mark mark_number
default_is = refl

default_no_case : is_token m.Case (t.Word w.Default) ≡ false
unfolding word_mark mark_number
default_no_case = refl

minus_is : is_token m.Minus (t.Sign s.Minus) ≡ true
unfolding sign_mark mark_number
minus_is = refl

colon_is : is_token m.Colon (t.Sign s.Colon) ≡ true
unfolding sign_mark mark_number
colon_is = refl

abbrev of_constant : Token → Token → Bool → Option Label
of_constant u a b = if not b then None else (constant a.kind >>= λ kind. Some (label a kind))

constant_is : (u a c : Token) (kind : LabelKind) → u.kind ≡ t.Word w.Case → constant a.kind ≡ Some kind → label_of (u ∷ a ∷ c ∷ []) ≡ Some (label a kind)
constant_is u a c kind i e = ap (of_constant u a) (ap (is_token m.Case) i ∙ case_is) ∙ bind_is (constant a.kind) kind (λ kind. Some (label a kind)) e

label_of_is : (ts : List Token) (a : Label) → Labelled ts [] a → label_of ts ≡ Some a
unfolding constant_word
label_of_is _ _ (cs.case_of u c _ _ _ i (cs.number n a _ e) j) = constant_is u a c (lk.Int n) i (ap constant e)
label_of_is _ _ (cs.case_of u c _ _ _ i (cs.minus n x a _ e1 e2) j) =
    ap (λ (b : Bool). if not b || not (is_token m.Minus x.kind) then None else (negative a.kind >>= λ kind. Some (label x kind))) (ap (is_token m.Case) i ∙ case_is)
    ∙ ap (λ (b : Bool). if not b then None else (negative a.kind >>= λ kind. Some (label x kind))) (ap (is_token m.Minus) e1 ∙ minus_is)
    ∙ bind_is (negative a.kind) _ (λ kind. Some (label x kind)) (ap negative e2)
label_of_is _ _ (cs.case_of u c _ _ _ i (cs.text x a _ e) j) = constant_is u a c (lk.Text x) i (ap constant e)
label_of_is _ _ (cs.case_of u c _ _ _ i (cs.yes a _ e) j) = constant_is u a c (lk.Bool true) i (ap constant e)
label_of_is _ _ (cs.case_of u c _ _ _ i (cs.no a _ e) j) = constant_is u a c (lk.Bool false) i (ap constant e)
label_of_is _ _ (cs.case_of u c _ _ _ i (cs.null a _ e) j) = constant_is u a c lk.Null i (ap constant e)
label_of_is _ _ (cs.default u c _ i j) = ap (λ (b : Bool). if not b then None else Some (label u lk.Default)) (ap (is_token m.Default) i ∙ default_is)

labelled_begins : (ts : List Token) (a : Label) (rest : List Piece) → Labelled ts [] a → has_label (codes_of ts ++ rest) ≡ true
labelled_begins _ _ rest (cs.case_of u c ts _ _ i h j) = ap (λ (b : Bool). b || has m.Default (code u ∷ (codes_of ts ++ rest))) (ap (is_token m.Case) i ∙ case_is)
labelled_begins _ _ rest (cs.default u c _ i j) =
    ap (λ (b : Bool). b || is_token m.Default u.kind) (ap (is_token m.Case) i ∙ default_no_case) ∙ ap (is_token m.Default) i ∙ default_is

label_first_is : (ps rest : List Piece) (a : Label) → IsLabel ps rest a → label_first ps ≡ Some (a, rest)
label_first_is _ _ _ (g.label ts c rest a none is h) =
    let whole : List Token = ts ++ c ∷ [] in
    bind_is (code_to m.Colon (codes_of whole ++ rest)) (whole, rest) (λ x. (label_of x.0 >>= λ a. Some (a, x.1)))
    (code_to_is m.Colon ts c rest (sym (all_same is_colon (is_token m.Colon) same_colon ts) ∙ none) (ap (is_token m.Colon) is ∙ colon_is))
    ∙ bind_is (label_of whole) a (λ a. Some (a, rest)) (label_of_is whole a h)

label_begins : (ps rest : List Piece) (a : Label) → IsLabel ps rest a → has_label ps ≡ true
label_begins _ _ _ (g.label ts c rest a none is h) = labelled_begins (ts ++ c ∷ []) a rest h

label_shorter : (ps rest : List Piece) (a : Label) → IsLabel ps rest a → length rest < length ps
label_shorter _ _ _ (g.label ts c rest a none is h) = longer ts
  where
    longer : (ts : List Token) → length rest < length (codes_of (ts ++ c ∷ []) ++ rest)
    longer [] = omega arith
    longer (u ∷ ts) = let less = longer ts in omega arith

pub labels_begin : (ps rest : List Piece) (labels : List Label) → SomeLabels ps rest labels → has_label ps ≡ true
labels_begin _ _ _ (g.one ps rest a h) = label_begins ps rest a h
labels_begin _ _ _ (g.more ps us rest a labels h next) = label_begins ps us a h

abbrev labels_step : ℕ → Label → List Piece → Bool → Read (List Label)
labels_step n a rest b = if b then (labels_in n rest >>= λ y. Some (a ∷ y.0, y.1)) else Some (a ∷ [], rest)

labels_in_is : (n : ℕ) (ps rest : List Piece) (labels : List Label) → length ps ≤ n → has_label rest ≡ false → SomeLabels ps rest labels → labels_in n ps ≡ Some (labels, rest)
unfolding labels_in
labels_in_is zero _ _ _ short stops (g.one ps rest a h) = let less = label_shorter ps rest a h in absurd (omega arith)
labels_in_is (suc n) _ _ _ short stops (g.one ps rest a h) =
    bind_is (label_first ps) (a, rest) (λ x. labels_step n x.0 x.1 (has_label x.1)) (label_first_is ps rest a h) ∙ ap (labels_step n a rest) stops
labels_in_is zero _ _ _ short stops (g.more ps us rest a labels h next) = let less = label_shorter ps us a h in absurd (omega arith)
labels_in_is (suc n) _ _ _ short stops (g.more ps us rest a labels h next) =
    let less = label_shorter ps us a h in
    bind_is (label_first ps) (a, us) (λ x. labels_step n x.0 x.1 (has_label x.1)) (label_first_is ps us a h)
    ∙ ap (labels_step n a us) (labels_begin us rest labels next)
    ∙ bind_is (labels_in n us) (labels, rest) (λ y. Some (a ∷ y.0, y.1)) (labels_in_is n us rest labels (omega arith) stops next)

pub labels_complete : (ps rest : List Piece) (labels : List Label) → has_label rest ≡ false → SomeLabels ps rest labels → labels_first ps ≡ Some (labels, rest)
unfolding labels_first
labels_complete ps rest labels stops h = labels_in_is (length ps) ps rest labels (omega arith) stops h
