-- Content and code with markup that stand in a text are printable: by recursion on how they are spelled.
use Rattle.std.proofs.Common.{◌≡◌, ℕ, ◌+◌, Bool, true, false, List, [], ◌∷◌, ◌++◌, length, Some, None, refl, sym, ap, ◌∙◌, subst, append-nil}
use Rattle.std.specs.Prelude.{◌-◌, codes, if◌then◌else◌}
use Rattle.std.specs.declared.option.Option.{Option}
use Rattle.std.specs.List.{list_all}
use Rattle.std.proofs.lemmas.Bool.{false≢true}
use Rattle.text_core.specs.declared.place.Place.{Place}
use Rattle.cs_ast.specs.declared.expression.Expr.{Expr}
use Rattle.cs_ast.specs.declared.expression.StmtKind.TheVariants as st
use Rattle.cs_token.specs.declared.token.Token.{Token}
use Rattle.cs_token.specs.declared.token.TokenKind.TheVariants as t
use Rattle.cs_token.specs.declared.token.Sign.TheVariants as s
use Rattle.cs_token.specs.declared.token.Word.{Word}
use Rattle.cs_token.specs.declared.token.Word.TheVariants as w
use Rattle.cs_grammar.specs.Expressions.{SpelledExpression}
use Rattle.cs_grammar.specs.Statements.{Jumps, no_jumps, in_loop, in_switch, defaults, stmt}
use Rattle.cs_grammar.specs.Tokens.{ident}
use Rattle.razor_token.specs.declared.piece.Piece.{Piece}
use Rattle.razor_token.specs.declared.piece.PieceKind.{PieceKind}
use Rattle.razor_token.specs.declared.piece.PieceKind.TheVariants as k
use Rattle.razor_token.specs.declared.runs.RunKind.TheVariants as r
use Rattle.razor_token.specs.Tags.{is_component, is_void}
use Rattle.razor_ast.specs.declared.attribute.Attribute.{Attribute}
use Rattle.razor_ast.specs.declared.node.TNode.{TNode}
use Rattle.razor_ast.specs.declared.node.TNode.TheVariants as nd
use Rattle.razor_ast.specs.declared.node.TSection.{TSection}
use Rattle.razor_ast.specs.Literals.{literal_run, place_of, is_edge, is_raw, is_kept, text_node, text_nodes}
use Rattle.razor_ast.specs.Nodes.{Spaced, Inside, Tag, Item, Content, Code, Within, Otherwise, Line, Lines, Sections, tag_node}
use Rattle.razor_ast.specs.Nodes as spelled
use Rattle.razor_ast.specs.Pieces.{IsKind, IsSign, IsWord}
use Rattle.razor_ast.specs.Brackets.{Round, token_of}
use Rattle.printed_pieces.specs.Names.{IsTagName}
use Rattle.printed_pieces.specs.Places.{is_said}
use Rattle.printed_pieces.specs.Printable.{ArePrintable}
use Rattle.printed_pieces.specs.PrintableNodes.{IsContentText, content_text, ContentPrints, ItemPrints, TagPrints, CodePrints, BodyPrints, OtherwisePrints, StatementPrints, LinePrints, LinesPrint, SectionsPrint}
use Rattle.printed_pieces.specs.PrintableNodes as prints
use Rattle.printed_pieces.specs.Written.{AreProper, IsLexeme, IsWritten, OneStatement, one_token, no_token}
use Rattle.printed_pieces.specs.Written as written
use Rattle.printable_texts.specs.Stands.{content, end_tag, tag, named, Stands}
use Rattle.printable_texts.proofs.TokenLaws.{step, piece_lexeme, round_stands}
use Rattle.printable_texts.proofs.CodeLaws.{shown_written, simple_written, for_written, foreach_written}
use Rattle.printable_texts.proofs.LabelLaws.{labels_written}
use Rattle.printable_texts.proofs.ValueLaws.{all_both, run_is}
use Rattle.printable_texts.proofs.AttributeLaws.{Behind_attributes, in_tag, behind_a_name, attributes_print}

-- literal text of content
is_all : (x : List ℕ) → IsContentText x → list_all (is_said r.Content) x ≡ true
is_all _ (content_text c text e) = e

pub run_said : (ps : List Piece) → Stands content ps → (list_all (is_said r.Content) (literal_run ps).0 ≡ true) × Stands content (literal_run ps).1
run_said ps here =
    run_is (Stands content) (λ text. list_all (is_said r.Content) text ≡ true) refl (
    λ x text p us one there.
    let first = step content (k.Literal x) p us one there in (first.2, λ e. all_both (is_said r.Content) x text (is_all x first.1) e)
    ) ps here

pub run_of_text : (ps us : List Piece) (text : List ℕ) → literal_run ps ≡ (text, us) → Stands content ps → (list_all (is_said r.Content) text ≡ true) × Stands content us
run_of_text ps us text e here = let found = run_said ps here in (subst (λ z. list_all (is_said r.Content) z ≡ true) (ap (λ z. z.0) e) found.0, subst (Stands content) (ap (λ z. z.1) e) found.1)

-- nodes of literal text before others that aren't
text_prints : (n : ℕ) (p : Place) (c : ℕ) (text : List ℕ) (others : List TNode) → list_all (is_said r.Content) (c ∷ text) ≡ true → ContentPrints true others → ContentPrints false (text_node n p (c ∷ text) ∷ others)
text_prints n p c text others all h = go (is_raw (c ∷ text))
  where
    go : (b : Bool) → ContentPrints false ((if b then nd.Raw n p (c ∷ text) else nd.Text n p (c ∷ text)) ∷ others)
    go true = prints.raw n p (c ∷ text) others (content_text c text all) h
    go false = prints.text n p (c ∷ text) others (content_text c text all) h

texts_print : (before behind : Bool) (n : ℕ) (p : Place) (text : List ℕ) (others : List TNode) → list_all (is_said r.Content) text ≡ true → ((b : Bool) → ContentPrints b others) → ContentPrints false (text_nodes before behind n p text ++ others)
texts_print before behind n p [] others all h = h false
texts_print before behind n p (c ∷ text) others all h = go (is_kept before behind (c ∷ text))
  where
    go : (b : Bool) → ContentPrints false ((if b then text_node n p (c ∷ text) ∷ [] else []) ++ others)
    go true = text_prints n p c text others all (h true)
    go false = h false

-- a word and its semicolon
jump : (word : Word) (u c : Piece) (rest : List Piece) → IsWord word u → IsSign s.Semicolon c → Stands content (u ∷ c ∷ rest) → Stands content rest
jump word u c rest on ends here = (step content (k.Code (t.Sign s.Semicolon)) c rest ends (step content (k.Code (t.Word word)) u (c ∷ rest) on here).2).2

spaced_tag : (component void : Bool) (ps us : List Piece) → Spaced ps us → Behind_attributes component void ps → Behind_attributes component void us
spaced_tag component void ps us (spelled.close _) here = here
spaced_tag component void _ us (spelled.apart space _ is) (in_tag _ here) = in_tag us (step (tag component void) k.Space space us is here).2
spaced_tag component void _ us (spelled.apart space _ is) (behind_a_name x _ here) = in_tag us (step (named component void x) k.Space space us is here).2

spaced_end : (ps us : List Piece) → Spaced ps us → Stands end_tag ps → Stands end_tag us
spaced_end ps us (spelled.close _) here = here
spaced_end _ us (spelled.apart space _ is) here = (step end_tag k.Space space us is here).2

-- the end tag behind content
ended : (name : List ℕ) (close end : Piece) (us rest : List Piece) → IsKind (k.EndTagStart name) close → Spaced us (end ∷ rest) → IsKind k.EndTagEnd end → Stands content (close ∷ us) → Stands content rest
ended name close end us rest is spaces ends here = (step end_tag k.EndTagEnd end rest ends (spaced_end us (end ∷ rest) spaces (step content (k.EndTagStart name) close us is here).2)).2

-- the end of a start tag
start_ends : (component void : Bool) (begin : Piece) (ps : List Piece) → IsKind k.ContentStart begin → Behind_attributes component void (begin ∷ ps) → (void ≡ false) × Stands content ps
start_ends component void begin ps is (in_tag _ here) = let one = step (tag component void) k.ContentStart begin ps is here in (one.1, one.2)
start_ends component void begin ps is (behind_a_name x _ here) = let one = step (named component void x) k.ContentStart begin ps is here in (one.1, one.2)

empty_ends : (component void : Bool) (end : Piece) (rest : List Piece) → IsKind k.EmptyTagEnd end → Behind_attributes component void (end ∷ rest) → Stands content rest
empty_ends component void end rest is (in_tag _ here) = (step (tag component void) k.EmptyTagEnd end rest is here).2
empty_ends component void end rest is (behind_a_name x _ here) = (step (named component void x) k.EmptyTagEnd end rest is here).2

tag_prints : (n : ℕ) (p : Piece) (name : List ℕ) (all : List Attribute) (children : List TNode) → IsTagName name → ArePrintable (is_component name) all → (is_void name ≡ true → children ≡ []) → ContentPrints false children
    → TagPrints (tag_node (is_component name) n p name all children)
tag_prints n p name all children is attributes void inner = go (is_component name)
  where
    go : (b : Bool) → TagPrints (tag_node b n p name all children)
    go true = prints.child n p.place (spelled.name_at p name) all children is attributes void inner
    go false = prints.element n p.place (spelled.name_at p name) all children is attributes void inner

-- an expression in round brackets
expression_written : (ts : List Token) (a : Expr) → SpelledExpression ts a → AreProper ts → IsWritten SpelledExpression a
expression_written ts a h proper = record { tokens = ts; proper = proper; tree = h }

-- a word, and an expression in brackets
head_stands : (word : Word) (u : Piece) (ps us : List Piece) (ts : List Token) → IsWord word u → Round ps ts us → Stands content (u ∷ ps) → AreProper ts × Stands content us
head_stands word u ps us ts on h here = round_stands content ps us ts h (piece_lexeme content (t.Word word) u ps on here).1

-- the kind of the first piece
abbrev is_brace : PieceKind → Bool
is_brace (k.Code (t.Sign s.OpenBrace)) = true
is_brace _ = false

abbrev is_if : PieceKind → Bool
is_if (k.Code (t.Word w.If)) = true
is_if _ = false

abbrev first_is : (PieceKind → Bool) → List Piece → Bool
first_is test [] = false
first_is test (p ∷ ps) = test p.kind

-- a statement of content, or of a block
abbrev Stated : Bool → TNode → Type 0
Stated true node = StatementPrints node
Stated false node = CodePrints false node

stated : (b : Bool) (node : TNode) → CodePrints b node → Stated b node
stated true node h = prints.statement_of_code node h
stated false node h = h

-- what is known of a statement: that it is printable, as a body where a brace begins it, and behind `else` where `if` does
record Coded (b : Bool) (ps rest : List Piece) (node : TNode) : Type 0 where
  code : Stated b node
  body : first_is is_brace ps ≡ true → BodyPrints b node
  chain : first_is is_if ps ≡ true → OtherwisePrints b node
  behind_it : Stands content rest

never : {A : Type 0} (kind : PieceKind) (test : PieceKind → Bool) (p : Piece) → IsKind kind p → test kind ≡ false → test p.kind ≡ true → A
never kind test p is off e = absurd (false≢true (sym off ∙ ap test (sym is) ∙ e))

-- any statement of a block
in_line : (ps rest : List Piece) (node : TNode) → StatementPrints node → Stands content rest → Coded true ps rest node
in_line ps rest node h here = record { code = h; body = λ e. prints.other node h; chain = λ e. prints.otherwise_body true node (prints.other node h); behind_it = here }

-- a statement that a word begins, and not `if`
by_word : (b : Bool) (word : Word) (u : Piece) (ps rest : List Piece) (node : TNode) → IsWord word u → is_if (k.Code (t.Word word)) ≡ false → CodePrints b node → Stands content rest → Coded b (u ∷ ps) rest node
by_word b word u ps rest node on off h here = record { code = stated b node h; body = never _ is_brace u on refl; chain = never _ is_if u on off; behind_it = here }

if_chain : (b : Bool) (p : Place) (a : Expr) (holds : TNode) (fails : Option TNode) → CodePrints b (nd.If p a holds fails) → OtherwisePrints b (nd.If p a holds fails)
if_chain true p a holds fails h = let one = prints.statement_of_code _ h in prints.otherwise_body true _ (prints.other _ one)
if_chain false p a holds fails h = prints.otherwise_if p a holds fails h

by_if : (b : Bool) (p : Place) (a : Expr) (holds : TNode) (fails : Option TNode) (u : Piece) (ps rest : List Piece) → IsWord w.If u → CodePrints b (nd.If p a holds fails) → Stands content rest → Coded b (u ∷ ps) rest (nd.If p a holds fails)
by_if b p a holds fails u ps rest on h here = record { code = stated b _ h; body = never _ is_brace u on refl; chain = λ e. if_chain b p a holds fails h; behind_it = here }

by_block : (b : Bool) (p : Place) (items : List TNode) (o : Piece) (ps rest : List Piece) → IsSign s.OpenBrace o → LinesPrint items → Stands content rest → Coded b (o ∷ ps) rest (nd.Block p items)
by_block b p items o ps rest is h here = record { code = stated b _ (prints.block b p items h); body = λ e. prints.in_block b p items h; chain = never _ is_if o is refl; behind_it = here }

-- a jump out of a loop or to its next turn
break_written : (u c : Piece) → OneStatement (token_of u (t.Word w.Break) ∷ token_of c (t.Sign s.Semicolon) ∷ []) (stmt u.place st.Break)
break_written u c = written.break_ (token_of u (t.Word w.Break)) (token_of c (t.Sign s.Semicolon)) refl refl

continue_written : (u c : Piece) → OneStatement (token_of u (t.Word w.Continue) ∷ token_of c (t.Sign s.Semicolon) ∷ []) (stmt u.place st.Continue)
continue_written u c = written.continue_ (token_of u (t.Word w.Continue)) (token_of c (t.Sign s.Semicolon)) refl refl

two_proper : (word : Word) (u c : Piece) → AreProper (token_of u (t.Word word) ∷ token_of c (t.Sign s.Semicolon) ∷ [])
two_proper word u c = one_token _ _ tt (λ e. refl) (one_token _ _ tt (λ e. refl) no_token)

module _ (around : Piece → List ℕ) where
  mutual
    inside_prints : (component void : Bool) (name : List ℕ) (n m : ℕ) (ps rest : List Piece) (children : List TNode) → Inside around name n ps rest m children → Behind_attributes component void ps
        → (void ≡ true → children ≡ []) × ContentPrints false children × Stands content rest
    inside_prints component void name n m _ rest _ (spelled.without_content _ _ end _ is) here = (λ e. refl, prints.nothing false, empty_ends component void end rest is here)
    inside_prints component void name n m _ rest children (spelled.with_content _ _ _ begin close end ps us _ _ is h closes spaces ends) here =
        let first = start_ends component void begin ps is here in
        let inner = content_prints true n m ps (close ∷ us) children h first.1 in
        (λ e. absurd (false≢true (sym first.0 ∙ e)), inner.0, ended name close end us rest closes spaces ends inner.1)

    of_tag_prints : (n m : ℕ) (ps rest : List Piece) (node : TNode) → Tag around n ps rest m node → Stands content ps → TagPrints node × Stands content rest
    of_tag_prints n m _ rest _ (spelled.tag name _ i _ p ps us vs _ attributes children is fits given spaces h) here =
        let first = step content (k.TagStart name) p ps is here in
        let behind_it = attributes_print around (is_component name) (is_void name) (n + 1) i ps us attributes given.spelled (in_tag ps first.2) in
        let inner = inside_prints (is_component name) (is_void name) name i m vs rest children h (spaced_tag (is_component name) (is_void name) us vs spaces behind_it.1) in
        (tag_prints n p name attributes children first.0 behind_it.0 inner.0 inner.1, inner.2)

    pub item_prints : (n m : ℕ) (ps rest : List Piece) (node : TNode) → Item around n ps rest m node → Stands content ps → ItemPrints node × Stands content rest
    item_prints n m ps rest node (spelled.of_tag _ _ _ _ _ h) here = let one = of_tag_prints n m ps rest node h here in (prints.of_tag node one.0, one.1)
    item_prints n m _ rest _ (spelled.of_shown _ p ps _ a h) here = let one = shown_written content (p ∷ ps) rest a h here in (prints.of_shown n p.place a one.0, one.1)
    item_prints n m _ rest node (spelled.of_code _ _ at ps _ _ is h) here =
        let one = code_prints false at.place no_jumps false n m ps rest node h (step content k.CodeAt at ps is here).2 in (prints.of_code node one.code, one.behind_it)

    pub content_prints : (edge : Bool) (n m : ℕ) (ps rest : List Piece) (nodes : List TNode) → Content around edge n ps rest m nodes → Stands content ps → ContentPrints false nodes × Stands content rest
    content_prints edge n m ps rest nodes (spelled.last_text _ _ text _ _ _ run is) here =
        let said = run_of_text ps rest text run here in
        (subst (ContentPrints false) (append-nil _ ∙ sym is) (texts_print edge true n (place_of ps) text [] said.0 (λ b. prints.nothing b)), said.1)
    content_prints edge n m ps rest _ (spelled.more_content _ _ i _ text p _ us vs _ texts node others run is h hs) here =
        let said = run_of_text ps (p ∷ us) text run here in
        let one = item_prints (n + length texts) i (p ∷ us) vs node h said.1 in
        let more = content_prints (is_edge p.kind) i m vs rest others hs one.1 in (
          subst (λ z. ContentPrints false (z ++ node ∷ others)) (sym is) (texts_print edge (is_edge p.kind) n (place_of ps) text (node ∷ others) said.0 (λ b. prints.item b node others one.0 more.0)),
          more.1,
        )

    code_prints : (b : Bool) (p : Place) (j : Jumps) (f : Bool) (n m : ℕ) (ps rest : List Piece) (node : TNode) → Code around b p j f n ps rest m node → Stands content ps → Coded b ps rest node
    code_prints _ p j f n m ps rest _ (spelled.simple _ _ _ _ _ _ a h) here = let one = simple_written content ps rest a h here in in_line ps rest _ (prints.simple a one.0) one.1
    code_prints _ p j f n m _ rest _ (spelled.break_ _ _ _ _ u c _ may on ends) here =
        in_line (u ∷ c ∷ rest) rest _ (prints.simple _ (record { tokens = _; proper = two_proper w.Break u c; tree = break_written u c })) (jump w.Break u c rest on ends here)
    code_prints _ p j f n m _ rest _ (spelled.continue_ _ _ _ _ u c _ may on ends) here =
        in_line (u ∷ c ∷ rest) rest _ (prints.simple _ (record { tokens = _; proper = two_proper w.Continue u c; tree = continue_written u c })) (jump w.Continue u c rest on ends here)
    code_prints b p j f n m _ rest _ (spelled.block _ _ _ _ _ _ o c ps _ items is h closes) here =
        let inner = lines_print j n m ps (c ∷ rest) items h (step content (k.Code (t.Sign s.OpenBrace)) o ps is here).2 in
        by_block b p items o ps rest is inner.0 (step content (k.Code (t.Sign s.CloseBrace)) c rest closes inner.1).2
    code_prints b p j f n m _ rest _ (spelled.if_alone _ _ _ _ _ u ps us _ ts a holds on h test inner) here =
        let head = head_stands w.If u ps us ts on h here in
        let one = within_prints b j false n m us rest holds inner head.1 in
        by_if b p a holds None u ps rest on (prints.if_alone b p a holds (expression_written ts a test head.0) one.0) one.1
    code_prints b p j f n m _ rest _ (spelled.if_else _ _ _ _ _ i _ u d ps us vs _ ts a holds fails on h test inner other more) here =
        let head = head_stands w.If u ps us ts on h here in
        let one = within_prints b j true n i us (d ∷ vs) holds inner head.1 in
        let two = otherwise_prints b j f i m vs rest fails more (step content (k.Code (t.Word w.Else)) d vs other one.1).2 in
        by_if b p a holds (Some fails) u ps rest on (prints.if_else b p a holds fails (expression_written ts a test head.0) one.0 two.0) two.1
    code_prints b p j f n m _ rest _ (spelled.while_ _ _ _ _ _ _ u ps us _ ts a body on h test inner) here =
        let head = head_stands w.While u ps us ts on h here in
        let one = within_prints b in_loop f (n + 1) m us rest body inner head.1 in
        by_word b w.While u ps rest _ on refl (prints.while_ b n p a body (expression_written ts a test head.0) one.0) one.1
    code_prints b p j f n m _ rest _ (spelled.for_ _ _ _ _ _ _ u ps us _ ts start condition turn body on h test inner) here =
        let head = head_stands w.For u ps us ts on h here in
        let three = for_written ts start condition turn test head.0 in
        let one = within_prints b in_loop f (n + 1) m us rest body inner head.1 in
        by_word b w.For u ps rest _ on refl (prints.for_ b n p start condition turn body three.first three.second three.third one.0) one.1
    code_prints b p j f n m _ rest _ (spelled.foreach_ _ _ _ _ _ _ x u name ps us _ ts a body on h test inner) here =
        let head = head_stands w.Foreach u ps us ts on h here in
        let two = foreach_written ts name x a test head.0 in
        let one = within_prints b in_loop f (n + 1) m us rest body inner head.1 in
        by_word b w.Foreach u ps rest _ on refl (prints.foreach_ b n p (ident name x) a body two.0 two.1 one.0) one.1
    code_prints b p j f n m _ rest _ (spelled.switch_ _ _ _ _ _ _ u o c ps us _ ts a sections on h test opens inner closes) here =
        let head = head_stands w.Switch u ps (o ∷ us) ts on h here in
        let one = sections_print (in_switch j) 1 n m us (c ∷ rest) sections inner (step content (k.Code (t.Sign s.OpenBrace)) o us opens head.1).2 in
        by_word b w.Switch u ps rest _ on refl (prints.switch_ b p a sections (expression_written ts a test head.0) one.0) (step content (k.Code (t.Sign s.CloseBrace)) c rest closes one.1).2

    within_prints : (b : Bool) (j : Jumps) (f : Bool) (n m : ℕ) (ps rest : List Piece) (node : TNode) → Within around b j f n ps rest m node → Stands content ps → BodyPrints b node × Stands content rest
    within_prints b j f n m _ rest node (spelled.in_block _ _ _ _ _ o ps _ _ is h) here = let one = code_prints b o.place j f n m (o ∷ ps) rest node h here in (one.body (ap is_brace is), one.behind_it)
    within_prints _ j f n m _ rest node (spelled.other _ _ _ _ p ps _ _ h) here = let one = code_prints true p.place j f n m (p ∷ ps) rest node h here in (prints.other node one.code, one.behind_it)

    otherwise_prints : (b : Bool) (j : Jumps) (f : Bool) (n m : ℕ) (ps rest : List Piece) (node : TNode) → Otherwise around b j f n ps rest m node → Stands content ps → OtherwisePrints b node × Stands content rest
    otherwise_prints b j f n m ps rest node (spelled.otherwise_body _ _ _ _ _ _ _ _ h) here = let one = within_prints b j f n m ps rest node h here in (prints.otherwise_body b node one.0, one.1)
    otherwise_prints b j f n m _ rest node (spelled.otherwise_if _ _ _ _ _ u ps _ _ on h) here = let one = code_prints b u.place j f n m (u ∷ ps) rest node h here in (one.chain (ap is_if on), one.behind_it)

    line_prints : (j : Jumps) (n m : ℕ) (ps rest : List Piece) (node : TNode) → Line around j n ps rest m node → Stands content ps → LinePrints node × Stands content rest
    line_prints j n m _ rest node (spelled.a_statement _ _ _ p ps _ _ h) here = let one = code_prints true p.place j false n m (p ∷ ps) rest node h here in (prints.a_statement node one.code, one.behind_it)
    line_prints j n m _ rest node (spelled.a_marked _ _ _ at ps _ _ is h) here =
        let one = code_prints true at.place j false n m ps rest node h (step content k.CodeAt at ps is here).2 in (prints.a_statement node one.code, one.behind_it)
    line_prints j n m ps rest node (spelled.a_tag _ _ _ _ _ _ h) here = let one = of_tag_prints n m ps rest node h here in (prints.a_tag node one.0, one.1)
    line_prints j n m _ rest _ (spelled.a_shown _ _ p ps _ a h) here = let one = shown_written content (p ∷ ps) rest a h here in (prints.a_shown n p.place a one.0, one.1)
    line_prints j n m _ rest _ (spelled.a_group _ _ _ p begin close end ps us vs _ items is spaces begins_it h closes apart_too ends) here =
        let first = spaced_tag (is_component (codes "text")) (is_void (codes "text")) ps (begin ∷ us) spaces (in_tag ps (step content (k.TagStart (codes "text")) p ps is here).2) in
        let inner = content_prints true n m us (close ∷ vs) items h (start_ends (is_component (codes "text")) (is_void (codes "text")) begin us begins_it first).1 in
        (prints.a_group p.place items inner.0, ended (codes "text") close end vs rest closes apart_too ends inner.1)
    line_prints j n m _ rest _ (spelled.a_line _ _ _ p end ps _ items is h ends) here =
        let inner = content_prints true n m ps (end ∷ rest) items h (step content k.LineStart p ps is here).2 in (prints.a_group p.place items inner.0, (step content k.LineEnd end rest ends inner.1).2)

    pub lines_print : (j : Jumps) (n m : ℕ) (ps rest : List Piece) (nodes : List TNode) → Lines around j n ps rest m nodes → Stands content ps → LinesPrint nodes × Stands content rest
    lines_print j n m _ rest _ (spelled.no_line _ _ _) here = (prints.no_line, here)
    lines_print j n m ps rest _ (spelled.more_lines _ _ i _ _ us _ first others h hs) here =
        let one = line_prints j n i ps us first h here in
        let more = lines_print j i m us rest others hs one.1 in
        (prints.more_lines first others one.0 more.0, more.1)

    sections_print : (j : Jumps) (room n m : ℕ) (ps rest : List Piece) (sections : List TSection) → Sections around j room n ps rest m sections → Stands content ps → SectionsPrint sections × Stands content rest
    sections_print j room n m _ rest _ (spelled.no_section _ _ _ _) here = (prints.no_section, here)
    sections_print j room n m ps rest _ (spelled.more_sections _ _ _ i _ _ us vs _ labels items others h _ inner _ hs) here =
        let named_so = labels_written content ps us labels h here in
        let one = lines_print j n i us vs items inner named_so.1 in
        let more = sections_print j (room - defaults labels) i m vs rest others hs one.1 in
        (prints.more_sections labels items others named_so.0 one.0 more.0, more.1)
