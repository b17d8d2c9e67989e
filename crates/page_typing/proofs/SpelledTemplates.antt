-- Templates that pieces spell are formed, where no tags of components are in them: by recursion on how they are spelled.
use Rattle.std.proofs.Common.{◌≡◌, ℕ, ◌+◌, List, [], ◌∷◌, ◌++◌, map, length, refl, sym, ap, subst, ◌∙◌, arith}
use Rattle.std.specs.Prelude.{Bool, true, false, ◌-◌, if◌then◌else◌, Option, Some, None}
use Rattle.text_core.specs.declared.place.Place.{Place}
use Rattle.cs_ast.specs.declared.expression.Expr.{Expr}
use Rattle.cs_ast.specs.declared.expression.Stmt.{Stmt}
use Rattle.cs_ast.specs.declared.expression.StmtKind.{StmtKind}
use Rattle.cs_token.specs.declared.token.Token.{Token}
use Rattle.cs_grammar.specs.Statements.{Jumps, in_loop, in_switch, defaults}
use Rattle.cs_grammar.specs.Statements as g
use Rattle.cs_grammar.specs.Tokens.{ident}
use Rattle.razor_token.specs.declared.piece.Piece.{Piece}
use Rattle.razor_ast.specs.declared.attribute.Attribute.{Attribute}
use Rattle.razor_ast.specs.declared.attribute.AttributeKind.TheVariants as ak
use Rattle.razor_ast.specs.AttributeNames.{IsEvent}
use Rattle.razor_ast.specs.declared.node.TNode.{TNode, TNode-F, out-TNode}
use Rattle.razor_ast.specs.declared.node.TNode.TheVariants as nd
use Rattle.razor_ast.specs.declared.node.TSection.{TSection}
use Rattle.razor_token.specs.Tags.{is_component}
use Rattle.razor_ast.specs.Attributes.{Behind, Led, EventValue, OfElement, KeyOf, OfTag, SomeAttributes, AttributesOf}
use Rattle.razor_ast.specs.Attributes as attribute
use Rattle.razor_ast.specs.Literals.{place_of, is_edge, is_raw, is_kept, text_node, text_nodes}
use Rattle.razor_ast.specs.Nodes.{Inside, Tag, Item, Content, Code, Within, Otherwise, Line, Lines, Sections, tag_node}
use Rattle.razor_ast.specs.Nodes as spelled
use Rattle.razor_ast.specs.Statements.{Simple, ForHead, break_at, continue_at, section}
use Rattle.razor_ast.specs.Statements as statements
use Rattle.page_typing.specs.Formed.{LambdaFormed, IsStart, NoStatement, KindFormed, AttributesFormed, Formed, AllFormed, ContentFormed, SectionsFormed}
use Rattle.page_typing.specs.Formed as formed
use Rattle.page_typing.specs.Pages.{any_tag, has_tag}
use Rattle.page_typing.proofs.SpelledExpressions.{spelled_formed}
use Rattle.page_typing.proofs.TagLaws.{section_tag, tag_at_section, none_in, not_first, not_second, not_behind}

-- attributes
behind_formed : (ts : List Token) (a : Expr) → Behind ts a → LambdaFormed a
behind_formed ts a (attribute.whole _ _ h) = spelled_formed ts a h
behind_formed ts a (attribute.in_round o c us _ _ h _) = spelled_formed us a h

led_formed : (ps rest : List Piece) (a : Expr) → Led ps rest a → LambdaFormed a
led_formed ps rest a (attribute.quoted at end ts _ _ _ h _) = behind_formed ts a h
led_formed ps rest a (attribute.bare at e end ts _ _ _ h _ _) = behind_formed ts a h

event_formed : (ps rest : List Piece) (a : Expr) → EventValue ps rest a → LambdaFormed a
event_formed ps rest a (attribute.led _ _ _ h) = led_formed ps rest a h
event_formed ps rest a (attribute.plain end ts _ _ h _) = spelled_formed ts a h

named_event : (n : ℕ) (x : List ℕ) (a : Expr) → IsEvent x → LambdaFormed a → KindFormed n (n + 1) x (ak.Event n a)
named_event n x a (IsEvent.event name _ _) h = formed.event n (111 ∷ 110 ∷ name) a h

element_formed : (n m : ℕ) (ps rest : List Piece) (a : Attribute) → OfElement n ps rest m a → KindFormed n m a.name a.kind
element_formed n m ps rest a (attribute.no_value _ x p _ _ _) = formed.mixed n x []
element_formed n m ps rest a (attribute.mixed _ x p v us _ parts _ _ _ _) = formed.mixed n x parts
element_formed n m ps rest a (attribute.event _ x p v us _ value _ is _ h) = named_event n x value is (event_formed us rest value h)
element_formed n m ps rest a (attribute.bind _ x p v end name _ _ _ _ _) = formed.bound n _ _
element_formed n m ps rest a (attribute.bind_event _ p v us _ _ _ _) = formed.bind_event n _

key_formed : (n : ℕ) (ps rest : List Piece) (a : Attribute) → KeyOf ps rest a → KindFormed n n a.name a.kind
key_formed n ps rest a (attribute.key p v end ts _ value _ _ _ _) = formed.key n _ value

attribute_formed : (around : Piece → List ℕ) (component : Bool) (n m : ℕ) (ps rest : List Piece) (a : Attribute) → component ≡ false → OfTag around component n ps rest m a → KindFormed n m a.name a.kind
attribute_formed around component n m ps rest a e (attribute.of_element _ _ _ _ _ h) = element_formed n m ps rest a h
attribute_formed around component n m ps rest a e (attribute.of_component _ _ _ _ _ h) = absurd (cc)
attribute_formed around component n m ps rest a e (attribute.key _ _ _ _ _ h) = key_formed n ps rest a h

attributes_formed : (around : Piece → List ℕ) (component : Bool) (n m : ℕ) (ps rest : List Piece) (all : List Attribute) → component ≡ false → SomeAttributes around component n ps rest m all → AttributesFormed n m all
attributes_formed around component n m ps rest all e (attribute.none _ _) = formed.no_attribute n
attributes_formed around component n m ps rest all e (attribute.more _ i _ space us vs _ one others _ h hs) =
    formed.an_attribute n i m one others (attribute_formed around component n i us vs one e h) (attributes_formed around component i m vs rest others e hs)

-- a node of another form is no statement
is_statement : TNode-F TNode TSection → Bool
is_statement (TNode-F.Statement a) = true
is_statement _ = false

no_statement : (node : TNode) (x : TNode-F TNode TSection) → out-TNode node ≡ x → is_statement x ≡ false → NoStatement node
unfolding is_statement
no_statement node x is h a e = let k : false ≡ true = sym h ∙ ap is_statement (sym is ∙ ap out-TNode e ∙ nd.outs-Statement a) in absurd (cc)

-- a literal text
text_formed : (n : ℕ) (p : Place) (said : List ℕ) → Formed false n (n + 1) (text_node n p said) × NoStatement (text_node n p said)
unfolding is_statement
text_formed n p said = by (is_raw said)
  where
    by : (b : Bool) → Formed false n (n + 1) (if b then nd.Raw n p said else nd.Text n p said) × NoStatement (if b then nd.Raw n p said else nd.Text n p said)
    by true = (formed.raw false n p said, no_statement (nd.Raw n p said) (TNode-F.Raw n p said) (nd.outs-Raw n p said) refl)
    by false = (formed.text false n p said, no_statement (nd.Text n p said) (TNode-F.Text n p said) (nd.outs-Text n p said) refl)

pub texts_formed : (before behind : Bool) (n m : ℕ) (p : Place) (said : List ℕ) (texts others : List TNode) → texts ≡ text_nodes before behind n p said → ContentFormed (n + length texts) m others → ContentFormed n m (texts ++ others)
texts_formed before behind n m p said texts others e h = by (is_kept before behind said) e
  where
    by : (b : Bool) → texts ≡ (if b then text_node n p said ∷ [] else []) → ContentFormed n m (texts ++ others)
    by true e1 =
        let k = text_formed n p said in
        subst (λ z. ContentFormed n m (z ++ others)) (sym e1) (formed.some_content n (n + 1) m (text_node n p said) others k.1 k.0 (subst (λ z. ContentFormed (n + length z) m others) e1 h))
    by false e1 = subst (λ z. ContentFormed n m (z ++ others)) (sym e1) (subst (λ z. ContentFormed z m others) (ap (λ (z : List TNode). n + length z) e1 ∙ omega arith) h)

pub append_nil : (xs : List TNode) → xs ++ [] ≡ xs
append_nil [] = refl
append_nil (x ∷ xs) = ap (λ z. x ∷ z) (append_nil xs)

-- the start of a `for`
start_kind : (ts rest : List Token) (start : Option Stmt) → g.Start ts rest start → (a : Stmt) → start ≡ Some a → IsStart a.kind
start_kind ts rest start (g.none _) a e = absurd (cc)
start_kind ts rest start (g.some p _ _ kind h) a e = let same : g.stmt p kind ≡ a = cc in subst (λ (z : Stmt). IsStart z.kind) same (by p ts rest kind h)
  where
    by : (p1 : Place) (ts1 rest1 : List Token) (kind1 : StmtKind) → g.Simple p1 ts1 rest1 kind1 → IsStart kind1
    by p1 ts1 rest1 kind1 (g.local x _ n _ us _ type value _ _ _) = formed.local type _ value
    by p1 ts1 rest1 kind1 (g.act _ _ _ a1 _) = formed.act a1

for_kind : (ts : List Token) (start : Option Stmt) (condition step : Option Expr) → ForHead ts start condition step → (a : Stmt) → start ≡ Some a → IsStart a.kind
for_kind ts start condition step (statements.head m n _ us vs _ _ _ h _ _ _ _) = start_kind ts (m ∷ us) start h

-- a node, as content if it is no statement
abbrev Node : Bool → Bool → ℕ → ℕ → TNode → Type 0
Node b j n m node = Formed j n m node × (b ≡ false → NoStatement node)

tag_formed : (b j : Bool) (n i m : ℕ) (p : Piece) (name : List ℕ) (attributes : List Attribute) (children : List TNode) → (b ≡ false → AttributesFormed (n + 1) i attributes) → has_tag (tag_node b n p name attributes children) ≡ false → (any_tag (map has_tag children) ≡ false → ContentFormed i m children)
    → Formed j n m (tag_node b n p name attributes children) × NoStatement (tag_node b n p name attributes children)
unfolding is_statement
tag_formed true j n i m p name attributes children ha e hc =
    let k = none_in (tag_node true n p name attributes children) (TNode-F.Child n p.place (spelled.name_at p name) attributes children) (nd.rolls-Child n p.place (spelled.name_at p name) attributes children) e in absurd (cc)
tag_formed false j n i m p name attributes children ha e hc =
    let none = none_in (tag_node false n p name attributes children) (TNode-F.Element n p.place (spelled.name_at p name) attributes children) (nd.rolls-Element n p.place (spelled.name_at p name) attributes children) e in
    (formed.element j n i m p.place (spelled.name_at p name) attributes children (ha refl) (hc none), no_statement _ (TNode-F.Element n p.place (spelled.name_at p name) attributes children) (nd.outs-Element n p.place (spelled.name_at p name) attributes children) refl)

module _ (around : Piece → List ℕ) where
  mutual
    unfolding is_statement

    inside_formed : (name : List ℕ) (n m : ℕ) (ps rest : List Piece) (children : List TNode) → Inside around name n ps rest m children → any_tag (map has_tag children) ≡ false → ContentFormed n m children
    inside_formed name n m ps rest children (spelled.without_content _ _ end _ _) e = formed.no_content n
    inside_formed name n m ps rest children (spelled.with_content _ _ _ begin close end us vs _ _ _ h _ _ _) e = content_formed true n m us (close ∷ vs) children h e

    of_tag_formed : (j : Bool) (n m : ℕ) (ps rest : List Piece) (node : TNode) → Tag around n ps rest m node → has_tag node ≡ false → Formed j n m node × NoStatement node
    of_tag_formed j n m ps rest node (spelled.tag name _ i _ p qs us vs _ attributes children _ _ ha _ h) e =
        tag_formed (is_component name) j n i m p name attributes children (λ off. attributes_formed around (is_component name) (n + 1) i qs us attributes off ha.spelled) e (inside_formed name i m vs rest children h)

    pub item_formed : (n m : ℕ) (ps rest : List Piece) (node : TNode) → Item around n ps rest m node → has_tag node ≡ false → Formed false n m node × NoStatement node
    item_formed n m ps rest node (spelled.of_tag _ _ _ _ _ h) e = of_tag_formed false n m ps rest node h e
    item_formed n m ps rest node (spelled.of_shown _ p us _ a _) e = (formed.shown false n p.place a, no_statement (nd.Content n p.place a) (TNode-F.Content n p.place a) (nd.outs-Content n p.place a) refl)
    item_formed n m ps rest node (spelled.of_code _ _ at us _ _ _ h) e = let k = code_formed false at.place g.no_jumps false n m us rest node h e in (k.0, k.1 refl)

    content_formed : (edge : Bool) (n m : ℕ) (ps rest : List Piece) (nodes : List TNode) → Content around edge n ps rest m nodes → any_tag (map has_tag nodes) ≡ false → ContentFormed n m nodes
    content_formed edge n m ps rest nodes (spelled.last_text _ _ said _ _ _ _ is) e = subst (λ z. ContentFormed n m z) (append_nil nodes) (texts_formed edge true n m (place_of ps) said nodes [] is (formed.no_content (n + length nodes)))
    content_formed edge n m ps rest nodes (spelled.more_content _ _ i _ said p _ us vs _ texts node others _ is h hs) e =
        let none = not_behind texts (node ∷ others) e in
        let one = item_formed (n + length texts) i (p ∷ us) vs node h (not_first (has_tag node) _ none) in
        texts_formed edge (is_edge p.kind) n m (place_of ps) said texts (node ∷ others) is
        (formed.some_content (n + length texts) i m node others one.1 one.0 (content_formed (is_edge p.kind) i m vs rest others hs (not_second (has_tag node) _ none)))

    code_formed : (b : Bool) (place : Place) (j : Jumps) (f : Bool) (n m : ℕ) (ps rest : List Piece) (node : TNode) → Code around b place j f n ps rest m node → has_tag node ≡ false → Node b j.breaks n m node
    code_formed b place j f n m ps rest node (spelled.simple _ _ _ _ _ _ a (statements.simple ts c _ _ _ _ _ is)) e = (formed.simple j.breaks n a is, λ off. absurd (cc))
    code_formed b place j f n m ps rest node (spelled.break_ _ _ _ _ t c _ may _ _) e = (formed.break_out j.breaks n t.place may, λ off. absurd (cc))
    code_formed b place j f n m ps rest node (spelled.continue_ _ _ _ _ t c _ _ _ _) e = (formed.go_on j.breaks n t.place, λ off. absurd (cc))
    code_formed b place j f n m ps rest node (spelled.block _ _ _ _ _ _ o c us _ items _ h _) e =
        let none = none_in node (TNode-F.Block place items) (nd.rolls-Block place items) e in
        (formed.block j.breaks n m place items (lines_formed j n m us (c ∷ rest) items h none), λ off. no_statement node (TNode-F.Block place items) (nd.outs-Block place items) refl)
    code_formed b place j f n m ps rest node (spelled.if_alone _ _ _ _ _ t qs us _ ts a holds _ _ _ h) e =
        let none = none_in node (TNode-F.If place a holds None) (nd.rolls-If place a holds None) e in
        (formed.if_only j.breaks n m place a holds (within_formed b j false n m us rest holds h none), λ off. no_statement node (TNode-F.If place a holds None) (nd.outs-If place a holds None) refl)
    code_formed b place j f n m ps rest node (spelled.if_else _ _ _ _ _ i _ t d qs us vs _ ts a holds fails _ _ _ h _ k) e =
        let none = none_in node (TNode-F.If place a holds (Some fails)) (nd.rolls-If place a holds (Some fails)) e in (
          formed.if_else j.breaks n i m place a holds fails (within_formed b j true n i us (d ∷ vs) holds h (not_first (has_tag holds) (has_tag fails) none)) (otherwise_formed b j f i m vs rest fails k (not_second (has_tag holds) (has_tag fails) none)),
          λ off. no_statement node (TNode-F.If place a holds (Some fails)) (nd.outs-If place a holds (Some fails)) refl,
        )
    code_formed b place j f n m ps rest node (spelled.while_ _ _ _ _ _ _ t qs us _ ts a turn _ _ _ h) e =
        let none = none_in node (TNode-F.While n place a turn) (nd.rolls-While n place a turn) e in
        (formed.while_loop j.breaks n m place a turn (within_formed b in_loop f (n + 1) m us rest turn h none), λ off. no_statement node (TNode-F.While n place a turn) (nd.outs-While n place a turn) refl)
    code_formed b place j f n m ps rest node (spelled.for_ _ _ _ _ _ _ t qs us _ ts start test step turn _ _ k h) e =
        let none = none_in node (TNode-F.For n place start test step turn) (nd.rolls-For n place start test step turn) e in
        (formed.for_loop j.breaks n m place start test step turn (for_kind ts start test step k) (within_formed b in_loop f (n + 1) m us rest turn h none), λ off. no_statement node (TNode-F.For n place start test step turn) (nd.outs-For n place start test step turn) refl)
    code_formed b place j f n m ps rest node (spelled.foreach_ _ _ _ _ _ _ x t name qs us _ ts a turn _ _ _ h) e =
        let none = none_in node (TNode-F.ForEach n place (ident name x) a turn) (nd.rolls-ForEach n place (ident name x) a turn) e in
        (formed.for_each j.breaks n m place (ident name x) a turn (within_formed b in_loop f (n + 1) m us rest turn h none), λ off. no_statement node (TNode-F.ForEach n place (ident name x) a turn) (nd.outs-ForEach n place (ident name x) a turn) refl)
    code_formed b place j f n m ps rest node (spelled.switch_ _ _ _ _ _ _ t o c qs us _ ts a sections _ _ _ _ h _) e =
        let none = none_in node (TNode-F.Switch place a sections) (nd.rolls-Switch place a sections) e in
        (formed.switch j.breaks n m place a sections (sections_formed (in_switch j) 1 n m us (c ∷ rest) sections h refl none), λ off. no_statement node (TNode-F.Switch place a sections) (nd.outs-Switch place a sections) refl)

    within_formed : (b : Bool) (j : Jumps) (f : Bool) (n m : ℕ) (ps rest : List Piece) (node : TNode) → Within around b j f n ps rest m node → has_tag node ≡ false → Formed j.breaks n m node
    within_formed b j f n m ps rest node (spelled.in_block _ _ _ _ _ o us _ _ _ h) e = (code_formed b o.place j f n m (o ∷ us) rest node h e).0
    within_formed b j f n m ps rest node (spelled.other _ _ _ _ p us _ _ h) e = (code_formed true p.place j f n m (p ∷ us) rest node h e).0

    otherwise_formed : (b : Bool) (j : Jumps) (f : Bool) (n m : ℕ) (ps rest : List Piece) (node : TNode) → Otherwise around b j f n ps rest m node → has_tag node ≡ false → Formed j.breaks n m node
    otherwise_formed b j f n m ps rest node (spelled.otherwise_body _ _ _ _ _ _ _ _ h) e = within_formed b j f n m ps rest node h e
    otherwise_formed b j f n m ps rest node (spelled.otherwise_if _ _ _ _ _ t us _ _ _ h) e = (code_formed b t.place j f n m (t ∷ us) rest node h e).0

    line_formed : (j : Jumps) (n m : ℕ) (ps rest : List Piece) (node : TNode) → Line around j n ps rest m node → has_tag node ≡ false → Formed j.breaks n m node
    line_formed j n m ps rest node (spelled.a_statement _ _ _ p us _ _ h) e = (code_formed true p.place j false n m (p ∷ us) rest node h e).0
    line_formed j n m ps rest node (spelled.a_marked _ _ _ at us _ _ _ h) e = (code_formed true at.place j false n m us rest node h e).0
    line_formed j n m ps rest node (spelled.a_tag _ _ _ _ _ _ h) e = (of_tag_formed j.breaks n m ps rest node h e).0
    line_formed j n m ps rest node (spelled.a_shown _ _ p us _ a _) e = formed.shown j.breaks n p.place a
    line_formed j n m ps rest node (spelled.a_group _ _ _ p begin close end qs us vs _ items _ _ _ h _ _ _) e =
        formed.group j.breaks n m p.place items (content_formed true n m us (close ∷ vs) items h (none_in node (TNode-F.Group p.place items) (nd.rolls-Group p.place items) e))
    line_formed j n m ps rest node (spelled.a_line _ _ _ p end us _ items _ h _) e =
        formed.group j.breaks n m p.place items (content_formed true n m us (end ∷ rest) items h (none_in node (TNode-F.Group p.place items) (nd.rolls-Group p.place items) e))

    lines_formed : (j : Jumps) (n m : ℕ) (ps rest : List Piece) (nodes : List TNode) → Lines around j n ps rest m nodes → any_tag (map has_tag nodes) ≡ false → AllFormed j.breaks n m nodes
    lines_formed j n m ps rest nodes (spelled.no_line _ _ _) e = formed.none j.breaks n
    lines_formed j n m ps rest nodes (spelled.more_lines _ _ i _ _ us _ first others h hs) e =
        formed.more j.breaks n i m first others (line_formed j n i ps us first h (not_first (has_tag first) _ e)) (lines_formed j i m us rest others hs (not_second (has_tag first) _ e))

    sections_formed : (j : Jumps) (room n m : ℕ) (ps rest : List Piece) (sections : List TSection) → Sections around j room n ps rest m sections → j.breaks ≡ true → any_tag (map section_tag sections) ≡ false → SectionsFormed n m sections
    sections_formed j room n m ps rest sections (spelled.no_section _ _ _ _) on e = formed.no_section n
    sections_formed j room n m ps rest sections (spelled.more_sections _ _ _ i _ _ us vs _ labels items others _ _ h _ hs) on e =
        formed.a_section n i m labels items others (subst (λ z. AllFormed z n i items) on (lines_formed j n i us vs items h (sym (tag_at_section labels items) ∙ not_first (section_tag (section labels items)) _ e)))
        (sections_formed j (room - defaults labels) i m vs rest others hs on (not_second (section_tag (section labels items)) _ e))
