-- Templates without tags of components: as many numbers as their nodes have, and parts with types.
use Rattle.std.proofs.Common.{◌≡◌, ℕ, ◌+◌, List, [], ◌∷◌, map, refl, sym, ap, subst, ◌∙◌, arith}
use Rattle.std.proofs.lemmas.List.Sums.{sum_by-cons}
use Rattle.std.specs.Prelude.{Bool, true, false, sum, Some, None}
use Rattle.cs_ast.specs.declared.expression.Label.{Label}
use Rattle.cs_ast.specs.declared.expression.StmtKind.TheVariants as sk
use Rattle.cs_grammar.specs.Statements.{stmt}
use Rattle.razor_ast.specs.Statements.{section}
use Rattle.razor_ast.specs.declared.attribute.Attribute.{Attribute}
use Rattle.razor_ast.specs.declared.attribute.AttributeKind.{AttributeKind}
use Rattle.razor_ast.specs.declared.node.TNode.{TNode, TNode-F, roll-TNode}
use Rattle.razor_ast.specs.declared.node.TNode.TheFolds.{fold-roll-TNode, fold_out-TSection, map-TNode}
use Rattle.razor_ast.specs.declared.node.TNode.TheVariants as nd
use Rattle.razor_ast.specs.declared.node.TNode.TheViews.{out-roll-TSection}
use Rattle.razor_ast.specs.declared.node.TSection.{TSection}
use Rattle.razor_rules.specs.Grounds.{top}
use Rattle.razor_rules.specs.Numbers.{numbers_of_kind, numbers_of_parts, numbers_of, numbers_of_section}
use Rattle.razor_rules.specs.Parts.{in_order}
use Rattle.razor_rules.specs.Scopes.{Home, member_scope}
use Rattle.razor_rules.specs.Templates.{part_of}
use Rattle.page_meaning.specs.Resolved.{place_at}
use Rattle.page_typing.specs.Formed.{KindFormed, AttributesFormed, Formed, AllFormed, ContentFormed, SectionsFormed}
use Rattle.page_typing.specs.Formed as formed
use Rattle.page_typing.specs.Numbering.{Rises}
use Rattle.page_typing.specs.TemplateScopes as scope
use Rattle.page_typing.proofs.RisingNumbers.{rises_content}
use Rattle.page_typing.proofs.TemplateNodes.{nodes_fit}
use Rattle.program_typing.specs.Programs.{Comes, template_of}

numbered : (node : TNode) (x : TNode-F TNode TSection) → roll-TNode x ≡ node → numbers_of node ≡ numbers_of_parts (map-TNode TNode TSection ℕ ℕ numbers_of numbers_of_section x)
unfolding numbers_of numbers_of_section
numbered node x is = ap numbers_of (sym is) ∙ fold-roll-TNode ℕ ℕ numbers_of_parts (λ it. sum it.items) x

section_numbered : (labels : List Label) (items : List TNode) → numbers_of_section (section labels items) ≡ sum (map numbers_of items)
unfolding numbers_of numbers_of_section
section_numbered labels items =
    fold_out-TSection ℕ ℕ numbers_of_parts (λ it. sum it.items) (section labels items)
    ∙ ap (λ o. sum (map numbers_of o.items)) (out-roll-TSection (record { labels = labels; items = items }))

one_more : (x : ℕ) (xs : List ℕ) → sum (x ∷ xs) ≡ x + sum xs
one_more x xs = sum_by-cons (λ (z : ℕ). z) x xs

kind_counted : (n m : ℕ) (name : List ℕ) (kind : AttributeKind) → KindFormed n m name kind → m ≡ n + numbers_of_kind kind
unfolding numbers_of_kind
kind_counted n m name kind (formed.mixed _ _ value) = refl
kind_counted n m name kind (formed.key _ _ a) = omega arith
kind_counted n m name kind (formed.event _ _ a h) = refl
kind_counted n m name kind (formed.bound _ _ field) = refl
kind_counted n m name kind (formed.bind_event _ _) = omega arith

abbrev attribute_numbers : List Attribute → ℕ
attribute_numbers all = sum (map (λ (one : Attribute). numbers_of_kind one.kind) all)

attributes_counted : (n m : ℕ) (all : List Attribute) → AttributesFormed n m all → m ≡ n + attribute_numbers all
attributes_counted n m all (formed.no_attribute _) = omega arith
attributes_counted n m all (formed.an_attribute _ i _ one others h hs) =
    let first : i ≡ n + numbers_of_kind one.kind = kind_counted n i one.name one.kind h in
    let more : m ≡ i + attribute_numbers others = attributes_counted i m others hs in
    let is : attribute_numbers (one ∷ others) ≡ numbers_of_kind one.kind + attribute_numbers others = one_more (numbers_of_kind one.kind) (map (λ (z : Attribute). numbers_of_kind z.kind) others) in
    omega (arith, first, more, is)

abbrev node_numbers : List TNode → ℕ
node_numbers nodes = sum (map numbers_of nodes)

mutual
  node_counted : (j : Bool) (n m : ℕ) (node : TNode) → Formed j n m node → m ≡ n + numbers_of node
  node_counted j n m node (formed.element _ _ i _ place name attributes children ha hc) =
      let is : numbers_of node ≡ 1 + attribute_numbers attributes + node_numbers children = numbered node (TNode-F.Element n place name attributes children) (nd.rolls-Element n place name attributes children) in
      let own : i ≡ n + 1 + attribute_numbers attributes = attributes_counted (n + 1) i attributes ha in
      let inner : m ≡ i + node_numbers children = content_counted i m children hc in
      omega (arith, is, own, inner)
  node_counted j n m node (formed.text _ _ place said) = let is : numbers_of node ≡ 1 = numbered node (TNode-F.Text n place said) (nd.rolls-Text n place said) in omega (arith, is)
  node_counted j n m node (formed.raw _ _ place said) = let is : numbers_of node ≡ 1 = numbered node (TNode-F.Raw n place said) (nd.rolls-Raw n place said) in omega (arith, is)
  node_counted j n m node (formed.shown _ _ place a) = let is : numbers_of node ≡ 1 = numbered node (TNode-F.Content n place a) (nd.rolls-Content n place a) in omega (arith, is)
  node_counted j n m node (formed.group _ _ _ place items hc) =
      let is : numbers_of node ≡ node_numbers items = numbered node (TNode-F.Group place items) (nd.rolls-Group place items) in
      let inner : m ≡ n + node_numbers items = content_counted n m items hc in
      omega (arith, is, inner)
  node_counted j n m node (formed.simple _ _ one h) = let is : numbers_of node ≡ 0 = numbered node (TNode-F.Statement one) (nd.rolls-Statement one) in omega (arith, is)
  node_counted j n m node (formed.break_out _ _ place h) = let is : numbers_of node ≡ 0 = numbered node (TNode-F.Statement (stmt place sk.Break)) (nd.rolls-Statement (stmt place sk.Break)) in omega (arith, is)
  node_counted j n m node (formed.go_on _ _ place) = let is : numbers_of node ≡ 0 = numbered node (TNode-F.Statement (stmt place sk.Continue)) (nd.rolls-Statement (stmt place sk.Continue)) in omega (arith, is)
  node_counted j n m node (formed.block _ _ _ place items h) =
      let is : numbers_of node ≡ node_numbers items = numbered node (TNode-F.Block place items) (nd.rolls-Block place items) in
      let inner : m ≡ n + node_numbers items = nodes_counted j n m items h in
      omega (arith, is, inner)
  node_counted j n m node (formed.if_only _ _ _ place a holds h) =
      let is : numbers_of node ≡ numbers_of holds + 0 = numbered node (TNode-F.If place a holds None) (nd.rolls-If place a holds None) in
      let inner : m ≡ n + numbers_of holds = node_counted j n m holds h in
      omega (arith, is, inner)
  node_counted j n m node (formed.if_else _ _ i _ place a holds fails h1 h2) =
      let is : numbers_of node ≡ numbers_of holds + numbers_of fails = numbered node (TNode-F.If place a holds (Some fails)) (nd.rolls-If place a holds (Some fails)) in
      let first : i ≡ n + numbers_of holds = node_counted j n i holds h1 in
      let second : m ≡ i + numbers_of fails = node_counted j i m fails h2 in
      omega (arith, is, first, second)
  node_counted j n m node (formed.switch _ _ _ place a sections h) =
      let is : numbers_of node ≡ sum (map numbers_of_section sections) = numbered node (TNode-F.Switch place a sections) (nd.rolls-Switch place a sections) in
      let inner : m ≡ n + sum (map numbers_of_section sections) = sections_counted n m sections h in
      omega (arith, is, inner)
  node_counted j n m node (formed.while_loop _ _ _ place a turn h) =
      let is : numbers_of node ≡ 1 + numbers_of turn = numbered node (TNode-F.While n place a turn) (nd.rolls-While n place a turn) in
      let inner : m ≡ n + 1 + numbers_of turn = node_counted true (n + 1) m turn h in
      omega (arith, is, inner)
  node_counted j n m node (formed.for_loop _ _ _ place start test step turn kinds h) =
      let is : numbers_of node ≡ 1 + numbers_of turn = numbered node (TNode-F.For n place start test step turn) (nd.rolls-For n place start test step turn) in
      let inner : m ≡ n + 1 + numbers_of turn = node_counted true (n + 1) m turn h in
      omega (arith, is, inner)
  node_counted j n m node (formed.for_each _ _ _ place name list turn h) =
      let is : numbers_of node ≡ 1 + numbers_of turn = numbered node (TNode-F.ForEach n place name list turn) (nd.rolls-ForEach n place name list turn) in
      let inner : m ≡ n + 1 + numbers_of turn = node_counted true (n + 1) m turn h in
      omega (arith, is, inner)

  nodes_counted : (j : Bool) (n m : ℕ) (nodes : List TNode) → AllFormed j n m nodes → m ≡ n + node_numbers nodes
  nodes_counted j n m nodes (formed.none _ _) = omega arith
  nodes_counted j n m nodes (formed.more _ _ i _ one others h hs) =
      let first : i ≡ n + numbers_of one = node_counted j n i one h in
      let more : m ≡ i + node_numbers others = nodes_counted j i m others hs in
      let is : node_numbers (one ∷ others) ≡ numbers_of one + node_numbers others = one_more (numbers_of one) (map numbers_of others) in
      omega (arith, first, more, is)

  content_counted : (n m : ℕ) (nodes : List TNode) → ContentFormed n m nodes → m ≡ n + node_numbers nodes
  content_counted n m nodes (formed.no_content _) = omega arith
  content_counted n m nodes (formed.some_content _ i _ one others none h hs) =
      let first : i ≡ n + numbers_of one = node_counted false n i one h in
      let more : m ≡ i + node_numbers others = content_counted i m others hs in
      let is : node_numbers (one ∷ others) ≡ numbers_of one + node_numbers others = one_more (numbers_of one) (map numbers_of others) in
      omega (arith, first, more, is)

  sections_counted : (n m : ℕ) (sections : List TSection) → SectionsFormed n m sections → m ≡ n + sum (map numbers_of_section sections)
  sections_counted n m sections (formed.no_section _) = omega arith
  sections_counted n m sections (formed.a_section _ i _ labels items others h hs) =
      let first : i ≡ n + node_numbers items = nodes_counted true n i items h in
      let more : m ≡ i + sum (map numbers_of_section others) = sections_counted i m others hs in
      let own : numbers_of_section (section labels items) ≡ node_numbers items = section_numbered labels items in
      let is : sum (map numbers_of_section (section labels items ∷ others)) ≡ numbers_of_section (section labels items) + sum (map numbers_of_section others) = one_more (numbers_of_section (section labels items)) (map numbers_of_section others) in
      omega (arith, first, more, own, is)

-- a template without tags of components that breaks no rule
pub comes : (home : Home) (impure : List ℕ) (m : ℕ) (nodes : List TNode) → ContentFormed 0 m nodes → in_order (map (part_of home) nodes) (top home impure) ≡ [] → Comes home nodes
comes home impure m nodes h e =
    let counted : m ≡ 0 + node_numbers nodes = content_counted 0 m nodes h in
    let is : m ≡ node_numbers nodes = omega (arith, counted) in
    record {
      has_types = λ types fits. nodes_fit home types true fits 0 m nodes (top home impure) h scope.top e;
      rises = subst (λ (n : ℕ). Rises (place_at home 0) (place_at home n) (template_of home nodes)) is (rises_content home 0 m nodes (member_scope home) h);
    }
