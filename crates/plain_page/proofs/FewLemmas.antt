-- A page has no more nodes than bytes, and no more of it changes.
use Rattle.std.proofs.Common.{◌≡◌, ℕ, ◌+◌, ◌<◌, ◌≤◌, true, false, List, [], ◌∷◌, map, length, Option, Some, None, option_map, arith, refl, sym, ◌∙◌, ap, subst, inl, inr}
use Rattle.std.specs.Prelude.{◌==◌, ◌&&◌}
use Rattle.std.specs.List.{concat}
use Rattle.std.specs.Str.{bytes_eq}
use Rattle.std.proofs.lemmas.Bool.{cases_Bool}
use Rattle.std.proofs.lemmas.List.{length-append}
use Rattle.page_core.specs.declared.node.Node.{Node, out-Node}
use Rattle.page_core.specs.declared.node.Node.TheViews.{roll-Node, roll-out-Node}
use Rattle.page_core.specs.declared.node.Node.TheOpen.{Node-F, Element, Text, Markup}
use Rattle.page_core.specs.declared.node.Node.TheFolds.{map-Node, ind-Node, fold-roll-Node}
use Rattle.plain_page.specs.declared.changes.Changed.{Changed}
use Rattle.plain_page.specs.Changes.{unchanged, together, text_change, element_change, is_same_handler, along, layer_changes, node_changes, page_changes, capped}
use Rattle.plain_page.specs.Click.{click_handler}
use Rattle.page_core.specs.declared.counts.Counts.{Counts}
use Rattle.plain_page.specs.Turning.{counts_of_changes, counts_between}
use Rattle.plain_page.proofs.ChangeLemmas.{same_parts}
use Rattle.plain_page.specs.Plain.{is_plain, are_plain}
use Rattle.plain_page.specs.Spelling.{spelled_start, spelled_node, spelled_nodes}
use Rattle.plain_page.specs.Laws.Nodes.{spelled-Text, spelled-Element, both_true}
use Rattle.plain_page.specs.Laws.Reading.{node_some, start_some}
use Rattle.plain_page.proofs.SoundLemmas.{then_some, map_some}

-- a plain page has fewer nodes at its top than bytes
pub fewer_nodes : (nodes : List Node) → are_plain nodes ≡ true → length nodes < length (spelled_nodes nodes)
fewer_nodes nodes plain = omega (arith, length-append (concat (map spelled_node nodes)) (0 ∷ []), go nodes plain)
  where
    go : (nodes : List Node) → are_plain nodes ≡ true → length nodes ≤ length (concat (map spelled_node nodes))
    go [] plain = omega arith
    go (node ∷ nodes) plain =
        let plains = both_true (is_plain node) (are_plain nodes) plain in
        omega (arith, node_some node plains.0, go nodes plains.1, length-append (spelled_node node) (concat (map spelled_node nodes)))

-- so many changes are no more than bytes
abbrev Few : (Node → Option Changed) → Type 0
Few change = (after : Node) (c : Changed) → change after ≡ Some c → c.texts + c.elements ≤ length (spelled_node after)

abbrev Such : Type 0
Such = (node : Node) × Few (node_changes node)

along_few : (before : List Such) (after : List Node) (c : Changed) → along (map node_changes (map (λ e. e.0) before)) after ≡ Some c →
    c.texts + c.elements ≤ length (concat (map spelled_node after))
along_few [] [] c e = let none : unchanged ≡ c = cc in rw (← none) (omega arith)
along_few [] (node ∷ nodes) c e = absurd (cc)
along_few (such ∷ others) [] c e = absurd (cc)
along_few (such ∷ others) (node ∷ nodes) c e =
    let changes = along (map node_changes (map (λ e. e.0) others)) nodes in
    let next : Changed → Option Changed = λ here. option_map (λ more. together here more) (along (map node_changes (map (λ e. e.0) others)) nodes) in
    let here = then_some next (node_changes such.0 node) c e in
    let more = map_some (λ d. together here.0 d) (along (map node_changes (map (λ e. e.0) others)) nodes) c here.2 in
    let one = such.1 node here.0 here.1 in
    let rest = along_few others nodes more.0 more.1 in
    rw (← more.2, length-append) (omega (arith, one, rest))

element_few : (inside c : Changed) (front all : ℕ) → element_change inside ≡ c → inside.texts + inside.elements ≤ all → 0 < front → c.texts + c.elements ≤ front + all
element_few inside c front all e few some =
    elim (cases_Bool (inside.texts == 0)) [
      | inl none ↦ (let same : inside ≡ c = rw none at e in rw (← same) (omega arith))
      | inr changed ↦ (let same = rw changed at e in rw (← same) (omega arith))
    ]

text_few : (before after : List ℕ) (c : Changed) → text_change before after ≡ c → c.texts + c.elements ≤ 1
text_few before after c e =
    elim (cases_Bool (bytes_eq before after)) [
      | inl same ↦ (let is : unchanged ≡ c = rw same at e in rw (← is) (omega arith))
      | inr differ ↦ (let is = rw differ at e in rw (← is) (omega arith))
    ]

layer_few : (x : Node-F Such) (y : Node-F Node) (c : Changed) → layer_changes (map-Node Node (Node → Option Changed) node_changes (map-Node Such Node (λ e. e.0) x)) y ≡ Some c →
    c.texts + c.elements ≤ length (spelled_node (roll-Node y))
layer_few (Element born name attributes handlers children) (Element other_born other_name others other_handlers nodes) c e =
    elim (cases_Bool (born == other_born && bytes_eq name other_name && is_same_handler (click_handler handlers) (click_handler other_handlers))) [
      | inl alike ↦ (
          let found = map_some element_change (along (map node_changes (map (λ e. e.0) children)) nodes) c (rw alike at e) in
          let inside = along_few children nodes found.0 found.1 in
          let all : length (concat (map spelled_node nodes)) ≤ length (spelled_nodes nodes) = omega (arith, length-append (concat (map spelled_node nodes)) (0 ∷ [])) in
          rw (spelled-Element, length-append)
          (element_few found.0 c (length (spelled_start other_born other_name (click_handler other_handlers))) (length (spelled_nodes nodes)) found.2 (omega arith)
          (start_some other_born other_name (click_handler other_handlers)))
          )
      | inr differ ↦ (let wrong : None ≡ Some c = rw differ at e in absurd (cc))
    ]
layer_few (Text born text) (Text other_born other) c e =
    elim (cases_Bool (born == other_born)) [
      | inl alike ↦ (
          let is : text_change text other ≡ c = some_is (rw alike at e) in
          rw spelled-Text (omega (arith, text_few text other c is))
          )
      | inr differ ↦ (let wrong : None ≡ Some c = rw differ at e in absurd (cc))
    ]
  where
    some_is : Some (text_change text other) ≡ Some c → text_change text other ≡ c
    some_is e = cc
layer_few (Element born name attributes handlers children) (Text other_born other) c e = absurd (cc)
layer_few (Element born name attributes handlers children) (Markup other_born other) c e = absurd (cc)
layer_few (Text born text) (Element other_born other_name others other_handlers nodes) c e = absurd (cc)
layer_few (Text born text) (Markup other_born other) c e = absurd (cc)
layer_few (Markup born text) y c e = absurd (cc)

step : (x : Node-F Node) (y : Node-F Such) → map-Node Such Node (λ e. e.0) y ≡ x → Few (node_changes (roll-Node x))
step x y e = subst (λ z. Few (node_changes (roll-Node z))) e go
  where
    go : Few (node_changes (roll-Node (map-Node Such Node (λ e. e.0) y)))
    go after c f =
        let layer : Node-F (Node → Option Changed) → Node → Option Changed = λ x other. layer_changes x (out-Node other) in
        let fold = fold-roll-Node (Node → Option Changed) (λ x other. layer_changes x (out-Node other)) (map-Node Such Node (λ e. e.0) y) in
        subst (λ (n : Node). c.texts + c.elements ≤ length (spelled_node n)) (roll-out-Node after)
        (layer_few y (out-Node after) c (sym (ap (λ (h : Node → Option Changed). h after) fold) ∙ f))

-- of a node there change no more texts and elements than it has bytes
node_few : (node : Node) → Few (node_changes node)
node_few = ind-Node (λ node. Few (node_changes node)) step

-- of a page there change no more
pub page_few : (before after : List Node) (c : Changed) → page_changes before after ≡ Some c → c.texts + c.elements ≤ length (spelled_nodes after)
page_few before after c e =
    let such : Node → Such = λ node. (node, node_few node) in
    let same : map (λ e. e.0) (map such before) ≡ before = go before in
    let all = along_few (map such before) after c (rw same e) in
    omega (arith, all, length-append (concat (map spelled_node after)) (0 ∷ []))
  where
    go : (nodes : List Node) → map (λ e. e.0) (map (λ node. let s : Such = (node, node_few node) in s) nodes) ≡ nodes
    go [] = refl
    go (node ∷ nodes) = ap (λ more. node ∷ more) (go nodes)

-- few changes are counted as they are
pub counts_some : (number : ℕ) (before after : List Node) (changes : Changed) (counts : Counts) → false ≡ (length before == 0) → length (spelled_nodes after) ≤ 33554368 →
    Some changes ≡ option_map capped (page_changes before after) → counts ≡ counts_of_changes changes → Some counts ≡ counts_between number before after
counts_some number [] after changes counts some few e is = absurd (cc)
counts_some number (node ∷ nodes) after changes counts some few e is =
    let found = map_some capped (page_changes (node ∷ nodes) after) changes (sym e) in
    let small = page_few (node ∷ nodes) after found.0 found.1 in
    let same : capped found.0 ≡ found.0 = same_parts (capped found.0) found.0 (omega arith) (omega arith) in
    let real : changes ≡ found.0 = sym found.2 ∙ same in
    rw found.1 (ap Some (is ∙ ap counts_of_changes real))
