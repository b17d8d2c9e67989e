-- The changes of siblings, node by node.
use Rattle.std.proofs.Common.{◌≡◌, ◌≢◌, ℕ, suc, ◌+◌, ◌-◌, ◌^◌, ◌≤◌, min, List, [], ◌∷◌, length, Option, Some, None, option_map, option_and_then, arith, refl, sym, ◌∙◌, ap, inl, inr, true, false}
use Rattle.std.specs.Prelude.{◌==◌, Bool, not}
use Rattle.std.specs.Str.{bytes_eq}
use Rattle.std.proofs.lemmas.Bool.{cases_Bool, eqb-false, ne_eqb}
use Rattle.std.proofs.lemmas.Bool.Decides.{Decides-eqb}
use Rattle.page_core.specs.declared.node.Node.{Node, out-Node}
use Rattle.page_core.specs.declared.node.Node.TheVariants as v
use Rattle.page_core.specs.declared.node.Node.TheViews.{outs-Element}
use Rattle.page_core.specs.declared.node.Node.TheOpen.{Node-F, Element}
use Rattle.page_core.specs.declared.node.Node.TheFolds.{map-Node, fold-roll-Node}
use Rattle.plain_page.specs.declared.changes.Changed.{Changed}
use Rattle.plain_page.specs.Changes.{unchanged, together, element_change, is_same_handler, along, layer_changes, node_changes, page_changes, capped}
use Rattle.plain_page.specs.Click.{click_handler}

not_false : (b : Bool) → false ≡ not b → b ≡ true
not_false true e = refl
not_false false e = e

-- these changes and those of the nodes behind them
abbrev pub behind : Changed → List (Node → Option Changed) → List Node → Option Changed
behind all changes nodes = option_map (λ more. capped (together all more)) (along changes nodes)

none_behind : (here : Option Changed) → option_and_then (λ one. option_map (λ more. together one more) None) here ≡ None
none_behind None = refl
none_behind (Some one) = refl

-- lists of two lengths are not alike
pub along_lengths : (changes : List (Node → Option Changed)) (nodes : List Node) → length changes ≢ length nodes → along changes nodes ≡ None
along_lengths [] [] differ = absurd (differ refl)
along_lengths [] (node ∷ nodes) differ = refl
along_lengths (change ∷ changes) [] differ = refl
along_lengths (change ∷ changes) (node ∷ nodes) differ =
    rw (along_lengths changes nodes (λ same. differ (ap suc same))) (none_behind (change node))

pub same_parts : (one other : Changed) → one.texts ≡ other.texts → one.elements ≡ other.elements → one ≡ other
same_parts one other texts elements =
    let change : ℕ → ℕ → Changed = λ x y. record { texts = x; elements = y } in
    ap (λ x. change x one.elements) texts ∙ ap (λ y. change other.texts y) elements

-- nothing is behind the last node
pub behind_last : (all : Changed) → all.texts ≤ 2 ^ 32 - 1 → all.elements ≤ 2 ^ 32 - 1 → behind all [] [] ≡ Some all
behind_last all texts elements = ap Some (same_parts (capped (together all unchanged)) all (omega arith) (omega arith))

-- nothing is before the first node
pub behind_nothing : (changes : List (Node → Option Changed)) (nodes : List Node) → behind unchanged changes nodes ≡ option_map capped (along changes nodes)
behind_nothing changes nodes = go (along changes nodes)
  where
    go : (more : Option Changed) → option_map (λ more. capped (together unchanged more)) more ≡ option_map capped more
    go None = refl
    go (Some more) = ap Some (same_parts (capped (together unchanged more)) (capped more) (omega arith) (omega arith))

-- the changes of an element to another of its name, birth and handler are those inside it
pub node_changes-Element : (born : ℕ) (name : List ℕ) (attributes : List (List ℕ × List ℕ)) (handlers : List (List ℕ × ℕ)) (children : List Node)
    (other_born : ℕ) (other_name : List ℕ) (others : List (List ℕ × List ℕ)) (other_handlers : List (List ℕ × ℕ)) (nodes : List Node) →
    born ≡ other_born → false ≡ not (bytes_eq name other_name) → true ≡ is_same_handler (click_handler handlers) (click_handler other_handlers) →
    node_changes (v.Element born name attributes handlers children) (v.Element other_born other_name others other_handlers nodes)
    ≡ option_map element_change (page_changes children nodes)
node_changes-Element born name attributes handlers children other_born other_name others other_handlers nodes births names ids =
    let layer : Node-F Node → Node-F Node → Option Changed = λ x y. layer_changes (map-Node Node (Node → Option Changed) node_changes x) y in
    ap (λ (f : Node → Option Changed). f (v.Element other_born other_name others other_handlers nodes))
    (ap node_changes (sym (v.rolls-Element born name attributes handlers children))
    ∙ fold-roll-Node (Node → Option Changed) (λ layer other. layer_changes layer (out-Node other)) (Element born name attributes handlers children))
    ∙ ap (layer (Element born name attributes handlers children)) (outs-Element other_born other_name others other_handlers nodes)
    ∙ rw ((Decides-eqb born other_born).1 births, not_false (bytes_eq name other_name) names, ← ids) refl

-- an element's changes may be capped before it counts itself
capped_first : (inside : Changed) → capped (element_change (capped inside)) ≡ capped (element_change inside)
capped_first inside =
    elim (cases_Bool (inside.texts == 0)) [
      | inl none ↦ (
          let texts : inside.texts ≡ 0 = (Decides-eqb inside.texts 0).0 none in
          let still : (min inside.texts (2 ^ 32 - 1) == 0) ≡ true = (Decides-eqb (min inside.texts (2 ^ 32 - 1)) 0).1 (omega arith) in
          rw (none, still) (same_parts (capped (capped inside)) (capped inside) (omega arith) (omega arith))
          )
      | inr some ↦ (
          let texts : inside.texts ≢ 0 = eqb-false inside.texts 0 some in
          let still : (min inside.texts (2 ^ 32 - 1) == 0) ≡ false = ne_eqb (min inside.texts (2 ^ 32 - 1)) 0 (λ e. texts (omega arith)) in
          let more : Changed → Changed = λ (c : Changed). record { texts = c.texts; elements = c.elements + 1 } in
          rw (some, still) (same_parts (capped (more (capped inside))) (capped (more inside)) (omega arith) (omega arith))
          )
    ]

-- an element's changes from those inside it
pub capped_inside : (inside : Changed) (found : Option Changed) → Some inside ≡ option_map capped found →
    option_map capped (option_map element_change found) ≡ Some (capped (element_change inside))
capped_inside inside None wrong = absurd (cc)
capped_inside inside (Some real) e =
    let is : inside ≡ capped real = cc in
    rw is (ap Some (sym (capped_first real)))
