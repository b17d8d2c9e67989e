-- No part of content that isn't literal text is literal text to what stands behind it.
use Rattle.std.proofs.Common.{◌≡◌, ℕ, Bool, false, List, Some, None, refl, ap, ◌∙◌}
use Rattle.text_core.specs.declared.place.Place.{Place}
use Rattle.cs_grammar.specs.Statements.{Jumps, no_jumps, stmt}
use Rattle.cs_ast.specs.declared.expression.StmtKind.TheVariants as st
use Rattle.razor_token.specs.declared.piece.Piece.{Piece}
use Rattle.razor_token.specs.Tags.{is_component}
use Rattle.razor_ast.specs.declared.node.TNode.{TNode}
use Rattle.razor_ast.specs.Nodes.{Tag, Item, Code}
use Rattle.razor_ast.specs.Nodes as gn
use Rattle.razor_print.specs.Nodes.{Printed, is_text, node}
use Rattle.razor_print.proofs.NodeLaws as law
use Rattle.printing_nodes.proofs.TagLaws.{node-tag}

by-equation : (a : TNode) (z : Printed) → node a ≡ z → is_text z.leaves ≡ false → is_text (node a).leaves ≡ false
by-equation a z e plain = ap (λ (y : Printed). is_text y.leaves) e ∙ plain

module _ (source : Piece → List ℕ) where
  tag-leaves : (n : ℕ) (ps rest : List Piece) (m : ℕ) (a : TNode) → Tag source n ps rest m a → is_text (node a).leaves ≡ false
  tag-leaves _ _ _ _ _ (gn.tag name n i m p ps us vs rest all children is plain attributes space inner) = by-equation _ _ (node-tag (is_component name) n p name all children) refl

  code-leaves : (b : Bool) (q : Place) (j : Jumps) (f : Bool) (n : ℕ) (ps rest : List Piece) (m : ℕ) (a : TNode) → Code source b q j f n ps rest m a → is_text (node a).leaves ≡ false
  code-leaves _ _ _ _ _ _ _ _ _ (gn.simple q j f n ps rest a h) = by-equation _ _ (law.node_statement a) refl
  code-leaves _ _ _ _ _ _ _ _ _ (gn.break_ q j f n t c rest may is ends) = by-equation _ _ (law.node_statement (stmt t.place st.Break)) refl
  code-leaves _ _ _ _ _ _ _ _ _ (gn.continue_ q j f n t c rest may is ends) = by-equation _ _ (law.node_statement (stmt t.place st.Continue)) refl
  code-leaves _ _ _ _ _ _ _ _ _ (gn.Code.block b q j f n m o c ps rest items is lines ends) = by-equation _ _ (law.node_block q items) refl
  code-leaves _ _ _ _ _ _ _ _ _ (gn.if_alone b q j n m t ps us rest ts a holds is brackets test inner) = by-equation _ _ (law.node_if q a holds None) refl
  code-leaves _ _ _ _ _ _ _ _ _ (gn.if_else b q j f n i m t d ps us vs rest ts a holds fails is brackets test one other two) = by-equation _ _ (law.node_if q a holds (Some fails)) refl
  code-leaves _ _ _ _ _ _ _ _ _ (gn.while_ b q j f n m t ps us rest ts a body is brackets test inner) = by-equation _ _ (law.node_while n q a body) refl
  code-leaves _ _ _ _ _ _ _ _ _ (gn.for_ b q j f n m t ps us rest ts start test next body is brackets heading inner) = by-equation _ _ (law.node_for n q start test next body) refl
  code-leaves _ _ _ _ _ _ _ _ _ (gn.foreach_ b q j f n m x t name ps us rest ts a body is brackets heading inner) = by-equation _ _ (law.node_foreach n q _ a body) refl
  code-leaves _ _ _ _ _ _ _ _ _ (gn.switch_ b q j f n m t o c ps us rest ts a sections is brackets test begins inner ends) = by-equation _ _ (law.node_switch q a sections) refl

  pub item-leaves : (n : ℕ) (ps rest : List Piece) (m : ℕ) (a : TNode) → Item source n ps rest m a → is_text (node a).leaves ≡ false
  item-leaves _ _ _ _ _ (gn.of_tag n m ps rest a h) = tag-leaves n ps rest m a h
  item-leaves _ _ _ _ _ (gn.of_shown n p ps rest a h) = by-equation _ _ (law.node_content n p.place a) refl
  item-leaves _ _ _ _ _ (gn.of_code n m at ps rest a is h) = code-leaves false at.place no_jumps false n ps rest m a h
