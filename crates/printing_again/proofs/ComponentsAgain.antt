-- Attributes of components' tags are spelled again.
use Rattle.std.proofs.Common.{◌≡◌, ℕ, ◌+◌, Bool, true, false, List, [], ◌∷◌, ◌++◌, Some, refl, sym, ap, ◌∙◌}
use Rattle.std.specs.declared.option.Option.{Option}
use Rattle.std.specs.Prelude.{codes}
use Rattle.text_core.specs.declared.place.Place.{Place}
use Rattle.cs_ast.specs.declared.expression.Expr.{Expr}
use Rattle.cs_grammar.specs.Lambdas.{Spelled}
use Rattle.cs_print.specs.Printed.{whole, printed}
use Rattle.razor_token.specs.declared.piece.Piece.{Piece}
use Rattle.razor_token.specs.declared.piece.PieceKind.TheVariants as k
use Rattle.razor_token.specs.declared.piece.Quote.{Quote}
use Rattle.razor_token.specs.declared.piece.Quote.TheVariants as q
use Rattle.razor_token.specs.CodeFronts.{mark}
use Rattle.razor_ast.specs.declared.attribute.Attribute.{Attribute}
use Rattle.razor_ast.specs.declared.attribute.AttributeKind.TheVariants as ak
use Rattle.razor_ast.specs.declared.attribute.Given.TheVariants as given
use Rattle.razor_ast.specs.AttributeNames.{begins_at}
use Rattle.razor_ast.specs.Attributes.{OfComponent, OfTag, SomeAttributes, TextValue}
use Rattle.razor_ast.specs.Attributes as ga
use Rattle.razor_ast.specs.Literals.{literal_run, place_of}
use Rattle.razor_ast.specs.Pieces.{IsKind}
use Rattle.razor_ast.specs.TextValues.{IsNameText}
use Rattle.razor_print.specs.Attributes.{value_parts, attribute_parts}
use Rattle.razor_print.specs.Parts.{Parts, led}
use Rattle.razor_print.specs.Parts as parts
use Rattle.razor_print.specs.Quotes.{text_quote}
use Rattle.printed_pieces.specs.Meant.{Says, Mean}
use Rattle.printed_pieces.specs.Meant as m
use Rattle.printed_pieces.specs.Printable.{IsKindOf, ArePrintable}
use Rattle.printed_pieces.specs.Printable as pr
use Rattle.printed_pieces.specs.Written.{IsWritten}
use Rattle.text_expressions.proofs.TextExpressions.{answered}
use Rattle.printing_again.specs.Again.{AttributeAgain, AttributesAgain}
use Rattle.printing_again.specs.Again as ag
use Rattle.printing_again.proofs.MeantLaws.{first-piece}
use Rattle.printing_again.proofs.PartsAgain.{first-verbatim, run-says, stops}
use Rattle.printing_again.proofs.ShownAgain.{led_again}
use Rattle.printing_again.proofs.ElementsAgain.{started}

-- the text of a parameter, and what is behind it
record Supplied (quote : Quote) (text : List ℕ) (later : Parts) (ps : List Piece) : Type 0 where
  v : Piece
  end : Piece
  us : List Piece
  rest : List Piece
  split : v ∷ (us ++ end ∷ rest) ≡ ps
  starts : IsKind (k.ValueStart (Some quote)) v
  says : Says text us
  ends : IsKind k.ValueEnd end
  mean : Mean later rest

first-supplied : (quote : Quote) (text : List ℕ) (a : Option Expr) (later : Parts) (ps : List Piece) → Mean (parts.supplied quote text a ∷ later) ps → Supplied quote text later ps
first-supplied _ _ _ _ _ (m.supplied quote text a v e later us ps starts says ends mean) = record { v = v; end = e; us = us; rest = ps; split = refl; starts = starts; says = says; ends = ends; mean = mean }

value-of : (component : Bool) (name : List ℕ) (n : ℕ) (a : Expr) → IsKindOf component name (ak.Parameter n (given.Value a)) → IsWritten Spelled a
value-of component name _ _ (pr.value n a e is) = is

module _ (around : Piece → List ℕ) where
  nothing-again : (n : ℕ) (x : List ℕ) (place : Place) (later : Parts) (ps : List Piece) → begins_at x ≡ false → (x ≡ codes "Context" → ⊥)
      → Mean (attribute_parts (record { place = place; name = x; kind = ak.Parameter n given.Nothing }) ++ later) ps
      → AttributeAgain (OfComponent around) n (n + 1) (record { place = place; name = x; kind = ak.Parameter n given.Nothing }) later ps
  unfolding value_parts
  nothing-again n x place later ps no_at other mean =
      let space = first-piece k.Space (32 ∷ []) _ ps mean in
      let p = first-piece (k.AttributeName x) x later space.rest space.mean in
      record {
        space = space.p;
        us = p.p ∷ p.rest;
        rest = p.rest;
        other = _;
        split = ap (λ z. space.p ∷ z) p.split ∙ space.split;
        blank = space.is;
        spelled = ga.OfComponent.no_value n x p.p p.rest p.is no_at other;
        alike = ag.alike place p.p.place x _ _ (ag.nothing n);
        mean = p.mean;
      }

  text-again : (n : ℕ) (x : List ℕ) (place begin : Place) (said : List ℕ) (a : Option Expr) (later : Parts) (ps : List Piece) → begins_at x ≡ false → (x ≡ codes "Context" → ⊥)
      → Mean (attribute_parts (record { place = place; name = x; kind = ak.Parameter n (given.Text begin said a) }) ++ later) ps
      → AttributeAgain (OfComponent around) n (n + 1) (record { place = place; name = x; kind = ak.Parameter n (given.Text begin said a) }) later ps
  unfolding value_parts
  text-again n x place begin said a later ps no_at other mean =
      let space = first-piece k.Space (32 ∷ []) _ ps mean in
      let p = first-piece (k.AttributeName x) x _ space.rest space.mean in
      let value = first-supplied (text_quote said) said a later p.rest p.mean in
      let inner = value.us ++ value.end ∷ value.rest in
      let run : literal_run inner ≡ (said, value.end ∷ value.rest) = run-says said value.us (value.end ∷ value.rest) value.says (stops k.ValueEnd value.end value.rest value.ends refl) in
      let found = answered (around value.v) (place_of inner) said in
      record {
        space = space.p;
        us = p.p ∷ value.v ∷ inner;
        rest = value.rest;
        other = _;
        split = ap (λ z. space.p ∷ p.p ∷ z) value.split ∙ ap (λ z. space.p ∷ z) p.split ∙ space.split;
        blank = space.is;
        spelled = ga.OfComponent.text n x said p.p value.v inner value.rest found.0 p.is no_at other (Some (text_quote said), value.starts) (ga.text value.end inner value.rest said run value.ends) found.1;
        alike = ag.alike place p.p.place x _ _ (ag.text n begin (place_of inner) said a found.0);
        mean = value.mean;
      }

  value-again : (n : ℕ) (x : List ℕ) (place : Place) (a : Expr) (later : Parts) (ps : List Piece) → begins_at x ≡ false → (x ≡ codes "Context" → ⊥) → IsKindOf true x (ak.Parameter n (given.Value a))
      → Mean (attribute_parts (record { place = place; name = x; kind = ak.Parameter n (given.Value a) }) ++ later) ps
      → AttributeAgain (OfComponent around) n (n + 1) (record { place = place; name = x; kind = ak.Parameter n (given.Value a) }) later ps
  unfolding value_parts
  value-again n x place a later ps no_at other is mean =
      let h = started x q.Double (led (whole (printed a))) later ps mean in
      let found = led_again a (mark q.Double ∷ []) later h.rest (value-of true x n a is) h.mean in
      record {
        space = h.space;
        us = h.p ∷ h.v ∷ h.rest;
        rest = found.rest;
        other = _;
        split = h.split;
        blank = h.blank;
        spelled = ga.OfComponent.value n x h.p h.v h.rest found.rest found.other h.named no_at other (Some q.Double, h.starts) found.spelled;
        alike = ag.alike place h.p.place x _ _ (ag.value n a found.other found.alike);
        mean = found.mean;
      }

  context-again : (n : ℕ) (x : List ℕ) (place begin : Place) (later : Parts) (ps : List Piece) → IsNameText x
      → Mean (attribute_parts (record { place = place; name = codes "Context"; kind = ak.Context n (record { place = begin; name = x }) }) ++ later) ps
      → AttributeAgain (OfComponent around) n (n + 1) (record { place = place; name = codes "Context"; kind = ak.Context n (record { place = begin; name = x }) }) later ps
  unfolding value_parts
  context-again n x place begin later ps is_name mean =
      let h = started (codes "Context") q.Double (parts.verbatim x ∷ []) later ps mean in
      let said = first-verbatim x (parts.piece k.ValueEnd (mark q.Double ∷ []) ∷ later) h.rest h.mean in
      let end = first-piece k.ValueEnd (mark q.Double ∷ []) later said.rest said.mean in
      let run : literal_run h.rest ≡ (x, end.p ∷ end.rest) =
      ap literal_run (sym (ap (λ z. said.us ++ z) end.split ∙ said.split)) ∙ run-says x said.us (end.p ∷ end.rest) said.says (stops k.ValueEnd end.p end.rest end.is refl) in
      record {
        space = h.space;
        us = h.p ∷ h.v ∷ h.rest;
        rest = end.rest;
        other = _;
        split = h.split;
        blank = h.blank;
        spelled = ga.OfComponent.context n x h.p h.v h.rest end.rest h.named (Some q.Double, h.starts) (ga.text end.p h.rest end.rest x run end.is) is_name;
        alike = ag.alike place h.p.place (codes "Context") _ _ (ag.context n x begin (place_of h.rest));
        mean = end.mean;
      }

  -- an attribute of a component's tag that some pieces spell
  pub component_again : (source : Piece → List ℕ) (n m : ℕ) (ps rest : List Piece) (a : Attribute) → OfComponent source n ps rest m a → IsKindOf true a.name a.kind → (later : Parts) (us : List Piece)
      → Mean (attribute_parts a ++ later) us → AttributeAgain (OfComponent around) n m a later us
  component_again source _ _ _ _ _ (ga.OfComponent.no_value n x p rest named no_at other) is later us mean = nothing-again n x p.place later us no_at other mean
  component_again source _ _ _ _ _ (ga.OfComponent.text n x said p v ps rest a named no_at other starts h spells) is later us mean = text-again n x p.place (place_of ps) said a later us no_at other mean
  component_again source _ _ _ _ _ (ga.OfComponent.value n x p v ps rest a named no_at other starts h) is later us mean = value-again n x p.place a later us no_at other is mean
  component_again source _ _ _ _ _ (ga.OfComponent.context n x p v ps rest named starts h is_name) is later us mean = context-again n x p.place (place_of ps) later us is_name mean
