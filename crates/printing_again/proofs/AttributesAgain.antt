-- The attributes of a tag are spelled again.
use Rattle.std.proofs.Common.{ℕ, Bool, List, [], ◌∷◌, ◌++◌, subst, append_assoc}
use Rattle.cs_print.specs.Alike as al
use Rattle.razor_token.specs.declared.piece.Piece.{Piece}
use Rattle.razor_ast.specs.declared.attribute.Attribute.{Attribute}
use Rattle.razor_ast.specs.Attributes.{OfElement, OfTag, SomeAttributes}
use Rattle.razor_ast.specs.Attributes as ga
use Rattle.razor_print.specs.Attributes.{attribute_parts, attributes_parts}
use Rattle.razor_print.specs.Parts.{Parts}
use Rattle.printed_pieces.specs.Meant.{Mean}
use Rattle.printed_pieces.specs.Printable.{IsKindOf, ArePrintable}
use Rattle.printed_pieces.specs.Printable as pr
use Rattle.printing_again.specs.Again.{AttributeAgain, AttributesAgain}
use Rattle.printing_again.proofs.ComponentsAgain.{component_again}
use Rattle.printing_again.proofs.ElementsAgain.{element_again, key_again}

first-kind : (component : Bool) (a : Attribute) (others : List Attribute) → ArePrintable component (a ∷ others) → IsKindOf component a.name a.kind
first-kind component _ _ (pr.another a others named is more) = is

later-kinds : (component : Bool) (a : Attribute) (others : List Attribute) → ArePrintable component (a ∷ others) → ArePrintable component others
later-kinds component _ _ (pr.another a others named is more) = more

module _ (source around : Piece → List ℕ) where
  tag_again : (component : Bool) (n m : ℕ) (ps rest : List Piece) (a : Attribute) → OfTag source component n ps rest m a → IsKindOf component a.name a.kind → (later : Parts) (us : List Piece) → Mean (attribute_parts a ++ later) us
      → AttributeAgain (OfTag around component) n m a later us
  tag_again _ _ _ _ _ _ (ga.of_element n m ps rest a h) is later us mean =
      let found = element_again n m ps rest a h is later us mean in
      record { space = found.space; us = found.us; rest = found.rest; other = found.other; split = found.split; blank = found.blank; spelled = ga.of_element n m found.us found.rest found.other found.spelled; alike = found.alike; mean = found.mean }
  tag_again _ _ _ _ _ _ (ga.of_component n m ps rest a h) is later us mean =
      let found = component_again around source n m ps rest a h is later us mean in
      record { space = found.space; us = found.us; rest = found.rest; other = found.other; split = found.split; blank = found.blank; spelled = ga.of_component n m found.us found.rest found.other found.spelled; alike = found.alike; mean = found.mean }
  tag_again _ _ _ _ _ _ (ga.OfTag.key component n ps rest a h) is later us mean =
      let found = key_again n ps rest a component h is later us mean in
      record { space = found.space; us = found.us; rest = found.rest; other = found.other; split = found.split; blank = found.blank; spelled = ga.OfTag.key component n found.us found.rest found.other found.spelled; alike = found.alike; mean = found.mean }

  -- the attributes of a tag
  pub attributes_again : (component : Bool) (n m : ℕ) (ps rest : List Piece) (all : List Attribute) → SomeAttributes source component n ps rest m all → ArePrintable component all → (later : Parts) (us : List Piece) → Mean (attributes_parts all ++ later) us
      → AttributesAgain around component n m all later us
  attributes_again component _ _ _ _ _ (ga.SomeAttributes.none n rest) is later us mean = record { rest = us; others = []; spelled = ga.SomeAttributes.none n us; alike = al.none; mean = mean }
  attributes_again component _ _ _ _ _ (ga.SomeAttributes.more n i m space ps xs rest a others blank first more) is later us mean =
      let one = tag_again component n i ps xs a first (first-kind component a others is) (attributes_parts others ++ later) us (subst (λ z. Mean z us) (append_assoc (attribute_parts a) (attributes_parts others) later) mean) in
      let found = attributes_again component i m xs rest others more (later-kinds component a others is) later one.rest one.mean in
      record {
        rest = found.rest;
        others = one.other ∷ found.others;
        spelled = subst (λ z. SomeAttributes around component n z found.rest m (one.other ∷ found.others)) one.split (ga.SomeAttributes.more n i m one.space one.us one.rest found.rest one.other found.others one.blank one.spelled found.spelled);
        alike = al.more a one.other others found.others one.alike found.alike;
        mean = found.mean;
      }
