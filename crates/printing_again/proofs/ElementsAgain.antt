-- Attributes of elements are spelled again.
use Rattle.std.proofs.Common.{◌≡◌, ℕ, ◌+◌, Bool, false, List, [], ◌∷◌, ◌++◌, Some, refl, sym, ap, ◌∙◌, subst, append_assoc}
use Rattle.std.specs.Prelude.{codes}
use Rattle.std.specs.List.{flat_map}
use Rattle.text_core.specs.declared.place.Place.{Place}
use Rattle.cs_ast.specs.declared.expression.Expr.{Expr}
use Rattle.cs_token.specs.declared.token.TokenKind.TheVariants as t
use Rattle.cs_grammar.specs.Expressions.{SpelledExpression}
use Rattle.cs_grammar.specs.Lambdas.{Spelled}
use Rattle.cs_print.specs.Printed.{whole, printed}
use Rattle.cs_print.proofs.ExpressionForms.{all}
use Rattle.cs_print.proofs.ExpressionsAgain.{expression}
use Rattle.razor_token.specs.declared.piece.Piece.{Piece}
use Rattle.razor_token.specs.declared.piece.PieceKind.TheVariants as k
use Rattle.razor_token.specs.declared.piece.Quote.{Quote}
use Rattle.razor_token.specs.declared.piece.Quote.TheVariants as q
use Rattle.razor_token.specs.CodeFronts.{mark}
use Rattle.razor_ast.specs.declared.attribute.Attribute.{Attribute}
use Rattle.razor_ast.specs.declared.attribute.AttributeKind.TheVariants as ak
use Rattle.razor_ast.specs.declared.attribute.ValuePart.{ValuePart}
use Rattle.razor_ast.specs.Attributes.{OfElement, KeyOf}
use Rattle.razor_ast.specs.Attributes as ga
use Rattle.razor_ast.specs.AttributeNames.{begins_at, IsEvent}
use Rattle.razor_ast.specs.Brackets.{token_of}
use Rattle.razor_ast.specs.Literals.{literal_run}
use Rattle.razor_ast.specs.Pieces.{IsKind, codes_of}
use Rattle.razor_print.specs.Attributes.{value_part, value_parts, attribute_parts}
use Rattle.razor_print.specs.Parts.{Parts, quoted, led, tokens}
use Rattle.razor_print.specs.Parts as parts
use Rattle.razor_print.specs.Quotes.{mixed_quote}
use Rattle.printed_pieces.specs.Meant.{Mean}
use Rattle.printed_pieces.specs.Printable.{AreParts, IsKindOf}
use Rattle.printed_pieces.specs.Printable as pr
use Rattle.printed_pieces.specs.Written.{IsWritten}
use Rattle.printed_pieces.proofs.WrittenCode.{proper}
use Rattle.printing_again.specs.Again.{AttributeAgain, IsKey}
use Rattle.printing_again.specs.Again as ag
use Rattle.printing_again.proofs.MeantLaws.{first-piece, first-token, first-tokens, piece-is}
use Rattle.printing_again.proofs.PartsAgain.{parts_again, first-verbatim, run-says, stops}
use Rattle.printing_again.proofs.ShownAgain.{event_again}

-- white space, a name and the start of a value, with what is behind them
pub record Started (name : List ℕ) (quote : Quote) (value : Parts) (later : Parts) (ps : List Piece) : Type 0 where
  pub space : Piece
  pub p : Piece
  pub v : Piece
  pub rest : List Piece
  pub split : space ∷ p ∷ v ∷ rest ≡ ps
  pub blank : IsKind k.Space space
  pub named : IsKind (k.AttributeName name) p
  pub starts : IsKind (k.ValueStart (Some quote)) v
  pub mean : Mean (value ++ parts.piece k.ValueEnd (mark quote ∷ []) ∷ later) rest

pub started : (name : List ℕ) (quote : Quote) (value later : Parts) (ps : List Piece) → Mean ((parts.piece k.Space (32 ∷ []) ∷ parts.piece (k.AttributeName name) name ∷ quoted quote value) ++ later) ps → Started name quote value later ps
started name quote value later ps mean =
    let space = first-piece k.Space (32 ∷ []) _ ps mean in
    let p = first-piece (k.AttributeName name) name _ space.rest space.mean in
    let v = first-piece (k.ValueStart (Some quote)) (61 ∷ mark quote ∷ []) _ p.rest p.mean in
    record {
      space = space.p;
      p = p.p;
      v = v.p;
      rest = v.rest;
      split = ap (λ z. space.p ∷ p.p ∷ z) v.split ∙ ap (λ z. space.p ∷ z) p.split ∙ space.split;
      blank = space.is;
      named = p.is;
      starts = v.is;
      mean = subst (λ z. Mean z v.rest) (append_assoc value (parts.piece k.ValueEnd (mark quote ∷ []) ∷ []) later) v.mean;
    }

-- what is known of values, by their kinds

mixed-of : (component : Bool) (name : List ℕ) (n : ℕ) (xs : List ValuePart) → IsKindOf component name (ak.Mixed n xs) → AreParts (mixed_quote xs) false xs
mixed-of component name _ _ (pr.mixed n xs e is) = is

event-of : (component : Bool) (name : List ℕ) (n : ℕ) (a : Expr) → IsKindOf component name (ak.Event n a) → IsWritten Spelled a
event-of component name _ _ (pr.event n a e is) = is

key-of : (component : Bool) (name : List ℕ) (a : Expr) → IsKindOf component name (ak.Key a) → IsWritten SpelledExpression a
key-of component name _ (pr.key a e is) = is

mixed-again : (n : ℕ) (x : List ℕ) (place : Place) (xs : List ValuePart) (later : Parts) (ps : List Piece) → begins_at x ≡ false → IsKindOf false x (ak.Mixed n xs)
    → Mean (attribute_parts (record { place = place; name = x; kind = ak.Mixed n xs }) ++ later) ps → AttributeAgain OfElement n (n + 1) (record { place = place; name = x; kind = ak.Mixed n xs }) later ps
unfolding value_parts
mixed-again n x place xs later ps no_at is mean =
    let h = started x (mixed_quote xs) (flat_map value_part xs) later ps mean in
    let found = parts_again (mixed_quote xs) false xs (mark (mixed_quote xs) ∷ []) later h.rest (mixed-of false x n xs is) h.mean in
    record {
      space = h.space;
      us = h.p ∷ h.v ∷ h.rest;
      rest = found.rest;
      other = _;
      split = h.split;
      blank = h.blank;
      spelled = ga.OfElement.mixed n x h.p h.v h.rest found.rest found.others h.named no_at (Some (mixed_quote xs), h.starts) found.spelled;
      alike = ag.alike place h.p.place x (ak.Mixed n xs) (ak.Mixed n found.others) (ag.mixed n xs found.others found.alike);
      mean = found.mean;
    }

event-again : (n : ℕ) (x : List ℕ) (place : Place) (a : Expr) (later : Parts) (ps : List Piece) → IsEvent x → IsKindOf false x (ak.Event n a)
    → Mean (attribute_parts (record { place = place; name = x; kind = ak.Event n a }) ++ later) ps → AttributeAgain OfElement n (n + 1) (record { place = place; name = x; kind = ak.Event n a }) later ps
unfolding value_parts
event-again n x place a later ps is_event is mean =
    let h = started x q.Double (led (whole (printed a))) later ps mean in
    let found = event_again a (mark q.Double ∷ []) later h.rest (event-of false x n a is) h.mean in
    record {
      space = h.space;
      us = h.p ∷ h.v ∷ h.rest;
      rest = found.rest;
      other = _;
      split = h.split;
      blank = h.blank;
      spelled = ga.OfElement.event n x h.p h.v h.rest found.rest found.other h.named is_event (Some q.Double, h.starts) found.spelled;
      alike = ag.alike place h.p.place x (ak.Event n a) (ak.Event n found.other) (ag.event n a found.other found.alike);
      mean = found.mean;
    }

bind-again : (n : ℕ) (x : List ℕ) (place where_it_is : Place) (later : Parts) (ps : List Piece)
    → Mean (attribute_parts (record { place = place; name = codes "@bind"; kind = ak.Bind n (record { place = where_it_is; name = x }) }) ++ later) ps
    → AttributeAgain OfElement n (n + 2) (record { place = place; name = codes "@bind"; kind = ak.Bind n (record { place = where_it_is; name = x }) }) later ps
unfolding value_parts
bind-again n x place where_it_is later ps mean =
    let h = started (codes "@bind") q.Double (parts.token (t.Name x) ∷ []) later ps mean in
    let name = first-token (t.Name x) (parts.piece k.ValueEnd (mark q.Double ∷ []) ∷ later) h.rest h.mean in
    let end = first-piece k.ValueEnd (mark q.Double ∷ []) later name.rest name.mean in
    let name_token = token_of name.p (t.Name x) in
    let inner : codes_of (name_token ∷ []) ++ end.p ∷ end.rest ≡ h.rest = ap (λ z. z ∷ (end.p ∷ end.rest)) (piece-is name.p (t.Name x) name.is) ∙ ap (λ z. name.p ∷ z) end.split ∙ name.split in
    record {
      space = h.space;
      us = h.p ∷ h.v ∷ (codes_of (name_token ∷ []) ++ end.p ∷ end.rest);
      rest = end.rest;
      other = _;
      split = ap (λ z. h.space ∷ h.p ∷ h.v ∷ z) inner ∙ h.split;
      blank = h.blank;
      spelled = ga.OfElement.bind n x h.p h.v end.p name_token end.rest h.named (Some q.Double, h.starts) refl end.is;
      alike = ag.alike place h.p.place (codes "@bind") _ _ (ag.bind n x where_it_is name_token.place);
      mean = end.mean;
    }

bind-event-again : (n : ℕ) (place : Place) (later : Parts) (ps : List Piece)
    → Mean (attribute_parts (record { place = place; name = codes "@bind:event"; kind = ak.BindEvent }) ++ later) ps
    → AttributeAgain OfElement n n (record { place = place; name = codes "@bind:event"; kind = ak.BindEvent }) later ps
unfolding value_parts
bind-event-again n place later ps mean =
    let h = started (codes "@bind:event") q.Double (parts.verbatim (codes "oninput") ∷ []) later ps mean in
    let said = first-verbatim (codes "oninput") (parts.piece k.ValueEnd (mark q.Double ∷ []) ∷ later) h.rest h.mean in
    let end = first-piece k.ValueEnd (mark q.Double ∷ []) later said.rest said.mean in
    let run : literal_run h.rest ≡ (codes "oninput", end.p ∷ end.rest) =
    ap literal_run (sym (ap (λ z. said.us ++ z) end.split ∙ said.split)) ∙ run-says (codes "oninput") said.us (end.p ∷ end.rest) said.says (stops k.ValueEnd end.p end.rest end.is refl) in
    record {
      space = h.space;
      us = h.p ∷ h.v ∷ h.rest;
      rest = end.rest;
      other = _;
      split = h.split;
      blank = h.blank;
      spelled = ga.OfElement.bind_event n h.p h.v h.rest end.rest h.named (Some q.Double, h.starts) (ga.text end.p h.rest end.rest (codes "oninput") run end.is);
      alike = ag.alike place h.p.place (codes "@bind:event") ak.BindEvent ak.BindEvent ag.bind_event;
      mean = end.mean;
    }

-- an attribute of an element that some pieces spell
pub element_again : (n m : ℕ) (ps rest : List Piece) (a : Attribute) → OfElement n ps rest m a → IsKindOf false a.name a.kind → (later : Parts) (us : List Piece) → Mean (attribute_parts a ++ later) us → AttributeAgain OfElement n m a later us
element_again _ _ _ _ _ (ga.OfElement.no_value n x p rest named no_at) is later us mean = mixed-again n x p.place [] later us no_at is mean
element_again _ _ _ _ _ (ga.OfElement.mixed n x p v ps rest xs named no_at starts h) is later us mean = mixed-again n x p.place xs later us no_at is mean
element_again _ _ _ _ _ (ga.OfElement.event n x p v ps rest a named is_event starts h) is later us mean = event-again n x p.place a later us is_event is mean
element_again _ _ _ _ _ (ga.OfElement.bind n x p v end name rest named starts is_name ends) is later us mean = bind-again n x p.place name.place later us mean
element_again _ _ _ _ _ (ga.OfElement.bind_event n p v ps rest named starts h) is later us mean = bind-event-again n p.place later us mean

-- a key
pub key_again : (n : ℕ) (ps rest : List Piece) (a : Attribute) (component : Bool) → KeyOf ps rest a → IsKindOf component a.name a.kind → (later : Parts) (us : List Piece) → Mean (attribute_parts a ++ later) us
    → AttributeAgain IsKey n n a later us
unfolding value_parts
key_again n _ _ _ component (ga.key p v end ts rest a named starts h ends) is later us mean =
    let s = started (codes "@key") q.Single (tokens (whole (printed a))) later us mean in
    let inner = first-tokens (whole (printed a)) (parts.piece k.ValueEnd (mark q.Single ∷ []) ∷ later) s.rest s.mean in
    let last = first-piece k.ValueEnd (mark q.Single ∷ []) later inner.rest inner.mean in
    let known = key-of component (codes "@key") a is in
    let found = (all a (expression 0 known.tree.0 known.tokens [] a known.tree.1 (proper known.tokens known.proper)).again).reads inner.ts [] inner.are in
    record {
      space = s.space;
      us = s.p ∷ s.v ∷ (codes_of inner.ts ++ last.p ∷ last.rest);
      rest = last.rest;
      other = _;
      split = ap (λ z. s.space ∷ s.p ∷ s.v ∷ z) (ap (λ z. codes_of inner.ts ++ z) last.split ∙ inner.split) ∙ s.split;
      blank = s.blank;
      spelled = ga.key s.p s.v last.p inner.ts last.rest found.tree s.named (Some q.Single, s.starts) (found.place, found.spelled) last.is;
      alike = ag.alike p.place s.p.place (codes "@key") (ak.Key a) (ak.Key found.tree) (ag.key a found.tree found.alike);
      mean = last.mean;
    }
