-- How attributes are read.
use Rattle.std.specs.Prelude.{ℕ, zero, suc, ◌+◌, Bool, true, false, if◌then◌else◌, codes, List, [], ◌∷◌, length, Option, Some, None}
use Rattle.std.specs.Str.{bytes_eq}
use Rattle.cs_ast.specs.declared.expression.Expr.{Expr}
use Rattle.cs_ast.specs.declared.identifier.Ident.{Ident}
use Rattle.cs_token.specs.declared.token.TokenKind.{TokenKind}
use Rattle.cs_token.specs.declared.token.TokenKind.TheVariants as t
use Rattle.razor_token.specs.declared.piece.Piece.{Piece}
use Rattle.razor_token.specs.declared.piece.PieceKind.{PieceKind}
use Rattle.razor_token.specs.declared.piece.PieceKind.TheVariants as k
use Rattle.razor_ast.specs.declared.attribute.Attribute.{Attribute}
use Rattle.razor_ast.specs.declared.attribute.AttributeKind.{AttributeKind}
use Rattle.razor_ast.specs.declared.attribute.AttributeKind.TheVariants as ak
use Rattle.razor_ast.specs.declared.attribute.Given.{Given}
use Rattle.razor_ast.specs.declared.attribute.Given.TheVariants as given
use Rattle.razor_ast.specs.declared.attribute.ValuePart.{ValuePart}
use Rattle.razor_ast.specs.declared.attribute.ValuePart.TheVariants as vp
use Rattle.razor_ast.specs.Attributes as grammar
use Rattle.razor_ast.specs.Literals.{literal_run, place_of}
use Rattle.razor_ast.specs.Nesting.{open_before}
use Rattle.razor_reader.specs.declared.mark.Mark.TheVariants as m
use Rattle.razor_reader.specs.declared.names.NameForm.{NameForm}
use Rattle.razor_reader.specs.declared.names.NameForm.TheVariants as f
use Rattle.razor_reader.specs.Marks.{is_mark}
use Rattle.razor_reader.specs.Reading.{Read, Numbered, ◌>>=◌, has, after}
use Rattle.razor_reader.specs.TokenReading.{code_run}
use Rattle.razor_reader.specs.CodeReading.{spelled, plain, shown, led}
use Rattle.razor_reader.specs.NameReading.{name_form}
use Rattle.razor_reader.specs.TextReading.{text_expression, is_name_text}

-- a content expression, from its at sign to its end
abbrev pub shown_first : List Piece → Read Expr
shown_first ps = after m.At ps >>= λ inner. (after m.ExpressionEnd (code_run inner).1 >>= λ rest. (shown (code_run inner).0 >>= λ a. Some (a, rest)))

abbrev pub is_literal : PieceKind → Bool
is_literal (k.Literal text) = true
is_literal _ = false

-- a literal text stands first
abbrev pub has_literal : List Piece → Bool
has_literal [] = false
has_literal (p ∷ ps) = is_literal p.kind

-- a part of a value that isn't at its end
abbrev pub part_first : List Piece → Read ValuePart
part_first ps =
    if has_literal ps then Some (vp.Literal (literal_run ps).0, (literal_run ps).1)
    else (shown_first ps >>= λ x. Some (vp.Shown x.0, x.1))

-- parts up to the end of a value, with at most so many
unfoldable pub parts_in : ℕ → List Piece → Read (List ValuePart)
parts_in zero ps = None
parts_in (suc n) ps = elim (after m.ValueEnd ps) [
  | Some rest ↦ Some ([], rest)
  | None ↦ part_first ps >>= λ x. (parts_in n x.1 >>= λ y. Some (x.0 ∷ y.0, y.1))
]

-- literal texts and content expressions up to the end of a value
unfoldable pub parts_first : List Piece → Read (List ValuePart)
parts_first ps = parts_in (length ps) ps

-- the pieces behind the end of an expression, if that stands first
abbrev pub past_expression : List Piece → List Piece
past_expression [] = []
past_expression (p ∷ ps) = if is_mark m.ExpressionEnd p.kind then ps else p ∷ ps

-- an at sign and what stands behind it, up to the end of a value
abbrev pub led_first : List Piece → Read Expr
led_first ps =
    after m.At ps >>= λ inner. (after m.ValueEnd (past_expression (code_run inner).1) >>= λ rest. (led (code_run inner).0 >>= λ a. Some (a, rest)))

-- code up to the end of a value, as an expression or a lambda
abbrev pub code_value : List Piece → Read Expr
code_value ps = after m.ValueEnd (code_run ps).1 >>= λ rest. (spelled (code_run ps).0 >>= λ a. Some (a, rest))

-- the value of an event
abbrev pub event_value : List Piece → Read Expr
event_value ps = if has m.At ps then led_first ps else code_value ps

-- code up to the end of a value, as an expression
abbrev pub key_value : List Piece → Read Expr
key_value ps = after m.ValueEnd (code_run ps).1 >>= λ rest. (plain (code_run ps).0 >>= λ a. Some (a, rest))

-- the name that a piece of code is
abbrev pub name_in : TokenKind → Piece → Option Ident
name_in (t.Name x) p = Some (record { place = p.place; name = x })
name_in _ p = None

abbrev pub name_by : PieceKind → Piece → Option Ident
name_by (k.Code kind) p = name_in kind p
name_by _ p = None

-- a name up to the end of a value
abbrev pub name_value : List Piece → Read Ident
name_value [] = None
name_value (p ∷ ps) = name_by p.kind p >>= λ n. (after m.ValueEnd ps >>= λ rest. Some (n, rest))

-- a text up to the end of a value
abbrev pub text_value : List Piece → Read (List ℕ)
text_value ps = after m.ValueEnd (literal_run ps).1 >>= λ rest. Some ((literal_run ps).0, rest)

-- literal text mixed with content expressions, or no value
abbrev pub mixed : ℕ → List Piece → Numbered AttributeKind
mixed n ps = elim (after m.ValueStart ps) [
  | None ↦ Some (ak.Mixed n [], n + 1, ps)
  | Some inner ↦ parts_first inner >>= λ x. Some (ak.Mixed n x.0, n + 1, x.1)
]

abbrev pub event : ℕ → List Piece → Numbered AttributeKind
event n ps = after m.ValueStart ps >>= λ inner. (event_value inner >>= λ x. Some (ak.Event n x.0, n + 1, x.1))

abbrev pub bind : ℕ → List Piece → Numbered AttributeKind
bind n ps = after m.ValueStart ps >>= λ inner. (name_value inner >>= λ x. Some (ak.Bind n x.0, n + 1 + 1, x.1))

abbrev pub bind_event : ℕ → List Piece → Numbered AttributeKind
bind_event n ps =
    after m.ValueStart ps >>= λ inner. (text_value inner >>= λ x. if bytes_eq x.0 (codes "oninput") then Some (ak.BindEvent, n, x.1) else None)

abbrev pub key : ℕ → List Piece → Numbered AttributeKind
key n ps = after m.ValueStart ps >>= λ inner. (key_value inner >>= λ x. Some (ak.Key x.0, n, x.1))

abbrev pub context : ℕ → List Piece → Numbered AttributeKind
context n ps =
    after m.ValueStart ps >>= λ inner. (text_value inner >>= λ x.
    if is_name_text x.0 then Some (ak.Context n (record { place = place_of inner; name = x.0 }), n + 1, x.1) else None)

-- a value without an at sign before it, of which this is the first character
abbrev pub text : List Piece → ℕ → List Piece → Read Given
text all start inner =
    text_value inner >>= λ x. Some (given.Text (place_of inner) x.0 (text_expression (open_before start [] all) (place_of inner) x.0), x.1)

abbrev pub given_by : List Piece → ℕ → List Piece → Read Given
given_by all start inner = if has m.At inner then (led_first inner >>= λ x. Some (given.Value x.0, x.1)) else text all start inner

abbrev pub given_from : List Piece → PieceKind → Piece → List Piece → Read Given
given_from all (k.ValueStart quote) v inner = given_by all v.start inner
given_from all _ v inner = Some (given.Nothing, v ∷ inner)

-- what is given to a parameter
abbrev pub given_first : List Piece → List Piece → Read Given
given_first all [] = Some (given.Nothing, [])
given_first all (v ∷ inner) = given_from all v.kind v inner

abbrev pub parameter : List Piece → ℕ → List Piece → Numbered AttributeKind
parameter all n ps = given_first all ps >>= λ x. Some (ak.Parameter n x.0, n + 1, x.1)

-- what an attribute means whose name is of this form
abbrev pub meaning : List Piece → NameForm → ℕ → List Piece → Numbered AttributeKind
meaning all f.Plain n ps = mixed n ps
meaning all f.Parameter n ps = parameter all n ps
meaning all f.Context n ps = context n ps
meaning all f.Key n ps = key n ps
meaning all f.Event n ps = event n ps
meaning all f.Bind n ps = bind n ps
meaning all f.BindEvent n ps = bind_event n ps
meaning all f.Nothing n ps = None

-- an attribute by its name
abbrev pub named : List Piece → Bool → ℕ → Piece → List ℕ → List Piece → Numbered Attribute
named all component n p name ps = meaning all (name_form component name) n ps >>= λ x. Some (grammar.attribute p name x.0, x.1, x.2)

abbrev pub attribute_from : List Piece → Bool → ℕ → PieceKind → Piece → List Piece → Numbered Attribute
attribute_from all component n (k.AttributeName name) p ps = named all component n p name ps
attribute_from all component n _ p ps = None

-- the attribute that stands first
abbrev pub attribute_first : List Piece → Bool → ℕ → List Piece → Numbered Attribute
attribute_first all component n [] = None
attribute_first all component n (p ∷ ps) = attribute_from all component n p.kind p ps

abbrev pub is_attribute : PieceKind → Bool
is_attribute (k.AttributeName name) = true
is_attribute _ = false

-- the pieces, where an attribute stands first
abbrev pub if_attribute : List Piece → Option (List Piece)
if_attribute [] = None
if_attribute (p ∷ ps) = if is_attribute p.kind then Some (p ∷ ps) else None

-- the pieces from an attribute on that stands behind white space
abbrev pub to_attribute : List Piece → Option (List Piece)
to_attribute ps = after m.Space ps >>= if_attribute

-- attributes one behind another, with at most so many
unfoldable pub attributes_in : List Piece → Bool → ℕ → ℕ → List Piece → Numbered (List Attribute)
attributes_in all component zero n ps = None
attributes_in all component (suc left) n ps = elim (to_attribute ps) [
  | None ↦ Some ([], n, ps)
  | Some name ↦ attribute_first all component n name >>= λ x. (attributes_in all component left x.1 x.2 >>= λ y. Some (x.0 ∷ y.0, y.1, y.2))
]

unfoldable pub some_attributes : List Piece → Bool → ℕ → List Piece → Numbered (List Attribute)
some_attributes all component n ps = attributes_in all component (length ps + 1) n ps

-- the attributes of a tag
abbrev pub attributes_first : List Piece → Bool → ℕ → List Piece → Numbered (List Attribute)
attributes_first all component n ps = some_attributes all component n ps >>= λ x. if grammar.is_bound x.0 then Some (x.0, x.1, x.2) else None
