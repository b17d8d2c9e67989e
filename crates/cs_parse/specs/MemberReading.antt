-- How members are read, from the left.
use Rattle.std.specs.Prelude.{ℕ, zero, suc, ◌+◌, codes, Bool, true, false, ◌&&◌, ◌||◌, if◌then◌else◌, List, [], ◌∷◌, length, Option, Some, None}
use Rattle.std.specs.Str.{bytes_eq}
use Rattle.text_core.specs.declared.place.Place.{Place}
use Rattle.cs_ast.specs.declared.cs_type.TypeExpr.{TypeExpr}
use Rattle.cs_ast.specs.declared.expression.Body.{Body}
use Rattle.cs_ast.specs.declared.expression.Body.TheVariants as body
use Rattle.cs_ast.specs.declared.expression.Expr.{Expr}
use Rattle.cs_ast.specs.declared.identifier.Ident.{Ident}
use Rattle.cs_ast.specs.declared.member.Argument.{Argument}
use Rattle.cs_ast.specs.declared.member.Member.{Member}
use Rattle.cs_ast.specs.declared.member.MemberKind.{MemberKind}
use Rattle.cs_ast.specs.declared.member.MemberKind.TheVariants as mk
use Rattle.cs_token.specs.declared.token.Token.{Token}
use Rattle.cs_token.specs.declared.token.TokenKind.{TokenKind}
use Rattle.cs_token.specs.declared.token.TokenKind.TheVariants as k
use Rattle.cs_token.specs.declared.token.Sign.TheVariants as s
use Rattle.cs_token.specs.declared.token.Word.TheVariants as w
use Rattle.cs_grammar.specs.Tables.{is_modifier}
use Rattle.cs_parse.specs.declared.member.attributes.Attribute.{Attribute}
use Rattle.cs_parse.specs.declared.statement.frame.Jumps.{Jumps}
use Rattle.cs_parse.specs.Reading.{Read, ◌>>=◌, is_sign, is_word, has_sign, after, name_first}
use Rattle.cs_parse.specs.TypeReading.{type_first}
use Rattle.cs_parse.specs.ExpressionReading.{expr_first}
use Rattle.cs_parse.specs.SimpleReading.{after_word, is_name, initial, some}
use Rattle.cs_parse.specs.StatementReading.{statements_first, nowhere}

-- the token is this name
abbrev pub is_named : List ℕ → TokenKind → Bool
is_named x (k.Name y) = bytes_eq y x
is_named x _ = false

-- the tokens behind this name
abbrev pub after_name : List ℕ → List Token → Option (List Token)
after_name x [] = None
after_name x (t ∷ ts) = if is_named x t.kind then Some ts else None

-- the token is a modifier
abbrev pub modifies : TokenKind → Bool
modifies (k.Word word) = is_modifier word
modifies _ = false

-- the tokens behind the modifiers that stand first
abbrev pub unmodified : List Token → List Token
unmodified [] = []
unmodified (t ∷ ts) = if modifies t.kind then unmodified ts else t ∷ ts

abbrev pub argument_of : TypeExpr → Ident → Argument
argument_of a n = record { cs_type = a; name = n }

-- a type and a name
abbrev pub argument : List Token → Read Argument
argument ts = type_first ts >>= λ a. (name_first a.1 >>= λ n. Some (argument_of a.0 n.0, n.1))

-- what follows an argument: a comma and more, or the end
abbrev pub more_arguments : (List Token → Read (List Argument)) → Argument → List Token → Read (List Argument)
more_arguments self a ts = elim (after s.Comma ts) [ Some r ↦ self r >>= (λ x. Some (a ∷ x.0, x.1)) | None ↦ Some (a ∷ [], ts) ]

-- one argument or more, at most so many
unfoldable pub arguments_in : ℕ → List Token → Read (List Argument)
arguments_in zero ts = None
arguments_in (suc n) ts = argument ts >>= λ x. more_arguments (arguments_in n) x.0 x.1

-- the arguments that stand first
unfoldable pub arguments_first : List Token → Read (List Argument)
arguments_first ts = arguments_in (length ts + 1) ts

abbrev pub some_arguments : List Token → Read (List Argument)
some_arguments ts = arguments_first ts >>= λ x. (after s.CloseRound x.1 >>= λ r. Some (x.0, r))

-- arguments or none, and the bracket that closes them
abbrev pub argument_list : List Token → Read (List Argument)
argument_list ts = elim (after s.CloseRound ts) [ Some r ↦ Some ([], r) | None ↦ some_arguments ts ]

-- the tokens behind `void`, `Task` or `async Task`
abbrev pub after_nothing : List Token → Option (List Token)
after_nothing [] = None
after_nothing (t ∷ ts) = if is_word w.Void t.kind || is_word w.Task t.kind then Some ts else if is_word w.Async t.kind then after_word w.Task ts else None

-- the result of a method
abbrev pub result_first : List Token → Read (Option TypeExpr)
result_first ts = elim (after_nothing ts) [ Some r ↦ Some (None, r) | None ↦ type_first ts >>= some ]

-- an expression and a semicolon
abbrev pub value_first : List Token → Read Expr
value_first ts = expr_first 0 ts >>= λ x. (after s.Semicolon x.1 >>= λ r. Some (x.0, r))

abbrev pub value_body : List Token → Read Body
value_body ts = value_first ts >>= λ x. Some (body.Value x.0, x.1)

-- statements and the brace that closes them
abbrev pub block_body : List Token → Read Body
block_body ts = statements_first nowhere ts >>= λ x. (after s.CloseBrace x.1 >>= λ r. Some (body.Block x.0, r))

abbrev pub method_body : List Token → Read Body
method_body ts = elim (after s.Arrow ts) [ Some r ↦ value_body r | None ↦ after s.OpenBrace ts >>= block_body ]

-- the tokens behind a name and a semicolon
abbrev pub accessor : List ℕ → List Token → Option (List Token)
accessor x ts = after_name x ts >>= after s.Semicolon

-- the tokens behind `{ get; set; }`
abbrev pub accessors : List Token → Option (List Token)
accessors ts = after s.OpenBrace ts >>= λ o. (accessor (codes "get") o >>= λ g. (accessor (codes "set") g >>= after s.CloseBrace))

-- an initial value and a semicolon, or nothing
abbrev pub property_end : List Token → Read (Option Expr)
property_end ts = elim (after s.Assign ts) [ Some r ↦ value_first r >>= some | None ↦ Some (None, ts) ]

-- a property behind its name
abbrev pub property : List Token → Read (Option Expr)
property ts = accessors ts >>= property_end

abbrev pub property_of : TypeExpr → Ident → List Token → Read MemberKind
property_of a n ts = property ts >>= λ v. Some (mk.Field a n v.0, v.1)

abbrev pub getter : TypeExpr → Ident → List Token → Read MemberKind
getter a n ts = value_first ts >>= λ x. Some (mk.Getter a n x.0, x.1)

abbrev pub field : TypeExpr → Ident → List Token → Read MemberKind
field a n ts = initial ts >>= λ v. (after s.Semicolon v.1 >>= λ r. Some (mk.Field a n v.0, r))

-- a getter or a field
abbrev pub getter_or_field : TypeExpr → Ident → List Token → Read MemberKind
getter_or_field a n ts = elim (after s.Arrow ts) [ Some r ↦ getter a n r | None ↦ field a n ts ]

-- what has a type and a name, and no arguments
abbrev pub valued : Option TypeExpr → Ident → List Token → Read MemberKind
valued None n ts = None
valued (Some a) n ts = if has_sign s.OpenBrace ts then property_of a n ts else getter_or_field a n ts

-- a method behind its name and a bracket
abbrev pub method : Option TypeExpr → Ident → List Token → Read MemberKind
method a n ts = argument_list ts >>= λ x. (method_body x.1 >>= λ b. Some (mk.Method a n x.0 b.0, b.1))

-- what has a result and a name
abbrev pub named : Option TypeExpr → Ident → List Token → Read MemberKind
named a n ts = elim (after s.OpenRound ts) [ Some r ↦ method a n r | None ↦ valued a n ts ]

abbrev pub plain : List Token → Read MemberKind
plain ts = result_first ts >>= λ a. (name_first a.1 >>= λ n. named a.0 n.0 n.1)

-- `record`, a name and a bracket stand first
abbrev pub is_record : List Token → Bool
is_record [] = false
is_record (t ∷ []) = false
is_record (t ∷ n ∷ []) = false
is_record (t ∷ n ∷ o ∷ ts) = is_named (codes "record") t.kind && (is_name n.kind && is_sign s.OpenRound o.kind)

abbrev pub record_parts : Ident → List Token → Read MemberKind
record_parts n ts = argument_list ts >>= λ x. (after s.Semicolon x.1 >>= λ r. Some (mk.RecordDef n x.0, r))

abbrev pub record_of : List Token → Read MemberKind
record_of ts = after_name (codes "record") ts >>= λ r. (name_first r >>= λ n. (after s.OpenRound n.1 >>= λ q. record_parts n.0 q))

-- a member behind its modifiers
abbrev pub declared : List Token → Read MemberKind
declared ts = if is_record ts then record_of ts else plain ts

-- a text by its kind
abbrev pub text_of : TokenKind → List Token → Read (List ℕ)
text_of (k.Text x) ts = Some (x, ts)
text_of _ ts = None

-- the text that stands first
abbrev pub text_first : List Token → Read (List ℕ)
text_first [] = None
text_first (t ∷ ts) = text_of t.kind ts

-- `Name = ".."` and a bracket
abbrev pub source_first : List Token → Read (List ℕ)
source_first ts = after_name (codes "Name") ts >>= λ r. (after s.Assign r >>= λ q. (text_first q >>= λ x. (after s.CloseRound x.1 >>= λ c. Some (x.0, c))))

-- the same in brackets, or nothing
abbrev pub source : List Token → Read (Option (List ℕ))
source ts = elim (after s.OpenRound ts) [ Some r ↦ source_first r >>= some | None ↦ Some (None, ts) ]

abbrev pub attribute_of : Bool → Option (List ℕ) → Attribute
attribute_of cascading source = record { cascading = cascading; source = source }

-- an attribute behind its name
abbrev pub cascading : List Token → Read Attribute
cascading ts = source ts >>= λ x. (after s.CloseSquare x.1 >>= λ r. Some (attribute_of true x.0, r))

-- the same of a parameter that the parent gives
abbrev pub given : List Token → Read Attribute
given ts = after s.CloseSquare ts >>= λ r. Some (attribute_of false None, r)

-- an attribute behind its bracket
abbrev pub attribute_first : List Token → Read Attribute
attribute_first ts = elim (after_name (codes "Parameter") ts) [ Some r ↦ given r | None ↦ after_name (codes "CascadingParameter") ts >>= cascading ]

-- a parameter behind its attribute and its modifiers
abbrev pub supplied : Attribute → List Token → Read MemberKind
supplied x ts = type_first ts >>= λ a. (name_first a.1 >>= λ n. (property n.1 >>= λ v. Some (mk.Parameter x.cascading x.source a.0 n.0 v.0, v.1)))

abbrev pub parameter : List Token → Read MemberKind
parameter ts = attribute_first ts >>= λ x. supplied x.0 (unmodified x.1)

abbrev pub kind_first : List Token → Read MemberKind
kind_first ts = elim (after s.OpenSquare ts) [ Some r ↦ parameter r | None ↦ declared (unmodified ts) ]

abbrev pub member_at : Place → MemberKind → Member
member_at p kind = record { place = p; kind = kind }

-- the member that stands first
abbrev pub member : List Token → Read Member
member [] = None
member (t ∷ ts) = kind_first (t ∷ ts) >>= λ x. Some (member_at t.place x.0, x.1)

-- members to the end, at most so many
unfoldable pub members_in : ℕ → List Token → Option (List Member)
members_in zero ts = None
members_in (suc n) [] = Some []
members_in (suc n) (t ∷ ts) = member (t ∷ ts) >>= λ x. (members_in n x.1 >>= λ others. Some (x.0 ∷ others))

-- the tokens as members
unfoldable pub whole_members : List Token → Option (List Member)
whole_members ts = members_in (length ts + 1) ts
