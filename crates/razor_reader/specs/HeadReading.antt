-- How labels and the heads of loops are read.
use Rattle.std.specs.Prelude.{pos, neg_ℤ, Bool, true, false, ◌||◌, ◌&&◌, not, if◌then◌else◌, ℕ, zero, suc, List, [], ◌∷◌, ◌++◌, length, Option, Some, None}
use Rattle.cs_ast.specs.declared.expression.Expr.{Expr}
use Rattle.cs_ast.specs.declared.expression.Label.{Label}
use Rattle.cs_ast.specs.declared.expression.LabelKind.{LabelKind}
use Rattle.cs_ast.specs.declared.expression.LabelKind.TheVariants as lk
use Rattle.cs_ast.specs.declared.expression.Stmt.{Stmt}
use Rattle.cs_ast.specs.declared.expression.StmtKind.{StmtKind-F, out-StmtKind}
use Rattle.cs_ast.specs.declared.identifier.Ident.{Ident}
use Rattle.cs_token.specs.declared.token.Token.{Token}
use Rattle.cs_token.specs.declared.token.TokenKind.{TokenKind}
use Rattle.cs_token.specs.declared.token.TokenKind.TheVariants as t
use Rattle.cs_token.specs.declared.token.Word.{Word}
use Rattle.cs_token.specs.declared.token.Word.TheVariants as w
use Rattle.cs_grammar.specs.Tokens.{ident}
use Rattle.razor_token.specs.declared.piece.Piece.{Piece}
use Rattle.razor_reader.specs.declared.mark.Mark.TheVariants as m
use Rattle.razor_reader.specs.Marks.{is_token}
use Rattle.razor_reader.specs.Reading.{Read, ◌>>=◌, has}
use Rattle.razor_reader.specs.TokenReading.{code_to}
use Rattle.razor_reader.specs.CodeReading.{plain, simple}

-- a label stands first
abbrev pub has_label : List Piece → Bool
has_label ps = has m.Case ps || has m.Default ps

-- the constants that are words
unfoldable pub constant_word : Word → Option LabelKind
constant_word w.True = Some (lk.Bool true)
constant_word w.False = Some (lk.Bool false)
constant_word w.Null = Some lk.Null
constant_word _ = None

-- a constant of one token
abbrev pub constant : TokenKind → Option LabelKind
constant (t.Number n) = Some (lk.Int n)
constant (t.Text x) = Some (lk.Text x)
constant (t.Word word) = constant_word word
constant _ = None

-- a number behind `-`, not below 0
abbrev pub negative : TokenKind → Option LabelKind
negative (t.Number (pos n)) = Some (lk.Int (neg_ℤ (pos n)))
negative _ = None

abbrev pub label : Token → LabelKind → Label
label u kind = record { place = u.place; kind = kind }

-- a label of these tokens, of which the last is a colon
abbrev pub label_of : List Token → Option Label
label_of (u ∷ c ∷ []) = if not (is_token m.Default u.kind) then None else Some (label u lk.Default)
label_of (u ∷ a ∷ c ∷ []) = if not (is_token m.Case u.kind) then None else (constant a.kind >>= λ kind. Some (label a kind))
label_of (u ∷ minus ∷ a ∷ c ∷ []) =
    if not (is_token m.Case u.kind) || not (is_token m.Minus minus.kind) then None else (negative a.kind >>= λ kind. Some (label minus kind))
label_of _ = None

-- the label that stands first
abbrev pub label_first : List Piece → Read Label
label_first ps = code_to m.Colon ps >>= λ x. (label_of x.0 >>= λ a. Some (a, x.1))

-- one label or more, with at most so many
unfoldable pub labels_in : ℕ → List Piece → Read (List Label)
labels_in zero ps = None
labels_in (suc n) ps = label_first ps >>= λ x. if has_label x.1 then (labels_in n x.1 >>= λ y. Some (x.0 ∷ y.0, y.1)) else Some (x.0 ∷ [], x.1)

-- the labels that stand first
unfoldable pub labels_first : List Piece → Read (List Label)
labels_first ps = labels_in (length ps) ps

-- the tokens up to and with the first semicolon, and those behind it
abbrev pub to_semicolon : List Token → Option (List Token × List Token)
to_semicolon [] = None
to_semicolon (u ∷ ts) = if is_token m.Semicolon u.kind then Some (u ∷ [], ts) else (to_semicolon ts >>= λ x. Some (u ∷ x.0, x.1))

-- the statement that begins a `for`, or none
abbrev pub start : List Token → Option (Option Stmt)
start ts = simple ts >>= λ a. elim (out-StmtKind a.kind) [
  | StmtKind-F.Local cs_type name value ↦ Some (Some a)
  | StmtKind-F.Expr b ↦ Some (Some a)
  | StmtKind-F.Empty ↦ Some None
  | _ ↦ None
]

-- the tokens without the last
abbrev pub without_last : List Token → List Token
without_last [] = []
without_last (u ∷ []) = []
without_last (u ∷ v ∷ ts) = u ∷ without_last (v ∷ ts)

-- an expression, or none where there are no tokens
abbrev pub condition_of : List Token → Option (Option Expr)
condition_of [] = Some None
condition_of (u ∷ ts) = plain (u ∷ ts) >>= λ a. Some (Some a)

-- the condition of a `for`, of which the tokens have the semicolon
abbrev pub condition : List Token → Option (Option Expr)
condition ts = condition_of (without_last ts)

-- the expression of a statement that is a change or a call, or none of an empty one
abbrev pub act : Stmt → Option (Option Expr)
act a = elim (out-StmtKind a.kind) [ StmtKind-F.Expr b ↦ Some (Some b) | StmtKind-F.Empty ↦ Some None | _ ↦ None ]

-- the step of a `for`, with a semicolon from elsewhere
abbrev pub step : List Token → Token → Option (Option Expr)
step ts semicolon = simple (ts ++ semicolon ∷ []) >>= act

-- the last token
abbrev pub last_of : List Token → Option Token
last_of [] = None
last_of (u ∷ []) = Some u
last_of (u ∷ v ∷ ts) = last_of (v ∷ ts)

-- what begins, ends and goes on with a `for`
abbrev pub ForParts : Type 0
ForParts = Option Stmt × Option Expr × Option Expr

-- the three parts in the brackets of a `for`, of which the first two have their semicolons; the third is read with that of the second
abbrev pub three_parts : List Token → List Token → List Token → Option ForParts
three_parts first second third =
    last_of second >>= λ semicolon. (start first >>= λ begin. (condition second >>= λ holds. (step third semicolon >>= λ next. Some (begin, holds, next))))

-- what stands in the brackets of a `for`
abbrev pub for_head : List Token → Option ForParts
for_head ts = to_semicolon ts >>= λ x. (to_semicolon x.1 >>= λ y. three_parts x.0 y.0 y.1)

-- a name as part of a tree
abbrev pub name_by : TokenKind → Token → Option Ident
name_by (t.Name x) u = Some (ident u x)
name_by _ u = None

abbrev pub name_of : Token → Option Ident
name_of u = name_by u.kind u

-- what stands in the brackets of a `foreach`
abbrev pub for_each_head : List Token → Option (Ident × Expr)
for_each_head (v ∷ n ∷ i ∷ ts) =
    if not (is_token m.Var v.kind) || not (is_token m.In i.kind) then None
    else (name_of n >>= λ name. (plain ts >>= λ a. Some (name, a)))
for_each_head _ = None
