-- Which tokens spell which members.
use Rattle.std.specs.Prelude.{◌≡◌, ℕ, codes, Bool, true, false, List, [], ◌∷◌, Option, Some, None}
use Rattle.text_core.specs.declared.place.Place.{Place}
use Rattle.cs_ast.specs.declared.cs_type.TypeExpr.{TypeExpr}
use Rattle.cs_ast.specs.declared.expression.Body.{Body}
use Rattle.cs_ast.specs.declared.expression.Body.TheVariants as body
use Rattle.cs_ast.specs.declared.expression.Expr.{Expr}
use Rattle.cs_ast.specs.declared.expression.Stmt.{Stmt}
use Rattle.cs_ast.specs.declared.member.Argument.{Argument}
use Rattle.cs_ast.specs.declared.member.Member.{Member}
use Rattle.cs_ast.specs.declared.member.MemberKind.{MemberKind}
use Rattle.cs_ast.specs.declared.member.MemberKind.TheVariants as mk
use Rattle.cs_token.specs.declared.token.Token.{Token}
use Rattle.cs_token.specs.declared.token.TokenKind.TheVariants as k
use Rattle.cs_token.specs.declared.token.Sign.TheVariants as s
use Rattle.cs_token.specs.declared.token.Word.{Word}
use Rattle.cs_token.specs.declared.token.Word.TheVariants as w
use Rattle.cs_grammar.specs.Tokens.{IsSign, IsWord, IsName, ident}
use Rattle.cs_grammar.specs.Tables.{is_modifier}
use Rattle.cs_grammar.specs.Types.{WritesType}
use Rattle.cs_grammar.specs.Expressions.{Spells}
use Rattle.cs_grammar.specs.Statements.{Statements, Initial, no_jumps}

-- any number of modifiers
pub data Modifiers : List Token → List Token → Type 0 where
  none : (rest : List Token) → Modifiers rest rest
  more : (word : Word) (t : Token) (ts rest : List Token) → IsWord word t → is_modifier word ≡ true → Modifiers ts rest → Modifiers (t ∷ ts) rest

-- types and names with commas between them
pub data SomeArguments : List Token → List Token → List Argument → Type 0 where
  one : (x : List ℕ) (n : Token) (ts rest : List Token) (a : TypeExpr) →
      WritesType ts (n ∷ rest) a → IsName x n → SomeArguments ts rest (record { cs_type = a; name = ident n x } ∷ [])
  more : (x : List ℕ) (n t : Token) (ts us rest : List Token) (a : TypeExpr) (others : List Argument) →
      WritesType ts (n ∷ t ∷ us) a → IsName x n → IsSign s.Comma t → SomeArguments us rest others →
      SomeArguments ts rest (record { cs_type = a; name = ident n x } ∷ others)

-- the same or nothing, in round brackets of which the first is left out
pub data ArgumentList : List Token → List Token → List Argument → Type 0 where
  none : (c : Token) (rest : List Token) → IsSign s.CloseRound c → ArgumentList (c ∷ rest) rest []
  some : (c : Token) (ts rest : List Token) (arguments : List Argument) →
      SomeArguments ts (c ∷ rest) arguments → IsSign s.CloseRound c → ArgumentList ts rest arguments

-- the result of a method, none for `void`, `Task` and `async Task`
pub data Result : List Token → List Token → Option TypeExpr → Type 0 where
  value : (ts rest : List Token) (a : TypeExpr) → WritesType ts rest a → Result ts rest (Some a)
  void : (t : Token) (rest : List Token) → IsWord w.Void t → Result (t ∷ rest) rest None
  task : (t : Token) (rest : List Token) → IsWord w.Task t → Result (t ∷ rest) rest None
  async_task : (t u : Token) (rest : List Token) → IsWord w.Async t → IsWord w.Task u → Result (t ∷ u ∷ rest) rest None

-- the body of a method
pub data MethodBody : List Token → List Token → Body → Type 0 where
  value : (p : Place) (t c : Token) (ts rest : List Token) (a : Expr) →
      IsSign s.Arrow t → Spells 0 p ts (c ∷ rest) a → IsSign s.Semicolon c → MethodBody (t ∷ ts) rest (body.Value a)
  block : (o c : Token) (ts rest : List Token) (statements : List Stmt) →
      IsSign s.OpenBrace o → Statements no_jumps ts (c ∷ rest) statements → IsSign s.CloseBrace c → MethodBody (o ∷ ts) rest (body.Block statements)

-- `{ get; set; }`
pub data Accessors : List Token → List Token → Type 0 where
  accessors : (o g m t n c : Token) (rest : List Token) →
      IsSign s.OpenBrace o → IsName (codes "get") g → IsSign s.Semicolon m → IsName (codes "set") t → IsSign s.Semicolon n → IsSign s.CloseBrace c →
      Accessors (o ∷ g ∷ m ∷ t ∷ n ∷ c ∷ rest) rest

-- what follows the accessors: nothing, or an initial value and a semicolon
pub data PropertyEnd : List Token → List Token → Option Expr → Type 0 where
  none : (rest : List Token) → PropertyEnd rest rest None
  some : (p : Place) (t c : Token) (ts rest : List Token) (a : Expr) →
      IsSign s.Assign t → Spells 0 p ts (c ∷ rest) a → IsSign s.Semicolon c → PropertyEnd (t ∷ ts) rest (Some a)

-- an attribute: whether the parameter is cascading, and the name of what it takes
pub data Attribute : List Token → List Token → Bool → Option (List ℕ) → Type 0 where
  parameter : (o n c : Token) (rest : List Token) →
      IsSign s.OpenSquare o → IsName (codes "Parameter") n → IsSign s.CloseSquare c → Attribute (o ∷ n ∷ c ∷ rest) rest false None
  cascading : (o n c : Token) (rest : List Token) →
      IsSign s.OpenSquare o → IsName (codes "CascadingParameter") n → IsSign s.CloseSquare c → Attribute (o ∷ n ∷ c ∷ rest) rest true None
  cascading_of : (x : List ℕ) (o n b m t v d c : Token) (rest : List Token) →
      IsSign s.OpenSquare o → IsName (codes "CascadingParameter") n → IsSign s.OpenRound b → IsName (codes "Name") m → IsSign s.Assign t →
      v.kind ≡ k.Text x → IsSign s.CloseRound d → IsSign s.CloseSquare c →
      Attribute (o ∷ n ∷ b ∷ m ∷ t ∷ v ∷ d ∷ c ∷ rest) rest true (Some x)

-- a member behind its modifiers; where the word `record`, a name and a bracket stand first, it is a record
pub data Declared : List Token → List Token → MemberKind → Type 0 where
  field : (x : List ℕ) (n c : Token) (ts us rest : List Token) (a : TypeExpr) (value : Option Expr) →
      WritesType ts (n ∷ us) a → IsName x n → Initial us (c ∷ rest) value → IsSign s.Semicolon c → Declared ts rest (mk.Field a (ident n x) value)
  property : (x : List ℕ) (n : Token) (ts us vs rest : List Token) (a : TypeExpr) (value : Option Expr) →
      WritesType ts (n ∷ us) a → IsName x n → Accessors us vs → PropertyEnd vs rest value → Declared ts rest (mk.Field a (ident n x) value)
  getter : (x : List ℕ) (p : Place) (n t c : Token) (ts us rest : List Token) (a : TypeExpr) (value : Expr) →
      WritesType ts (n ∷ t ∷ us) a → IsName x n → IsSign s.Arrow t → Spells 0 p us (c ∷ rest) value → IsSign s.Semicolon c →
      Declared ts rest (mk.Getter a (ident n x) value)
  method : (x : List ℕ) (n o : Token) (ts us vs rest : List Token) (a : Option TypeExpr) (arguments : List Argument) (b : Body) →
      Result ts (n ∷ o ∷ us) a → ((t : Token) → ts ≡ t ∷ n ∷ o ∷ us → IsName (codes "record") t → ⊥) → IsName x n → IsSign s.OpenRound o →
      ArgumentList us vs arguments → MethodBody vs rest b →
      Declared ts rest (mk.Method a (ident n x) arguments b)
  record_of : (x : List ℕ) (t n o c : Token) (ts rest : List Token) (parts : List Argument) →
      IsName (codes "record") t → IsName x n → IsSign s.OpenRound o → ArgumentList ts (c ∷ rest) parts → IsSign s.Semicolon c →
      Declared (t ∷ n ∷ o ∷ ts) rest (mk.RecordDef (ident n x) parts)

-- a parameter behind its attribute and its modifiers: a property
pub data Supplied : Bool → Option (List ℕ) → List Token → List Token → MemberKind → Type 0 where
  supplied : (cascading : Bool) (source : Option (List ℕ)) (x : List ℕ) (n : Token) (ts us vs rest : List Token) (a : TypeExpr) (value : Option Expr) →
      WritesType ts (n ∷ us) a → IsName x n → Accessors us vs → PropertyEnd vs rest value →
      Supplied cascading source ts rest (mk.Parameter cascading source a (ident n x) value)

-- a member, of which the first token stands at its place
pub data IsMember : List Token → List Token → Member → Type 0 where
  plain : (t : Token) (ts us rest : List Token) (kind : MemberKind) →
      Modifiers (t ∷ ts) us → Declared us rest kind → IsMember (t ∷ ts) rest (record { place = t.place; kind = kind })
  parameter : (cascading : Bool) (source : Option (List ℕ)) (t : Token) (ts us vs rest : List Token) (kind : MemberKind) →
      Attribute (t ∷ ts) us cascading source → Modifiers us vs → Supplied cascading source vs rest kind →
      IsMember (t ∷ ts) rest (record { place = t.place; kind = kind })

-- the tokens spell the members, one behind another
pub data SpelledMembers : List Token → List Member → Type 0 where
  none : SpelledMembers [] []
  more : (ts us : List Token) (first : Member) (others : List Member) → IsMember ts us first → SpelledMembers us others → SpelledMembers ts (first ∷ others)
