-- Trees of code that tokens spell which a text can have.
use Rattle.std.specs.Prelude.{◌≡◌, ◌≢◌, ℕ, ◌<◌, ◌^◌, pos, Bool, true, false, List, [], ◌∷◌, length, codes, Option}
use Rattle.text_core.specs.declared.place.Place.{Place}
use Rattle.cs_ast.specs.declared.expression.Expr.{Expr}
use Rattle.cs_ast.specs.declared.expression.ExprKind.TheVariants as ek
use Rattle.cs_ast.specs.declared.expression.Stmt.{Stmt}
use Rattle.cs_ast.specs.declared.expression.StmtKind.{StmtKind}
use Rattle.cs_ast.specs.declared.expression.StmtKind.TheVariants as st
use Rattle.cs_token.specs.declared.token.Token.{Token}
use Rattle.cs_token.specs.declared.token.TokenKind.{TokenKind}
use Rattle.cs_token.specs.declared.token.TokenKind.TheVariants as k
use Rattle.cs_token.specs.declared.token.Sign.TheVariants as s
use Rattle.cs_token.specs.declared.token.Word.{Word}
use Rattle.cs_token.specs.declared.token.Word.TheVariants as w
use Rattle.cs_token.specs.Characters.{IsName}
use Rattle.cs_token.specs.Words.{spelling}
use Rattle.cs_grammar.specs.Expressions.{Spells, node}
use Rattle.cs_grammar.specs.Statements.{Simple, Condition, stmt}
use Rattle.cs_grammar.specs.Tokens.{IsSign, IsWord, ident}

-- A text can have such a token: a name is no word, a number is not below 0 and fits 32 bits, a literal text isn't empty.
abbrev pub IsLexeme : TokenKind → Type 0
IsLexeme (k.Name x) = IsName x × ((word : Word) → x ≢ spelling word)
IsLexeme (k.Number n) = (m : ℕ) × (n ≡ pos m) × (m < 2 ^ 31)
IsLexeme (k.Part x) = 0 < length x
IsLexeme _ = Unit {0}

-- a literal text of an interpolated one
abbrev pub is_part : TokenKind → Bool
is_part (k.Part x) = true
is_part _ = false

-- literal text stands first
abbrev pub begins_part : List Token → Bool
begins_part [] = false
begins_part (t ∷ ts) = is_part t.kind

-- a text can have these tokens one behind another: no two literal texts stand side by side
pub data AreProper : List Token → Type 0 where
  no_token : AreProper []
  one_token : (t : Token) (ts : List Token) → IsLexeme t.kind → (is_part t.kind ≡ true → begins_part ts ≡ false) → AreProper ts → AreProper (t ∷ ts)

-- such tokens spell the tree
pub record IsWritten {A : Type 0} (Tree : List Token → A → Type 0) (a : A) : Type 0 where
  pub tokens : List Token
  pub proper : AreProper tokens
  pub tree : Tree tokens a

-- the token is the name
abbrev pub Named : List Token → List ℕ → Type 0
Named ts x = (t : Token) × (ts ≡ t ∷ []) × (t.kind ≡ k.Name x)

-- the tokens spell a statement without statements in it, with its semicolon
pub data OneStatement : List Token → Stmt → Type 0 where
  simple : (p : Place) (c : Token) (ts : List Token) (kind : StmtKind) → Simple p ts (c ∷ []) kind → IsSign s.Semicolon c → OneStatement ts (stmt p kind)
  empty : (c : Token) → IsSign s.Semicolon c → OneStatement (c ∷ []) (stmt c.place st.Empty)
  await_ : (p q r : Place) (t n c : Token) (ts : List Token) (a : Expr) (bs : List Expr) → IsWord w.Await t
      → Spells 0 p ts (c ∷ []) (node q (ek.Call (node r (ek.Member a (ident n (codes "InvokeAsync")))) bs)) → IsSign s.Semicolon c
      → OneStatement (t ∷ ts) (stmt t.place (st.Await (node q (ek.Call (node r (ek.Member a (ident n (codes "InvokeAsync")))) bs))))
  break_ : (t c : Token) → IsWord w.Break t → IsSign s.Semicolon c → OneStatement (t ∷ c ∷ []) (stmt t.place st.Break)
  continue_ : (t c : Token) → IsWord w.Continue t → IsSign s.Semicolon c → OneStatement (t ∷ c ∷ []) (stmt t.place st.Continue)
  return_ : (t c : Token) (ts : List Token) (value : Option Expr) → IsWord w.Return t → Condition ts (c ∷ []) value → IsSign s.Semicolon c → OneStatement (t ∷ ts) (stmt t.place (st.Return value))
