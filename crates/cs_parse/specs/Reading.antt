-- How tokens are read one by one, and what a reader gives.
use Rattle.std.specs.Prelude.{◌≡◌, Bool, false, ◌==◌, if◌then◌else◌, List, [], ◌∷◌, Option, Some, None, Result, Ok, Err}
use Rattle.cs_ast.specs.declared.identifier.Ident.{Ident}
use Rattle.cs_token.specs.declared.token.Token.{Token}
use Rattle.cs_token.specs.declared.token.TokenKind.{TokenKind}
use Rattle.cs_token.specs.declared.token.TokenKind.TheVariants as k
use Rattle.cs_token.specs.declared.token.Sign.{Sign}
use Rattle.cs_token.specs.declared.token.Word.{Word}
use Rattle.cs_grammar.specs.Tokens.{ident}
use Rattle.cs_parse.specs.declared.unread.Unread.{Unread}
use Rattle.cs_parse.specs.declared.unread.Unread.TheVariants as u
use Rattle.cs_parse.specs.Numbers.{sign_number, word_number}

-- what is read, and the tokens behind it
abbrev pub Read : Type 0 → Type 0
Read A = Option (A × List Token)

-- a step, and the next where it gave something
infixl 10 ◌>>=◌
abbrev pub ◌>>=◌ : {A B : Type 0} → Option A → (A → Option B) → Option B
None >>= g = None
(Some x) >>= g = g x

-- the token is this sign
abbrev pub is_sign : Sign → TokenKind → Bool
is_sign sign (k.Sign x) = sign_number x == sign_number sign
is_sign sign _ = false

-- the token is this word
abbrev pub is_word : Word → TokenKind → Bool
is_word word (k.Word x) = word_number x == word_number word
is_word word _ = false

-- this sign stands first
abbrev pub has_sign : Sign → List Token → Bool
has_sign sign [] = false
has_sign sign (t ∷ ts) = is_sign sign t.kind

-- the tokens behind this sign
abbrev pub after : Sign → List Token → Option (List Token)
after sign [] = None
after sign (t ∷ ts) = if is_sign sign t.kind then Some ts else None

-- a name by its kind
abbrev pub named : TokenKind → Token → List Token → Read Ident
named (k.Name x) t ts = Some (ident t x, ts)
named _ t ts = None

-- the name that stands first
abbrev pub name_first : List Token → Read Ident
name_first [] = None
name_first (t ∷ ts) = named t.kind t ts

-- What a function returned, seen by view, is what reading gives, unless memory ran out.
abbrev pub Fails : {Y : Type 0} → Unread → Option Y → Type 0
Fails u.Oom read = Unit {0}
Fails (u.Syntax left) read = read ≡ None

abbrev pub Gives : {X Y : Type 0} → (X → Y) → Result X Unread → Option Y → Type 0
Gives view (Ok x) read = read ≡ Some (view x)
Gives view (Err e) read = Fails e read
