-- What a single token is.
use Rattle.std.specs.Prelude.{◌≡◌, ℕ, List}
use Rattle.cs_ast.specs.declared.identifier.Ident.{Ident}
use Rattle.cs_token.specs.declared.token.Token.{Token}
use Rattle.cs_token.specs.declared.token.TokenKind.TheVariants as k
use Rattle.cs_token.specs.declared.token.Sign.{Sign}
use Rattle.cs_token.specs.declared.token.Word.{Word}

-- the sign
abbrev pub IsSign : Sign → Token → Type 0
IsSign sign t = t.kind ≡ k.Sign sign

-- the word that is no name
abbrev pub IsWord : Word → Token → Type 0
IsWord word t = t.kind ≡ k.Word word

-- the name of these characters
abbrev pub IsName : List ℕ → Token → Type 0
IsName name t = t.kind ≡ k.Name name

-- a name as part of a tree
abbrev pub ident : Token → List ℕ → Ident
ident t name = record { place = t.place; name = name }
