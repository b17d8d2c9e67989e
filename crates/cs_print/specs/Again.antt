-- What is spelled by some text, and what a text spells again.
use Rattle.std.specs.Prelude.{ℕ, List}
use Rattle.cs_token.specs.declared.token.Token.{Token}
use Rattle.cs_token.specs.Spelling.{Spells}

-- some text has tokens that spell the tree
pub record IsSpelled {A : Type 0} (Tree : List Token → A → Type 0) (a : A) : Type 0 where
  pub text : List ℕ
  pub tokens : List Token
  pub laid : Spells text tokens
  pub tree : Tree tokens a

-- the text has tokens that spell a tree which is equal to this one, apart from places
pub record SpellsAgain {A : Type 0} (Tree : List Token → A → Type 0) (AreAlike : A → A → Type 0) (text : List ℕ) (a : A) : Type 0 where
  pub tokens : List Token
  pub other : A
  pub laid : Spells text tokens
  pub tree : Tree tokens other
  pub alike : AreAlike a other
