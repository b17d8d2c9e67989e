-- What a reader of whole lists of tokens answers.
use Rattle.std.specs.Prelude.{◌≡◌, ℕ, ◌⊎◌, List, [], Some, None, Result, Ok, Err}
use Rattle.std.specs.List.{slice_get}
use Rattle.text_core.specs.declared.place.Place.{Place}
use Rattle.cs_token.specs.declared.token.Token.{Token}
use Rattle.cs_grammar.specs.Nesting.{too_deep}
use Rattle.cs_parse.specs.declared.fault.ParseFault.{ParseFault}
use Rattle.cs_parse.specs.declared.fault.ParseFault.TheVariants as f

-- By the tree, where the tokens spell it and nest nowhere too deeply; by Syntax, where they nest nowhere too deeply and spell nothing;
-- by TooDeep, at the first place where they nest too deeply.
abbrev pub Answers : {A : Type 0} → (List Token → A → Type 0) → List Token → Result A ParseFault → Type 0
Answers Spells ts (Ok a) = (too_deep ts ≡ None) × Spells ts a
Answers Spells ts (Err (f.Syntax p)) = (too_deep ts ≡ None) × ((a : _) → Spells ts a → ⊥)
Answers Spells ts (Err (f.TooDeep p)) = too_deep ts ≡ Some p
Answers Spells ts (Err f.Oom) = Unit {0}

-- a token stands at the place, or there are no tokens
abbrev pub AtAToken : List Token → Place → Type 0
AtAToken ts p = (ts ≡ []) ⊎ ((i : ℕ) × (t : Token) × (slice_get ts i ≡ Some t) × (p ≡ t.place))

-- so of a Syntax
abbrev pub SyntaxAtAToken : {A : Type 0} → List Token → Result A ParseFault → Type 0
SyntaxAtAToken ts (Err (f.Syntax p)) = AtAToken ts p
SyntaxAtAToken ts _ = Unit {0}
