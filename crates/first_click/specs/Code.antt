-- The code behind the content.
use Rattle.std.specs.Prelude.{◌≡◌, ℕ, true, false, List, [], ◌∷◌, ◌++◌, Some, codes, ◌⊎◌}
use Rattle.first_click.specs.declared.component.Field.{Field}
use Rattle.first_click.specs.declared.component.Method.{Method}
use Rattle.first_click.specs.Members.{Member, MemberStands, are_named_well, fields_of}
use Rattle.first_click.specs.Nesting.{is_shallow}
use Rattle.first_click.specs.Pieces.{Moment}
use Rattle.first_click.specs.Statements.{Defines}
use Rattle.first_click.specs.Tokens.{IsCode}
use Rattle.first_click.specs.Walks.{Walk}

-- tokens in braces
abbrev pub IsBlock : List (List ℕ) → List (List ℕ) → Type 0
IsBlock tokens body = tokens ≡ codes "{" ∷ (body ++ codes "}" ∷ [])

-- these tokens are members, and they declare these fields and define these methods
pub record Declares (body : List (List ℕ)) (fields : List Field) (methods : List Method) : Type 0 where
  pub members : List Member
  pub listed : Walk MemberStands body members []
  pub named : are_named_well members ≡ true
  pub valued : fields_of members ≡ Some fields
  pub defined : Defines fields members methods

-- `@code { members }`, with no letter, digit or `_` right before it, nested at most 100 deep, and nothing behind it
pub record Section (end : Moment) (fields : List Field) (methods : List Method) : Type 0 where
  pub apart : end.0 ≡ false
  pub code : List ℕ
  pub laid : end.1 ≡ codes "@code" ++ code
  pub tokens : List (List ℕ)
  pub spelled : IsCode code tokens
  pub shallow : is_shallow tokens ≡ true
  pub body : List (List ℕ)
  pub block : IsBlock tokens body
  pub declares : Declares body fields methods

-- behind the content the file ends, or its code stands
abbrev pub Closes : Moment → List Field → List Method → Type 0
Closes end fields methods = ((end.1 ≡ []) × (fields ≡ []) × (methods ≡ [])) ⊎ Section end fields methods
