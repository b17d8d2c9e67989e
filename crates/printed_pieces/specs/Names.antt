-- What the names of tags and attributes are written with.
use Rattle.std.specs.Prelude.{◌≡◌, ℕ, true, List, ◌∷◌}
use Rattle.std.specs.List.{list_all}
use Rattle.razor_token.specs.declared.runs.RunKind.TheVariants as r
use Rattle.razor_token.specs.Runs.{is_of}

-- the name of a tag: letters, digits and dashes
pub data IsTagName : List ℕ → Type 0 where
  tag_name : (c : ℕ) (name : List ℕ) → is_of r.TagName c ≡ true → list_all (is_of r.TagName) name ≡ true → IsTagName (c ∷ name)

-- the name of an attribute: these, colons and dots, and an at sign may stand first
pub data IsAttributeName : List ℕ → Type 0 where
  plain : (c : ℕ) (name : List ℕ) → is_of r.AttributeName c ≡ true → list_all (is_of r.AttributeName) name ≡ true → IsAttributeName (c ∷ name)
  marked : (name : List ℕ) → list_all (is_of r.AttributeName) name ≡ true → IsAttributeName (64 ∷ name)
