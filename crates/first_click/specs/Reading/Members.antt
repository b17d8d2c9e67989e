-- How members are cut off.
use Rattle.std.specs.Prelude.{ℕ, Bool, List, [], ◌∷◌, ◌++◌, Option, Some, None, codes, if◌then◌else◌, ◌&&◌}
use Rattle.std.specs.Str.{bytes_eq}
use Rattle.first_click.specs.declared.component.Field.{Field}
use Rattle.first_click.specs.Members.{Member, field, method, is_brace}
use Rattle.first_click.specs.Options.{◌>>=◌}

-- the tokens up to the first `}`, and those behind it
abbrev pub until_brace : List (List ℕ) → Option (List (List ℕ) × List (List ℕ))
until_brace [] = None
until_brace (token ∷ tokens) =
    if is_brace token then Some ([], tokens) else (until_brace tokens >>= λ cut. Some (token ∷ cut.0, cut.1))

-- the same, with these tokens in front
abbrev pub with_front : List (List ℕ) → Option (List (List ℕ) × List (List ℕ)) → Option (List (List ℕ) × List (List ℕ))
with_front front cut = cut >>= λ c. Some (front ++ c.0, c.1)

-- the same for fields
abbrev pub with_fields : List Field → Option (List Field) → Option (List Field)
with_fields front fields = fields >>= λ more. Some (front ++ more)

-- the tokens of a field that are always the same
abbrev pub is_declaration : List ℕ → List ℕ → List ℕ → Bool
is_declaration int equals semicolon = bytes_eq int (codes "int") && bytes_eq equals (codes "=") && bytes_eq semicolon (codes ";")

-- those of the head of a method
abbrev pub is_head : List ℕ → List ℕ → List ℕ → List ℕ → Bool
is_head void left right brace =
    bytes_eq void (codes "void") && bytes_eq left (codes "(") && bytes_eq right (codes ")") && bytes_eq brace (codes "{")

-- the field that stands first
unfoldable pub field_at : List (List ℕ) → Option (Member × List (List ℕ))
field_at (int ∷ name ∷ equals ∷ digits ∷ semicolon ∷ rest) =
    if is_declaration int equals semicolon then Some (field name digits, rest) else None
field_at _ = None

-- the method that stands first
unfoldable pub method_at : List (List ℕ) → Option (Member × List (List ℕ))
method_at (void ∷ name ∷ left ∷ right ∷ brace ∷ rest) =
    if is_head void left right brace then (until_brace rest >>= λ cut. Some (method name cut.0, cut.1)) else None
method_at _ = None

-- the one, or else the other
abbrev pub or_else : {A : Type 0} → Option A → Option A → Option A
or_else (Some x) other = Some x
or_else None other = other

-- the member that stands first, and what stands behind it
unfoldable pub member_at : List (List ℕ) → Option (Member × List (List ℕ))
member_at tokens = or_else (field_at tokens) (method_at tokens)
