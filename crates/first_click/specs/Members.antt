-- The members that stand in a block of code.
use Rattle.std.specs.Prelude.{◌≡◌, ℕ, Bool, true, false, not, ◌&&◌, List, [], ◌∷◌, ◌++◌, codes, Option, Some}
use Rattle.std.specs.List.{list_any}
use Rattle.std.specs.Str.{bytes_eq}
use Rattle.text_core.specs.Decimal.{i32_of}
use Rattle.first_click.specs.declared.component.Field.{Field}
use Rattle.first_click.specs.Fields as f
use Rattle.first_click.specs.Names.{is_field_name, is_method_name}
use Rattle.first_click.specs.Options.{◌>>=◌}

-- a field by its name and the token of its value, or a method by its name and the tokens between its braces
pub data Member : Type 0 where
  field : (name digits : List ℕ) → Member
  method : (name : List ℕ) (body : List (List ℕ)) → Member

-- `}`
abbrev pub is_brace : List ℕ → Bool
is_brace token = bytes_eq token (codes "}")

-- this member stands first, and leaves these tokens behind it
pub data MemberStands : List (List ℕ) → Member → List (List ℕ) → Type 0 where
  -- `int name = digits;`
  declares : (name digits : List ℕ) (rest : List (List ℕ)) →
      MemberStands (codes "int" ∷ name ∷ codes "=" ∷ digits ∷ codes ";" ∷ rest) (field name digits) rest
  -- `void name() { body }`
  defines : (name : List ℕ) (body rest : List (List ℕ)) → list_any is_brace body ≡ false →
      MemberStands (codes "void" ∷ name ∷ codes "(" ∷ codes ")" ∷ codes "{" ∷ (body ++ codes "}" ∷ rest)) (method name body) rest

-- its name
abbrev pub name_of : Member → List ℕ
name_of (field name digits) = name
name_of (method name body) = name

-- one of the members has the name
abbrev pub has_member : List Member → List ℕ → Bool
has_member members name = list_any (λ (m : Member). bytes_eq (name_of m) name) members

-- the name is one that such a member may have
abbrev pub is_named_well : Member → Bool
is_named_well (field name digits) = is_field_name name
is_named_well (method name body) = is_method_name name

-- each name is one that its member may have, and no two are the same
abbrev pub are_named_well : List Member → Bool
are_named_well [] = true
are_named_well (m ∷ members) = is_named_well m && not (has_member members (name_of m)) && are_named_well members

-- the field of this name, if its value is a number of 32 bits
abbrev pub field_of : List ℕ → List ℕ → Option Field
field_of name digits = i32_of digits >>= λ number. Some (f.field name number)

-- the fields among the members, if the value of each is such a number
abbrev pub fields_of : List Member → Option (List Field)
fields_of [] = Some []
fields_of (field name digits ∷ members) = do
  first ← field_of name digits
  fields ← fields_of members
  Some (first ∷ fields)
fields_of (method name body ∷ members) = fields_of members
