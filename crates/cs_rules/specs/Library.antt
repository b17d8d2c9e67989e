-- What stands behind a dot: the parts of records and the members of the library.
use Rattle.std.specs.Prelude.{ℕ, ◌+◌, pos, negsuc, List, [], ◌∷◌, codes, if◌then◌else◌, Option, Some, None, option_map, bytes_eq}
use Rattle.text_core.specs.declared.place.Place.{Place}
use Rattle.cs_ast.specs.declared.cs_type.CsType.{CsType, out-CsType}
use Rattle.cs_ast.specs.declared.cs_type.CsType.TheVariants as t
use Rattle.cs_ast.specs.declared.cs_type.CsType.TheOpen.{CsType-F}
use Rattle.cs_ast.specs.declared.code.Code.{Code}
use Rattle.cs_ast.specs.declared.code.Code.TheVariants as c
use Rattle.cs_ast.specs.declared.code.LibraryMember.TheVariants as library
use Rattle.cs_ast.specs.declared.identifier.Ident.{Ident}
use Rattle.cs_ast.specs.declared.member.Argument.{Argument}
use Rattle.cs_ast.specs.declared.member.Member.{Member}
use Rattle.cs_ast.specs.declared.operators.StaticType.{StaticType}
use Rattle.cs_ast.specs.declared.operators.StaticType.TheVariants as static
use Rattle.cs_rules.specs.declared.callee.Called.{Called}
use Rattle.cs_rules.specs.declared.callee.Called.TheVariants as called
use Rattle.cs_rules.specs.declared.callee.Callee.{Callee}
use Rattle.cs_rules.specs.declared.callee.Dotted.{Dotted}
use Rattle.cs_rules.specs.declared.callee.Dotted.TheVariants as dotted
use Rattle.cs_rules.specs.declared.checked.Checked.{Checked}
use Rattle.cs_rules.specs.declared.checked.ExprType.{ExprType}
use Rattle.cs_rules.specs.declared.checked.ExprType.TheVariants.{Of}
use Rattle.cs_rules.specs.declared.rule.Rule.TheVariants.{UnknownName}
use Rattle.cs_rules.specs.Judged.{Judged, fine, breaks, mismatch, ◌>>=◌}
use Rattle.cs_rules.specs.Types.{may_be_null, checked}
use Rattle.cs_rules.specs.Written.{type_of, Declared, record_named}

-- the position and the type of the part of this name, counted from a number on
abbrev pub part_from : ℕ → List ℕ → List Argument → Option (ℕ × CsType)
part_from number name [] = None
part_from number name (one ∷ others) =
    if bytes_eq one.name.name name then Some (number, type_of one.cs_type) else part_from (number + 1) name others

-- the part of a record
abbrev pub part_named : Option Declared → List ℕ → Option Dotted
part_named (Some found) name = option_map (λ part. dotted.Part part.0 part.1) (part_from 0 name found.parts)
part_named None name = None

-- the one with this name
abbrev pub entry : List ℕ → List (List ℕ × Dotted) → Option Dotted
entry name [] = None
entry name (one ∷ others) = if bytes_eq name one.0 then Some one.1 else entry name others

abbrev pub of_all : List (List ℕ × Dotted)
of_all = (codes "ToString", dotted.Method library.ToText [] t.Text) ∷ []

abbrev pub of_texts : List (List ℕ × Dotted)
of_texts = (codes "Length", dotted.Property library.Length t.Int) ∷ of_all

abbrev pub of_lists : CsType → List (List ℕ × Dotted)
of_lists item =
    (codes "Count", dotted.Property library.Count t.Int)
    ∷ (codes "Add", dotted.Method library.Add (item ∷ []) (t.List item))
    ∷ (codes "Insert", dotted.Method library.Insert (t.Int ∷ item ∷ []) (t.List item))
    ∷ (codes "RemoveAt", dotted.Method library.RemoveAt (t.Int ∷ []) (t.List item))
    ∷ (codes "SetItem", dotted.Method library.SetItem (t.Int ∷ item ∷ []) (t.List item))
    ∷ []

-- the argument that a callback or a fragment is given, if it is given one
abbrev pub argument_types : Option CsType → List CsType
argument_types None = []
argument_types (Some argument) = argument ∷ []

abbrev pub of_callbacks : Option CsType → List (List ℕ × Dotted)
of_callbacks argument =
    (codes "HasDelegate", dotted.Property library.HasDelegate t.Bool) ∷ (codes "InvokeAsync", dotted.Invoke (argument_types argument)) ∷ []

abbrev pub of_changes : List (List ℕ × Dotted)
of_changes = (codes "Value", dotted.Property library.ChangeValue t.Text) ∷ []

-- what a name stands for behind a dot, by the type before it
abbrev pub behind_level : List Member → CsType-F CsType → List ℕ → Option Dotted
behind_level records CsType-F.Int name = entry name of_all
behind_level records CsType-F.Bool name = entry name of_all
behind_level records CsType-F.Text name = entry name of_texts
behind_level records (CsType-F.Rec record_name) name = part_named (record_named records record_name) name
behind_level records (CsType-F.List item) name = entry name (of_lists item)
behind_level records (CsType-F.Callback argument) name = entry name (of_callbacks argument)
behind_level records CsType-F.Change name = entry name of_changes
behind_level records _ name = None

unfoldable pub behind : List Member → CsType → List ℕ → Option Dotted
behind records cs_type name = behind_level records (out-CsType cs_type) name

-- a member as a value: a method alone is none
unfoldable pub value_of_member : Place → Code → Dotted → Judged Checked
value_of_member place code (dotted.Part number cs_type) = fine (checked place (c.Part code number) cs_type)
value_of_member place code (dotted.Property member cs_type) = fine (checked place (c.Library member (code ∷ [])) cs_type)
value_of_member place code _ = mismatch place

-- a member behind `?.`, which has to be one that may be null, else what stands before it is wrong
unfoldable pub null_member : Place → Checked → Dotted → Judged Checked
null_member place x (dotted.Part number cs_type) =
    if may_be_null cs_type then fine (checked place (c.NullPart x.code number) cs_type) else mismatch x.place
null_member place x (dotted.Property member cs_type) =
    if may_be_null cs_type then fine (checked place (c.Library member (x.code ∷ [])) cs_type) else mismatch x.place
null_member place x _ = mismatch x.place

-- `int.N` and `string.N` as values
unfoldable pub static_value : Place → StaticType → List ℕ → Option (Judged Checked)
static_value place static.Int name =
    if bytes_eq name (codes "MaxValue") then Some (fine (checked place (c.Int (pos 2147483647)) t.Int))
    else (if bytes_eq name (codes "MinValue") then Some (fine (checked place (c.Int (negsuc 2147483647)) t.Int)) else None)
static_value place static.Text name =
    if bytes_eq name (codes "Empty") then Some (fine (checked place (c.Text []) t.Text))
    else (if bytes_eq name (codes "IsNullOrEmpty") then Some (mismatch place) else None)

unfoldable pub found_static : Ident → Option (Judged Checked) → Judged Checked
found_static name (Some judged) = judged
found_static name None = breaks UnknownName name.place

-- a value as what is called: a fragment with a parameter
abbrev pub fragment_level : Place → Code → CsType-F CsType → Judged Callee
fragment_level place code (CsType-F.Fragment (Some argument)) = fine (record { called = called.Fill code; takes = argument ∷ []; gives = t.Fragment None })
fragment_level place code _ = mismatch place

abbrev pub callee_of_type : Place → Code → ExprType → Judged Callee
callee_of_type place code (Of cs_type) = fragment_level place code (out-CsType cs_type)
callee_of_type place code _ = mismatch place

unfoldable pub callee_of_value : Checked → Judged Callee
callee_of_value x = callee_of_type x.place x.code x.expr_type

-- a member as what is called
unfoldable pub callee_of_member : Place → Code → Dotted → Judged Callee
callee_of_member place code (dotted.Method member takes gives) = fine (record { called = called.Library member (Some code); takes = takes; gives = gives })
callee_of_member place code (dotted.Invoke takes) = fine (record { called = called.Invoke code; takes = takes; gives = t.Nothing })
callee_of_member place code other = value_of_member place code other >>= callee_of_value

-- `int.N` and `string.N` as what is called
unfoldable pub static_callee : Place → StaticType → Ident → Judged Callee
static_callee place static.Text name =
    if bytes_eq name.name (codes "IsNullOrEmpty") then fine (record { called = called.Library library.IsNullOrEmpty None; takes = t.Text ∷ []; gives = t.Bool })
    else found_static name (static_value place static.Text name.name) >>= callee_of_value
static_callee place of name = found_static name (static_value place of name.name) >>= callee_of_value

-- the code of a call over the codes of its arguments, as many as it takes
unfoldable pub code_of_call : Called → List Code → Code
code_of_call (called.Method number) arguments = c.Call number arguments
code_of_call (called.Library member None) arguments = c.Library member arguments
code_of_call (called.Library member (Some target)) arguments = c.Library member (target ∷ arguments)
code_of_call (called.Invoke target) [] = c.Invoke target None
code_of_call (called.Invoke target) (argument ∷ others) = c.Invoke target (Some argument)
code_of_call (called.Fill target) [] = target
code_of_call (called.Fill target) (argument ∷ others) = c.Fill target argument
