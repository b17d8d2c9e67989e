-- Types: which are the same, of which a value may be null, and what fits where.
use Rattle.std.specs.Prelude.{Bool, true, false, ◌||◌, if◌then◌else◌, Option, Some, None, bytes_eq}
use Rattle.cs_ast.specs.declared.cs_type.CsType.{CsType, out-CsType}
use Rattle.cs_ast.specs.declared.cs_type.CsType.TheVariants as t
use Rattle.cs_ast.specs.declared.cs_type.CsType.TheOpen.{CsType-F}
use Rattle.cs_ast.specs.declared.cs_type.CsType.TheFolds.{fold-CsType}
use Rattle.text_core.specs.declared.place.Place.{Place}
use Rattle.cs_rules.specs.declared.checked.ExprType.{ExprType}
use Rattle.cs_rules.specs.declared.checked.ExprType.TheVariants.{Of, Null, Markup}
use Rattle.cs_rules.specs.declared.checked.Checked.{Checked}
use Rattle.cs_rules.specs.Judged.{Judged, fine, mismatch}
use Rattle.cs_ast.specs.declared.code.Code.{Code}

-- argument types that are the same, or both absent
abbrev pub same_argument : Option (CsType → Bool) → Option CsType → Bool
same_argument None None = true
same_argument (Some is) (Some other) = is other
same_argument _ _ = false

-- two types at their roots
abbrev pub same_level : CsType-F (CsType → Bool) → CsType-F CsType → Bool
same_level CsType-F.Int CsType-F.Int = true
same_level CsType-F.Bool CsType-F.Bool = true
same_level CsType-F.Text CsType-F.Text = true
same_level (CsType-F.Rec name) (CsType-F.Rec other) = bytes_eq name other
same_level (CsType-F.List is) (CsType-F.List other) = is other
same_level (CsType-F.Callback is) (CsType-F.Callback other) = same_argument is other
same_level (CsType-F.Fragment is) (CsType-F.Fragment other) = same_argument is other
same_level CsType-F.Change CsType-F.Change = true
same_level CsType-F.Args CsType-F.Args = true
same_level CsType-F.Nothing CsType-F.Nothing = true
same_level _ _ = false

-- whether two types are the same
unfoldable pub same_type : CsType → CsType → Bool
same_type = fold-CsType (CsType → Bool) (λ level other. same_level level (out-CsType other))

-- the types of which a value may be null
unfoldable pub may_be_null : CsType → Bool
may_be_null t.Text = true
may_be_null (t.Rec name) = true
may_be_null (t.List' _ _) = true
may_be_null (t.Fragment' _) = true
may_be_null _ = false

-- at their roots: a callback without an argument stands where one with an argument is wanted
unfoldable pub drops_argument : CsType-F CsType → CsType-F CsType → Bool
drops_argument (CsType-F.Callback None) (CsType-F.Callback (Some argument)) = true
drops_argument _ _ = false

-- whether a value of the first type stands where one of the second is wanted
unfoldable pub fits_type : CsType → CsType → Bool
fits_type given wanted = same_type given wanted || drops_argument (out-CsType given) (out-CsType wanted)

-- the same for the type of an expression
unfoldable pub fits : ExprType → CsType → Bool
fits (Of given) wanted = fits_type given wanted
fits Null wanted = may_be_null wanted
fits Markup wanted = false

-- the type of two values of which either may be given
unfoldable pub common_type : ExprType → ExprType → Option ExprType
common_type (Of a) (Of b) = if fits_type a b then Some (Of b) else (if fits_type b a then Some (Of a) else None)
common_type (Of a) Null = if may_be_null a then Some (Of a) else None
common_type Null (Of b) = if may_be_null b then Some (Of b) else None
common_type Null Null = Some Null
common_type _ _ = None

-- the types of which there are values
unfoldable pub has_values : CsType → Bool
has_values t.Nothing = false
has_values _ = true

-- what stands at a place has a type that fits
unfoldable pub wants : CsType → Place → ExprType → Judged (Unit {0})
wants wanted place given = if fits given wanted then fine tt else mismatch place

-- the code of an expression that fits
unfoldable pub fitting : CsType → Checked → Judged Code
fitting wanted x = if fits x.expr_type wanted then fine x.code else mismatch x.place

-- the type of what has one of its own, and a value
unfoldable pub own_type : Place → ExprType → Judged CsType
own_type place (Of given) = if has_values given then fine given else mismatch place
own_type place _ = mismatch place

-- an expression of a type of its own
abbrev pub checked : Place → Code → CsType → Checked
checked place code cs_type = record { place = place; code = code; expr_type = Of cs_type }
