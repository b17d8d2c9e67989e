-- Types at their roots.
use Rattle.std.proofs.Common.{◌≡◌, List, sym, ap, ◌∙◌, ℕ}
use Rattle.std.specs.Prelude.{Option}
use Rattle.cs_ast.specs.declared.cs_type.CsType.{CsType, out-CsType}
use Rattle.cs_ast.specs.declared.cs_type.CsType.TheVariants as ty
use Rattle.cs_ast.specs.declared.cs_type.CsType.TheOpen.{CsType-F}
use Rattle.cs_ast.specs.declared.cs_type.CsType.TheViews.{roll-CsType, out-roll-CsType}

at_root : (cs_type : CsType) (x : CsType-F CsType) → roll-CsType x ≡ cs_type → out-CsType cs_type ≡ x
at_root cs_type x is = ap out-CsType (sym is) ∙ out-roll-CsType x

pub out_int : out-CsType ty.Int ≡ CsType-F.Int
out_int = at_root ty.Int CsType-F.Int ty.rolls-Int

pub out_bool : out-CsType ty.Bool ≡ CsType-F.Bool
out_bool = at_root ty.Bool CsType-F.Bool ty.rolls-Bool

pub out_text : out-CsType ty.Text ≡ CsType-F.Text
out_text = at_root ty.Text CsType-F.Text ty.rolls-Text

pub out_rec : (name : List ℕ) → out-CsType (ty.Rec name) ≡ CsType-F.Rec name
out_rec name = at_root (ty.Rec name) (CsType-F.Rec name) (ty.rolls-Rec name)

pub out_list : (item : CsType) → out-CsType (ty.List item) ≡ CsType-F.List item
out_list item = at_root (ty.List item) (CsType-F.List item) (ty.rolls-List item)

pub out_callback : (argument : Option CsType) → out-CsType (ty.Callback argument) ≡ CsType-F.Callback argument
out_callback argument = at_root (ty.Callback argument) (CsType-F.Callback argument) (ty.rolls-Callback argument)

pub out_fragment : (argument : Option CsType) → out-CsType (ty.Fragment argument) ≡ CsType-F.Fragment argument
out_fragment argument = at_root (ty.Fragment argument) (CsType-F.Fragment argument) (ty.rolls-Fragment argument)

pub out_change : out-CsType ty.Change ≡ CsType-F.Change
out_change = at_root ty.Change CsType-F.Change ty.rolls-Change

pub out_args : out-CsType ty.Args ≡ CsType-F.Args
out_args = at_root ty.Args CsType-F.Args ty.rolls-Args

pub out_nothing : out-CsType ty.Nothing ≡ CsType-F.Nothing
out_nothing = at_root ty.Nothing CsType-F.Nothing ty.rolls-Nothing
