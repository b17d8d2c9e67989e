-- The equations of the records that types hold.
use Rattle.std.proofs.Common.{◌≡◌, ℕ, List, sym, ap, ◌∙◌}
use Rattle.std.specs.Prelude.{Option, Some, None}
use Rattle.cs_ast.specs.declared.cs_type.CsType.{CsType}
use Rattle.cs_ast.specs.declared.cs_type.CsType.TheVariants as ty
use Rattle.cs_ast.specs.declared.cs_type.CsType.TheOpen.{CsType-F}
use Rattle.cs_ast.specs.declared.cs_type.CsType.TheViews.{roll-CsType}
use Rattle.cs_ast.specs.declared.cs_type.CsType.TheFolds.{fold-roll-CsType, map-CsType}
use Rattle.razor_rules.specs.Records.{held_level, held_record}

at_root : (cs_type : CsType) (x : CsType-F CsType) → roll-CsType x ≡ cs_type → held_record cs_type ≡ held_level (map-CsType CsType (Option (List ℕ)) held_record x)
unfolding held_record
at_root cs_type x is = ap held_record (sym is) ∙ fold-roll-CsType (Option (List ℕ)) held_level x

pub held_int : held_record ty.Int ≡ None
held_int = at_root ty.Int CsType-F.Int ty.rolls-Int

pub held_bool : held_record ty.Bool ≡ None
held_bool = at_root ty.Bool CsType-F.Bool ty.rolls-Bool

pub held_text : held_record ty.Text ≡ None
held_text = at_root ty.Text CsType-F.Text ty.rolls-Text

pub held_rec : (n : List ℕ) → held_record (ty.Rec n) ≡ Some n
held_rec n = at_root (ty.Rec n) (CsType-F.Rec n) (ty.rolls-Rec n)

pub held_list : (item : CsType) → held_record (ty.List item) ≡ held_record item
held_list item = at_root (ty.List item) (CsType-F.List item) (ty.rolls-List item)

pub held_callback : (o : Option CsType) → held_record (ty.Callback o) ≡ None
held_callback None = at_root (ty.Callback None) (CsType-F.Callback None) (ty.rolls-Callback None)
held_callback (Some a) = at_root (ty.Callback (Some a)) (CsType-F.Callback (Some a)) (ty.rolls-Callback (Some a))

pub held_fragment : (o : Option CsType) → held_record (ty.Fragment o) ≡ None
held_fragment None = at_root (ty.Fragment None) (CsType-F.Fragment None) (ty.rolls-Fragment None)
held_fragment (Some a) = at_root (ty.Fragment (Some a)) (CsType-F.Fragment (Some a)) (ty.rolls-Fragment (Some a))

pub held_change : held_record ty.Change ≡ None
held_change = at_root ty.Change CsType-F.Change ty.rolls-Change

pub held_args : held_record ty.Args ≡ None
held_args = at_root ty.Args CsType-F.Args ty.rolls-Args

pub held_nothing : held_record ty.Nothing ≡ None
held_nothing = at_root ty.Nothing CsType-F.Nothing ty.rolls-Nothing
