-- What each kind of value holds.
use Rattle.std.proofs.Common.{◌≡◌, ℕ, List, refl, sym, ap, ◌∙◌}
use Rattle.std.specs.Prelude.{Some, None}
use Rattle.cs_ast.specs.declared.value.Value.{Value, out-Value}
use Rattle.cs_ast.specs.declared.value.Value.TheVariants as v
use Rattle.cs_ast.specs.declared.value.Value.TheViews.{roll-Value, roll-out-Value, out-roll-Value}
use Rattle.cs_ast.specs.declared.value.Value.TheOpen.{Value-F}
use Rattle.cs_meaning.specs.Kinds.{items_in, items_of, record_in, record_of, fragment_in, fragment_of, callback_in, callback_of}

-- a variant, opened
opened : (x : Value) (y : Value-F Value) → roll-Value y ≡ x → out-Value x ≡ y
opened x y e = ap out-Value (sym e) ∙ out-roll-Value y

pub items_some : (items : List Value) → items_of (v.List items) ≡ Some items
items_some items = ap items_in (opened (v.List items) (Value-F.List items) (v.rolls-List items))

pub items_none : (x : Value) → ((items : List Value) → x ≡ v.List items → ⊥) → items_of x ≡ None
items_none x other = by (out-Value x) (roll-out-Value x)
  where
    by : (y : Value-F Value) → roll-Value y ≡ x → items_in y ≡ None
    by (Value-F.List items) e = absurd (other items (sym e ∙ v.rolls-List items))
    by _ e = refl

pub record_some : (kind : ℕ) (parts : List Value) → record_of (v.Rec kind parts) ≡ Some (kind, parts)
record_some kind parts = ap record_in (opened (v.Rec kind parts) (Value-F.Rec kind parts) (v.rolls-Rec kind parts))

pub record_none : (x : Value) → ((kind : ℕ) (parts : List Value) → x ≡ v.Rec kind parts → ⊥) → record_of x ≡ None
record_none x other = by (out-Value x) (roll-out-Value x)
  where
    by : (y : Value-F Value) → roll-Value y ≡ x → record_in y ≡ None
    by (Value-F.Rec kind parts) e = absurd (other kind parts (sym e ∙ v.rolls-Rec kind parts))
    by _ e = refl

pub fragment_some : (who place : ℕ) (captures : List Value) → fragment_of (v.Fragment who place captures) ≡ Some (who, place, captures)
fragment_some who place captures = ap fragment_in (opened (v.Fragment who place captures) (Value-F.Fragment who place captures) (v.rolls-Fragment who place captures))

pub fragment_none : (x : Value) → ((who place : ℕ) (captures : List Value) → x ≡ v.Fragment who place captures → ⊥) → fragment_of x ≡ None
fragment_none x other = by (out-Value x) (roll-out-Value x)
  where
    by : (y : Value-F Value) → roll-Value y ≡ x → fragment_in y ≡ None
    by (Value-F.Fragment who place captures) e = absurd (other who place captures (sym e ∙ v.rolls-Fragment who place captures))
    by _ e = refl

pub callback_some : (who place : ℕ) (captures : List Value) → callback_of (v.Callback who place captures) ≡ Some (who, place, captures)
callback_some who place captures = ap callback_in (opened (v.Callback who place captures) (Value-F.Callback who place captures) (v.rolls-Callback who place captures))

pub callback_none : (x : Value) → ((who place : ℕ) (captures : List Value) → x ≡ v.Callback who place captures → ⊥) → callback_of x ≡ None
callback_none x other = by (out-Value x) (roll-out-Value x)
  where
    by : (y : Value-F Value) → roll-Value y ≡ x → callback_in y ≡ None
    by (Value-F.Callback who place captures) e = absurd (other who place captures (sym e ∙ v.rolls-Callback who place captures))
    by _ e = refl
