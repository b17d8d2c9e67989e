-- Values that may be absent.
use Rattle.std.proofs.Common.{◌≡◌, Bool, true, false, cond, Some, None, Ok, Err, inl, inr, ◌⊎◌, refl}
use Rattle.std.specs.declared.option.Option.{Option}
use Rattle.std.specs.declared.result.Result.{Result}
use Rattle.std.specs.Result.{result_ok}
use Rattle.hub_messages.specs.Options.{◌>>=◌}

pub bind_some : {A B : Type 0} (o : Option A) (f : A → Option B) (y : B) → (o >>= f) ≡ Some y → (x : A) × (o ≡ Some x) × (f x ≡ Some y)
bind_some (Some x) f y e = (x, refl, e)
bind_some None f y e = cc

pub some_is : {A : Type 0} (p q : A) → Some p ≡ Some q → p ≡ q
some_is p q e = cc

pub some_none : {A P : Type 0} (x : A) → None ≡ Some x → P
some_none x e = cc

-- a test that chose between two readings
pub chosen : {A : Type 0} (test : Bool) (yes_read no_read : Option A) (y : A) → cond test yes_read no_read ≡ Some y → ((test ≡ true) × (yes_read ≡ Some y)) ⊎ ((test ≡ false) × (no_read ≡ Some y))
chosen true yes_read no_read y e = inl (refl, e)
chosen false yes_read no_read y e = inr (refl, e)

-- a test that must hold
pub kept : {A : Type 0} (test : Bool) (read : Option A) (y : A) → cond test read None ≡ Some y → (test ≡ true) × (read ≡ Some y)
kept true read y e = (refl, e)
kept false read y e = cc

pub ok_from_some : {A E : Type 0} (r : Result A E) (x : A) → result_ok r ≡ Some x → r ≡ Ok x
ok_from_some (Ok y) x e = cc
ok_from_some (Err fault) x e = cc
