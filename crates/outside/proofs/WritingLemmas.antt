-- Pieces written one after another.
use Rattle.std.proofs.Common.{◌≡◌, ℕ, ◌-◌, ◌≤◌, List, ◌++◌, length, take, drop, Some, None, ap, append_assoc, refl, arith}
use Rattle.std.specs.declared.option.Option.{Option}
use Rattle.std.proofs.lemmas.Grind.{common_steps}
use Rattle.outside.specs.Sink.{Adds}

pub adds_both : (old middle new : Option (List ℕ)) (a b : List ℕ) → Adds old middle a → Adds middle new b → Adds old new (a ++ b)
adds_both None middle new a b p q = rw (q, p) refl
adds_both (Some w) middle new a b p q = rw (q, p) (ap Some (append_assoc w a b))

pub rest_after : (front rest bytes : List ℕ) (n : ℕ) → n ≤ length rest → front ++ rest ≡ bytes → (front ++ take n rest) ++ take (length rest - n) (drop n rest) ≡ bytes
rest_after front rest bytes n le e = grind (arith, common_steps)
