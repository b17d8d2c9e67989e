-- Scopes that grow.
use Rattle.std.proofs.Common.{◌≡◌, List, ◌++◌, length, take}
use Rattle.std.proofs.Math.Seq.{take-append_seam}
use Rattle.cs_ast.specs.declared.scope.Named.{Named}

pub kept_more : (a b : List Named) → take (length a) (a ++ b) ≡ a
kept_more a b = take-append_seam a b
