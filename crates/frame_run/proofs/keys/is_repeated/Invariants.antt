use Rattle.std.proofs.Common.{◌≡◌, drop}
use Rattle.std.specs.Prelude.{Some}
use Rattle.std.specs.List.{list_any}
use Rattle.drawing_meaning.specs.Keys.{key_of}
use Rattle.frame_run.specs.Clashes.{clash, key_seen}
use Rattle.frame_run.proofs.keys.is_repeated.Given as goal

-- none so far has the key
abbrev pub invariant-loop-other : goal.invariant-loop-other
invariant-loop-other l = list_any (λ other. clash (key_of l.item) (key_of other)) l.others ≡ list_any (λ other. clash (key_of l.item) (key_of other)) (drop l.other-index l.others)
