-- How many edits lists have.
use Rattle.std.proofs.Common.{◌≡◌, ◌+◌, List, ◌∷◌, length}
use Rattle.std.proofs.lemmas.List.{length-append}
use Rattle.frame_core.specs.Batch.{edits_within, edits_of}
use Rattle.frame_core.specs.declared.batch.EditList.{EditList}

pub within_front : (list : EditList) (lists : List EditList) → edits_within (list ∷ lists) ≡ length list.edits + edits_within lists
within_front list lists = length-append list.edits (edits_of lists)
