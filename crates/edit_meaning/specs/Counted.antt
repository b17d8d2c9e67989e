-- How many edits of each kind a batch has.
use Rattle.std.specs.Prelude.{List}
use Rattle.page_core.specs.declared.counts.Counts.{Counts}
use Rattle.frame_core.specs.declared.edit.Edit.{Edit}
use Rattle.frame_core.specs.Batch.{Changes, edits_of}
use Rattle.frame_core.specs.EditTypes.{of_type}

abbrev pub counts_in : List Edit → Counts
counts_in edits = record {
  prepend = of_type 1 edits;
  remove = of_type 2 edits;
  set = of_type 3 edits;
  unset = of_type 4 edits;
  text = of_type 5 edits;
  step_in = of_type 6 edits;
  step_out = of_type 7 edits;
  markup = of_type 8 edits;
  moves = of_type 9 edits;
  ends = of_type 10 edits;
}

abbrev pub counts_of : Changes → Counts
counts_of changes = counts_in (edits_of changes.lists)
