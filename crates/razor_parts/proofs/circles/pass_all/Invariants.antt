use Rattle.std.proofs.Common.{◌≡◌, drop}
use Rattle.razor_parts.specs.Circles.{holds_one, marked_all}
use Rattle.razor_parts.proofs.circles.pass_all.Given as goal

-- none so far holds it, and what those hold is marked
abbrev pub invariant-loop-part : goal.invariant-loop-part
invariant-loop-part l =
    record {
      yes : holds_one l.name l.parts ≡ holds_one l.name (drop l.part-index l.parts);
      marks : marked_all l.records l.parts l.fn.marks ≡ marked_all l.records (drop l.part-index l.parts) l.marks;
    }
