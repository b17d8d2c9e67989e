use Rattle.std.proofs.Common.{◌≡◌, [], drop}
use Rattle.first_click.specs.Reading.Content.{state_of, built}
use Rattle.first_click.proofs.content.build.Given as goal

-- from here on the parts that are left build what all parts build
abbrev pub invariant-loop-part : goal.invariant-loop-part
invariant-loop-part l = built l.fields (state_of l.builder) (drop l.part-index l.parts) ≡ built l.fields ([], []) l.parts
