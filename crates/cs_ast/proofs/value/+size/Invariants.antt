use Rattle.std.proofs.Common.{◌≡◌, ◌+◌, ◌-◌, ◌^◌, min, sum, map, take}
use Rattle.cs_ast.specs.Sizes.{size_of}
use Rattle.cs_ast.proofs.value.+size.Given as goal

-- the parts so far are counted
abbrev pub invariant-loop-part : goal.invariant-loop-part
invariant-loop-part l =
    record {
      so_far : l.total ≡ min (1 + sum (map size_of (take l.part-index l.part-items))) (2 ^ 64 - 1);
      whole : size_of l.value ≡ 1 + sum (map size_of l.part-items);
    }
