-- What stands in the brackets of a `for`.
use Rattle.frame_parts.specs.Heads as heads
use Rattle.frame_parts.specs.declared.values.Head.{Head}

abbrev pub head_view : Head → heads.Head
head_view head = (head.start, head.test, head.step)
