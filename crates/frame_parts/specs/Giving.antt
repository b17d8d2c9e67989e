-- How fragments are given.
use Rattle.drawing_meaning.specs.Tags.{given_content, given_fragment}
use Rattle.frame_parts.specs.Tags as tags
use Rattle.frame_parts.specs.declared.fragments.Giving.{Giving}
use Rattle.frame_parts.specs.declared.fragments.Giving.TheVariants as giving

abbrev pub gives : Giving → tags.Giving
gives giving.Loose = given_content
gives giving.Tagged = given_fragment
