-- Pieces and members of the code as those of the definition.
use Rattle.first_click.specs.declared.members.Member.{Member}
use Rattle.first_click.specs.declared.members.Member.TheVariants as member
use Rattle.first_click.specs.declared.pieces.Piece.{Piece}
use Rattle.first_click.specs.Members as members
use Rattle.first_click.specs.Pieces as content

-- a piece of the code
abbrev pub piece_of : Piece → content.Piece
piece_of piece = (piece.kind, piece.text.now, piece.method.now)

-- a member of the code
abbrev pub member_of : Member → members.Member
member_of (member.Field name digits) = members.field name.now digits.now
member_of (member.Method name body) = members.method name.now body.now
