use Rattle.std.proofs.Common.{arith, ap, length}
use Rattle.std.proofs.lemmas.Str.{length-le-encodes}
use Rattle.cs_token.specs.Spelling.{Explains}
use Rattle.cs_token.proofs.CoverLemmas.{covered}
use Rattle.cs_token.proofs.lexer.tokens.Goals as goal

pub lex-requires : goal.lex-requires
lex-requires c =
    omega (arith, ap length c.deref.ensures.value, ap length c.in_ok-characters.ensures, length-le-encodes c.args.text.now)

pub returns-clause-cover : goal.returns-clause-cover
returns-clause-cover c = covered c.args.text.now c.lex.result (Explains c.args.text.now) (rw (c.deref.ensures.value, c.in_ok-characters.ensures) at c.lex.ensures)
