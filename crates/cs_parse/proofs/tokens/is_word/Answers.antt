use Rattle.std.proofs.Common.{sym, ap, ◌∙◌}
use Rattle.cs_parse.specs.Reading.{is_word}
use Rattle.cs_parse.proofs.Same.{same_word}
use Rattle.cs_parse.proofs.tokens.is_word.Goals as goal

pub returns-in-Word : goal.returns-in-Word
returns-in-Word c = same_word c.in-Word.found c.args.word c.same_word.result c.same_word.ensures ∙ sym (ap (is_word c.args.word) c.in-Word.is)
