use Rattle.frame_compiler.proofs.ProgramLaws.{drawn}
use Rattle.frame_compiler.proofs.laws.compiled_programs_draw_what_templates_say.Goals as goal

pub returns : goal.returns
returns c components compiled scope component fields parameters known here = drawn components compiled scope component fields parameters known here
