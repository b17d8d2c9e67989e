use Rattle.page_typing.proofs.TemplateSoundness.{template_sound}
use Rattle.page_typing.proofs.laws.typed_templates_are_never_stuck.Goals as goal

pub returns : goal.returns
returns c = template_sound
