use Rattle.blazor_top.proofs.CheckingLemmas.{told_within, refused_broken}
use Rattle.blazor_top.proofs.checking.sound_program.Goals as goal

pub file_at-requires : goal.file_at-requires
file_at-requires c =
    told_within c.args.files.now c.args.components c.in-Err-Broken.field-0 c.in-Err-Broken.file c.in-Err-Broken.rule c.in-Err-Broken.place c.requires c.in-Err-Broken.field-0-is c.in-Err-Broken.ensures

pub returns-in-Err-Broken-clause-refused : goal.returns-in-Err-Broken-clause-refused
returns-in-Err-Broken-clause-refused c =
    refused_broken c.args.files.now c.args.components c.in-Err-Broken.field-0 c.in-Err-Broken.file c.in-Err-Broken.rule c.in-Err-Broken.place c.file_at.result.now c.rule_kind.result.now
    c.refused.result c.requires c.in-Err-Broken.field-0-is c.in-Err-Broken.ensures c.file_at.ensures c.rule_kind.ensures.name c.refused.ensures
