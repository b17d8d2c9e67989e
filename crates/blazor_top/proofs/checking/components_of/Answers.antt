use Rattle.std.proofs.Common.{Err, subst}
use Rattle.component_files.specs.declared.files.FileFault.{FileFault}
use Rattle.component_files.specs.Files.{AllAnswer, FirstFails}
use Rattle.blazor_top.proofs.CheckingLemmas.{refused_unread}
use Rattle.blazor_top.proofs.checking.components_of.Goals as goal

pub returns-in-Err-Unread-clause-refused : goal.returns-in-Err-Unread-clause-refused
returns-in-Err-Unread-clause-refused c =
    let fails : FirstFails c.args.files.now c.in-Err-Unread.file c.in-Err-Unread.cause =
    subst (λ (e : FileFault). AllAnswer c.args.files.now (Err e)) c.in-Err-Unread.field-0-is c.in-Err-Unread.ensures in
    refused_unread c.args.files.now c.in-Err-Unread.file c.in-Err-Unread.cause c.file_at.result.now c.unread_kind.result.now c.unread_place.result c.refused.result
    fails c.file_at.ensures c.unread_kind.ensures.name c.unread_place.ensures c.refused.ensures
