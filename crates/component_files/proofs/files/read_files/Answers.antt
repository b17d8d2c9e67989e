use Rattle.std.proofs.Common.{ℕ, List, [], take, ◌+◌, Err, sym, subst}
use Rattle.razor_ast.specs.declared.component.Component.{Component}
use Rattle.component_files.specs.declared.files.FileFault.{FileFault}
use Rattle.component_files.specs.Files.{Answers, AllSpell, AllAnswer, none}
use Rattle.component_files.proofs.FileLemmas.{one_more, failed}
use Rattle.component_files.proofs.files.read_files.Goals as goal

pub loop-file-init : goal.loop-file-init
loop-file-init c = subst (λ (cs : List Component). AllSpell [] cs) (sym c.new-components.ensures) none

pub returns-in-Err : goal.returns-in-Err
returns-in-Err c =
    subst (λ (x : FileFault). AllAnswer c.args.files.now (Err x)) (sym c.unread.ensures)
    (failed c.args.files.now c.loop-file.file c.index-files-file.result c.loop-file.components c.in-Err.fault c.loop-file-test.true c.index-files-file.is c.loop-file.invariant
    (subst (λ (bytes : List ℕ). Answers c.index-files-file.result.name bytes (Err c.in-Err.fault)) c.deref.ensures.value c.in-Err.ensures))

pub loop-file-preserved : goal.loop-file-preserved
loop-file-preserved c =
    subst (λ (cs : List Component). AllSpell (take (c.loop-file.file + 1) c.args.files.now) cs) (sym c.in_ok-push-in-Ok.ensures.ok)
    (one_more c.args.files.now c.loop-file.file c.index-files-file.result c.loop-file.components c.in-Ok.component c.loop-file-test.true c.index-files-file.is c.loop-file.invariant
    (rw c.deref.ensures.value at c.in-Ok.ensures))
