use Rattle.std.proofs.Common.{◌≡◌, ◌∙◌, ℕ, length, slice_index_or, sym, arith}
use Rattle.blazor_top.proofs.AskingLemmas.{alone_of, first_other, second_other, refused_other}
use Rattle.blazor_top.proofs.CheckingLemmas.{as_many}
use Rattle.blazor_top.proofs.asking.refuse_others.Goals as goal

-- the second of several files is refused
pub returns-then-files-gt1-clause-refused : goal.returns-then-files-gt1-clause-refused
returns-then-files-gt1-clause-refused c =
    refused_other c.args.files.now c.args.components.now (slice_index_or c.args.files.now 1 c.index-files-1.result).name c.not_yet.result c.requires.sound
    (second_other c.args.files.now c.args.components.now c.index-files-1.result (omega (arith, c.if-files-gt1.true))) c.not_yet.ensures

-- a component of the only file
pub returns-then-stands_alone-clause-alone : goal.returns-then-stands_alone-clause-alone
returns-then-stands_alone-clause-alone c =
    let as_many_files : length c.args.files.now ≡ length c.args.components.now = as_many c.args.files.now c.args.components.now c.requires.sound.spelled in
    let many : length c.args.components.now ≡ 1 = omega (arith, as_many_files, c.requires.some, c.if-files-gt1.false) in
    alone_of c.args.components.now c.index-components-0.result many c.index-components-0.is (sym c.stands_alone.ensures ∙ c.if-stands_alone.true)

pub returns-clause-refused : goal.returns-clause-refused
returns-clause-refused c =
    let as_many_files : length c.args.files.now ≡ length c.args.components.now = as_many c.args.files.now c.args.components.now c.requires.sound.spelled in
    let one : length c.args.files.now ≡ 1 = omega (arith, c.requires.some, c.if-files-gt1.false) in
    let many : length c.args.components.now ≡ 1 = omega (arith, as_many_files, one) in
    refused_other c.args.files.now c.args.components.now (slice_index_or c.args.files.now 0 c.index-files-0.result).name c.not_yet-2.result c.requires.sound
    (first_other c.args.files.now c.args.components.now c.index-files-0.result c.index-components-0.result one many c.index-components-0.is (sym c.stands_alone.ensures ∙ c.if-stands_alone.false)) c.not_yet-2.ensures
