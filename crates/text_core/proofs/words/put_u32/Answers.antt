use Rattle.std.proofs.Common.{◌≡◌, ◌++◌, rules, ◌∙◌, ap}
use Rattle.text_core.specs.Words.{u32_bytes, u32_at}
use Rattle.text_core.proofs.WordLemmas.{behind_front, u32_at-u32_bytes}
use Rattle.text_core.proofs.words.put_u32.Goals as goal

pub returns-clause-reads_back : goal.returns-clause-reads_back
unfolding u32_bytes
returns-clause-reads_back c = λ rest.
    let same : c.extend_from_slice.new.self.items ≡ c.args.out.now.items ++ u32_bytes c.args.value = search rules in
    ap u32_at (behind_front c.args.out.now.items c.extend_from_slice.new.self.items (u32_bytes c.args.value) rest same)
    ∙ u32_at-u32_bytes c.args.value rest c.ranges.value.fits
