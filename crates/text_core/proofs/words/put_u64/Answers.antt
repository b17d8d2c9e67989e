use Rattle.std.proofs.Common.{◌≡◌, ◌++◌, rules, ◌∙◌, ap}
use Rattle.text_core.specs.Words.{u64_bytes, u64_at}
use Rattle.text_core.proofs.WordLemmas.{behind_front, u64_at-u64_bytes}
use Rattle.text_core.proofs.words.put_u64.Goals as goal

pub returns-clause-reads_back : goal.returns-clause-reads_back
unfolding u64_bytes
returns-clause-reads_back c = λ rest.
    let same : c.extend_from_slice.new.self.items ≡ c.args.out.now.items ++ u64_bytes c.args.value = search rules in
    ap u64_at (behind_front c.args.out.now.items c.extend_from_slice.new.self.items (u64_bytes c.args.value) rest same)
    ∙ u64_at-u64_bytes c.args.value rest c.ranges.value.fits
