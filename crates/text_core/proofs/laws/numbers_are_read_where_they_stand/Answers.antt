use Rattle.text_core.proofs.WordLemmas.{u32_at-u32_bytes, begins-u32_at, u64_at-u64_bytes, begins-u64_at}
use Rattle.text_core.proofs.laws.numbers_are_read_where_they_stand.Goals as goal

pub returns-clause-u32_read : goal.returns-clause-u32_read
returns-clause-u32_read c = u32_at-u32_bytes

pub returns-clause-u32_stands : goal.returns-clause-u32_stands
returns-clause-u32_stands c = begins-u32_at

pub returns-clause-u64_read : goal.returns-clause-u64_read
returns-clause-u64_read c = u64_at-u64_bytes

pub returns-clause-u64_stands : goal.returns-clause-u64_stands
returns-clause-u64_stands c = begins-u64_at
