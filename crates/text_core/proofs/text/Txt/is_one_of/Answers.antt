use Rattle.std.proofs.Common.{◌≡◌, ◌∙◌, ℕ, List, false, arith}
use Rattle.std.specs.Borrow.{Bor}
use Rattle.std.specs.List.{list_any}
use Rattle.std.specs.Str.{chars, bytes_eq}
use Rattle.std.proofs.lemmas.Grind.{common_steps}
use Rattle.text_core.proofs.TextLemmas.{any-are_ascii}
use Rattle.text_core.proofs.text.Txt.is_one_of.Goals as goal

pub returns-clause-ascii : goal.returns-clause-ascii
returns-clause-ascii c = λ is.
    let none : false ≡ list_any (λ (w : Bor (List ℕ)). bytes_eq c.args.self.now (chars w.now)) c.args.words.now = grind (arith, common_steps) in
    none ∙ any-are_ascii c.args.self.now c.args.words.now is
