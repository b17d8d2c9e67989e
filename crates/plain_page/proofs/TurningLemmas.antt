-- What was read is the page that the bytes spell, and nothing else is.
use Rattle.std.proofs.Common.{◌≡◌, ℕ, ◌≤◌, List, [], length, Option, Some, None, arith, sym, ◌∙◌, ap, append-nil}
use Rattle.page_core.specs.declared.node.Node.{Node}
use Rattle.plain_page.specs.Reading.{nodes_at}
use Rattle.plain_page.specs.Spelling.{spelled_nodes, Spells}
use Rattle.plain_page.specs.Laws.Turning.{read_of-Spells}
use Rattle.plain_page.proofs.SoundLemmas.{Bytes, nodes_sound}

-- what is read from few bytes, to the last, is spelled by them
pub Spells-read : (bytes : List ℕ) (nodes : List Node) → Bytes bytes → length bytes ≤ 33554368 → nodes_at (length bytes) bytes ≡ Some (nodes, []) → Spells bytes nodes
Spells-read bytes nodes bounds few e =
    let read = nodes_sound (length bytes) bytes nodes [] bounds e in
    record {
      bytes_are = read.is ∙ append-nil (spelled_nodes nodes);
      plain = read.plain;
      stored = read.stored;
      few = few;
    }

-- what is read, but for some bytes behind it, is not spelled
pub read_before : (bytes : List ℕ) (nodes others : List Node) (rest : List ℕ) → nodes_at (length bytes) bytes ≡ Some (nodes, rest) → 1 ≤ length rest → Spells bytes others → ⊥
read_before bytes nodes others rest e some spells =
    let both : (let found : Option (List Node × List ℕ) = Some (nodes, rest) in found) ≡ Some (others, []) = sym e ∙ read_of-Spells bytes others spells in
    let parts : (nodes, rest) ≡ (others, []) = cc in
    let none : rest ≡ [] = ap (λ (x : List Node × List ℕ). x.1) parts in
    absurd (omega (arith, ap length none))

-- nothing that is not read is spelled
pub unread : (bytes : List ℕ) (nodes : List Node) → nodes_at (length bytes) bytes ≡ None → Spells bytes nodes → ⊥
unread bytes nodes e spells =
    let wrong : (let found : Option (List Node × List ℕ) = None in found) ≡ Some (nodes, []) = sym e ∙ read_of-Spells bytes nodes spells in
    absurd (cc)
