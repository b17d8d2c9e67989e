-- How statements of code with markup begin.
use Rattle.std.specs.Prelude.{ℕ, ◌+◌, Bool, true, false, not, ◌&&◌, if◌then◌else◌, List, [], ◌∷◌, Option, Some, None}
use Rattle.text_core.specs.declared.place.Place.{Place}
use Rattle.cs_ast.specs.declared.expression.Expr.{Expr}
use Rattle.cs_ast.specs.declared.expression.StmtKind.{StmtKind}
use Rattle.cs_ast.specs.declared.expression.StmtKind.TheVariants as st
use Rattle.cs_grammar.specs.Statements.{stmt}
use Rattle.razor_token.specs.declared.piece.Piece.{Piece}
use Rattle.razor_ast.specs.declared.node.TNode.TheVariants as nd
use Rattle.razor_reader.specs.declared.frame.Frame.{Frame}
use Rattle.razor_reader.specs.declared.frame.Frame.TheVariants as fr
use Rattle.razor_reader.specs.declared.frame.Jumps.{Jumps}
use Rattle.razor_reader.specs.declared.frame.Next.{Next}
use Rattle.razor_reader.specs.declared.frame.Next.TheVariants as nx
use Rattle.razor_reader.specs.declared.frame.Wanted.TheVariants as w
use Rattle.razor_reader.specs.declared.mark.Mark.{Mark}
use Rattle.razor_reader.specs.declared.mark.Mark.TheVariants as m
use Rattle.razor_reader.specs.Marks.{mark_of}
use Rattle.razor_reader.specs.Reading.{Read, Numbered, ◌>>=◌, after}
use Rattle.razor_reader.specs.TokenReading.{round, code_to}
use Rattle.razor_reader.specs.CodeReading.{plain, simple}
use Rattle.razor_reader.specs.HeadReading.{for_head, for_each_head}

-- outside all loops and all `switch`
abbrev pub nowhere : Jumps
nowhere = record { breaks = false; continues = false }

-- in a loop
abbrev pub in_loop : Jumps
in_loop = record { breaks = true; continues = true }

-- in a `switch`
abbrev pub in_switch : Jumps → Jumps
in_switch jumps = record { breaks = true; continues = jumps.continues }

-- an expression in round brackets
abbrev pub condition_first : List Piece → Read Expr
condition_first ps = round ps >>= λ x. (plain x.0 >>= λ a. Some (a, x.1))

abbrev pub begun_if : Bool → Place → Jumps → ℕ → List Piece → Numbered Next
begun_if braced p j n ps = condition_first ps >>= λ x. Some (nx.Inside (fr.Yes braced p j x.0) (w.Body braced j), n, x.1)

-- the body of a loop
abbrev pub inside_loop : Frame → Bool → Next
inside_loop frame braced = nx.Inside frame (w.Body braced in_loop)

abbrev pub begun_while : Bool → Place → ℕ → List Piece → Numbered Next
begun_while braced p n ps = condition_first ps >>= λ x. Some (inside_loop (fr.While n p x.0) braced, n + 1, x.1)

abbrev pub begun_for : Bool → Place → ℕ → List Piece → Numbered Next
begun_for braced p n ps = round ps >>= λ x. (for_head x.0 >>= λ h. Some (inside_loop (fr.For n p h.0 h.1 h.2) braced, n + 1, x.1))

abbrev pub begun_for_each : Bool → Place → ℕ → List Piece → Numbered Next
begun_for_each braced p n ps = round ps >>= λ x. (for_each_head x.0 >>= λ h. Some (inside_loop (fr.ForEach n p h.0 h.1) braced, n + 1, x.1))

abbrev pub begun_switch : Place → Jumps → ℕ → List Piece → Numbered Next
begun_switch p j n ps =
    condition_first ps >>= λ x. (after m.OpenBrace x.1 >>= λ rest.
    Some (nx.Switch (record { place = p; value = x.0; jumps = in_switch j; room = 1; sections = [] }), n, rest))

-- a block behind its brace
abbrev pub begun_block : Place → Jumps → Next
begun_block p j = nx.Block (record { place = p; jumps = j; found = [] })

-- a `break` or a `continue` behind its word, where it may stand
abbrev pub jump : Bool → Place → StmtKind → ℕ → List Piece → Numbered Next
jump allowed p kind n ps = if not allowed then None else (after m.Semicolon ps >>= λ rest. Some (nx.Done (nd.Statement (stmt p kind)), n, rest))

-- a statement without statements in it, and no jump
abbrev pub simple_statement : Bool → ℕ → List Piece → Numbered Next
simple_statement braced n ps = if braced then None else (code_to m.Semicolon ps >>= λ x. (simple x.0 >>= λ a. Some (nx.Done (nd.Statement a), n, x.1)))

-- a statement by the mark of its first piece
abbrev pub statement_by : Mark → Bool → Place → Jumps → ℕ → Piece → List Piece → Numbered Next
statement_by m.OpenBrace braced p j n t ps = Some (begun_block p j, n, ps)
statement_by m.If braced p j n t ps = begun_if braced p j n ps
statement_by m.While braced p j n t ps = begun_while braced p n ps
statement_by m.For braced p j n t ps = begun_for braced p n ps
statement_by m.Foreach braced p j n t ps = begun_for_each braced p n ps
statement_by m.Switch braced p j n t ps = begun_switch p j n ps
statement_by m.Break braced p j n t ps = jump (not braced && j.breaks) t.place st.Break n ps
statement_by m.Continue braced p j n t ps = jump (not braced && j.continues) t.place st.Continue n ps
statement_by _ braced p j n t ps = simple_statement braced n (t ∷ ps)

-- a statement at a place
abbrev pub statement : Bool → Place → Jumps → ℕ → List Piece → Numbered Next
statement braced p j n [] = None
statement braced p j n (t ∷ ps) = statement_by (mark_of t.kind) braced p j n t ps
