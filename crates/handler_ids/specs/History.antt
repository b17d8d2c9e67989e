-- The history of handler ids: a list that nothing leaves. Its first entry is that of id 1.
use Rattle.std.specs.Prelude.{ℕ, zero, suc, ◌-◌, ◌==◌, if◌then◌else◌, List, [], ◌∷◌, Option, Some, None, slice_get}
use Rattle.handler_ids.specs.declared.handler_value.HandlerValue.{HandlerValue}

-- an id that was given: its handler value, the batch that gave it, and the batch that disposed it, or none
pub record Past : Type 0 where
  pub value : HandlerValue
  pub given : ℕ
  pub disposed : Option ℕ

-- what stands in a list for an id, if there is such an id
abbrev pub at_id : {X : Type 0} → List X → ℕ → Option X
at_id entries id = if id == 0 then None else slice_get entries (id - 1)

-- the entry that a batch disposed
abbrev pub disposed : ℕ → Past → Past
disposed batch past = record past { disposed = Some batch }

-- the history with the entry at a place disposed
abbrev pub disposed_at : ℕ → ℕ → List Past → List Past
disposed_at batch place [] = []
disposed_at batch zero (past ∷ history) = disposed batch past ∷ history
disposed_at batch (suc place) (past ∷ history) = past ∷ disposed_at batch place history

-- the history after a batch that disposes an id
abbrev pub disposed_by : ℕ → ℕ → List Past → List Past
disposed_by batch id history = disposed_at batch (id - 1) history
