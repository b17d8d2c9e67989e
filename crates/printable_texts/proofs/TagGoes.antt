-- In a tag, what is found fits there, and what it leaves open.
use Rattle.std.proofs.Common.{◌≡◌, ℕ, Bool, true, false, List, ◌∷◌, take, drop, Some, None, refl}
use Rattle.std.specs.Prelude.{◌==◌, codes, if◌then◌else◌}
use Rattle.std.specs.declared.option.Option.{Option}
use Rattle.razor_token.specs.declared.context.Change.{Change}
use Rattle.razor_token.specs.declared.context.Context.{Context}
use Rattle.razor_token.specs.declared.context.Context.TheVariants as x
use Rattle.razor_token.specs.declared.found.Found.{Found}
use Rattle.razor_token.specs.declared.piece.PieceKind.TheVariants as k
use Rattle.razor_token.specs.Contexts.{changed, stays, leaves, becomes}
use Rattle.razor_token.specs.Runs.{begins}
use Rattle.razor_token.specs.TagFronts.{name_count, attribute_of, start_tag_at, end_tag_at}
use Rattle.razor_token.specs.Tags.{held_by}

-- in the start tag of a component or not, whose element has no content or may have some: white space, its end, or an attribute, behind which a value follows or none
pub data TagGoes (component void : Bool) (cs : List Context) : Option Found → Type 0 where
  nothing : TagGoes component void cs None
  space : (count : ℕ) → TagGoes component void cs (Some (record { kind = k.Space; count = count; change = stays }))
  empty : (count : ℕ) → TagGoes component void cs (Some (record { kind = k.EmptyTagEnd; count = count; change = leaves }))
  begins_content : void ≡ false → TagGoes component void cs (Some (record { kind = k.ContentStart; count = 1; change = becomes x.Element }))
  named : (name : List ℕ) (count : ℕ) (change : Change) → changed change (x.StartTag component void ∷ cs) ≡ x.StartTag component void ∷ cs → TagGoes component void cs (Some (record { kind = k.AttributeName name; count = count; change = change }))
  named_with_value : (name : List ℕ) (count : ℕ) (change : Change) → changed change (x.StartTag component void ∷ cs) ≡ x.Named (held_by component name) ∷ x.StartTag component void ∷ cs
      → TagGoes component void cs (Some (record { kind = k.AttributeName name; count = count; change = change }))

choose : (component void : Bool) (cs : List Context) (b : Bool) (y z : Option Found) → TagGoes component void cs y → TagGoes component void cs z → TagGoes component void cs (if b then y else z)
choose component void cs true y z h i = h
choose component void cs false y z h i = i

attribute_goes : (component void : Bool) (cs : List Context) (count : ℕ) (text : List ℕ) → TagGoes component void cs (attribute_of component count text)
attribute_goes component void cs count text = some (count == 0) (begins (codes "=") (drop count text))
  where
    valued : (b : Bool) → TagGoes component void cs (Some (record { kind = k.AttributeName (take count text); count = count; change = if b then record { leaves = false; enters = Some (x.Named (held_by component (take count text))); within = None; sign = None } else stays }))
    valued true = named_with_value (take count text) count _ refl
    valued false = named (take count text) count _ refl

    some : (b d : Bool)
        → TagGoes component void cs (if b then None else Some (record { kind = k.AttributeName (take count text); count = count; change = if d then record { leaves = false; enters = Some (x.Named (held_by component (take count text))); within = None; sign = None } else stays }))
    some true d = nothing
    some false d = valued d

end_goes : (component void : Bool) (cs : List Context) → TagGoes component void cs (if void then Some (record { kind = k.EmptyTagEnd; count = 1; change = leaves }) else Some (record { kind = k.ContentStart; count = 1; change = becomes x.Element }))
end_goes component true cs = empty 1
end_goes component false cs = begins_content refl

pub in_start_tag : (component void : Bool) (cs : List Context) (text : List ℕ) → TagGoes component void cs (start_tag_at component void text)
unfolding start_tag_at
in_start_tag component void cs text =
    let attribute = attribute_goes component void cs (name_count text) text in let end = end_goes component void cs in search (choose, space, empty, attribute, end) depth 9

-- in an end tag: white space, or its end
pub data EndGoes : Option Found → Type 0 where
  nothing : EndGoes None
  space : (count : ℕ) → EndGoes (Some (record { kind = k.Space; count = count; change = stays }))
  end : EndGoes (Some (record { kind = k.EndTagEnd; count = 1; change = leaves }))

choose_end : (b : Bool) (y z : Option Found) → EndGoes y → EndGoes z → EndGoes (if b then y else z)
choose_end true y z h i = h
choose_end false y z h i = i

pub in_end_tag : (text : List ℕ) → EndGoes (end_tag_at text)
unfolding end_tag_at
in_end_tag text = search (choose_end, EndGoes.nothing, EndGoes.space, EndGoes.end) depth 9
