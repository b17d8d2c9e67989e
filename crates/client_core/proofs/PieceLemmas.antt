-- One message more.
use Rattle.std.proofs.Common.{◌≡◌, ℕ, List, [], ◌∷◌, ◌++◌, map, refl, ap}
use Rattle.std.specs.List.{AllZip}
use Rattle.std.specs.Global.{Vec}
use Rattle.hub_messages.specs.Spelling.Spells.{SpellsUp}
use Rattle.hub_messages.specs.declared.up.Up.{Up}
use Rattle.client_core.specs.Pieces.{pieces_of, SpellAll}

zip_more : (pieces : List (List ℕ)) (ups : List Up) (bytes : List ℕ) (up : Up) → AllZip SpellsUp pieces ups → SpellsUp bytes up → AllZip SpellsUp (pieces ++ bytes ∷ []) (ups ++ up ∷ [])
zip_more [] [] bytes up all one = (one, tt)
zip_more [] (first ∷ ups) bytes up all one = absurd all
zip_more (piece ∷ pieces) [] bytes up all one = absurd all
zip_more (piece ∷ pieces) (first ∷ ups) bytes up all one = (all.0, zip_more pieces ups bytes up all.1 one)

map_more : (items : List (Vec ℕ)) (last : Vec ℕ) → map (λ bytes. bytes.items) (items ++ last ∷ []) ≡ map (λ bytes. bytes.items) items ++ last.items ∷ []
map_more [] last = refl
map_more (first ∷ items) last = ap (λ (rest : List (List ℕ)). first.items ∷ rest) (map_more items last)

-- a message at the end of what is sent
pub spelled_more : (before after : Vec (Vec ℕ)) (ups : List Up) (bytes : Vec ℕ) (up : Up) → after.items ≡ before.items ++ bytes ∷ [] → SpellAll before ups → SpellsUp bytes.items up → SpellAll after (ups ++ up ∷ [])
spelled_more before after ups bytes up pushed all one =
    rw (pushed, map_more before.items bytes) (zip_more (pieces_of before) ups bytes.items up all one)

-- where nothing is sent
pub spelled_none : (sent : Vec (Vec ℕ)) → sent.items ≡ [] → SpellAll sent []
spelled_none sent none = rw none tt
