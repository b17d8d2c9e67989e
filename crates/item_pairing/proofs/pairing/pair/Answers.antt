use Rattle.std.proofs.Common.{◌≡◌, ◌∙◌, ap, sym, subst, ℕ, List, [], ◌∷◌, map, Option, refl}
use Rattle.std.proofs.lemmas.Result.{IfOk-weaker}
use Rattle.pairing_meaning.specs.Slots.{Address, addresses, same_address}
use Rattle.pairing_meaning.specs.Pairs.{Tells}
use Rattle.item_pairing.specs.Standing.{address_of, slot_of}
use Rattle.item_pairing.specs.Found.{found_for}
use Rattle.item_pairing.proofs.LabelLemmas.{address_told, address_self}
use Rattle.item_pairing.proofs.FoundLemmas.{found-tells}
use Rattle.item_pairing.proofs.SlotLemmas.{addresses-of}
use Rattle.item_pairing.proofs.pairing.pair.Goals as goal

pub returns : goal.returns
returns c =
    IfOk-weaker c.find_all.result (λ from. from ≡ found_for same_address (map address_of c.args.olds.now) [] (map address_of c.args.news.now)) _
    (λ from is. subst (λ (olds : List Address). Tells same_address olds (addresses (map slot_of c.args.news.now)) from) (addresses-of c.args.olds.now)
    (subst (λ (news : List Address). Tells same_address (map address_of c.args.olds.now) news from) (addresses-of c.args.news.now)
    (subst (λ (them : List (Option ℕ)). Tells same_address (map address_of c.args.olds.now) (map address_of c.args.news.now) them) (sym is)
    (found-tells same_address address_told address_self (map address_of c.args.olds.now) (map address_of c.args.news.now)))))
    c.find_all.ensures
