use Rattle.std.proofs.Common.{◌≡◌, ◌≢◌, refl, ap, List, ℕ, false}
use Rattle.std.specs.Option.{option_map}
use Rattle.std.specs.Ordering.{is_eq, nat_cmp}
use Rattle.std.specs.declared.cmp.Ordering.{Ordering}
use Rattle.std.specs.declared.cmp.Ordering.TheVariants.{Less, Equal, Greater}
use Rattle.std.specs.Cmp.Lexicographic.{slice_cmp}
use Rattle.std.proofs.lemmas.Map.Lookups.{exact_bytes}
use Rattle.outside.proofs.mem_files.MemFiles.put.Goals as goal

is_eq-false : (order : Ordering) → order ≢ Equal → is_eq order ≡ false
is_eq-false Less apart = refl
is_eq-false Equal apart = absurd (apart refl)
is_eq-false Greater apart = refl

-- a name is found only by itself
is_eq-other : (name other : List ℕ) → other ≢ name → is_eq (slice_cmp nat_cmp name other) ≡ false
is_eq-other name other apart =
    is_eq-false (slice_cmp nat_cmp name other) (λ same. apart (let e = exact_bytes name other same in cc))

pub returns-clause-ok : goal.returns-clause-ok
returns-clause-ok c =
    let updates = c.in_ok-insert.ensures.updates in
    record {
      put = ap (option_map (λ bytes. bytes.items)) updates.1;
      others = λ other apart. ap (option_map (λ bytes. bytes.items))
          (updates.2 other (is_eq-other c.args.name other apart));
    }
