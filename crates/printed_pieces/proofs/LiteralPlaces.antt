-- Where literal text stands: in content, and in values.
use Rattle.std.proofs.Common.{◌≡◌, ℕ, Bool, true, false, List, [], ◌∷◌, Some, None, refl}
use Rattle.std.specs.declared.option.Option.{Option}
use Rattle.std.specs.Prelude.{◌==◌, ◌||◌, not}
use Rattle.std.proofs.lemmas.Bool.{false≢true}
use Rattle.cs_token.specs.Reading.Runs.{strip}
use Rattle.razor_token.specs.declared.context.Context.{Context}
use Rattle.razor_token.specs.declared.context.Context.TheVariants as x
use Rattle.razor_token.specs.declared.context.Held.TheVariants as held
use Rattle.razor_token.specs.declared.piece.PieceKind.TheVariants as k
use Rattle.razor_token.specs.declared.piece.Quote.{Quote}
use Rattle.razor_token.specs.declared.piece.Quote.TheVariants as q
use Rattle.razor_token.specs.declared.runs.RunKind.TheVariants as r
use Rattle.razor_token.specs.Runs.{is_of, run}
use Rattle.razor_token.specs.Contexts.{stays}
use Rattle.razor_token.specs.Pieces.{piece, literal}
use Rattle.razor_token.specs.ContentFronts.{content_at, at_sign}
use Rattle.razor_token.specs.ValueFronts.{quoted_run, mixed_at}
use Rattle.printed_pieces.specs.Places.{IsContentPlace, top, element}
use Rattle.printed_pieces.proofs.LiteralLaws.{Literals}

pub neither : (a b : Bool) → not (a || b) ≡ true → (a ≡ false) × (b ≡ false)
neither true b e = absurd (false≢true e)
neither false true e = absurd (false≢true e)
neither false false e = (refl, refl)

content-plain : (last : Option ℕ) (c : ℕ) (text : List ℕ) → is_of r.Content c ≡ true → content_at None last (c ∷ text) ≡ literal (run r.Content (c ∷ text)) (c ∷ text)
unfolding content_at strip
content-plain last c text is = let parts = neither (c == 64) (c == 60) is in rw (parts.0, parts.1) refl

element-plain : (last : Option ℕ) (c : ℕ) (text : List ℕ) → is_of r.Content c ≡ true → content_at (Some x.Element) last (c ∷ text) ≡ literal (run r.Content (c ∷ text)) (c ∷ text)
unfolding content_at strip
element-plain last c text is = let parts = neither (c == 64) (c == 60) is in rw (parts.0, parts.1) refl

content-twice : (context : Option Context) (last : Option ℕ) (rest : List ℕ) → content_at context last (64 ∷ 64 ∷ rest) ≡ piece (k.Literal (64 ∷ [])) 2 stays
unfolding content_at at_sign strip
content-twice context last rest = refl

-- literal text of content
pub literals-content : (cs : List Context) → IsContentPlace cs → Literals r.Content cs
literals-content _ top = record { no_at = refl; twice = content-twice None; plain = content-plain }
literals-content _ (element cs) = record { no_at = refl; twice = content-twice (Some x.Element); plain = element-plain }

mixed-plain : (quote : Quote) (last : Option ℕ) (c : ℕ) (text : List ℕ) → is_of (quoted_run quote) c ≡ true
    → mixed_at quote last (c ∷ text) ≡ literal (run (quoted_run quote) (c ∷ text)) (c ∷ text)
unfolding mixed_at strip
mixed-plain q.Double last c text is = let parts = neither (c == 64) (c == 34) is in rw (parts.0, parts.1) refl
mixed-plain q.Single last c text is = let parts = neither (c == 64) (c == 39) is in rw (parts.0, parts.1) refl

mixed-twice : (quote : Quote) (last : Option ℕ) (rest : List ℕ) → mixed_at quote last (64 ∷ 64 ∷ rest) ≡ piece (k.Literal (64 ∷ [])) 2 stays
unfolding mixed_at strip
mixed-twice q.Double last rest = refl
mixed-twice q.Single last rest = refl

no-at : (quote : Quote) → is_of (quoted_run quote) 64 ≡ false
no-at q.Double = refl
no-at q.Single = refl

-- literal text mixed with content expressions
pub literals-mixed : (quote : Quote) (cs : List Context) → Literals (quoted_run quote) (x.Value held.Mixed (Some quote) ∷ cs)
literals-mixed quote cs = record { no_at = no-at quote; twice = mixed-twice quote; plain = mixed-plain quote }
