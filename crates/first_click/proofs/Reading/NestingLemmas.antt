-- What a token does to the nesting, by the lists of tokens.
use Rattle.std.proofs.Common.{◌≡◌, ℕ, true, false, List, refl}
use Rattle.std.specs.Prelude.{codes}
use Rattle.std.specs.List.{list_any}
use Rattle.std.specs.Str.{bytes_eq}
use Rattle.first_click.specs.declared.nesting.Role.TheVariants.{Opening, Closing, Joining, Ending, Other}
use Rattle.first_click.specs.Nesting.{opening_tokens, closing_tokens, joining_tokens, role_of}

module _ (token : List ℕ) where
  pub opens : list_any (bytes_eq token) opening_tokens ≡ true → Opening ≡ role_of token
  opens e = rw e refl

  pub closes : list_any (bytes_eq token) opening_tokens ≡ false → list_any (bytes_eq token) closing_tokens ≡ true → Closing ≡ role_of token
  closes e f = rw (e, f) refl

  pub joins : list_any (bytes_eq token) opening_tokens ≡ false → list_any (bytes_eq token) closing_tokens ≡ false → list_any (bytes_eq token) joining_tokens ≡ true → Joining ≡ role_of token
  joins e f g = rw (e, f, g) refl

  pub ends : list_any (bytes_eq token) opening_tokens ≡ false → list_any (bytes_eq token) closing_tokens ≡ false → list_any (bytes_eq token) joining_tokens ≡ false → bytes_eq token (codes ";") ≡ true
      → Ending ≡ role_of token
  ends e f g h = rw (e, f, g, h) refl

  pub is_other : list_any (bytes_eq token) opening_tokens ≡ false → list_any (bytes_eq token) closing_tokens ≡ false → list_any (bytes_eq token) joining_tokens ≡ false → bytes_eq token (codes ";") ≡ false
      → Other ≡ role_of token
  is_other e f g h = rw (e, f, g, h) refl
