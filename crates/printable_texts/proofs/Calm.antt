-- What is open of an interpolated text, and where its literal text can stand.
use Rattle.std.proofs.Common.{◌≡◌, ℕ, ◌<◌, Bool, true, false, List, [], ◌∷◌, ◌++◌, length, drop, Some, None, refl, sym, ap, ◌∙◌, subst, arith, append_assoc}
use Rattle.std.specs.Prelude.{◌&&◌, ◌||◌, not, is_some}
use Rattle.std.specs.declared.option.Option.{Option}
use Rattle.std.proofs.lemmas.Bool.{false≢true}
use Rattle.std.proofs.Math.Seq.{drop-append_seam}
use Rattle.text_core.specs.declared.place.Place.{Place}
use Rattle.cs_token.specs.declared.around.Around.{Around}
use Rattle.cs_token.specs.declared.around.Opened.{Opened}
use Rattle.cs_token.specs.declared.token.Sign.{Sign}
use Rattle.cs_token.specs.declared.token.Sign.TheVariants as s
use Rattle.cs_token.specs.declared.token.TokenKind.{TokenKind}
use Rattle.cs_token.specs.declared.token.TokenKind.TheVariants as t
use Rattle.cs_token.specs.Lexemes.{Stands, is_code}
use Rattle.cs_token.specs.Lexemes as g
use Rattle.cs_token.specs.Spelling.{innermost, behind_sign}
use Rattle.cs_token.specs.Written.{IsWritten, nothing, more, NoUnit}
use Rattle.razor_token.specs.declared.context.Context.{Context}
use Rattle.razor_token.specs.declared.context.Context.TheVariants as x
use Rattle.razor_token.specs.declared.context.Held.TheVariants as held
use Rattle.razor_token.specs.declared.context.Point.TheVariants as point
use Rattle.razor_token.specs.declared.piece.PieceKind.{PieceKind}
use Rattle.razor_token.specs.declared.piece.PieceKind.TheVariants as k
use Rattle.razor_token.specs.CodeFronts.{sign_of, code_kind}
use Rattle.razor_token.specs.Cutting.{opened_behind}
use Rattle.razor_ast.specs.Pieces.{is_counted}
use Rattle.printable_texts.specs.Stands.{is_text_part, is_no_lead}

-- in brackets, heads, statements and values of code an interpolated text may be open
abbrev pub is_loose : List Context → Bool
is_loose [] = false
is_loose (x.Bracket quote raw ∷ cs) = true
is_loose (x.Head with_else ∷ cs) = true
is_loose (x.Block point.Within with_else ∷ cs) = true
is_loose (x.Value held.Code quote ∷ cs) = true
is_loose _ = false

-- one is open there alone
abbrev pub is_calm : List Context → Option Around → Bool
is_calm cs around = not (is_some around) || is_loose cs

-- a sign begins one
abbrev pub starts : Option Sign → Bool
starts (Some s.InterpolationStart) = true
starts (Some s.HoleOpen) = true
starts _ = false

-- so it is behind a sign
abbrev pub keeps_calm : Option Around → Option Sign → List Context → Bool
keeps_calm around sign cs = (not (is_some around) && not (starts sign)) || is_loose cs

or_right : (a b : Bool) → b ≡ true → (a || b) ≡ true
or_right true b e = refl
or_right false b e = e

pub calm_behind : (opened : List Opened) (sign : Option Sign) (place : Place) (cs : List Context) → keeps_calm (innermost opened) sign cs ≡ true → is_calm cs (innermost (opened_behind sign place opened)) ≡ true
unfolding behind_sign
calm_behind [] None place cs e = refl
calm_behind [] (Some s.InterpolationStart) place cs e = e
calm_behind [] (Some s.HoleOpen) place cs e = e
calm_behind [] (Some _) place cs e = refl
calm_behind (o ∷ opened) sign place cs e = or_right (not (is_some (innermost (opened_behind sign place (o ∷ opened))))) (is_loose cs) e

-- literal text of an interpolated one stands in no code
in_text : (a : Option Around) (x : List ℕ) (kind : TokenKind) (body rest : List ℕ) → kind ≡ t.Part x → Stands a (Some kind) body rest → is_code a ≡ false
in_text _ x _ _ _ is (g.part body said rest some spells stops) = refl
in_text _ x _ _ _ is (g.name a text rest code name stops no_word) = absurd (cc)
in_text _ x _ _ _ is (g.word a w rest code stops) = absurd (cc)
in_text _ x _ _ _ is (g.number a n digits rest code run stops says) = absurd (cc)
in_text _ x _ _ _ is (g.text a body z rest code spells) = absurd (cc)
in_text _ x _ _ _ is (g.sign a sign rest code longest hole) = absurd (cc)
in_text _ x _ _ _ is (g.hole_close rest) = absurd (cc)
in_text _ x _ _ _ is (g.hole_open rest single) = absurd (cc)
in_text _ x _ _ _ is (g.interpolation_end rest) = absurd (cc)

-- and not behind another
unit_first : (form : _) (body x rest after : List ℕ) → IsWritten form body x → 0 < length x → rest ≡ body ++ after → NoUnit form rest → ⊥
unit_first form _ _ rest after nothing some e stops = absurd (omega (arith, some))
unit_first form _ _ rest after (more unit text x c is others) some e stops = stops unit (text ++ after) c is (e ∙ append_assoc unit text after)

part_no_part : (a b : Option Around) (x y : List ℕ) (j m : TokenKind) (body text rest after : List ℕ) → j ≡ t.Part x → m ≡ t.Part y → Stands a (Some j) body rest → Stands b (Some m) text after → rest ≡ text ++ after → ⊥
part_no_part _ _ x y _ _ _ _ _ _ is has (g.part body said_first rest some spells stops) (g.part text said_next after others written_so ends) e =
    unit_first _ text said_next rest after written_so others e stops
part_no_part a _ x y j _ body _ rest _ is has one (g.name b text after code name stops no_word) e = absurd (cc)
part_no_part a _ x y j _ body _ rest _ is has one (g.word b w after code stops) e = absurd (cc)
part_no_part a _ x y j _ body _ rest _ is has one (g.number b n digits after code run stops says) e = absurd (cc)
part_no_part a _ x y j _ body _ rest _ is has one (g.text b inner z after code spells) e = absurd (cc)
part_no_part a _ x y j _ body _ rest _ is has one (g.sign b sign after code longest hole) e = absurd (cc)
part_no_part a _ x y j _ body _ rest _ is has one (g.hole_close after) e = absurd (cc)
part_no_part a _ x y j _ body _ rest _ is has one (g.hole_open after single) e = absurd (cc)
part_no_part a _ x y j _ body _ rest _ is has one (g.interpolation_end after) e = absurd (cc)
part_no_part _ b x y _ m _ text _ after is has (g.name a body rest code name stops no_word) two e = absurd (cc)
part_no_part _ b x y _ m _ text _ after is has (g.word a w rest code stops) two e = absurd (cc)
part_no_part _ b x y _ m _ text _ after is has (g.number a n digits rest code run stops says) two e = absurd (cc)
part_no_part _ b x y _ m _ text _ after is has (g.text a inner z rest code spells) two e = absurd (cc)
part_no_part _ b x y _ m _ text _ after is has (g.sign a sign rest code longest hole) two e = absurd (cc)
part_no_part _ b x y _ m _ text _ after is has (g.hole_close rest) two e = absurd (cc)
part_no_part _ b x y _ m _ text _ after is has (g.hole_open rest single) two e = absurd (cc)
part_no_part _ b x y _ m _ text _ after is has (g.interpolation_end rest) two e = absurd (cc)

-- it stands at the front of a text, up to so many characters
pub record PartThere (around : Option Around) (text x : List ℕ) (count : ℕ) : Type 0 where
  pub here : List ℕ
  pub rest : List ℕ
  pub laid : text ≡ here ++ rest
  pub behind_it : drop count text ≡ rest
  pub stands : Stands around (Some (t.Part x)) here rest

-- none does
abbrev pub NoPart : Option Around → List ℕ → Type 0
NoPart around text = (x : List ℕ) (count : ℕ) → PartThere around text x count → ⊥

abbrev pub is_brace : Option Sign → Bool
is_brace None = true
is_brace (Some s.OpenBrace) = true
is_brace _ = false

-- what is known where a token stands
abbrev pub TokenLeads : Option Around → List ℕ → TokenKind → Option Sign → ℕ → Type 0
TokenLeads around text (t.Part x) sign count = (sign ≡ None) × PartThere around text x count
TokenLeads around text (t.Sign s.OpenBrace) sign count = (is_code around ≡ true) × (is_brace sign ≡ true)
TokenLeads around text _ sign count = Unit {0}

-- or any piece
abbrev pub KindLeads : Option Around → List ℕ → PieceKind → Option Sign → ℕ → Type 0
KindLeads around text (k.Code kind) sign count = TokenLeads around text kind sign count
KindLeads around text k.Gap sign count = (is_code around ≡ true) × (sign ≡ None)
KindLeads around text k.Comment sign count = (is_code around ≡ true) × (sign ≡ None)
KindLeads around text _ sign count = Unit {0}

pub no_text_part : (around : Option Around) (text : List ℕ) (kind : PieceKind) (sign : Option Sign) (count : ℕ) → KindLeads around text kind sign count → NoPart around text → is_text_part kind ≡ false
no_text_part around text (k.Code (t.Part x)) sign count h none = absurd (none x count h.1)
no_text_part around text (k.Code _) sign count h none = refl
no_text_part around text _ sign count h none = refl

-- nothing of one is open behind a brace
after_brace : (sign : Option Sign) (place : Place) (opened : List Opened) → is_code (innermost opened) ≡ true → is_brace sign ≡ true → is_code (innermost (opened_behind sign place opened)) ≡ true
unfolding behind_sign
after_brace None place opened h e = h
after_brace (Some s.OpenBrace) place [] h e = refl
after_brace (Some s.OpenBrace) place (o ∷ opened) h e = refl
after_brace (Some _) place opened h e = absurd (cc)

none_by_text : (around : Option Around) (text : List ℕ) → is_code around ≡ true → NoPart around text
none_by_text around text e x count h = false≢true (sym (in_text around x (t.Part x) h.here h.rest refl h.stands) ∙ e)

none_by_part : (around : Option Around) (text x : List ℕ) (count : ℕ) → PartThere around text x count → NoPart around (drop count text)
none_by_part around text x count h y n two =
    part_no_part around around x y (t.Part x) (t.Part y) h.here two.here h.rest two.rest refl refl h.stands two.stands (sym h.behind_it ∙ two.laid)

-- behind a piece that leaves no room for such text
pub none_behind : (opened : List Opened) (place : Place) (text : List ℕ) (kind : PieceKind) (sign : Option Sign) (count : ℕ) → KindLeads (innermost opened) text kind sign count → is_no_lead kind ≡ true
    → NoPart (innermost (opened_behind sign place opened)) (drop count text)
none_behind opened place text (k.Code (t.Part x)) sign count h e =
    subst (λ z. NoPart (innermost (opened_behind z place opened)) (drop count text)) (sym h.0) (none_by_part (innermost opened) text x count h.1)
none_behind opened place text (k.Code (t.Sign s.OpenBrace)) sign count h e = none_by_text _ (drop count text) (after_brace sign place opened h.0 h.1)
none_behind opened place text (k.Code _) sign count h e = absurd (cc)
none_behind opened place text _ sign count h e = absurd (cc)

-- behind a piece that doesn't count
pub none_uncounted : (opened : List Opened) (place : Place) (text : List ℕ) (kind : PieceKind) (sign : Option Sign) (count : ℕ) → KindLeads (innermost opened) text kind sign count → is_counted kind ≡ false
    → NoPart (innermost (opened_behind sign place opened)) (drop count text)
none_uncounted opened place text k.Gap sign count h e = none_by_text _ (drop count text) (after_brace sign place opened h.0 (ap is_brace h.1))
none_uncounted opened place text k.Comment sign count h e = none_by_text _ (drop count text) (after_brace sign place opened h.0 (ap is_brace h.1))
none_uncounted opened place text _ sign count h e = absurd (cc)

-- what is known of what stands at the front
abbrev pub FrontLeads : Option Around → List ℕ → Option TokenKind → ℕ → Type 0
FrontLeads around text None count = is_code around ≡ true
FrontLeads around text (Some kind) count = TokenLeads around text kind (sign_of (Some kind)) count

sign_leads : (around : Option Around) (text : List ℕ) (sign : Sign) (count : ℕ) → is_code around ≡ true → TokenLeads around text (t.Sign sign) (Some sign) count
sign_leads around text s.OpenBrace count e = (e, refl)
sign_leads around text _ count e = tt

pub stands_lead : (around : Option Around) (token : Option TokenKind) (here rest : List ℕ) → Stands around token here rest → FrontLeads around (here ++ rest) token (length here)
stands_lead _ _ _ _ (g.gap around here rest code is) = code
stands_lead _ _ _ _ (g.name around here rest code is stops other) = tt
stands_lead _ _ _ _ (g.word around word rest code stops) = tt
stands_lead _ _ _ _ (g.number around n digits rest code is stops says) = tt
stands_lead _ _ _ _ (g.text around body said rest code is) = tt
stands_lead _ _ here rest (g.sign around sign _ code longest open_) = sign_leads around (here ++ rest) sign (length here) code
stands_lead _ _ _ _ (g.hole_close rest) = tt
stands_lead _ _ _ _ (g.part body said rest some is stops) =
    (refl, record { here = body; rest = rest; laid = refl; behind_it = drop-append_seam body rest; stands = g.part body said rest some is stops })
stands_lead _ _ _ _ (g.hole_open rest single) = tt
stands_lead _ _ _ _ (g.interpolation_end rest) = tt

pub piece_leads : (around : Option Around) (text : List ℕ) (token : Option TokenKind) (count : ℕ) → FrontLeads around text token count → KindLeads around text (code_kind token) (sign_of token) count
piece_leads around text None count h = (h, refl)
piece_leads around text (Some kind) count h = h
