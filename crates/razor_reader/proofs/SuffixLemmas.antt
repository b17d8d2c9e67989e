-- What a form leaves is the end of what it began with, and shorter.
use Rattle.std.proofs.Common.{◌≡◌, ℕ, zero, suc, ◌+◌, ◌*◌, ◌<◌, ◌≤◌, List, [], ◌∷◌, ◌++◌, length, refl, sym, ap, ◌∙◌, subst, arith, append_assoc, length-append}
use Rattle.std.specs.Prelude.{Bool, Option, Some}
use Rattle.cs_ast.specs.declared.expression.Expr.{Expr}
use Rattle.cs_ast.specs.declared.expression.Label.{Label}
use Rattle.cs_ast.specs.declared.expression.Stmt.{Stmt}
use Rattle.cs_token.specs.declared.token.Token.{Token}
use Rattle.razor_token.specs.declared.piece.Piece.{Piece}
use Rattle.razor_ast.specs.declared.attribute.Attribute.{Attribute}
use Rattle.razor_ast.specs.Attributes.{SomeAttributes}
use Rattle.razor_ast.specs.Attributes as attributes
use Rattle.razor_ast.specs.Brackets.{Round, in_brackets}
use Rattle.razor_ast.specs.Brackets as b
use Rattle.razor_ast.specs.Literals.{literal_run}
use Rattle.razor_ast.specs.Nodes.{Spaced}
use Rattle.razor_ast.specs.Nodes as g
use Rattle.razor_ast.specs.Pieces.{codes_of}
use Rattle.razor_ast.specs.Shown.{Shown}
use Rattle.razor_ast.specs.Statements.{Simple, IsLabel, SomeLabels}
use Rattle.razor_ast.specs.Statements as s
use Rattle.razor_reader.proofs.AttributeComplete.{behind_attribute}
use Rattle.razor_reader.proofs.HeadComplete.{in_brackets_is}
use Rattle.razor_reader.proofs.ValueComplete.{FlatPieces, flat_behind, run_behind, behind_shown}

-- the second pieces are the end of the first
pub record Behind (ps us : List Piece) : Type 0 where
  pub pre : List Piece
  pub whole : ps ≡ pre ++ us

pub flat_end : (ps us : List Piece) → FlatPieces ps → Behind ps us → FlatPieces us
flat_end ps us f h = flat_behind h.pre us (subst FlatPieces h.whole f)

pub not_longer : (ps us : List Piece) → Behind ps us → length us ≤ length ps
not_longer ps us h = let e = ap length h.whole ∙ length-append h.pre us in omega arith

pub same_end : (ps : List Piece) → Behind ps ps
same_end ps = record { pre = []; whole = refl }

pub far_end : (ps us vs : List Piece) → Behind ps us → Behind us vs → Behind ps vs
far_end ps us vs h i = record { pre = h.pre ++ i.pre; whole = h.whole ∙ ap (λ l. h.pre ++ l) i.whole ∙ sym (append_assoc h.pre i.pre vs) }

pub one_end : (p : Piece) (ps us : List Piece) → Behind ps us → Behind (p ∷ ps) us
one_end p ps us h = record { pre = p ∷ h.pre; whole = ap (λ l. p ∷ l) h.whole }

pub end_is : (ps us vs : List Piece) → us ≡ vs → Behind ps us → Behind ps vs
end_is ps us vs e h = subst (Behind ps) e h

-- behind tokens
pub codes_end : (ts : List Token) (rest : List Piece) → Behind (codes_of ts ++ rest) rest
codes_end ts rest = record { pre = codes_of ts; whole = refl }

-- behind literal texts
pub run_end : (ps us : List Piece) (text : List ℕ) → literal_run ps ≡ (text, us) → Behind ps us
run_end ps us text e =
    let h = run_behind ps in
    record { pre = h.0; whole = h.1 ∙ ap (λ (run : List ℕ × List Piece). h.0 ++ run.1) e }

-- behind brackets
pub round_end : (ps us : List Piece) (ts : List Token) → Round ps ts us → Behind ps us
round_end _ _ _ (b.round o c ps rest ts i e j) =
    one_end o ps rest (far_end ps (c ∷ rest) rest (record { pre = codes_of ts; whole = in_brackets_is ps (c ∷ rest) ts 0 e }) (one_end c rest rest (same_end rest)))

-- behind a content expression
pub shown_end : (ps us : List Piece) (a : Expr) → Shown ps us a → Behind ps us
shown_end ps us a h = let x = behind_shown ps us a h in record { pre = x.pre; whole = x.whole }

pub shown_less : (ps us : List Piece) (a : Expr) → Shown ps us a → length us < length ps
shown_less ps us a h = (behind_shown ps us a h).less

-- behind a statement without statements in it
pub simple_end : (ps us : List Piece) (a : Stmt) → Simple ps us a → Behind ps us
simple_end _ _ _ (s.simple ts c rest a none is h kind) = codes_end (ts ++ c ∷ []) rest

codes_less : (ts : List Token) (c : Token) (rest : List Piece) → length rest < length (codes_of (ts ++ c ∷ []) ++ rest)
codes_less [] c rest = omega arith
codes_less (u ∷ ts) c rest = let less = codes_less ts c rest in omega arith

pub simple_less : (ps us : List Piece) (a : Stmt) → Simple ps us a → length us < length ps
simple_less _ _ _ (s.simple ts c rest a none is h kind) = codes_less ts c rest

-- behind labels
label_end : (ps us : List Piece) (a : Label) → IsLabel ps us a → Behind ps us
label_end _ _ _ (s.label ts c rest a none is h) = codes_end (ts ++ c ∷ []) rest

label_less : (ps us : List Piece) (a : Label) → IsLabel ps us a → length us < length ps
label_less _ _ _ (s.label ts c rest a none is h) = codes_less ts c rest

pub labels_end : (ps us : List Piece) (labels : List Label) → SomeLabels ps us labels → Behind ps us
labels_end _ _ _ (s.one ps rest a h) = label_end ps rest a h
labels_end _ _ _ (s.more ps us rest a labels h next) = far_end ps us rest (label_end ps us a h) (labels_end us rest labels next)

pub labels_less : (ps us : List Piece) (labels : List Label) → SomeLabels ps us labels → length us < length ps
labels_less _ _ _ (s.one ps rest a h) = label_less ps rest a h
labels_less _ _ _ (s.more ps us rest a labels h next) =
    let first = label_less ps us a h in
    let others = labels_less us rest labels next in
    omega arith

-- behind attributes and white space
pub attributes_end : (around : Piece → List ℕ) (component : Bool) (n : ℕ) (ps us : List Piece) (m : ℕ) (found : List Attribute) → SomeAttributes around component n ps us m found → Behind ps us
attributes_end around component _ _ _ _ _ (attributes.none n rest) = same_end rest
attributes_end around component _ _ _ _ _ (attributes.more n i m space ps us rest a others white h next) =
    let x = behind_attribute around component n ps us i a h in
    one_end space ps rest (far_end ps us rest (record { pre = x.pre; whole = x.whole }) (attributes_end around component i us rest m others next))

pub spaced_end : (ps us : List Piece) → Spaced ps us → Behind ps us
spaced_end _ _ (g.close ps) = same_end ps
spaced_end _ _ (g.apart space ps i) = one_end space ps ps (same_end ps)
