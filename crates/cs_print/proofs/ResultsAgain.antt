-- Results of methods that are printed are spelled again, and no record begins with them.
use Rattle.std.proofs.Common.{◌≡◌, ◌≢◌, ℕ, List, [], ◌∷◌, ◌++◌, true, false, inl, inr, refl, sym, ap, ◌∙◌, subst}
use Rattle.std.specs.Prelude.{Bool, Option, Some, None, codes, bytes_eq}
use Rattle.std.specs.Bool.{Decides}
use Rattle.std.proofs.lemmas.Bool.{cases_Bool, false≢true}
use Rattle.std.proofs.lemmas.Slice.Eq.{bytes_eq-Decides}
use Rattle.cs_ast.specs.declared.cs_type.TypeExpr.{TypeExpr}
use Rattle.cs_ast.specs.declared.cs_type.TypeKind.{TypeKind, out-TypeKind, roll-TypeKind, roll-out-TypeKind}
use Rattle.cs_ast.specs.declared.cs_type.TypeKind.TheOpen.{TypeKind-F}
use Rattle.cs_ast.specs.declared.cs_type.TypeKind.TheFolds.{map-TypeKind}
use Rattle.cs_ast.specs.declared.cs_type.TypeKind.TheVariants as ty
use Rattle.cs_token.specs.declared.token.Token.{Token}
use Rattle.cs_token.specs.declared.token.TokenKind.{TokenKind}
use Rattle.cs_token.specs.declared.token.TokenKind.TheVariants as k
use Rattle.cs_token.specs.declared.token.Sign.{Sign}
use Rattle.cs_token.specs.declared.token.Sign.TheVariants as s
use Rattle.cs_token.specs.declared.token.Word.{Word}
use Rattle.cs_token.specs.declared.token.Word.TheVariants as w
use Rattle.cs_grammar.specs.Members.{Result}
use Rattle.cs_grammar.specs.Members as g
use Rattle.cs_grammar.specs.Tokens.{IsName}
use Rattle.cs_grammar.specs.Types.{type_at}
use Rattle.cs_grammar.specs.Types as gt
use Rattle.cs_print.specs.Alike.{AlikeTypes, Both}
use Rattle.cs_print.specs.Alike as al
use Rattle.cs_print.specs.Printed.{Kinds, type_kinds, type_kind_kinds}
use Rattle.cs_print.specs.PrintedMembers.{result_kinds, is_record}
use Rattle.cs_print.specs.Printed as p
use Rattle.cs_print.proofs.PrintedLaws as law
use Rattle.cs_print.proofs.CodeKinds.{IsCode}
use Rattle.cs_print.proofs.CodeKinds as c
use Rattle.cs_print.proofs.LayLemmas.{Are}
use Rattle.cs_print.proofs.LayLemmas as r
use Rattle.cs_print.proofs.ReadLemmas.{Prints, first, single, worded, up_to, AreProper, later}
use Rattle.cs_print.proofs.TypesAgain.{TypeAgain, type_again}

-- which tokens can't begin a record: the first is no name `record`, or a sign is the second
pub data NoRecord : Kinds → Type 0 where
  by_word : (word : Word) (ks : Kinds) → NoRecord (k.Word word ∷ ks)
  by_name : (x : List ℕ) (ks : Kinds) → x ≢ codes "record" → NoRecord (k.Name x ∷ ks)
  by_sign : (kind : TokenKind) (sign : Sign) (ks : Kinds) → NoRecord (kind ∷ k.Sign sign ∷ ks)

two_kinds : (x : List ℕ) (sign : Sign) → k.Name x ≡ k.Sign sign → ⊥
two_kinds x sign e = cc

word_name : (x : List ℕ) (word : Word) → k.Word word ≡ k.Name x → ⊥
word_name x word e = cc

same_names : (x y : List ℕ) → k.Name x ≡ k.Name y → x ≡ y
same_names x y e = cc

tails : (t q : Token) (us vs : List Token) → t ∷ us ≡ q ∷ vs → us ≡ vs
tails t q us vs e = cc

heads : (t q : Token) (us vs : List Token) → t ∷ us ≡ q ∷ vs → t ≡ q
heads t q us vs e = cc

-- tokens of such kinds, with a name behind them, begin none
pub no_record : (ks : Kinds) (ts us : List Token) (n : Token) (x : List ℕ) → NoRecord ks → Are ks ts (n ∷ us) → IsName x n → (t : Token) → ts ≡ t ∷ n ∷ us → IsName (codes "record") t → ⊥
no_record _ _ us n x (by_word word ks) (r.cons _ q _ qs _ is more) has t e named_so = word_name (codes "record") word (sym is ∙ ap (λ z. z.kind) (heads q t qs (n ∷ us) e) ∙ named_so)
no_record _ _ us n x (by_name y ks other) (r.cons _ q _ qs _ is more) has t e named_so = other (same_names y (codes "record") (sym is ∙ ap (λ z. z.kind) (heads q t qs (n ∷ us) e) ∙ named_so))
no_record _ _ us n x (by_sign kind sign ks) (r.cons _ q _ _ _ is (r.cons _ m _ ms _ has_sign more)) has t e named_so =
    two_kinds x sign (sym has ∙ sym (ap (λ z. z.kind) (heads m n ms us (tails q t (m ∷ ms) (n ∷ us) e))) ∙ has_sign)

-- results

pub record ReadsResult (a : Option TypeExpr) (ts rest : List Token) : Type 0 where
  pub other : Option TypeExpr
  pub spelled : Result ts rest other
  pub alike : Both AlikeTypes a other

pub record FoundResult (a : Option TypeExpr) (rest : List Token) : Type 0 where
  pub again : Prints (ReadsResult a) (result_kinds a)
  pub first_is : NoRecord (result_kinds a)
  pub proper : AreProper rest

other_name : (x : List ℕ) → bytes_eq x (codes "record") ≡ false → x ≢ codes "record"
other_name x e is = go (bytes_eq x (codes "record")) e (bytes_eq-Decides x (codes "record"))
  where
    go : (d : Bool) → d ≡ false → Decides d (x ≡ codes "record") → ⊥
    go false f m = false≢true (m.1 is)
    go true f m = false≢true (sym f)

abbrev form_kinds : TypeKind-F TypeKind TypeExpr → Kinds
form_kinds x = p.type_form (map-TypeKind TypeKind TypeExpr Kinds Kinds type_kind_kinds type_kinds x)

callback_begins : (b : Option TypeExpr) → NoRecord (form_kinds (TypeKind-F.Callback b))
callback_begins None = by_word w.EventCallback []
callback_begins (Some d) = by_word w.EventCallback _

fragment_begins : (b : Option TypeExpr) → NoRecord (form_kinds (TypeKind-F.Fragment b))
fragment_begins None = by_word w.RenderFragment []
fragment_begins (Some d) = by_word w.RenderFragment _

begins_otherwise : (a : TypeExpr) → is_record a.kind ≡ false → NoRecord (type_kinds a)
begins_otherwise a fails =
    subst (λ ks. NoRecord ks) (sym (law.type_law a ∙ law.type_look a.kind))
    (elim (out-TypeKind a.kind) as (λ x. (elim x [ TypeKind-F.Named name ↦ bytes_eq name (codes "record") | _ ↦ false ]) ≡ false → NoRecord (form_kinds x)) [
      | TypeKind-F.Int ↦ λ e. by_word w.Int []
      | TypeKind-F.Bool ↦ λ e. by_word w.Bool []
      | TypeKind-F.Text ↦ λ e. by_word w.String []
      | TypeKind-F.Named x ↦ λ e. by_name x [] (other_name x e)
      | TypeKind-F.List b ↦ λ e. by_word w.ImmutableList _
      | TypeKind-F.Callback b ↦ λ e. callback_begins b
      | TypeKind-F.Fragment b ↦ λ e. fragment_begins b
      | TypeKind-F.Change ↦ λ e. by_word w.ChangeEventArgs []
      | TypeKind-F.Args ↦ λ e. by_word w.EventArgs []
    ] fails)

-- the type `record`
record_type : (a : TypeExpr) → is_record a.kind ≡ true → a.kind ≡ ty.Named (codes "record")
record_type a holds =
    elim (out-TypeKind a.kind) as (λ x. out-TypeKind a.kind ≡ x → (elim x [ TypeKind-F.Named name ↦ bytes_eq name (codes "record") | _ ↦ false ]) ≡ true → a.kind ≡ ty.Named (codes "record")) [
      | TypeKind-F.Named x ↦ λ m i. sym (roll-out-TypeKind a.kind) ∙ ap roll-TypeKind m ∙ ty.rolls-Named x ∙ ap (λ y. ty.Named y) (same x i)
      | _ ↦ λ m i. absurd (cc)
    ] refl holds
  where
    same : (x : List ℕ) → bytes_eq x (codes "record") ≡ true → x ≡ codes "record"
    same x e = go (bytes_eq x (codes "record")) e (bytes_eq-Decides x (codes "record"))
      where
        go : (d : Bool) → d ≡ true → Decides d (x ≡ codes "record") → x ≡ codes "record"
        go true f m = m.0 refl
        go false f m = absurd (false≢true f)

record_kinds : (a : TypeExpr) → a.kind ≡ ty.Named (codes "record") → type_kinds a ≡ k.Name (codes "record") ∷ []
record_kinds a is = law.type_law a ∙ ap type_kind_kinds is ∙ law.type_named (codes "record")

marked : (a : TypeExpr) → a.kind ≡ ty.Named (codes "record") → TypeAgain a → Prints (ReadsResult (Some a)) (type_kinds a ++ k.Sign s.Question ∷ [])
marked a is h =
    subst (λ ks. Prints (ReadsResult (Some a)) (ks ++ k.Sign s.Question ∷ [])) (sym (record_kinds a is)) (record {
      code = up_to (k.Name (codes "record") ∷ []) s.Question [] refl (subst (λ ks. IsCode ks) (record_kinds a is) h.code) c.none;
      reads = λ ts rest are. first (k.Name (codes "record")) _ ts rest (λ xs. ReadsResult (Some a) xs rest) are (λ t us has more.
          single (k.Sign s.Question) us rest (λ xs. ReadsResult (Some a) (t ∷ xs) rest) more (λ q marks. record {
            other = Some (type_at t.place (ty.Named (codes "record")));
            spelled = g.Result.value (t ∷ q ∷ rest) rest _ (gt.marked q (t ∷ q ∷ rest) rest _ (gt.name (codes "record") t (q ∷ rest) has) marks);
            alike = al.present a _ (al.written a.place t.place a.kind (ty.Named (codes "record")) (subst (λ y. al.AlikeTypeKinds a.kind y) is (al.same a.kind)));
          }));
    })

value_result : (a : TypeExpr) (rest : List Token) → TypeAgain a → AreProper rest → FoundResult (Some a) rest
value_result a rest h known = elim (cases_Bool (is_record a.kind)) [
  | inl holds ↦ record {
    again = rw holds (marked a (record_type a holds) h);
    first_is = rw holds (subst (λ ks. NoRecord (ks ++ k.Sign s.Question ∷ [])) (sym (record_kinds a (record_type a holds))) (by_sign (k.Name (codes "record")) s.Question []));
    proper = known;
  }
  | inr fails ↦ record {
    again = rw fails (record {
      code = h.code;
      reads = λ ts more are. let x = h.reads ts more are in record { other = Some x.other; spelled = g.Result.value ts more x.other x.written; alike = al.present a x.other x.alike };
    });
    first_is = rw fails (begins_otherwise a fails);
    proper = known;
  }
]

void_result : (rest : List Token) → AreProper rest → FoundResult None rest
void_result rest known = record {
  again = record {
    code = worded w.Void [] c.none;
    reads = λ ts more are. single (k.Word w.Void) ts more (λ xs. ReadsResult None xs more) are (λ t is. record { other = None; spelled = g.Result.void t more is; alike = al.absent });
  };
  first_is = by_word w.Void [];
  proper = known;
}

pub result : (ts rest : List Token) (a : Option TypeExpr) → Result ts rest a → AreProper ts → FoundResult a rest
result _ _ _ (g.Result.value ts rest a writes) known = let x = type_again ts rest a writes known in value_result a rest x.again x.proper
result _ _ _ (g.Result.void t rest is) known = void_result rest (later t rest known)
result _ _ _ (g.Result.task t rest is) known = void_result rest (later t rest known)
result _ _ _ (g.Result.async_task t u rest is has) known = void_result rest (later u rest (later t (u ∷ rest) known))
