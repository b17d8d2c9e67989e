-- What stands at the front of a text stands there before less text too.
use Rattle.std.proofs.Common.{◌≡◌, ℕ, false, List, [], ◌∷◌, ◌++◌, refl, sym, ap, ◌∙◌, append_assoc}
use Rattle.std.specs.Prelude.{codes}
use Rattle.std.specs.declared.option.Option.{Option}
use Rattle.cs_token.specs.declared.around.Around.{Around}
use Rattle.cs_token.specs.declared.characters.Class.{Class}
use Rattle.cs_token.specs.declared.characters.Class.TheVariants as class
use Rattle.cs_token.specs.declared.token.Sign.{Sign}
use Rattle.cs_token.specs.declared.token.TokenKind.{TokenKind}
use Rattle.cs_token.specs.Characters.{begins_with}
use Rattle.cs_token.specs.Lexemes.{Stands, IsGap, IsLongest}
use Rattle.cs_token.specs.Lexemes as g
use Rattle.cs_token.specs.Signs.{mark}

shorter_begins : (class : Class) (text more : List ℕ) → begins_with class (text ++ more) ≡ false → begins_with class text ≡ false
shorter_begins class [] more e = refl
shorter_begins class (c ∷ text) more e = e

shorter_gap : (around : Option Around) (here text more : List ℕ) → IsGap around here (text ++ more) → IsGap around here text
shorter_gap around _ text more (g.white c _ is keeps) = g.white c text is keeps
shorter_gap around _ text more (g.line body _ all stops) = g.line body text all (shorter_begins class.Inline text more stops)
shorter_gap around _ text more (g.block body _ keeps first) = g.block body text keeps first

-- the text in two parts
apart : (x y z u : List ℕ) → x ++ y ≡ z ++ u → (more : List ℕ) → x ++ (y ++ more) ≡ z ++ (u ++ more)
apart x y z u e more = sym (append_assoc x y more) ∙ ap (λ w. w ++ more) e ∙ append_assoc z u more

shorter_longest : (sign : Sign) (text more : List ℕ) → IsLongest sign (text ++ more) → IsLongest sign text
shorter_longest sign text more h = record {
  of_code = h.of_code;
  longest = λ other rest is e. h.longest other (rest ++ more) is (apart (mark sign) text (mark other) rest e more);
  no_line = λ rest e. h.no_line (rest ++ more) (apart (mark sign) text (codes "//") rest e more);
  no_block = λ rest e. h.no_block (rest ++ more) (apart (mark sign) text (codes "/*") rest e more);
}

pub shorter : (around : Option Around) (kind : Option TokenKind) (here text more : List ℕ) → Stands around kind here (text ++ more) → Stands around kind here text
shorter _ _ _ text more (g.gap around here _ code is) = g.gap around here text code (shorter_gap around here text more is)
shorter _ _ _ text more (g.name around here _ code is stops other) = g.name around here text code is (shorter_begins class.Word text more stops) other
shorter _ _ _ text more (g.word around word _ code stops) = g.word around word text code (shorter_begins class.Word text more stops)
shorter _ _ _ text more (g.number around n digits _ code is stops says) = g.number around n digits text code is (shorter_begins class.Digit text more stops) says
shorter _ _ _ text more (g.text around body said _ code is) = g.text around body said text code is
shorter _ _ _ text more (g.sign around sign _ code longest open_) = g.sign around sign text code (shorter_longest sign text more longest) open_
shorter _ _ _ text more (g.hole_close _) = g.hole_close text
shorter _ _ _ text more (g.part body said _ some is stops) =
    g.part body said text some is (λ unit rest c one e. stops unit (rest ++ more) c one (ap (λ w. w ++ more) e ∙ append_assoc unit rest more))
shorter _ _ _ text more (g.hole_open _ single) = g.hole_open text (λ rest e. single (rest ++ more) (ap (λ w. w ++ more) e ∙ append_assoc (codes "{") rest more))
shorter _ _ _ text more (g.interpolation_end _) = g.interpolation_end text
