-- Texts put behind a line, one after the other.
use Rattle.std.proofs.Common.{◌∙◌, ap, sym, List, ℕ, ◌++◌, append_assoc, Option, Some, None, codes, decimal, subst}
use Rattle.std.specs.Option.{MatchOption}
use Rattle.mesa_print.specs.declared.line.Line.{Line}
use Rattle.mesa_print.specs.Lines.{Puts, line_text}

-- two texts put one after the other are put together
pub puts_both : (a b c : Line) (x y : List ℕ) → Puts a b x → Puts b c y → Puts a c (x ++ y)
puts_both a b c x y p q = record { now = q.now ∙ ap (λ t. t ++ y) p.now ∙ append_assoc (line_text a) x y; same = q.same ∙ p.same }

-- the same of a text and two more
pub puts_three : (a b c : Line) (x y z : List ℕ) → Puts a b x → Puts b c (y ++ z) → Puts a c (x ++ y ++ z)
puts_three a b c x y z p q = subst (Puts a c) (sym (append_assoc x y z)) (puts_both a b c x (y ++ z) p q)

-- a number, or `none`
abbrev pub number_or_none : Option ℕ → List ℕ
number_or_none None = codes "none"
number_or_none (Some n) = decimal n

-- a text, and the newest version or none
pub puts_newest : (a b c : Line) (x : List ℕ) (newest : Option ℕ) → Puts a b x → MatchOption newest (Puts b c (codes " newest=none")) (λ version. Puts b c (codes " newest=" ++ decimal version))
    → Puts a c (x ++ codes " newest=" ++ number_or_none newest)
puts_newest a b c x None p q = puts_three a b c x (codes " newest=") (codes "none") p q
puts_newest a b c x (Some version) p q = puts_three a b c x (codes " newest=") (decimal version) p q
