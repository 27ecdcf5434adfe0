-- What is printed in pieces; and a call that ran nothing ends with what it printed.
use Rattle.std.proofs.Common.{◌≡◌, inl, inr, ℕ, ◌/◌, ◌%◌, List, [], ◌∷◌, ◌++◌, take, Bool, true, false, refl, sym, ◌∙◌, ap, subst, arith, Option}
use Rattle.std.specs.Prelude.{if◌then◌else◌}
use Rattle.std.specs.Io.KnownBytes.{Appends}
use Rattle.std.proofs.KnownBytes.{Appends-nil}
use Rattle.mesa_io.specs.Causes.{Rose}
use Rattle.mesa_session.specs.mesa_filter.Hex.{hex_digit, hex_of}
use Rattle.mesa_print.specs.declared.printer.Printer.{Printer}
use Rattle.mesa_print.specs.Printed.{Printed}
use Rattle.mesa_shell.specs.Ports.{Ports}
use Rattle.mesa_shell.specs.Exit.{Ended, Prints}
use Rattle.mesa_shell.specs.declared.done.Devices.{Devices}
use Rattle.mesa_shell.specs.declared.done.Done.{Done}

-- bytes in hexadecimal stand one piece behind the other
pub hex_append : (a b : List ℕ) → hex_of (a ++ b) ≡ hex_of a ++ hex_of b
hex_append [] b = refl
hex_append (x ∷ a) b = ap (λ (t : List ℕ). hex_digit (x / 16) ∷ hex_digit (x % 16) ∷ t) (hex_append a b)

pub printed_nothing : {K : Type 0} (held : K → Option (List ℕ)) (faults : K → ℕ) (p : Printer K) → Printed held faults p p []
printed_nothing held faults p = record {
  whole = λ whole. (whole, Appends-nil (held p.sink));
  front = (0, Appends-nil (held p.sink));
  still = λ broken. (broken, Appends-nil (held p.sink));
  later = omega arith;
  cause = λ whole broken. absurd (let no : false ≡ true = sym whole ∙ broken in cc no);
  quiet = λ same. refl;
}

module _ {K D M B : Type 0} (ports : Ports K D M B) (given : Devices K D B) (done : Done K D B) where
  -- a text was printed on the sink that was given
  pub printed_prints : (p : Printer K) (status : ℕ) (text : List ℕ) → Printed ports.held ports.sink_faults (record { sink = given.out; broken = false }) p text
      → done.status ≡ (if p.broken then 5 else status) → done.out ≡ p.sink → Prints ports given done status text
  printed_prints p status text printed is out = by p.broken refl
    where
      by : (b : Bool) → p.broken ≡ b → Prints ports given done status text
      by true broken = inr (
        is ∙ ap (λ (b : Bool). if b then 5 else status) broken,
        subst (λ o. Rose (ports.sink_faults given.out) (ports.sink_faults o)) (sym out) (printed.cause refl broken),
        printed.front.0,
        subst (λ o. Appends (ports.held given.out) (ports.held o) (take printed.front.0 text)) (sym out) printed.front.1,
      )
      by false whole = inl (
        is ∙ ap (λ (b : Bool). if b then 5 else status) whole,
        subst (λ o. ports.sink_faults o ≡ ports.sink_faults given.out) (sym out) (printed.quiet whole),
        subst (λ o. Appends (ports.held given.out) (ports.held o) text) (sym out) (printed.whole whole).1,
      )

  pub printed_ends : (p : Printer K) (status : ℕ) (text : List ℕ) → Printed ports.held ports.sink_faults (record { sink = given.out; broken = false }) p text
      → done.status ≡ (if p.broken then 5 else status) → done.out ≡ p.sink → done.benches.items ≡ given.benches.items → done.history.items ≡ [] → Ended ports given done status text
  printed_ends p status text printed is out benches none = (none, benches, printed_prints p status text printed is out)
