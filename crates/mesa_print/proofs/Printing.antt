-- What is printed one after the other.
use Rattle.std.proofs.Common.{◌≡◌, ◌≤◌, ◌+◌, ℕ, List, ◌++◌, length, take, true, false, Bool, refl, sym, ◌∙◌, arith, inl, inr}
use Rattle.std.specs.Prelude.{Option}
use Rattle.std.specs.Io.KnownBytes.{Appends}
use Rattle.std.proofs.KnownBytes.{Appends-trans}
use Rattle.std.proofs.Math.Seq.{take-append-add, take-append_seam}
use Rattle.std.proofs.lemmas.Bool.{cases_Bool, cases_lt}
use Rattle.std.proofs.lemmas.List.{append-nil, take-append-le, take_all}
use Rattle.mesa_io.specs.Causes.{Rose}
use Rattle.mesa_print.specs.declared.printer.Printer.{Printer}
use Rattle.mesa_print.specs.Printed.{Printed}

rose-later : (a b c : ℕ) → Rose a b → b ≤ c → Rose a c
rose-later a b c h k = omega arith

rose-before : (a b c : ℕ) → a ≤ b → Rose b c → Rose a c
rose-before a b c h k = omega arith

front-then : {K : Type 0} (held : K → Option (List ℕ)) (faults : K → ℕ) (a b c : Printer K) (x y : List ℕ) → Printed held faults a b x → Printed held faults b c y
    → (v : Bool) → b.broken ≡ v → (n : ℕ) × Appends (held a.sink) (held c.sink) (take n (x ++ y))
front-then held faults a b c x y p q false e =
    let (n, more) = q.front in
    (length x + n, rw take-append-add (Appends-trans _ _ _ _ _ (p.whole e).1 more))
front-then held faults a b c x y p q true e =
    let (n, some) = p.front in
    let none = (q.still e).1 in
    elim (cases_lt n (length x)) [
      | inl lt ↦ (n, let le : n ≤ length x = omega arith in rw (take-append-le n x y le, ← append-nil (take n x)) (Appends-trans _ _ _ _ _ some none))
      | inr ge ↦ (length x, let all : take n x ≡ x = take_all n x ge in rw (take-append_seam, ← append-nil x, ← all) (Appends-trans _ _ _ _ _ some none))
    ]

pub printed_then : {K : Type 0} (held : K → Option (List ℕ)) (faults : K → ℕ) (a b c : Printer K) (x y : List ℕ) → Printed held faults a b x → Printed held faults b c y
    → Printed held faults a c (x ++ y)
printed_then held faults a b c x y p q = record {
  whole = λ e. ((p.whole (q.whole e).0).0, Appends-trans _ _ _ _ _ (p.whole (q.whole e).0).1 (q.whole e).1);
  front = front-then held faults a b c x y p q b.broken refl;
  still = λ e. ((q.still (p.still e).0).0, Appends-trans _ _ _ _ _ (p.still e).1 (q.still (p.still e).0).1);
  later = omega (arith, p.later, q.later);
  cause = λ e f. elim (cases_Bool b.broken) [
    | inl broken ↦ rose-later _ _ _ (p.cause e broken) q.later
    | inr good ↦ rose-before _ _ _ p.later (q.cause good f)
  ];
  quiet = λ e. elim (cases_Bool b.broken) [
    | inl broken ↦
        let end : c.broken ≡ true = (q.still broken).0 in
        q.quiet (end ∙ sym broken) ∙ p.quiet (broken ∙ sym (sym e ∙ end))
    | inr good ↦
        let begin : a.broken ≡ false = (p.whole good).0 in
        q.quiet (e ∙ begin ∙ sym good) ∙ p.quiet (good ∙ sym begin)
  ];
}
