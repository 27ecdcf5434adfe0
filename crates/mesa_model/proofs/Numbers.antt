-- An entry is told by its number.
use Rattle.std.proofs.Common.{◌≡◌, ℕ, ◌+◌, ◌*◌, ◌/◌, ◌%◌, ◌^◌, ◌<◌, List, [], ◌∷◌, refl, ap, ◌∙◌, arith}
use Rattle.std.specs.List.{AllByRecursion}
use Rattle.mesa_model.specs.declared.entries.Entry.{Entry}
use Rattle.mesa_model.specs.declared.entries.Kind.{Kind}
use Rattle.mesa_model.specs.declared.entries.Kind.TheVariants as kind
use Rattle.mesa_model.specs.declared.entries.Outcome.{Outcome}
use Rattle.mesa_model.specs.declared.entries.Outcome.TheVariants as outcome
use Rattle.mesa_model.specs.Entry.{number_of, numbers_of, kind_number, outcome_number, kind_at, outcome_at, session_at, entry_of, history_of, IsShort}

kind_told : (k : Kind) → kind_at (kind_number k) ≡ k
kind_told kind.Look = refl
kind_told kind.Decide = refl
kind_told kind.Close = refl
kind_told kind.Grant = refl
kind_told kind.Renew = refl

kind_small : (k : Kind) → kind_number k < 2 ^ 8
kind_small kind.Look = omega arith
kind_small kind.Decide = omega arith
kind_small kind.Close = omega arith
kind_small kind.Grant = omega arith
kind_small kind.Renew = omega arith

outcome_told : (o : Outcome) → outcome_at (outcome_number o) ≡ o
outcome_told outcome.Stands = refl
outcome_told outcome.Memory = refl
outcome_told outcome.ReadFault = refl
outcome_told outcome.WriteFault = refl
outcome_told outcome.Damaged = refl
outcome_told outcome.Skipped = refl

outcome_small : (o : Outcome) → outcome_number o < 2 ^ 8
outcome_small outcome.Stands = omega arith
outcome_small outcome.Memory = omega arith
outcome_small outcome.ReadFault = omega arith
outcome_small outcome.WriteFault = omega arith
outcome_small outcome.Damaged = omega arith
outcome_small outcome.Skipped = omega arith

module _ (m c s k o : ℕ) (cs : c < 2 ^ 32) (ss : s < 2 ^ 16) (ks : k < 2 ^ 8) (os : o < 2 ^ 8) where
  abbrev x : ℕ
  x = m * 2 ^ 64 + c * 2 ^ 32 + s * 2 ^ 16 + k * 2 ^ 8 + o

  moment_is : x / 2 ^ 64 ≡ m
  moment_is = omega arith

  command_is : (x / 2 ^ 32) % 2 ^ 32 ≡ c
  command_is = omega arith

  session_is : (x / 2 ^ 16) % 2 ^ 16 ≡ s
  session_is = omega arith

  kind_is : (x / 2 ^ 8) % 2 ^ 8 ≡ k
  kind_is = omega arith

  outcome_is : x % 2 ^ 8 ≡ o
  outcome_is = omega arith

pub session_told : (e : Entry) → IsShort e → session_at (number_of e) ≡ e.session
session_told e short = session_is e.moment e.command e.session (kind_number e.kind) (outcome_number e.outcome) short.command short.session (kind_small e.kind) (outcome_small e.outcome)

pub entry_told : (e : Entry) → IsShort e → entry_of (number_of e) ≡ e
entry_told e short = let k = kind_number e.kind in let o = outcome_number e.outcome in let ks = kind_small e.kind in let os = outcome_small e.outcome in
    λ i. record {
      session = session_told e short i;
      command = command_is e.moment e.command e.session k o short.command short.session ks os i;
      kind = (ap kind_at (kind_is e.moment e.command e.session k o short.command short.session ks os) ∙ kind_told e.kind) i;
      outcome = (ap outcome_at (outcome_is e.moment e.command e.session k o short.command short.session ks os) ∙ outcome_told e.outcome) i;
      moment = moment_is e.moment e.command e.session k o short.command short.session ks os i;
    }

pub history_told : (h : List Entry) → AllByRecursion IsShort h → history_of (numbers_of h) ≡ h
history_told [] all = refl
history_told (e ∷ h) all = λ i. entry_told e all.0 i ∷ history_told h all.1 i
