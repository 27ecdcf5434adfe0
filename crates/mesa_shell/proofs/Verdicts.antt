-- How a call ends that checks a store, from the opening's clauses and the check's.
use Rattle.std.proofs.Common.{◌≡◌, ◌⊎◌, inl, inr, ℕ, ◌+◌, ◌<◌, ◌≤◌, List, sym, ◌∙◌, subst, arith, Option}
use Rattle.std.proofs.lemmas.Bool.{cases_lt}
use Rattle.mesa_io.specs.Causes.{last, Rose}
use Rattle.mesa_disk.specs.Story.{Story, Unmoved}
use Rattle.mesa_disk.specs.declared.area.Area.{Area}
use Rattle.mesa_engine.specs.mesa_store_spec.Catalog.{Catalog}
use Rattle.mesa_check.specs.Faults.{Fault}
use Rattle.mesa_check.specs.Verdict.{IsFirstFault}
use Rattle.mesa_recover.specs.declared.error.OpenError.{OpenError}
use Rattle.mesa_recover.specs.declared.error.OpenError.TheVariants as open_error
use Rattle.mesa_recover.specs.Opening.{HasReason, IsRead, ReadsAs}
use Rattle.mesa_recover.proofs.Firsts.{unmoved_twice}
use Rattle.mesa_shell.specs.Ports.{Ports}
use Rattle.mesa_shell.specs.ExitLines.{open_line, open_status, verdict_line, verdict_status}
use Rattle.mesa_shell.specs.Exit.{Ended, EndsCheck}
use Rattle.mesa_shell.specs.Unopened.{HasSameCounts, IsUnread}
use Rattle.mesa_shell.specs.declared.done.Devices.{Devices}
use Rattle.mesa_shell.specs.declared.done.Done.{Done}
use Rattle.mesa_shell.proofs.Unmoved.{read_before, reason_before}

-- one more than both counts had: one of them rose, or stands at its last value
pub one_rose : (f r g s : ℕ) → f ≤ g → r ≤ s → (g < last → s < last → f + r + 1 ≤ g + s) → Rose f g ⊎ Rose r s
one_rose f r g s faults reads more = elim (cases_lt g last) [
  | inr full ↦ inl (omega arith)
  | inl low ↦ elim (cases_lt s last) [
    | inr full ↦ inr (omega arith)
    | inl lower ↦
        let sum = more low lower in
        elim (cases_lt f g) [ inl rose ↦ inl (omega arith) | inr same ↦ inr (omega arith) ]
  ]
]

-- ---- behind an opening, and a check that moved nothing

module _ (old mid new : Story) (opened : Unmoved old mid) (checked : Unmoved mid new) where
  pub verdict_there : (live : Area) (bodies : List (List ℕ)) (end : ℕ) (c : Catalog) (fault : Option Fault) → IsRead mid live bodies end c → IsFirstFault mid c fault → (d : Catalog) × ReadsAs old d × IsFirstFault old d fault
  verdict_there live bodies end c fault read first = (
    c,
    (live, bodies, end, read_before old mid opened live bodies end c read),
    record {
      first = λ i found told are. first.first i found (opened.told ∙ told) are;
      sound = λ i told none. first.sound i (opened.told ∙ told) none;
      unsound = λ i told has. first.unsound i (opened.told ∙ told) has;
    },
  )

  pub fault_there : mid.faults ≡ old.faults → mid.read_faults ≡ old.read_faults → HasReason mid new open_error.Fault → HasReason old new open_error.Fault
  fault_there faults reads reason = reason_before old mid opened new open_error.Fault faults reads reason

  pub counts_there : HasSameCounts old mid → HasSameCounts mid new → HasSameCounts old new
  counts_there first more = (more.0 ∙ first.0, more.1 ∙ first.1)

  pub nothing_moved : Unmoved old new
  nothing_moved = unmoved_twice old mid new opened checked

-- ---- the whole

module _ {K D M B : Type 0} (ports : Ports K D M B) (g : Devices K D B) (done : Done K D B) (disk : D) (is : done.disk ≡ disk) (still : Unmoved (ports.story g.disk) (ports.story disk)) where
  pub check_failed : (e : OpenError) → HasReason (ports.story g.disk) (ports.story disk) e → (e ≡ open_error.RunsFull → ⊥) → ((e ≡ open_error.Fault → ⊥) → HasSameCounts (ports.story g.disk) (ports.story disk))
      → Ended ports g done (open_status e) (open_line e) → EndsCheck ports g done
  check_failed e reason other quiet ended =
      inl (e, other, (subst (λ d. IsUnread (ports.story g.disk) (ports.story d) e) (sym is) (record { reason = reason; quiet = quiet; unmoved = still }), ended))

  pub check_decided : HasSameCounts (ports.story g.disk) (ports.story disk) → (c : Catalog) (fault : Option Fault) → ReadsAs (ports.story g.disk) c → IsFirstFault (ports.story g.disk) c fault
      → Ended ports g done (verdict_status fault) (verdict_line fault) → EndsCheck ports g done
  check_decided quiet c fault reads first ended = inr (
    c,
    fault,
    record {
      reads = reads;
      first = first;
      quiet = subst (λ d. HasSameCounts (ports.story g.disk) (ports.story d)) (sym is) quiet;
      unmoved = subst (λ d. Unmoved (ports.story g.disk) (ports.story d)) (sym is) still;
      ended = ended;
    },
  )
