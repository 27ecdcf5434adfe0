-- Turns of commands that aren't queries: each goes on, or prints a line and finishes its command.
use Rattle.std.proofs.Common.{◌≡◌, ℕ, ◌+◌, List, [], ◌∷◌, Bool, true, false, refl, sym, subst, Option, Some, None, Result, Ok, Err}
use Rattle.std.specs.Prelude.{⊤, codes, decimal, ◌++◌}
use Rattle.mesa_invariant_spec.specs.mesa_list.Checks.{refuse_unless}
use Rattle.mesa_invariant_spec.specs.mesa_span.declared.works.Work.{Work}
use Rattle.mesa_invariant_spec.specs.mesa_span.declared.works.Work.TheVariants as work
use Rattle.mesa_model.specs.declared.commands.Command.{Command}
use Rattle.mesa_model.specs.declared.commands.Command.TheVariants as command
use Rattle.mesa_model.specs.declared.entries.Entry.{Entry}
use Rattle.mesa_model.specs.declared.entries.Kind.{Kind}
use Rattle.mesa_model.specs.declared.entries.Kind.TheVariants as kind
use Rattle.mesa_model.specs.declared.entries.Outcome.{Outcome}
use Rattle.mesa_model.specs.declared.entries.Outcome.TheVariants as outcome
use Rattle.mesa_model.specs.declared.replies.Refusal.{Refusal}
use Rattle.mesa_model.specs.declared.replies.Refusal.TheVariants as no
use Rattle.mesa_model.specs.declared.replies.Reply.{Reply}
use Rattle.mesa_model.specs.declared.replies.Reply.TheVariants as reply
use Rattle.mesa_model.specs.Refusals.{refuse_closed}
use Rattle.mesa_model.specs.Warehouse.{newest_of, table_at}
use Rattle.mesa_model.specs.Relations.{table_number}
use Rattle.mesa_invariant_spec.specs.mesa_span.Work.{next_work}
use Rattle.mesa_invariant_spec.specs.mesa_history_spec.Machine.{Claim, Errand, Merges, Recasts, claim_checked, claim_of, ranges_at, refuse_busy, swapped_reply}
use Rattle.mesa_invariant_spec.specs.mesa_history_spec.Replay.{Turned, claim_asked, closed_if, closed_off, closes, completes, decide, does, grants, refused_turn, refuses, renews, some_damage, standing, turn_of}
use Rattle.mesa_invariant_spec.specs.mesa_history_spec.Run.{Answered, CutOff, Finished, First, Granted, Looked, Renewed, Run, Stage, State, Told}
use Rattle.mesa_invariant_spec.specs.mesa_lease.Book.{holder, other_holder}
use Rattle.mesa_generate.specs.Excerpt.{HasPlainNames, is_unasked}
use Rattle.mesa_generate.proofs.Blocks.{damage_unbroken}
use Rattle.mesa_generate.proofs.Breaks.{decimal_unbroken, unbroken_both}
use Rattle.mesa_generate.proofs.Checks.{on_check, on_other_check, on_some}
use Rattle.mesa_generate.proofs.Short.{IsShort, IsShortRefusal, closed_short, expire_does, load_does, nothing_does, refused_short, table_does, two_numbers, view_does}

-- a claim for a work
abbrev IsMerge : Errand → Type 0
IsMerge (Merges w) = ⊤
IsMerge (Recasts epoch r) = ⊥

-- a command that isn't finished, and is no query that was answered nor a recast that was granted
abbrev pub GoesOn : Stage → Type 0
GoesOn First = ⊤
GoesOn Looked = ⊤
GoesOn (Answered at answer) = ⊥
GoesOn (Granted claim) = IsMerge claim.errand
GoesOn (Renewed claim) = IsMerge claim.errand
GoesOn Finished = ⊥
GoesOn CutOff = ⊤

-- a turn that prints finishes its command with a short reply, and one that doesn't goes on
abbrev pub IsTurn : Option Told → Stage → Type 0
IsTurn None stage = GoesOn stage
IsTurn (Some told) stage = (stage ≡ Finished) × IsShort told.reply

-- it leaves names without a line break
pub record Good (t : Turned) : Type 0 where
  pub names : HasPlainNames t.state.warehouse.store
  pub turn : IsTurn t.told t.stage

module _ (position : ℕ) (s : State) (plain : HasPlainNames s.warehouse.store) where
  refusing : (at : ℕ) (other : State) → other.warehouse.store ≡ s.warehouse.store → (e : Refusal) → IsShortRefusal e → Good (refuses at other e)
  refusing at other same e is = record { names = subst HasPlainNames (sym same) plain; turn = (refl, refused_short e is) }

  decides : (session : ℕ) (c : Command) → is_unasked c ≡ true → Good (decide position s session c)
  decides session (command.Table words) is = let d = table_does s.warehouse plain words in record { names = d.names; turn = (refl, d.short) }
  decides session (command.View words) is = let d = view_does s.warehouse plain words in record { names = d.names; turn = (refl, d.short) }
  decides session (command.Load rows) is = let d = load_does s.warehouse plain rows in record { names = d.names; turn = (refl, d.short) }
  decides session (command.Expire table version) is = let d = expire_does s.warehouse plain table version in record { names = d.names; turn = (refl, d.short) }
  decides session (command.Work words) is = let d = nothing_does s.warehouse plain in record { names = d.names; turn = (refl, d.short) }
  decides session (command.Alter words) is = absurd cc
  decides session (command.Query words) is = absurd cc
  decides session (command.Explain words) is = absurd cc
  decides session (command.Pin version) is = absurd cc
  decides session (command.Release token) is = absurd cc
  decides session (command.Recast words) is = absurd cc

  -- ---- works

  record Grants (r : Result Claim Reply) : Type 0 where
    good : Good (grants position s r)

  ungranted : (r : Reply) → IsShort r → Grants (Err r)
  ungranted r is = record { good = record { names = plain; turn = (refl, is) } }

  busy : (o : Option ℕ) (e : Reply) → refuse_busy o ≡ Err e → IsShort e
  busy None e is = absurd cc
  busy (Some lease) e is = (let same : reply.Busy lease ≡ e = cc in subst IsShort same (record { text = decimal_unbroken lease; body = λ heading. refl; unpaged = refl }))

  granted : (name : List ℕ) → Good (grants position s (claim_of s.warehouse s.machine position name))
  granted name =
      let all : Grants (claim_of s.warehouse s.machine position name) =
      on_other_check Grants reply.Refused (refuse_closed s.warehouse.closed) _ (λ e is. ungranted (reply.Refused e) (refused_short e (closed_short s.warehouse.closed e is))) (
      on_some Grants (table_number s.warehouse.store name) _ _ (ungranted _ (refused_short (no.NoTable None) refl)) (λ table found.
      on_check Grants (refuse_busy (holder s.machine.leases table position)) _ (λ e is. ungranted e (busy (holder s.machine.leases table position) e is)) (
      on_some Grants (next_work (ranges_at s.machine table) (table_at s.warehouse.store table).oldest (newest_of s.warehouse)) reply.Idle (λ w. Ok (record { table = table; lease = s.machine.leases.granted + 1; errand = Merges w }))
      (ungranted reply.Idle (record { text = refl; body = λ heading. refl; unpaged = refl })) (λ w due. record { good = record { names = plain; turn = tt } })))) in
      all.good

  asked : (c : Command) → is_unasked c ≡ true → Good (grants position s (claim_asked s.warehouse s.machine position c))
  asked (command.Table words) is = granted []
  asked (command.View words) is = granted []
  asked (command.Load rows) is = granted []
  asked (command.Expire table version) is = granted []
  asked (command.Work words) is = granted words.table
  asked (command.Alter words) is = absurd cc
  asked (command.Query words) is = absurd cc
  asked (command.Explain words) is = absurd cc
  asked (command.Pin version) is = absurd cc
  asked (command.Release token) is = absurd cc
  asked (command.Recast words) is = absurd cc

  lost_short : (lease : ℕ) (o : Option ℕ) → IsShortRefusal (no.Lost lease o)
  lost_short lease None = unbroken_both (decimal lease ++ codes " holder=") (codes "none") (unbroken_both (decimal lease) (codes " holder=") (decimal_unbroken lease) refl) refl
  lost_short lease (Some n) = two_numbers [] _ lease n refl refl

  -- what a claim's checks refuse
  record Claims (r : Result (Unit {0}) Refusal) : Type 0 where
    short : (e : Refusal) → r ≡ Err e → IsShortRefusal e

  claims : (claim : Claim) → Claims (claim_checked s.warehouse s.machine position claim)
  claims claim = on_check Claims (refuse_closed s.warehouse.closed) _ (λ e is. one e (closed_short s.warehouse.closed e is)) (held _)
    where
      one : (e : Refusal) → IsShortRefusal e → Claims (Err e)
      one e is = record { short = λ other same. (let it : e ≡ other = cc in subst IsShortRefusal it is) }

      held : (b : Bool) → Claims (refuse_unless b (no.Lost claim.lease (other_holder s.machine.leases claim.table claim.lease position)))
      held true = record { short = λ e is. absurd cc }
      held false = one _ (lost_short claim.lease (other_holder s.machine.leases claim.table claim.lease position))

  renewed : (claim : Claim) (r : Result (Unit {0}) Refusal) → IsMerge claim.errand → Claims r → Good (renews position s claim r)
  renewed claim (Ok ok) merge is = record { names = plain; turn = merge }
  renewed claim (Err e) merge is = refusing position s refl e (is.short e refl)

  swapped : (w : Work) → IsShort (swapped_reply w)
  swapped (work.Base to) = record { text = unbroken_both (decimal 0) (32 ∷ decimal to) (decimal_unbroken 0) (decimal_unbroken to); body = λ heading. refl; unpaged = refl }
  swapped (work.Cumulative from to) = record { text = unbroken_both (decimal from) (32 ∷ decimal to) (decimal_unbroken from) (decimal_unbroken to); body = λ heading. refl; unpaged = refl }

  done : (claim : Claim) (errand : Errand) → IsMerge errand → Good (does position s claim errand)
  done claim (Merges w) merge = record { names = plain; turn = (refl, swapped w) }
  done claim (Recasts epoch r) merge = absurd merge

  completed : (claim : Claim) (r : Result (Unit {0}) Refusal) → IsMerge claim.errand → Claims r → Good (completes position s claim r)
  completed claim (Ok ok) merge is = done claim claim.errand merge
  completed claim (Err e) merge is = refusing position s refl e (is.short e refl)

  -- ---- turns that stand, and turns that are refused

  stands : (session : ℕ) (c : Command) → is_unasked c ≡ true → (k : Kind) (stage : Stage) → GoesOn stage → Good (standing position s session c k stage)
  stands session c is kind.Look stage on = record { names = plain; turn = tt }
  stands session c is kind.Decide stage on = decides session c is
  stands session c is kind.Grant stage on = asked c is
  stands session c is kind.Renew First on = record { names = plain; turn = tt }
  stands session c is kind.Renew Looked on = record { names = plain; turn = tt }
  stands session c is kind.Renew (Answered at answer) on = absurd on
  stands session c is kind.Renew (Granted claim) on = renewed claim (claim_checked s.warehouse s.machine position claim) on (claims claim)
  stands session c is kind.Renew (Renewed claim) on = record { names = plain; turn = on }
  stands session c is kind.Renew Finished on = absurd on
  stands session c is kind.Renew CutOff on = record { names = plain; turn = tt }
  stands session c is kind.Close First on = record { names = plain; turn = tt }
  stands session c is kind.Close Looked on = record { names = plain; turn = tt }
  stands session c is kind.Close (Answered at answer) on = absurd on
  stands session c is kind.Close (Granted claim) on = completed claim (claim_checked s.warehouse s.machine position claim) on (claims claim)
  stands session c is kind.Close (Renewed claim) on = completed claim (claim_checked s.warehouse s.machine position claim) on (claims claim)
  stands session c is kind.Close Finished on = absurd on
  stands session c is kind.Close CutOff on = record { names = plain; turn = tt }

  off : (stage : Stage) → (closed_off s stage).warehouse.store ≡ s.warehouse.store
  off First = refl
  off Looked = refl
  off (Answered at answer) = refl
  off (Granted claim) = refl
  off (Renewed claim) = refl
  off Finished = refl
  off CutOff = refl

  refuses_turn : (k : Kind) (stage : Stage) (e : Refusal) → IsShortRefusal e → Good (refused_turn position s k stage e)
  refuses_turn kind.Look stage e is = record { names = plain; turn = tt }
  refuses_turn kind.Decide stage e is = refusing position s refl e is
  refuses_turn kind.Close stage e is = refusing _ (closed_off s stage) (off stage) e is
  refuses_turn kind.Grant stage e is = refusing position s refl e is
  refuses_turn kind.Renew stage e is = refusing position s refl e is

closing_plain : (closing : Bool) (position : ℕ) (s : State) → HasPlainNames s.warehouse.store → HasPlainNames (closed_if closing position s).warehouse.store
closing_plain true position s plain = plain
closing_plain false position s plain = plain

-- A turn of a command that isn't a query.
pub turn_good : (r : Run) (c : Command) (e : Entry) (stage : Stage) (o : Outcome) → HasPlainNames r.state.warehouse.store → is_unasked c ≡ true → GoesOn stage → Good (turn_of r c e stage o)
turn_good r c e stage outcome.Stands plain is on = stands r.position r.state plain e.session c is e.kind stage on
turn_good r c e stage outcome.Memory plain is on = refuses_turn r.position r.state plain e.kind stage no.Memory refl
turn_good r c e stage outcome.ReadFault plain is on = refuses_turn r.position r.state plain e.kind stage no.ReadFault refl
turn_good r c e stage outcome.WriteFault plain is on =
    refuses_turn r.position (closed_if (closes r.moment e) r.position r.state) (closing_plain (closes r.moment e) r.position r.state plain) e.kind stage no.WriteFault refl
turn_good r c e stage outcome.Damaged plain is on = refuses_turn r.position r.state plain e.kind stage (no.Damaged some_damage) (damage_unbroken some_damage)
turn_good r c e stage outcome.Skipped plain is on = record { names = plain; turn = tt }
