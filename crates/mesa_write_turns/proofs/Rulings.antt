-- What the rules decide, told of a vault's books; and where a turn that decides takes its session.
use Rattle.std.proofs.Common.{◌≡◌, ℕ, ◌<◌, ◌^◌, List, [], ◌∷◌, ◌++◌, map, true, false, not, refl, sym, ◌∙◌, ap, subst, arith, Option, None, Some, Err}
use Rattle.std.specs.Prelude.{Result, Vec}
use Rattle.std.specs.List.{AllByRecursion}
use Rattle.std.specs.declared.alloc.Global.{Global}
use Rattle.std.proofs.lemmas.Simd.{map-map}
use Rattle.mesa_file_records.specs.mesa_list.Checks.{◌>>◌}
use Rattle.mesa_engine.specs.mesa_commit.Turn.{told_files}
use Rattle.mesa_disk.specs.declared.moving.Adoption.{Adoption}
use Rattle.mesa_engine.specs.mesa_binding.declared.failure.Failure.{Failure as Unruled}
use Rattle.mesa_engine.specs.mesa_binding.declared.failure.Failure.TheVariants as unruled
use Rattle.mesa_model.specs.declared.commands.Command.{Command}
use Rattle.mesa_model.specs.declared.commands.Command.TheVariants as command
use Rattle.mesa_model.specs.declared.commands.Script.{Script}
use Rattle.mesa_model.specs.declared.entries.Kind.TheVariants as kind
use Rattle.mesa_model.specs.declared.entries.Outcome.{Outcome}
use Rattle.mesa_model.specs.declared.replies.Refusal.{Refusal}
use Rattle.mesa_model.specs.declared.replies.Refusal.TheVariants as no
use Rattle.mesa_model.specs.declared.replies.Reply.{Reply}
use Rattle.mesa_model.specs.Refusals.{refuse_closed}
use Rattle.mesa_model.specs.Warehouse.{Table}
use Rattle.mesa_file_records.specs.mesa_history_spec.Legal.{is_release}
use Rattle.mesa_file_records.specs.mesa_history_spec.Replay.{is_skip, no_rows as no_lines}
use Rattle.mesa_file_records.specs.mesa_history_spec.Run.{State, First, Finished}
use Rattle.mesa_file_records.specs.mesa_history_spec.Turns.{IsDue}
use Rattle.mesa_record.specs.declared.record.Record.{Record}
use Rattle.mesa_engine.specs.mesa_store_spec.Fitting.{brought, live_id}
use Rattle.mesa_engine.specs.mesa_store_spec.Sound.{IsTold, wants}
use Rattle.mesa_engine.specs.mesa_script.Rows.{body_of}
use Rattle.mesa_validate.specs.declared.ruled.Ruled.{Ruled}
use Rattle.mesa_validate.specs.Ruled.{IsRuled, IsRefused as IsUnruled}
use Rattle.mesa_validate.specs.Seen.{HasCatalog, known_of}
use Rattle.mesa_file_records.specs.mesa_history_spec.Rows.{Rows, no_rows}
use Rattle.mesa_engine.specs.mesa_invariant_spec.Causes.{NoMemory}
use Rattle.mesa_engine.specs.mesa_invariant_spec.Changes.{Doing, HasFailed}
use Rattle.mesa_engine.specs.mesa_invariant_spec.Turns.{Shown, IsSeen, Takes, entry}
use Rattle.mesa_engine.specs.mesa_invariant_spec.Invariant.{run_at}
use Rattle.mesa_engine.proofs.mesa_invariant_spec.Going.{publish_takes, simple_takes}
use Rattle.mesa_engine.specs.EngineState.{EngineState, books_of, projection_of}
use Rattle.mesa_engine.specs.Failure.{cause_in, told_as}
use Rattle.mesa_engine.specs.Failing.{HasNotDone, deciding_kind, deciding_stage}
use Rattle.mesa_write_turns.specs.Ruling.{IsAllowed, IsRefused}
use Rattle.mesa_write_turns.specs.Writing.{Brings, CanWrite, Does, HasRecord}

-- ---- the rules

module _ (l : EngineState) (opened : l.closed ≡ None) where
  -- the warehouse without rows has the catalogue
  has_catalog : HasCatalog l.catalogue (books_of no_rows l).bare
  has_catalog = record { opened = opened; tables = map-map known_of projection_of l.catalogue.tables; oldests = map-map (λ (t : Table). t.oldest) projection_of l.catalogue.tables; floor = refl; next = refl }

  pub rules_do : (f : Doing) (r : Ruled) → IsRuled l.catalogue f r → Does l f r.tells
  rules_do f r is = let does = is.does (books_of no_rows l).bare has_catalog in record { after = does.0; is = does.1 }

  pub rules_refuse_now : (c : Command) (f : Doing) (x : Refusal) → ((w : _) → HasCatalog l.catalogue w → f w ≡ Err x) → f (books_of no_rows l).bare ≡ Err x
  rules_refuse_now c f x is = is (books_of no_rows l).bare has_catalog

  -- where the rules refuse, so do the books
  pub rules_told : (c : Command) (f : Doing) (why : Unruled) → is_release c ≡ false → IsUnruled l.catalogue f why
      → ((position session : ℕ) → HasFailed (books_of no_rows l) c f (cause_in (told_as why)) → HasNotDone (books_of no_rows l) position session c (cause_in (told_as why))) → IsRefused l c (told_as why)
  rules_told c f (unruled.Refused refusal) other is also = record { failed = λ position session. also position session (refusal, is (books_of no_rows l).bare has_catalog, refl); quiet = refl }
  rules_told c f unruled.Memory other is also = record { failed = λ position session. also position session (opened, other); quiet = refl }

-- whatever comes behind it, a closed vault refuses
pub closed_refuses : {A : Type 0} (closed : Option ℕ) (position : ℕ) (rest : Result A Refusal) → closed ≡ Some position → (refuse_closed closed >> rest) ≡ Err (no.Closed position)
closed_refuses closed position rest is = ap (λ o. refuse_closed o >> rest) is

-- ---- commands that write

pub writes_decide : (l : EngineState) (later : Rows → Rows) (c : Command) (r : Record) (rep : Reply) → HasRecord l later c r rep → kind.Decide ≡ deciding_kind c
writes_decide l later (command.Table words) r rep has = refl
writes_decide l later (command.View words) r rep has = refl
writes_decide l later (command.Alter words) r rep has = refl
writes_decide l later (command.Load words) r rep has = refl
writes_decide l later (command.Expire table version) r rep has = refl
writes_decide l later (command.Query words) r rep has = absurd has
writes_decide l later (command.Explain words) r rep has = absurd has
writes_decide l later (command.Pin asked) r rep has = absurd has
writes_decide l later (command.Release token) r rep has = absurd has
writes_decide l later (command.Work words) r rep has = absurd has
writes_decide l later (command.Recast words) r rep has = absurd has

-- there may be no memory for one
pub writes_starve : (l : EngineState) (later : Rows → Rows) (c : Command) (r : Record) (rep : Reply) (position session : ℕ) → l.closed ≡ None → HasRecord l later c r rep → HasNotDone (books_of no_rows l) position session c NoMemory
writes_starve l later (command.Table words) r rep position session opened has = (opened, refl)
writes_starve l later (command.View words) r rep position session opened has = (opened, refl)
writes_starve l later (command.Alter words) r rep position session opened has = (opened, refl)
writes_starve l later (command.Load words) r rep position session opened has = (opened, refl)
writes_starve l later (command.Expire table version) r rep position session opened has = (opened, refl)
writes_starve l later (command.Query words) r rep position session opened has = absurd has
writes_starve l later (command.Explain words) r rep position session opened has = absurd has
writes_starve l later (command.Pin asked) r rep position session opened has = absurd has
writes_starve l later (command.Release token) r rep position session opened has = absurd has
writes_starve l later (command.Work words) r rep position session opened has = absurd has
writes_starve l later (command.Recast words) r rep position session opened has = absurd has

-- its reply is printed as a head line alone
pub writes_print : (l : EngineState) (later : Rows → Rows) (c : Command) (r : Record) (rep : Reply) → HasRecord l later c r rep → [] ≡ body_of no_lines rep
writes_print l later (command.Table words) r rep has = ap (body_of no_lines) (sym has.1)
writes_print l later (command.View words) r rep has = ap (body_of no_lines) (sym has.3)
writes_print l later (command.Alter words) r rep has = ap (body_of no_lines) (sym has.5)
writes_print l later (command.Load words) r rep has = ap (body_of no_lines) (sym has.5)
writes_print l later (command.Expire None version) r rep has = ap (body_of no_lines) (sym has.1)
writes_print l later (command.Expire (Some name) version) r rep has = ap (body_of no_lines) (sym has.3)
writes_print l later (command.Query words) r rep has = absurd has
writes_print l later (command.Explain words) r rep has = absurd has
writes_print l later (command.Pin asked) r rep has = absurd has
writes_print l later (command.Release token) r rep has = absurd has
writes_print l later (command.Work words) r rep has = absurd has
writes_print l later (command.Recast words) r rep has = absurd has

-- one that isn't a load brings no files
pub nothing_brought : (l : EngineState) (later : Rows → Rows) (c : Command) (r : Record) (rep : Reply) → deciding_stage c ≡ First → HasRecord l later c r rep → brought l.catalogue r ≡ []
nothing_brought l later (command.Table words) r rep simple has = ap (brought l.catalogue) has.0
nothing_brought l later (command.View words) r rep simple has = ap (brought l.catalogue) has.2
nothing_brought l later (command.Alter words) r rep simple has = ap (brought l.catalogue) has.4
nothing_brought l later (command.Load words) r rep simple has = cc
nothing_brought l later (command.Expire None version) r rep simple has = ap (brought l.catalogue) has.0
nothing_brought l later (command.Expire (Some name) version) r rep simple has = ap (brought l.catalogue) has.2
nothing_brought l later (command.Query words) r rep simple has = absurd has
nothing_brought l later (command.Explain words) r rep simple has = absurd has
nothing_brought l later (command.Pin asked) r rep simple has = absurd has
nothing_brought l later (command.Release token) r rep simple has = absurd has
nothing_brought l later (command.Work words) r rep simple has = absurd has
nothing_brought l later (command.Recast words) r rep simple has = absurd has

-- What the rules allow of a command that brings no files can be written.
pub allowed_writes : {M : Type 0} (bytes : M → Option (List ℕ)) (l : EngineState) (c : Command) (r : Ruled) (made : Vec (Adoption M) Global) (adopted : ℕ) → deciding_stage c ≡ First → IsAllowed l c r → made.items ≡ [] → adopted ≡ l.adopted → adopted < 2 ^ 40
    → CanWrite bytes l c (record { writes = r.writes; made = made; adopted = adopted; tells = r.tells })
allowed_writes bytes l c r made adopted simple is empty count few =
    let none = nothing_brought l (λ rows. rows) c r.writes r.tells simple is.does in
    record {
      opened = is.opened;
      rules = is.rules;
      fit = is.fit;
      later = λ rows. rows;
      brings = subst (λ ms. Brings bytes l r.writes (λ rows. rows) ms adopted) (sym empty) (record {
        told = λ rows. subst (AllByRecursion (IsTold rows)) (sym none) tt;
        agree = λ rows id lt. refl;
        files = λ rows all. ap (λ xs. told_files (wants rows xs)) (sym none);
        ids = ap (map live_id) (sym none);
        distinct = tt;
        adopts = record { given = tt; more = omega (arith, count); few = omega (arith, count) };
        few = few;
      });
      does = is.does;
    }

-- ---- its session's command is over

module _ (script : Script) (start : State) (old new : Shown) (s n : ℕ) (ran : old.running ≡ true) (l : EngineState) (later : Rows → Rows) (r : Record) (rep : Reply) (out : Outcome) (done : is_skip out ≡ false)
    (grew : new.history ≡ old.history ++ entry s n kind.Decide out new.clock ∷ []) (seen : IsSeen script start new) where
  pub writes_take : (c : Command) → HasRecord l later c r rep → IsDue script (run_at script start old.history) s n c (deciding_stage c) → Takes script start old new s n kind.Decide Finished
  writes_take (command.Load words) has due = publish_takes script start old new s n (record { asked = command.Load words; is = refl; due = due }) (record { outcome = out; grew = grew; skipped = done ∙ ap not (sym ran); still = λ on. ran }) seen
  writes_take (command.Table words) has due = simple_takes script start old new s n (record { asked = command.Table words; is = refl; due = due }) (record { outcome = out; grew = grew; skipped = done ∙ ap not (sym ran); still = λ on. ran }) seen
  writes_take (command.View words) has due = simple_takes script start old new s n (record { asked = command.View words; is = refl; due = due }) (record { outcome = out; grew = grew; skipped = done ∙ ap not (sym ran); still = λ on. ran }) seen
  writes_take (command.Alter words) has due = simple_takes script start old new s n (record { asked = command.Alter words; is = refl; due = due }) (record { outcome = out; grew = grew; skipped = done ∙ ap not (sym ran); still = λ on. ran }) seen
  writes_take (command.Expire table version) has due = simple_takes script start old new s n (record { asked = command.Expire table version; is = refl; due = due }) (record { outcome = out; grew = grew; skipped = done ∙ ap not (sym ran); still = λ on. ran }) seen
  writes_take (command.Query words) has due = absurd has
  writes_take (command.Explain words) has due = absurd has
  writes_take (command.Pin asked) has due = absurd has
  writes_take (command.Release token) has due = absurd has
  writes_take (command.Work words) has due = absurd has
  writes_take (command.Recast words) has due = absurd has
