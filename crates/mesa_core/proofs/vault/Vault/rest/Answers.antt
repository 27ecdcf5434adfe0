use Rattle.std.proofs.Common.{◌≡◌, ◌<◌, inl, sym, ap, ◌∙◌, subst, true, Ok, [], refl, true≢false, arith}
use Rattle.mesa_core.specs.Recasts.{known_recast}
use Rattle.mesa_core.specs.Works.{WasGranted}
use Rattle.mesa_recast_turns.specs.mesa_file_records.Grown.{HasBecome}
use Rattle.mesa_engine.specs.Engine.{Standing}
use Rattle.mesa_engine.specs.EngineState.{EngineState}
use Rattle.mesa_recast_turns.specs.mesa_history_spec.Rows.{no_rows}
use Rattle.mesa_open_files.specs.Recasts.{recast_table, recast_in}
use Rattle.mesa_recast_turns.specs.Rested.{MayRest}
use Rattle.mesa_recast_turns.specs.mesa_invariant_spec.Turns.{Shown, SomeRose}
use Rattle.mesa_core.specs.Handing.{AllAreRested, IsRecastGranted, IsRecastHeld}
use Rattle.mesa_core.specs.Vault.{Stand}
use Rattle.mesa_core.proofs.RecastHeld.{held_longer, rested_known}
use Rattle.mesa_core.proofs.Catalogue.{counted_is, lineage_is}
use Rattle.mesa_recast_turns.proofs.Further.{known_none}
use Rattle.mesa_recast_turns.proofs.mesa_copy.Rewriting.{rewritten_all}
use Rattle.mesa_recast_turns.specs.mesa_schema.Changes.{columns_of}
use Rattle.mesa_core.proofs.vault.Vault.rest.Goals as goal

pub held-requires-clause-granted : goal.held-requires-clause-granted
held-requires-clause-granted g c κs within =
    let N = g.N.Naming in
    let read = g.D.Reader.FileReader.bytes in
    inl (subst (λ (s : Stand). WasGranted (IsRecastGranted read N.script N.start N.origin N.sound) s.shown.history (known_recast read c.args.task)) (sym c.self.view_is) c.requires.granted)

-- ---- the sink has failed

pub returns-then-not-running-clause-faults : goal.returns-then-not-running-clause-faults
returns-then-not-running-clause-faults g c = record { calls = omega arith; reads = omega arith }

pub returns-then-not-running-clause-stays : goal.returns-then-not-running-clause-stays
returns-then-not-running-clause-stays g c none = (refl, refl)

pub returns-then-not-running-clause-longer : goal.returns-then-not-running-clause-longer
returns-then-not-running-clause-longer g c =
    record { table = refl; lease = refl; epoch = refl; evolving = refl; keys = refl; values = refl; more = []; ranges = known_none g.D.Reader.FileReader.bytes c.args.task.ranges.items }

pub returns-then-not-running-clause-begun : goal.returns-then-not-running-clause-begun
returns-then-not-running-clause-begun g c made are =
    let t = c.args.task in
    rewritten_all g.M.Made.bytes g.M.Made.id_of g.D.Reader.FileReader.bytes (columns_of (recast_table t)) (recast_in t) t.ranges.items made.ranges.items are

pub returns-then-not-running-clause-task : goal.returns-then-not-running-clause-task
returns-then-not-running-clause-task g c = c.requires.task

pub returns-then-not-running-clause-held : goal.returns-then-not-running-clause-held
returns-then-not-running-clause-held g c =
    let N = g.N.Naming in
    let read = g.D.Reader.FileReader.bytes in
    subst (λ (s : Stand). IsRecastHeld read N.script N.start N.origin N.sound s.shown.history (known_recast read c.args.task)) c.self.view_is c.held.ensures

pub returns-then-not-running-clause-rested : goal.returns-then-not-running-clause-rested
returns-then-not-running-clause-rested g c on whole = absurd (true≢false (sym on ∙ sym (ap (λ (s : Stand). s.shown.running) c.self.view_is) ∙ sym c.running.ensures ∙ c.if-not-running.true))

-- ---- it hasn't

pub rest-found-requires-clause-there : goal.rest-found-requires-clause-there
rest-found-requires-clause-there g c κs within =
    let N = g.N.Naming in
    let now = c.self.inside.engine in
    subst (λ n. c.args.task.table < n) (sym (counted_is N.script N.start (N.origin no_rows).generation now.shown.history now.state.catalogue c.catalogue.ensures)) c.held.ensures.there

pub rest-found-requires-clause-grown : goal.rest-found-requires-clause-grown
rest-found-requires-clause-grown g c κs within =
    let N = g.N.Naming in
    let now = c.self.inside.engine in
    subst (HasBecome (recast_table c.args.task)) (sym (lineage_is N.script N.start (N.origin no_rows).generation now.shown.history now.state.catalogue c.catalogue.ensures c.args.task.table)) c.held.ensures.become

pub returns-clause-task : goal.returns-clause-task
returns-clause-task g c = record { task = c.rest-found.ensures.kept; damage = c.rest-found.ensures.differs }

pub returns-in-Err-clause-task : goal.returns-in-Err-clause-task
returns-in-Err-clause-task g c = record { task = c.rest-found.ensures.kept; damage = c.rest-found.ensures.differs }

pub returns-clause-held : goal.returns-clause-held
returns-clause-held g c =
    let N = g.N.Naming in
    let read = g.D.Reader.FileReader.bytes in
    let e = c.rest-found.ensures in
    let now = c.rest-found.new.task in
    subst (λ (s : Shown). IsRecastHeld read N.script N.start N.origin N.sound s.history (known_recast read now)) (sym e.shown)
    (held_longer read N.script N.start N.origin N.sound c.self.inside.engine.shown.history c.args.task now e.longer c.held.ensures e.whole e.bounded e.ranges c.recasts_are_known.ensures.ranges c.recasts_are_known.ensures.bounded)

pub returns-in-Err-clause-held : goal.returns-in-Err-clause-held
returns-in-Err-clause-held g c =
    let N = g.N.Naming in
    let read = g.D.Reader.FileReader.bytes in
    let e = c.rest-found.ensures in
    let now = c.rest-found.new.task in
    subst (λ (s : Shown). IsRecastHeld read N.script N.start N.origin N.sound s.history (known_recast read now)) (sym e.shown)
    (held_longer read N.script N.start N.origin N.sound c.self.inside.engine.shown.history c.args.task now e.longer c.held.ensures e.whole e.bounded e.ranges c.recasts_are_known.ensures.ranges c.recasts_are_known.ensures.bounded)

pub returns-clause-rested : goal.returns-clause-rested
returns-clause-rested g c runs whole =
    let N = g.N.Naming in
    let read = g.D.Reader.FileReader.bytes in
    let e = c.rest-found.ensures in
    let now = c.self.inside.engine in
    let t = c.args.task in
    subst (λ (l : EngineState). AllAreRested read l (known_recast read c.rest-found.new.task)) (sym e.state)
    (rested_known read now.state t c.rest-found.new.task e.longer
    (subst (HasBecome (recast_table t)) (sym (lineage_is N.script N.start (N.origin no_rows).generation now.shown.history now.state.catalogue c.catalogue.ensures t.table)) c.held.ensures.become)
    (λ opened same. c.in-Ok.ensures.holds opened whole same) c.recasts_are_known.ensures.holds)

-- ---- a fault, and nothing more to open

pub returns-in-Err-clause-cause : goal.returns-in-Err-clause-cause
returns-in-Err-clause-cause g c is = subst (λ (s : Stand). SomeRose s.faults c.rest-found.new.engine.faults) c.self.view_is (c.in-Err.ensures.cause is)

pub returns-clause-stays : goal.returns-clause-stays
returns-clause-stays g c none =
    let never = subst (λ (x : Stand). (x.shown.running ≡ true) → MayRest x.state c.args.task → ⊥) (sym c.self.view_is) none in
    let so = c.rest-found.ensures.stays (never (sym c.running.ensures ∙ c.if-not-running.false)) in
    (ap Ok so.1, ap (λ (s : Standing). s.faults) so.2 ∙ ap (λ (s : Stand). s.faults) c.self.view_is)

pub returns-in-Err-clause-stays : goal.returns-in-Err-clause-stays
returns-in-Err-clause-stays g c none =
    let never = subst (λ (x : Stand). (x.shown.running ≡ true) → MayRest x.state c.args.task → ⊥) (sym c.self.view_is) none in
    let so = c.rest-found.ensures.stays (never (sym c.running.ensures ∙ c.if-not-running.false)) in
    let went = so.0 in
    let failed = c.in-Err.is in
    absurd cc
