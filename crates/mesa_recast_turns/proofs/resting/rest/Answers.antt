use Rattle.std.proofs.Common.{◌≡◌, inl, inr, ◌<◌, length, true, false, refl, sym, ◌∙◌, ap, subst, arith, [], Err}
use Rattle.mesa_engine.specs.mesa_store_spec.Catalog.{meta_at}
use Rattle.mesa_work_turns.specs.mesa_schema.Changes.{columns_of}
use Rattle.mesa_work_turns.specs.mesa_history_spec.Rows.{Rows}
use Rattle.mesa_open_files.specs.Recasts.{recast_in, recast_table}
use Rattle.mesa_delta.specs.declared.error.FileError.TheVariants as file_error
use Rattle.mesa_engine.specs.Engine.{Standing}
use Rattle.mesa_engine.specs.Written.{written_at}
use Rattle.mesa_work_turns.specs.mesa_copy.Copying.{known_ranges}
use Rattle.mesa_work_turns.proofs.mesa_copy.Rewriting.{rewritten_all}
use Rattle.mesa_work_turns.proofs.mesa_file_records.Becoming.{same_columns as become_same}
use Rattle.mesa_recast_turns.specs.Rested.{MayRest}
use Rattle.mesa_recast_turns.proofs.Further.{further_begun, further_bounded, further_known, further_of, further_sourced, known_none}
use Rattle.mesa_recast_turns.proofs.resting.rest.Goals as goal

-- ---- none are opened

pub may_rest-requires : goal.may_rest-requires
may_rest-requires g c = subst (λ (x : Standing). c.args.task.now.table < length x.state.catalogue.tables) (sym c.engine.view_is) c.requires.there

pub returns-then-not-may_rest-clause-faults : goal.returns-then-not-may_rest-clause-faults
returns-then-not-may_rest-clause-faults g c = record { calls = omega arith; reads = omega arith }

pub returns-then-not-may_rest-clause-longer : goal.returns-then-not-may_rest-clause-longer
returns-then-not-may_rest-clause-longer g c =
    record { table = refl; lease = refl; epoch = refl; evolving = refl; keys = refl; values = refl; more = []; ranges = known_none g.D.Reader.FileReader.bytes c.args.task.now.ranges.items }

pub returns-then-not-may_rest-clause-begun : goal.returns-then-not-may_rest-clause-begun
returns-then-not-may_rest-clause-begun g c made are =
    rewritten_all g.M.Made.bytes g.M.Made.id_of g.D.Reader.FileReader.bytes (columns_of (recast_table c.args.task.now)) (recast_in c.args.task.now) c.args.task.now.ranges.items made.ranges.items are

pub returns-then-not-may_rest-clause-holds : goal.returns-then-not-may_rest-clause-holds
returns-then-not-may_rest-clause-holds g c opened whole epoch =
    let is : MayRest c.engine.inside.metadata.state c.args.task.now =
    subst (λ (x : Standing). MayRest x.state c.args.task.now) (sym c.engine.view_is) (record { opened = opened; whole = whole; epoch = epoch }) in
    absurd (let no : true ≡ false = sym (c.may_rest.ensures.1 is) ∙ c.if-not-may_rest.true in cc)

pub returns-then-not-may_rest-clause-stays : goal.returns-then-not-may_rest-clause-stays
returns-then-not-may_rest-clause-stays g c none = (refl, refl, refl)

pub returns-then-not-may_rest-clause-ranges : goal.returns-then-not-may_rest-clause-ranges
returns-then-not-may_rest-clause-ranges g c w sound has = has

pub returns-then-not-may_rest-clause-bounded : goal.returns-then-not-may_rest-clause-bounded
returns-then-not-may_rest-clause-bounded g c w sound are = are

pub returns-then-not-may_rest-clause-whole : goal.returns-then-not-may_rest-clause-whole
returns-then-not-may_rest-clause-whole g c w sound none = none

-- ---- what comes is opened

pub open_more-requires-clause-there : goal.open_more-requires-clause-there
open_more-requires-clause-there g c κs within = c.requires.there

pub open_more-requires-clause-opened : goal.open_more-requires-clause-opened
open_more-requires-clause-opened g c κs within = (subst (λ (x : Standing). MayRest x.state c.args.task.now) c.engine.view_is (c.may_rest.ensures.0 c.if-not-may_rest.false)).opened

pub returns-in-Ok-clause-stays : goal.returns-in-Ok-clause-stays
returns-in-Ok-clause-stays g c none =
    let t = c.args.task.now in
    absurd (none (subst (λ (x : Standing). MayRest x.state t) c.engine.view_is (c.may_rest.ensures.0 c.if-not-may_rest.false)))

pub returns-in-Err-Fault-clause-stays : goal.returns-in-Err-Fault-clause-stays
returns-in-Err-Fault-clause-stays g c none =
    let t = c.args.task.now in
    absurd (none (subst (λ (x : Standing). MayRest x.state t) c.engine.view_is (c.may_rest.ensures.0 c.if-not-may_rest.false)))

pub returns-in-Err-Memory-clause-stays : goal.returns-in-Err-Memory-clause-stays
returns-in-Err-Memory-clause-stays g c none =
    let t = c.args.task.now in
    absurd (none (subst (λ (x : Standing). MayRest x.state t) c.engine.view_is (c.may_rest.ensures.0 c.if-not-may_rest.false)))

-- ---- all are open, or a file is damaged

pub returns-in-Ok-clause-longer : goal.returns-in-Ok-clause-longer
returns-in-Ok-clause-longer g c =
    let N = g.N.Naming in
    let read = g.D.Reader.FileReader.bytes in
    let t = c.args.task.now in
    let now = (meta_at c.args.engine.now.state.catalogue t.table).lineage in
    let written = λ (w : Rows). written_at N.script (N.start w) (N.origin w) c.args.engine.now.shown.history t.table in
    record {
      table = refl;
      lease = refl;
      epoch = refl;
      evolving = refl;
      keys = refl;
      values = refl;
      more = known_ranges read c.open_more.ensures.more.more;
      ranges = further_known read now N.sound written t.ranges.items c.open_more.new.ranges.items c.open_more.ensures.more;
    }

pub returns-in-Ok-clause-begun : goal.returns-in-Ok-clause-begun
returns-in-Ok-clause-begun g c made are =
    let N = g.N.Naming in
    let read = g.D.Reader.FileReader.bytes in
    let t = c.args.task.now in
    let now = (meta_at c.args.engine.now.state.catalogue t.table).lineage in
    let written = λ (w : Rows). written_at N.script (N.start w) (N.origin w) c.args.engine.now.shown.history t.table in
    further_begun read now N.sound written t.ranges.items c.open_more.new.ranges.items c.open_more.ensures.more g.M.Made.bytes g.M.Made.id_of (columns_of (recast_table t)) (recast_in t) made.ranges.items are

pub returns-in-Ok-clause-kept : goal.returns-in-Ok-clause-kept
returns-in-Ok-clause-kept g c =
    let N = g.N.Naming in
    let read = g.D.Reader.FileReader.bytes in
    let t = c.args.task.now in
    let now = (meta_at c.args.engine.now.state.catalogue t.table).lineage in
    let is = subst (λ (x : Standing). MayRest x.state t) c.engine.view_is (c.may_rest.ensures.0 c.if-not-may_rest.false) in
    let same = become_same (recast_table t) now (is.epoch ∙ c.requires.task.epoch) c.requires.grown in
    let written = λ (w : Rows). written_at N.script (N.start w) (N.origin w) c.args.engine.now.shown.history t.table in
    record { epoch = c.requires.task.epoch; allowed = c.requires.task.allowed; ranges = further_of read now N.sound written t.ranges.items c.open_more.new.ranges.items c.open_more.ensures.more (recast_table t) same c.requires.task.ranges }

pub returns-in-Ok-clause-ranges : goal.returns-in-Ok-clause-ranges
returns-in-Ok-clause-ranges g c w sound has =
    let N = g.N.Naming in
    let read = g.D.Reader.FileReader.bytes in
    let t = c.args.task.now in
    let now = (meta_at c.args.engine.now.state.catalogue t.table).lineage in
    let is = subst (λ (x : Standing). MayRest x.state t) c.engine.view_is (c.may_rest.ensures.0 c.if-not-may_rest.false) in
    let same = become_same (recast_table t) now (is.epoch ∙ c.requires.task.epoch) c.requires.grown in
    let written = λ (w : Rows). written_at N.script (N.start w) (N.origin w) c.args.engine.now.shown.history t.table in
    further_sourced read now N.sound written t.ranges.items c.open_more.new.ranges.items c.open_more.ensures.more (recast_table t) same w sound has

pub returns-in-Ok-clause-bounded : goal.returns-in-Ok-clause-bounded
returns-in-Ok-clause-bounded g c w sound are =
    let N = g.N.Naming in
    let read = g.D.Reader.FileReader.bytes in
    let t = c.args.task.now in
    let now = (meta_at c.args.engine.now.state.catalogue t.table).lineage in
    let is = subst (λ (x : Standing). MayRest x.state t) c.engine.view_is (c.may_rest.ensures.0 c.if-not-may_rest.false) in
    let same = become_same (recast_table t) now (is.epoch ∙ c.requires.task.epoch) c.requires.grown in
    let written = λ (w : Rows). written_at N.script (N.start w) (N.origin w) c.args.engine.now.shown.history t.table in
    further_bounded read now N.sound written t.ranges.items c.open_more.new.ranges.items c.open_more.ensures.more (recast_table t) same w sound are

pub returns-in-Ok-clause-differs : goal.returns-in-Ok-clause-differs
returns-in-Ok-clause-differs g c = c.in-Ok.ensures.differs

pub returns-in-Ok-clause-holds : goal.returns-in-Ok-clause-holds
returns-in-Ok-clause-holds g c opened whole epoch = c.in-Ok.ensures.holds whole

pub returns-in-Ok-clause-whole : goal.returns-in-Ok-clause-whole
returns-in-Ok-clause-whole g c w sound none = c.in-Ok.ensures.whole w sound

-- ---- the disk failed

pub returns-in-Err-Fault-clause-longer : goal.returns-in-Err-Fault-clause-longer
returns-in-Err-Fault-clause-longer g c =
    let N = g.N.Naming in
    let read = g.D.Reader.FileReader.bytes in
    let t = c.args.task.now in
    let now = (meta_at c.args.engine.now.state.catalogue t.table).lineage in
    let written = λ (w : Rows). written_at N.script (N.start w) (N.origin w) c.args.engine.now.shown.history t.table in
    record {
      table = refl;
      lease = refl;
      epoch = refl;
      evolving = refl;
      keys = refl;
      values = refl;
      more = known_ranges read c.open_more.ensures.more.more;
      ranges = further_known read now N.sound written t.ranges.items c.open_more.new.ranges.items c.open_more.ensures.more;
    }

pub returns-in-Err-Fault-clause-begun : goal.returns-in-Err-Fault-clause-begun
returns-in-Err-Fault-clause-begun g c made are =
    let N = g.N.Naming in
    let read = g.D.Reader.FileReader.bytes in
    let t = c.args.task.now in
    let now = (meta_at c.args.engine.now.state.catalogue t.table).lineage in
    let written = λ (w : Rows). written_at N.script (N.start w) (N.origin w) c.args.engine.now.shown.history t.table in
    further_begun read now N.sound written t.ranges.items c.open_more.new.ranges.items c.open_more.ensures.more g.M.Made.bytes g.M.Made.id_of (columns_of (recast_table t)) (recast_in t) made.ranges.items are

pub returns-in-Err-Fault-clause-kept : goal.returns-in-Err-Fault-clause-kept
returns-in-Err-Fault-clause-kept g c =
    let N = g.N.Naming in
    let read = g.D.Reader.FileReader.bytes in
    let t = c.args.task.now in
    let now = (meta_at c.args.engine.now.state.catalogue t.table).lineage in
    let is = subst (λ (x : Standing). MayRest x.state t) c.engine.view_is (c.may_rest.ensures.0 c.if-not-may_rest.false) in
    let same = become_same (recast_table t) now (is.epoch ∙ c.requires.task.epoch) c.requires.grown in
    let written = λ (w : Rows). written_at N.script (N.start w) (N.origin w) c.args.engine.now.shown.history t.table in
    record { epoch = c.requires.task.epoch; allowed = c.requires.task.allowed; ranges = further_of read now N.sound written t.ranges.items c.open_more.new.ranges.items c.open_more.ensures.more (recast_table t) same c.requires.task.ranges }

pub returns-in-Err-Fault-clause-ranges : goal.returns-in-Err-Fault-clause-ranges
returns-in-Err-Fault-clause-ranges g c w sound has =
    let N = g.N.Naming in
    let read = g.D.Reader.FileReader.bytes in
    let t = c.args.task.now in
    let now = (meta_at c.args.engine.now.state.catalogue t.table).lineage in
    let is = subst (λ (x : Standing). MayRest x.state t) c.engine.view_is (c.may_rest.ensures.0 c.if-not-may_rest.false) in
    let same = become_same (recast_table t) now (is.epoch ∙ c.requires.task.epoch) c.requires.grown in
    let written = λ (w : Rows). written_at N.script (N.start w) (N.origin w) c.args.engine.now.shown.history t.table in
    further_sourced read now N.sound written t.ranges.items c.open_more.new.ranges.items c.open_more.ensures.more (recast_table t) same w sound has

pub returns-in-Err-Fault-clause-bounded : goal.returns-in-Err-Fault-clause-bounded
returns-in-Err-Fault-clause-bounded g c w sound are =
    let N = g.N.Naming in
    let read = g.D.Reader.FileReader.bytes in
    let t = c.args.task.now in
    let now = (meta_at c.args.engine.now.state.catalogue t.table).lineage in
    let is = subst (λ (x : Standing). MayRest x.state t) c.engine.view_is (c.may_rest.ensures.0 c.if-not-may_rest.false) in
    let same = become_same (recast_table t) now (is.epoch ∙ c.requires.task.epoch) c.requires.grown in
    let written = λ (w : Rows). written_at N.script (N.start w) (N.origin w) c.args.engine.now.shown.history t.table in
    further_bounded read now N.sound written t.ranges.items c.open_more.new.ranges.items c.open_more.ensures.more (recast_table t) same w sound are

pub returns-in-Err-Fault-clause-sort : goal.returns-in-Err-Fault-clause-sort
returns-in-Err-Fault-clause-sort g c = inl refl

pub returns-in-Err-Fault-clause-cause : goal.returns-in-Err-Fault-clause-cause
returns-in-Err-Fault-clause-cause g c is = c.open_more.ensures.rose (c.in-Err-Fault.is ∙ ap Err c.in-Err-Fault.field-0-is)

pub returns-in-Err-Fault-clause-unpaid : goal.returns-in-Err-Fault-clause-unpaid
returns-in-Err-Fault-clause-unpaid g c is = c.open_more.ensures.unpaid (c.in-Err-Fault.is ∙ ap Err c.in-Err-Fault.field-0-is)

pub returns-in-Err-Fault-clause-whole : goal.returns-in-Err-Fault-clause-whole
returns-in-Err-Fault-clause-whole g c w sound none = none

-- ---- memory was wanting

pub returns-in-Err-Memory-clause-longer : goal.returns-in-Err-Memory-clause-longer
returns-in-Err-Memory-clause-longer g c =
    let N = g.N.Naming in
    let read = g.D.Reader.FileReader.bytes in
    let t = c.args.task.now in
    let now = (meta_at c.args.engine.now.state.catalogue t.table).lineage in
    let written = λ (w : Rows). written_at N.script (N.start w) (N.origin w) c.args.engine.now.shown.history t.table in
    record {
      table = refl;
      lease = refl;
      epoch = refl;
      evolving = refl;
      keys = refl;
      values = refl;
      more = known_ranges read c.open_more.ensures.more.more;
      ranges = further_known read now N.sound written t.ranges.items c.open_more.new.ranges.items c.open_more.ensures.more;
    }

pub returns-in-Err-Memory-clause-begun : goal.returns-in-Err-Memory-clause-begun
returns-in-Err-Memory-clause-begun g c made are =
    let N = g.N.Naming in
    let read = g.D.Reader.FileReader.bytes in
    let t = c.args.task.now in
    let now = (meta_at c.args.engine.now.state.catalogue t.table).lineage in
    let written = λ (w : Rows). written_at N.script (N.start w) (N.origin w) c.args.engine.now.shown.history t.table in
    further_begun read now N.sound written t.ranges.items c.open_more.new.ranges.items c.open_more.ensures.more g.M.Made.bytes g.M.Made.id_of (columns_of (recast_table t)) (recast_in t) made.ranges.items are

pub returns-in-Err-Memory-clause-kept : goal.returns-in-Err-Memory-clause-kept
returns-in-Err-Memory-clause-kept g c =
    let N = g.N.Naming in
    let read = g.D.Reader.FileReader.bytes in
    let t = c.args.task.now in
    let now = (meta_at c.args.engine.now.state.catalogue t.table).lineage in
    let is = subst (λ (x : Standing). MayRest x.state t) c.engine.view_is (c.may_rest.ensures.0 c.if-not-may_rest.false) in
    let same = become_same (recast_table t) now (is.epoch ∙ c.requires.task.epoch) c.requires.grown in
    let written = λ (w : Rows). written_at N.script (N.start w) (N.origin w) c.args.engine.now.shown.history t.table in
    record { epoch = c.requires.task.epoch; allowed = c.requires.task.allowed; ranges = further_of read now N.sound written t.ranges.items c.open_more.new.ranges.items c.open_more.ensures.more (recast_table t) same c.requires.task.ranges }

pub returns-in-Err-Memory-clause-ranges : goal.returns-in-Err-Memory-clause-ranges
returns-in-Err-Memory-clause-ranges g c w sound has =
    let N = g.N.Naming in
    let read = g.D.Reader.FileReader.bytes in
    let t = c.args.task.now in
    let now = (meta_at c.args.engine.now.state.catalogue t.table).lineage in
    let is = subst (λ (x : Standing). MayRest x.state t) c.engine.view_is (c.may_rest.ensures.0 c.if-not-may_rest.false) in
    let same = become_same (recast_table t) now (is.epoch ∙ c.requires.task.epoch) c.requires.grown in
    let written = λ (w : Rows). written_at N.script (N.start w) (N.origin w) c.args.engine.now.shown.history t.table in
    further_sourced read now N.sound written t.ranges.items c.open_more.new.ranges.items c.open_more.ensures.more (recast_table t) same w sound has

pub returns-in-Err-Memory-clause-bounded : goal.returns-in-Err-Memory-clause-bounded
returns-in-Err-Memory-clause-bounded g c w sound are =
    let N = g.N.Naming in
    let read = g.D.Reader.FileReader.bytes in
    let t = c.args.task.now in
    let now = (meta_at c.args.engine.now.state.catalogue t.table).lineage in
    let is = subst (λ (x : Standing). MayRest x.state t) c.engine.view_is (c.may_rest.ensures.0 c.if-not-may_rest.false) in
    let same = become_same (recast_table t) now (is.epoch ∙ c.requires.task.epoch) c.requires.grown in
    let written = λ (w : Rows). written_at N.script (N.start w) (N.origin w) c.args.engine.now.shown.history t.table in
    further_bounded read now N.sound written t.ranges.items c.open_more.new.ranges.items c.open_more.ensures.more (recast_table t) same w sound are

pub returns-in-Err-Memory-clause-sort : goal.returns-in-Err-Memory-clause-sort
returns-in-Err-Memory-clause-sort g c = inr refl

pub returns-in-Err-Memory-clause-cause : goal.returns-in-Err-Memory-clause-cause
returns-in-Err-Memory-clause-cause g c is = absurd (let no : file_error.Memory ≡ file_error.Read = is in cc)

pub returns-in-Err-Memory-clause-unpaid : goal.returns-in-Err-Memory-clause-unpaid
returns-in-Err-Memory-clause-unpaid g c is = absurd (let no : file_error.Memory ≡ file_error.Read = is in cc)

pub returns-in-Err-Memory-clause-whole : goal.returns-in-Err-Memory-clause-whole
returns-in-Err-Memory-clause-whole g c w sound none = none
