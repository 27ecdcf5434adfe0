use Rattle.std.proofs.Common.{◌≡◌, ◌∙◌, ap, sym, subst, map, List, Ok, Err, arith, true, false}
use Rattle.std.specs.Prelude.{nat_le}
use Rattle.std.proofs.lemmas.Bool.{le-leb}
use Rattle.std.proofs.lemmas.Result.{err_from_is_err_and}
use Rattle.mesa_list.specs.Checks.{refused_as}
use Rattle.mesa_batch.specs.Batch.{Named, batch_of}
use Rattle.mesa_model.specs.declared.replies.Refusal.TheVariants as no
use Rattle.mesa_model.specs.declared.replies.Reply.TheVariants as reply
use Rattle.mesa_model.specs.Load.{load_batch}
use Rattle.mesa_model.specs.Refusals.{batch_refusal}
use Rattle.mesa_model.specs.Warehouse.{Warehouse, max_versions}
use Rattle.mesa_test_oracle.specs.Pinned.{pin_seen, warehouse_of}
use Rattle.mesa_binding.specs.Told.{IsDue}
use Rattle.mesa_oracle_tables.proofs.Bounds.{not_full}
use Rattle.mesa_test_oracle.proofs.Commands.{glance_named, load_done, load_full, load_over, load_unread}
use Rattle.mesa_test_oracle.proofs.warehouse.PlainWarehouse.try_load.Goals as goal

pub returns-in_err-batch-clause-refused : goal.returns-in_err-batch-clause-refused
returns-in_err-batch-clause-refused c =
    let p = err_from_is_err_and c.from_residual-in_err-batch.result c.from_residual-in_err-batch.ensures.1 in
    let w = c.self.inside in
    let rows = c.args.rows.now in
    let failure = c.in_err-batch.field-0.0 in
    let named = glance_named c.in_ok-glance.glance w.store.store c.in_ok-glance.ensures in
    rw (p.1, p.2) (subst (λ (v : Warehouse). IsDue (load_batch v rows) failure) c.self.view_is
    (load_unread w.store w.given (map pin_seen w.pins.items) rows failure (subst (λ (ts : List Named). IsDue (refused_as batch_refusal (batch_of ts rows)) failure) named c.in_err-batch.ensures.refused)))

pub returns-then-version-ge-MAX_VERSIONS-clause-refused : goal.returns-then-version-ge-MAX_VERSIONS-clause-refused
returns-then-version-ge-MAX_VERSIONS-clause-refused c =
    let w = c.self.inside in
    let rows = c.args.rows.now in
    let named = glance_named c.in_ok-glance.glance w.store.store c.in_ok-glance.ensures in
    let read = c.in_ok-batch.ensures.rows in
    let all = ap (λ (ts : List Named). batch_of ts rows) (sym named) ∙ read.1.0 in
    let full : nat_le max_versions w.store.next ≡ true = le-leb max_versions w.store.next (omega (arith, c.next-version.ensures, c.if-version-ge-MAX_VERSIONS.true)) in
    subst (λ (v : Warehouse). load_batch v rows ≡ Err (no.VersionsFull max_versions)) c.self.view_is (load_full w.store w.given (map pin_seen w.pins.items) rows read.0 all full)

pub returns-in_err-load-clause-refused : goal.returns-in_err-load-clause-refused
returns-in_err-load-clause-refused c =
    let p = err_from_is_err_and c.from_residual-in_err-load.result c.from_residual-in_err-load.ensures.1 in
    let w = c.self.inside in
    let rows = c.args.rows.now in
    let failure = c.in_err-load.field-0.0 in
    let named = glance_named c.in_ok-glance.glance w.store.store c.in_ok-glance.ensures in
    let read = c.in_ok-batch.ensures.rows in
    let all = ap (λ (ts : List Named). batch_of ts rows) (sym named) ∙ read.1.0 in
    let full : nat_le max_versions w.store.next ≡ false = not_full w.store.next (omega (arith, c.next-version.ensures, c.if-version-ge-MAX_VERSIONS.false)) in
    rw (p.1, p.2) (subst (λ (v : Warehouse). IsDue (load_batch v rows) failure) c.self.view_is
    (load_over w.store w.given (map pin_seen w.pins.items) rows read.0 failure all full (c.in_err-load.ensures.refused read.0 read.1.1)))

pub returns-clause-done : goal.returns-clause-done
returns-clause-done c =
    let w = c.self.inside in
    let pins = map pin_seen w.pins.items in
    let rows = c.args.rows.now in
    let named = glance_named c.in_ok-glance.glance w.store.store c.in_ok-glance.ensures in
    let read = c.in_ok-batch.ensures.rows in
    let all = ap (λ (ts : List Named). batch_of ts rows) (sym named) ∙ read.1.0 in
    let full : nat_le max_versions w.store.next ≡ false = not_full w.store.next (omega (arith, c.next-version.ensures, c.if-version-ge-MAX_VERSIONS.false)) in
    let made = sym (c.in_ok-load.ensures.loaded read.0 read.1.1) in
    let count = sym (c.len-rows.ensures ∙ read.1.1.count) in
    let next = sym c.next-version.ensures in
    sym (ap (λ (v : Warehouse). load_batch v rows) c.self.view_is) ∙ load_done w.store w.given pins rows read.0 all full (c.in_ok-load.ensures.bounds read.0 read.1.1)
    ∙ (λ j. Ok (warehouse_of (made j) w.given pins, reply.Loaded (next j) (count j)))
