use Rattle.std.proofs.Common.{◌≡◌, refl, ◌∙◌, ap, sym, subst, map, Ok, Err, arith, true, false, rules}
use Rattle.std.specs.Prelude.{length, nat_le}
use Rattle.std.proofs.lemmas.Bool.{le-leb}
use Rattle.std.proofs.lemmas.Result.{err_from_is_err_and}
use Rattle.mesa_list.specs.Checks.{refuse_unless}
use Rattle.mesa_oracle_tables.specs.mesa_columns.Names.{is_name}
use Rattle.mesa_model.specs.declared.replies.Refusal.TheVariants as no
use Rattle.mesa_model.specs.declared.replies.Reply.TheVariants as reply
use Rattle.mesa_model.specs.declared.replies.SchemaFault.TheVariants as fault
use Rattle.mesa_model.specs.Refusals.{bad_schema}
use Rattle.mesa_model.specs.Relations.{is_taken}
use Rattle.mesa_model.specs.Tables.{make_table}
use Rattle.mesa_model.specs.Warehouse.{Warehouse, max_tables}
use Rattle.mesa_oracle_tables.specs.Kept.{with_table_more}
use Rattle.mesa_test_oracle.specs.Pinned.{pin_seen, warehouse_of}
use Rattle.mesa_binding.specs.Told.{IsDue}
use Rattle.mesa_binding.proofs.Makings.{room_left, table_bad, table_done, table_full, table_taken, table_unnamed}
use Rattle.mesa_test_oracle.proofs.warehouse.PlainWarehouse.try_make_table.Goals as goal

pub returns-in_err-name-clause-refused : goal.returns-in_err-name-clause-refused
returns-in_err-name-clause-refused c =
    let p = err_from_is_err_and c.from_residual.result c.from_residual.ensures.1 in
    let w = c.self.inside in
    let words = c.args.words.now in
    let failure = c.in_err-name.field-0.0 in
    let due = subst (λ n. IsDue (refuse_unless (is_name n) (bad_schema fault.BadName)) failure) c.as_slice-asked.ensures c.in_err-name.ensures.refused in
    rw (p.1, p.2) (subst (λ (v : Warehouse). IsDue (make_table v words) failure) c.self.view_is
    (table_unnamed (warehouse_of w.store w.given (map pin_seen w.pins.items)) refl words failure due))

pub returns-then-is_taken-clause-refused : goal.returns-then-is_taken-clause-refused
returns-then-is_taken-clause-refused c =
    let w = c.self.inside in
    let words = c.args.words.now in
    let named = ap is_name (sym c.as_slice-asked.ensures) ∙ c.in_ok-name.ensures.named in
    let there : c.is_taken.result ≡ true = search rules in
    let taken : is_taken w.store.store words.table ≡ true = ap (is_taken w.store.store) (sym c.as_slice-asked.ensures) ∙ sym c.is_taken.ensures ∙ there in
    subst (λ (v : Warehouse). make_table v words ≡ Err no.TableExists) c.self.view_is (table_taken (warehouse_of w.store w.given (map pin_seen w.pins.items)) refl words named taken)

pub returns-in_err-schema-clause-refused : goal.returns-in_err-schema-clause-refused
returns-in_err-schema-clause-refused c =
    let p = err_from_is_err_and c.from_residual-in_err-schema.result c.from_residual-in_err-schema.ensures.1 in
    let w = c.self.inside in
    let words = c.args.words.now in
    let failure = c.in_err-schema.field-0.0 in
    let named = ap is_name (sym c.as_slice-asked.ensures) ∙ c.in_ok-name.ensures.named in
    let free : c.is_taken.result ≡ false = search rules in
    let taken : is_taken w.store.store words.table ≡ false = ap (is_taken w.store.store) (sym c.as_slice-asked.ensures) ∙ sym c.is_taken.ensures ∙ free in
    rw (p.1, p.2) (subst (λ (v : Warehouse). IsDue (make_table v words) failure) c.self.view_is
    (table_bad (warehouse_of w.store w.given (map pin_seen w.pins.items)) refl words failure named taken c.in_err-schema.ensures.refused))

pub returns-then-tables-ge-MAX_TABLES-clause-refused : goal.returns-then-tables-ge-MAX_TABLES-clause-refused
returns-then-tables-ge-MAX_TABLES-clause-refused c =
    let w = c.self.inside in
    let words = c.args.words.now in
    let named = ap is_name (sym c.as_slice-asked.ensures) ∙ c.in_ok-name.ensures.named in
    let free : c.is_taken.result ≡ false = search rules in
    let taken : is_taken w.store.store words.table ≡ false = ap (is_taken w.store.store) (sym c.as_slice-asked.ensures) ∙ sym c.is_taken.ensures ∙ free in
    let full : nat_le max_tables (length w.store.store.tables) ≡ true = le-leb max_tables (length w.store.store.tables) (omega (arith, c.len-tables.ensures, c.if-tables-ge-MAX_TABLES.true)) in
    subst (λ (v : Warehouse). make_table v words ≡ Err (no.TablesFull max_tables)) c.self.view_is (table_full (warehouse_of w.store w.given (map pin_seen w.pins.items)) refl words named taken c.in_ok-schema.ensures.checked full)

pub returns-clause-done : goal.returns-clause-done
returns-clause-done c =
    let w = c.self.inside in
    let words = c.args.words.now in
    let pins = map pin_seen w.pins.items in
    let named = ap is_name (sym c.as_slice-asked.ensures) ∙ c.in_ok-name.ensures.named in
    let free : c.is_taken.result ≡ false = search rules in
    let taken : is_taken w.store.store words.table ≡ false = ap (is_taken w.store.store) (sym c.as_slice-asked.ensures) ∙ sym c.is_taken.ensures ∙ free in
    let room : nat_le max_tables (length w.store.store.tables) ≡ false = room_left (length w.store.store.tables) (omega (arith, c.len-tables.ensures, c.if-tables-ge-MAX_TABLES.false)) in
    let name = c.in_ok-name.ensures.read ∙ c.as_slice-asked.ensures in
    let made = c.in_ok-add_table.ensures.added ∙ (λ j. with_table_more w.store (name j) (c.in_ok-schema.ensures.asked j)) in
    sym (ap (λ (v : Warehouse). make_table v words) c.self.view_is) ∙ table_done (warehouse_of w.store w.given pins) refl words named taken c.in_ok-schema.ensures.checked room
    ∙ (λ j. Ok (warehouse_of (sym made j) w.given pins, sym (c.in_ok-add_table.ensures.told ∙ ap reply.Table name) j))
