use Rattle.std.proofs.Common.{◌≡◌, ◌∙◌, ◌<◌, [], ap, get_or, length, map, set, subst, sym, arith}
use Rattle.std.proofs.lemmas.List.{length-map}
use Rattle.mesa_batch.specs.Numbers.{known_of}
use Rattle.mesa_batch.specs.Totals.{totals_after}
use Rattle.mesa_schema.specs.Changes.{Lineage}
use Rattle.mesa_model.specs.Tables.{table_changed}
use Rattle.mesa_model.specs.Warehouse.{Table, table_at}
use Rattle.mesa_oracle_tables.specs.Found.{known_at}
use Rattle.mesa_oracle_tables.specs.Kept.{Versioned, from_of, tables_in, with_schema_changed}
use Rattle.mesa_oracle_tables.proofs.Changes.{kept_after, tables_after}
use Rattle.mesa_oracle_tables.proofs.Lineages.{put_known}
use Rattle.mesa_oracle_tables.proofs.OneVersion.{length-tables_in}
use Rattle.mesa_oracle_tables.proofs.Seen.{table_kept}
use Rattle.mesa_schema.specs.Lifting.{Lifts}
use Rattle.mesa_oracle_tables.proofs.store.PlainStore.change.Goals as goal

pub totals_of-own-requires : goal.totals_of-own-requires
totals_of-own-requires c =
    let s = c.self.inside in
    let tables = map known_of s.tables.items in
    omega (arith, c.requires.there, ap (λ (v : Versioned). length v.store.tables) c.self.view_is, length-tables_in (from_of s.floor s.oldests) 0 s.totals s.versions.items tables, c.self.invariant.count, ap length c.as_slice.ensures)

pub put_evolving-requires : goal.put_evolving-requires
put_evolving-requires c =
    let s = c.self.inside in
    omega (arith, c.requires.there, ap (λ (v : Versioned). length v.store.tables) c.self.view_is, length-tables_in (from_of s.floor s.oldests) 0 s.totals s.versions.items (map known_of s.tables.items), length-map s.tables.items known_of)

pub at_mut-requires : goal.at_mut-requires
at_mut-requires c =
    let s = c.self.inside in
    let tables = map known_of s.tables.items in
    omega (arith, c.requires.there, ap (λ (v : Versioned). length v.store.tables) c.self.view_is, length-tables_in (from_of s.floor s.oldests) 0 s.totals s.versions.items tables, c.self.invariant.count)

pub invariant_of-self : goal.invariant_of-self
invariant_of-self c =
    let s = c.self.inside in
    let i = c.args.table in
    let change = c.args.change in
    let tables = map known_of s.tables.items in
    let k = known_at i tables in
    let lt : i < length tables = omega (arith, c.requires.there, ap (λ (v : Versioned). length v.store.tables) c.self.view_is, length-tables_in (from_of s.floor s.oldests) 0 s.totals s.versions.items tables) in
    let there : i < length s.tables.items = omega (arith, lt, length-map s.tables.items known_of) in
    let before = c.evolving-before.ensures ∙ sym (ap (λ (v : Versioned). (table_at v.store i).lineage) c.self.view_is) ∙ ap (λ (t : Table). t.lineage) (table_kept s.totals s.versions.items tables (from_of s.floor s.oldests) i lt) in
    let own = c.totals_of-own.ensures ∙ ap (λ ts. get_or ts i []) c.as_slice.ensures in
    let totals = c.in_ok-totals.ensures ∙ (λ j. totals_after (c.present.ensures.columns j) change (own j)) in
    let put = put_known s.tables.items c.put_evolving.new.tables.items i c.in_ok-after.after there c.put_evolving.ensures in
    let lifts = subst (λ (l : Lineage). Lifts c.in_ok-lift.lift l c.epoch.result) c.deref.ensures c.in_ok-lift.ensures in
    kept_after tables _ s.totals c.in_ok-totals.totals s.versions.items c.in_ok-versions.versions.items (from_of s.floor s.oldests) s.next i c.epoch.result change c.in_ok-lift.lift c.evolving-before.result.now c.in_ok-after.after.value
    c.self.invariant lt c.in_ok-after.ensures.default before c.in_ok-after.ensures.changed put totals c.epoch.ensures.count lifts c.in_ok-versions.ensures

pub returns-clause-changed : goal.returns-clause-changed
returns-clause-changed c =
    let s = c.self.inside in
    let i = c.args.table in
    let change = c.args.change in
    let tables = map known_of s.tables.items in
    let versions = s.versions.items in
    let later = c.in_ok-versions.versions.items in
    let lt : i < length tables = omega (arith, c.requires.there, ap (λ (v : Versioned). length v.store.tables) c.self.view_is, length-tables_in (from_of s.floor s.oldests) 0 s.totals versions tables) in
    let there : i < length s.tables.items = omega (arith, lt, length-map s.tables.items known_of) in
    let at = table_kept s.totals versions tables (from_of s.floor s.oldests) i lt in
    let before = c.evolving-before.ensures ∙ sym (ap (λ (v : Versioned). (table_at v.store i).lineage) c.self.view_is) ∙ ap (λ (t : Table). t.lineage) at in
    let own = c.totals_of-own.ensures ∙ ap (λ ts. get_or ts i []) c.as_slice.ensures in
    let totals = c.in_ok-totals.ensures ∙ (λ j. totals_after (c.present.ensures.columns j) change (own j)) in
    let put = put_known s.tables.items c.put_evolving.new.tables.items i c.in_ok-after.after there c.put_evolving.ensures in
    let lifts = subst (λ (l : Lineage). Lifts c.in_ok-lift.lift l c.epoch.result) c.deref.ensures c.in_ok-lift.ensures in
    let made = tables_after tables _ s.totals c.in_ok-totals.totals versions later (from_of s.floor s.oldests) s.next i c.epoch.result change c.in_ok-lift.lift c.evolving-before.result.now c.in_ok-after.after.value
    c.self.invariant lt before c.in_ok-after.ensures.changed put totals c.epoch.ensures.count lifts c.in_ok-versions.ensures in
    let all = made ∙ ap (λ (t : Table). set (tables_in (from_of s.floor s.oldests) 0 s.totals versions tables) i (table_changed t change)) (sym at) in
    subst (λ (v : Versioned). record { store = record { tables = tables_in (from_of s.floor s.oldests) 0 (set s.totals i c.in_ok-totals.totals) later (map known_of c.put_evolving.new.tables.items); floor = s.floor }; next = s.next } ≡ with_schema_changed v i change) c.self.view_is (λ j. record { store = record { tables = all j; floor = s.floor }; next = s.next })
