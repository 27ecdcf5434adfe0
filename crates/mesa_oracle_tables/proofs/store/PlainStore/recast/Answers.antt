use Rattle.std.proofs.Common.{◌≡◌, ◌∙◌, ◌<◌, [], ap, get_or, length, map, set, subst, sym, arith}
use Rattle.std.specs.List.{AllByRecursion}
use Rattle.std.proofs.lemmas.List.{length-map}
use Rattle.std.proofs.lemmas.Option.{slice_get-get_or}
use Rattle.mesa_answer.specs.mesa_columns.declared.columns.ValueColumn.{ValueColumn}
use Rattle.mesa_schema.specs.Changes.{Lineage, columns_of}
use Rattle.mesa_answer.specs.mesa_columns.Columns.{Columns, places_in}
use Rattle.mesa_schema.specs.Recasts.{Recast, recast_checked, recast_lineage}
use Rattle.mesa_schema.proofs.LineageRecasts.{recast_allowed}
use Rattle.mesa_batch.specs.Numbers.{known_of}
use Rattle.mesa_batch.specs.Totals.{chosen_totals}
use Rattle.mesa_model.specs.Tables.{table_recast}
use Rattle.mesa_model.specs.Warehouse.{Table, table_at}
use Rattle.mesa_oracle_tables.specs.Found.{known_at, no_known}
use Rattle.mesa_oracle_tables.specs.Kept.{Versioned, contents_in, contents_recast, all_shared, from_of, tables_in, totals_in, with_table_recast}
use Rattle.mesa_oracle_tables.specs.Sound.{CanGroup}
use Rattle.mesa_oracle_tables.proofs.Lineages.{put_known}
use Rattle.mesa_oracle_tables.proofs.OneVersion.{length-tables_in}
use Rattle.mesa_oracle_tables.proofs.Recasts.{can_group, kept_recast, tables_recast}
use Rattle.mesa_oracle_tables.proofs.Seen.{table_kept}
use Rattle.mesa_oracle_tables.proofs.store.PlainStore.recast.Goals as goal

pub totals_of-own-requires : goal.totals_of-own-requires
totals_of-own-requires c =
    let s = c.self.inside in
    let tables = map known_of s.tables.items in
    omega (arith, c.requires.there, ap (λ (v : Versioned). length v.store.tables) c.self.view_is, length-tables_in (from_of s.floor s.oldests) 0 s.totals s.versions.items tables, c.self.invariant.count, ap length c.as_slice.ensures)

pub versions_recast-requires : goal.versions_recast-requires
versions_recast-requires c =
    let s = c.self.inside in
    let i = c.args.table in
    let tables = map known_of s.tables.items in
    let lt : i < length tables = omega (arith, c.requires.there, ap (λ (v : Versioned). length v.store.tables) c.self.view_is, length-tables_in (from_of s.floor s.oldests) 0 s.totals s.versions.items tables) in
    let k = known_at i tables in
    let before = c.evolving-before.ensures ∙ sym (ap (λ (v : Versioned). (table_at v.store i).lineage) c.self.view_is) ∙ ap (λ (t : Table). t.lineage) (table_kept s.totals s.versions.items tables (from_of s.floor s.oldests) i lt) in
    let shown = c.present-present.ensures.columns ∙ ap columns_of before in
    let there = slice_get-get_or tables i no_known lt in
    subst (λ (columns : Columns). AllByRecursion (CanGroup columns) (contents_in i s.versions.items)) (sym shown)
    (can_group (columns_of k.lineage) (totals_in i s.totals) (contents_in i s.versions.items) (c.self.invariant.have i k there) (c.self.invariant.held i k there))

pub renewed-requires : goal.renewed-requires
renewed-requires c = ap (λ (l : Lineage). recast_checked l (record { keys = c.args.names.keys; values = c.args.names.values })) c.evolving-before.ensures ∙ c.requires.allowed

pub put_evolving-requires : goal.put_evolving-requires
put_evolving-requires c =
    let s = c.self.inside in
    omega (arith, c.requires.there, ap (λ (v : Versioned). length v.store.tables) c.self.view_is, length-tables_in (from_of s.floor s.oldests) 0 s.totals s.versions.items (map known_of s.tables.items), length-map s.tables.items known_of)

pub at_mut-requires : goal.at_mut-requires
at_mut-requires c =
    let s = c.self.inside in
    let tables = map known_of s.tables.items in
    omega (arith, c.requires.there, ap (λ (v : Versioned). length v.store.tables) c.self.view_is, length-tables_in (from_of s.floor s.oldests) 0 s.totals s.versions.items tables, c.self.invariant.count)

pub invariant_of-self : goal.invariant_of-self
invariant_of-self c =
    let s = c.self.inside in
    let i = c.args.table in
    let r : Recast = record { keys = c.args.names.keys; values = c.args.names.values } in
    let tables = map known_of s.tables.items in
    let k = known_at i tables in
    let lt : i < length tables = omega (arith, c.requires.there, ap (λ (v : Versioned). length v.store.tables) c.self.view_is, length-tables_in (from_of s.floor s.oldests) 0 s.totals s.versions.items tables) in
    let there : i < length s.tables.items = omega (arith, lt, length-map s.tables.items known_of) in
    let before = c.evolving-before.ensures ∙ sym (ap (λ (v : Versioned). (table_at v.store i).lineage) c.self.view_is) ∙ ap (λ (t : Table). t.lineage) (table_kept s.totals s.versions.items tables (from_of s.floor s.oldests) i lt) in
    let shown = c.present-present.ensures.columns ∙ ap columns_of before in
    let allowed = recast_allowed k.lineage r (ap (λ (l : Lineage). recast_checked l r) (sym before) ∙ ap (λ (l : Lineage). recast_checked l r) c.evolving-before.ensures ∙ c.requires.allowed) in
    let values = c.values.ensures.same ∙ ap (λ (t : Columns). t.values) shown in
    let own = c.totals_of-own.ensures ∙ ap (λ ts. get_or ts i []) c.as_slice.ensures in
    let totals = c.in_ok-totals.ensures ∙ (λ j. chosen_totals (map (λ (x : ValueColumn). x.agg) (values j)) (own j) (places_in (map (λ (x : ValueColumn). x.name) (values j)) (c.as_slice-2.ensures j))) in
    let put = put_known s.tables.items c.put_evolving.new.tables.items i c.in_ok-after.after there c.put_evolving.ensures ∙ ap (λ (l : Lineage). set tables i (record k { lineage = l })) (c.in_ok-after.ensures ∙ ap (λ (l : Lineage). recast_lineage l r) before) in
    let made = c.in_ok-versions.ensures ∙ ap (λ (columns : Columns). map (contents_recast i columns r) (all_shared s.versions.items)) shown in
    kept_recast tables (map known_of c.put_evolving.new.tables.items) s.totals c.in_ok-totals.totals s.versions.items c.in_ok-versions.versions.items (from_of s.floor s.oldests) s.next i r c.self.invariant lt allowed.rules totals put made

pub returns-clause-recast : goal.returns-clause-recast
returns-clause-recast c =
    let s = c.self.inside in
    let i = c.args.table in
    let r : Recast = record { keys = c.args.names.keys; values = c.args.names.values } in
    let tables = map known_of s.tables.items in
    let k = known_at i tables in
    let lt : i < length tables = omega (arith, c.requires.there, ap (λ (v : Versioned). length v.store.tables) c.self.view_is, length-tables_in (from_of s.floor s.oldests) 0 s.totals s.versions.items tables) in
    let there : i < length s.tables.items = omega (arith, lt, length-map s.tables.items known_of) in
    let at = table_kept s.totals s.versions.items tables (from_of s.floor s.oldests) i lt in
    let before = c.evolving-before.ensures ∙ sym (ap (λ (v : Versioned). (table_at v.store i).lineage) c.self.view_is) ∙ ap (λ (t : Table). t.lineage) at in
    let shown = c.present-present.ensures.columns ∙ ap columns_of before in
    let allowed = recast_allowed k.lineage r (ap (λ (l : Lineage). recast_checked l r) (sym before) ∙ ap (λ (l : Lineage). recast_checked l r) c.evolving-before.ensures ∙ c.requires.allowed) in
    let values = c.values.ensures.same ∙ ap (λ (t : Columns). t.values) shown in
    let own = c.totals_of-own.ensures ∙ ap (λ ts. get_or ts i []) c.as_slice.ensures in
    let totals = c.in_ok-totals.ensures ∙ (λ j. chosen_totals (map (λ (x : ValueColumn). x.agg) (values j)) (own j) (places_in (map (λ (x : ValueColumn). x.name) (values j)) (c.as_slice-2.ensures j))) in
    let put = put_known s.tables.items c.put_evolving.new.tables.items i c.in_ok-after.after there c.put_evolving.ensures ∙ ap (λ (l : Lineage). set tables i (record k { lineage = l })) (c.in_ok-after.ensures ∙ ap (λ (l : Lineage). recast_lineage l r) before) in
    let later = c.in_ok-versions.ensures ∙ ap (λ (columns : Columns). map (contents_recast i columns r) (all_shared s.versions.items)) shown in
    let made = tables_recast tables (map known_of c.put_evolving.new.tables.items) s.totals c.in_ok-totals.totals s.versions.items c.in_ok-versions.versions.items (from_of s.floor s.oldests) s.next i r c.self.invariant lt allowed.rules totals put later in
    let all = made ∙ ap (λ (t : Table). set (tables_in (from_of s.floor s.oldests) 0 s.totals s.versions.items tables) i (table_recast t r)) (sym at) in
    subst (λ (v : Versioned). record { store = record { tables = tables_in (from_of s.floor s.oldests) 0 (set s.totals i c.in_ok-totals.totals) c.in_ok-versions.versions.items (map known_of c.put_evolving.new.tables.items); floor = s.floor }; next = s.next } ≡ with_table_recast v i r) c.self.view_is (λ j. record { store = record { tables = all j; floor = s.floor }; next = s.next })
