use Rattle.std.proofs.Common.{◌≡◌, ◌∙◌, ◌<◌, ap, length, map, subst, sym, arith}
use Rattle.std.proofs.lemmas.List.{length-map}
use Rattle.mesa_batch.specs.Numbers.{known_of}
use Rattle.mesa_schema.specs.Changes.{columns_of}
use Rattle.mesa_model.specs.Warehouse.{Table, table_at}
use Rattle.mesa_oracle_tables.specs.Kept.{Versioned, from_of, tables_in, with_lineage}
use Rattle.mesa_oracle_tables.proofs.Lineages.{kept_lineage, put_known, tables_set}
use Rattle.mesa_oracle_tables.proofs.OneVersion.{length-tables_in}
use Rattle.mesa_oracle_tables.proofs.Seen.{table_kept}
use Rattle.mesa_oracle_tables.proofs.store.PlainStore.set_evolving.Goals as goal

pub put_evolving-requires : goal.put_evolving-requires
put_evolving-requires c =
    let s = c.self.inside in
    omega (arith, c.requires.there, ap (λ (v : Versioned). length v.store.tables) c.self.view_is, length-tables_in (from_of s.floor s.oldests) 0 s.totals s.versions.items (map known_of s.tables.items), length-map s.tables.items known_of)

pub invariant_of-self : goal.invariant_of-self
invariant_of-self c =
    let s = c.self.inside in
    let i = c.args.table in
    let tables = map known_of s.tables.items in
    let lt : i < length s.tables.items = omega (arith, c.requires.there, ap (λ (v : Versioned). length v.store.tables) c.self.view_is, length-tables_in (from_of s.floor s.oldests) 0 s.totals s.versions.items tables, length-map s.tables.items known_of) in
    let within : i < length tables = omega (arith, lt, length-map s.tables.items known_of) in
    let put = put_known s.tables.items c.put_evolving.new.tables.items i c.args.evolving lt c.put_evolving.ensures in
    let same = c.requires.columns ∙ sym (ap (λ (v : Versioned). columns_of (table_at v.store i).lineage) c.self.view_is) ∙ ap (λ (t : Table). columns_of t.lineage) (table_kept s.totals s.versions.items tables (from_of s.floor s.oldests) i within) in
    rw put (kept_lineage tables s.totals s.versions.items (from_of s.floor s.oldests) s.next i c.args.evolving.value c.self.invariant same)

pub returns : goal.returns
returns c =
    let s = c.self.inside in
    let i = c.args.table in
    let l = c.args.evolving.value in
    let tables = map known_of s.tables.items in
    let versions = s.versions.items in
    let lt : i < length s.tables.items = omega (arith, c.requires.there, ap (λ (v : Versioned). length v.store.tables) c.self.view_is, length-tables_in (from_of s.floor s.oldests) 0 s.totals versions tables, length-map s.tables.items known_of) in
    let put = put_known s.tables.items c.put_evolving.new.tables.items i c.args.evolving lt c.put_evolving.ensures in
    let made = ap (tables_in (from_of s.floor s.oldests) 0 s.totals versions) put ∙ tables_set (from_of s.floor s.oldests) 0 s.totals versions tables i l in
    subst (λ (v : Versioned). record { store = record { tables = tables_in (from_of s.floor s.oldests) 0 s.totals versions (map known_of c.put_evolving.new.tables.items); floor = s.floor }; next = s.next } ≡ with_lineage v i l) c.self.view_is (λ j. record { store = record { tables = made j; floor = s.floor }; next = s.next })
