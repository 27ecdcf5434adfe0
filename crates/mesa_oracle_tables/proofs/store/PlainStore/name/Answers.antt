use Rattle.std.proofs.Common.{◌≡◌, ◌<◌, ap, length, map, refl, subst, arith}
use Rattle.std.specs.Prelude.{IfSome, slice_get}
use Rattle.std.proofs.lemmas.List.{length-map}
use Rattle.mesa_batch.specs.Numbers.{known_of}
use Rattle.mesa_model.specs.Warehouse.{table_at}
use Rattle.mesa_oracle_tables.specs.Kept.{Versioned, from_of}
use Rattle.mesa_oracle_tables.proofs.OneVersion.{length-tables_in}
use Rattle.mesa_oracle_tables.proofs.Seen.{name_kept}
use Rattle.mesa_oracle_tables.proofs.store.PlainStore.name.Goals as goal

pub name_of-requires : goal.name_of-requires
name_of-requires c =
    let s = c.self.inside in
    omega (arith, c.requires, ap (λ (v : Versioned). length v.store.tables) c.self.view_is, length-tables_in (from_of s.floor s.oldests) 0 s.totals s.versions.items (map known_of s.tables.items), length-map s.tables.items known_of, ap length c.deref.ensures.value)

pub returns : goal.returns
returns c =
    let s = c.self.inside in
    let lt : c.args.table < length s.tables.items = omega (arith, c.requires, ap (λ (v : Versioned). length v.store.tables) c.self.view_is, length-tables_in (from_of s.floor s.oldests) 0 s.totals s.versions.items (map known_of s.tables.items), length-map s.tables.items known_of) in
    subst (λ (v : Versioned). c.name_of.result.now ≡ (table_at v.store c.args.table).name) c.self.view_is
    (name_kept known_of (λ t. t.name) (λ t. refl) s.tables.items s.totals s.versions.items (from_of s.floor s.oldests) c.args.table c.name_of.result.now lt
    (subst (λ items. IfSome (slice_get items c.args.table) (λ t. c.name_of.result.now ≡ t.name)) c.deref.ensures.value c.name_of.ensures))
