use Rattle.std.proofs.Common.{◌≡◌, ◌∙◌, ◌<◌, ap, arith, get_or, length, map, subst, sym}
use Rattle.mesa_batch.specs.Numbers.{known_of}
use Rattle.mesa_model.specs.Warehouse.{Table, table_at}
use Rattle.mesa_oracle_tables.specs.Kept.{Versioned, from_of}
use Rattle.mesa_oracle_tables.proofs.OneVersion.{length-tables_in}
use Rattle.mesa_oracle_tables.proofs.Seen.{table_kept}
use Rattle.mesa_oracle_tables.proofs.Stores.{above_floor}
use Rattle.mesa_oracle_tables.proofs.store.PlainStore.oldest.Goals as goal

pub oldest_of-requires : goal.oldest_of-requires
oldest_of-requires c =
    let s = c.self.inside in
    omega (arith, c.requires, ap (λ (v : Versioned). length v.store.tables) c.self.view_is, length-tables_in (from_of s.floor s.oldests) 0 s.totals s.versions.items (map known_of s.tables.items), c.self.invariant.oldests, ap length c.as_slice.ensures)

pub returns-clause-oldest : goal.returns-clause-oldest
returns-clause-oldest c =
    let s = c.self.inside in
    let from = from_of s.floor s.oldests in
    let tables = map known_of s.tables.items in
    let lt : c.args.table < length tables = omega (arith, c.requires, ap (λ (v : Versioned). length v.store.tables) c.self.view_is, length-tables_in from 0 s.totals s.versions.items tables) in
    subst (λ (v : Versioned). c.oldest_of.result ≡ (table_at v.store c.args.table).oldest) c.self.view_is
    (c.oldest_of.ensures ∙ ap (λ ns. get_or ns c.args.table 0) c.as_slice.ensures ∙ sym (ap (λ (t : Table). t.oldest) (table_kept s.totals s.versions.items tables from c.args.table lt)))

pub returns-clause-above : goal.returns-clause-above
returns-clause-above c =
    let s = c.self.inside in
    let lt : c.args.table < length s.oldests = omega (arith, c.requires, ap (λ (v : Versioned). length v.store.tables) c.self.view_is, length-tables_in (from_of s.floor s.oldests) 0 s.totals s.versions.items (map known_of s.tables.items), c.self.invariant.oldests) in
    let is = c.oldest_of.ensures ∙ ap (λ ns. get_or ns c.args.table 0) c.as_slice.ensures in
    let own = above_floor s.floor s.next s.oldests c.args.table c.self.invariant.apart lt in
    let first = own.0 in
    omega (arith, is, first, ap (λ (v : Versioned). v.store.floor) c.self.view_is)

pub returns-clause-there : goal.returns-clause-there
returns-clause-there c =
    let s = c.self.inside in
    let lt : c.args.table < length s.oldests = omega (arith, c.requires, ap (λ (v : Versioned). length v.store.tables) c.self.view_is, length-tables_in (from_of s.floor s.oldests) 0 s.totals s.versions.items (map known_of s.tables.items), c.self.invariant.oldests) in
    let is = c.oldest_of.ensures ∙ ap (λ ns. get_or ns c.args.table 0) c.as_slice.ensures in
    rw (is, sym (ap (λ (v : Versioned). v.next) c.self.view_is)) (above_floor s.floor s.next s.oldests c.args.table c.self.invariant.apart lt).1
