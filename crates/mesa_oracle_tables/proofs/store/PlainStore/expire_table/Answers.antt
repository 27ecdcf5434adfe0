use Rattle.std.proofs.Common.{◌≡◌, ◌∙◌, ◌<◌, ◌≤◌, ap, arith, length, map, set, subst, sym}
use Rattle.mesa_batch.specs.Numbers.{known_of}
use Rattle.mesa_model.specs.Versions.{table_from}
use Rattle.mesa_model.specs.Warehouse.{Table, table_at}
use Rattle.mesa_oracle_tables.specs.Kept.{Versioned, from_of, oldest_in, tables_in, with_table_from}
use Rattle.mesa_oracle_tables.proofs.OneVersion.{length-tables_in}
use Rattle.mesa_oracle_tables.proofs.Seen.{table_kept}
use Rattle.mesa_oracle_tables.proofs.Stores.{above_floor, kept_one, one_from}
use Rattle.mesa_oracle_tables.proofs.store.PlainStore.expire_table.Goals as goal

pub at_mut-requires : goal.at_mut-requires
at_mut-requires c =
    let s = c.self.inside in
    omega (arith, c.requires.there, ap (λ (v : Versioned). length v.store.tables) c.self.view_is, length-tables_in (from_of s.floor s.oldests) 0 s.totals s.versions.items (map known_of s.tables.items), c.self.invariant.oldests)

pub invariant_of-self : goal.invariant_of-self
invariant_of-self c =
    let s = c.self.inside in
    let from = from_of s.floor s.oldests in
    let tables = map known_of s.tables.items in
    let next = ap (λ (v : Versioned). v.next) c.self.view_is in
    let lt : c.args.table < length tables = omega (arith, c.requires.there, ap (λ (v : Versioned). length v.store.tables) c.self.view_is, length-tables_in from 0 s.totals s.versions.items tables) in
    let kept = table_kept s.totals s.versions.items tables from c.args.table lt in
    let low : oldest_in c.args.table from ≤ c.args.version = subst (λ n. n ≤ c.args.version) (sym (ap (λ (v : Versioned). (table_at v.store c.args.table).oldest) c.self.view_is) ∙ ap (λ (t : Table). t.oldest) kept) c.requires.low in
    let above = (above_floor s.floor s.next s.oldests c.args.table c.self.invariant.apart (omega (arith, lt, c.self.invariant.oldests))).0 in
    kept_one tables s.totals s.versions.items from s.next c.args.table c.args.version c.self.invariant (omega (arith, above, low)) (omega (arith, next, c.requires.high))

pub returns : goal.returns
returns c =
    let s = c.self.inside in
    let i = c.args.table in
    let from = from_of s.floor s.oldests in
    let tables = map known_of s.tables.items in
    let versions = s.versions.items in
    let lt : i < length tables = omega (arith, c.requires.there, ap (λ (v : Versioned). length v.store.tables) c.self.view_is, length-tables_in from 0 s.totals versions tables) in
    let kept = table_kept s.totals versions tables from i lt in
    let low : oldest_in i from ≤ c.args.version = subst (λ n. n ≤ c.args.version) (sym (ap (λ (v : Versioned). (table_at v.store i).oldest) c.self.view_is) ∙ ap (λ (t : Table). t.oldest) kept) c.requires.low in
    let one = one_from from s.next c.args.version i s.totals versions tables c.self.invariant.apart (sym c.self.invariant.oldests) lt low in
    let all = one ∙ ap (λ (t : Table). set (tables_in from 0 s.totals versions tables) i (table_from c.args.version t)) (sym kept) in
    subst (λ (v : Versioned). record { store = record { tables = tables_in (from_of s.floor (set s.oldests i c.args.version)) 0 s.totals versions tables; floor = s.floor }; next = s.next } ≡ with_table_from v i c.args.version) c.self.view_is (λ j. record { store = record { tables = all j; floor = s.floor }; next = s.next })
