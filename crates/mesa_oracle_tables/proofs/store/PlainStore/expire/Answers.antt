use Rattle.std.proofs.Common.{◌≡◌, ◌∙◌, ◌-◌, ap, subst, map, arith}
use Rattle.mesa_batch.specs.Numbers.{known_of}
use Rattle.mesa_model.specs.Versions.{store_from}
use Rattle.mesa_oracle_tables.specs.Kept.{Versioned, from_of, tables_in}
use Rattle.mesa_oracle_tables.proofs.Stores.{kept_from, tables_from}
use Rattle.mesa_oracle_tables.proofs.store.PlainStore.expire.Goals as goal

pub invariant_of-self : goal.invariant_of-self
invariant_of-self c =
    let s = c.self.inside in
    let m = c.args.version - s.floor in
    let floor = ap (λ (v : Versioned). v.store.floor) c.self.view_is in
    let next = ap (λ (v : Versioned). v.next) c.self.view_is in
    rw (c.drop_front.ensures, c.raise.ensures) (kept_from (map known_of s.tables.items) s.totals s.versions.items (from_of s.floor s.oldests) s.next c.args.version c.self.invariant (omega (arith, floor, c.requires.low)) (omega (arith, next, c.requires.high)))

pub returns : goal.returns
returns c =
    let s = c.self.inside in
    let m = c.args.version - s.floor in
    let from = from_of s.floor s.oldests in
    let tables = map known_of s.tables.items in
    let floor = ap (λ (v : Versioned). v.store.floor) c.self.view_is in
    let dropped = (λ j. tables_in (from_of c.args.version (c.raise.ensures j)) 0 s.totals (c.drop_front.ensures j) tables)
    ∙ tables_from from s.next c.args.version 0 s.totals s.versions.items tables c.self.invariant.apart (omega (arith, c.self.invariant.oldests)) (omega (arith, floor, c.requires.low)) in
    subst (λ (v : Versioned). record { store = record { tables = tables_in (from_of c.args.version c.raise.new.oldests) 0 s.totals c.drop_front.new.versions.items tables; floor = c.args.version }; next = s.next } ≡ record { store = store_from v.store c.args.version; next = v.next }) c.self.view_is (λ j. record { store = record { tables = dropped j; floor = c.args.version }; next = s.next })
