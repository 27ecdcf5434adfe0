use Rattle.std.proofs.Common.{◌≡◌, ◌∙◌, map, subst}
use Rattle.std.specs.Prelude.{IfSome, option_map}
use Rattle.mesa_batch.specs.Numbers.{known_of}
use Rattle.mesa_model.specs.Relations.{relation_from, relation_of}
use Rattle.mesa_oracle_tables.specs.Found.{IsThere, relation_at, relation_seen}
use Rattle.mesa_oracle_tables.specs.Kept.{Versioned, from_of, tables_in}
use Rattle.mesa_oracle_tables.proofs.Seen.{found_kept, places_kept, within_known}
use Rattle.mesa_oracle_tables.proofs.store.PlainStore.find.Goals as goal

pub returns-clause-found : goal.returns-clause-found
returns-clause-found c =
    let s = c.self.inside in
    let found = c.relation_place.result in
    let same = c.deref.ensures.value in
    let within = within_known known_of c.deref.result.now s.tables.items found same c.relation_place.ensures.within in
    let read : relation_from 0 c.args.name.now (tables_in (from_of s.floor s.oldests) 0 s.totals s.versions.items (map known_of s.tables.items)) ≡ option_map (relation_at (from_of s.floor s.oldests) s.totals s.versions.items (map known_of s.tables.items)) found =
    subst (λ items. relation_from 0 c.args.name.now (tables_in (from_of s.floor s.oldests) 0 s.totals s.versions.items (map known_of items)) ≡ option_map (relation_at (from_of s.floor s.oldests) s.totals s.versions.items (map known_of items)) found) same (c.relation_place.ensures.found (from_of s.floor s.oldests) s.totals s.versions.items) in
    subst (λ (v : Versioned). relation_of v.store c.args.name.now ≡ option_map (relation_seen v.store) found) c.self.view_is (read ∙ found_kept s.totals s.versions.items (map known_of s.tables.items) (from_of s.floor s.oldests) found within)

pub returns-clause-there : goal.returns-clause-there
returns-clause-there c =
    let s = c.self.inside in
    let found = c.relation_place.result in
    let same = c.deref.ensures.value in
    subst (λ (v : Versioned). IfSome found (IsThere v.store)) c.self.view_is
    (subst (λ items. IfSome found (IsThere (record { tables = tables_in (from_of s.floor s.oldests) 0 s.totals s.versions.items (map known_of items); floor = s.floor }))) same
    (places_kept known_of c.deref.result.now s.totals s.versions.items (from_of s.floor s.oldests) found c.relation_place.ensures.within c.relation_place.ensures.view_within))
