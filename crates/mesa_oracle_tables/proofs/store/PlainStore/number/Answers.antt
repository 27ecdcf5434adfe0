use Rattle.std.proofs.Common.{◌≡◌, ◌∙◌, ◌<◌, List, ap, length, map, subst, sym}
use Rattle.std.specs.Prelude.{IfSome}
use Rattle.std.proofs.lemmas.List.{length-map}
use Rattle.mesa_batch.specs.declared.glance.Glanced.{Glanced}
use Rattle.mesa_batch.specs.Numbers.{known_of}
use Rattle.mesa_answer.specs.mesa_columns.Columns.{place_of}
use Rattle.mesa_model.specs.Relations.{table_number}
use Rattle.mesa_oracle_tables.specs.Kept.{Versioned, from_of, tables_in}
use Rattle.mesa_oracle_tables.proofs.Lineages.{names_kept}
use Rattle.mesa_oracle_tables.proofs.OneVersion.{length-tables_in}
use Rattle.mesa_oracle_tables.proofs.store.PlainStore.number.Goals as goal

pub returns-clause-number : goal.returns-clause-number
returns-clause-number c =
    let s = c.self.inside in
    let name = c.args.name.now in
    subst (λ (v : Versioned). c.table_place.result ≡ table_number v.store name) c.self.view_is
    (c.table_place.ensures.place
    ∙ ap (λ (tables : List Glanced). place_of name (map (λ (t : Glanced). t.name) tables)) c.deref.ensures.value
    ∙ ap (place_of name) (sym (names_kept (from_of s.floor s.oldests) 0 s.totals s.versions.items s.tables.items)))

pub returns-clause-there : goal.returns-clause-there
returns-clause-there c =
    let s = c.self.inside in
    let many : length c.deref.result.now ≡ length (tables_in (from_of s.floor s.oldests) 0 s.totals s.versions.items (map known_of s.tables.items)) =
    ap length c.deref.ensures.value ∙ sym (length-map s.tables.items known_of) ∙ sym (length-tables_in (from_of s.floor s.oldests) 0 s.totals s.versions.items (map known_of s.tables.items)) in
    subst (λ (v : Versioned). IfSome c.table_place.result (λ table. table < length v.store.tables)) c.self.view_is
    (subst (λ n. IfSome c.table_place.result (λ table. table < n)) many c.table_place.ensures.within)
