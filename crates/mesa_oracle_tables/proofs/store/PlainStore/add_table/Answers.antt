use Rattle.std.proofs.Common.{◌≡◌, ◌∙◌, ◌<◌, ◌++◌, ◌∷◌, [], ℕ, List, ap, sym, subst, map, length, replicate}
use Rattle.std.proofs.lemmas.List.{map-append}
use Rattle.mesa_answer.specs.mesa_columns.Columns.{aggs_of}
use Rattle.mesa_schema.specs.Changes.{Lineage, columns_of}
use Rattle.mesa_batch.specs.declared.glance.Glanced.{Glanced}
use Rattle.mesa_batch.specs.Numbers.{known_of}
use Rattle.mesa_batch.specs.Totals.{sums_in}
use Rattle.mesa_model.specs.Warehouse.{max_tables}
use Rattle.mesa_oracle_tables.specs.Kept.{Versioned, from_of, tables_in, with_table_more}
use Rattle.mesa_oracle_tables.proofs.Adding.{added, kept_more}
use Rattle.mesa_oracle_tables.proofs.OneVersion.{length-tables_in}
use Rattle.mesa_oracle_tables.proofs.store.PlainStore.add_table.Goals as goal

pub invariant_of-self-2 : goal.invariant_of-self-2
invariant_of-self-2 c =
    let s = c.self.inside in
    let tables = map known_of s.tables.items in
    let g : Glanced = record { name = c.args.name; evolving = c.in_ok-evolving.evolving } in
    let lineage : c.in_ok-evolving.evolving.value ≡ record { begins = 0; first = c.args.schema; changes = []; views = [] } = c.in_ok-evolving.ensures.ok ∙ c.new.ensures in
    let zeros : c.in_ok-totals.totals ≡ replicate (sums_in (aggs_of (columns_of c.in_ok-evolving.evolving.value))) 0 = c.in_ok-totals.ensures ∙ ap (λ (l : Lineage). replicate (sums_in (aggs_of (columns_of l))) 0) (sym lineage) in
    let pushed : map known_of c.push_table.new.tables.items ≡ tables ++ known_of g ∷ [] = ap (map known_of) (c.push_table.ensures ∙ ap (λ (ts : List Glanced). ts ++ g ∷ []) c.in_ok-reserve.ensures.items) ∙ map-append known_of s.tables.items (g ∷ []) in
    let more : c.push.new.self ≡ s.oldests ++ s.floor ∷ [] = c.in_ok-push.ensures.ok ∙ ap (λ (ns : List ℕ). ns ++ s.floor ∷ []) c.in_ok-oldests.ensures in
    let few : length tables < max_tables = subst (λ n. n < max_tables) (ap (λ (v : Versioned). length v.store.tables) (sym c.self.view_is) ∙ length-tables_in (from_of s.floor s.oldests) 0 s.totals s.versions.items tables) c.requires.few in
    rw (pushed, c.in_ok-push-2.ensures.ok, more) (kept_more tables s.totals s.versions.items (from_of s.floor s.oldests) s.next (known_of g) c.in_ok-totals.totals c.self.invariant few zeros)

pub returns-clause-added : goal.returns-clause-added
returns-clause-added c =
    let s = c.self.inside in
    let tables = map known_of s.tables.items in
    let versions = s.versions.items in
    let g : Glanced = record { name = c.args.name; evolving = c.in_ok-evolving.evolving } in
    let lineage : c.in_ok-evolving.evolving.value ≡ record { begins = 0; first = c.args.schema; changes = []; views = [] } = c.in_ok-evolving.ensures.ok ∙ c.new.ensures in
    let pushed : map known_of c.push_table.new.tables.items ≡ tables ++ known_of g ∷ [] = ap (map known_of) (c.push_table.ensures ∙ ap (λ (ts : List Glanced). ts ++ g ∷ []) c.in_ok-reserve.ensures.items) ∙ map-append known_of s.tables.items (g ∷ []) in
    let more : c.push.new.self ≡ s.oldests ++ s.floor ∷ [] = c.in_ok-push.ensures.ok ∙ ap (λ (ns : List ℕ). ns ++ s.floor ∷ []) c.in_ok-oldests.ensures in
    let made = (λ j. tables_in (from_of s.floor (more j)) 0 (c.in_ok-push-2.ensures.ok j) versions (pushed j)) ∙ added tables s.totals versions (from_of s.floor s.oldests) s.next (known_of g) c.in_ok-totals.totals c.args.schema c.self.invariant lineage c.in_ok-totals.ensures in
    subst (λ (v : Versioned). record { store = record { tables = tables_in (from_of s.floor c.push.new.self) 0 c.push-2.new.self versions (map known_of c.push_table.new.tables.items); floor = s.floor }; next = s.next } ≡ with_table_more v c.args.name c.args.schema) c.self.view_is (λ j. record { store = record { tables = made j; floor = s.floor }; next = s.next })
