-- A table with a version more.
use Rattle.std.proofs.Common.{◌≡◌, ℕ, ◌+◌, ◌≤◌, [], ◌∷◌, ◌++◌, refl, sym, ◌∙◌, ap, subst, arith}
use Rattle.std.specs.Prelude.{Some, None, Vec}
use Rattle.std.specs.declared.alloc.Global.{Global}
use Rattle.mesa_catalog_table.specs.mesa_store_spec.Catalog.{meta_loaded}
use Rattle.mesa_catalog_table.specs.declared.table.Loaded.{Loaded}
use Rattle.mesa_catalog_table.specs.declared.table.Table.{Table}
use Rattle.mesa_table_records.specs.declared.ready.ReadyPart.{ReadyPart}
use Rattle.mesa_catalog_table.specs.Meaning.{AreLoaded, IsTable, singles_from, start_of_base, meta_of}
use Rattle.mesa_table_records.specs.Readied.{IsPartOf, part_in}
use Rattle.mesa_catalog_table.proofs.Singles.{loaded_next, loaded_pushed, singles_next, singles_pushed}

behind : (next : ℕ) (t : Table) → IsTable next t → start_of_base t.base ≤ next
behind next t table = let tens = table.tens in omega arith

pub loaded_nothing : (next : ℕ) (t : Table) → IsTable next t → meta_of (next + 1) t ≡ meta_loaded (meta_of next t) None
loaded_nothing next t table =
    let singles = singles_next (start_of_base t.base) next t.loaded.items (behind next t table) table.loaded in
    λ i. record (meta_of next t) { singles = singles i }

pub table_next : (next : ℕ) (t : Table) → IsTable next t → IsTable (next + 1) t
table_next next t table = record {
  tens = let tens = table.tens in omega arith;
  loaded = loaded_next (start_of_base t.base) next t.loaded.items table.loaded;
  oldest = omega (arith, table.oldest);
  widths = table.widths;
}

pub loaded_part : (next : ℕ) (t : Table) (p : ReadyPart) (loaded : Vec Loaded Global) → IsTable next t → IsPartOf t p → loaded.items ≡ t.loaded.items ++ record { version = next; delta = p.delta } ∷ []
    → meta_of (next + 1) (record t { totals = p.totals; loaded = loaded }) ≡ meta_loaded (meta_of next t) (Some (part_in p))
loaded_part next t p loaded table part is =
    let singles =
    ap (singles_from (start_of_base t.base) (next + 1)) is
    ∙ singles_pushed (start_of_base t.base) next t.loaded.items (record { version = next; delta = p.delta }) (behind next t table) table.loaded refl
    ∙ ap (λ d. singles_from (start_of_base t.base) next t.loaded.items ++ d ∷ []) part.delta in
    λ i. record (meta_of next t) { totals = part.totals i; singles = singles i }

pub table_part : (next : ℕ) (t : Table) (p : ReadyPart) (loaded : Vec Loaded Global) → IsTable next t → loaded.items ≡ t.loaded.items ++ record { version = next; delta = p.delta } ∷ []
    → IsTable (next + 1) (record t { totals = p.totals; loaded = loaded })
table_part next t p loaded table is = record {
  tens = let tens = table.tens in omega arith;
  loaded = subst (AreLoaded (start_of_base t.base) (next + 1)) (sym is) (loaded_pushed (start_of_base t.base) next t.loaded.items (record { version = next; delta = p.delta }) (behind next t table) table.loaded refl);
  oldest = omega (arith, table.oldest);
  widths = table.widths;
}
