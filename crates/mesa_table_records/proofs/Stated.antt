-- What is stated of a table that is held.
use Rattle.std.proofs.Common.{◌≡◌, ℕ, zero, suc, ◌+◌, ◌-◌, ◌≤◌, ◌<◌, List, [], ◌∷◌, ◌++◌, length, map, take, get_or, sym, ◌∙◌, ap, arith}
use Rattle.std.specs.Prelude.{flat_map, replicate, option_map}
use Rattle.std.specs.declared.alloc.Global.{Global}
use Rattle.std.specs.declared.sync.Arc.{Arc}
use Rattle.std.proofs.lemmas.List.{append-nil, length-take-le, map-append, take_more}
use Rattle.mesa_catalog_table.specs.mesa_span.Ranges.{end_of}
use Rattle.mesa_catalog_table.specs.mesa_record.declared.checkpoint.CheckpointTable.{CheckpointTable}
use Rattle.mesa_catalog_table.specs.mesa_store_spec.Catalog.{Delta, empty_delta}
use Rattle.mesa_catalog_table.specs.mesa_store_spec.Checkpoint.{stating_range, stating_singles, stating_table}
use Rattle.mesa_catalog_table.specs.declared.table.Loaded.{Loaded}
use Rattle.mesa_catalog_table.specs.declared.table.Table.{Table}
use Rattle.mesa_catalog_table.specs.Meaning.{AreLoaded, IsTable, ending_of, singles_from, start_of_base, meta_of, tens_from}
use Rattle.mesa_table_records.specs.Stated.{stating_loaded}
use Rattle.mesa_catalog_table.proofs.Tens.{tens_pushed}
use Rattle.mesa_catalog_table.proofs.Works.{starts}

-- what is stated of one cumulative more
pub ten_stated : (start to : ℕ) (ds : List (Arc Delta Global)) (i : ℕ) (d : Arc Delta Global) → i < length ds → d ≡ get_or ds i d → to ≡ end_of start i
    → map stating_range (tens_from start (take (i + 1) ds)) ≡ map stating_range (tens_from start (take i ds)) ++ stating_range (record { to = to; delta = d.value }) ∷ []
ten_stated start to ds i d h is end =
    let count : length (take i ds) ≡ i = length-take-le i ds (omega (arith, h)) in
    let same : end_of start (length (take i ds)) ≡ to = ap (end_of start) count ∙ sym end in
    ap (λ es. map stating_range (tens_from start es)) (take_more ds i d h ∙ ap (λ x. take i ds ++ x ∷ []) (sym is))
    ∙ ap (map stating_range) (tens_pushed start (take i ds) d)
    ∙ map-append stating_range (tens_from start (take i ds)) _
    ∙ ap (λ n. map stating_range (tens_from start (take i ds)) ++ stating_range (record { to = n; delta = d.value }) ∷ []) same

-- of versions that brought nothing nothing is stated
empties_stated : (from n : ℕ) (ds : List Delta) → stating_singles from (replicate n empty_delta ++ ds) ≡ stating_singles (from + n) ds
empties_stated from zero ds = let none : from ≡ from + 0 = omega arith in ap (λ v. stating_singles v ds) none
empties_stated from (suc n) ds = let next : from + 1 + n ≡ from + suc n = omega arith in empties_stated (from + 1) n ds ∙ ap (λ v. stating_singles v ds) next

-- only of what was loaded is anything stated
pub singles_stated : (from next : ℕ) (loaded : List Loaded) → AreLoaded from next loaded → stating_singles from (singles_from from next loaded) ≡ flat_map stating_loaded loaded
singles_stated from next [] are = ap (stating_singles from) (sym (append-nil (replicate (next - from) empty_delta))) ∙ empties_stated from (next - from) []
singles_stated from next (l ∷ loaded) are =
    let low : from ≤ l.version = are.0 in
    let here : from + (l.version - from) ≡ l.version = omega (arith, low) in
    empties_stated from (l.version - from) (l.delta.value ∷ singles_from (l.version + 1) next loaded)
    ∙ ap (λ v. stating_singles v (l.delta.value ∷ singles_from (l.version + 1) next loaded)) here
    ∙ ap (λ ss. stating_loaded l ++ ss) (singles_stated (l.version + 1) next loaded are.2)

-- What is stated of a table.
pub record IsStated (t : Table) (s : CheckpointTable) : Type 0 where
  pub name : s.name ≡ t.name
  pub oldest : s.oldest ≡ t.oldest
  pub begins : s.begins ≡ t.evolving.value.begins
  pub keys : s.keys ≡ t.evolving.value.first.keys
  pub values : s.values ≡ t.evolving.value.first.values
  pub changes : s.changes ≡ t.evolving.value.changes
  pub views : s.views ≡ t.evolving.value.views
  pub totals : s.totals ≡ t.totals
  pub base : s.base ≡ option_map stating_range (option_map ending_of t.base)
  pub cumulatives : s.cumulatives ≡ map stating_range (tens_from (start_of_base t.base) t.cumulatives.items)
  pub singles : s.singles ≡ flat_map stating_loaded t.loaded.items

pub table_stated : (next : ℕ) (t : Table) (s : CheckpointTable) → IsTable next t → IsStated t s → s ≡ stating_table (meta_of next t)
table_stated next t s table is =
    let start = sym (starts next t) in
    let singles = is.singles ∙ sym (singles_stated (start_of_base t.base) next t.loaded.items table.loaded) ∙ ap (λ from. stating_singles from (singles_from (start_of_base t.base) next t.loaded.items)) start in
    λ i. record { name = is.name i; oldest = is.oldest i; begins = is.begins i; keys = is.keys i; values = is.values i; changes = is.changes i; views = is.views i; totals = is.totals i; base = is.base i; cumulatives = is.cumulatives i; singles = singles i }
