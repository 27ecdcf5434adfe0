-- What a record lets go.
use Rattle.std.proofs.Common.{◌≡◌, ℕ, ◌+◌, ◌-◌, ◌≤◌, ◌++◌, map, take, refl, ◌∙◌, ap, append_assoc}
use Rattle.std.specs.Prelude.{Option, Some, None, flat_map, option_map}
use Rattle.std.specs.declared.alloc.Global.{Global}
use Rattle.std.specs.declared.sync.Arc.{Arc}
use Rattle.std.proofs.lemmas.List.{append-nil}
use Rattle.mesa_table_records.specs.mesa_record.declared.record.Files.{Files}
use Rattle.mesa_table_records.specs.mesa_store_spec.Catalog.{Delta, start_in}
use Rattle.mesa_table_records.specs.mesa_store_spec.Fitting.{base_deltas, delta_in}
use Rattle.mesa_table_records.specs.mesa_store_spec.Ids.{delta_ids, dropped_deltas, file_ids, own_delta_id, own_id, recast_dropped}
use Rattle.mesa_table_records.specs.mesa_catalog_table.declared.table.Base.{Base}
use Rattle.mesa_table_records.specs.mesa_catalog_table.declared.table.Table.{Table}
use Rattle.mesa_table_records.specs.mesa_catalog_table.Meaning.{IsTable, ending_of, start_of_base, meta_of}
use Rattle.mesa_table_records.specs.mesa_catalog_table.Named.{base_ids, base_own, ids_if_any, ids_recast, ids_through, own_ids, own_if_any, shared_ids, single_ids, single_own, table_ids, through}
use Rattle.mesa_table_records.specs.mesa_catalog_table.Named as held
use Rattle.mesa_table_records.proofs.mesa_catalog_table.Named.{all_through, base_held, flat_map-map, flat_map-same, singles_through}
use Rattle.mesa_table_records.proofs.mesa_catalog_table.Singles.{flat_map-append, singles_give}
use Rattle.mesa_table_records.proofs.mesa_catalog_table.Tens.{tens_deltas}
use Rattle.mesa_table_records.proofs.mesa_catalog_table.Works.{starts}

files_same : (files : Option Files) → file_ids files ≡ ids_if_any files
files_same None = refl
files_same (Some f) = refl

-- the files of the deltas whose place a new base takes are those that are held up to its end
pub dropped_held : (next : ℕ) (t : Table) (to : ℕ) → IsTable next t → flat_map delta_ids (dropped_deltas (meta_of next t) to) ≡ ids_through t to
dropped_held next t to table =
    let u = meta_of next t in
    let start = start_of_base t.base in
    let gone = take (to + 1 - start_in u) u.singles in
    let singles : flat_map held.delta_ids gone ≡ flat_map single_ids (through to t.loaded.items) =
    ap (λ n. flat_map held.delta_ids (take (to + 1 - n) u.singles)) (starts next t) ∙ singles_through held.delta_ids start to next t.loaded.items refl table.loaded in
    let cumulatives = ap (flat_map held.delta_ids) (tens_deltas start t.cumulatives.items) ∙ flat_map-map held.delta_ids (λ (d : Arc Delta Global). d.value) t.cumulatives.items in
    flat_map-same delta_ids held.delta_ids (dropped_deltas u to) (λ d. files_same d.files)
    ∙ flat_map-append held.delta_ids (base_deltas u.base) (map delta_in u.cumulatives ++ gone)
    ∙ (λ i. base_held t.base i ++ flat_map-append held.delta_ids (map delta_in u.cumulatives) gone i)
    ∙ (λ i. base_ids t.base ++ (cumulatives i ++ singles i))

own_same : (files : Option Files) → own_id files ≡ own_if_any files
own_same None = refl
own_same (Some f) = refl

own_held : (b : Option Base) → flat_map own_ids (base_deltas (option_map ending_of b)) ≡ base_own b
own_held None = refl
own_held (Some b) = elim (b.delta) as (λ d. flat_map own_ids (base_deltas (Some (ending_of (record b { delta = d })))) ≡ base_own (Some (record b { delta = d }))) [ None ↦ refl | Some d ↦ append-nil (own_ids d.value) ]

-- the files that go with a recast are those that are held
pub recast_held : (next : ℕ) (t : Table) → recast_dropped (meta_of next t) ≡ ids_recast t
recast_held next t =
    let u = meta_of next t in
    let start = start_of_base t.base in
    let cumulatives : flat_map delta_ids (map delta_in u.cumulatives) ≡ flat_map shared_ids t.cumulatives.items =
    flat_map-same delta_ids held.delta_ids (map delta_in u.cumulatives) (λ d. files_same d.files)
    ∙ ap (flat_map held.delta_ids) (tens_deltas start t.cumulatives.items) ∙ flat_map-map held.delta_ids (λ (d : Arc Delta Global). d.value) t.cumulatives.items in
    let own : flat_map own_delta_id (base_deltas u.base ++ u.singles) ≡ base_own t.base ++ flat_map single_own t.loaded.items =
    flat_map-same own_delta_id own_ids (base_deltas u.base ++ u.singles) (λ d. own_same d.files)
    ∙ flat_map-append own_ids (base_deltas u.base) u.singles
    ∙ (λ i. own_held t.base i ++ singles_give own_ids start next t.loaded.items refl i) in
    (λ i. own i ++ cumulatives i) ∙ append_assoc (base_own t.base) (flat_map single_own t.loaded.items) (flat_map shared_ids t.cumulatives.items)

-- all files are held up to a version behind which there is none
pub all_held : (next to : ℕ) (t : Table) → next ≤ to + 1 → IsTable next t → ids_through t to ≡ table_ids t
all_held next to t h table = ap (λ ls. base_ids t.base ++ (flat_map shared_ids t.cumulatives.items ++ flat_map single_ids ls)) (all_through to (start_of_base t.base) next t.loaded.items h table.loaded)
