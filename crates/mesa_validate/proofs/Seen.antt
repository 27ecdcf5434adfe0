-- What a warehouse with a catalogue's tables is asked, the catalogue can tell.
use Rattle.std.proofs.Common.{◌≡◌, ℕ, ◌+◌, ◌<◌, List, [], ◌∷◌, ◌++◌, arith, drop, length, map, get_or, refl, sym, ◌∙◌, ap, Bool, true, false, cond, Option, Some, None, Result, Ok}
use Rattle.std.specs.Prelude.{◌||◌, find, flat_map, is_some, max, nat_le, option_map}
use Rattle.std.specs.List.{list_any}
use Rattle.std.proofs.Math.ListN.{get_or-map}
use Rattle.std.proofs.lemmas.List.{drop_more, length-map}
use Rattle.std.proofs.lemmas.Simd.{map-map}
use Rattle.mesa_list.specs.Bytes.{same_bytes}
use Rattle.mesa_catalog.specs.mesa_columns.declared.views.View.{View}
use Rattle.mesa_catalog.specs.mesa_columns.Columns.{place_of}
use Rattle.mesa_catalog.specs.mesa_columns.Names.{has_name}
use Rattle.mesa_catalog.specs.mesa_batch.Glance.{Known}
use Rattle.mesa_model.specs.Relations.{Relation, is_taken, relation_from, table_number}
use Rattle.mesa_filter.specs.declared.words.VersionWord.{VersionWord}
use Rattle.mesa_list.specs.Checks.{◌>>=◌, ◌>>◌, refuse_if}
use Rattle.mesa_model.specs.declared.replies.Refusal.{Refusal}
use Rattle.mesa_model.specs.declared.replies.Refusal.TheVariants as no
use Rattle.mesa_model.specs.declared.replies.Reply.{Reply}
use Rattle.mesa_model.specs.declared.replies.Reply.TheVariants as reply
use Rattle.mesa_model.specs.Pins.{make_pin, next_token, with_pin}
use Rattle.mesa_model.specs.Refusals.{refuse_closed}
use Rattle.mesa_model.specs.Versions.{common_oldest, oldest_among, version_asked}
use Rattle.mesa_model.specs.Warehouse.{max_pins, Table, Warehouse, no_table, table_at}
use Rattle.mesa_catalog.specs.mesa_store_spec.Catalog.{TableMeta, Catalog, no_meta, meta_at}
use Rattle.mesa_catalog.specs.mesa_store_spec.Fitting.{names_in}
use Rattle.mesa_catalog.specs.Lookups.{known_as}
use Rattle.mesa_catalog.specs.mesa_catalog_records.Names.{relation_of}
use Rattle.mesa_catalog.proofs.mesa_catalog_records.Relations.{known_name}
use Rattle.mesa_validate.specs.Found.{of_catalog, without_rows}
use Rattle.mesa_validate.specs.Seen.{HasCatalog, greatest_in, known_of, number_of}

-- ---- names that are taken

-- a table's name, and the names of its views
abbrev names_known : Known → List (List ℕ)
names_known k = k.name ∷ map (λ (v : View). v.name) k.lineage.views

abbrev taken_among : List ℕ → List Known → Bool
taken_among name [] = false
taken_among name (k ∷ ks) = has_name name (names_known k) || taken_among name ks

view_there : (name : List ℕ) (views : List View) → is_some (find (λ (v : View). same_bytes name v.name) views) ≡ has_name name (map (λ (v : View). v.name) views)
view_there name [] = refl
view_there name (v ∷ views) = elim (same_bytes name v.name) as (λ b. is_some (cond b (Some v) (find (λ (x : View). same_bytes name x.name) views)) ≡ (b || has_name name (map (λ (x : View). x.name) views))) [ true ↦ refl | false ↦ view_there name views ]

-- what a table decides, by whether it has the name, its view of the name, and the tables behind it
decided : (number : ℕ) (t : Table) (same : Bool) (view : Option View) (rest : Option Relation) (behind : Bool) → is_some rest ≡ behind
    → is_some {T = Relation} (elim (cond {A = Option Relation} same (Some (record { number = number; table = t; view = None })) (option_map (λ (v : View). record { number = number; table = t; view = Some v }) view)) [ None ↦ rest | Some relation ↦ Some relation ]) ≡ ((same || is_some view) || behind)
decided number t true view rest behind e = refl
decided number t false (Some v) rest behind e = refl
decided number t false None rest behind e = e

taken_model : (number : ℕ) (name : List ℕ) (ts : List Table) → is_some (relation_from number name ts) ≡ taken_among name (map known_of ts)
taken_model number name [] = refl
taken_model number name (t ∷ ts) =
    decided number t (same_bytes name t.name) (find (λ (v : View). same_bytes name v.name) t.lineage.views) (relation_from (number + 1) name ts) (taken_among name (map known_of ts)) (taken_model (number + 1) name ts)
    ∙ ap (λ b. (same_bytes name t.name || b) || taken_among name (map known_of ts)) (view_there name t.lineage.views)

any_append : {X : Type 0} (p : X → Bool) (xs ys : List X) → list_any p (xs ++ ys) ≡ (list_any p xs || list_any p ys)
any_append p [] ys = refl
any_append p (x ∷ xs) ys = elim (p x) as (λ b. (b || list_any p (xs ++ ys)) ≡ ((b || list_any p xs) || list_any p ys)) [ true ↦ refl | false ↦ any_append p xs ys ]

taken_metas : (name : List ℕ) (ts : List TableMeta) → has_name name (flat_map names_in ts) ≡ taken_among name (map known_as ts)
taken_metas name [] = refl
taken_metas name (t ∷ ts) = any_append (same_bytes name) (names_in t) (flat_map names_in ts) ∙ ap (λ b. has_name name (names_in t) || b) (taken_metas name ts)

-- a name is taken in the warehouse where the catalogue has it
pub taken_there : (c : Catalog) (w : Warehouse) (name : List ℕ) → HasCatalog c w → is_taken w.store name ≡ has_name name (flat_map names_in c.tables)
taken_there c w name has = taken_model 0 name w.store.tables ∙ ap (taken_among name) has.tables ∙ sym (taken_metas name c.tables)

pub taken_by : (c : Catalog) (w : Warehouse) (name : List ℕ) → HasCatalog c w → is_taken w.store name ≡ is_some (relation_of c name)
taken_by c w name has = taken_there c w name has ∙ sym (known_name 0 name c.tables)

-- ---- tables by name and by number

pub number_there : (c : Catalog) (w : Warehouse) (name : List ℕ) → HasCatalog c w → table_number w.store name ≡ number_of c name
number_there c w name has =
    ap (place_of name) (sym (map-map (λ (k : Known). k.name) known_of w.store.tables) ∙ ap (map (λ (k : Known). k.name)) has.tables ∙ map-map (λ (k : Known). k.name) known_as c.tables)

pub known_there : (c : Catalog) (w : Warehouse) (number : ℕ) → HasCatalog c w → known_of (table_at w.store number) ≡ known_as (meta_at c number)
known_there c w number has = sym (get_or-map known_of w.store.tables number no_table) ∙ ap (λ ks. get_or ks number (known_of no_table)) has.tables ∙ get_or-map known_as c.tables number no_meta

pub lineage_there : (c : Catalog) (w : Warehouse) (number : ℕ) → HasCatalog c w → (table_at w.store number).lineage ≡ (meta_at c number).lineage
lineage_there c w number has = ap (λ (k : Known). k.lineage) (known_there c w number has)

pub count_there : (c : Catalog) (w : Warehouse) → HasCatalog c w → length w.store.tables ≡ length c.tables
count_there c w has = sym (length-map w.store.tables known_of) ∙ ap length has.tables ∙ length-map c.tables known_as

-- ---- versions

pub oldest_there : (c : Catalog) (w : Warehouse) (number : ℕ) → HasCatalog c w → (table_at w.store number).oldest ≡ (meta_at c number).oldest
oldest_there c w number has =
    sym (get_or-map (λ (t : Table). t.oldest) w.store.tables number no_table) ∙ ap (λ ns. get_or ns number 0) has.oldests ∙ get_or-map (λ (t : TableMeta). t.oldest) c.tables number no_meta

greatest_same : (floor : ℕ) (ts : List Table) (ss : List TableMeta) → map (λ (t : Table). t.oldest) ts ≡ map (λ (t : TableMeta). t.oldest) ss → oldest_among floor ts ≡ greatest_in floor ss
greatest_same floor [] [] same = refl
greatest_same floor [] (s ∷ ss) same = absurd cc
greatest_same floor (t ∷ ts) [] same = absurd cc
greatest_same floor (t ∷ ts) (s ∷ ss) same =
    let first : t.oldest ≡ s.oldest = cc in
    let others : map (λ (t : Table). t.oldest) ts ≡ map (λ (t : TableMeta). t.oldest) ss = cc in
    λ j. max (first j) (greatest_same floor ts ss others j)

pub common_there : (c : Catalog) (w : Warehouse) → HasCatalog c w → common_oldest w.store ≡ greatest_in c.floor c.tables
common_there c w has = ap (λ n. oldest_among n w.store.tables) has.floor ∙ greatest_same c.floor w.store.tables c.tables has.oldests

greatest_next : (found oldest : ℕ) (rest : List TableMeta) → greatest_in (max found oldest) rest ≡ max oldest (greatest_in found rest)
greatest_next found oldest [] = omega arith
greatest_next found oldest (next ∷ rest) =
    let before = greatest_next found oldest rest in
    omega (arith, before)

pub greatest_step : (found : ℕ) (tables : List TableMeta) (i whole : ℕ) → i < length tables → greatest_in found (drop i tables) ≡ whole → greatest_in (max found (get_or tables i no_meta).oldest) (drop (i + 1) tables) ≡ whole
greatest_step found tables i whole lt before =
    greatest_next found (get_or tables i no_meta).oldest (drop (i + 1) tables) ∙ sym (ap (greatest_in found) (drop_more tables i no_meta lt)) ∙ before

-- the catalogue itself is such a warehouse
pub catalog_has : (c : Catalog) → HasCatalog c (of_catalog c)
catalog_has c = record {
  opened = refl;
  tables = map-map known_of without_rows c.tables;
  oldests = map-map (λ (t : Table). t.oldest) without_rows c.tables;
  floor = refl;
  next = refl;
}

-- ---- pins

-- what making a pin comes to, by the version that is asked and by whether as many pins are held as there may be
abbrev pub pin_behind : Warehouse → ℕ → Result ℕ Refusal → Bool → Result (Warehouse × Reply) Refusal
pin_behind w session q full = q >>= (λ version. refuse_if full (no.PinsFull max_pins) >> Ok (with_pin w session version, reply.Pinned (next_token w session) version))

pub pinned_by : (c : Catalog) (w : Warehouse) (session : ℕ) (asked : VersionWord) (oldest : ℕ) (q : Result ℕ Refusal) (full : Bool) → HasCatalog c w → oldest ≡ greatest_in c.floor c.tables → q ≡ version_asked w oldest asked → nat_le max_pins (length w.pins) ≡ full
    → make_pin w session asked ≡ pin_behind w session q full
pinned_by c w session asked oldest q full has is found many =
    let version : version_asked w (common_oldest w.store) asked ≡ q = ap (λ o. version_asked w o asked) (common_there c w has ∙ sym is) ∙ sym found in
    λ j. refuse_closed (has.opened j) >> pin_behind w session (version j) (many j)
