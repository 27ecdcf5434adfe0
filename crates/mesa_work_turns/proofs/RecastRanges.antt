-- What a recast has of its ranges.
use Rattle.std.proofs.Common.{◌≡◌, ◌∙◌, ⊎_elim, inl, inr, ℕ, ◌+◌, ◌-◌, ◌<◌, List, [], ◌∷◌, ◌++◌, length, map, true, Bool, refl, sym, ap, subst, arith, zero-add, Option, None, Some}
use Rattle.std.specs.Prelude.{IfSome, option_map, option_to_list, slice_get}
use Rattle.std.specs.List.{AllByRecursion}
use Rattle.mesa_write_turns.specs.mesa_batch.Totals.{abs_total, sum_bound}
use Rattle.mesa_engine.specs.mesa_commit.Images.{Has}
use Rattle.mesa_disk.specs.Image.{Image}
use Rattle.mesa_disk.specs.Story.{Story}
use Rattle.mesa_file.specs.declared.damage.Damage.{Damage}
use Rattle.mesa_read_turns.specs.mesa_value.declared.Agg.TheVariants.{Sum}
use Rattle.mesa_write_turns.specs.mesa_schema.Changes.{Lineage, columns_at, columns_of, epoch_of, lifted}
use Rattle.mesa_write_turns.specs.mesa_columns.Columns.{aggs_of}
use Rattle.mesa_open_files.specs.mesa_fold.Folded.{folded, rows_of}
use Rattle.mesa_write_turns.specs.mesa_columns.declared.rows.Row.{Row}
use Rattle.mesa_read_turns.proofs.mesa_fold.RisingRows.{folded_rise}
use Rattle.mesa_write_turns.specs.mesa_columns.Rows.{keys_rise}
use Rattle.mesa_record.specs.declared.record.Files.{Files}
use Rattle.mesa_delta.specs.declared.input.Input.{Input}
use Rattle.mesa_write_turns.specs.mesa_history_spec.Sources.{Written, range_rows, source_at, sources_from}
use Rattle.mesa_model.specs.declared.entries.Entry.{Entry}
use Rattle.mesa_read_turns.specs.mesa_pick_files.Ranges.{IsDamagedRange, IsEmptyRange, IsOfRange, IsOneOf, IsOpenedRange, Ranged, base_ranged, range_wanted, ranged, singles_ranged}
use Rattle.mesa_read_turns.specs.mesa_pick_files.Files.{Want}
use Rattle.mesa_engine.specs.mesa_store_spec.Catalog.{Delta, Ending, TableMeta, end_in, start_in, meta_at}
use Rattle.mesa_engine.specs.mesa_store_spec.Contents.{Rows, present, rows_if_any}
use Rattle.mesa_engine.specs.mesa_store_spec.Fitting.{base_deltas, delta_in, delta_live, deltas_of, files_live, live_files}
use Rattle.mesa_engine.specs.mesa_store_spec.Shape.{IsShaped}
use Rattle.mesa_engine.specs.mesa_store_spec.Sound.{HasSoundRows, bytes_of, wants}
use Rattle.mesa_engine.specs.EngineState.{EngineState}
use Rattle.mesa_engine.specs.Vault.{Origin, IsVault, written_by}
use Rattle.mesa_engine.specs.mesa_store_spec.Sourced.{AreMadeOf, IsMadeOf, IsSourced}
use Rattle.mesa_write_turns.specs.mesa_invariant_spec.Invariant.{Outset}
use Rattle.mesa_engine.proofs.Standing.{held_there}
use Rattle.mesa_engine.proofs.mesa_store_spec.AllSourced.{epochs_written, own as own_sources}
use Rattle.mesa_engine.proofs.mesa_store_spec.Lists.{all_back, all_front, all_unflat, meta_found}
use Rattle.mesa_engine.proofs.mesa_store_spec.Rising.{folds_itself}
use Rattle.mesa_read_turns.specs.mesa_pick_files.Read.{own_file}
use Rattle.mesa_read_turns.proofs.mesa_pick_files.Given.{AreGiven, IsGiven, all_told}
use Rattle.mesa_read_turns.proofs.mesa_pick_files.Sums.{abs_append, all_below}
use Rattle.mesa_read_turns.proofs.mesa_pick_files.Telling.{meta_given}
use Rattle.mesa_span.specs.Ranges.{start_behind}
use Rattle.mesa_write_turns.specs.mesa_file_records.Recasts.{HasItsRange, HasItsRanges}
use Rattle.mesa_copy.specs.mesa_compact.Bounded.{AreBounded}
use Rattle.mesa_read_turns.specs.mesa_merge.Inputs.{AreTold, knowns_of, lifted_parts}
use Rattle.mesa_copy.specs.Copying.{AreRangesBounded, IsRecastBounded}
use Rattle.mesa_open_files.specs.Inputs.{AreInputsTo, present_parts}
use Rattle.mesa_open_files.specs.Recasts.{AreRangesOf, own, recast_table}
use Rattle.mesa_open_files.specs.declared.recasting.Recast.{Recast}
use Rattle.mesa_open_files.specs.declared.recasting.RecastRange.{RecastRange}
use Rattle.mesa_work_turns.proofs.Grants.{shaped_at}
use Rattle.mesa_work_turns.proofs.Sound.{present_lifted, same_folded, told_inputs}

-- what is so of all is so of one
all_one : (P : Ranged → Type 0) (xs : List Ranged) → AllByRecursion P xs → (x : Ranged) → IsOneOf x xs → P x
all_one P [] all x one = absurd one
all_one P (y ∷ ys) all x (inl same) = subst P (sym same) all.0
all_one P (y ∷ ys) all x (inr later) = all_one P ys all.1 x later

all_joined : (P : Ranged → Type 0) (xs ys : List Ranged) → AllByRecursion P xs → AllByRecursion P ys → AllByRecursion P (xs ++ ys)
all_joined P [] ys a b = b
all_joined P (x ∷ xs) ys a b = (a.0, all_joined P xs ys a.1 b)

-- ---- each ends before the next version

singles_end : (version next : ℕ) (ds : List Delta) → version + length ds ≡ next → AllByRecursion (λ (r : Ranged). r.to < next) (singles_ranged version ds)
singles_end version next [] same = tt
singles_end version next (d ∷ ds) same = (omega (arith, same), singles_end (version + 1) next ds (omega (arith, same)))

base_ends : (next : ℕ) (base : Option Ending) (count : ℕ) → start_behind (option_map end_in base) + count ≡ next → AllByRecursion (λ (r : Ranged). r.to < next) (base_ranged base)
base_ends next None count same = tt
base_ends next (Some e) count same = (omega (arith, same), tt)

module _ {R : Type 0} (bytes : R → Option (List ℕ)) (faults : R → ℕ) (told : Option Image) where
  pub ranges_end : (floor next : ℕ) (u : TableMeta) → IsShaped floor next u → (xs : List (RecastRange R)) → AllByRecursion (IsOfRange bytes faults told u) xs → AllByRecursion (λ (x : RecastRange R). x.to < next) xs
  ranges_end floor next u shaped [] are = tt
  ranges_end floor next u shaped (x ∷ xs) are = (
    ⊎_elim
        (λ (is : IsOpenedRange bytes faults told u x). subst (λ n. n < next) (sym is.opened.at_to) (all_one (λ (r : Ranged). r.to < next) (ranged u) all is.range is.one))
        (λ (is : IsEmptyRange u x). subst (λ n. n < next) (sym is.at_to) (all_one (λ (r : Ranged). r.to < next) (ranged u) all is.range is.one))
        are.0,
    ranges_end floor next u shaped xs are.1,
  )
    where
      all : AllByRecursion (λ (r : Ranged). r.to < next) (ranged u)
      all = all_joined (λ (r : Ranged). r.to < next) (base_ranged u.base) (singles_ranged (start_in u) u.singles) (base_ends next u.base (length u.singles) shaped.singles) (singles_end (start_in u) next u.singles shaped.singles)

  -- ---- each file is the table's

  own_inputs : (u : TableMeta) (x : RecastRange R) → IsOfRange bytes faults told u x → AreInputsTo bytes (columns_of u.lineage) (own x)
  own_inputs u x (inl is) =
      let o = is.opened in
      subst (AreInputsTo bytes (columns_of u.lineage)) (sym (ap option_to_list o.has)) ((o.opened.input, ap columns_of (o.opened.lineage ∙ ap (λ (w : Want). w.lineage) o.is)), tt)
  own_inputs u x (inr is) = subst (AreInputsTo bytes (columns_of u.lineage)) (sym (ap option_to_list is.none)) tt

  pub ranges_inputs : (u : TableMeta) (xs : List (RecastRange R)) → AllByRecursion (IsOfRange bytes faults told u) xs → AreRangesOf bytes u.lineage xs
  ranges_inputs u [] are = tt
  ranges_inputs u (x ∷ xs) are = (own_inputs u x are.0, ranges_inputs u xs are.1)

-- ---- what a sound store has of a table's ranges

-- what holds of the deltas of a base and of singletons holds of each range's
ranged_all : (P : Delta → Type 0) (u : TableMeta) → AllByRecursion P (base_deltas u.base) → AllByRecursion P u.singles → AllByRecursion (λ (r : Ranged). P r.delta) (ranged u)
ranged_all P u base singles = all_joined (λ (r : Ranged). P r.delta) (base_ranged u.base) (singles_ranged (start_in u) u.singles) (of_base u.base base) (of_singles (start_in u) u.singles singles)
  where
    of_base : (o : Option Ending) → AllByRecursion P (base_deltas o) → AllByRecursion (λ (r : Ranged). P r.delta) (base_ranged o)
    of_base None all = tt
    of_base (Some e) all = all

    of_singles : (version : ℕ) (ds : List Delta) → AllByRecursion P ds → AllByRecursion (λ (r : Ranged). P r.delta) (singles_ranged version ds)
    of_singles version [] all = tt
    of_singles version (d ∷ ds) all = (all.0, of_singles (version + 1) ds all.1)

module _ (rows : Rows) (written : List Written) where
  abbrev Made : Lineage → Ranged → Type 0
  Made l r = IsMadeOf rows l written r.from r.to r.delta

  base_made : (l : Lineage) (o : Option Ending) → IfSome o (λ (e : Ending). IsMadeOf rows l written 0 e.to e.delta) → AllByRecursion (Made l) (base_ranged o)
  base_made l None made = tt
  base_made l (Some e) made = (made, tt)

  singles_made : (l : Lineage) (version : ℕ) (ds : List Delta) → AreMadeOf rows l written version ds → AllByRecursion (Made l) (singles_ranged version ds)
  singles_made l version [] made = tt
  singles_made l version (d ∷ ds) made = (made.0, singles_made l (version + 1) ds made.1)

  -- each range's delta was made of what was written in it
  ranges_made : (u : TableMeta) → IsSourced rows written u → AllByRecursion (Made u.lineage) (ranged u)
  ranges_made u its =
      all_joined (Made u.lineage) (base_ranged u.base) (singles_ranged (start_in u) u.singles) (base_made u.lineage u.base its.base) (singles_made u.lineage (start_in u) u.singles its.singles)

-- what one of these adds up to is less than what all of them do
each_below : (rows : Rows) (l : Lineage) (k : ℕ) (ds : List Delta) → abs_total k (rows_of (map (present rows l) ds)) < sum_bound → AllByRecursion (λ (d : Delta). abs_total k (rows_of (present rows l d ∷ [])) < sum_bound) ds
each_below rows l k [] low = tt
each_below rows l k (d ∷ ds) low =
    let whole = abs_append k (present rows l d) (rows_of (map (present rows l) ds)) in
    let one = abs_append k (present rows l d) (rows_of []) in
    let none : abs_total k (rows_of []) ≡ 0 = refl in
    (omega (arith, low, whole, one, none), each_below rows l k ds (omega (arith, low, whole)))

module _ (o : Outset) (g : Origin) (l : EngineState) (story : Story) (held : Option (List ℕ)) (h : List Entry) (running refused : Bool) (v : IsVault o g true l story held h running refused) (opened : l.closed ≡ None) where
  abbrev image : Image
  image = (v.read refl).0

  told_is : story.told ≡ Some image
  told_is = (v.read refl).1

  has : Has (wants v.rows (live_files l.catalogue)) image
  has = held_there story l.area v.bodies l.end l.catalogue v.rows (v.stands refl opened) image told_is

  -- a read gives the files of each range
  ranges_given : (table : ℕ) → table < length l.catalogue.tables → AllByRecursion (λ (r : Ranged). AreGiven v.rows image (meta_at l.catalogue table).lineage r.delta) (ranged (meta_at l.catalogue table))
  ranges_given table there =
      let u = meta_at l.catalogue table in
      let P : Delta → Type 0 = AreGiven v.rows image u.lineage in
      let all = all_unflat (IsGiven v.rows image) (delta_live u.lineage) (deltas_of u) (meta_given v.rows l.catalogue image table (v.sound_rows refl).0 has there) in
      ranged_all P u (all_front P (base_deltas u.base) (map delta_in u.cumulatives ++ u.singles) all) (all_back P (map delta_in u.cumulatives) u.singles (all_back P (base_deltas u.base) (map delta_in u.cumulatives ++ u.singles) all))

  range_given : (table : ℕ) → table < length l.catalogue.tables → (r : Ranged) → IsOneOf r (ranged (meta_at l.catalogue table)) → (f : Files) → r.delta.files ≡ Some f → AllByRecursion (IsGiven v.rows image) (files_live (meta_at l.catalogue table).lineage r.delta.epoch (Some f))
  range_given table there r one f is =
      let u = meta_at l.catalogue table in
      subst (λ (fs : Option Files). AllByRecursion (IsGiven v.rows image) (files_live u.lineage r.delta.epoch fs)) is
      (all_one (λ (x : Ranged). AreGiven v.rows image u.lineage x.delta) (ranged u) (ranges_given table there) r one)

  -- no sum over one of them leaves its type
  range_below : (table : ℕ) → table < length l.catalogue.tables → (r : Ranged) → IsOneOf r (ranged (meta_at l.catalogue table)) → (k : ℕ) → slice_get (aggs_of (columns_of (meta_at l.catalogue table).lineage)) k ≡ Some Sum
      → abs_total k (rows_of (present v.rows (meta_at l.catalogue table).lineage r.delta ∷ [])) < sum_bound
  range_below table there r one k sum =
      let u = meta_at l.catalogue table in
      let P : Delta → Type 0 = λ d. abs_total k (rows_of (present v.rows u.lineage d ∷ [])) < sum_bound in
      let below = all_below v.rows l.catalogue.floor l.catalogue.next u (shaped_at l.catalogue v.shaped table there) (meta_found (HasSoundRows v.rows) l.catalogue.tables table there (v.sound_rows refl).0) k sum in
      let each = each_below v.rows u.lineage k (base_deltas u.base ++ u.singles) below in
      all_one (λ (x : Ranged). P x.delta) (ranged u) (ranged_all P u (all_front P (base_deltas u.base) u.singles each) (all_back P (base_deltas u.base) u.singles each)) r one

  -- A table's files are none that is damaged.
  pub none_damaged : (table : ℕ) → table < length l.catalogue.tables → (damage : Option Damage) → IfSome damage (IsDamagedRange story.told (meta_at l.catalogue table)) → damage ≡ None
  none_damaged table there None met = refl
  none_damaged table there (Some d) met =
      let u = meta_at l.catalogue table in
      let its = met.damaged in
      let given = (range_given table there met.range met.one its.files its.there).0 in
      absurd (its.damaged.unsound image told_is (bytes_of v.rows (record { columns = columns_at u.lineage met.range.delta.epoch; file = its.files.file })) (v.rows its.files.file.id) given.1 given.0.file given.0.true)

  module _ {R : Type 0} (bytes : R → Option (List ℕ)) (faults : R → ℕ) (table : ℕ) (there : table < length l.catalogue.tables) where
    abbrev u : TableMeta
    u = meta_at l.catalogue table

    abbrev lin : Lineage
    lin = u.lineage

    -- the rows of a range's file, as they are at present
    abbrev rows_at : Ranged → List Row
    rows_at r = present v.rows (meta_at l.catalogue table).lineage r.delta

    -- A range's file is told, and has the present rows of its delta.
    record TellsRange (r : Ranged) (is : List (Input R)) : Type 0 where
      parts : List (List Row)
      told : AreTold (knowns_of bytes is) parts
      lifts : rows_of (lifted_parts (knowns_of bytes is) parts) ≡ rows_of (rows_at r ∷ [])

    opened_tells : (x : RecastRange R) (is : IsOpenedRange bytes faults story.told u x) → TellsRange is.range (own x)
    opened_tells x is =
        let r = is.range in
        let its = is.opened in
        let f = its.files in
        let i = its.input in
        let given = (range_given table there r is.one f its.there).0 in
        let lineage : i.evolving.value ≡ lin = its.opened.lineage ∙ ap (λ (w : Want). w.lineage) its.is in
        let epoch : i.epoch ≡ r.delta.epoch = its.opened.epoch ∙ ap (λ (w : Want). w.epoch) its.is in
        let rows_are : v.rows f.file.id ≡ rows_if_any v.rows r.delta.files = sym (ap (rows_if_any v.rows) its.there) in
        subst (TellsRange r) (sym (ap option_to_list its.has)) (record {
          parts = v.rows f.file.id ∷ [];
          told = all_told v.rows image bytes faults story.told told_is (its.wanted ∷ []) (i ∷ []) (own_file (range_wanted lin r.delta f) ∷ []) (ap (λ (w : Want). w ∷ []) its.is) (its.opened, tt) (given, tt);
          lifts = λ j. rows_of (map (lifted (lineage j) (epoch j) (epoch_of (lineage j))) (rows_are j) ∷ []);
        })

    empty_tells : (x : RecastRange R) (is : IsEmptyRange u x) → TellsRange is.range (own x)
    empty_tells x is =
        let r = is.range in
        let rows_are : [] ≡ rows_if_any v.rows r.delta.files = sym (ap (rows_if_any v.rows) is.empty) in
        subst (TellsRange r) (sym (ap option_to_list is.none)) (record {
          parts = [];
          told = tt;
          lifts = λ j. rows_of (map (lifted lin r.delta.epoch (epoch_of lin)) (rows_are j) ∷ []);
        })

    -- ---- no sum over a range leaves its type

    told_bounded : (r : Ranged) → IsOneOf r (ranged u) → (is : List (Input R)) → TellsRange r is → AreBounded (columns_of lin) (knowns_of bytes is)
    told_bounded r one is tells = record {
      contents = tells.parts;
      told = tells.told;
      bound = λ k sum. subst (λ n. n < sum_bound) (sym (zero-add _)) (subst (λ (rs : List Row). abs_total k rs < sum_bound) (sym tells.lifts) (range_below table there r one k sum));
    }

    range_bounded : (x : RecastRange R) → IsOfRange bytes faults story.told u x → AreBounded (columns_of lin) (knowns_of bytes (own x))
    range_bounded x (inl is) = told_bounded is.range is.one (own x) (opened_tells x is)
    range_bounded x (inr is) = told_bounded is.range is.one (own x) (empty_tells x is)

    -- Of the files of a table's ranges no sum over one leaves its type.
    pub ranges_bounded : (xs : List (RecastRange R)) → AllByRecursion (IsOfRange bytes faults story.told (meta_at l.catalogue table)) xs → AreRangesBounded bytes (columns_of (meta_at l.catalogue table).lineage) xs
    ranges_bounded [] are = tt
    ranges_bounded (x ∷ xs) are = (range_bounded x are.0, ranges_bounded xs are.1)

    -- ---- each range has what was written in it

    abbrev written : List Written
    written = written_by o g.found h table

    -- A delta that was made of what was written in its range folds to itself.
    folds_to : (r : Ranged) → IsOneOf r (ranged u) → folded (aggs_of (columns_of lin)) (rows_at r ∷ []) ≡ range_rows lin (epoch_of lin) (sources_from r.from r.to written)
    folds_to r one =
        let its = own_sources v.rows (written_by o g.found h) l.catalogue v.shaped (v.sourced refl) table there in
        let made = all_one (Made v.rows written lin) (ranged u) (ranges_made v.rows written u its) r one in
        let rises : keys_rise (rows_at r) ≡ true = ap keys_rise made ∙ folded_rise (aggs_of (columns_at lin (epoch_of lin))) (map (source_at lin (epoch_of lin)) (sources_from r.from r.to written)) in
        folds_itself (aggs_of (columns_of lin)) (rows_at r) rises ∙ made

    told_sourced : (r : Ranged) → IsOneOf r (ranged u) → (x : RecastRange R) → x.from ≡ r.from → x.to ≡ r.to → TellsRange r (own x) → HasItsRange bytes lin written x
    told_sourced r one x from to tells = record {
      epochs = epochs_written v.rows (written_by o g.found h) l.catalogue v.shaped (v.sourced refl) table there x.from x.to;
      rows = λ its merge.
          merge tells.parts (told_inputs bytes (own x) tells.parts tells.told)
          ∙ same_folded (aggs_of (columns_of lin)) (present_parts (own x) tells.parts) (rows_at r ∷ []) (ap rows_of (present_lifted bytes (own x) tells.parts) ∙ tells.lifts)
          ∙ folds_to r one
          ∙ (λ j. range_rows lin (epoch_of lin) (sources_from (sym from j) (sym to j) written));
    }

    range_sourced : (x : RecastRange R) → IsOfRange bytes faults story.told u x → HasItsRange bytes lin written x
    range_sourced x (inl is) = told_sourced is.range is.one x is.opened.at_from is.opened.at_to (opened_tells x is)
    range_sourced x (inr is) = told_sourced is.range is.one x is.at_from is.at_to (empty_tells x is)

    -- A table's ranges have what was written in them.
    pub ranges_sourced : (xs : List (RecastRange R)) → AllByRecursion (IsOfRange bytes faults story.told (meta_at l.catalogue table)) xs → AllByRecursion (HasItsRange bytes (meta_at l.catalogue table).lineage (written_by o g.found h table)) xs
    ranges_sourced [] are = tt
    ranges_sourced (x ∷ xs) are = (range_sourced x are.0, ranges_sourced xs are.1)

  -- ---- so it is for a recast of a table as it stands

  module _ {R : Type 0} (bytes : R → Option (List ℕ)) (faults : R → ℕ) (t : Recast R) (there : t.table < length l.catalogue.tables) (table_is : recast_table t ≡ (meta_at l.catalogue t.table).lineage)
      (are : AllByRecursion (IsOfRange bytes faults story.told (meta_at l.catalogue t.table)) t.ranges.items) where
    pub recast_bounded : IsRecastBounded bytes t
    recast_bounded = subst (λ (x : Lineage). AreRangesBounded bytes (columns_of x) t.ranges.items) (sym table_is) (ranges_bounded bytes faults t.table there t.ranges.items are)

    pub recast_has_ranges : HasItsRanges bytes t (written_by o g.found h t.table)
    recast_has_ranges = subst (λ (x : Lineage). AllByRecursion (HasItsRange bytes x (written_by o g.found h t.table)) t.ranges.items) (sym table_is) (ranges_sourced bytes faults t.table there t.ranges.items are)
