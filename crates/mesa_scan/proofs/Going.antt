-- A scan goes on by a block.
use Rattle.std.proofs.Common.{◌≡◌, ℕ, ◌+◌, ◌<◌, ◌≤◌, List, [], ◌++◌, length, get_or, true, false, sym, ◌∙◌, ap, subst, arith}
use Rattle.std.specs.Prelude.{filter, map, IsTrue, Option, Some}
use Rattle.std.specs.List.{AllByRecursion}
use Rattle.std.proofs.lemmas.List.{append-nil}
use Rattle.mesa_delta.specs.mesa_key.Spelling.{is_spelling, key_of}
use Rattle.mesa_delta.specs.mesa_columns.declared.rows.Row.{Row}
use Rattle.mesa_delta.specs.mesa_columns.declared.lifting.Lift.{Lift}
use Rattle.mesa_schema.specs.Changes.{Lineage, columns_at, columns_of, epoch_of, lifted}
use Rattle.mesa_delta.specs.mesa_columns.Columns.{Columns, kinds_of}
use Rattle.mesa_schema.specs.Laws.{LiftedForms, LiftedKeys}
use Rattle.mesa_delta.specs.mesa_columns.Lifting.{lifted_with}
use Rattle.mesa_schema.specs.Lifting.{Lifts}
use Rattle.mesa_schema.specs.Lineages.{IsLineage}
use Rattle.mesa_delta.specs.mesa_columns.Rows.{AreRowsOf, IsRowOf}
use Rattle.mesa_filter.specs.Filter.{KeyFilter, filtered, meets}
use Rattle.mesa_filter.specs.Pruning.{NoneMeets}
use Rattle.mesa_delta.specs.mesa_delta_format.Beginning.{KeysBetween}
use Rattle.mesa_delta.specs.mesa_delta_format.Indexed.{Indexed, IsIndex}
use Rattle.mesa_delta.specs.Reading.{IsBlock, IsIndexed, buffer_of, index_of, reader_of}
use Rattle.mesa_delta.specs.mesa_delta_format.Spread.{blocks_of}
use Rattle.mesa_delta.specs.declared.input.Input.{Input}
use Rattle.mesa_delta.specs.declared.reader.DeltaReader.{DeltaReader}
use Rattle.mesa_delta.proofs.mesa_delta_format.Packing.{FitsAlone}
use Rattle.mesa_scan.specs.Cursors.{IsInput, IsSameInput, lift_by, reader_in}
use Rattle.mesa_scan.proofs.Lifted.{block_forms, lifts_all}
use Rattle.mesa_scan.specs.declared.scanning.Scan.{Scan}
use Rattle.mesa_scan.specs.Allowing.{allowed_among, allows_block, bounds_in}
use Rattle.mesa_scan.specs.MatchingRows.{matching_rows}
use Rattle.mesa_scan.specs.Scanning.{HasScanned, IsFilterOf, filter_of, keys_in, matching, next_of, read_of}
use Rattle.mesa_scan.proofs.Bounds.{allowed_few, allowed_more}
use Rattle.mesa_scan.proofs.Blocks.{Passes, all_joined, all_passing, lifted_forms, lifted_spell, matching_more}
use Rattle.mesa_scan.proofs.Skipping.{skipped}

-- an input stays one where a block of it isn't read
pub input_failed : {R : Type 0} (bytes : R → Option (List ℕ)) (old : Input R) (new : DeltaReader R) → new ≡ record old.reader { reader = reader_of new; bytes = buffer_of new } → bytes (reader_of new) ≡ bytes (reader_in old) → IsInput bytes old → IsInput bytes (record old { reader = new })
input_failed {R = R} bytes old new is told input =
    let parts = input.read.0 in
    let read = input.read.1 in
    subst (λ (r : DeltaReader R). IsInput bytes (record old { reader = r })) (sym is) (record {
      epoch = input.epoch;
      columns = input.columns;
      over = λ b t. input.over b (sym told ∙ t);
      read = (parts, record { run = read.run; places = read.places; counted = read.counted; told = λ b t. read.told b (sym told ∙ t) });
    })

-- the rows of a block that was read have the columns of its file's epoch
pub block_form : {R : Type 0} (bytes : R → Option (List ℕ)) (i : Input R) (n : ℕ) (block : List Row) → IsInput bytes i → IsBlock (index_of i.reader) n block → AreRowsOf (columns_at i.evolving.value i.epoch) block
block_form bytes i n block input is = subst (λ (s : Columns). AreRowsOf s block) input.columns (block_forms _ block is.rows)

-- so their keys spell the present columns once they are lifted
pub block_spells : Passes → LiftedForms → {R : Type 0} (bytes : R → Option (List ℕ)) (i : Input R) (s : Scan) (given : List Row) (n : ℕ) (block : List Row) → IsLineage i.evolving.value → HasScanned bytes i s given → IsBlock (index_of i.reader) n block
    → AllByRecursion (λ (row : Row). IsTrue (is_spelling (filter_of s).kinds (lifted_with s.lift row).key)) block
block_spells passes forms bytes i s given n block lineage h is =
    subst (λ kinds. AllByRecursion (λ (row : Row). IsTrue (is_spelling kinds (lifted_with s.lift row).key)) block) (sym h.filter)
    (lifted_spell passes forms s.lift i.evolving.value i.epoch block lineage h.lifts (block_form bytes i n block h.input is))

-- a scan has read no more blocks than it has looked at
pub read_few : {R : Type 0} (bytes : R → Option (List ℕ)) (i : Input R) (s : Scan) (given : List Row) → HasScanned bytes i s given → read_of s ≤ next_of s
read_few bytes i s given h = subst (λ n. n ≤ next_of s) (sym h.counted) (allowed_few (filter_of s) (keys_in i) (index_of i.reader) (next_of s))

-- What a scan is after one block more.
pub record IsOnward (was now : Scan) : Type 0 where
  pub filter : filter_of now ≡ filter_of was
  pub lift : now.lift ≡ was.lift
  pub columns : now.columns ≡ was.columns
  pub next : next_of now ≡ next_of was + 1

-- over a block that has no matching row
pub onward_skipped : FitsAlone → KeysBetween → LiftedForms → LiftedKeys → {R : Type 0} (bytes : R → Option (List ℕ)) (i : Input R) (was now : Scan) (given : List Row) → IsLineage i.evolving.value → IsIndex (index_of i.reader)
    → HasScanned bytes i was given → next_of was < length (index_of i.reader).entries → IsOnward was now → read_of now ≡ read_of was
    → false ≡ allows_block (filter_of was) was.columns (index_of i.reader) (next_of was)
    → NoneMeets (filter_of was).kinds was.columns (filter_of was).terms (get_or (bounds_in (index_of i.reader)) (next_of was) []) (get_or (bounds_in (index_of i.reader)) (next_of was + 1) [])
    → HasScanned bytes i now (given ++ [])
onward_skipped fits keys forms own bytes i was now given lineage index h lt on read closed none =
    let x : Indexed = index_of i.reader in
    let f : KeyFilter = filter_of was in
    let n : ℕ = next_of was in
    let misses : NoneMeets f.kinds (keys_in i) f.terms (get_or (bounds_in x) n []) (get_or (bounds_in x) (n + 1) []) = subst (λ c. NoneMeets f.kinds c f.terms (get_or (bounds_in x) n []) (get_or (bounds_in x) (n + 1) [])) h.columns none in
    let shut : allows_block f (keys_in i) x n ≡ false = ap (λ c. allows_block f c x n) (sym h.columns) ∙ sym closed in
    let same : given ++ [] ≡ given = append-nil given in
    record {
      input = h.input;
      filter = ap (λ (g : KeyFilter). g.kinds) on.filter ∙ h.filter;
      lifts = subst (λ lift. Lifts lift i.evolving.value i.epoch) (sym on.lift) h.lifts;
      columns = on.columns ∙ h.columns;
      within = subst (λ m. m ≤ length x.entries) (sym on.next) (omega (arith, lt));
      counted = read ∙ h.counted ∙ omega (arith, allowed_more f (keys_in i) x n false shut) ∙ (λ k. allowed_among (sym on.filter k) (keys_in i) x (sym on.next k));
      form = subst (AreRowsOf (columns_of i.evolving.value)) (sym same) h.form;
      told = λ b all told indexed.
          let there : n < length (blocks_of x.layout all) = omega (arith, lt, indexed.blocks) in
          same ∙ h.told b all told indexed ∙ sym (append-nil (matching i f all n))
          ∙ ap (λ rows. matching i f all n ++ rows) (sym (skipped fits keys forms own i f all b n h.input.columns lineage h.filter index indexed there misses))
          ∙ sym (matching_more i f all n there) ∙ (λ k. matching i (sym on.filter k) all (sym on.next k));
    }

-- the matching rows of a block, as the filter's own columns see them
seen : {R : Type 0} (i : Input R) (f : KeyFilter) (lift : Lift) (block : List Row) → IsFilterOf i f → Lifts lift i.evolving.value i.epoch → AreRowsOf (columns_at i.evolving.value i.epoch) block
    → matching_rows f (map (lifted_with lift) block) ≡ filtered (columns_of i.evolving.value) f.terms (map (lift_by i) block)
seen i f lift block of lifts good =
    ap (matching_rows f) (lifts_all lift i.evolving.value i.epoch block lifts good)
    ∙ ap (λ kinds. filter (λ (row : Row). meets (key_of kinds row.key) f.terms) (map (lift_by i) block)) of

-- over a block that was read
pub onward_read : LiftedForms → {R : Type 0} (bytes : R → Option (List ℕ)) (old new : Input R) (was now : Scan) (given block : List Row) → IsLineage old.evolving.value → IsSameInput bytes old new → IsInput bytes new
    → HasScanned bytes old was given → next_of was < length (index_of old.reader).entries → IsOnward was now → read_of now ≡ read_of was + 1
    → true ≡ allows_block (filter_of was) was.columns (index_of old.reader) (next_of was) → IsBlock (index_of old.reader) (next_of was) block
    → ((b : List ℕ) (all : List Row) → bytes (reader_in old) ≡ Some b → IsIndexed (index_of old.reader) all b → block ≡ get_or (blocks_of (index_of old.reader).layout all) (next_of was) [])
    → HasScanned bytes new now (given ++ matching_rows (filter_of was) (map (lifted_with was.lift) block))
onward_read forms bytes old new was now given block lineage same input h lt on read opened is again =
    let x : Indexed = index_of old.reader in
    let f : KeyFilter = filter_of was in
    let n : ℕ = next_of was in
    let l : Lineage = old.evolving.value in
    let s : Columns = columns_of l in
    let lift : Row → Row = lift_by old in
    let good : AreRowsOf (columns_at l old.epoch) block = block_form bytes old n block h.input is in
    let more : matching_rows f (map (lifted_with was.lift) block) ≡ filtered s f.terms (map lift block) = seen old f was.lift block h.filter h.lifts good in
    let added : AreRowsOf s (matching_rows f (map (lifted_with was.lift) block)) =
    subst (AreRowsOf s) (sym more) (all_passing (IsRowOf s) (λ (row : Row). meets (key_of (kinds_of s) row.key) f.terms) (map lift block) (lifted_forms forms l old.epoch block lineage good)) in
    let opens : allows_block f (keys_in old) x n ≡ true = ap (λ c. allows_block f c x n) (sym h.columns) ∙ sym opened in
    let count : allowed_among f (keys_in old) x n + 1 ≡ allowed_among f (keys_in old) x (n + 1) = sym (allowed_more f (keys_in old) x n true opens) in
    record {
      input = input;
      filter = ap (λ (g : KeyFilter). g.kinds) on.filter ∙ h.filter ∙ (λ k. kinds_of (columns_of (sym same.evolving k).value));
      lifts = λ row e. ap (λ (t : Lift). lifted_with t row) on.lift ∙ h.lifts row (e ∙ (λ k. length (columns_at (same.evolving k).value (same.epoch k)).values)) ∙ (λ k. lifted (sym same.evolving k).value (sym same.epoch k) (epoch_of (sym same.evolving k).value) row);
      columns = on.columns ∙ h.columns ∙ (λ k. length (columns_at (sym same.evolving k).value (sym same.epoch k)).keys);
      within = subst (λ m. m ≤ length (index_of new.reader).entries) (sym on.next) (rw same.index (omega (arith, lt)));
      counted = read ∙ ap (λ m. m + 1) h.counted ∙ count ∙ (λ k. allowed_among (sym on.filter k) (length (columns_at (sym same.evolving k).value (sym same.epoch k)).keys) (sym same.index k) (sym on.next k));
      form = subst (λ (t : Columns). AreRowsOf t (given ++ matching_rows f (map (lifted_with was.lift) block))) (λ k. columns_of (sym same.evolving k).value) (all_joined (IsRowOf s) given _ h.form added);
      told = λ b all told indexed.
          let was_indexed : IsIndexed x all b = subst (λ (y : Indexed). IsIndexed y all b) same.index indexed in
          let was_told = sym same.told ∙ told in
          let there : n < length (blocks_of x.layout all) = omega (arith, lt, was_indexed.blocks) in
          (λ k. h.told b all was_told was_indexed k ++ more k)
          ∙ ap (λ (rows : List Row). matching old f all n ++ filtered s f.terms (map lift rows)) (again b all was_told was_indexed)
          ∙ sym (matching_more old f all n there)
          ∙ (λ k. matching (record new { reader = record new.reader { index = sym same.index k }; evolving = sym same.evolving k; epoch = sym same.epoch k }) (sym on.filter k) all (sym on.next k));
    }
