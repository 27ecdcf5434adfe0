-- What the rows that were read say of a file.
use Rattle.std.proofs.Common.{◌≡◌, ℕ, List, [], ◌∷◌, length, map, refl, sym, ap, subst, ◌∙◌, arith}
use Rattle.std.specs.Prelude.{Option, None, Some}
use Rattle.std.specs.List.{AllByRecursion}
use Rattle.sha2.specs.Sha256.{sha256}
use Rattle.mesa_schema.specs.mesa_key.Order.{short_key}
use Rattle.mesa_open_files.specs.mesa_columns.declared.rows.Row.{Row}
use Rattle.mesa_open_files.specs.mesa_columns.declared.lifting.Lift.{Lift}
use Rattle.mesa_schema.specs.Changes.{Lineage, columns_at, columns_of, epoch_of, lifted}
use Rattle.mesa_open_files.specs.mesa_columns.Columns.{Columns}
use Rattle.mesa_open_files.specs.mesa_columns.Lifting.{lifted_with}
use Rattle.mesa_schema.specs.Lifting.{Lifts}
use Rattle.mesa_open_files.specs.mesa_columns.Rows.{AreRowsOf}
use Rattle.mesa_open_files.specs.mesa_batch.Totals.{abs_totals}
use Rattle.mesa_block.specs.Layout.{Layout}
use Rattle.mesa_block.specs.Rows.{IsRow}
use Rattle.mesa_open_files.specs.mesa_file.declared.file_ref.FileRef.{FileRef}
use Rattle.mesa_disk.specs.Image.{Image, file_of}
use Rattle.mesa_open_files.specs.mesa_delta_format.File.{IsFile, file_bytes, file_tail}
use Rattle.mesa_open_files.specs.mesa_delta_format.Indexed.{Indexed, IsIndex, IsIndexOf, tail_length}
use Rattle.mesa_open_files.specs.mesa_delta_format.Places.{places, tail_spelled}
use Rattle.mesa_delta.specs.Reading.{IsIndexed, IsOver, IsWhole, index_of}
use Rattle.mesa_open_files.specs.mesa_delta_format.Spread.{blocks_of}
use Rattle.mesa_open_files.specs.mesa_delta_format.Summary.{IsReferenceOf}
use Rattle.mesa_delta.specs.declared.input.Input.{Input}
use Rattle.mesa_delta.proofs.mesa_delta_format.Packing.{FitsAlone}
use Rattle.mesa_delta.proofs.mesa_delta_format.Placed.{IsTailOf, places_long, tail_is, tail_of_file}
use Rattle.mesa_delta.proofs.mesa_delta_format.Tailing.{tail_long}
use Rattle.mesa_scan.specs.Cursors.{IsAllOf, IsSameInput, lift_by, reader_in}
use Rattle.mesa_scan.proofs.Lifted.{lifts_all}
use Rattle.mesa_open_files.specs.Opening.{HasBytes, IsOpened, wanted_columns, wanted_layout}
use Rattle.mesa_open_files.specs.declared.opening.Wanted.{Wanted}
use Rattle.mesa_examine.specs.Examined.{AreJudged, IsExaminedAs}
use Rattle.mesa_examine.specs.Sums.{counted}
use Rattle.mesa_examine.specs.Tallies.{IsToldOf}
use Rattle.mesa_examine.specs.declared.totals.Sums.{Sums}

-- ---- a table that was made with these columns and never changed

abbrev pub made_with : Columns → Lineage
made_with s = record { begins = 0; first = s; changes = []; views = [] }

lifted_same : (s : Columns) (rows : List Row) → map (lifted (made_with s) 0 (epoch_of (made_with s))) rows ≡ rows
lifted_same s [] = refl
lifted_same s (row ∷ rows) = ap (λ l. row ∷ l) (lifted_same s rows)

-- its rows are lifted to themselves
pub lifted_alone : {R : Type 0} (i : Input R) (s : Columns) (rows : List Row) → i.evolving.value ≡ made_with s → i.epoch ≡ 0 → map (lift_by i) rows ≡ rows
lifted_alone i s rows table epoch = (λ k. map (lifted (table k) (epoch k) (epoch_of (table k))) rows) ∙ lifted_same s rows

-- ---- counts of blocks

-- rows whose file ends with an index's tail fill as many blocks
pub blocks_told : FitsAlone → (x : Indexed) (rows : List Row) (b : List ℕ) → IsIndex x → IsFile x.layout rows b → length b ≡ x.len → file_tail x.layout rows ≡ tail_spelled x.layout x.rows x.entries → length (blocks_of x.layout rows) ≡ length x.entries
blocks_told law x rows b index file len tail =
    let s = x.layout in
    let parts = blocks_of s rows in
    let t : IsTailOf s rows b = tail_of_file law s rows b index.schema file (omega (arith, len, index.fits)) in
    let here : length (file_tail s rows) ≡ tail_length s.columns (length (places s 0 parts)) = ap length (tail_is s (length rows) parts) ∙ tail_long s (length rows) (places s 0 parts) t.tail.widths in
    let there : length (tail_spelled s x.rows x.entries) ≡ tail_length s.columns (length x.entries) = tail_long s x.rows x.entries index.tail.widths in
    let same : tail_length s.columns (length (places s 0 parts)) ≡ tail_length s.columns (length x.entries) = sym here ∙ ap length tail ∙ there in
    let long : length (places s 0 parts) ≡ length parts = places_long s 0 parts in
    omega (arith, same, long)

-- ---- what bytes are

-- the file of a reference is the one that its index is of
pub indexed_by : (x : Indexed) (s : Layout) (file : FileRef) (tail : List ℕ) (rows : List Row) (b : List ℕ) → IsIndexOf file s tail x → IsOver x b → IsFile s rows b → IsReferenceOf s file.id rows file → IsIndexed x rows b
indexed_by x s file tail rows b index over is ref = record {
  file = subst (λ (t : Layout). IsFile t rows b) (sym index.layout) is;
  over = over;
  blocks = (λ i. length (blocks_of (index.layout i) rows)) ∙ sym ref.blocks ∙ sym index.blocks;
  last = index.last ∙ ap short_key ref.last;
}

-- a reference tells the rows of its file
pub told_by : (s : Layout) (number : ℕ) (rows : List Row) (file : FileRef) → IsReferenceOf s number rows file → IsToldOf s.columns rows file
told_by s number rows file ref = record { rows = ref.rows; first = ref.first; last = ref.last; aggregates = ref.aggregates }

-- and one that tells them is true, where the tail is the recorded one
pub reference_of : FitsAlone → (x : Indexed) (s : Layout) (file : FileRef) (tail : List ℕ) (rows : List Row) (b : List ℕ) → file.format ≡ s.format → IsIndexOf file s tail x → sha256 tail ≡ file.digest → IsOver x b → IsFile x.layout rows b
    → file_tail x.layout rows ≡ tail_spelled x.layout x.rows x.entries → IsToldOf s.columns rows file → IsReferenceOf s file.id rows file
reference_of law x s file tail rows b format index digest over is spelled told = record {
  format = format;
  id = refl;
  len = sym index.len ∙ sym over.len ∙ ap length is.spelled ∙ (λ i. length (file_bytes (index.layout i) rows));
  rows = told.rows;
  blocks = sym index.blocks ∙ sym (blocks_told law x rows b index.index is over.len spelled) ∙ (λ i. length (blocks_of (index.layout i) rows));
  first = told.first;
  last = told.last;
  aggregates = told.aggregates;
  digest = sym digest ∙ ap sha256 index.spelled ∙ ap sha256 (sym spelled) ∙ (λ i. sha256 (file_tail (index.layout i) rows));
}

row_forms : (s : Layout) (rows : List Row) → AllByRecursion (IsRow s) rows → AreRowsOf s.columns rows
row_forms s [] all = tt
row_forms s (row ∷ rows) all = (all.0.form, row_forms s rows all.1)

module _ {R : Type 0} (bytes : R → Option (List ℕ)) (faults : R → ℕ) (told : Option Image) (law : FitsAlone) (w own : Wanted) (old new : Input R) (file : w.file.now ≡ own.file.now) (table : own.evolving.now.value ≡ made_with (wanted_columns w)) (epoch : own.epoch ≡ 0)
    (opened : IsOpened bytes faults told own old) (same : IsSameInput bytes old new) where
  abbrev columns : Columns
  columns = wanted_columns w

  abbrev layout : Layout
  layout = wanted_layout w

  own_layout : wanted_layout own ≡ layout
  own_layout = λ k. record { format = (sym file k).format; columns = columns_at (table k) (epoch k) }

  index_is : (tail : List ℕ) × IsIndexOf w.file.now layout tail (index_of old.reader) × (sha256 tail ≡ w.file.now.digest)
  index_is = subst (λ (f : FileRef). (tail : List ℕ) × IsIndexOf f layout tail (index_of old.reader) × (sha256 tail ≡ f.digest)) (sym file)
      (subst (λ (s : Layout). (tail : List ℕ) × IsIndexOf own.file.now s tail (index_of old.reader) × (sha256 tail ≡ own.file.now.digest)) own_layout opened.index)

  content : (i : Image) → told ≡ Some i → (b : List ℕ) × (file_of i w.file.now.id ≡ Some b) × (bytes (reader_in old) ≡ Some b)
  content = subst (λ (f : FileRef). HasBytes bytes told f.id (reader_in old)) (sym file) opened.content

  -- the recorded file can't be read as damaged
  pub not_damaged : ((b : List ℕ) (all : List Row) → bytes (reader_in old) ≡ Some b → IsIndexed (index_of old.reader) all b → ⊥) → (i : Image) → told ≡ Some i → IsExaminedAs i w None
  not_damaged never i is b rows there whole ref =
      let c = content i is in
      let read : bytes (reader_in old) ≡ Some b = c.2 ∙ sym c.1 ∙ there in
      let x = index_is in
      never b rows read (indexed_by (index_of old.reader) layout w.file.now x.0 rows b x.1 (opened.input.over b read) whole ref)

  module _ (present : Columns) (lift : Lift) (given : List Row) (all : IsAllOf bytes new given) where
    rows_given : all.rows ≡ given
    rows_given = sym (all.lifts ∙ lifted_alone new columns all.rows (ap (λ e. e.value) same.evolving ∙ opened.lineage ∙ table) (same.epoch ∙ opened.epoch ∙ epoch))

    -- what was judged of the rows holds of the image
    pub examined : (o : Option Sums) → AreJudged (columns_of old.evolving.value) present lift w.file.now given o → present ≡ columns_of w.evolving.now.value → Lifts lift w.evolving.now.value w.epoch
        → (i : Image) → told ≡ Some i → IsExaminedAs i w o
    examined None judged is_present lifts = λ i is b rows there whole ref.
        let c = content i is in
        let read : bytes (reader_in old) ≡ Some b = c.2 ∙ sym c.1 ∙ there in
        let x = index_is in
        let indexed : IsIndexed (index_of old.reader) rows b = indexed_by (index_of old.reader) layout w.file.now x.0 rows b x.1 (opened.input.over b read) whole ref in
        let found : given ≡ rows = sym rows_given ∙ all.told b rows (same.told ∙ read) (subst (λ y. IsIndexed y rows b) (sym same.index) indexed) in
        let s : columns_of old.evolving.value ≡ columns = ap columns_of (opened.lineage ∙ table) in
        judged (subst (λ (t : Columns). IsToldOf t given w.file.now) (sym s) (subst (λ (l : List Row). IsToldOf columns l w.file.now) (sym found) (told_by layout w.file.now.id rows w.file.now ref)))
    examined (Some sums) judged is_present lifts = λ i is.
        let c = content i is in
        let b = c.0 in
        let x = index_is in
        let s : columns_of old.evolving.value ≡ columns = ap columns_of (opened.lineage ∙ table) in
        let over : IsOver (index_of old.reader) b = opened.input.over b c.2 in
        let whole : IsWhole (index_of old.reader) given (bytes (reader_in old)) =
        subst (λ y. IsWhole y given (bytes (reader_in old))) same.index (subst (λ t. IsWhole (index_of new.reader) given t) same.told (subst (λ (l : List Row). IsWhole (index_of new.reader) l (bytes (reader_in new))) rows_given all.whole)) in
        let file_is : IsFile (index_of old.reader).layout given b = whole.told b c.2 in
        let good : IsFile layout given b = subst (λ (t : Layout). IsFile t given b) x.1.layout file_is in
        let tells : IsToldOf columns given w.file.now = subst (λ (t : Columns). IsToldOf t given w.file.now) s judged.0 in
        let lifted_so : map (lifted_with lift) given ≡ map (lifted w.evolving.now.value w.epoch (epoch_of w.evolving.now.value)) given = lifts_all lift w.evolving.now.value w.epoch given lifts (row_forms layout given good.good) in (
          given,
          c.1 ∙ ap Some good.spelled,
          subst (λ (l : List ℕ). IsFile layout given l) good.spelled good,
          reference_of law (index_of old.reader) layout w.file.now x.0 given b refl x.1 x.2 over file_is whole.tail tells,
          record {
            own = judged.1 ∙ (λ k. counted (abs_totals (s k) given));
            present = judged.2 ∙ (λ k. counted (abs_totals (is_present k) (lifted_so k)));
          },
        )
