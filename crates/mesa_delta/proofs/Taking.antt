-- What a writer has taken after one row more.
use Rattle.std.proofs.Common.{◌≡◌, ℕ, ◌<◌, List, [], ◌∷◌, ◌++◌, length, map, refl, sym, ap, subst, ◌∙◌, arith, Option, Some, None}
use Rattle.std.specs.Prelude.{flat_map}
use Rattle.sha2.specs.Sha256.{sha256}
use Rattle.std.specs.List.{AllByRecursion}
use Rattle.mesa_delta_format.specs.mesa_value.declared.Agg.{Agg}
use Rattle.mesa_delta_format.specs.mesa_value.Agg.{IsAmount}
use Rattle.mesa_delta_format.specs.mesa_key.declared.Format.TheVariants as format
use Rattle.mesa_delta_format.specs.mesa_columns.declared.rows.Row.{Row}
use Rattle.mesa_delta_format.specs.mesa_columns.Columns.{aggs_of}
use Rattle.mesa_delta_format.specs.mesa_block.Fill.{Built}
use Rattle.mesa_delta_format.specs.mesa_block.Rows.{IsRow, Rise}
use Rattle.mesa_delta_format.specs.mesa_block.Spelling.{block, key_of}
use Rattle.mesa_delta_format.specs.mesa_file.declared.file_ref.FileRef.{FileRef}
use Rattle.mesa_delta_format.specs.Spread.{Filling, spread, with_more, nothing_filled, blocks_of}
use Rattle.mesa_delta_format.specs.Tail.{tail_of}
use Rattle.mesa_delta_format.specs.File.{IsFile}
use Rattle.mesa_delta_format.specs.Summary.{aggregates, IsReferenceOf}
use Rattle.mesa_delta.specs.Laying.{Lays, IsSealed}
use Rattle.mesa_delta.specs.Pending.{entries_of}
use Rattle.mesa_delta_format.specs.Tallies.{Tallies}
use Rattle.mesa_delta.specs.Writing.{HasTaken, IsNext, layout_of}
use Rattle.mesa_delta.specs.declared.blocks.BlockWriter.{BlockWriter}
use Rattle.mesa_delta.specs.declared.blocks.Sealed.{Sealed}
use Rattle.mesa_delta_format.specs.declared.tally.Tally.{Tally}
use Rattle.mesa_delta.specs.declared.writer.DeltaWriter.{DeltaWriter}
use Rattle.mesa_delta_format.proofs.mesa_block.Cells.{wide_cells}
use Rattle.mesa_delta_format.proofs.Spreading.{filled_more, open_rise, rise_alike, each_more, spread_some}

no_aggregates : (aggs : List Agg) → [] ≡ aggregates aggs []
no_aggregates [] = refl
no_aggregates (agg ∷ aggs) = refl

pub none_taken : {M T : Type 0} (bytes : T → Option (List ℕ)) (w : DeltaWriter M T) → ((t : List ℕ) → bytes w.blocks.draft ≡ Some t → t ≡ [])
    → w.blocks.builder ≡ record { layout = layout_of w; rows = [] } → w.blocks.entries.items ≡ [] → w.blocks.pending ≡ [] → w.blocks.offset ≡ 0 → w.blocks.blocks ≡ 0 → w.blocks.short ≡ None
    → w.tally.rows ≡ 0 → w.tally.first.items ≡ [] → w.tally.last.items ≡ [] → w.tally.totals.items ≡ [] → HasTaken bytes w []
none_taken bytes w told built entries pending offset blocks short rows first last totals = record {
  laid = record { told = told; entries = ap (λ (e : List ℕ). e ++ entries_of w.blocks.pending) entries ∙ ap entries_of pending; offset = offset; blocks = blocks; built = built; short = short };
  tallied = record { rows = rows; first = first; last = last; totals = totals ∙ no_aggregates (aggs_of w.schema) };
  good = tt;
  rise = tt;
}

pub may_push : {M T : Type 0} (bytes : T → Option (List ℕ)) (w : DeltaWriter M T) (row : Row) → IsNext bytes w row → Rise (map key_of (w.blocks.builder.rows ++ row ∷ []))
may_push bytes w row next =
    subst (λ (b : Built). Rise (map key_of (b.rows ++ row ∷ []))) (sym next.1.laid.built) (open_rise (layout_of w) next.0 row next.2.greater)

pub one_more : {M T : Type 0} (bytes : T → Option (List ℕ)) (old : DeltaWriter M T) (blocks : BlockWriter M T) (tally : Tally) (row : Row) → IsNext bytes old row → AllByRecursion IsAmount row.values
    → ((f : Filling) → Lays bytes (layout_of old) old.blocks f → Lays bytes (layout_of old) blocks (with_more (layout_of old) f row))
    → ((rows : List Row) → Tallies old.schema old.tally rows → Tallies old.schema tally (rows ++ row ∷ []))
    → (rows : List Row) → HasTaken bytes old rows → HasTaken bytes (record old { blocks = blocks; tally = tally }) (rows ++ row ∷ [])
one_more bytes old blocks tally row next amounts lay add rows h =
    let known = next.1 in
    let may = next.2 in
    record {
      laid = subst (Lays bytes (layout_of old) blocks) (sym (filled_more (layout_of old) nothing_filled rows row)) (lay (spread (layout_of old) rows) h.laid);
      tallied = add rows h.tallied;
      good = each_more (IsRow (layout_of old)) rows row h.good (record { form = may.form; cells = wide_cells old.schema.values row.values may.form.ranges amounts });
      rise = rise_alike next.0 rows row (sym known.tallied.rows ∙ h.tallied.rows) (sym known.tallied.last ∙ h.tallied.last) h.rise may.greater;
    }

-- some rows leave some in the open block
pub open_some : {M T : Type 0} (bytes : T → Option (List ℕ)) (w : DeltaWriter M T) (rows : List Row) → 0 < length rows → HasTaken bytes w rows → 0 < length w.blocks.builder.rows
open_some bytes w rows some h = subst (λ (b : Built). 0 < length b.rows) (sym h.laid.built) (spread_some (layout_of w) rows some)

pub file_of : {M T : Type 0} (bytes : T → Option (List ℕ)) (w : DeltaWriter M T) (draft : T) (x : Sealed) (t : List ℕ) (known rows : List Row)
    → 0 < length known → HasTaken bytes w known → HasTaken bytes w rows
    → ((f : Filling) → Lays bytes (layout_of w) w.blocks f → IsSealed bytes (layout_of w) draft w.tally.rows (f.done ++ f.last ∷ []) x)
    → bytes draft ≡ Some t → IsFile (layout_of w) rows t
file_of bytes w draft x t known rows some k h seal at = record {
  some = omega (arith, some, k.tallied.rows, h.tallied.rows);
  good = h.good;
  rise = h.rise;
  spelled = (seal (spread (layout_of w) rows) h.laid).told t at ∙ ap (λ (n : ℕ). flat_map (block (layout_of w)) (blocks_of (layout_of w) rows) ++ tail_of (layout_of w) n (blocks_of (layout_of w) rows)) h.tallied.rows;
}

pub reference_of : {M T : Type 0} (bytes : T → Option (List ℕ)) (w : DeltaWriter M T) (draft : T) (x : Sealed) (file : FileRef) (rows : List Row)
    → HasTaken bytes w rows
    → ((f : Filling) → Lays bytes (layout_of w) w.blocks f → IsSealed bytes (layout_of w) draft w.tally.rows (f.done ++ f.last ∷ []) x)
    → file.format ≡ format.Two → file.id ≡ w.id → file.len ≡ x.len → file.rows ≡ w.tally.rows → file.blocks ≡ x.blocks → file.first ≡ w.tally.first.items → file.last ≡ w.tally.last.items → file.aggregates ≡ w.tally.totals.items → file.digest ≡ x.digest
    → IsReferenceOf (layout_of w) w.id rows file
reference_of bytes w draft x file rows h seal form id len count blocks first last totals digest =
    let s = seal (spread (layout_of w) rows) h.laid in
    let full = blocks_of (layout_of w) rows in
    record {
      format = form;
      id = id;
      len = len ∙ s.len ∙ ap (λ (n : ℕ). length (flat_map (block (layout_of w)) full ++ tail_of (layout_of w) n full)) h.tallied.rows;
      rows = count ∙ h.tallied.rows;
      blocks = blocks ∙ s.blocks;
      first = first ∙ h.tallied.first;
      last = last ∙ h.tallied.last;
      aggregates = totals ∙ h.tallied.totals;
      digest = digest ∙ s.digest ∙ ap (λ (n : ℕ). sha256 (tail_of (layout_of w) n full)) h.tallied.rows;
    }
