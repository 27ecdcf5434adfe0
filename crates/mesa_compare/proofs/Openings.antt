-- Files that were opened, and what an image has of them.
use Rattle.std.proofs.Common.{◌≡◌, ℕ, List, [], ◌∷◌, map, refl, sym, ◌∙◌, ap, subst}
use Rattle.std.specs.Prelude.{Option, Some, None}
use Rattle.std.specs.List.{AllByRecursion}
use Rattle.mesa_schema.specs.mesa_columns.declared.rows.Row.{Row}
use Rattle.mesa_schema.specs.Changes.{columns_of, epoch_of, lifted}
use Rattle.mesa_schema.specs.mesa_columns.Columns.{Columns}
use Rattle.mesa_disk.specs.Image.{Image}
use Rattle.mesa_examine.specs.mesa_file.declared.damage.Damage.{Damage}
use Rattle.mesa_examine.specs.mesa_delta_format.File.{IsFile, file_bytes}
use Rattle.mesa_examine.specs.mesa_delta.Reading.{index_of}
use Rattle.mesa_examine.specs.mesa_delta.declared.input.Input.{Input}
use Rattle.mesa_examine.specs.mesa_scan.Cursors.{IsInput, lift_by, reader_in}
use Rattle.mesa_merge.specs.Inputs.{AreAlike, AreTold, IsTold, known_of, knowns_of, lifted_parts}
use Rattle.mesa_examine.specs.mesa_open_files.Opening.{HaveOpened, IsDamageOf, IsOpened, wanted_columns, wanted_layout}
use Rattle.mesa_examine.specs.mesa_open_files.declared.opening.Wanted.{Wanted}
use Rattle.mesa_examine.proofs.Judged.{indexed_by}
use Rattle.mesa_compare.specs.Compared.{HasFile, HaveFiles, IsLiftedTo, present_parts, present_rows}

module _ {R : Type 0} (bytes : R → Option (List ℕ)) (faults : R → ℕ) (told : Option Image) where
  pub opened_inputs : (ws : List Wanted) (is : List (Input R)) (d : Option Damage) → HaveOpened bytes faults told ws is d → AllByRecursion (IsInput bytes) is
  opened_inputs ws [] d have = tt
  opened_inputs [] (i ∷ is) d have = absurd have
  opened_inputs (w ∷ ws) (i ∷ is) d have = (have.0.input, opened_inputs ws is d have.1)

  -- no reader has failed yet
  pub opened_fresh : (ws : List Wanted) (is : List (Input R)) (d : Option Damage) → HaveOpened bytes faults told ws is d → AllByRecursion (λ (i : Input R). faults (reader_in i) ≡ 0) is
  opened_fresh ws [] d have = tt
  opened_fresh [] (i ∷ is) d have = absurd have
  opened_fresh (w ∷ ws) (i ∷ is) d have = (have.0.fresh, opened_fresh ws is d have.1)

  -- all are lifted to the same columns
  pub opened_alike : (s : Columns) (ws : List Wanted) (is : List (Input R)) → HaveOpened bytes faults told ws is None → AllByRecursion (IsLiftedTo s) ws → AreAlike s (knowns_of bytes is)
  opened_alike s [] [] have all = tt
  opened_alike s [] (i ∷ is) have all = absurd have
  opened_alike s (w ∷ ws) [] have all = absurd have
  opened_alike s (w ∷ ws) (i ∷ is) have all = (ap columns_of have.0.lineage ∙ all.0, opened_alike s ws is have.1 all.1)

  -- ---- rows at present

  pub rows_same : (w : Wanted) (i : Input R) (rows : List Row) → IsOpened bytes faults told w i → map (lift_by i) rows ≡ present_rows w rows
  rows_same w i rows o = λ k. map (lifted (o.lineage k) (o.epoch k) (epoch_of (o.lineage k))) rows

  pub parts_same : (ws : List Wanted) (is : List (Input R)) (contents : List (List Row)) → HaveOpened bytes faults told ws is None → lifted_parts (knowns_of bytes is) contents ≡ present_parts ws contents
  parts_same [] [] contents have = refl
  parts_same [] (i ∷ is) contents have = absurd have
  parts_same (w ∷ ws) [] contents have = absurd have
  parts_same (w ∷ ws) (i ∷ is) [] have = refl
  parts_same (w ∷ ws) (i ∷ is) (rows ∷ contents) have = λ k. rows_same w i rows have.0 k ∷ parts_same ws is contents have.1 k

  -- ---- the files that an image has are those that are read

  module _ (image : Image) (is_told : told ≡ Some image) where
    pub one_told : (w : Wanted) (i : Input R) (rows : List Row) → IsOpened bytes faults told w i → HasFile image w rows → IsTold (known_of bytes i) rows
    one_told w i rows o has =
        let read = o.content image is_told in
        let found : Some read.0 ≡ Some (file_bytes (wanted_layout w) rows) = sym read.1 ∙ has.0 in
        let same : read.0 ≡ file_bytes (wanted_layout w) rows = cc in
        let x = o.index in (
          read.0,
          read.2,
          indexed_by (index_of i.reader) (wanted_layout w) w.file.now x.0 rows read.0 x.1 (o.input.over read.0 read.2) (subst (IsFile (wanted_layout w) rows) (sym same) has.1) has.2,
        )

    pub all_told : (ws : List Wanted) (is : List (Input R)) (contents : List (List Row)) → HaveOpened bytes faults told ws is None → HaveFiles image ws contents → AreTold (knowns_of bytes is) contents
    all_told [] [] [] have has = tt
    all_told [] [] (rows ∷ contents) have has = absurd has
    all_told [] (i ∷ is) contents have has = absurd have
    all_told (w ∷ ws) [] contents have has = absurd have
    all_told (w ∷ ws) (i ∷ is) [] have has = absurd has
    all_told (w ∷ ws) (i ∷ is) (rows ∷ contents) have has = (one_told w i rows have.0 has.0, all_told ws is contents have.1 has.1)

    -- and none of them is damaged
    pub not_damaged : (w : Wanted) (rows : List Row) (d : Damage) → IsDamageOf told (wanted_columns w) w.file.now d → HasFile image w rows → ⊥
    not_damaged w rows d damage has = damage.unsound image is_told (file_bytes (wanted_layout w) rows) rows has.0 has.1 has.2

    pub none_damaged : (ws : List Wanted) (is : List (Input R)) (contents : List (List Row)) (d : Damage) → HaveOpened bytes faults told ws is (Some d) → HaveFiles image ws contents → ⊥
    none_damaged [] [] contents d have has = have
    none_damaged [] (i ∷ is) contents d have has = have
    none_damaged (w ∷ ws) [] [] d have has = has
    none_damaged (w ∷ ws) [] (rows ∷ contents) d have has = not_damaged w rows d have has.0
    none_damaged (w ∷ ws) (i ∷ is) [] d have has = has
    none_damaged (w ∷ ws) (i ∷ is) (rows ∷ contents) d have has = none_damaged ws is contents d have.1 has.1
