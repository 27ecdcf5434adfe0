-- What further readers of files are good for: they are inputs where those they stand beside are, and tell what those tell.
use Rattle.std.proofs.Common.{◌≡◌, ℕ, List, [], ◌∷◌, length, Option, None, Some, refl, sym, ap, subst, ◌∙◌}
use Rattle.sha2.specs.Sha256.{sha256}
use Rattle.mesa_disk.specs.Image.{Image}
use Rattle.mesa_history_spec.specs.mesa_columns.declared.rows.Row.{Row}
use Rattle.mesa_schema.specs.Changes.{Lineage, columns_at}
use Rattle.mesa_scan.specs.mesa_block.Layout.{Layout}
use Rattle.mesa_scan.specs.mesa_delta_format.File.{IsFile}
use Rattle.mesa_scan.specs.mesa_delta_format.Indexed.{IsIndexOf}
use Rattle.mesa_delta.specs.Reading.{index_of}
use Rattle.mesa_scan.specs.mesa_delta_format.Spread.{blocks_of}
use Rattle.mesa_scan.specs.mesa_delta_format.Summary.{file_layout}
use Rattle.mesa_delta.specs.declared.input.Input.{Input}
use Rattle.mesa_scan.specs.Cursors.{reader_in}
use Rattle.mesa_open_files.specs.declared.opening.Wanted.{Wanted}
use Rattle.mesa_open_files.specs.Inputs.{AreInputsOf, AreTold, IsTold, lineage_of}
use Rattle.mesa_open_files.specs.Opening.{HaveOpened, IsOpened}
use Rattle.mesa_open_files.specs.Spares.{AreSpareInputs, IsReferredBy, IsSpareInput}

none_some : {A : Type 0} (o : Option A) (x : A) → o ≡ None → o ≡ Some x → ⊥
none_some o x none some = cc

-- of equal values one is the other's value, and the third's
same_some : {A : Type 0} (x y z : A) → Some x ≡ Some y → Some x ≡ Some z → Some y ≡ Some z
same_some x y z one two = sym one ∙ two

module _ {R : Type 0} (bytes : R → Option (List ℕ)) where
  same_layout : (i j : Input R) → IsSpareInput bytes i j → (index_of i.reader).layout ≡ (index_of j.reader).layout
  same_layout i j s =
      s.first.1.layout
      ∙ ap (λ (l : Lineage). file_layout (columns_at l i.epoch) s.file) (sym s.lineage)
      ∙ ap (λ (e : ℕ). file_layout (columns_at (lineage_of j) e) s.file) (sym s.epoch)
      ∙ sym s.second.1.layout

  pub one_told : (i j : Input R) (rows : List Row) → IsSpareInput bytes i j → IsTold bytes i rows → IsTold bytes j rows
  one_told i j rows s told =
      let layout = same_layout i j s in
      let again = s.told told.0 told.1 in (
        told.0,
        again,
        record {
          file = subst (λ (l : Layout). IsFile l rows told.0) layout told.2.file;
          over = s.input.over told.0 again;
          blocks = subst (λ (l : Layout). length (blocks_of l rows) ≡ length (index_of j.reader).entries) layout (told.2.blocks ∙ s.first.1.blocks ∙ sym s.second.1.blocks);
          last = s.second.1.last ∙ sym s.first.1.last ∙ told.2.last;
        },
      )

  -- where inputs are told, further readers of their files tell the same rows
  pub spares_told : (is js : List (Input R)) (parts : List (List Row)) → AreSpareInputs bytes is js → AreTold bytes is parts → AreTold bytes js parts
  spares_told [] [] parts spares told = told
  spares_told [] (j ∷ js) parts spares told = absurd spares
  spares_told (i ∷ is) [] parts spares told = absurd spares
  spares_told (i ∷ is) (j ∷ js) [] spares told = absurd told
  spares_told (i ∷ is) (j ∷ js) (rows ∷ parts) spares told = (one_told i j rows spares.0 told.0, spares_told is js parts spares.1 told.1)

  -- they are of the same table
  pub spares_are : (l : Lineage) (is js : List (Input R)) → AreSpareInputs bytes is js → AreInputsOf bytes l is → AreInputsOf bytes l js
  spares_are l [] [] spares are = tt
  spares_are l [] (j ∷ js) spares are = absurd spares
  spares_are l (i ∷ is) [] spares are = absurd spares
  spares_are l (i ∷ is) (j ∷ js) spares are = ((spares.0.input, spares.0.lineage ∙ are.0.1), spares_are l is js spares.1 are.1)

  module _ (faults : R → ℕ) (told : Option Image) where
    referred : (w : Wanted) (i : Input R) → IsOpened bytes faults told w i → IsReferredBy w.file.now i
    referred w i o =
        subst (λ (e : ℕ). (tail : List ℕ) × IsIndexOf w.file.now (file_layout (columns_at (lineage_of i) e) w.file.now) tail (index_of i.reader) × (sha256 tail ≡ w.file.now.digest)) (sym o.epoch)
        (subst (λ (l : Lineage). (tail : List ℕ) × IsIndexOf w.file.now (file_layout (columns_at l w.epoch) w.file.now) tail (index_of i.reader) × (sha256 tail ≡ w.file.now.digest)) (sym o.lineage) o.index)

    told_again : (t : Option Image) → t ≡ told → (w : Wanted) (i j : Input R) → IsOpened bytes faults told w i → IsOpened bytes faults told w j → (b : List ℕ) → bytes (reader_in i) ≡ Some b → bytes (reader_in j) ≡ Some b
    told_again None is w i j one two b tells = absurd (none_some (bytes (reader_in i)) b (one.untold (sym is)) tells)
    told_again (Some image) is w i j one two b tells =
        let here = one.content image (sym is) in
        let there = two.content image (sym is) in
        there.2 ∙ same_some here.0 there.0 b (sym here.1 ∙ there.1) (sym here.2 ∙ tells)

    -- what was opened twice is read twice
    one_opened : (w : Wanted) (i j : Input R) → IsOpened bytes faults told w i → IsOpened bytes faults told w j → IsSpareInput bytes i j
    one_opened w i j one two = record {
      file = w.file.now;
      first = referred w i one;
      second = referred w j two;
      lineage = two.lineage ∙ sym one.lineage;
      epoch = two.epoch ∙ sym one.epoch;
      input = two.input;
      told = told_again told refl w i j one two;
    }

    pub spares_opened : (ws : List Wanted) (is js : List (Input R)) → HaveOpened bytes faults told ws is None → HaveOpened bytes faults told ws js None → AreSpareInputs bytes is js
    spares_opened [] [] [] one two = tt
    spares_opened [] [] (j ∷ js) one two = absurd two
    spares_opened [] (i ∷ is) js one two = absurd one
    spares_opened (w ∷ ws) [] js one two = absurd one
    spares_opened (w ∷ ws) (i ∷ is) [] one two = absurd two
    spares_opened (w ∷ ws) (i ∷ is) (j ∷ js) one two = (one_opened w i j one.0 two.0, spares_opened ws is js one.1 two.1)
