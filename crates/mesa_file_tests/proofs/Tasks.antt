-- Further readers of two files.
use Rattle.std.proofs.Common.{◌≡◌, ℕ, List, [], ◌∷◌, sym, ap, ◌∙◌}
use Rattle.std.specs.Prelude.{Option, None, Some}
use Rattle.std.specs.List.{AllByRecursion}
use Rattle.mesa_file.specs.declared.file_ref.FileRef.{FileRef}
use Rattle.mesa_schema.specs.Changes.{Lineage, columns_of}
use Rattle.mesa_delta.specs.declared.input.Input.{Input}
use Rattle.mesa_scan.specs.Cursors.{reader_in}
use Rattle.mesa_merge.specs.Inputs.{AreInputs}
use Rattle.mesa_open_files.specs.Spares.{AreSpareInputs, IsSpareInput}
use Rattle.mesa_open_files.specs.declared.merging.Spare.{Spare}
use Rattle.mesa_file_tests.specs.Opened.{AreOpened, IsOpened, IsOpenedPart}

-- opened inputs may be merged
pub opened_inputs : {R : Type 0} (bytes : R → Option (List ℕ)) (older newer : FileRef) (l : Lineage) (is : List (Input R)) → AreOpened bytes older newer l is → AreInputs bytes (columns_of l) is
opened_inputs bytes older newer l [] h = absurd h
opened_inputs bytes older newer l (a ∷ []) h = absurd h
opened_inputs bytes older newer l (a ∷ b ∷ []) h = record { each = (h.0.input, (h.1.input, tt)); alike = (ap (λ (t : Lineage). columns_of t) h.0.table, (ap (λ (t : Lineage). columns_of t) h.1.table, tt)) }
opened_inputs bytes older newer l (a ∷ b ∷ c ∷ more) h = absurd h

module _ {R : Type 0} (bytes : R → Option (List ℕ)) where
  -- ---- spares, whose readers tell no bytes

  one_spare : ((r : R) → bytes r ≡ None) → (file : FileRef) (l : Lineage) (i j : Input R) → IsOpened bytes file l i → IsOpened bytes file l j → IsSpareInput bytes i j
  one_spare untold file l i j p q = record {
    file = file;
    first = p.refers;
    second = q.refers;
    lineage = q.table ∙ sym p.table;
    epoch = q.epoch ∙ sym p.epoch;
    input = q.input;
    told = λ b is. absurd (let none : None ≡ Some b = sym (untold (reader_in i)) ∙ is in cc);
  }

  spare_inputs : ((r : R) → bytes r ≡ None) → (older newer : FileRef) (l : Lineage) (is js : List (Input R)) → AreOpened bytes older newer l is → AreOpened bytes older newer l js → AreSpareInputs bytes is js
  spare_inputs untold older newer l [] js p q = absurd p
  spare_inputs untold older newer l (a ∷ []) js p q = absurd p
  spare_inputs untold older newer l (a ∷ b ∷ []) [] p q = absurd q
  spare_inputs untold older newer l (a ∷ b ∷ []) (d ∷ []) p q = absurd q
  spare_inputs untold older newer l (a ∷ b ∷ []) (d ∷ e ∷ []) p q = (one_spare untold older l a d p.0 q.0, (one_spare untold newer l b e p.1 q.1, tt))
  spare_inputs untold older newer l (a ∷ b ∷ []) (d ∷ e ∷ f ∷ more) p q = absurd q
  spare_inputs untold older newer l (a ∷ b ∷ c ∷ more) js p q = absurd p

  -- the further readers of the parts of two files read those of the first
  pub opened_spares : ((r : R) → bytes r ≡ None) → (older newer : FileRef) (l : Lineage) (first : Spare R) (ss : List (Spare R)) → IsOpenedPart bytes older newer l first → AllByRecursion (IsOpenedPart bytes older newer l) ss
      → AllByRecursion (λ (s : Spare R). AreSpareInputs bytes first.inputs.items s.inputs.items) ss
  opened_spares untold older newer l first [] part all = tt
  opened_spares untold older newer l first (s ∷ ss) part all = (spare_inputs untold older newer l first.inputs.items s.inputs.items part.inputs all.0.inputs, opened_spares untold older newer l first ss part all.1)
