-- Where a recast has a table's ranges, each of them with rows was rewritten into a file.
use Rattle.std.proofs.Common.{◌≡◌, inl, inr, ℕ, List, [], ◌∷◌, refl, ◌∙◌, subst, Option, Some, None}
use Rattle.mesa_columns.specs.Columns.{Columns}
use Rattle.mesa_pick_files.specs.mesa_schema.Recasts.{Recast as Asked}
use Rattle.mesa_columns.proofs.Lists.{all_so}
use Rattle.mesa_pick_files.specs.mesa_delta.declared.input.Input.{Input}
use Rattle.mesa_record.specs.declared.record.Files.{Files}
use Rattle.mesa_engine.specs.mesa_store_spec.Catalog.{TableMeta}
use Rattle.mesa_pick_files.specs.Ranges.{HasInput, HoldsAll, HoldsAt, Ranged, ranged}
use Rattle.mesa_open_files.specs.Made.{Content}
use Rattle.mesa_open_files.specs.Recasts.{AreRewritten, HasRangeFile, recast_content}
use Rattle.mesa_open_files.specs.declared.made.MadeFile.{MadeFile}
use Rattle.mesa_open_files.specs.declared.recasting.RecastRange.{RecastRange}
use Rattle.mesa_open_files.specs.declared.recasting.RecastedRange.{RecastedRange}
use Rattle.mesa_file_records.specs.Recasts.{HasFile, HasFileAt, HasFiles}

module _ {M R : Type 0} (bytes : M → Option (List ℕ)) (id_of : M → ℕ) (read : R → Option (List ℕ)) (s : Columns) (r : Asked) where
  -- a file where there is an input
  made_there : (content : Content) (i : Input R) (o : Option (MadeFile M)) → HasRangeFile bytes id_of content (Some i) o → (f : MadeFile M) × (o ≡ Some f)
  made_there content i None is = absurd is
  made_there content i (Some f) is = (f, refl)

  file_there : (from to : ℕ) (xs : List (RecastRange R)) (ys : List (RecastedRange M)) → AreRewritten bytes id_of read s r xs ys → HasInput xs from to → HasFile ys from to
  file_there from to [] ys are has = absurd has
  file_there from to (x ∷ xs) [] are has = absurd are
  file_there from to (x ∷ xs) (y ∷ ys) are (inl is) =
      let content = recast_content s r are.0.rows in
      let file = made_there content is.2 y.file (subst (λ (o : Option (Input R)). HasRangeFile bytes id_of content o y.file) is.3 are.0.file) in
      inl (are.0.from ∙ is.0, are.0.to ∙ is.1, file.0, file.1)
  file_there from to (x ∷ xs) (y ∷ ys) are (inr has) = inr (file_there from to xs ys are.1 has)

  at_files : (xs : List (RecastRange R)) (ys : List (RecastedRange M)) → AreRewritten bytes id_of read s r xs ys → (from to : ℕ) (files : Option Files) → HoldsAt xs from to files → HasFileAt ys from to files
  at_files xs ys are from to None has = tt
  at_files xs ys are from to (Some f) has = file_there from to xs ys are has

  pub held_files : (xs : List (RecastRange R)) (ys : List (RecastedRange M)) (t : TableMeta) → AreRewritten bytes id_of read s r xs ys → HoldsAll xs t → HasFiles ys t
  held_files xs ys t are holds =
      all_so (λ (x : Ranged). HoldsAt xs x.from x.to x.delta.files) (λ (x : Ranged). HasFileAt ys x.from x.to x.delta.files) (ranged t) (λ x has. at_files xs ys are x.from x.to x.delta.files has) holds
