-- A base as it is to be, once its range is rewritten.
use Rattle.std.proofs.Common.{◌≡◌, ℕ, refl, sym, ◌∙◌, ap, subst, List, [], ◌∷◌, Option, None, Some}
use Rattle.std.specs.Prelude.{IfSome, option_map}
use Rattle.std.specs.declared.alloc.Global.{Global}
use Rattle.std.specs.declared.sync.Arc.{Arc}
use Rattle.mesa_record.specs.declared.record.Files.{Files}
use Rattle.mesa_record.specs.declared.recasting.RecastBase.{RecastBase}
use Rattle.mesa_engine.specs.mesa_store_spec.Catalog.{Delta}
use Rattle.mesa_catalog_table.specs.Meaning.{delta_or_empty, ending_of}
use Rattle.mesa_catalog_table.specs.declared.table.Base.{Base}
use Rattle.mesa_open_files.specs.declared.recasting.RecastedRange.{RecastedRange}
use Rattle.mesa_file_records.specs.Adopted.{ref_under}
use Rattle.mesa_file_records.specs.Recasts.{HasFile, HasFileAt, IsBaseRewritten, IsEndingRewritten, Took, rewritten_under, with_file}

pub no_base : (old : Option Base) → old ≡ None → IsBaseRewritten (option_map ending_of old) [] None
no_base old none = subst (λ (o : Option Base). IsBaseRewritten (option_map ending_of o) [] None) (sym none) refl

module _ (old : Option Base) (b : Base) (some : old ≡ Some b) where
  -- Without rows a base stays,
  pub empty_base : (delta_or_empty b.delta).files ≡ None → IsBaseRewritten (option_map ending_of old) [] (Some (record { to = b.to; files = None }))
  empty_base none =
      let its : Option RecastBase = Some (record { to = b.to; files = None }) in
      subst (λ (o : Option Base). IsBaseRewritten (option_map ending_of o) [] its) (sym some) (subst (λ (f : Option Files). IsEndingRewritten b.to f [] its) (sym none) refl)

  module _ {M : Type 0} (f : Files) (has : (delta_or_empty b.delta).files ≡ Some f) where
    -- and with rows it has its range's file.
    pub full_base : (id : ℕ) (k : Took M) → k.range.from ≡ 0 → k.range.to ≡ b.to → (files : Files) → files ≡ with_file f (ref_under id k.file)
        → IsBaseRewritten (option_map ending_of old) (rewritten_under id (k ∷ [])) (Some (record { to = b.to; files = Some files }))
    full_base id k from to files are =
        let its : Option RecastBase = Some (record { to = b.to; files = Some files }) in
        subst (λ (o : Option Base). IsBaseRewritten (option_map ending_of o) (rewritten_under id (k ∷ [])) its) (sym some)
        (subst (λ (o : Option Files). IsEndingRewritten b.to o (rewritten_under id (k ∷ [])) its) (sym has)
        (refl, ref_under id k.file, refl, from, to, (λ i. Some (record { to = b.to; files = Some (are i) }))))

    -- Its range is there.
    pub base_there : (ys : List (RecastedRange M)) → IfSome old (λ (x : Base). HasFileAt ys 0 x.to (ending_of x).delta.files) → HasFile ys 0 b.to
    base_there ys there = subst (HasFileAt ys 0 b.to) has (subst (λ (o : Option Base). IfSome o (λ (x : Base). HasFileAt ys 0 x.to (ending_of x).delta.files)) some there)

-- the files of a delta that is held
pub held_files : (o : Option (Arc Delta Global)) (d : Arc Delta Global) (files : Option Files) → o ≡ Some d → d.value.files ≡ files → (delta_or_empty o).files ≡ files
held_files o d files some are = ap (λ (x : Option (Arc Delta Global)). (delta_or_empty x).files) some ∙ are

pub no_files : (o : Option (Arc Delta Global)) → o ≡ None → (delta_or_empty o).files ≡ None
no_files o none = ap (λ (x : Option (Arc Delta Global)). (delta_or_empty x).files) none
