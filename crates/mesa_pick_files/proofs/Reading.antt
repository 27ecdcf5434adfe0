-- The files by which a relation is read are those of the deltas that have rows.
use Rattle.std.proofs.Common.{◌≡◌, ℕ, List, [], ◌∷◌, ◌++◌, map, refl, sym, ap, ◌∙◌, subst, cond, Option, Some, None}
use Rattle.std.specs.Prelude.{flat_map, is_some, slice_get}
use Rattle.std.specs.List.{AllByRecursion}
use Rattle.mesa_schema.specs.Changes.{Lineage, columns_of}
use Rattle.mesa_validate.specs.mesa_columns.Columns.{Columns}
use Rattle.mesa_validate.specs.mesa_columns.declared.views.View.{View}
use Rattle.mesa_schema.specs.Views.{view_columns}
use Rattle.mesa_disk.specs.Image.{Image}
use Rattle.mesa_validate.specs.mesa_store_spec.Catalog.{Delta}
use Rattle.mesa_record.specs.declared.record.Files.{Files}
use Rattle.mesa_record.specs.declared.record.ViewRef.{ViewRef}
use Rattle.mesa_pick_files.specs.Read.{own_file, relation_read, view_read}
use Rattle.mesa_pick_files.specs.Files.{Seen, Want, files_seen, files_wanted, own_in, own_lineage, seen_by, table_wanted, view_file, view_wanted, want_in, want_of}
use Rattle.mesa_pick_files.specs.Lent.{with_rows}
use Rattle.mesa_query.specs.mesa_group_blocks.Moved.{inputs_in}
use Rattle.mesa_query.specs.Files.{owns_in}
use Rattle.mesa_open_files.specs.Opening.{HaveOpened}
use Rattle.mesa_open_files.specs.Pins.{HasViewOf, IsOfRelation, IsPinnedInput, view_at}
use Rattle.mesa_open_files.specs.declared.opening.Wanted.{Wanted}
use Rattle.mesa_open_files.specs.declared.querying.PinnedInput.{PinnedInput}

-- ---- deltas without rows have no files

module _ {X : Type 0} (f : Delta → List X) (none : (d : Delta) → d.files ≡ None → f d ≡ []) where
  rows_alone : (ds : List Delta) → flat_map f ds ≡ flat_map f (with_rows ds)
  rows_alone [] = refl
  rows_alone (d ∷ ds) = by d.files refl (rows_alone ds)
    where
      by : (o : Option Files) → d.files ≡ o → flat_map f ds ≡ flat_map f (with_rows ds) → f d ++ flat_map f ds ≡ flat_map f (cond (is_some d.files) (d ∷ with_rows ds) (with_rows ds))
      by None is more = ap (λ (xs : List X). xs ++ flat_map f ds) (none d is) ∙ more ∙ sym (ap (λ (o : Option Files). flat_map f (cond (is_some o) (d ∷ with_rows ds) (with_rows ds))) is)
      by (Some x) is more = ap (λ (xs : List X). f d ++ xs) more ∙ sym (ap (λ (o : Option Files). flat_map f (cond (is_some o) (d ∷ with_rows ds) (with_rows ds))) is)

  same_rows : (xs ys : List Delta) → with_rows xs ≡ with_rows ys → flat_map f xs ≡ flat_map f ys
  same_rows xs ys same = rows_alone xs ∙ ap (flat_map f) same ∙ sym (rows_alone ys)

-- so deltas that are alike but for those without rows are read by the same files
pub same_read : (l : Lineage) (view : Option ℕ) (xs ys : List Delta) → with_rows xs ≡ with_rows ys → relation_read l view xs ≡ relation_read l view ys
same_read l None xs ys same = ap (map own_file) (same_rows (table_wanted l) (λ d is. ap (files_wanted l d.epoch) is) xs ys same)
same_read l (Some number) xs ys same = by (slice_get l.views number)
  where
    by : (o : Option View) → view_read l number xs o ≡ view_read l number ys o
    by None = refl
    by (Some v) = same_rows (view_wanted l (own_lineage l v) number) (λ d is. ap (files_seen l (own_lineage l v) number d.epoch) is) xs ys same

-- ---- a table's own

pub owned : (ws : List Want) → map want_in (map own_file ws) ≡ ws
owned [] = refl
owned (w ∷ ws) = ap (λ (vs : List Want). w ∷ vs) (owned ws)

-- ---- each is one of the relation

-- A file is the relation's own, with these columns, or one of its table.
abbrev pub IsOf : Columns → Option ℕ → Seen → Type 0
IsOf s view x = IsOfRelation s view x.want.lineage x.own

table_of : (l : Lineage) (ds : List Delta) → AllByRecursion (IsOf (columns_of l) None) (map own_file (flat_map (table_wanted l) ds))
table_of l [] = tt
table_of l (d ∷ ds) = by d.files (table_of l ds)
  where
    by : (o : Option Files) → AllByRecursion (IsOf (columns_of l) None) (map own_file (flat_map (table_wanted l) ds)) → AllByRecursion (IsOf (columns_of l) None) (map own_file (files_wanted l d.epoch o ++ flat_map (table_wanted l) ds))
    by None rest = rest
    by (Some f) rest = (refl, rest)

view_of : (l : Lineage) (number : ℕ) (v : View) → slice_get l.views number ≡ Some v → (ds : List Delta) → AllByRecursion (IsOf (view_columns (columns_of l) v) (Some number)) (flat_map (view_wanted l (own_lineage l v) number) ds)
view_of l number v there [] = tt
view_of l number v there (d ∷ ds) = by d.files (view_of l number v there ds)
  where
    one : (f : Files) (o : Option ViewRef) → IsOf (view_columns (columns_of l) v) (Some number) (seen_by l (own_lineage l v) d.epoch f o)
    one f None = subst (HasViewOf (view_columns (columns_of l) v) (columns_of l)) (sym there) refl
    one f (Some ref) = refl

    by : (o : Option Files) → AllByRecursion (IsOf (view_columns (columns_of l) v) (Some number)) (flat_map (view_wanted l (own_lineage l v) number) ds)
        → AllByRecursion (IsOf (view_columns (columns_of l) v) (Some number)) (files_seen l (own_lineage l v) number d.epoch o ++ flat_map (view_wanted l (own_lineage l v) number) ds)
    by None rest = rest
    by (Some f) rest = (one f (view_file number f.views), rest)

-- the columns of a table, or of the view of a number
abbrev pub view_seen : Columns → Option View → Columns
view_seen s None = s
view_seen s (Some v) = view_columns s v

abbrev pub columns_read : Lineage → Option ℕ → Columns
columns_read l view = view_seen (columns_of l) (view_at l view)

abbrev pub IsThere : Lineage → Option ℕ → Type 0
IsThere l None = Unit {0}
IsThere l (Some number) = (v : View) × (slice_get l.views number ≡ Some v)

pub all_of : (l : Lineage) (view : Option ℕ) → IsThere l view → (ds : List Delta) → AllByRecursion (IsOf (columns_read l view) view) (relation_read l view ds)
all_of l None there ds = table_of l ds
all_of l (Some number) there ds =
    subst (λ (o : Option View). AllByRecursion (IsOf (view_seen (columns_of l) o) (Some number)) (view_read l number ds o)) (sym there.1) (view_of l number there.0 there.1 ds)

-- So are the inputs that read them.
pub all_pinned : {R : Type 0} (bytes : R → Option (List ℕ)) (faults : R → ℕ) (told : Option Image) (s : Columns) (view : Option ℕ) (ws : List Wanted) (seen : List Seen) (files : List (PinnedInput R))
    → map want_of ws ≡ map want_in seen → owns_in files ≡ map own_in seen → HaveOpened bytes faults told ws (inputs_in files) None → AllByRecursion (IsOf s view) seen → AllByRecursion (IsPinnedInput bytes s view) files
all_pinned bytes faults told s view ws seen [] are own have all = tt
all_pinned bytes faults told s view [] seen (f ∷ files) are own have all = absurd have
all_pinned bytes faults told s view (w ∷ ws) [] (f ∷ files) are own have all = absurd cc
all_pinned bytes faults told s view (w ∷ ws) (x ∷ seen) (f ∷ files) are own have all =
    let first : want_of w ≡ x.want = cc in
    let others : map want_of ws ≡ map want_in seen = cc in
    let whose : f.own ≡ x.own = cc in
    let rest : owns_in files ≡ map own_in seen = cc in
    let lineage : f.input.evolving.value ≡ x.want.lineage = have.0.lineage ∙ ap (λ (y : Want). y.lineage) first in (
      record { input = have.0.input; relation = subst (λ (l : Lineage). IsOfRelation s view l f.own) (sym lineage) (subst (IsOfRelation s view x.want.lineage) (sym whose) all.0) },
      all_pinned bytes faults told s view ws seen files others rest have.1 all.1,
    )
