-- Every catalogue that bodies spell keeps what catalogues keep.
use Rattle.std.proofs.Common.{◌≡◌, inr, ℕ, List, [], ◌∷◌, Option, Some, None, Result, Ok, Err, Bool, true, false, ◌&&◌, nat_le, nat_lt, refl, subst, arith}
use Rattle.std.specs.List.{AllByRecursion}
use Rattle.mesa_delta_format.specs.mesa_key.Spelling.{AreBytes}
use Rattle.mesa_record.specs.declared.record.Record.{Record}
use Rattle.mesa_record.specs.declared.record.Record.TheVariants as record_of
use Rattle.mesa_record.specs.mesa_record_fields.declared.error.RecordError.{RecordError}
use Rattle.mesa_record.specs.Reading.{record_at}
use Rattle.mesa_record.specs.Rules.{IsRecord, IsTyped}
use Rattle.mesa_record.proofs.RecordsBoth.{record_found}
use Rattle.mesa_store_spec.specs.Catalog.{Catalog, empty_catalog, applied}
use Rattle.mesa_commit.specs.mesa_disk.declared.area.Area.{Area}
use Rattle.mesa_commit.specs.mesa_disk.declared.area.Area.TheVariants.{Zero, One}
use Rattle.mesa_record.specs.mesa_record_fields.Rules.{IsTypedChange}
use Rattle.mesa_record.specs.Rules.{IsTypedTable}
use Rattle.mesa_record.specs.declared.checkpoint.CheckpointTable.{CheckpointTable}
use Rattle.mesa_record.specs.declared.checkpoint.Checkpoint.{Checkpoint}
use Rattle.mesa_store_spec.specs.Checkpoint.{stated}
use Rattle.mesa_store_spec.specs.CheckpointFits.{checkpoint_fits, counts_fit, number_fits, tables_fit}
use Rattle.mesa_store_spec.specs.Fitting.{fits, kind_fits, brings_new_files, with_body, read_record, applied_if, then_bodies, catalog_from}
use Rattle.mesa_store_spec.specs.Journaled.{catalog, checkpoint_in, first_body, first_by, first_read, stated_if}
use Rattle.mesa_store_spec.specs.Countable.{AreCounted}
use Rattle.mesa_store_spec.specs.Statable.{AreStatable}
use Rattle.mesa_store_spec.specs.Recordable.{AreRecordable}
use Rattle.mesa_store_spec.proofs.StatableRecords.{applied_so, stated_so}
use Rattle.mesa_store_spec.proofs.StatedShape.{stated_owns, stated_shaped}
use Rattle.mesa_store_spec.proofs.CountedRecords.{fits_counted, stated_counted}
use Rattle.mesa_store_spec.proofs.Recordable.{applied_recordable, stated_recordable}
use Rattle.mesa_history_spec.proofs.mesa_columns.Lists.{all_so}
use Rattle.mesa_store_spec.specs.Shape.{IsCatalog}
use Rattle.mesa_store_spec.specs.Ids.{HasOwnIds}
use Rattle.mesa_store_spec.proofs.OneMore.{checkpoint_is}
use Rattle.mesa_store_spec.proofs.Ids.{own_ids}
use Rattle.mesa_store_spec.proofs.Lists.{both_true, is_less}
use Rattle.mesa_store_spec.proofs.Shaping.{run_shaped, expire_shaped}
use Rattle.mesa_store_spec.proofs.ShapedTables.{table_shaped, view_shaped, alter_shaped, expire_table_shaped}
use Rattle.mesa_store_spec.proofs.ShapedBatches.{publish_shaped, swap_shaped}
use Rattle.mesa_store_spec.proofs.ShapedRecasts.{recast_catalog}

-- A record that keeps the rules of its kind keeps the shape.
pub kind_shaped : (c : Catalog) (r : Record) → IsCatalog c → IsTyped r → kind_fits c r ≡ true → IsCatalog (applied c r)
kind_shaped c (record_of.Run number) is typed e = run_shaped c number is
kind_shaped c (record_of.Table name keys values) is typed e = table_shaped c name (record { keys = keys; values = values }) is e
kind_shaped c (record_of.View table name keys values) is typed e = view_shaped c table name keys values is e
kind_shaped c (record_of.Alter table change) is typed e = alter_shaped c table change is typed.1 e
kind_shaped c (record_of.Publish version parts) is typed e = publish_shaped c version parts is e
kind_shaped c (record_of.Swap table base from to epoch files) is typed e = swap_shaped c table base from to epoch files is e
kind_shaped c (record_of.Expire version) is typed e =
    let both = both_true (nat_le c.floor version) (nat_lt version c.next) e in
    expire_shaped c version (is_less version c.next both.1) is
kind_shaped c (record_of.ExpireTable table version) is typed e = expire_table_shaped c table version is e
kind_shaped c (record_of.Checkpoint k) is typed e = is
kind_shaped c (record_of.Recast k) is typed e = recast_catalog c k is e

-- A record that fits keeps the shape.
pub fits_shaped : (c : Catalog) (r : Record) → IsCatalog c → IsTyped r → fits c r ≡ true → IsCatalog (applied c r)
unfolding fits
fits_shaped c r is typed e = kind_shaped c r is typed (both_true (kind_fits c r) (brings_new_files c r) e).0

pub empty_shaped : IsCatalog empty_catalog
empty_shaped = record { tables = tt; names = refl; floor = inr (refl, refl); few = omega arith; most = omega arith }

-- what records that fit keep, and the empty catalogue has, every catalogue has that bodies make
module _ (P : Catalog → Type 0) (keeps : (c : Catalog) (r : Record) → P c → IsRecord r → fits c r ≡ true → P (applied c r)) where
  applied_kept : (c d : Catalog) (r : Record) → P c → IsRecord r → (b : Bool) → fits c r ≡ b → applied_if c r b ≡ Some d → P d
  applied_kept c d r is its true good e = (let same : applied c r ≡ d = cc in subst P same (keeps c r is its good))
  applied_kept c d r is its false good e = absurd (cc)

  read_kept : (c d : Catalog) (body : List ℕ) → AreBytes body → P c → with_body c body ≡ Some d → P d
  read_kept c d body bytes is e = by (record_at body) refl e
    where
      by : (o : Result Record RecordError) → record_at body ≡ o → read_record c o ≡ Some d → P d
      by (Ok r) reads e = applied_kept c d r is (record_found body r bytes reads).0 (fits c r) refl e
      by (Err x) reads e = absurd (cc)

  from_kept : (bodies : List (List ℕ)) (c d : Catalog) → AllByRecursion AreBytes bodies → P c → catalog_from c bodies ≡ Some d → P d
  unfolding catalog_from
  from_kept [] c d bytes is e = (let same : c ≡ d = cc in subst P same is)
  from_kept (body ∷ bodies) c d bytes is e = after c d body bodies bytes.0 is (with_body c body) refl e (λ b more. from_kept bodies b d bytes.1 more)
    where
      after : (c d : Catalog) (body : List ℕ) (bodies : List (List ℕ)) → AreBytes body → P c → (o : Option Catalog) → with_body c body ≡ o → then_bodies o (λ b. catalog_from b bodies) ≡ Some d
          → ((b : Catalog) → P b → catalog_from b bodies ≡ Some d → P d) → P d
      after c d body bodies bytes is None read e rest = absurd (cc)
      after c d body bodies bytes is (Some b) read e rest = rest b (read_kept c b body bytes is read) e

  module _ (empty : P empty_catalog) (begun : (area : Area) (k : Checkpoint) → IsRecord (record_of.Checkpoint k) → checkpoint_fits area k ≡ true → P (stated k)) where
    stated_kept : (area : Area) (k : Checkpoint) (d : Catalog) → IsRecord (record_of.Checkpoint k) → (b : Bool) → checkpoint_fits area k ≡ b → stated_if k b ≡ Some d → P d
    stated_kept area k d is true fit e = (let same : stated k ≡ d = cc in subst P same (begun area k is fit))
    stated_kept area k d is false fit e = absurd (cc)

    first_kept : (area : Area) (r : Record) (d : Catalog) → IsRecord r → (o : Option Checkpoint) → checkpoint_in r ≡ o → first_by area r o ≡ Some d → P d
    first_kept area r d is (Some k) found e = stated_kept area k d (subst IsRecord (checkpoint_is r k found) is) (checkpoint_fits area k) refl e
    first_kept Zero r d is None found e = applied_kept empty_catalog d r empty is (fits empty_catalog r) refl e
    first_kept One r d is None found e = absurd (cc)

    body_kept : (area : Area) (body : List ℕ) (d : Catalog) → AreBytes body → (o : Result Record RecordError) → record_at body ≡ o → first_read area o ≡ Some d → P d
    body_kept area body d bytes (Ok r) reads e = first_kept area r d (record_found body r bytes reads).0 (checkpoint_in r) refl e
    body_kept area body d bytes (Err x) reads e = absurd (cc)

    then_kept : (o : Option Catalog) (bodies : List (List ℕ)) (d : Catalog) → AllByRecursion AreBytes bodies → ((b : Catalog) → o ≡ Some b → P b) → then_bodies o (λ b. catalog_from b bodies) ≡ Some d → P d
    then_kept None bodies d bytes first e = absurd (cc)
    then_kept (Some b) bodies d bytes first e = from_kept bodies b d bytes (first b refl) e

    pub whole : (area : Area) (bodies : List (List ℕ)) (d : Catalog) → AllByRecursion AreBytes bodies → catalog area bodies ≡ Some d → P d
    whole Zero [] d bytes e = (let same : empty_catalog ≡ d = cc in subst P same empty)
    whole One [] d bytes e = absurd (cc)
    whole area (body ∷ bodies) d bytes e = then_kept (first_body area body) bodies d bytes.1 (λ b made. body_kept area body b bytes.0 (record_at body) refl made) e

-- ---- what every catalogue has

both_of : (area : Area) (k : Checkpoint) → checkpoint_fits area k ≡ true → (counts_fit k ≡ true) × (tables_fit k ≡ true)
both_of area k fit =
    let last = both_true (number_fits area k.number && counts_fit k) (tables_fit k) fit in
    ((both_true (number_fits area k.number) (counts_fit k) last.0).1, last.1)

changes_typed : (ts : List CheckpointTable) → AllByRecursion IsTypedTable ts → AllByRecursion (λ (t : CheckpointTable). AllByRecursion IsTypedChange t.changes) ts
changes_typed ts all = all_so IsTypedTable (λ (t : CheckpointTable). AllByRecursion IsTypedChange t.changes) ts (λ t is. is.columns.changes) all

-- the shape, own ids, and what a checkpoint states and counts
pub record IsWhole (c : Catalog) : Type 0 where
  pub shaped : IsCatalog c
  pub own : HasOwnIds c
  pub statable : AreStatable c
  pub counted : AreCounted c
  pub recordable : AreRecordable c

stated_whole : (area : Area) (k : Checkpoint) → IsRecord (record_of.Checkpoint k) → checkpoint_fits area k ≡ true → IsWhole (stated k)
stated_whole area k is fit =
    let fits = both_of area k fit in
    let typed = changes_typed k.tables is.typed.tables in
    record { shaped = stated_shaped k fits.0 fits.1 typed; own = stated_owns k fits.1; statable = stated_so k; counted = stated_counted k fits.0 fits.1; recordable = stated_recordable k is }

-- Every catalogue that an area's bodies spell is whole.
pub catalog_whole : (area : Area) (bodies : List (List ℕ)) (c : Catalog) → AllByRecursion AreBytes bodies → catalog area bodies ≡ Some c → IsWhole c
catalog_whole = whole IsWhole
    (λ c r is its fit. record { shaped = fits_shaped c r is.shaped its.typed fit; own = own_ids c r its.rules fit is.own; statable = applied_so c r is.statable; counted = fits_counted c r is.shaped is.counted fit; recordable = applied_recordable c r its is.recordable })
    (record { shaped = empty_shaped; own = record { once = λ id. omega arith; runs = λ id some. absurd (omega (arith, some)) }; statable = tt; counted = record { tables = tt; run = omega arith }; recordable = tt })
    stated_whole
