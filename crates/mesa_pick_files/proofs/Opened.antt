-- Files that were opened, for a relation.
use Rattle.std.proofs.Common.{◌≡◌, ℕ, suc, ◌<◌, List, [], ◌∷◌, length, map, get_or, refl, sym, ap, ◌∙◌, Bool, true, Option, Some, None, Result, Ok, Err, replicate}
use Rattle.std.specs.Prelude.{IfOk, IfSome, flat_map, slice_get}
use Rattle.std.specs.List.{AllByRecursion}
use Rattle.std.proofs.lemmas.Option.{slice_get-get_or}
use Rattle.mesa_query.specs.mesa_scan.Cursors.{reader_in}
use Rattle.mesa_delta.specs.declared.input.Input.{Input}
use Rattle.mesa_disk.specs.Image.{Image}
use Rattle.mesa_file.specs.declared.damage.Damage.{Damage}
use Rattle.mesa_validate.specs.mesa_store_spec.Catalog.{Delta}
use Rattle.mesa_schema.specs.Changes.{Lineage}
use Rattle.mesa_validate.specs.mesa_columns.declared.views.View.{View}
use Rattle.mesa_pick_files.specs.Read.{own_file, view_read}
use Rattle.mesa_pick_files.specs.Files.{Want, own_in, own_lineage, view_wanted}
use Rattle.mesa_open_files.specs.Opening.{HaveOpened}
use Rattle.mesa_open_files.specs.declared.opening.Wanted.{Wanted}

module _ {R : Type 0} (bytes : R → Option (List ℕ)) (faults : R → ℕ) (told : Option Image) where
  -- no reader has failed yet
  pub opened_fresh : (ws : List Wanted) (is : List (Input R)) (d : Option Damage) → HaveOpened bytes faults told ws is d → AllByRecursion (λ (i : Input R). faults (reader_in i) ≡ 0) is
  opened_fresh ws [] d have = tt
  opened_fresh [] (i ∷ is) d have = absurd have
  opened_fresh (w ∷ ws) (i ∷ is) d have = (have.0.fresh, opened_fresh ws is d have.1)

  -- where there is no damage, each is open
  pub opened_many : (ws : List Wanted) (is : List (Input R)) → HaveOpened bytes faults told ws is None → length is ≡ length ws
  opened_many [] [] have = refl
  opened_many [] (i ∷ is) have = absurd have
  opened_many (w ∷ ws) [] have = absurd have
  opened_many (w ∷ ws) (i ∷ is) have = ap suc (opened_many ws is have.1)

-- two facts of a result
pub if_both : {T E : Type 0} (r : Result T E) (P Q S : T → Type 0) → IfOk r P → IfOk r Q → ((x : T) → P x → Q x → S x) → IfOk r S
if_both (Ok x) P Q S p q so = so x p q
if_both (Err e) P Q S p q so = tt

-- a table's files are all its own
pub all_owned : (ws : List Want) → replicate (length ws) true ≡ map own_in (map own_file ws)
all_owned [] = refl
all_owned (w ∷ ws) = ap (λ (bs : List Bool). true ∷ bs) (all_owned ws)

-- a view's files, by the columns that it has through its life
pub view_as : (l own : Lineage) (number : ℕ) (ds : List Delta) → number < length l.views → IfSome (slice_get l.views number) (λ v. own ≡ own_lineage l v) → flat_map (view_wanted l own number) ds ≡ view_read l number ds (slice_get l.views number)
view_as l own number ds within is = by (slice_get l.views number) refl is
  where
    by : (o : Option View) → slice_get l.views number ≡ o → IfSome o (λ v. own ≡ own_lineage l v) → flat_map (view_wanted l own number) ds ≡ view_read l number ds o
    by None there same = let never : None ≡ Some (get_or l.views number (record { name = []; keys = []; values = [] })) = sym there ∙ slice_get-get_or l.views number (record { name = []; keys = []; values = [] }) within in absurd cc
    by (Some v) there same = ap (λ (x : Lineage). flat_map (view_wanted l x number) ds) same
