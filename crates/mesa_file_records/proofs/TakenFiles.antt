-- What is told of ranges that were taken out of rewritten ones, and of their files.
use Rattle.std.proofs.Common.{◌≡◌, inl, inr, ℕ, ◌+◌, List, [], ◌∷◌, ◌++◌, true, sym, subst, Option, Some, None}
use Rattle.std.specs.Prelude.{⊤}
use Rattle.std.specs.List.{AllByRecursion}
use Rattle.mesa_columns.specs.declared.rows.Row.{Row}
use Rattle.mesa_columns.specs.Columns.{Columns}
use Rattle.mesa_pick_files.specs.mesa_schema.Recasts.{recast_columns, recast_rows}
use Rattle.mesa_pick_files.specs.mesa_schema.Recasts.{Recast as Asked}
use Rattle.mesa_columns.specs.Schema.{is_schema}
use Rattle.mesa_pick_files.specs.mesa_delta_format.Summary.{file_layout}
use Rattle.mesa_pick_files.specs.mesa_delta.declared.input.Input.{Input}
use Rattle.mesa_engine.specs.mesa_record_fields.Rules.{is_file_ref}
use Rattle.mesa_engine.specs.mesa_store_spec.Contents.{Rows}
use Rattle.mesa_engine.specs.mesa_store_spec.Fitting.{counts_columns}
use Rattle.mesa_engine.specs.mesa_store_spec.Sound.{IsTold}
use Rattle.mesa_open_files.specs.Made.{Content, IsMadeFile}
use Rattle.mesa_open_files.specs.Recasts.{AreRewritten, HasRangeFile, IsRangeRewritten, recast_content}
use Rattle.mesa_open_files.specs.declared.made.MadeFile.{MadeFile}
use Rattle.mesa_open_files.specs.declared.recasting.RecastRange.{RecastRange}
use Rattle.mesa_open_files.specs.declared.recasting.RecastedRange.{RecastedRange}
use Rattle.mesa_file_records.specs.Adopted.{ref_under}
use Rattle.mesa_file_records.proofs.Lists.{AreAt}
use Rattle.mesa_file_records.proofs.Parts.{told_one, true_counts}
use Rattle.mesa_file_records.specs.Recasts.{AreTaken, IsMade, Took}
use Rattle.mesa_file_records.proofs.Keeping.{is_ref}

-- something of each, with the id that its file gets
abbrev pub AllFrom : {A : Type 0} → (ℕ → A → Type 0) → ℕ → List A → Type 0
AllFrom Q id [] = ⊤
AllFrom Q id (x ∷ xs) = Q id x × AllFrom Q (id + 1) xs

-- ---- each of them is one that was made

-- what holds of each of some ranges with files holds of those that are taken out of them
all_taken : {M : Type 0} (P : Took M → Type 0) (old : List (RecastedRange M)) (taken : List (Took M)) (new : List (RecastedRange M)) → ((k : Took M) → IsMade k.range old → k.range.file ≡ Some k.file → P k) → AreTaken old taken new → AllByRecursion P taken
all_taken P old [] new each are = tt
all_taken P old (k ∷ taken) new each are = (each k are.1.one are.1.has, all_taken P are.0 taken new (λ x one has. each x (are.1.rest x.range one) has) are.2)

-- Those of two lists that were taken one after the other were taken of the first.
pub taken_joined : {M : Type 0} (old : List (RecastedRange M)) (first : List (Took M)) (then : List (RecastedRange M)) (rest : List (Took M)) (new : List (RecastedRange M)) → AreTaken old first then → AreTaken then rest new → AreTaken old (first ++ rest) new
taken_joined old [] then rest new are more = subst (λ from. AreTaken from rest new) (sym are) more
taken_joined old (k ∷ first) then rest new are more = (are.0, are.1, taken_joined are.0 first then rest new are.2 more)

module _ {M R : Type 0} (bytes : M → Option (List ℕ)) (id_of : M → ℕ) (read : R → Option (List ℕ)) (s : Columns) (r : Asked) (P : RecastRange R → Type 0) where
  -- A range is one of a recast, of which this holds, rewritten into a file.
  pub record IsOneOf (k : Took M) : Type 0 where
    pub of : RecastRange R
    pub holds : P of
    pub is : IsRangeRewritten bytes id_of read s r of k.range
    pub file : IsMadeFile bytes id_of (recast_content s r is.rows) k.file

  -- its rows
  abbrev pub rows_of_one : (k : Took M) → IsOneOf k → List Row
  rows_of_one k one = recast_rows s r one.is.rows

  made_file : (content : Content) (i : Option (Input R)) (f : MadeFile M) → HasRangeFile bytes id_of content i (Some f) → IsMadeFile bytes id_of content f
  made_file content None f is = absurd is
  made_file content (Some i) f is = is

  one_made : (xs : List (RecastRange R)) (ys : List (RecastedRange M)) (k : Took M) → AreRewritten bytes id_of read s r xs ys → AllByRecursion P xs → IsMade k.range ys → k.range.file ≡ Some k.file → IsOneOf k
  one_made [] [] k are all one has = absurd one
  one_made [] (y ∷ ys) k are all one has = absurd are
  one_made (x ∷ xs) [] k are all one has = absurd are
  one_made (x ∷ xs) (y ∷ ys) k are all (inl same) has =
      let is : IsRangeRewritten bytes id_of read s r x k.range = subst (IsRangeRewritten bytes id_of read s r x) (sym same) are.0 in
      record { of = x; holds = all.0; is = is; file = made_file (recast_content s r is.rows) x.input k.file (subst (HasRangeFile bytes id_of (recast_content s r is.rows) x.input) has is.file) }
  one_made (x ∷ xs) (y ∷ ys) k are all (inr one) has = one_made xs ys k are.1 all.1 one has

  pub ones_taken : (xs : List (RecastRange R)) (ys : List (RecastedRange M)) (taken : List (Took M)) (new : List (RecastedRange M)) → AreRewritten bytes id_of read s r xs ys → AllByRecursion P xs → AreTaken ys taken new → AllByRecursion IsOneOf taken
  ones_taken xs ys taken new are all took = all_taken IsOneOf ys taken new (λ k one has. one_made xs ys k are all one has) took

  -- ---- the rows of their files, in the order of their ids

  abbrev pub rows_taken : (taken : List (Took M)) → AllByRecursion IsOneOf taken → List (List Row)
  rows_taken [] ones = []
  rows_taken (k ∷ taken) ones = rows_of_one k ones.0 ∷ rows_taken taken ones.1

  -- each reference is true, counts the columns, and keeps the rules of records
  pub record IsReferred (rows : Rows) (id : ℕ) (k : Took M) (its : List Row) : Type 0 where
    pub told : IsTold rows (record { columns = recast_columns s r; file = ref_under id k.file })
    pub rows_are : rows id ≡ its
    pub counts : counts_columns (recast_columns s r) (ref_under id k.file) ≡ true
    pub ruled : is_file_ref (ref_under id k.file) ≡ true

  pub referred_one : is_schema (recast_columns s r) ≡ true → (rows : Rows) (id : ℕ) (k : Took M) (one : IsOneOf k) → rows id ≡ rows_of_one k one → IsReferred rows id k (rows_of_one k one)
  referred_one schema rows id k one at =
      let told = told_one bytes id_of rows id (recast_columns s r) (rows_of_one k one) k.file one.file at in
      record {
        told = told;
        rows_are = at;
        counts = true_counts (file_layout (recast_columns s r) (ref_under id k.file)) id (rows id) _ (ref_under id k.file) told.file told.true;
        ruled = is_ref (file_layout (recast_columns s r) (ref_under id k.file)) id (rows id) _ (ref_under id k.file) schema told.file told.true;
      }

  -- what stands at each id, by the rows of all
  pub each_referred : is_schema (recast_columns s r) ≡ true → (rows : Rows) (id : ℕ) (taken : List (Took M)) (ones : AllByRecursion IsOneOf taken) → AreAt rows id (rows_taken taken ones)
      → (Q : ℕ → Took M → Type 0) → ((id : ℕ) (k : Took M) (one : IsOneOf k) → IsReferred rows id k (rows_of_one k one) → Q id k) → AllFrom Q id taken
  each_referred schema rows id [] ones at Q each = tt
  each_referred schema rows id (k ∷ taken) ones at Q each = (each id k ones.0 (referred_one schema rows id k ones.0 at.0), each_referred schema rows (id + 1) taken ones.1 at.1 Q each)
