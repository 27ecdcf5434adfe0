-- What was rewritten is so of the same recast, with its readers moved on.
use Rattle.std.proofs.Common.{◌≡◌, ℕ, zero, suc, List, [], ◌∷◌, take, refl, sym, ◌∙◌, ap, subst}
use Rattle.std.specs.Prelude.{Option, Some, None, option_map, option_to_list}
use Rattle.mesa_compact.specs.mesa_columns.declared.rows.Row.{Row}
use Rattle.mesa_compact.specs.mesa_columns.Columns.{Columns, aggs_of}
use Rattle.mesa_open_files.specs.mesa_fold.Folded.{folded}
use Rattle.mesa_schema.specs.Recasts.{Recast}
use Rattle.mesa_delta.specs.declared.input.Input.{Input}
use Rattle.mesa_compact.specs.mesa_merge.Inputs.{AreTold, Known, known_of, knowns_of, lifted_parts}
use Rattle.mesa_compact.specs.Bounded.{AreBounded}
use Rattle.mesa_compact.proofs.Tasking.{known_parts, told_inputs}
use Rattle.mesa_open_files.specs.Inputs.{IsMergeOf}
use Rattle.mesa_open_files.specs.Inputs.{AreTold as AreToldInputs}
use Rattle.mesa_open_files.specs.Made.{Content}
use Rattle.mesa_open_files.specs.Recasts.{AreRewritten, HasRangeFile, IsRangeRewritten, own, recast_content}
use Rattle.mesa_open_files.specs.declared.made.MadeFile.{MadeFile}
use Rattle.mesa_open_files.specs.declared.recasting.RecastRange.{RecastRange}
use Rattle.mesa_open_files.specs.declared.recasting.RecastedRange.{RecastedRange}
use Rattle.mesa_copy.specs.Copying.{AreRangesBounded, KnownRange, known_range, known_ranges}

-- ---- the merge of inputs, by what is known of them

inputs_told : {R : Type 0} (read : R → Option (List ℕ)) (is : List (Input R)) (parts : List (List Row)) → AreToldInputs read is parts → AreTold (knowns_of read is) parts
inputs_told read [] [] told = tt
inputs_told read [] (rows ∷ parts) told = told
inputs_told read (i ∷ is) [] told = told
inputs_told read (i ∷ is) (rows ∷ parts) told = (told.0, inputs_told read is parts told.1)

pub merge_same : {R : Type 0} (read : R → Option (List ℕ)) (s : Columns) (is js : List (Input R)) (rows : List Row) → knowns_of read js ≡ knowns_of read is → IsMergeOf read s is rows → IsMergeOf read s js rows
merge_same read s is js rows same merge = λ parts told.
    let told_here : AreTold (knowns_of read is) parts = subst (λ (ks : List Known). AreTold ks parts) same (inputs_told read js parts told) in
    merge parts (told_inputs read is parts told_here)
    ∙ ap (folded (aggs_of s)) (known_parts read is parts ∙ ap (λ (ks : List Known). lifted_parts ks parts) (sym same) ∙ sym (known_parts read js parts))

-- ---- ranges

pub own_known : {R : Type 0} (read : R → Option (List ℕ)) (a b : Option (Input R)) → option_map (known_of read) b ≡ option_map (known_of read) a → knowns_of read (option_to_list b) ≡ knowns_of read (option_to_list a)
own_known read None None e = refl
own_known read None (Some b) e = cc
own_known read (Some a) None e = cc
own_known read (Some a) (Some b) e = let same : known_of read b ≡ known_of read a = cc in ap (λ (k : Known). k ∷ []) same

file_same : {M R : Type 0} (bytes : M → Option (List ℕ)) (id_of : M → ℕ) (read : R → Option (List ℕ)) (content : Content) (a b : Option (Input R)) (made : Option (MadeFile M)) → option_map (known_of read) b ≡ option_map (known_of read) a → HasRangeFile bytes id_of content a made → HasRangeFile bytes id_of content b made
file_same bytes id_of read content None None made e h = h
file_same bytes id_of read content None (Some b) made e h = absurd cc
file_same bytes id_of read content (Some a) None made e h = absurd cc
file_same bytes id_of read content (Some a) (Some b) None e h = absurd h
file_same bytes id_of read content (Some a) (Some b) (Some made) e h = h

range_same : {M R : Type 0} (bytes : M → Option (List ℕ)) (id_of : M → ℕ) (read : R → Option (List ℕ)) (s : Columns) (r : Recast) (old new : RecastRange R) (y : RecastedRange M) → known_range read new ≡ known_range read old → IsRangeRewritten bytes id_of read s r old y → IsRangeRewritten bytes id_of read s r new y
range_same bytes id_of read s r old new y same h =
    let file : option_map (known_of read) new.input ≡ option_map (known_of read) old.input = ap (λ (k : KnownRange). k.file) same in
    record {
      from = h.from ∙ sym (ap (λ (k : KnownRange). k.from) same);
      to = h.to ∙ sym (ap (λ (k : KnownRange). k.to) same);
      rows = h.rows;
      merge = merge_same read s (own old) (own new) h.rows (own_known read old.input new.input file) h.merge;
      file = file_same bytes id_of read (recast_content s r h.rows) old.input new.input y.file file h.file;
      totals = h.totals;
      small = h.small;
    }

-- Ranges that are rewritten are so with their readers moved on.
pub rewritten_same : {M R : Type 0} (bytes : M → Option (List ℕ)) (id_of : M → ℕ) (read : R → Option (List ℕ)) (s : Columns) (r : Recast) (old new : List (RecastRange R)) (ys : List (RecastedRange M)) → known_ranges read new ≡ known_ranges read old → AreRewritten bytes id_of read s r old ys
    → AreRewritten bytes id_of read s r new ys
rewritten_same bytes id_of read s r [] [] ys same h = h
rewritten_same bytes id_of read s r [] (x ∷ new) ys same h = absurd cc
rewritten_same bytes id_of read s r (x ∷ old) [] ys same h = absurd cc
rewritten_same bytes id_of read s r (x ∷ old) (z ∷ new) [] same h = absurd h
rewritten_same bytes id_of read s r (x ∷ old) (z ∷ new) (y ∷ ys) same h =
    let one : known_range read z ≡ known_range read x = cc in
    let more : known_ranges read new ≡ known_ranges read old = cc in
    (range_same bytes id_of read s r x z y one h.0, rewritten_same bytes id_of read s r old new ys more h.1)

take_same : {R : Type 0} (read : R → Option (List ℕ)) (n : ℕ) (old new : List (RecastRange R)) → known_ranges read new ≡ known_ranges read old → known_ranges read (take n new) ≡ known_ranges read (take n old)
take_same read zero old new same = refl
take_same read (suc n) [] [] same = refl
take_same read (suc n) [] (x ∷ new) same = cc
take_same read (suc n) (x ∷ old) [] same = cc
take_same read (suc n) (x ∷ old) (z ∷ new) same =
    let one : known_range read z ≡ known_range read x = cc in
    let more : known_ranges read new ≡ known_ranges read old = cc in
    λ i. one i ∷ take_same read n old new more i

-- so are the first of them
pub first_same : {M R : Type 0} (bytes : M → Option (List ℕ)) (id_of : M → ℕ) (read : R → Option (List ℕ)) (s : Columns) (r : Recast) (n : ℕ) (old new : List (RecastRange R)) (ys : List (RecastedRange M)) → known_ranges read new ≡ known_ranges read old
    → AreRewritten bytes id_of read s r (take n old) ys → AreRewritten bytes id_of read s r (take n new) ys
first_same bytes id_of read s r n old new ys same h = rewritten_same bytes id_of read s r (take n old) (take n new) ys (take_same read n old new same) h

-- Ranges whose sums stay in their type are so with their readers moved on.
pub bounded_same : {R : Type 0} (read : R → Option (List ℕ)) (s : Columns) (old new : List (RecastRange R)) → known_ranges read new ≡ known_ranges read old → AreRangesBounded read s old → AreRangesBounded read s new
bounded_same read s [] [] same h = tt
bounded_same read s [] (z ∷ new) same h = absurd cc
bounded_same read s (x ∷ old) [] same h = absurd cc
bounded_same read s (x ∷ old) (z ∷ new) same h =
    let one : known_range read z ≡ known_range read x = cc in
    let more : known_ranges read new ≡ known_ranges read old = cc in
    let known : knowns_of read (own z) ≡ knowns_of read (own x) = own_known read x.input z.input (ap (λ (k : KnownRange). k.file) one) in
    (subst (AreBounded s) (sym known) h.0, bounded_same read s old new more h.1)
