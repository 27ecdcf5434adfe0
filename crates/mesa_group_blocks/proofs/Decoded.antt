-- How files' blocks are decoded, one file after the other.
use Rattle.std.proofs.Common.{◌≡◌, ℕ, zero, suc, ◌+◌, ◌<◌, ◌≤◌, List, [], ◌∷◌, ◌++◌, length, take, get_or, refl, sym, ◌∙◌, ap, subst, arith, Option, Some}
use Rattle.std.specs.Prelude.{slice_get}
use Rattle.std.specs.List.{AllByRecursion}
use Rattle.std.proofs.lemmas.List.{take_all, take_more}
use Rattle.mesa_open_files.specs.mesa_columns.declared.lifting.Lift.{Lift}
use Rattle.mesa_merge.specs.Inputs.{Known, known_of, knowns_of}
use Rattle.mesa_open_files.proofs.Retired.{all_append}
use Rattle.mesa_open_files.specs.declared.querying.PinnedInput.{PinnedInput}
use Rattle.mesa_group_blocks.specs.declared.decoding.Decoding.{Decoding}
use Rattle.mesa_group_blocks.specs.Pieces.{AreDecodingsOf, AreLiftsOf, IsDecodingOf, IsLiftOf}
use Rattle.mesa_group_blocks.specs.Moved.{inputs_in}
use Rattle.mesa_group_blocks.proofs.Moved.{length_knowns}

-- ---- lifts

pub lifts_more : (ks : List Known) (lifts : List Lift) (k : Known) (lift : Lift) → AreLiftsOf ks lifts → IsLiftOf k lift → AreLiftsOf (ks ++ k ∷ []) (lifts ++ lift ∷ [])
lifts_more [] [] k lift h one = (one, tt)
lifts_more [] (l ∷ lifts) k lift h one = absurd h
lifts_more (x ∷ ks) [] k lift h one = absurd h
lifts_more (x ∷ ks) (l ∷ lifts) k lift h one = (h.0, lifts_more ks lifts k lift h.1 one)

pub lifts_count : (ks : List Known) (lifts : List Lift) → AreLiftsOf ks lifts → length lifts ≡ length ks
lifts_count [] [] h = refl
lifts_count [] (l ∷ lifts) h = absurd h
lifts_count (k ∷ ks) [] h = absurd h
lifts_count (k ∷ ks) (l ∷ lifts) h = ap suc (lifts_count ks lifts h.1)

pub lift_at : (ks : List Known) (lifts : List Lift) (n : ℕ) (k : Known) (lift : Lift) → AreLiftsOf ks lifts → n < length ks → IsLiftOf (get_or ks n k) (get_or lifts n lift)
lift_at [] lifts n k lift h lt = absurd (omega (arith, lt))
lift_at (x ∷ ks) [] n k lift h lt = absurd h
lift_at (x ∷ ks) (l ∷ lifts) zero k lift h lt = h.0
lift_at (x ∷ ks) (l ∷ lifts) (suc n) k lift h lt = lift_at ks lifts n k lift h.1 (omega (arith, lt))

-- ---- decodings

decodings_more : (ks : List Known) (ds : List Decoding) (k : Known) (d : Decoding) → AreDecodingsOf ks ds → IsDecodingOf k d → AreDecodingsOf (ks ++ k ∷ []) (ds ++ d ∷ [])
decodings_more [] [] k d h one = (one, tt)
decodings_more [] (x ∷ ds) k d h one = absurd h
decodings_more (x ∷ ks) [] k d h one = absurd h
decodings_more (x ∷ ks) (e ∷ ds) k d h one = (h.0, decodings_more ks ds k d h.1 one)

-- one file more is decoded
pub decodings_next : (ks : List Known) (n : ℕ) (k : Known) (lift : Lift) (found now : List Decoding) (d : Decoding) → take (n + 1) ks ≡ take n ks ++ k ∷ [] → now ≡ found ++ d ∷ [] → d.index.now ≡ k.file → lift ≡ d.lift.now → IsLiftOf k lift
    → AreDecodingsOf (take n ks) found → AreDecodingsOf (take (n + 1) ks) now
decodings_next ks n k lift found now d more pushed index same lifts h =
    let one : IsDecodingOf k d = record { index = index; lift = subst (IsLiftOf k) same lifts } in
    subst (AreDecodingsOf (take (n + 1) ks)) (sym pushed) (subst (λ (xs : List Known). AreDecodingsOf xs (found ++ d ∷ [])) (sym more) (decodings_more (take n ks) found k d h one))

-- The file of a decoding.
pub record HasFile (ks : List Known) (n : ℕ) (d : Decoding) : Type 0 where
  pub known : Known
  pub there : slice_get ks n ≡ Some known
  pub decoded : IsDecodingOf known d

pub file_of : (ks : List Known) (ds : List Decoding) (n : ℕ) (d : Decoding) → AreDecodingsOf ks ds → slice_get ds n ≡ Some d → HasFile ks n d
file_of [] [] n d h at = cc at
file_of [] (x ∷ ds) n d h at = absurd h
file_of (k ∷ ks) [] n d h at = absurd h
file_of (k ∷ ks) (x ∷ ds) zero d h at = let same : x ≡ d = cc at in record { known = k; there = refl; decoded = subst (IsDecodingOf k) same h.0 }
file_of (k ∷ ks) (x ∷ ds) (suc n) d h at = let rest = file_of ks ds n d h.1 at in record { known = rest.known; there = rest.there; decoded = rest.decoded }

-- what is so of the first elements, and of one more
pub all_next : {X : Type 0} (P : X → Type 0) (xs : List X) (n : ℕ) (d : X) → n < length xs → d ≡ get_or xs n d → AllByRecursion P (take n xs) → P d → AllByRecursion P (take (n + 1) xs)
all_next P xs n d lt is h one =
    subst (AllByRecursion P) (sym (take_more xs n d lt)) (all_append P (take n xs) (get_or xs n d ∷ []) h (subst P is one, tt))

pub all_whole : {X : Type 0} (P : X → Type 0) (xs : List X) (n : ℕ) → length xs ≤ n → AllByRecursion P (take n xs) → AllByRecursion P xs
all_whole P xs n le h = subst (AllByRecursion P) (take_all n xs le) h

-- ---- what is known of the files

pub known_here : {R : Type 0} (bytes : R → Option (List ℕ)) (files : List (PinnedInput R)) (i : ℕ) (file : PinnedInput R) → i < length files → file ≡ get_or files i file → get_or (knowns_of bytes (inputs_in files)) i (known_of bytes file.input) ≡ known_of bytes file.input
known_here bytes [] i file lt is = absurd (omega (arith, lt))
known_here {R = R} bytes (x ∷ files) zero file lt is = ap (λ (f : PinnedInput R). known_of bytes f.input) (sym is)
known_here bytes (x ∷ files) (suc i) file lt is = known_here bytes files i file (omega (arith, lt)) is

pub known_next : {R : Type 0} (bytes : R → Option (List ℕ)) (files : List (PinnedInput R)) (i : ℕ) (file : PinnedInput R) → i < length files → file ≡ get_or files i file
    → take (i + 1) (knowns_of bytes (inputs_in files)) ≡ take i (knowns_of bytes (inputs_in files)) ++ known_of bytes file.input ∷ []
known_next bytes files i file lt is =
    let ks : List Known = knowns_of bytes (inputs_in files) in
    let k : Known = known_of bytes file.input in
    take_more ks i k (subst (λ n. i < n) (sym (length_knowns bytes files)) lt) ∙ ap (λ (x : Known). take i ks ++ x ∷ []) (known_here bytes files i file lt is)

pub all_known : {R : Type 0} (bytes : R → Option (List ℕ)) (files : List (PinnedInput R)) (n : ℕ) → length files ≤ n → take n (knowns_of bytes (inputs_in files)) ≡ knowns_of bytes (inputs_in files)
all_known bytes files n le = take_all n (knowns_of bytes (inputs_in files)) (subst (λ m. m ≤ n) (sym (length_knowns bytes files)) le)
