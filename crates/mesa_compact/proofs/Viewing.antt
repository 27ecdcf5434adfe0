-- A table's views, one after the other.
use Rattle.std.proofs.Common.{◌≡◌, ◌⊎◌, ℕ, zero, suc, ◌+◌, ◌<◌, ◌≤◌, List, [], ◌∷◌, ◌++◌, refl, sym, ◌∙◌, ap, subst, inl, inr, length, get_or, set, drop, arith, zero-add}
use Rattle.std.specs.Prelude.{Option, Some, slice_get, map}
use Rattle.std.specs.List.{AllByRecursion}
use Rattle.std.proofs.lemmas.List.{length-map, map-append}
use Rattle.mesa_open_files.specs.mesa_columns.declared.rows.Row.{Row}
use Rattle.mesa_open_files.specs.mesa_columns.declared.views.View.{View}
use Rattle.mesa_open_files.specs.mesa_columns.Columns.{Columns}
use Rattle.mesa_schema.specs.Changes.{Lineage, columns_of}
use Rattle.mesa_delta.specs.declared.input.Input.{Input}
use Rattle.mesa_open_files.specs.mesa_scan.Cursors.{IsInput, reader_in}
use Rattle.mesa_merge.specs.Faults.{faults_of}
use Rattle.mesa_merge.specs.Inputs.{Known, known_of, knowns_of}
use Rattle.mesa_merge.specs.Inputs.{AreInputs as AreMergeable}
use Rattle.mesa_open_files.specs.Inputs.{AreInputsTo, AreInputsOf}
use Rattle.mesa_open_files.specs.Made.{AreMadeViews, IsMadeFile, content_of}
use Rattle.mesa_file.specs.Serials.{Drafts, after_drafts, next_serials}
use Rattle.mesa_open_files.specs.declared.made.MadeView.{MadeView}
use Rattle.mesa_answer.specs.Gathered.{wanted_of}
use Rattle.mesa_answer.specs.declared.groups.Groups.{Groups}
use Rattle.mesa_compact.specs.Sources.{AreSources}

-- ---- elements of lists

pub get_some : {A : Type 0} (xs : List A) (i : ℕ) (d : A) → i < length xs → slice_get xs i ≡ Some (get_or xs i d)
get_some [] i d lt = absurd (omega (arith, lt))
get_some (x ∷ xs) zero d lt = refl
get_some (x ∷ xs) (suc i) d lt = get_some xs i d (omega (arith, lt))

pub some_within : {A : Type 0} (xs : List A) (i : ℕ) (x : A) → slice_get xs i ≡ Some x → i < length xs
some_within [] i x e = cc
some_within (y ∷ xs) zero x e = omega arith
some_within (y ∷ xs) (suc i) x e = let lt : i < length xs = some_within xs i x e in omega (arith, lt)

-- an element of a list with one more
pub some_pushed : {A : Type 0} (xs : List A) (x y : A) (i : ℕ) → slice_get (xs ++ x ∷ []) i ≡ Some y → (slice_get xs i ≡ Some y) ⊎ ((i ≡ length xs) × (y ≡ x))
some_pushed [] x y zero e = inr (refl, cc)
some_pushed [] x y (suc i) e = cc
some_pushed (z ∷ zs) x y zero e = inl e
some_pushed (z ∷ zs) x y (suc i) e = elim (some_pushed zs x y i e) [ inl here ↦ inl here | inr last ↦ inr (ap suc last.0, last.1) ]

pub some_at : {A : Type 0} (xs : List A) (i : ℕ) → i < length xs → (x : A) × (slice_get xs i ≡ Some x)
some_at [] i lt = absurd (omega (arith, lt))
some_at (x ∷ xs) zero lt = (x, refl)
some_at (x ∷ xs) (suc i) lt = some_at xs i (omega (arith, lt))

pub set_some : {A : Type 0} (xs : List A) (i : ℕ) (y : A) → i < length xs → slice_get (set xs i y) i ≡ Some y
set_some [] i y lt = absurd (omega (arith, lt))
set_some (x ∷ xs) zero y lt = refl
set_some (x ∷ xs) (suc i) y lt = set_some xs i y (omega (arith, lt))

pub all_some : {A : Type 0} (P : A → Type 0) (xs : List A) (i : ℕ) (x : A) → AllByRecursion P xs → slice_get xs i ≡ Some x → P x
all_some P [] i x h e = cc
all_some P (y ∷ xs) zero x h e = let same : y ≡ x = cc in subst P same h.0
all_some P (y ∷ xs) (suc i) x h e = all_some P xs i x h.1 e

pub all_pushed : {A : Type 0} (P : A → Type 0) (xs : List A) (x : A) → AllByRecursion P xs → P x → AllByRecursion P (xs ++ x ∷ [])
all_pushed P [] x h p = (p, tt)
all_pushed P (y ∷ ys) x h p = (h.0, all_pushed P ys x h.1 p)

-- the first of the elements from one on
pub drop_some : {A : Type 0} (xs ys : List A) (i : ℕ) (x : A) → drop i xs ≡ x ∷ ys → (slice_get xs i ≡ Some x) × (drop (suc i) xs ≡ ys)
drop_some [] ys zero x e = cc
drop_some [] ys (suc i) x e = cc
drop_some (z ∷ zs) ys zero x e = (let same : z ≡ x = cc in ap Some same, cc)
drop_some (z ∷ zs) ys (suc i) x e = drop_some zs ys i x e

pub drop_none : {A : Type 0} (xs : List A) (i : ℕ) → drop i xs ≡ [] → length xs ≤ i
drop_none [] i e = omega arith
drop_none (x ∷ xs) zero e = cc
drop_none (x ∷ xs) (suc i) e = let le : length xs ≤ i = drop_none xs i e in omega (arith, le)

-- ---- inputs

pub mergeable : {R : Type 0} (bytes : R → Option (List ℕ)) (s : Columns) (inputs : List (Input R)) → AreInputsTo bytes s inputs → AreMergeable bytes s inputs
mergeable bytes s [] h = record { each = tt; alike = tt }
mergeable bytes s (i ∷ is) h = let more = mergeable bytes s is h.1 in record { each = (h.0.0, more.each); alike = (h.0.1, more.alike) }

-- inputs of a table are lifted to its columns
pub of_table : {R : Type 0} (bytes : R → Option (List ℕ)) (l : Lineage) (inputs : List (Input R)) → AreInputsOf bytes l inputs → AreInputsTo bytes (columns_of l) inputs
of_table bytes l [] h = tt
of_table bytes l (i ∷ is) h = ((h.0.0, ap (λ (t : Lineage). columns_of t) h.0.1), of_table bytes l is h.1)

all_kept : {R : Type 0} (bytes : R → Option (List ℕ)) (P : Lineage → Type 0) (old new : List (Input R)) → AllByRecursion (IsInput bytes) new → knowns_of bytes new ≡ knowns_of bytes old → AllByRecursion (λ i. IsInput bytes i × P i.evolving.value) old
    → AllByRecursion (λ i. IsInput bytes i × P i.evolving.value) new
all_kept bytes P old [] each same h = tt
all_kept bytes P [] (n ∷ new) each same h = cc
all_kept bytes P (o ∷ old) (n ∷ new) each same h =
    let head : known_of bytes n ≡ known_of bytes o = cc in
    let table : n.evolving.value ≡ o.evolving.value = ap (λ (k : Known). k.table) head in
    let rest : knowns_of bytes new ≡ knowns_of bytes old = cc in
    ((each.0, subst P (sym table) h.0.1), all_kept bytes P old new each.1 rest h.1)

pub inputs_kept : {R : Type 0} (bytes : R → Option (List ℕ)) (s : Columns) (old new : List (Input R)) → AllByRecursion (IsInput bytes) new → knowns_of bytes new ≡ knowns_of bytes old → AreInputsTo bytes s old → AreInputsTo bytes s new
inputs_kept bytes s old new each same h = all_kept bytes (λ l. columns_of l ≡ s) old new each same h

pub table_kept : {R : Type 0} (bytes : R → Option (List ℕ)) (l : Lineage) (old new : List (Input R)) → AllByRecursion (IsInput bytes) new → knowns_of bytes new ≡ knowns_of bytes old → AreInputsOf bytes l old → AreInputsOf bytes l new
table_kept bytes l old new each same h = all_kept bytes (λ t. t ≡ l) old new each same h

-- ---- views

-- each has its file
pub all_made : {M : Type 0} (bytes : M → Option (List ℕ)) (id_of : M → ℕ) (s : Columns) (rows : List Row) (number : ℕ) (vs : List View) (ms : List (MadeView M)) → length ms ≡ length vs
    → ((i : ℕ) (v : View) (m : MadeView M) → slice_get vs i ≡ Some v → slice_get ms i ≡ Some m → (m.view ≡ number + i) × IsMadeFile bytes id_of (content_of s rows v) m.file) → AreMadeViews bytes id_of number (map (content_of s rows) vs) ms
all_made bytes id_of s rows number [] [] e each = tt
all_made bytes id_of s rows number [] (m ∷ ms) e each = absurd (omega (arith, e))
all_made bytes id_of s rows number (v ∷ vs) [] e each = absurd (omega (arith, e))
all_made bytes id_of s rows number (v ∷ vs) (m ∷ ms) e each =
    let one = each zero v m refl refl in
    (omega (arith, one.0), one.1, all_made bytes id_of s rows (number + 1) vs ms (omega (arith, e)) (λ i w n at has. (let its = each (suc i) w n at has in (omega (arith, its.0), its.1))))

-- ---- counts of faults

pub faults_append : {R : Type 0} (faults : R → ℕ) (xs ys : List (Input R)) → faults_of faults (xs ++ ys) ≡ faults_of faults xs ++ faults_of faults ys
faults_append faults xs ys = map-append (λ i. faults (reader_in i)) xs ys

-- ---- ids

-- drafts after drafts
pub drafts_more_of : (n m : ℕ) (d : Drafts) → after_drafts m (after_drafts n d) ≡ after_drafts (m + n) d
drafts_more_of n zero d = ap (λ k. after_drafts k d) (sym (zero-add n))
drafts_more_of n (suc m) d = let e : suc (m + n) ≡ suc m + n = omega arith in ap next_serials (drafts_more_of n m d) ∙ ap (λ k. after_drafts k d) e

-- some drafts after some
pub drafts_more : (n m : ℕ) (first between now : Drafts) → between ≡ after_drafts n first → now ≡ after_drafts m between → (k : ℕ) × (now ≡ after_drafts k first)
drafts_more n m first between now so_far more = (m + n, more ∙ ap (after_drafts m) so_far ∙ drafts_more_of n m first)

-- ---- gatherers that were lent

get_map : {A B : Type 0} (f : A → B) (xs : List A) (i : ℕ) (x : A) → slice_get xs i ≡ Some x → slice_get (map f xs) i ≡ Some (f x)
get_map f [] i x e = cc
get_map f (y ∷ xs) zero x e = let same : y ≡ x = cc in ap (λ z. Some (f z)) same
get_map f (y ∷ xs) (suc i) x e = get_map f xs i x e

map_get : {A B : Type 0} (f : A → B) (xs : List A) (i : ℕ) (y : B) → slice_get (map f xs) i ≡ Some y → (x : A) × (slice_get xs i ≡ Some x) × (f x ≡ y)
map_get f [] i y e = cc
map_get f (x ∷ xs) zero y e = (x, refl, cc)
map_get f (x ∷ xs) (suc i) y e = map_get f xs i y e

-- they are for the same views still
pub sources_kept : (s : Columns) (vs : List View) (old new : List Groups) → AreSources s vs old → map wanted_of new ≡ map wanted_of old → AreSources s vs new
sources_kept s vs old new h same = record {
  count = sym (length-map new wanted_of) ∙ ap length same ∙ length-map old wanted_of ∙ h.count;
  each = λ i v x at has.
      let was = map_get wanted_of old i (wanted_of x) (ap (λ ws. slice_get ws i) (sym same) ∙ get_map wanted_of new i x has) in
      sym was.2 ∙ h.each i v was.0 at was.1;
}
