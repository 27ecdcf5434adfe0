-- A pinned query with caches, by what it is without them.
use Rattle.std.proofs.Common.{◌≡◌, ℕ, zero, suc, List, [], ◌∷◌, ◌++◌, map, refl, sym, ap, subst}
use Rattle.std.specs.Prelude.{Option, Some, slice_get}
use Rattle.std.specs.List.{AllByRecursion}
use Rattle.std.proofs.Math.Logic.{⊎_map}
use Rattle.mesa_cache.specs.Reading.{Reading}
use Rattle.mesa_group_blocks.specs.mesa_delta.Reading.{HasRead}
use Rattle.mesa_group_blocks.specs.mesa_delta.declared.reader.DeltaReader.{DeltaReader}
use Rattle.mesa_group_blocks.specs.mesa_delta.declared.input.Input.{Input}
use Rattle.mesa_filter.specs.Filter.{filtered}
use Rattle.mesa_filter.specs.declared.terms.Term.{Term}
use Rattle.mesa_file.specs.declared.damage.Damage.{Damage}
use Rattle.mesa_group_blocks.specs.mesa_columns.declared.rows.Row.{Row}
use Rattle.mesa_group_blocks.specs.mesa_columns.Columns.{Columns}
use Rattle.mesa_group_blocks.specs.mesa_fold.Folded.{rows_of}
use Rattle.mesa_group_blocks.specs.Moved.{AreMoved, inputs_in}
use Rattle.mesa_query.specs.Files.{IsDamageIn, owns_in}
use Rattle.mesa_group_blocks.specs.Ungrouped.{parts_ungrouped, rows_ungrouped}
use Rattle.mesa_query.specs.Relation.{parts_pinned}
use Rattle.mesa_group_blocks.specs.mesa_merge.Faults.{faults_of}
use Rattle.mesa_query.specs.Sums.{IsSumIn, LacksGroup}
use Rattle.mesa_group_blocks.specs.mesa_answer.Gathering.{Wanted}
use Rattle.mesa_group_blocks.specs.mesa_merge.Inputs.{AreTold, Known, known_of, knowns_of}
use Rattle.mesa_group_blocks.specs.mesa_scan.Damaged.{IsDamaged}
use Rattle.mesa_group_blocks.specs.mesa_scan.Cursors.{IsInput, reader_in}
use Rattle.mesa_group_blocks.specs.mesa_open_files.Pins.{IsPinned, IsPinnedInput, rows_pinned}
use Rattle.mesa_group_blocks.specs.mesa_open_files.declared.querying.Pinned.{Pinned}
use Rattle.mesa_group_blocks.specs.mesa_open_files.declared.querying.PinnedInput.{PinnedInput}
use Rattle.mesa_query.specs.Cooled.{cooled, cooled_file, cooled_input, cooled_reader}

-- what is told of an inner reader is told of it with a cache
abbrev pub through : {R X : Type 0} → (R → X) → Reading R → X
through f c = f c.inner

module _ {R : Type 0} where
  -- ---- what is known of the files

  pub known_cooled : (bytes : R → Option (List ℕ)) (files : List (PinnedInput (Reading R))) → knowns_of bytes (inputs_in (map cooled_file files)) ≡ knowns_of (through bytes) (inputs_in files)
  known_cooled bytes [] = refl
  known_cooled bytes (file ∷ files) = ap (λ ks. known_of (through bytes) file.input ∷ ks) (known_cooled bytes files)

  pub own_cooled : (files : List (PinnedInput (Reading R))) → owns_in (map cooled_file files) ≡ owns_in files
  own_cooled [] = refl
  own_cooled (file ∷ files) = ap (λ os. file.own ∷ os) (own_cooled files)

  pub faults_cooled : (faults : R → ℕ) (files : List (PinnedInput (Reading R))) → faults_of faults (inputs_in (map cooled_file files)) ≡ faults_of (through faults) (inputs_in files)
  faults_cooled faults [] = refl
  faults_cooled faults (file ∷ files) = ap (λ ns. faults (reader_in file.input).inner ∷ ns) (faults_cooled faults files)

  -- ---- the relation's rows in them

  pub parts_cooled : (view : Option ℕ) (files : List (PinnedInput (Reading R))) (contents : List (List Row)) → parts_pinned view (map cooled_file files) contents ≡ parts_pinned view files contents
  parts_cooled view [] contents = refl
  parts_cooled view (file ∷ files) [] = refl
  parts_cooled view (file ∷ files) (rows ∷ contents) = ap (λ parts. rows_pinned view file rows ∷ parts) (parts_cooled view files contents)

  pub ungrouped_cooled : (view : Option ℕ) (files : List (PinnedInput (Reading R))) (contents : List (List Row)) → parts_ungrouped view (map cooled_file files) contents ≡ parts_ungrouped view files contents
  ungrouped_cooled view [] contents = refl
  ungrouped_cooled view (file ∷ files) [] = refl
  ungrouped_cooled view (file ∷ files) (rows ∷ contents) = ap (λ parts. rows_ungrouped view file rows ∷ parts) (ungrouped_cooled view files contents)

  -- ---- which files they are

  read_warm : (bytes : R → Option (List ℕ)) (r : DeltaReader (Reading R)) (parts : List (List Row)) → HasRead bytes (cooled_reader r) parts → HasRead (through bytes) r parts
  read_warm bytes r parts h = record { run = h.run; places = h.places; counted = h.counted; told = h.told }

  pub read_cool : (bytes : R → Option (List ℕ)) (r : DeltaReader (Reading R)) (parts : List (List Row)) → HasRead (through bytes) r parts → HasRead bytes (cooled_reader r) parts
  read_cool bytes r parts h = record { run = h.run; places = h.places; counted = h.counted; told = h.told }

  pub input_warm : (bytes : R → Option (List ℕ)) (i : Input (Reading R)) → IsInput bytes (cooled_input i) → IsInput (through bytes) i
  input_warm bytes i h = record { epoch = h.epoch; columns = h.columns; over = h.over; read = (h.read.0, read_warm bytes i.reader h.read.0 h.read.1) }

  pub input_cool : (bytes : R → Option (List ℕ)) (i : Input (Reading R)) → IsInput (through bytes) i → IsInput bytes (cooled_input i)
  input_cool bytes i h = record { epoch = h.epoch; columns = h.columns; over = h.over; read = (h.read.0, read_cool bytes i.reader h.read.0 h.read.1) }

  files_warm : (bytes : R → Option (List ℕ)) (s : Columns) (view : Option ℕ) (files : List (PinnedInput (Reading R))) → AllByRecursion (IsPinnedInput bytes s view) (map cooled_file files) → AllByRecursion (IsPinnedInput (through bytes) s view) files
  files_warm bytes s view [] all = tt
  files_warm bytes s view (file ∷ files) all = (record { input = input_warm bytes file.input all.0.input; relation = all.0.relation }, files_warm bytes s view files all.1)

  files_cool : (bytes : R → Option (List ℕ)) (s : Columns) (view : Option ℕ) (files : List (PinnedInput (Reading R))) → AllByRecursion (IsPinnedInput (through bytes) s view) files → AllByRecursion (IsPinnedInput bytes s view) (map cooled_file files)
  files_cool bytes s view [] all = tt
  files_cool bytes s view (file ∷ files) all = (record { input = input_cool bytes file.input all.0.input; relation = all.0.relation }, files_cool bytes s view files all.1)

  pub pinned_warm : (bytes : R → Option (List ℕ)) (s : Columns) (p : Pinned (Reading R)) → IsPinned bytes s (cooled p) → IsPinned (through bytes) s p
  pinned_warm bytes s p h = record { query = h.query; inputs = files_warm bytes s p.view p.inputs.items h.inputs }

  pub pinned_cool : (bytes : R → Option (List ℕ)) (s : Columns) (p : Pinned (Reading R)) → IsPinned (through bytes) s p → IsPinned bytes s (cooled p)
  pinned_cool bytes s p h = record { query = h.query; inputs = files_cool bytes s p.view p.inputs.items h.inputs }

  -- ---- damage of one of them

  damaged_file : (bytes : R → Option (List ℕ)) (size : R → ℕ) (d : Damage) (file : PinnedInput (Reading R)) → IsDamaged (through bytes) (through size) file.input d → IsDamaged bytes size (cooled_input file.input) d
  damaged_file bytes size d file h = record { block = h.block; before = h.before; shown = h.shown; unsound = h.unsound }

  moved_cooled : (bytes : R → Option (List ℕ)) (size : R → ℕ) (old new : List (PinnedInput (Reading R))) → AreMoved (through bytes) (through size) old new → AreMoved bytes size (map cooled_file old) (map cooled_file new)
  moved_cooled bytes size [] [] h = tt
  moved_cooled bytes size [] (now ∷ new) h = absurd h
  moved_cooled bytes size (file ∷ old) [] h = absurd h
  moved_cooled bytes size (file ∷ old) (now ∷ new) h = (record { file = ap cooled_file h.0.file; told = h.0.told; size = h.0.size }, moved_cooled bytes size old new h.1)

  pub damage_cooled : (bytes : R → Option (List ℕ)) (size : R → ℕ) (d : Damage) (old new : List (PinnedInput (Reading R))) → IsDamageIn (through bytes) (through size) d old new → IsDamageIn bytes size d (map cooled_file old) (map cooled_file new)
  damage_cooled bytes size d [] new h = h
  damage_cooled bytes size d (file ∷ old) [] h = h
  damage_cooled bytes size d (file ∷ old) (now ∷ new) h = ⊎_map (λ here. (damaged_file bytes size d file here.0, moved_cooled bytes size old new here.1)) (damage_cooled bytes size d old new) h

  -- ---- a sum told of one of them

  file_cooled : (files : List (PinnedInput (Reading R))) (j : ℕ) (file : PinnedInput (Reading R)) → slice_get files j ≡ Some file → slice_get (map cooled_file files) j ≡ Some (cooled_file file)
  file_cooled [] j file there = cc
  file_cooled (x ∷ files) zero file there = let same : x ≡ file = cc in ap (λ (one : PinnedInput (Reading R)). Some (cooled_file one)) same
  file_cooled (x ∷ files) (suc j) file there = file_cooled files j file there

  record WasWarm (files : List (PinnedInput (Reading R))) (j : ℕ) (now : PinnedInput R) : Type 0 where
    was : PinnedInput (Reading R)
    there : slice_get files j ≡ Some was
    is : cooled_file was ≡ now

  was_warm : (files : List (PinnedInput (Reading R))) (j : ℕ) (now : PinnedInput R) → slice_get (map cooled_file files) j ≡ Some now → WasWarm files j now
  was_warm [] j now there = cc there
  was_warm (x ∷ files) zero now there = record { was = x; there = refl; is = cc }
  was_warm (x ∷ files) (suc j) now there = let rest = was_warm files j now there in record { was = rest.was; there = rest.there; is = rest.is }

  pub sum_cooled : (bytes : R → Option (List ℕ)) (w : Wanted) (terms : List Term) (view : Option ℕ) (files : List (PinnedInput (Reading R))) (d : Damage) → IsSumIn (through bytes) w terms view files d → IsSumIn bytes w terms view (map cooled_file files) d
  sum_cooled bytes w terms view files d h = record {
    key = h.key;
    given = h.given;
    leaves = h.leaves;
    first = λ contents told.
        let first = h.first contents (subst (λ (ks : List Known). AreTold ks contents) (known_cooled bytes files) told) in
        (first.0, subst (λ (parts : List (List Row)). filtered w.schema terms (rows_of parts) ≡ h.given ++ first.0) (sym (ungrouped_cooled view files contents)) first.1);
    at = h.at;
    file = cooled_file h.file;
    one = file_cooled files h.at h.file h.one;
    holds = h.holds;
    newer = λ j other above there.
        let warm = was_warm files j other there in
        subst (LacksGroup bytes w terms view h.key) warm.is (h.newer j warm.was above warm.there);
    told = h.told;
  }
