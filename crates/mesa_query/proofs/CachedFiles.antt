-- Files of a query that are the same, and can be read.
use Rattle.std.proofs.Common.{◌≡◌, ℕ, List, [], ◌∷◌, ◌++◌, refl, sym, ap, subst, ◌∙◌}
use Rattle.std.specs.Prelude.{Option}
use Rattle.std.specs.List.{AllByRecursion}
use Rattle.mesa_group_blocks.specs.mesa_delta_format.Indexed.{Indexed}
use Rattle.mesa_group_blocks.specs.mesa_delta.Reading.{HasRead, IsOver, index_of, reader_of}
use Rattle.mesa_group_blocks.specs.mesa_delta.declared.reader.DeltaReader.{DeltaReader}
use Rattle.mesa_group_blocks.specs.mesa_columns.Columns.{Columns}
use Rattle.mesa_group_blocks.specs.Moved.{inputs_in}
use Rattle.mesa_query.specs.Files.{owns_in}
use Rattle.mesa_group_blocks.specs.mesa_merge.Inputs.{Known, known_of, knowns_of}
use Rattle.mesa_group_blocks.specs.mesa_scan.Cursors.{IsInput, reader_in}
use Rattle.mesa_group_blocks.specs.mesa_open_files.Pins.{IsOfRelation, IsPinnedInput}
use Rattle.mesa_group_blocks.specs.mesa_open_files.declared.querying.PinnedInput.{PinnedInput}
use Rattle.mesa_query.specs.Same.{AreReadable, AreSameFiles, readers_in}

module _ {R : Type 0} (bytes : R → Option (List ℕ)) where
  pub same_again : (files : List (PinnedInput R)) → AreSameFiles bytes files files
  same_again files = record { readers = refl; known = refl; own = refl }

  pub same_on : (a b c : List (PinnedInput R)) → AreSameFiles bytes a b → AreSameFiles bytes b c → AreSameFiles bytes a c
  same_on a b c first then = record { readers = then.readers ∙ first.readers; known = then.known ∙ first.known; own = then.own ∙ first.own }

  -- ---- a file, by another reader of it

  abbrev pub by_reader : PinnedInput R → DeltaReader R → PinnedInput R
  by_reader x q = record { input = record { reader = q; evolving = x.input.evolving; epoch = x.input.epoch }; own = x.own }

  pub same_one : (x : PinnedInput R) (q : DeltaReader R) → reader_of q ≡ reader_in x.input → index_of q ≡ index_of x.input.reader → AreSameFiles bytes (x ∷ []) (by_reader x q ∷ [])
  same_one x q reader index =
      let known : Indexed → R → Known = λ file r. record { file = file; table = x.input.evolving.value; epoch = x.input.epoch; told = bytes r } in
      record {
        readers = ap (λ r. r ∷ []) reader;
        known = ap (λ file. known file (reader_of q) ∷ []) index ∙ ap (λ r. known (index_of x.input.reader) r ∷ []) reader;
        own = refl;
      }

  pub readable_one : (x : PinnedInput R) (q : DeltaReader R) → reader_of q ≡ reader_in x.input → index_of q ≡ index_of x.input.reader → HasRead bytes q [] → IsInput bytes x.input → IsInput bytes (by_reader x q).input
  readable_one x q reader index none is = record {
    epoch = is.epoch;
    columns = ap (λ (file : Indexed). file.layout.columns) index ∙ is.columns;
    over = λ b told. subst (λ (file : Indexed). IsOver file b) (sym index) (is.over b (ap bytes (sym reader) ∙ told));
    read = ([], none);
  }

  -- ---- one file in place of another

  pub same_at : (front : List (PinnedInput R)) (x y : PinnedInput R) (back : List (PinnedInput R)) → AreSameFiles bytes (x ∷ []) (y ∷ []) → AreSameFiles bytes (front ++ x ∷ back) (front ++ y ∷ back)
  same_at [] x y back one = record {
    readers = ap (λ rs. rs ++ readers_in back) one.readers;
    known = ap (λ ks. ks ++ knowns_of bytes (inputs_in back)) one.known;
    own = ap (λ os. os ++ owns_in back) one.own;
  }
  same_at (file ∷ front) x y back one =
      let rest = same_at front x y back one in
      record {
        readers = ap (λ rs. reader_in file.input ∷ rs) rest.readers;
        known = ap (λ ks. known_of bytes file.input ∷ ks) rest.known;
        own = ap (λ os. file.own ∷ os) rest.own;
      }

  pub readable_at : (front : List (PinnedInput R)) (x y : PinnedInput R) (back : List (PinnedInput R)) → AreReadable bytes (front ++ x ∷ back) → IsInput bytes y.input → AreReadable bytes (front ++ y ∷ back)
  readable_at [] x y back all one = (one, all.1)
  readable_at (file ∷ front) x y back all one = (all.0, readable_at front x y back all.1 one)

  pub readable_here : (front : List (PinnedInput R)) (x : PinnedInput R) (back : List (PinnedInput R)) → AreReadable bytes (front ++ x ∷ back) → IsInput bytes x.input
  readable_here [] x back all = all.0
  readable_here (file ∷ front) x back all = readable_here front x back all.1

  -- They are the files that they were, and can be read.
  abbrev pub AreStill : List (PinnedInput R) → List (PinnedInput R) → Type 0
  AreStill start files = AreReadable bytes files × AreSameFiles bytes start files

  pub still_at : (start front : List (PinnedInput R)) (x y : PinnedInput R) (back : List (PinnedInput R)) → AreSameFiles bytes (x ∷ []) (y ∷ []) → IsInput bytes y.input → AreStill start (front ++ x ∷ back) → AreStill start (front ++ y ∷ back)
  still_at start front x y back one input still = (readable_at front x y back still.0 input, same_on start (front ++ x ∷ back) (front ++ y ∷ back) still.1 (same_at front x y back one))

  pub still_along : (start a b : List (PinnedInput R)) → a ≡ b → AreStill start a → AreStill start b
  still_along start a b is still = subst (AreStill start) is still

  -- ---- files of a relation

  pub readable_of : (s : Columns) (view : Option ℕ) (files : List (PinnedInput R)) → AllByRecursion (IsPinnedInput bytes s view) files → AreReadable bytes files
  readable_of s view [] all = tt
  readable_of s view (file ∷ files) all = (all.0.input, readable_of s view files all.1)

  relation_of : (s : Columns) (view : Option ℕ) (x y : PinnedInput R) → known_of bytes y.input ≡ known_of bytes x.input → y.own ≡ x.own → IsPinnedInput bytes s view x → IsInput bytes y.input → IsPinnedInput bytes s view y
  relation_of s view x y known own is input = record {
    input = input;
    relation = subst (λ o. IsOfRelation s view y.input.evolving.value o) (sym own) (subst (λ (k : Known). IsOfRelation s view k.table x.own) (sym known) is.relation);
  }

  -- they are the relation's still
  pub pinned_still : (s : Columns) (view : Option ℕ) (old new : List (PinnedInput R)) → knowns_of bytes (inputs_in new) ≡ knowns_of bytes (inputs_in old) → owns_in new ≡ owns_in old
      → AllByRecursion (IsPinnedInput bytes s view) old → AreReadable bytes new → AllByRecursion (IsPinnedInput bytes s view) new
  pinned_still s view [] [] known own all readable = tt
  pinned_still s view [] (y ∷ new) known own all readable = absurd (cc known)
  pinned_still s view (x ∷ old) [] known own all readable = tt
  pinned_still s view (x ∷ old) (y ∷ new) known own all readable =
      let first : known_of bytes y.input ≡ known_of bytes x.input = cc known in
      let others : knowns_of bytes (inputs_in new) ≡ knowns_of bytes (inputs_in old) = cc known in
      let first_own : y.own ≡ x.own = cc own in
      let other_owns : owns_in new ≡ owns_in old = cc own in
      (relation_of s view x y first first_own all.0 readable.0, pinned_still s view old new others other_owns all.1 readable.1)
