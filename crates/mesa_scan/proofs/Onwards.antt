-- A whole input is scanned.
use Rattle.std.proofs.Common.{◌≡◌, ℕ, ◌+◌, ◌≤◌, List, ◌++◌, length, sym, ◌∙◌, ap, subst, arith}
use Rattle.std.specs.Prelude.{map, Option, Some}
use Rattle.std.proofs.lemmas.List.{take_all}
use Rattle.mesa_delta.specs.mesa_file.declared.damage.Damage.{Damage}
use Rattle.mesa_delta.specs.mesa_columns.declared.rows.Row.{Row}
use Rattle.mesa_schema.specs.Changes.{columns_of}
use Rattle.mesa_delta.specs.mesa_fold.Folded.{rows_of}
use Rattle.mesa_filter.specs.Filter.{KeyFilter, filtered}
use Rattle.mesa_delta.specs.mesa_delta_format.Indexed.{Indexed}
use Rattle.mesa_delta.specs.Reading.{IsBlockDamage, IsIndexed, index_of}
use Rattle.mesa_delta.specs.mesa_delta_format.Spread.{blocks_of}
use Rattle.mesa_delta.specs.declared.input.Input.{Input}
use Rattle.mesa_delta.proofs.mesa_delta_format.Packing.{blocks_rows}
use Rattle.mesa_scan.specs.Cursors.{IsSameInput, lift_by, reader_in}
use Rattle.mesa_scan.specs.declared.scanning.Scan.{Scan}
use Rattle.mesa_scan.specs.Damaged.{IsDamaged}
use Rattle.mesa_scan.specs.Scanning.{HasScanned, filter_of, matching, next_of, read_of}

-- The blocks so far are scanned, and the input stays what it was.
pub record AreScanned {R : Type 0} (bytes : R → Option (List ℕ)) (size_of faults_of reads_of : R → ℕ) (start now : Input R) (f : KeyFilter) (s : Scan) (old new : List Row) : Type 0 where
  pub given : List Row
  pub rows : new ≡ old ++ given
  pub scanned : HasScanned bytes now s given
  pub filter : filter_of s ≡ f
  pub same : IsSameInput bytes start now
  pub size : size_of (reader_in now) ≡ size_of (reader_in start)
  pub reads : reads_of (reader_in now) ≤ reads_of (reader_in start) + read_of s
  pub faults : faults_of (reader_in now) ≡ faults_of (reader_in start)

pub same_input : {R : Type 0} (bytes : R → Option (List ℕ)) (a b c : Input R) → IsSameInput bytes a b → IsSameInput bytes b c → IsSameInput bytes a c
same_input bytes a b c p q = record { index = q.index ∙ p.index; evolving = q.evolving ∙ p.evolving; epoch = q.epoch ∙ p.epoch; told = q.told ∙ p.told }

-- damage that is told of an input is told of it as it was
pub damaged_before : {R : Type 0} (bytes : R → Option (List ℕ)) (size : R → ℕ) (start now : Input R) (d : Damage) → IsSameInput bytes start now → size (reader_in now) ≡ size (reader_in start) → IsDamaged bytes size now d → IsDamaged bytes size start d
damaged_before bytes size start now d same long h = record {
  block = h.block;
  before = h.before;
  shown = subst (λ (x : Indexed). IsBlockDamage (bytes (reader_in start)) (size (reader_in start)) x h.block h.before d) same.index
      (subst (λ n. IsBlockDamage (bytes (reader_in start)) n (index_of now.reader) h.block h.before d) long
      (subst (λ t. IsBlockDamage t (size (reader_in now)) (index_of now.reader) h.block h.before d) same.told h.shown));
  unsound = λ b all told indexed. h.unsound b all (same.told ∙ told) (subst (λ (x : Indexed). IsIndexed x all b) (sym same.index) indexed);
}

-- at the end all matching rows are given
pub all_matching : {R : Type 0} (i : Input R) (f : KeyFilter) (all : List Row) (b : List ℕ) (n : ℕ) → IsIndexed (index_of i.reader) all b → length (index_of i.reader).entries ≤ n
    → matching i f all n ≡ filtered (columns_of i.evolving.value) f.terms (map (lift_by i) all)
all_matching i f all b n indexed le =
    let blocks : List (List Row) = blocks_of (index_of i.reader).layout all in
    ap (λ rows. filtered (columns_of i.evolving.value) f.terms (map (lift_by i) rows)) (ap rows_of (take_all n blocks (omega (arith, le, indexed.blocks))) ∙ blocks_rows (index_of i.reader).layout all)

-- so once every block was looked at these are the input's matching rows
pub scanned_all : {R : Type 0} (bytes : R → Option (List ℕ)) (size_of faults_of reads_of : R → ℕ) (start now : Input R) (f : KeyFilter) (s : Scan) (old new : List Row) → AreScanned bytes size_of faults_of reads_of start now f s old new
    → length (index_of now.reader).entries ≤ next_of s → (b : List ℕ) (all : List Row) → bytes (reader_in start) ≡ Some b → IsIndexed (index_of start.reader) all b
    → new ≡ old ++ filtered (columns_of start.evolving.value) f.terms (map (lift_by start) all)
scanned_all bytes size_of faults_of reads_of start now f s old new h over b all told indexed =
    let there : IsIndexed (index_of now.reader) all b = subst (λ (x : Indexed). IsIndexed x all b) (sym h.same.index) indexed in
    let given : h.given ≡ filtered (columns_of now.evolving.value) f.terms (map (lift_by now) all) =
    h.scanned.told b all (h.same.told ∙ told) there ∙ ap (λ (g : KeyFilter). matching now g all (next_of s)) h.filter ∙ all_matching now f all b (next_of s) there over in
    h.rows ∙ ap (λ rows. old ++ rows) (given ∙ (λ k. filtered (columns_of (h.same.evolving k).value) f.terms (map (lift_by (record now { evolving = h.same.evolving k; epoch = h.same.epoch k })) all)))
