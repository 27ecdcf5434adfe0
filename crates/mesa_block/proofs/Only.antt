-- What is spelled so is read.
use Rattle.std.proofs.Common.{◌≡◌, ℕ, List, [], ◌∷◌, ◌++◌, length, map, take, drop, Ok, refl, ap, subst, ◌∙◌, append_assoc}
use Rattle.std.specs.Prelude.{IsTrue, replicate}
use Rattle.std.specs.List.{AllByRecursion}
use Rattle.std.proofs.lemmas.Bool.{eqb-true}
use Rattle.std.proofs.lemmas.List.{length-map}
use Rattle.mesa_list.proofs.Whole.{both}
use Rattle.mesa_columns.specs.mesa_key.declared.KeyType.{KeyType}
use Rattle.mesa_columns.specs.mesa_key.declared.KeyType.TheVariants as kind
use Rattle.mesa_columns.specs.mesa_key.Spelling.{is_column, is_spelling}
use Rattle.mesa_block.specs.Spelling.{front, rest, column, columns}
use Rattle.mesa_block.specs.Reading.{many, column_at, columns_at}
use Rattle.mesa_block.proofs.Laying.{each_mapped, has_front}
use Rattle.mesa_block.proofs.Takes.{AreCells, column_again}

-- the cells of keys, column by column
abbrev pub cells_of : List KeyType → List (List ℕ) → List (List (List ℕ))
cells_of [] keys = []
cells_of (k ∷ kinds) keys = map (front k) keys ∷ cells_of kinds (map (rest k) keys)

-- the first cells of keys that start with an int
eights : (kinds : List KeyType) (keys : List (List ℕ)) → AllByRecursion (λ key. IsTrue (is_spelling (kind.Int ∷ kinds) key)) keys → map length (map (front kind.Int) keys) ≡ replicate (length (map (front kind.Int) keys)) 8
eights kinds [] all = refl
eights kinds (key ∷ keys) all =
    let p = both (is_column kind.Int (take 8 key)) (is_spelling kinds (drop 8 key)) all.0 in
    ap (λ n. n ∷ map length (map (front kind.Int) keys)) (eqb-true (length (take 8 key)) 8 p.0) ∙ ap (λ (l : List ℕ). 8 ∷ l) (eights kinds keys all.1)

fronts_are_cells : (k : KeyType) (kinds : List KeyType) (keys : List (List ℕ)) → AllByRecursion (λ key. IsTrue (is_spelling (k ∷ kinds) key)) keys → AreCells k (map (front k) keys)
fronts_are_cells kind.Int kinds keys all = eights kinds keys all
fronts_are_cells kind.Text kinds keys all = tt

pub columns_again : (kinds : List KeyType) (keys : List (List ℕ)) (r : ℕ) (more : List ℕ) → length keys ≡ r → AllByRecursion (λ key. IsTrue (is_spelling kinds key)) keys
    → columns_at kinds r (columns kinds keys ++ more) ≡ Ok (cells_of kinds keys, more)
unfolding many
columns_again [] keys r more len all = refl
columns_again (k ∷ kinds) keys r more len all =
    let cells = map (front k) keys in
    let rests = map (rest k) keys in
    let regrouped : columns (k ∷ kinds) keys ++ more ≡ column k cells ++ (columns kinds rests ++ more) = append_assoc (column k cells) (columns kinds rests) more in
    let count : length cells ≡ r = length-map keys (front k) ∙ len in
    let first : column_at k r (column k cells ++ (columns kinds rests ++ more)) ≡ Ok (cells, columns kinds rests ++ more) =
    subst (λ n. column_at k n (column k cells ++ (columns kinds rests ++ more)) ≡ Ok (cells, columns kinds rests ++ more)) count (column_again k cells (columns kinds rests ++ more) (fronts_are_cells k kinds keys all)) in
    let others = each_mapped (λ key. IsTrue (is_spelling (k ∷ kinds) key)) (λ key. IsTrue (is_spelling kinds key)) (rest k) keys (λ key h. (has_front k kinds key h).others) all in
    ap (columns_at (k ∷ kinds) r) regrouped ∙ rw (first, columns_again kinds rests r more (length-map keys (rest k) ∙ len) others) refl
