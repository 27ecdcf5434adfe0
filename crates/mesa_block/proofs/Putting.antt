-- Key columns that are put column by column.
use Rattle.std.proofs.Common.{◌≡◌, ℕ, ◌+◌, ◌^◌, ◌<◌, List, [], ◌∷◌, ◌++◌, length, map, get_or, take, drop, refl, sym, ap, subst, ◌∙◌, append_assoc, arith}
use Rattle.std.specs.Prelude.{IsTrue}
use Rattle.std.specs.List.{AllByRecursion, concat}
use Rattle.std.proofs.lemmas.List.{take_more, map-append, append-nil}
use Rattle.std.proofs.lemmas.List.Folds.{concat-append}
use Rattle.mesa_columns.specs.mesa_key.declared.KeyType.{KeyType}
use Rattle.mesa_columns.specs.mesa_key.declared.KeyType.TheVariants as kind
use Rattle.mesa_columns.specs.mesa_key.Spelling.{column_length, is_spelling}
use Rattle.mesa_block.specs.Spelling.{cell, column, columns, front, lengths, rest}
use Rattle.mesa_block.proofs.Laying.{each_mapped, has_front}
use Rattle.mesa_block.proofs.OnlyKeys.{text_cell}

-- the cell that a key's first column is
pub first_cell : (k : KeyType) (kinds : List KeyType) (key : List ℕ) → IsTrue (is_spelling (k ∷ kinds) key) → cell k (take (column_length k key) key) ≡ front k key
first_cell kind.Int kinds key h = refl
first_cell kind.Text kinds key h = text_cell kinds key h

pub first_rest : (k : KeyType) (key : List ℕ) → drop (column_length k key) key ≡ rest k key
first_rest kind.Int key = refl
first_rest kind.Text key = refl

-- a column that was taken from a key, and what is left
pub cell_is : (kinds others more : List KeyType) (k kind : KeyType) (key bytes found : List ℕ) → IsTrue (is_spelling kinds key) → kinds ≡ kind ∷ others → kinds ≡ k ∷ more → bytes ≡ take (column_length k key) key → found ≡ cell k bytes → found ≡ front kind key
cell_is kinds others more k kind key bytes found h is took at sees =
    let same : k ≡ kind = cc in
    sees ∙ ap (cell k) at ∙ ap (λ (x : KeyType). cell x (take (column_length x key) key)) same ∙ first_cell kind others key (subst (λ (ks : List KeyType). IsTrue (is_spelling ks key)) is h)

pub rest_is : (kinds others more : List KeyType) (k kind : KeyType) (key found : List ℕ) → kinds ≡ kind ∷ others → kinds ≡ k ∷ more → found ≡ drop (column_length k key) key → found ≡ rest kind key
rest_is kinds others more k kind key found is took at =
    let same : k ≡ kind = cc in
    at ∙ ap (λ (x : KeyType). drop (column_length x key) key) same ∙ first_rest kind key

pub cell_small : (kinds more : List KeyType) (k : KeyType) (key bytes found : List ℕ) → IsTrue (is_spelling kinds key) → kinds ≡ k ∷ more → bytes ≡ take (column_length k key) key → found ≡ cell k bytes → length found < 2 ^ 8
cell_small kinds more k key bytes found h took at sees =
    omega (arith, (has_front k more key (subst (λ (ks : List KeyType). IsTrue (is_spelling ks key)) took h)).small, ap length (cell_is kinds more more k k key bytes found h took took at sees))

-- What was put of a column, for the first of the keys.
pub record Put (k : KeyType) (keys : List (List ℕ)) (start now taken : List ℕ) (behind : List (List ℕ)) : Type 0 where
  pub put : now ≡ start ++ lengths k (map (front k) keys)
  pub cells : taken ≡ concat (map (front k) keys)
  pub rests : behind ≡ map (rest k) keys

no_lengths : (k : KeyType) → [] ≡ lengths k []
no_lengths kind.Int = refl
no_lengths kind.Text = refl

pub put_none : (k : KeyType) (start : List ℕ) → Put k [] start start [] []
put_none k start = record { put = sym (ap (λ (l : List ℕ). start ++ l) (sym (no_lengths k)) ∙ append-nil start); cells = refl; rests = refl }

lengths_more : (k : KeyType) (cells : List (List ℕ)) (c : List ℕ) → lengths k (cells ++ c ∷ []) ≡ lengths k cells ++ lengths k (c ∷ [])
lengths_more kind.Int cells c = refl
lengths_more kind.Text cells c = map-append length cells (c ∷ [])

pub put_more : (k : KeyType) (keys : List (List ℕ)) (key start now new cells more : List ℕ) (rests others : List (List ℕ)) (c : List ℕ) → Put k keys start now cells rests
    → new ≡ now ++ lengths k (c ∷ []) → more ≡ cells ++ c → c ≡ front k key → others ≡ rests ++ rest k key ∷ [] → Put k (keys ++ key ∷ []) start new more others
put_more k keys key start now new cells more rests others c h put add is behind =
    let fronts : map (front k) (keys ++ key ∷ []) ≡ map (front k) keys ++ c ∷ [] = map-append (front k) keys (key ∷ []) ∙ ap (λ (x : List ℕ). map (front k) keys ++ x ∷ []) (sym is) in
    record {
      put = put ∙ ap (λ (l : List ℕ). l ++ lengths k (c ∷ [])) h.put ∙ append_assoc start (lengths k (map (front k) keys)) (lengths k (c ∷ []))
          ∙ ap (λ (l : List ℕ). start ++ l) (sym (lengths_more k (map (front k) keys) c)) ∙ ap (λ (l : List (List ℕ)). start ++ lengths k l) (sym fronts);
      cells = add ∙ ap (λ (l : List ℕ). l ++ c) h.cells ∙ ap (λ (l : List ℕ). concat (map (front k) keys) ++ l) (sym (append-nil c)) ∙ sym (concat-append (map (front k) keys) (c ∷ [])) ∙ ap concat (sym fronts);
      rests = behind ∙ ap (λ (l : List (List ℕ)). l ++ rest k key ∷ []) h.rests ∙ sym (map-append (rest k) keys (key ∷ []));
    }

pub at_next : {X : Type 0} (g : X → List ℕ) (xs : List X) (i : ℕ) (d : X) → i < length xs → map g (take (i + 1) xs) ≡ map g (take i xs) ++ g (get_or xs i d) ∷ []
at_next g xs i d lt = ap (map g) (take_more xs i d lt) ∙ map-append g (take i xs) (get_or xs i d ∷ [])

parts : (k : KeyType) (cells : List (List ℕ)) → lengths k cells ++ concat cells ≡ column k cells
parts kind.Int cells = refl
parts kind.Text cells = refl

pub put_whole : (k : KeyType) (keys : List (List ℕ)) (start now new cells : List ℕ) (rests : List (List ℕ)) → Put k keys start now cells rests → new ≡ now ++ cells → new ≡ start ++ column k (map (front k) keys)
put_whole k keys start now new cells rests h put =
    put ∙ ap (λ (l : List ℕ). l ++ cells) h.put ∙ append_assoc start (lengths k (map (front k) keys)) cells
    ∙ ap (λ (l : List ℕ). start ++ (lengths k (map (front k) keys) ++ l)) h.cells ∙ ap (λ (l : List ℕ). start ++ l) (parts k (map (front k) keys))

-- one column more
pub column_more : (k : KeyType) (kinds : List KeyType) (keys others : List (List ℕ)) (now new whole : List ℕ) → now ++ columns (k ∷ kinds) keys ≡ whole
    → new ≡ now ++ column k (map (front k) keys) → others ≡ map (rest k) keys → new ++ columns kinds others ≡ whole
column_more k kinds keys others now new whole before put is =
    ap (λ (l : List ℕ). l ++ columns kinds others) put ∙ ap (λ (ks : List (List ℕ)). (now ++ column k (map (front k) keys)) ++ columns kinds ks) is
    ∙ append_assoc now (column k (map (front k) keys)) (columns kinds (map (rest k) keys)) ∙ before

pub others_good : (k : KeyType) (kinds : List KeyType) (keys : List (List ℕ)) → AllByRecursion (λ key. IsTrue (is_spelling (k ∷ kinds) key)) keys → AllByRecursion (λ key. IsTrue (is_spelling kinds key)) (map (rest k) keys)
others_good k kinds keys all = each_mapped (λ key. IsTrue (is_spelling (k ∷ kinds) key)) (λ key. IsTrue (is_spelling kinds key)) (rest k) keys (λ key h. (has_front k kinds key h).others) all

pub columns_end : (kinds : List KeyType) (keys : List (List ℕ)) (now whole : List ℕ) → length kinds ≡ 0 → now ++ columns kinds keys ≡ whole → now ≡ whole
columns_end [] keys now whole none before = sym (append-nil now) ∙ before
columns_end (k ∷ kinds) keys now whole none before = absurd (omega arith)
