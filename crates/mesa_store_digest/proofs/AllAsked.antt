-- All columns may be asked, and they bring each row as it is.
use Rattle.std.proofs.Common.{◌≡◌, ℕ, zero, suc, ◌+◌, List, [], ◌∷◌, ◌++◌, map, length, cond, Bool, true, false, refl, sym, ◌∙◌, ap, subst, arith, append_assoc, Some, None, Ok, Err}
use Rattle.std.specs.Prelude.{◌||◌, ◌&&◌, ◌==◌, find, slice_get}
use Rattle.std.specs.List.{concat, cons_option, enumerate_from, list_all, list_any}
use Rattle.std.proofs.lemmas.Bool.{eq-eqb}
use Rattle.std.proofs.lemmas.List.{length-map, length_push}
use Rattle.mesa_list.specs.Checks.{◌>>=◌, ◌>>◌, refused_as}
use Rattle.mesa_pick_files.specs.mesa_key.declared.KeyType.{KeyType}
use Rattle.mesa_pick_files.specs.mesa_key.declared.KeyValue.{KeyValue}
use Rattle.mesa_pick_files.specs.mesa_key.Spelling.{columns_of, key_of, value_spelling}
use Rattle.mesa_pick_files.specs.mesa_columns.declared.columns.KeyColumn.{KeyColumn}
use Rattle.mesa_pick_files.specs.mesa_columns.declared.columns.ValueColumn.{ValueColumn}
use Rattle.mesa_pick_files.specs.mesa_columns.declared.rows.Row.{Row}
use Rattle.mesa_pick_files.specs.mesa_columns.Columns.{Columns, aggs_of, chosen, is_replace, kinds_of}
use Rattle.mesa_open_files.specs.mesa_fold.Folded.{folded, regrouped}
use Rattle.mesa_pick_files.specs.mesa_columns.Rows.{AreRowsOf, IsRowOf, keys_rise}
use Rattle.mesa_pick_files.proofs.mesa_fold.GroupKeys.{columns_spelled, concat_spelled}
use Rattle.mesa_filter.specs.Asked.{Asked, asked_of, filter_refusal, places_below, refuse_replace, replace_asked}
use Rattle.mesa_filter.specs.Filter.{filter_of, filtered}
use Rattle.mesa_filter.specs.Query.{built, query_of}
use Rattle.mesa_filter.specs.Resume.{resume_of}
use Rattle.mesa_filter.specs.declared.words.QueryError.{QueryError}
use Rattle.mesa_filter.specs.declared.words.QueryWords.{QueryWords}
use Rattle.mesa_store_spec.proofs.Rising.{folds_itself}
use Rattle.mesa_pick_files.specs.mesa_model.Query.{answer_rows}
use Rattle.mesa_store_digest.specs.Latest.{all_asked}

-- ---- what is asked

any_behind : (y : ℕ) (front back : List ℕ) → list_any (λ c. c == y) (front ++ y ∷ back) ≡ true
any_behind y [] back = ap (λ t. t || list_any (λ c. c == y) back) (eq-eqb y y refl)
any_behind y (x ∷ front) back = either (x == y) _ (any_behind y front back) where
  either : (a b : Bool) → b ≡ true → (a || b) ≡ true
  either true b e = refl
  either false b e = e

all_listed : (front back : List ℕ) → list_all (λ p. list_any (λ c. c == p) (front ++ back)) back ≡ true
all_listed front [] = refl
all_listed front (y ∷ back) =
    ap (λ t. t && list_all (λ p. list_any (λ c. c == p) (front ++ y ∷ back)) back) (any_behind y front back)
    ∙ subst (λ xs. list_all (λ p. list_any (λ c. c == p) xs) back ≡ true) (append_assoc front (y ∷ []) back) (all_listed (front ++ y ∷ []) back)

none_refused : (s : Columns) → replace_asked s (places_below s.keys) (places_below s.values) ≡ None
none_refused s = ap (λ b. cond b None (find is_replace (chosen (places_below s.values) s.values))) (all_listed [] (places_below s.keys))

-- words that ask for all columns of all rows
pub record AskForAll (words : QueryWords) : Type 0 where
  pub filter : words.filter ≡ []
  pub group : words.group ≡ []
  pub values : words.values ≡ []
  pub resume : words.resume ≡ []

asked_all : (s : Columns) (words : QueryWords) → AskForAll words → asked_of s words ≡ Ok (all_asked s)
asked_all s words is =
    (λ i. asked_of s (record words { filter = is.filter i; group = is.group i; values = is.values i }))
    ∙ ap (λ o. refuse_replace o >> (refused_as filter_refusal (filter_of s []) >>= (λ terms. Ok (record { columns = places_below s.keys; values = places_below s.values; terms = terms })))) (none_refused s)

-- they are refused for nothing
pub none_refuses : (s : Columns) (relation : List ℕ) (version epoch : ℕ) (words : QueryWords) (e : QueryError) → AskForAll words → query_of s relation version epoch words ≡ Err e → ⊥
none_refuses s relation version epoch words e is refused =
    let asked : query_of s relation version epoch words ≡ (Ok (all_asked s) >>= (λ asked. resume_of s relation version epoch asked.columns words.resume >>= (λ resume. Ok (built s relation version epoch words asked resume)))) =
    ap (λ o. o >>= (λ asked. resume_of s relation version epoch asked.columns words.resume >>= (λ resume. Ok (built s relation version epoch words asked resume)))) (asked_all s words is) in
    let done : query_of s relation version epoch words ≡ Ok (built s relation version epoch words (all_asked s) None) =
    asked ∙ ap (λ r. resume_of s relation version epoch (places_below s.keys) r >>= (λ resume. Ok (built s relation version epoch words (all_asked s) resume))) is.resume in
    cc (refused, done)

pub asks_all : (s : Columns) (words : QueryWords) (asked : Asked) → AskForAll words → asked_of s words ≡ Ok asked → asked ≡ all_asked s
asks_all s words asked is e = let both : Ok asked ≡ Ok (all_asked s) = sym e ∙ asked_all s words is in cc both

-- ---- all columns of a row

chosen_from : {X Y : Type 0} (xs : List X) (before ys : List Y) (i : ℕ) → length xs ≡ length ys → i ≡ length before → chosen (map (λ p. p.0) (enumerate_from i xs)) (before ++ ys) ≡ ys
chosen_from [] before [] i e at = refl
chosen_from [] before (y ∷ ys) i e at = absurd (omega (arith, e))
chosen_from (x ∷ xs) before [] i e at = absurd (omega (arith, e))
chosen_from (x ∷ xs) before (y ∷ ys) i e at =
    ap (λ o. cons_option o (chosen (map (λ p. p.0) (enumerate_from (i + 1) xs)) (before ++ y ∷ ys))) (there before i at)
    ∙ ap (λ zs. y ∷ zs) (ap (chosen (map (λ p. p.0) (enumerate_from (i + 1) xs))) (sym (append_assoc before (y ∷ []) ys)) ∙ chosen_from xs (before ++ y ∷ []) ys (i + 1) (omega (arith, e)) (omega (arith, at, length_push before y)))
  where
    there : (front : List _) (n : ℕ) → n ≡ length front → slice_get (front ++ y ∷ ys) n ≡ Some y
    there [] n is = ap (λ k. slice_get (y ∷ ys) k) is
    there (z ∷ front) zero is = absurd (omega (arith, is))
    there (z ∷ front) (suc n) is = there front n (omega (arith, is))

-- the places of all choose all
pub chosen_below : {X Y : Type 0} (xs : List X) (ys : List Y) → length xs ≡ length ys → chosen (places_below xs) ys ≡ ys
chosen_below xs ys e = chosen_from xs [] ys 0 e refl

columns_number : (kinds : List KeyType) (bytes : List ℕ) → length (columns_of kinds bytes) ≡ length kinds
columns_number [] bytes = refl
columns_number (kind ∷ kinds) bytes = ap suc (columns_number kinds _)

-- a row under all its columns is itself
regrouped_itself : (s : Columns) (row : Row) → IsRowOf s row → regrouped s (places_below s.keys) (places_below s.values) row ≡ row
regrouped_itself s row form =
    let kinds : List KeyType = kinds_of s in
    let key : List KeyValue = key_of kinds row.key in
    let count : length s.keys ≡ length (columns_of kinds row.key) = sym (columns_number kinds row.key ∙ length-map s.keys (λ (k : KeyColumn). k.kind)) in
    let columns : columns_of kinds row.key ≡ map value_spelling key = ap (columns_of kinds) (sym form.spelled) ∙ columns_spelled kinds key form.key in
    λ i. record {
      key = (ap (λ (cs : List (List ℕ)). concat cs) (chosen_below s.keys (columns_of kinds row.key) count ∙ columns) ∙ concat_spelled key ∙ form.spelled) i;
      values = chosen_below s.values row.values (sym form.values) i;
    }

all_regrouped : (s : Columns) (rows : List Row) → AreRowsOf s rows → map (regrouped s (places_below s.keys) (places_below s.values)) rows ≡ rows
all_regrouped s [] forms = refl
all_regrouped s (row ∷ rows) forms = λ i. regrouped_itself s row forms.0 i ∷ all_regrouped s rows forms.1 i

unfiltered : (s : Columns) (rows : List Row) → filtered s [] rows ≡ rows
unfiltered s [] = refl
unfiltered s (row ∷ rows) = ap (λ (others : List Row). row ∷ others) (unfiltered s rows)

-- The answer of all columns over rows of their form, whose keys rise, is those rows.
pub answer_itself : (s : Columns) (rows : List Row) → AreRowsOf s rows → keys_rise rows ≡ true → answer_rows s (all_asked s) rows ≡ rows
answer_itself s rows forms rise =
    let aggs : chosen (places_below s.values) (aggs_of s) ≡ aggs_of s = chosen_below s.values (aggs_of s) (sym (length-map s.values (λ (c : ValueColumn). c.agg))) in
    (λ i. folded (aggs i) (map (regrouped s (places_below s.keys) (places_below s.values)) (unfiltered s rows i) ∷ []))
    ∙ ap (λ (rs : List Row). folded (aggs_of s) (rs ∷ [])) (all_regrouped s rows forms)
    ∙ folds_itself (aggs_of s) rows rise
