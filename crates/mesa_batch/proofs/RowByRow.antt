-- Rows read one after another, and their keys compared behind them.
use Rattle.std.proofs.Common.{◌≡◌, ◌+◌, List, [], ◌∷◌, ◌++◌, length, refl, sym, ◌∙◌, ap, append_assoc, Result, Ok, Err}
use Rattle.std.specs.Prelude.{position}
use Rattle.std.specs.Result.{MatchResult}
use Rattle.std.proofs.lemmas.List.{append-nil}
use Rattle.mesa_list.specs.Checks.{◌>>=◌, ◌>>◌}
use Rattle.mesa_batch.specs.declared.words.BatchError.{BatchError}
use Rattle.mesa_batch.specs.Batch.{Placed, batch_from, is_at, placed_of, refuse_twice}
use Rattle.mesa_batch.specs.Gathered.{each_once, once_behind, read_of}
use Rattle.mesa_batch.specs.Laws.{GoesRowByRow}
use Rattle.mesa_batch.proofs.ReadWords.{key_checked, placed_read}

passed : {E : Type 0} (r : Result (Unit {0}) E) → (r >> Ok tt) ≡ r
passed (Ok u) = refl
passed (Err e) = refl

then_then : {A B C E : Type 0} (a : Result A E) (b : Result B E) (c : Result C E) → (a >> (b >> c)) ≡ ((a >> b) >> c)
then_then (Ok x) b c = refl
then_then (Err e) b c = refl

-- whether a row's key is free behind these
abbrev free : List Placed → Placed → Result (Unit {0}) BatchError
free before p = refuse_twice (position (is_at p.table p.row.key) before) (length before + 1)

once_push : (before done : List Placed) (p : Placed) → once_behind before (done ++ p ∷ []) ≡ (once_behind before done >> free (before ++ done) p)
once_push before [] p = passed (free before p) ∙ ap (λ l. free l p) (sym (append-nil before))
once_push before (q ∷ done) p =
    ap (λ r. free before q >> r) (once_push (before ++ q ∷ []) done p ∙ ap (λ l. once_behind (before ++ q ∷ []) done >> free l p) (append_assoc before (q ∷ []) done))
    ∙ then_then (free before q) (once_behind (before ++ q ∷ []) done) (free (before ++ q ∷ done) p)

checked_then : {A C E : Type 0} (r : Result (Unit {0}) E) (x : A) (f : A → Result C E) → ((r >> Ok x) >>= f) ≡ (r >> f x)
checked_then (Ok u) x f = refl
checked_then (Err e) x f = refl

pub row_by_row : GoesRowByRow
row_by_row tables before words rest = by (read_of tables (length before + 1) words) (placed_read tables before words)
  where
    go : Placed → Result (List Placed) BatchError
    go placed = batch_from tables (before ++ placed ∷ []) rest

    Goal : Result Placed BatchError → Type 0
    Goal r = MatchResult (r >>= (λ placed. Ok (before ++ placed ∷ []))) (λ rows. (each_once before >> batch_from tables before (words ∷ rest)) ≡ (each_once rows >> batch_from tables rows rest))
        (λ refusal. (each_once before >> batch_from tables before (words ∷ rest)) ≡ (each_once before >> Err refusal))

    by : (r : Result Placed BatchError) → placed_of tables before words ≡ (r >>= key_checked before) → Goal r
    by (Ok p) e =
        ap (λ m. each_once before >> (m >>= (λ placed. batch_from tables (before ++ placed ∷ []) rest))) e
        ∙ ap (λ m. each_once before >> m) (checked_then (free before p) p (λ placed. batch_from tables (before ++ placed ∷ []) rest))
        ∙ then_then (each_once before) (free before p) (batch_from tables (before ++ p ∷ []) rest)
        ∙ ap (λ m. m >> batch_from tables (before ++ p ∷ []) rest) (sym (once_push [] before p))
    by (Err x) e = ap (λ m. each_once before >> (m >>= (λ placed. batch_from tables (before ++ placed ∷ []) rest))) e
