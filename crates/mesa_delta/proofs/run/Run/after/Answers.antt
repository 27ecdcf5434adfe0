use Rattle.std.proofs.Common.{◌≡◌, ◌<◌, ◌-◌, ◌+◌, ◌∙◌, ℕ, List, [], ◌∷◌, length, get_or, arith, refl, ap, sym, add-one}
use Rattle.mesa_delta_format.specs.mesa_columns.declared.rows.Row.{Row}
use Rattle.mesa_delta_format.specs.mesa_columns.Lent.{lent}
use Rattle.std.proofs.lemmas.Option.{get_or_from_slice_get}
use Rattle.mesa_delta_format.specs.Summary.{last_key}
use Rattle.mesa_delta.proofs.run.Run.after.Goals as goal

at_next : (a : Row) (rows : List Row) (d : Row) (n : ℕ) → (get_or (a ∷ rows) (n + 1) d).key ≡ (get_or rows n d).key
at_next a rows d n = rw add-one refl

last_at : (rows : List Row) (d : Row) → 0 < length rows → (get_or rows (length rows - 1) d).key ≡ last_key rows
last_at [] d some = absurd (omega arith)
last_at (row ∷ []) d some = refl
last_at (a ∷ b ∷ rows) d some =
    let i : length (a ∷ b ∷ rows) - 1 ≡ length rows + 1 = omega arith in
    let j : length (b ∷ rows) - 1 ≡ length rows = omega arith in
    ap (λ (n : ℕ). (get_or (a ∷ b ∷ rows) n d).key) i ∙ at_next a (b ∷ rows) d (length rows) ∙ ap (λ (n : ℕ). (get_or (b ∷ rows) n d).key) (sym j) ∙ last_at (b ∷ rows) d (omega arith)

pub returns-clause-last : goal.returns-clause-last
returns-clause-last c =
    let rows = c.args.rows.now in
    let row : Row = lent c.row.result in
    let there = rw c.len-2.ensures at c.row.ensures in
    c.in_ok-from_bytes.ensures ∙ sym (ap (λ (r : Row). r.key) (get_or_from_slice_get rows (length rows - 1) row row there)) ∙ last_at rows row c.requires.some
