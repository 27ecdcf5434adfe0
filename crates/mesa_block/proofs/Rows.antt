-- Rows made of columns, one step of each loop.
use Rattle.std.proofs.Common.{◌≡◌, ℕ, ◌+◌, ◌≤◌, ◌<◌, List, [], ◌∷◌, ◌++◌, length, get_or, drop, refl, sym, ap, ◌∙◌, append_assoc, zero-add}
use Rattle.std.specs.Prelude.{Option, Some, None, ℤ}
use Rattle.std.proofs.lemmas.List.{drop_more, drop_all, append-nil}
use Rattle.std.proofs.lemmas.List.FromFn.{map-range_with_len_more}
use Rattle.mesa_columns.specs.mesa_key.declared.KeyType.{KeyType}
use Rattle.mesa_block.specs.declared.layout.Width.{Width}
use Rattle.mesa_block.specs.Layout.{number}
use Rattle.mesa_block.specs.Reading.{bad_text, bad_column, or_else, key_at, values_at, sealed, row_at, rows_of}

pub bad_step : (kinds : List KeyType) (cols : List (List (List ℕ))) (j : ℕ) (d : KeyType) (e : List (List ℕ)) → j < length kinds → j < length cols
    → bad_text (drop j kinds) (drop j cols) ≡ or_else (bad_column (get_or kinds j d) (get_or cols j e)) (bad_text (drop (j + 1) kinds) (drop (j + 1) cols))
unfolding bad_text
bad_step kinds cols j d e lt lt2 = rw (drop_more kinds j d lt, drop_more cols j e lt2) refl

no_columns : (kinds : List KeyType) → bad_text kinds [] ≡ None
unfolding bad_text
no_columns [] = refl
no_columns (k ∷ kinds) = refl

pub bad_end : (kinds : List KeyType) (cols : List (List (List ℕ))) (j : ℕ) → length cols ≤ j → bad_text (drop j kinds) (drop j cols) ≡ None
bad_end kinds cols j le = rw (drop_all j cols le) (no_columns (drop j kinds))

pub bad_end_kinds : (kinds : List KeyType) (columns : List (List (List ℕ))) (j : ℕ) → length kinds ≤ j → bad_text (drop j kinds) columns ≡ None
unfolding bad_text
bad_end_kinds kinds columns j le = rw (drop_all j kinds le) refl

pub key_step : (kinds : List KeyType) (cols : List (List (List ℕ))) (i j : ℕ) (d : KeyType) (e : List (List ℕ)) (now new cell whole : List ℕ) → j < length kinds → j < length cols → e ≡ get_or cols j e
    → now ++ key_at (drop j kinds) (drop j cols) i ≡ whole → cell ≡ get_or e i [] → new ≡ now ++ sealed (get_or kinds j d) cell
    → new ++ key_at (drop (j + 1) kinds) (drop (j + 1) cols) i ≡ whole
unfolding key_at
key_step kinds cols i j d e now new cell whole lt lt2 at before is put =
    let others = key_at (drop (j + 1) kinds) (drop (j + 1) cols) i in
    let one : key_at (drop j kinds) (drop j cols) i ≡ sealed (get_or kinds j d) cell ++ others = rw (is, drop_more kinds j d lt, drop_more cols j e lt2, ← at) refl in
    ap (λ (l : List ℕ). l ++ others) put ∙ append_assoc now (sealed (get_or kinds j d) cell) others ∙ ap (λ (l : List ℕ). now ++ l) (sym one) ∙ before

no_key : (kinds : List KeyType) (i : ℕ) → key_at kinds [] i ≡ []
unfolding key_at
no_key [] i = refl
no_key (k ∷ kinds) i = refl

pub key_end : (kinds : List KeyType) (cols : List (List (List ℕ))) (i j : ℕ) (now whole : List ℕ) → length cols ≤ j
    → now ++ key_at (drop j kinds) (drop j cols) i ≡ whole → now ≡ whole
key_end kinds cols i j now whole le before =
    let one : key_at (drop j kinds) (drop j cols) i ≡ [] = rw (drop_all j cols le) (no_key (drop j kinds) i) in
    sym (append-nil now) ∙ ap (λ (l : List ℕ). now ++ l) (sym one) ∙ before

pub key_end_kinds : (kinds : List KeyType) (columns : List (List (List ℕ))) (i j : ℕ) (now whole : List ℕ) → length kinds ≤ j → now ++ key_at (drop j kinds) columns i ≡ whole → now ≡ whole
unfolding key_at
key_end_kinds kinds columns i j now whole le before =
    let one : key_at (drop j kinds) columns i ≡ [] = rw (drop_all j kinds le) refl in
    sym (append-nil now) ∙ ap (λ (l : List ℕ). now ++ l) (sym one) ∙ before

pub value_step : (ws : List Width) (cols : List (List (List ℕ))) (i j : ℕ) (d : Width) (e : List (List ℕ)) (now new whole : List ℤ) (cell : List ℕ) (z : ℤ) → j < length ws → j < length cols → e ≡ get_or cols j e
    → now ++ values_at (drop j ws) (drop j cols) i ≡ whole → cell ≡ get_or e i [] → z ≡ number (get_or ws j d) cell → new ≡ now ++ z ∷ []
    → new ++ values_at (drop (j + 1) ws) (drop (j + 1) cols) i ≡ whole
value_step ws cols i j d e now new whole cell z lt lt2 at before is made put =
    let others = values_at (drop (j + 1) ws) (drop (j + 1) cols) i in
    let one : values_at (drop j ws) (drop j cols) i ≡ z ∷ others = rw (made, is, drop_more ws j d lt, drop_more cols j e lt2, ← at) refl in
    ap (λ (l : List ℤ). l ++ others) put ∙ append_assoc now (z ∷ []) others ∙ ap (λ (l : List ℤ). now ++ l) (sym one) ∙ before

no_values : (ws : List Width) (i : ℕ) → values_at ws [] i ≡ []
no_values [] i = refl
no_values (w ∷ ws) i = refl

pub value_end : (ws : List Width) (cols : List (List (List ℕ))) (i j : ℕ) (now whole : List ℤ) → length cols ≤ j
    → now ++ values_at (drop j ws) (drop j cols) i ≡ whole → now ≡ whole
value_end ws cols i j now whole le before =
    let one : values_at (drop j ws) (drop j cols) i ≡ [] = rw (drop_all j cols le) (no_values (drop j ws) i) in
    sym (append-nil now) ∙ ap (λ (l : List ℤ). now ++ l) (sym one) ∙ before

pub value_end_widths : (ws : List Width) (columns : List (List (List ℕ))) (i j : ℕ) (now whole : List ℤ) → length ws ≤ j → now ++ values_at (drop j ws) columns i ≡ whole → now ≡ whole
value_end_widths ws columns i j now whole le before =
    let one : values_at (drop j ws) columns i ≡ [] = rw (drop_all j ws le) refl in
    sym (append-nil now) ∙ ap (λ (l : List ℤ). now ++ l) (sym one) ∙ before

pub rows_more : (kinds : List KeyType) (ws : List Width) (keys values : List (List (List ℕ))) (i : ℕ) → rows_of kinds ws keys values (i + 1) ≡ rows_of kinds ws keys values i ++ row_at kinds ws keys values i ∷ []
rows_more kinds ws keys values i = map-range_with_len_more (row_at kinds ws keys values) 0 i i (zero-add i)

pub bad_pass : (kinds : List KeyType) (cols : List (List (List ℕ))) (j : ℕ) (d : KeyType) (x : List (List ℕ)) (whole : Option ℕ) → j < length kinds → j < length cols → x ≡ get_or cols j x
    → whole ≡ bad_text (drop j kinds) (drop j cols) → None ≡ bad_column (get_or kinds j d) x → whole ≡ bad_text (drop (j + 1) kinds) (drop (j + 1) cols)
bad_pass kinds cols j d x whole lt lt2 at before none =
    let others = bad_text (drop (j + 1) kinds) (drop (j + 1) cols) in
    before ∙ bad_step kinds cols j d x lt lt2 ∙ ap (λ (y : List (List ℕ)). or_else (bad_column (get_or kinds j d) y) others) (sym at) ∙ ap (λ (o : Option ℕ). or_else o others) (sym none)

pub bad_stop : (kinds : List KeyType) (cols : List (List (List ℕ))) (j i : ℕ) (d : KeyType) (x : List (List ℕ)) (whole : Option ℕ) → j < length kinds → j < length cols → x ≡ get_or cols j x
    → whole ≡ bad_text (drop j kinds) (drop j cols) → Some i ≡ bad_column (get_or kinds j d) x → Some i ≡ whole
bad_stop kinds cols j i d x whole lt lt2 at before some =
    let others = bad_text (drop (j + 1) kinds) (drop (j + 1) cols) in
    sym (before ∙ bad_step kinds cols j d x lt lt2 ∙ ap (λ (y : List (List ℕ)). or_else (bad_column (get_or kinds j d) y) others) (sym at) ∙ ap (λ (o : Option ℕ). or_else o others) (sym some))
