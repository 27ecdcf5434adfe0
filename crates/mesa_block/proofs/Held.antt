-- Rows whose keys and values stand in buffers.
use Rattle.std.proofs.Common.{◌≡◌, ℕ, ◌+◌, ◌<◌, ◌≤◌, ℤ, pos, List, [], ◌∷◌, ◌++◌, length, map, get_or, take, drop, refl, sym, ap, subst, ◌∙◌, arith, append_assoc, Bool, true, false}
use Rattle.std.proofs.lemmas.List.{drop_all, drop_more, take_all, drop-append-le, take-append-le, append-nil, length-append}
use Rattle.std.proofs.lemmas.List.Concat.{flat_map-cons}
use Rattle.std.specs.Prelude.{IsTrue}
use Rattle.std.specs.Int.{w16, to_be_bytes}
use Rattle.std.specs.List.{AllByRecursion}
use Rattle.mesa_columns.specs.mesa_key.declared.KeyType.{KeyType}
use Rattle.mesa_columns.specs.mesa_key.Spelling.{is_spelling}
use Rattle.mesa_columns.specs.declared.rows.Row.{Row}
use Rattle.mesa_columns.specs.Columns.{kinds_of}
use Rattle.mesa_block.specs.declared.layout.Width.{Width}
use Rattle.mesa_block.specs.Layout.{Layout, value, values_size, widths_of}
use Rattle.mesa_block.specs.Fill.{AreOver, IsBuilt, IsHeld, fit, is_full, rows_over}
use Rattle.mesa_block.specs.Rows.{IsRow, Rise}
use Rattle.mesa_block.specs.Spelling.{block, columns, key_of, value_column, value_columns}
use Rattle.mesa_block.proofs.Forms.{Passes, all_read}
use Rattle.mesa_block.proofs.Sizes.{built_more, built_none, has_room, keys_good, no_room}

pub keys_over : (n : ℕ) (keys : List (List ℕ)) (values : List ℤ) → map key_of (rows_over n keys values) ≡ keys
keys_over n [] values = refl
keys_over n (key ∷ keys) values = ap (λ (l : List (List ℕ)). key ∷ l) (keys_over n keys (drop n values))

pub count_over : (n : ℕ) (keys : List (List ℕ)) (values : List ℤ) → length (rows_over n keys values) ≡ length keys
count_over n [] values = refl
count_over n (key ∷ keys) values = omega (arith, count_over n keys (drop n values))

-- one row more
pub over_more : (n : ℕ) (keys : List (List ℕ)) (key : List ℕ) (values more : List ℤ) → AreOver n keys values → length more ≡ n → AreOver n (keys ++ key ∷ []) (values ++ more)
over_more n [] key values more h len =
    subst (λ (l : List ℤ). AreOver n (key ∷ []) (l ++ more)) (sym h) (omega (arith, len), drop_all n more (omega (arith, len)))
over_more n (k ∷ keys) key values more h len = (
  omega (arith, h.0, length-append values more),
  subst (AreOver n (keys ++ key ∷ [])) (sym (drop-append-le n values more h.0)) (over_more n keys key (drop n values) more h.1 len),
)

pub rows_more : (n : ℕ) (keys : List (List ℕ)) (key : List ℕ) (values more : List ℤ) → AreOver n keys values → length more ≡ n
    → rows_over n (keys ++ key ∷ []) (values ++ more) ≡ rows_over n keys values ++ record { key = key; values = more } ∷ []
rows_more n [] key values more h len =
    subst (λ (l : List ℤ). rows_over n (key ∷ []) (l ++ more) ≡ record { key = key; values = more } ∷ []) (sym h)
    (ap (λ (l : List ℤ). record { key = key; values = l } ∷ []) (take_all n more (omega (arith, len))))
rows_more n (k ∷ keys) key values more h len =
    ap (λ (l : List ℤ). record { key = k; values = l } ∷ rows_over n (keys ++ key ∷ []) (drop n (values ++ more))) (take-append-le n values more h.0)
    ∙ ap (λ (l : List ℤ). record { key = k; values = take n values } ∷ rows_over n (keys ++ key ∷ []) l) (drop-append-le n values more h.0)
    ∙ ap (λ (l : List Row). record { key = k; values = take n values } ∷ l) (rows_more n keys key (drop n values) more h.1 len)

-- What is left of the values are those of the last rows, and with their column what was put is the whole.
pub record Left (w : Width) (n j : ℕ) (left : List ℤ) (now whole : List ℕ) : Type 0 where
  pub keys : List (List ℕ)
  pub over : AreOver n keys left
  pub laid : now ++ value_column w (rows_over n keys left) j ≡ whole

pub left_all : (w : Width) (n j : ℕ) (keys : List (List ℕ)) (values : List ℤ) (now : List ℕ) → AreOver n keys values → Left w n j values now (now ++ value_column w (rows_over n keys values) j)
left_all w n j keys values now over = record { keys = keys; over = over; laid = refl }

put_row : (w : Width) (n j : ℕ) (keys : List (List ℕ)) (left : List ℤ) (now new whole : List ℕ) → j < n → n ≤ length left → AreOver n keys left → now ++ value_column w (rows_over n keys left) j ≡ whole
    → new ≡ now ++ value w (get_or (take n left) j (pos 0)) → Left w n j (drop n left) new whole
put_row w n j [] left now new whole lt le over laid put = absurd (omega (arith, ap length over))
put_row w n j (key ∷ keys) left now new whole lt le over laid put =
    let others = value_column w (rows_over n keys (drop n left)) j in
    let cell = value w (get_or (take n left) j (pos 0)) in
    let one : value_column w (rows_over n (key ∷ keys) left) j ≡ cell ++ others = flat_map-cons (λ (row : Row). value w (get_or row.values j (pos 0))) (record { key = key; values = take n left }) (rows_over n keys (drop n left)) in
    record {
      keys = keys;
      over = over.1;
      laid = ap (λ (l : List ℕ). l ++ others) put ∙ append_assoc now cell others ∙ ap (λ (l : List ℕ). now ++ l) (sym one) ∙ laid;
    }

pub put_one : (w : Width) (n j : ℕ) (left row others : List ℤ) (now new whole : List ℕ) → j < n → n ≤ length left → Left w n j left now whole → row ≡ take n left → others ≡ drop n left → new ≡ now ++ value w (get_or row j (pos 0)) → Left w n j others new whole
put_one w n j left row others now new whole lt le h front back put =
    subst (λ (l : List ℤ). Left w n j l new whole) (sym back) (put_row w n j h.keys left now new whole lt le h.over h.laid (put ∙ ap (λ (l : List ℤ). now ++ value w (get_or l j (pos 0))) front))

none_left : (w : Width) (n j : ℕ) (keys : List (List ℕ)) (left : List ℤ) (now whole : List ℕ) → length left < n → AreOver n keys left → now ++ value_column w (rows_over n keys left) j ≡ whole → now ≡ whole
none_left w n j [] left now whole lt over laid = sym (append-nil now) ∙ laid
none_left w n j (key ∷ keys) left now whole lt over laid = absurd (omega (arith, over.0))

pub put_all : (w : Width) (n j : ℕ) (left : List ℤ) (now whole : List ℕ) → length left < n → Left w n j left now whole → now ≡ whole
put_all w n j left now whole lt h = none_left w n j h.keys left now whole lt h.over h.laid

-- a value column more
pub columns_step : (ws : List Width) (rows : List Row) (j : ℕ) (d : Width) (now new whole : List ℕ) → j < length ws → now ++ value_columns (drop j ws) rows j ≡ whole → new ≡ now ++ value_column (get_or ws j d) rows j
    → new ++ value_columns (drop (j + 1) ws) rows (j + 1) ≡ whole
columns_step ws rows j d now new whole lt before put =
    let others = value_columns (drop (j + 1) ws) rows (j + 1) in
    ap (λ (l : List ℕ). l ++ others) put ∙ append_assoc now (value_column (get_or ws j d) rows j) others
    ∙ ap (λ (l : List Width). now ++ value_columns l rows j) (sym (drop_more ws j d lt)) ∙ before

pub columns_end : (ws : List Width) (rows : List Row) (j : ℕ) (now whole : List ℕ) → length ws ≤ j → now ++ value_columns (drop j ws) rows j ≡ whole → now ≡ whole
columns_end ws rows j now whole le before = sym (append-nil now) ∙ ap (λ (l : List Width). now ++ value_columns l rows j) (sym (drop_all j ws le)) ∙ before

-- an empty block
pub held_none : (s : Layout) (types : List KeyType) (ws : List Width) (size : ℕ) → types ≡ kinds_of s.columns → ws ≡ widths_of s → size ≡ values_size (widths_of s) → IsHeld s types ws size [] [] 3
held_none s types ws size is are n = record { kinds = is; widths = are; size = n; over = refl; built = built_none s }

pub rows_of_row : (n : ℕ) (keys others : List (List ℕ)) (values more : List ℤ) (row : Row) → AreOver n keys values → length row.values ≡ n → others ≡ keys ++ row.key ∷ [] → more ≡ values ++ row.values
    → rows_over n others more ≡ rows_over n keys values ++ row ∷ []
rows_of_row n keys others values more row over len k v =
    ap (λ (ks : List (List ℕ)). rows_over n ks more) k ∙ ap (rows_over n (keys ++ row.key ∷ [])) v ∙ rows_more n keys row.key values row.values over len

-- the test of room, by what is held
room_of : (s : Layout) (size count len : ℕ) (row : Row) (b : Bool) → size ≡ values_size (widths_of s) → is_full size count len row ≡ b → is_full (values_size (widths_of s)) count len row ≡ b
room_of s size count len row b is full = ap (λ (n : ℕ). is_full n count len row) (sym is) ∙ full

-- one row more
pub held_more : Passes → (s : Layout) (types : List KeyType) (ws : List Width) (size : ℕ) (keys others : List (List ℕ)) (values more : List ℤ) (row : Row) (len count : ℕ) → IsHeld s types ws size keys values len → IsRow s row
    → Rise (map key_of (rows_over (length s.columns.values) keys values ++ row ∷ [])) → count ≡ length keys → is_full size count len row ≡ false → others ≡ keys ++ row.key ∷ [] → more ≡ values ++ row.values
    → IsHeld s types ws size others more (len + (length row.key + size))
held_more passes s types ws size keys others values more row len count h form rise count_is room k v =
    let n = length s.columns.values in
    let has = has_room passes s (rows_over n keys values) row len count h.built form (count_is ∙ sym (count_over n keys values)) (room_of s size count len row false h.size room) in
    record {
      kinds = h.kinds;
      widths = h.widths;
      size = h.size;
      over = subst (λ (ks : List (List ℕ)). AreOver n ks more) (sym k) (subst (AreOver n (keys ++ row.key ∷ [])) (sym v) (over_more n keys row.key values row.values h.over form.form.values));
      built = subst (λ (rows : List Row). IsBuilt s rows (len + (length row.key + size))) (sym (rows_of_row n keys others values more row h.over form.form.values k v))
          (subst (λ (m : ℕ). IsBuilt s (rows_over n keys values ++ row ∷ []) (len + (length row.key + m))) (sym h.size)
          (built_more passes s (rows_over n keys values) row len (length row.key + values_size (widths_of s)) h.built form rise has.few refl has.short));
    }

pub full_not : Passes → (s : Layout) (types : List KeyType) (ws : List Width) (size : ℕ) (keys : List (List ℕ)) (values : List ℤ) (row : Row) (len count : ℕ) → IsHeld s types ws size keys values len → IsRow s row → count ≡ length keys
    → is_full size count len row ≡ true → false ≡ fit s (rows_over (length s.columns.values) keys values ++ row ∷ [])
full_not passes s types ws size keys values row len count h form count_is full =
    no_room passes s (rows_over (length s.columns.values) keys values) row len count h.built form (count_is ∙ sym (count_over (length s.columns.values) keys values)) (room_of s size count len row true h.size full)

pub room_fits : Passes → (s : Layout) (types : List KeyType) (ws : List Width) (size : ℕ) (keys : List (List ℕ)) (values : List ℤ) (row : Row) (len count : ℕ) → IsHeld s types ws size keys values len → IsRow s row → count ≡ length keys
    → is_full size count len row ≡ false → true ≡ fit s (rows_over (length s.columns.values) keys values ++ row ∷ [])
room_fits passes s types ws size keys values row len count h form count_is room =
    (has_room passes s (rows_over (length s.columns.values) keys values) row len count h.built form (count_is ∙ sym (count_over (length s.columns.values) keys values)) (room_of s size count len row false h.size room)).fits

-- the keys of what is held are keys
pub keys_held : Passes → (s : Layout) (types : List KeyType) (ws : List Width) (size : ℕ) (keys : List (List ℕ)) (values : List ℤ) (len : ℕ) → IsHeld s types ws size keys values len → AllByRecursion (λ key. IsTrue (is_spelling types key)) keys
keys_held passes s types ws size keys values len h =
    let n = length s.columns.values in
    subst (λ (ks : List KeyType). AllByRecursion (λ key. IsTrue (is_spelling ks key)) keys) (sym h.kinds)
    (subst (AllByRecursion (λ key. IsTrue (is_spelling (kinds_of s.columns) key))) (keys_over n keys values) (keys_good s (rows_over n keys values) (all_read passes s (rows_over n keys values) h.built.good)))

-- what was put is the block
pub block_held : (s : Layout) (types : List KeyType) (ws : List Width) (size : ℕ) (keys : List (List ℕ)) (values : List ℤ) (len count : ℕ) (one two three : List ℕ) → IsHeld s types ws size keys values len → count ≡ length keys
    → one ≡ 0 ∷ to_be_bytes w16 count → two ≡ one ++ columns types keys → three ≡ two ++ value_columns ws (rows_over (length s.columns.values) keys values) 0
    → three ≡ block s (rows_over (length s.columns.values) keys values)
unfolding block
block_held s types ws size keys values len count one two three h count_is a b c =
    let n = length s.columns.values in
    let rows = rows_over n keys values in
    let all = value_columns ws rows 0 in
    let number : count ≡ length rows = count_is ∙ sym (count_over n keys values) in
    c ∙ ap (λ (l : List ℕ). l ++ all) (b ∙ ap (λ (l : List ℕ). l ++ columns types keys) a)
    ∙ append_assoc (0 ∷ to_be_bytes w16 count) (columns types keys) all
    ∙ ap (λ (m : ℕ). 0 ∷ (to_be_bytes w16 m ++ (columns types keys ++ all))) number
    ∙ ap (λ (ks : List KeyType). 0 ∷ (to_be_bytes w16 (length rows) ++ (columns ks keys ++ all))) h.kinds
    ∙ ap (λ (ks : List (List ℕ)). 0 ∷ (to_be_bytes w16 (length rows) ++ (columns (kinds_of s.columns) ks ++ all))) (sym (keys_over n keys values))
    ∙ ap (λ (l : List Width). 0 ∷ (to_be_bytes w16 (length rows) ++ (columns (kinds_of s.columns) (map key_of rows) ++ value_columns l rows 0))) h.widths
