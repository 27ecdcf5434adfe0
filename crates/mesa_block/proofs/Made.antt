-- Rows that are made of columns, their keys and their values in two lists.
use Rattle.std.proofs.Common.{◌≡◌, ℕ, zero, suc, ◌+◌, ◌-◌, ◌*◌, ◌^◌, ◌<◌, ◌≤◌, ℤ, List, [], ◌∷◌, ◌++◌, length, map, take, drop, get_or, true, false, refl, sym, ap, subst, ◌∙◌, arith, cond}
use Rattle.std.specs.Prelude.{Option, Some, None, slice_get}
use Rattle.std.proofs.lemmas.List.{length-append, length-map, length-drop, drop-drop}
use Rattle.mesa_list.specs.Pieces.{Rise as EndsRise, last_end, pieces}
use Rattle.mesa_list.proofs.Pieces.{last_end_push, pieces_push, rise_push}
use Rattle.mesa_columns.specs.mesa_key.declared.KeyType.{KeyType}
use Rattle.mesa_columns.specs.mesa_key.Order.{byte_cmp}
use Rattle.mesa_columns.specs.declared.rows.Row.{Row}
use Rattle.mesa_block.specs.declared.layout.Width.{Width}
use Rattle.mesa_block.specs.Fill.{AreOver, rows_over}
use Rattle.mesa_block.specs.Reading.{is_less, key_at, out_of_order, rows_of, values_at}
use Rattle.mesa_block.specs.Spelling.{key_of}
use Rattle.std.proofs.lemmas.Option.{get_or_from_slice_get, slice_get-get_or}
use Rattle.mesa_block.proofs.Held.{count_over, over_more, rows_more as rows_over_more}
use Rattle.mesa_block.proofs.Rows.{rows_more}

-- how many values a row has
pub values_by_widths : (ws : List Width) (columns : List (List (List ℕ))) (i : ℕ) → length ws < length columns → length (values_at ws columns i) ≡ length ws
values_by_widths [] columns i lt = refl
values_by_widths (w ∷ ws) [] i lt = absurd (omega (arith, lt))
values_by_widths (w ∷ ws) (column ∷ columns) i lt = ap suc (values_by_widths ws columns i (omega (arith, lt)))

pub values_by_columns : (ws : List Width) (columns : List (List (List ℕ))) (i : ℕ) → length columns ≤ length ws → length (values_at ws columns i) ≡ length columns
values_by_columns [] [] i le = refl
values_by_columns [] (column ∷ columns) i le = absurd (omega (arith, le))
values_by_columns (w ∷ ws) [] i le = refl
values_by_columns (w ∷ ws) (column ∷ columns) i le = ap suc (values_by_columns ws columns i (omega (arith, le)))

-- What two lists have are the rows of the columns up to the row i, of n values each.
pub record IsMade (n : ℕ) (kinds : List KeyType) (ws : List Width) (keys values : List (List (List ℕ))) (i : ℕ) (found : List (List ℕ)) (numbers : List ℤ) : Type 0 where
  pub over : AreOver n found numbers
  pub rows : rows_over n found numbers ≡ rows_of kinds ws keys values i

pub made_none : (n : ℕ) (kinds : List KeyType) (ws : List Width) (keys values : List (List (List ℕ))) → IsMade n kinds ws keys values 0 [] []
made_none n kinds ws keys values = record { over = refl; rows = refl }

pub made_more : (n : ℕ) (kinds : List KeyType) (ws : List Width) (keys values : List (List (List ℕ))) (i : ℕ) (found new : List (List ℕ)) (numbers more : List ℤ) (key : List ℕ) → IsMade n kinds ws keys values i found numbers
    → ((i : ℕ) → length (values_at ws values i) ≡ n) → key ≡ key_at kinds keys i → new ≡ found ++ key ∷ [] → more ≡ numbers ++ values_at ws values i → IsMade n kinds ws keys values (i + 1) new more
made_more n kinds ws keys values i found new numbers more key h size k put add =
    let count : length (values_at ws values i) ≡ n = size i in
    let over : AreOver n (found ++ key ∷ []) (numbers ++ values_at ws values i) = over_more n found key numbers (values_at ws values i) h.over count in
    let one : rows_over n (found ++ key ∷ []) (numbers ++ values_at ws values i) ≡ rows_of kinds ws keys values (i + 1) =
    rows_over_more n found key numbers (values_at ws values i) h.over count
    ∙ ap (λ (l : List Row). l ++ record { key = key; values = values_at ws values i } ∷ []) h.rows
    ∙ ap (λ (x : List ℕ). rows_of kinds ws keys values i ++ record { key = x; values = values_at ws values i } ∷ []) k
    ∙ sym (rows_more kinds ws keys values i) in
    subst (λ (l : List (List ℕ)). IsMade n kinds ws keys values (i + 1) l more) (sym put) (subst (IsMade n kinds ws keys values (i + 1) (found ++ key ∷ [])) (sym add) (record { over = over; rows = one }))

-- the order of keys by themselves
abbrev pub disordered_in : List (List ℕ) → ℕ → Option ℕ
disordered_in [] i = None
disordered_in (a ∷ []) i = None
disordered_in (a ∷ b ∷ keys) i = cond (is_less (byte_cmp a b)) (disordered_in (b ∷ keys) (i + 1)) (Some (i + 1))

pub by_keys : (rows : List Row) (i : ℕ) → out_of_order rows i ≡ disordered_in (map key_of rows) i
unfolding out_of_order
by_keys [] i = refl
by_keys (a ∷ []) i = refl
by_keys (a ∷ b ∷ rows) i = ap (λ (o : Option ℕ). cond (is_less (byte_cmp a.key b.key)) o (Some (i + 1))) (by_keys (b ∷ rows) (i + 1))

-- how many values lie before those of the row i
pub over_room : (n i : ℕ) (keys : List (List ℕ)) (values : List ℤ) → AreOver n keys values → i < length keys → i * n + n ≤ length values
over_room n i [] values over lt = absurd (omega (arith, lt))
over_room n zero (key ∷ keys) values over lt = omega (arith, over.0)
over_room n (suc i) (key ∷ keys) values over lt = omega (arith, over.0, over_room n i keys (drop n values) over.1 (omega (arith, lt)), length-drop n values)

none_before : (n : ℕ) → 0 ≡ 0 * n
none_before n = omega arith

after_more : (i n : ℕ) → n + i * n ≡ suc i * n
after_more i n = omega arith

pub row_over : (n i : ℕ) (keys : List (List ℕ)) (values : List ℤ) (d : List ℕ) → AreOver n keys values → i < length keys
    → slice_get (rows_over n keys values) i ≡ Some (record { key = get_or keys i d; values = take n (drop (i * n) values) })
row_over n i [] values d over lt = absurd (omega (arith, lt))
row_over n zero (key ∷ keys) values d over lt = ap (λ (m : ℕ). Some (record { key = key; values = take n (drop m values) })) (none_before n)
row_over n (suc i) (key ∷ keys) values d over lt =
    row_over n i keys (drop n values) d over.1 (omega (arith, lt))
    ∙ ap (λ (l : List ℤ). Some (record { key = get_or keys i d; values = take n l })) (drop-drop (i * n) n values ∙ ap (λ (m : ℕ). drop m values) (after_more i n))

-- no key is left
pub order_done : (rows : List Row) → map key_of rows ≡ [] → None ≡ out_of_order rows 0
order_done rows none = sym (by_keys rows 0 ∙ ap (λ (keys : List (List ℕ)). disordered_in keys 0) none)

-- what is known of the order while the keys are looked at
abbrev pub IsOrdered : List Row → List ℕ → List (List ℕ) → Type 0
IsOrdered rows before left = (length left < length rows) × (out_of_order rows 0 ≡ disordered_in (before ∷ left) (length rows - length left - 1))

pub order_begins : (rows : List Row) (before : List ℕ) (left : List (List ℕ)) → map key_of rows ≡ before ∷ left → IsOrdered rows before left
order_begins rows before left is =
    let count : length rows ≡ suc (length left) = sym (length-map rows key_of) ∙ ap length is in
    (omega (arith, count), by_keys rows 0 ∙ ap (λ (keys : List (List ℕ)). disordered_in keys 0) is ∙ ap (disordered_in (before ∷ left)) (omega (arith, count)))

pub order_goes_on : (rows : List Row) (before key : List ℕ) (left others : List (List ℕ)) → IsOrdered rows before left → left ≡ key ∷ others → true ≡ is_less (byte_cmp before key) → IsOrdered rows key others
order_goes_on rows before key left others h is less =
    let count : length left ≡ suc (length others) = ap length is in
    let n = length rows - length left - 1 in
    let next : n + 1 ≡ length rows - length others - 1 = omega (arith, count, h.0) in (
      omega (arith, count, h.0),
      h.1 ∙ ap (λ (keys : List (List ℕ)). disordered_in (before ∷ keys) n) is
          ∙ ap (λ b. cond b (disordered_in (key ∷ others) (n + 1)) (Some (n + 1))) (sym less) ∙ ap (disordered_in (key ∷ others)) next,
    )

pub order_stops : (rows : List Row) (before key : List ℕ) (left others : List (List ℕ)) → IsOrdered rows before left → left ≡ key ∷ others → false ≡ is_less (byte_cmp before key) → Some (length rows - length others - 1) ≡ out_of_order rows 0
order_stops rows before key left others h is less =
    let count : length left ≡ suc (length others) = ap length is in
    let n = length rows - length left - 1 in
    let next : n + 1 ≡ length rows - length others - 1 = omega (arith, count, h.0) in
    sym (h.1 ∙ ap (λ (keys : List (List ℕ)). disordered_in (before ∷ keys) n) is
    ∙ ap (λ b. cond b (disordered_in (key ∷ others) (n + 1)) (Some (n + 1))) (sym less) ∙ ap (λ (m : ℕ). Some m) next)

pub order_ends : (rows : List Row) (before : List ℕ) (left : List (List ℕ)) → IsOrdered rows before left → left ≡ [] → None ≡ out_of_order rows 0
order_ends rows before left h none = sym (h.1 ∙ ap (λ (keys : List (List ℕ)). disordered_in (before ∷ keys) (length rows - length left - 1)) none)

-- a place among rows is one among their keys
pub within_keys : (n i : ℕ) (keys : List (List ℕ)) (values : List ℤ) (rows : List Row) → rows_over n keys values ≡ rows → i < length rows → i < length keys
within_keys n i keys values rows is lt = omega (arith, lt, ap length is, count_over n keys values)

pub row_there : (n i : ℕ) (keys : List (List ℕ)) (values part : List ℤ) (rows : List Row) (key : List ℕ) → rows_over n keys values ≡ rows → AreOver n keys values → i < length rows → Some key ≡ slice_get keys i
    → part ≡ take n (drop (i * n) values) → slice_get rows i ≡ Some (record { key = key; values = part })
row_there n i keys values part rows key is over lt at cut =
    let within = within_keys n i keys values rows is lt in
    ap (λ (rs : List Row). slice_get rs i) (sym is) ∙ row_over n i keys values key over within
    ∙ ap (λ (k : List ℕ). Some (record { key = k; values = take n (drop (i * n) values) })) (get_or_from_slice_get keys i key key (sym at))
    ∙ ap (λ (l : List ℤ). Some (record { key = key; values = l })) (sym cut)

pub not_none : (keys : List (List ℕ)) (i : ℕ) → i < length keys → None ≡ slice_get keys i → ⊥
not_none keys i lt none = let there = slice_get-get_or keys i [] lt in let both : None ≡ Some (get_or keys i []) = none ∙ there in cc

-- What stands in three lists are the rows of the columns up to the row i: the bytes of their keys, where each key ends, and their values, so many each.
pub record IsLaid (n : ℕ) (kinds : List KeyType) (ws : List Width) (keys values : List (List (List ℕ))) (i : ℕ) (bytes ends : List ℕ) (numbers : List ℤ) : Type 0 where
  pub rise : EndsRise 0 ends
  pub last : last_end 0 ends ≡ length bytes
  pub few : length bytes < 2 ^ 32
  pub made : IsMade n kinds ws keys values i (pieces bytes 0 ends) numbers

pub laid_more : (n : ℕ) (kinds : List KeyType) (ws : List Width) (keys values : List (List (List ℕ))) (i : ℕ) (bytes new ends more : List ℕ) (end : ℕ) (numbers found : List ℤ) → IsLaid n kinds ws keys values i bytes ends numbers
    → ((i : ℕ) → length (values_at ws values i) ≡ n) → new ≡ bytes ++ key_at kinds keys i → (end ≡ length new) × (length new < 2 ^ 32) → more ≡ ends ++ end ∷ [] → found ≡ numbers ++ values_at ws values i
    → IsLaid n kinds ws keys values (i + 1) new more found
laid_more n kinds ws keys values i bytes new ends more end numbers found h size put is add values_put =
    let key = key_at kinds keys i in
    let long : end ≡ length bytes + length key = omega (arith, is.0, ap length put, length-append bytes key) in
    let one : pieces new 0 more ≡ pieces bytes 0 ends ++ key ∷ [] = (λ j. pieces (put j) 0 (add j)) ∙ pieces_push bytes key 0 ends end h.rise h.last long in
    record {
      rise = subst (EndsRise 0) (sym add) (rise_push 0 ends end h.rise (omega (arith, h.last, long)));
      last = ap (last_end 0) add ∙ last_end_push 0 ends end ∙ is.0;
      few = is.1;
      made = made_more n kinds ws keys values i (pieces bytes 0 ends) (pieces new 0 more) numbers found key h.made size refl one values_put;
    }
