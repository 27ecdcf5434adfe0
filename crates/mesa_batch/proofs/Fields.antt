-- Fields read column by column.
use Rattle.std.proofs.Common.{◌≡◌, ℕ, ◌+◌, ◌<◌, ◌≤◌, List, [], ◌∷◌, ◌++◌, length, map, drop, take, ◌-◌, get_or, refl, sym, ◌∙◌, ap, subst, add-one, suc, append_assoc, arith, Result, Ok, Err, Option, Some, None}
use Rattle.std.proofs.Common.{inl, inr, Bool, true, false}
use Rattle.std.specs.Prelude.{ℤ, MatchOption}
use Rattle.std.specs.Option.{ok_or}
use Rattle.std.proofs.lemmas.List.{append-nil, get_or-map, get_or_default, length-map, length-drop, drop_all, take_all}
use Rattle.std.proofs.lemmas.Option.{slice_get_cases}
use Rattle.std.proofs.Math.Seq.{drop-cons}
use Rattle.mesa_list.specs.Checks.{◌>>=◌}
use Rattle.mesa_schema.specs.mesa_value.declared.Agg.{Agg}
use Rattle.mesa_schema.specs.mesa_key.declared.KeyType.{KeyType}
use Rattle.mesa_schema.specs.mesa_columns.declared.columns.KeyColumn.{KeyColumn}
use Rattle.mesa_schema.specs.mesa_columns.declared.columns.ValueColumn.{ValueColumn}
use Rattle.mesa_schema.specs.mesa_key.declared.KeyValue.{KeyValue}
use Rattle.mesa_schema.specs.mesa_key.Spelling.{value_spelling, key_spelling}
use Rattle.mesa_schema.specs.mesa_columns.Numbers.{amount_of, key_value_of}
use Rattle.mesa_schema.specs.mesa_columns.Columns.{Columns}
use Rattle.mesa_batch.specs.Batch.{key_from, row_of, values_from}
use Rattle.mesa_batch.specs.Reading.{after, spelled, IsRefusal}
use Rattle.mesa_batch.specs.declared.reading.FieldError.{FieldError}
use Rattle.mesa_batch.specs.declared.reading.FieldError.TheVariants.{Bad, Memory}

-- a list from a place on begins with what stands there
pub cut : {X : Type 0} (xs : List X) (i : ℕ) (x : X) → i < length xs → x ≡ get_or xs i x → drop i xs ≡ x ∷ drop (i + 1) xs
cut xs i x h e = rw add-one (drop-cons xs i x h ∙ ap (λ y. y ∷ drop (suc i) xs) (sym e))

-- something stands at each place of a list
pub there : {X : Type 0} (xs : List X) (i : ℕ) → i < length xs → (x : X) × (x ≡ get_or xs i x)
there xs i h = elim (slice_get_cases xs i).1 [
  | inl p ↦ (p.0, sym p.3)
  | inr q ↦ absurd (omega (arith, q.0))
]

-- a test that is true exactly where there is a value
pub tested_none : {A : Type 0} (o : Option A) (r : Bool) (P : A → Type 0) → MatchOption o (r ≡ false) (λ v. (r ≡ true) × P v) → r ≡ false → o ≡ None
tested_none None r P m e = refl
tested_none (Some v) r P m e = let t : r ≡ true = m.0 in cc

pub tested_some : {A : Type 0} (o : Option A) (r : Bool) (P : A → Type 0) → MatchOption o (r ≡ false) (λ v. (r ≡ true) × P v) → r ≡ true → (v : A) × (o ≡ Some v) × P v
tested_some None r P m e = let f : r ≡ false = m in cc
tested_some (Some v) r P m e = (v, refl, m.1)

-- the same of a mapped list
pub cut_map : {X Y : Type 0} (f : X → Y) (xs : List X) (i : ℕ) (x : X) → i < length xs → x ≡ get_or xs i x → drop i (map f xs) ≡ f x ∷ drop (i + 1) (map f xs)
cut_map f xs i x h e = cut (map f xs) i (f x) (subst (λ n. i < n) (sym (length-map xs f)) h) (sym (get_or-map f xs i x (f x) h ∙ ap f (sym e)))

-- two results after each other
pub after-after : {A : Type 0} (a b : List A) (r : Result (List A) ℕ) → after a (after b r) ≡ after (a ++ b) r
after-after a b (Ok more) = ap Ok (sym (append_assoc a b more))
after-after a b (Err c) = refl

pub after-nil : {A : Type 0} (r : Result (List A) ℕ) → after [] r ≡ r
after-nil (Ok more) = refl
after-nil (Err c) = refl

-- ---- keys

-- a field that is no value is the first bad one
pub key_stops : (kind : KeyType) (kinds : List KeyType) (field : List ℕ) (fields : List (List ℕ)) (c : ℕ) → key_value_of kind field ≡ None → key_from c (kind ∷ kinds) (field ∷ fields) ≡ Err c
key_stops kind kinds field fields c e = ap (λ o. ok_or o c >>= (λ value. key_from (c + 1) kinds fields >>= (λ values. Ok (value ∷ values)))) e

spelled_cons : (value : KeyValue) (r : Result (List KeyValue) ℕ) → spelled (r >>= (λ values. Ok (value ∷ values))) ≡ after (value_spelling value) (spelled r)
spelled_cons value (Ok values) = refl
spelled_cons value (Err c) = refl

-- and one that is a value is spelled before the others
pub key_goes_on : (kind : KeyType) (kinds : List KeyType) (field : List ℕ) (fields : List (List ℕ)) (c : ℕ) (value : KeyValue) → key_value_of kind field ≡ Some value
    → spelled (key_from c (kind ∷ kinds) (field ∷ fields)) ≡ after (value_spelling value) (spelled (key_from (c + 1) kinds fields))
key_goes_on kind kinds field fields c value e =
    ap (λ o. spelled (ok_or o c >>= (λ value. key_from (c + 1) kinds fields >>= (λ values. Ok (value ∷ values))))) e ∙ spelled_cons value (key_from (c + 1) kinds fields)

-- no key, no spelling
pub not_spelled : (r : Result (List KeyValue) ℕ) (c : ℕ) → spelled r ≡ Err c → r ≡ Err c
not_spelled (Ok values) c e = cc
not_spelled (Err d) c e = cc

-- ---- values

pub values_stop : (a : Agg) (aggs : List Agg) (field : List ℕ) (fields : List (List ℕ)) (c : ℕ) → amount_of a field ≡ None → values_from c (a ∷ aggs) (field ∷ fields) ≡ Err c
values_stop a aggs field fields c e = ap (λ o. ok_or o c >>= (λ value. values_from (c + 1) aggs fields >>= (λ values. Ok (value ∷ values)))) e

read_cons : (value : ℤ) (r : Result (List ℤ) ℕ) → (r >>= (λ values. Ok (value ∷ values))) ≡ after (value ∷ []) r
read_cons value (Ok values) = refl
read_cons value (Err c) = refl

pub values_go_on : (a : Agg) (aggs : List Agg) (field : List ℕ) (fields : List (List ℕ)) (c : ℕ) (value : ℤ) → amount_of a field ≡ Some value
    → values_from c (a ∷ aggs) (field ∷ fields) ≡ after (value ∷ []) (values_from (c + 1) aggs fields)
values_go_on a aggs field fields c value e =
    ap (λ o. ok_or o c >>= (λ value. values_from (c + 1) aggs fields >>= (λ values. Ok (value ∷ values)))) e ∙ read_cons value (values_from (c + 1) aggs fields)

-- ---- one column of a table more

abbrev kinds : List KeyColumn → List KeyType
kinds columns = map (λ (c : KeyColumn). c.kind) columns

abbrev aggs : List ValueColumn → List Agg
aggs columns = map (λ (c : ValueColumn). c.agg) columns

-- the columns before place i are spelled so, and the others come after them
abbrev pub IsSpelled : List KeyColumn → List (List ℕ) → ℕ → List ℕ → Type 0
IsSpelled columns fields i bytes = spelled (key_from 1 (kinds columns) fields) ≡ after bytes (spelled (key_from (i + 1) (drop i (kinds columns)) (drop i fields)))

-- the same of values; the first column has this number
abbrev pub AreRead : List ValueColumn → List (List ℕ) → ℕ → ℕ → List ℤ → Type 0
AreRead columns fields first i values = values_from first (aggs columns) fields ≡ after values (values_from (first + i) (drop i (aggs columns)) (drop i fields))

pub key_missing : (columns : List KeyColumn) (fields : List (List ℕ)) (i : ℕ) (column : KeyColumn) (bytes : List ℕ) → i < length columns → column ≡ get_or columns i column → length fields ≤ i
    → IsSpelled columns fields i bytes → key_from 1 (kinds columns) fields ≡ Err (i + 1)
key_missing columns fields i column bytes h e past kept =
    not_spelled _ _ (kept ∙ λ j. after bytes (spelled (key_from (i + 1) (cut_map (λ (c : KeyColumn). c.kind) columns i column h e j) (drop_all i fields past j))))

pub key_bad : (columns : List KeyColumn) (fields : List (List ℕ)) (i : ℕ) (column : KeyColumn) (field bytes : List ℕ) → i < length columns → column ≡ get_or columns i column → i < length fields → field ≡ get_or fields i field
    → key_value_of column.kind field ≡ None → IsSpelled columns fields i bytes → key_from 1 (kinds columns) fields ≡ Err (i + 1)
key_bad columns fields i column field bytes h e within at none kept =
    not_spelled _ _ (kept
    ∙ (λ j. after bytes (spelled (key_from (i + 1) (cut_map (λ (c : KeyColumn). c.kind) columns i column h e j) (cut fields i field within at j))))
    ∙ ap (λ r. after bytes (spelled r)) (key_stops column.kind (drop (i + 1) (kinds columns)) field (drop (i + 1) fields) (i + 1) none))

pub key_next : (columns : List KeyColumn) (fields : List (List ℕ)) (i : ℕ) (column : KeyColumn) (field bytes : List ℕ) (value : KeyValue) → i < length columns → column ≡ get_or columns i column → i < length fields → field ≡ get_or fields i field
    → key_value_of column.kind field ≡ Some value → IsSpelled columns fields i bytes → IsSpelled columns fields (i + 1) (bytes ++ value_spelling value)
key_next columns fields i column field bytes value h e within at some kept =
    kept
    ∙ (λ j. after bytes (spelled (key_from (i + 1) (cut_map (λ (c : KeyColumn). c.kind) columns i column h e j) (cut fields i field within at j))))
    ∙ ap (after bytes) (key_goes_on column.kind (drop (i + 1) (kinds columns)) field (drop (i + 1) fields) (i + 1) value some)
    ∙ after-after bytes (value_spelling value) _

pub value_missing : (columns : List ValueColumn) (fields : List (List ℕ)) (first i : ℕ) (values : List ℤ) → i < length columns → length fields ≤ i
    → AreRead columns fields first i values → values_from first (aggs columns) fields ≡ Err (first + i)
value_missing columns fields first i values h past kept =
    let (column, e) = there columns i h in
    kept ∙ λ j. after values (values_from (first + i) (cut_map (λ (c : ValueColumn). c.agg) columns i column h e j) (drop_all i fields past j))

pub value_bad : (columns : List ValueColumn) (fields : List (List ℕ)) (first i : ℕ) (column : ValueColumn) (field : List ℕ) (values : List ℤ) → i < length columns → column ≡ get_or columns i column → i < length fields → field ≡ get_or fields i field
    → amount_of column.agg field ≡ None → AreRead columns fields first i values → values_from first (aggs columns) fields ≡ Err (first + i)
value_bad columns fields first i column field values h e within at none kept =
    kept
    ∙ (λ j. after values (values_from (first + i) (cut_map (λ (c : ValueColumn). c.agg) columns i column h e j) (cut fields i field within at j)))
    ∙ ap (after values) (values_stop column.agg (drop (i + 1) (aggs columns)) field (drop (i + 1) fields) (first + i) none)

pub value_next : (columns : List ValueColumn) (fields : List (List ℕ)) (first i : ℕ) (column : ValueColumn) (field : List ℕ) (values : List ℤ) (value : ℤ) → i < length columns → column ≡ get_or columns i column → i < length fields → field ≡ get_or fields i field
    → amount_of column.agg field ≡ Some value → AreRead columns fields first i values → AreRead columns fields first (i + 1) (values ++ value ∷ [])
value_next columns fields first i column field values value h e within at some kept =
    kept
    ∙ (λ j. after values (values_from (first + i) (cut_map (λ (c : ValueColumn). c.agg) columns i column h e j) (cut fields i field within at j)))
    ∙ ap (after values) (values_go_on column.agg (drop (i + 1) (aggs columns)) field (drop (i + 1) fields) (first + i) value some)
    ∙ after-after values (value ∷ []) _
    ∙ ap (λ c. after (values ++ value ∷ []) (values_from c (drop (i + 1) (aggs columns)) (drop (i + 1) fields))) (omega arith)

-- fields that are left over
pub values_left : (columns : List ValueColumn) (fields : List (List ℕ)) (first i : ℕ) (values : List ℤ) → length columns ≤ i → length columns < length fields → i ≤ length columns → AreRead columns fields first i values
    → values_from first (aggs columns) fields ≡ Err (first + length columns)
values_left columns fields first i values h more k kept =
    let here : i ≡ length columns = omega arith in
    let none : drop i (aggs columns) ≡ [] = drop_all i (aggs columns) (subst (λ n. n ≤ i) (sym (length-map columns (λ (c : ValueColumn). c.agg))) h) in
    let within : i < length fields = omega arith in
    kept ∙ (λ j. after values (values_from (first + i) (none j) (cut fields i (get_or fields i []) within (get_or_default fields i [] (get_or fields i []) within) j))) ∙ ap (λ n. Err (first + n)) here

-- and where none are, all values are read
pub values_done : (columns : List ValueColumn) (fields : List (List ℕ)) (first i : ℕ) (values : List ℤ) → length columns ≤ i → i ≤ length columns → length fields ≤ length columns → AreRead columns fields first i values
    → values_from first (aggs columns) fields ≡ Ok values
values_done columns fields first i values h k few kept =
    let none : drop i (aggs columns) ≡ [] = drop_all i (aggs columns) (subst (λ n. n ≤ i) (sym (length-map columns (λ (c : ValueColumn). c.agg))) h) in
    let past : length fields ≤ i = omega arith in
    kept ∙ (λ j. after values (values_from (first + i) (none j) (drop_all i fields past j))) ∙ ap Ok (append-nil values)

-- ---- a row

-- the others behind the first n, as a slice has them
pub others : {X : Type 0} (n : ℕ) (xs : List X) → take (length xs - n) (drop n xs) ≡ drop n xs
others n xs = take_all (length xs - n) (drop n xs) (omega (arith, length-drop n xs))

-- what a key's refusal says of the row
pub row_key_refused : (s : Columns) (fields : List (List ℕ)) (e : FieldError) → IsRefusal (key_from 1 (kinds s.keys) fields) e → IsRefusal (row_of s fields) e
row_key_refused s fields (Bad c) h = rw h refl
row_key_refused s fields Memory h = tt

spelled_key : (r : Result (List KeyValue) ℕ) (bytes : List ℕ) → spelled r ≡ Ok bytes → (key : List KeyValue) × (r ≡ Ok key) × (key_spelling key ≡ bytes)
spelled_key (Ok key) bytes e = (key, refl, (cc))
spelled_key (Err c) bytes e = absurd (cc)

-- and what its values' refusal says of it
pub row_values_refused : (s : Columns) (fields : List (List ℕ)) (bytes : List ℕ) (e : FieldError) → spelled (key_from 1 (kinds s.keys) fields) ≡ Ok bytes
    → IsRefusal (values_from (length s.keys + 1) (aggs s.values) (drop (length s.keys) fields)) e → IsRefusal (row_of s fields) e
row_values_refused s fields bytes (Bad c) k h = let key = spelled_key _ bytes k in rw (key.1, h) refl
row_values_refused s fields bytes Memory k h = tt

-- a key and values make a row
pub row_read : (s : Columns) (fields : List (List ℕ)) (bytes : List ℕ) (values : List ℤ) → spelled (key_from 1 (kinds s.keys) fields) ≡ Ok bytes
    → values_from (length s.keys + 1) (aggs s.values) (drop (length s.keys) fields) ≡ Ok values → row_of s fields ≡ Ok (record { key = bytes; values = values })
row_read s fields bytes values k h = let key = spelled_key _ bytes k in rw (key.1, h, key.2) refl
