-- Columns, changes and counted lists, both ways.
use Rattle.std.proofs.Common.{◌≡◌, ◌⊎◌, inl, inr, ℕ, ◌+◌, ◌<◌, ◌^◌, List, [], ◌∷◌, ◌++◌, length, refl, sym, ap, subst, ◌∙◌, append_assoc, Bool, true, false, Ok, Option, Some}
use Rattle.std.specs.Prelude.{IsTrue, ◌==◌, flat_map, if◌then◌else◌}
use Rattle.std.specs.List.{AllByRecursion}
use Rattle.std.proofs.lemmas.Bool.{eqb-true}
use Rattle.mesa_columns.specs.mesa_list.Checks.{◌>>=◌}
use Rattle.mesa_columns.specs.mesa_value.declared.Agg.{Agg}
use Rattle.mesa_columns.specs.mesa_value.declared.Agg.TheVariants as agg
use Rattle.mesa_columns.specs.mesa_value.Agg.{IsNarrow}
use Rattle.mesa_file.specs.mesa_key.declared.KeyType.{KeyType}
use Rattle.mesa_file.specs.mesa_key.declared.KeyType.TheVariants as kind
use Rattle.mesa_file.specs.mesa_key.declared.KeyValue.{KeyValue}
use Rattle.mesa_file.specs.mesa_key.declared.KeyValue.TheVariants as value
use Rattle.mesa_file.specs.mesa_key.Text.{is_key_text}
use Rattle.mesa_columns.specs.declared.columns.KeyColumn.{KeyColumn}
use Rattle.mesa_columns.specs.declared.columns.ValueColumn.{ValueColumn}
use Rattle.mesa_columns.specs.declared.changes.Change.{Change}
use Rattle.mesa_columns.specs.declared.changes.Change.TheVariants.{AddValue, DropValue, AddKey}
use Rattle.mesa_columns.specs.Changes.{is_of_kind}
use Rattle.mesa_columns.specs.Names.{is_name}
use Rattle.mesa_columns.specs.Codes.{agg_byte, agg_of, kind_byte, kind_of}
use Rattle.mesa_record_fields.specs.Reading.{Left, Read, add_key_at, add_value_at, amount_at, byte_at, change_at, drop_value_at, flag_of, key_column_at, key_columns_at, key_default_at, many, meaning, name_at, names_at, ruled, text_at, value_column_at, value_columns_at}
use Rattle.mesa_record_fields.specs.Rules.{IsKeyValue, IsNamed, IsTypedChange, is_change, is_count_of_columns}
use Rattle.mesa_record_fields.specs.Spelling.{amount, change, counted, flag, key_column, key_default, text, value_column}
use Rattle.mesa_record_fields.proofs.Both.{Again, Begins, Found, InOrder, begins_two, here, list_again, list_found, of_ok, step_of}
use Rattle.mesa_record_fields.proofs.Numbers.{amount_again, amount_found, byte_again, byte_found, one}
use Rattle.mesa_record_fields.proofs.Texts.{meaning_again, meaning_found, ruled_again, ruled_found, text_again, text_found}

-- ---- two fields that make one thing; how the second is read may hang on the first

pub two_again : {A B C : Type 0} (read : Left → Read A) (next : A → Left → Read B) (make : A → B → C) (a_bytes b_bytes : List ℕ) (a : A) (b : B)
    → Again read a_bytes a → Again (next a) b_bytes b → Again (λ l. read l >>= λ x. next x.0 x.1 >>= λ y. Ok (make x.0 y.0, y.1)) (a_bytes ++ b_bytes) (make a b)
two_again read next make a_bytes b_bytes a b first second at more =
    let p = first at (b_bytes ++ more) in
    let q = second p.0 more in
    (q.0, ap (λ bytes. read (here at bytes) >>= λ x. next x.0 x.1 >>= λ y. Ok (make x.0 y.0, y.1)) (append_assoc a_bytes b_bytes more) ∙ rw (p.1, q.1) refl)

pub two_found : {A B C : Type 0} (read : Left → Read A) (next : A → Left → Read B) (make : A → B → C) (IsA : A → Type 0) (IsB : A → B → Type 0) (Is : C → Type 0)
    (spell_a : A → List ℕ) (spell_b : B → List ℕ) (spell : C → List ℕ)
    → Found read spell_a IsA → ((a : A) → Found (next a) spell_b (IsB a))
    → ((a : A) (b : B) → IsA a → IsB a b → Is (make a b) × (spell (make a b) ≡ spell_a a ++ spell_b b))
    → Found (λ l. read l >>= λ x. next x.0 x.1 >>= λ y. Ok (make x.0 y.0, y.1)) spell Is
two_found {C = C} read next make IsA IsB Is spell_a spell_b spell first second made l after c bytes h =
    let s = step_of (read l) _ _ h in
    let f = first l s.0.1 s.0.0 bytes s.1 in
    let t = step_of (next s.0.0 s.0.1) _ _ s.2 in
    let g = second s.0.0 s.0.1 t.0.1 t.0.0 f.1.rest t.1 in
    let is = made s.0.0 t.0.0 f.0 g.0 in
    let begins = begins_two l s.0.1 t.0.1 (spell_a s.0.0) (spell_b t.0.0) f.1 g.1 in
    subst (λ (p : C × Left). Is p.0 × Begins l (spell p.0) p.1) (of_ok _ (make s.0.0 t.0.0, t.0.1) (c, after) refl t.2)
    (is.0, subst (λ bs. Begins l bs t.0.1) (sym is.1) begins)

-- ---- a field that makes a thing by itself

pub made_again : {A C : Type 0} (read : Left → Read A) (make : A → C) (bytes : List ℕ) (a : A) → Again read bytes a → Again (λ l. read l >>= λ x. Ok (make x.0, x.1)) bytes (make a)
made_again read make bytes a again at more = let p = again at more in (p.0, rw p.1 refl)

pub made_found : {A C : Type 0} (read : Left → Read A) (make : A → C) (IsA : A → Type 0) (Is : C → Type 0) (spell_a : A → List ℕ) (spell : C → List ℕ)
    → Found read spell_a IsA → ((a : A) → IsA a → Is (make a) × (spell (make a) ≡ spell_a a)) → Found (λ l. read l >>= λ x. Ok (make x.0, x.1)) spell Is
made_found {C = C} read make IsA Is spell_a spell found made l after c bytes h =
    let s = step_of (read l) _ _ h in
    let f = found l s.0.1 s.0.0 bytes s.1 in
    let is = made s.0.0 f.0 in
    subst (λ (p : C × Left). Is p.0 × Begins l (spell p.0) p.1) (of_ok _ (make s.0.0, s.0.1) (c, after) refl s.2)
    (is.0, subst (λ bs. Begins l bs s.0.1) (sym is.1) f.1)

-- ---- names and columns

pub name_again : (name : List ℕ) → IsNamed name → Again name_at (text name) name
name_again name h = ruled_again is_name text_at (text name) name h (text_again name)

pub name_found : Found name_at text IsNamed
name_found l after name bytes h = let f = ruled_found is_name text_at text (λ t. Unit {0}) text_found l after name bytes h in (f.0.1, f.1)

kind_again : (k : KeyType) → kind_of (kind_byte k) ≡ Some k
kind_again kind.Int = refl
kind_again kind.Text = refl

agg_again : (a : Agg) → agg_of (agg_byte a) ≡ Some a
agg_again agg.Sum = refl
agg_again agg.Min = refl
agg_again agg.Max = refl
agg_again agg.Replace = refl

-- the first of two tests that gives something
pub first_of_two : {A : Type 0} (test : Bool) (x y : A) (others : Option A) → if◌then◌else◌ {A = Option A} test (Some x) others ≡ Some y → ((test ≡ true) × (x ≡ y)) ⊎ (others ≡ Some y)
first_of_two true x y others h = inl (refl, cc)
first_of_two false x y others h = inr h

kind_of_byte : (b : ℕ) (k : KeyType) → kind_of b ≡ Some k → kind_byte k ≡ b
kind_of_byte b k h = elim (first_of_two (b == 0) kind.Int k _ h) [
  | inl is ↦ ap kind_byte (sym is.1) ∙ sym (eqb-true b 0 is.0)
  | inr h1 ↦ elim (first_of_two (b == 1) kind.Text k _ h1) [
    | inl is ↦ ap kind_byte (sym is.1) ∙ sym (eqb-true b 1 is.0)
    | inr h2 ↦ absurd cc
  ]
]

agg_of_byte : (b : ℕ) (a : Agg) → agg_of b ≡ Some a → agg_byte a ≡ b
agg_of_byte b a h = elim (first_of_two (b == 0) agg.Sum a _ h) [
  | inl is ↦ ap agg_byte (sym is.1) ∙ sym (eqb-true b 0 is.0)
  | inr h1 ↦ elim (first_of_two (b == 1) agg.Min a _ h1) [
    | inl is ↦ ap agg_byte (sym is.1) ∙ sym (eqb-true b 1 is.0)
    | inr h2 ↦ elim (first_of_two (b == 2) agg.Max a _ h2) [
      | inl is ↦ ap agg_byte (sym is.1) ∙ sym (eqb-true b 2 is.0)
      | inr h3 ↦ elim (first_of_two (b == 3) agg.Replace a _ h3) [
        | inl is ↦ ap agg_byte (sym is.1) ∙ sym (eqb-true b 3 is.0)
        | inr h4 ↦ absurd cc
      ]
    ]
  ]
]

pub flag_again : (f : Bool) → flag_of (flag f) ≡ Some f
flag_again false = refl
flag_again true = refl

pub flag_of_byte : (b : ℕ) (f : Bool) → flag_of b ≡ Some f → flag f ≡ b
flag_of_byte b f h = elim (first_of_two (b == 0) false f _ h) [
  | inl is ↦ ap flag (sym is.1) ∙ sym (eqb-true b 0 is.0)
  | inr h1 ↦ elim (first_of_two (b == 1) true f _ h1) [
    | inl is ↦ ap flag (sym is.1) ∙ sym (eqb-true b 1 is.0)
    | inr h2 ↦ absurd cc
  ]
]

pub key_column_again : (c : KeyColumn) → IsNamed c.name → Again key_column_at (key_column c) c
key_column_again c h = two_again name_at (λ name. meaning kind_of) (λ name k. record { name = name; kind = k }) (text c.name) (one (kind_byte c.kind)) c.name c.kind (name_again c.name h) (meaning_again kind_of (kind_byte c.kind) c.kind (kind_again c.kind))

pub key_column_found : Found key_column_at key_column (λ (c : KeyColumn). IsNamed c.name)
key_column_found = two_found name_at (λ name. meaning kind_of) (λ name k. record { name = name; kind = k }) IsNamed (λ name k. Unit {0}) (λ (c : KeyColumn). IsNamed c.name) text (λ k. one (kind_byte k)) key_column
    name_found (λ name. meaning_found kind_of kind_byte kind_of_byte) (λ name k named any. (named, refl))

pub value_column_again : (c : ValueColumn) → IsNamed c.name → Again value_column_at (value_column c) c
value_column_again c h = two_again name_at (λ name. meaning agg_of) (λ name a. record { name = name; agg = a }) (text c.name) (one (agg_byte c.agg)) c.name c.agg (name_again c.name h) (meaning_again agg_of (agg_byte c.agg) c.agg (agg_again c.agg))

pub value_column_found : Found value_column_at value_column (λ (c : ValueColumn). IsNamed c.name)
value_column_found = two_found name_at (λ name. meaning agg_of) (λ name a. record { name = name; agg = a }) IsNamed (λ name a. Unit {0}) (λ (c : ValueColumn). IsNamed c.name) text (λ a. one (agg_byte a)) value_column
    name_found (λ name. meaning_found agg_of agg_byte agg_of_byte) (λ name a named any. (named, refl))

-- ---- changes

pub key_default_again : (k : KeyType) (v : KeyValue) → IsTrue (is_of_kind k v) → IsKeyValue v → Again (key_default_at k) (key_default v) v
key_default_again kind.Int (value.Int z) of fits = made_again amount_at value.Int (amount z) z (amount_again z fits)
key_default_again kind.Int (value.Text t) of fits = absurd cc
key_default_again kind.Text (value.Int z) of fits = absurd cc
key_default_again kind.Text (value.Text t) of fits = made_again (ruled is_key_text text_at) value.Text (text t) t (ruled_again is_key_text text_at (text t) t fits (text_again t))

pub key_default_found : (k : KeyType) → Found (key_default_at k) key_default (λ v. IsTrue (is_of_kind k v) × IsKeyValue v)
key_default_found kind.Int = made_found amount_at value.Int IsNarrow (λ v. IsTrue (is_of_kind kind.Int v) × IsKeyValue v) amount key_default amount_found (λ z fits. ((refl, fits), refl))
key_default_found kind.Text = made_found (ruled is_key_text text_at) value.Text (λ t. Unit {0} × IsTrue (is_key_text t)) (λ v. IsTrue (is_of_kind kind.Text v) × IsKeyValue v) text key_default
    (ruled_found is_key_text text_at text (λ t. Unit {0}) text_found) (λ t is. ((refl, is.1), refl))

-- what a change keeps
abbrev pub IsChange : Change → Type 0
IsChange c = IsTypedChange c × IsTrue (is_change c)

-- the bytes of a change behind its number
abbrev change_fields : Change → List ℕ
change_fields (AddValue column default) = value_column column ++ amount default
change_fields (DropValue name) = text name
change_fields (AddKey column default) = key_column column ++ key_default default

abbrev change_number : Change → ℕ
change_number (AddValue column default) = 1
change_number (DropValue name) = 2
change_number (AddKey column default) = 3

change_bytes : (c : Change) → change c ≡ one (change_number c) ++ change_fields c
change_bytes (AddValue column default) = refl
change_bytes (DropValue name) = refl
change_bytes (AddKey column default) = refl

-- what the fields of a change show of it, by its number
abbrev IsNumbered : ℕ → Change → Type 0
IsNumbered number c = IsChange c × (change_number c ≡ number)

add_value_found : Found add_value_at change_fields (IsNumbered 1)
add_value_found = two_found value_column_at (λ c. amount_at) AddValue (λ (c : ValueColumn). IsNamed c.name) (λ c z. IsNarrow z) (IsNumbered 1) value_column amount change_fields
    value_column_found (λ c. amount_found) (λ c z named fits. ((((named, fits), refl), refl), refl))

drop_value_found : Found drop_value_at change_fields (IsNumbered 2)
drop_value_found = made_found name_at DropValue IsNamed (IsNumbered 2) text change_fields name_found (λ name named. (((named, refl), refl), refl))

add_key_found : Found add_key_at change_fields (IsNumbered 3)
add_key_found = two_found key_column_at (λ (c : KeyColumn). key_default_at c.kind) AddKey (λ (c : KeyColumn). IsNamed c.name) (λ (c : KeyColumn) v. IsTrue (is_of_kind c.kind v) × IsKeyValue v) (IsNumbered 3) key_column key_default change_fields
    key_column_found (λ (c : KeyColumn). key_default_found c.kind) (λ c v named is. ((((named, is.1), is.0), refl), refl))

-- one of two ways to read
pub either_way : {A : Type 0} (test : Bool) (r s : Read A) (x : A × Left) → if◌then◌else◌ {A = Read A} test r s ≡ Ok x → ((test ≡ true) × (r ≡ Ok x)) ⊎ (s ≡ Ok x)
either_way true r s x h = inl (refl, h)
either_way false r s x h = inr h

pub change_again : (c : Change) → IsChange c → Again change_at (change c) c
change_again (AddValue column default) is at more =
    let fields = two_again value_column_at (λ c. amount_at) AddValue (value_column column) (amount default) column default (value_column_again column is.0.0) (amount_again default is.0.1) (at + 1) more in
    (fields.0, rw (byte_again 1 at ((value_column column ++ amount default) ++ more)) fields.1)
change_again (DropValue name) is at more =
    let fields = made_again name_at DropValue (text name) name (name_again name is.0) (at + 1) more in
    (fields.0, rw (byte_again 2 at (text name ++ more)) fields.1)
change_again (AddKey column default) is at more =
    let fields = two_again key_column_at (λ (c : KeyColumn). key_default_at c.kind) AddKey (key_column column) (key_default default) column default (key_column_again column is.0.0) (key_default_again column.kind default is.1 is.0.1) (at + 1) more in
    (fields.0, rw (byte_again 3 at ((key_column column ++ key_default default) ++ more)) fields.1)

-- the fields of a change behind its number make the change
numbered : (number b : ℕ) (l mid after : Left) (c : Change) → (b == number) ≡ true → Begins l (one b) mid → IsNumbered number c × Begins mid (change_fields c) after → IsChange c × Begins l (change c) after
numbered number b l mid after c is first f =
    let same : one b ≡ one (change_number c) = ap one (eqb-true b number is ∙ sym f.0.1) in
    (f.0.0, subst (λ bs. Begins l bs after) (ap (λ bs. bs ++ change_fields c) same ∙ sym (change_bytes c)) (begins_two l mid after (one b) (change_fields c) first f.1))

pub change_found : Found change_at change IsChange
change_found l after c bytes h =
    let s = step_of (byte_at l) _ _ h in
    let f = byte_found l s.0.1 s.0.0 bytes s.1 in
    let b = s.0.0 in
    let mid = s.0.1 in
    elim (either_way (b == 1) (add_value_at mid) _ (c, after) s.2) [
      | inl is ↦ numbered 1 b l mid after c is.0 f.1 (add_value_found mid after c f.1.rest is.1)
      | inr h1 ↦ elim (either_way (b == 2) (drop_value_at mid) _ (c, after) h1) [
        | inl is ↦ numbered 2 b l mid after c is.0 f.1 (drop_value_found mid after c f.1.rest is.1)
        | inr h2 ↦ elim (either_way (b == 3) (add_key_at mid) _ (c, after) h2) [
          | inl is ↦ numbered 3 b l mid after c is.0 f.1 (add_key_found mid after c f.1.rest is.1)
          | inr h3 ↦ absurd cc
        ]
      ]
    ]

-- ---- lists behind their counts

-- the fields of a list are all good, in any order
in_any_order : {A : Type 0} (Is : A → Type 0) (least : ℕ) (xs : List A) → AllByRecursion Is xs → InOrder (λ least x. Is x) (λ x. 0) least xs
in_any_order Is least [] all = tt
in_any_order Is least (x ∷ xs) all = (all.0, in_any_order Is 1 xs all.1)

pub all_of_order : {A : Type 0} (Is : A → Type 0) (least : ℕ) (xs : List A) → InOrder (λ least x. Is x) (λ x. 0) least xs → AllByRecursion Is xs
all_of_order Is least [] all = tt
all_of_order Is least (x ∷ xs) all = (all.0, all_of_order Is 1 xs all.1)

pub many_again : {A : Type 0} (read : Left → Read A) (spell : A → List ℕ) (Is : A → Type 0) → ((x : A) → Is x → Again read (spell x) x)
    → (xs : List A) → AllByRecursion Is xs → Again (many read (length xs)) (flat_map spell xs) xs
many_again read spell Is each xs all = list_again (λ x. 0) (λ least. read) spell (λ least x. Is x) (λ least x is. each x is) 1 xs (in_any_order Is 1 xs all)

pub counted_again : {A : Type 0} (rule : ℕ → Bool) (read : Left → Read A) (spell : A → List ℕ) (Is : A → Type 0) → ((x : A) → Is x → Again read (spell x) x)
    → (xs : List A) → AllByRecursion Is xs → IsTrue (rule (length xs)) → Again (λ l. ruled rule byte_at l >>= λ n. many read n.0 n.1) (counted spell xs) xs
counted_again rule read spell Is each xs all h at more =
    let count = ruled_again rule byte_at (one (length xs)) (length xs) h (λ at more. (at + 1, byte_again (length xs) at more)) at (flat_map spell xs ++ more) in
    let fields = many_again read spell Is each xs all count.0 more in
    (fields.0, rw count.1 fields.1)

-- the fields of a list are all good, and their count keeps its rule
pub record IsCounted {A : Type 0} (rule : ℕ → Bool) (Is : A → Type 0) (xs : List A) : Type 0 where
  pub all : AllByRecursion Is xs
  pub count : IsTrue (rule (length xs))

pub counted_found : {A : Type 0} (rule : ℕ → Bool) (read : Left → Read A) (spell : A → List ℕ) (Is : A → Type 0) → Found read spell Is
    → Found (λ l. ruled rule byte_at l >>= λ n. many read n.0 n.1) (counted spell) (IsCounted rule Is)
counted_found rule read spell Is found l after xs bytes h =
    let s = step_of (ruled rule byte_at l) _ _ h in
    let f = ruled_found rule byte_at one (λ b. b < 2 ^ 8) byte_found l s.0.1 s.0.0 bytes s.1 in
    let g = list_found (λ x. 0) (λ least. read) spell (λ least x. Is x) (λ least. found) 1 s.0.0 s.0.1 after xs f.1.rest s.2 in (
      record { all = all_of_order Is 1 xs g.order; count = subst (λ n. IsTrue (rule n)) (sym g.count) f.0.1 },
      subst (λ n. Begins l (one n ++ flat_map spell xs) after) (sym g.count) (begins_two l s.0.1 after (one s.0.0) (flat_map spell xs) f.1 g.begins),
    )

-- ---- lists of columns, and of their names

abbrev pub HasKeys : List KeyColumn → Type 0
HasKeys keys = IsCounted is_count_of_columns (λ (c : KeyColumn). IsNamed c.name) keys

abbrev pub HasValues : List ValueColumn → Type 0
HasValues values = IsCounted is_count_of_columns (λ (c : ValueColumn). IsNamed c.name) values

pub keys_again : (keys : List KeyColumn) → HasKeys keys → Again key_columns_at (counted key_column keys) keys
keys_again keys has = counted_again is_count_of_columns key_column_at key_column (λ (c : KeyColumn). IsNamed c.name) key_column_again keys has.all has.count

pub keys_found : Found key_columns_at (counted key_column) HasKeys
keys_found = counted_found is_count_of_columns key_column_at key_column (λ (c : KeyColumn). IsNamed c.name) key_column_found

pub values_again : (values : List ValueColumn) → HasValues values → Again value_columns_at (counted value_column values) values
values_again values has = counted_again is_count_of_columns value_column_at value_column (λ (c : ValueColumn). IsNamed c.name) value_column_again values has.all has.count

pub values_found : Found value_columns_at (counted value_column) HasValues
values_found = counted_found is_count_of_columns value_column_at value_column (λ (c : ValueColumn). IsNamed c.name) value_column_found

abbrev pub HasNames : List (List ℕ) → Type 0
HasNames names = IsCounted is_count_of_columns IsNamed names

pub names_again : (names : List (List ℕ)) → HasNames names → Again names_at (counted text names) names
names_again names has = counted_again is_count_of_columns name_at text IsNamed name_again names has.all has.count

pub names_found : Found names_at (counted text) HasNames
names_found = counted_found is_count_of_columns name_at text IsNamed name_found
