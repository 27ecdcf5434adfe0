-- A term's form, column and literals, one check after the other.
use Rattle.std.proofs.Common.{◌≡◌, ℕ, ◌<◌, ◌≤◌, List, [], ◌∷◌, length, drop, map, get_or, Bool, true, false, cond, refl, sym, ◌∙◌, ap, Option, Some, None, Ok, Err}
use Rattle.std.specs.Prelude.{◌==◌, nat_lt, option_map, slice_get, take_while}
use Rattle.std.proofs.lemmas.Bool.{le-ltb}
use Rattle.std.proofs.lemmas.Option.{slice_get-get_or, slice_get-map}
use Rattle.mesa_fold.specs.mesa_key.declared.KeyType.{KeyType}
use Rattle.mesa_fold.specs.mesa_key.declared.KeyValue.{KeyValue}
use Rattle.mesa_fold.specs.mesa_columns.declared.columns.KeyColumn.{KeyColumn}
use Rattle.mesa_fold.specs.mesa_columns.Names.{is_name_byte}
use Rattle.mesa_fold.specs.mesa_columns.Numbers.{key_value_of}
use Rattle.mesa_fold.specs.mesa_columns.Columns.{Columns, key_names, kinds_of, place_of}
use Rattle.mesa_filter.specs.declared.terms.Comparison.{Comparison}
use Rattle.mesa_filter.specs.declared.terms.FilterError.TheVariants.{BadLiteral, NoColumn}
use Rattle.mesa_filter.specs.Filter.{each_some, Spelled, literal_parts, operator_of, spelled_after, spelled_of, term_of, unescaped}

-- what a term's parts are together
abbrev pub as_spelled : List ℕ → Comparison → List (List ℕ) → Spelled
as_spelled name comparison texts = (name, comparison, texts)

mapped : {A B : Type 0} (f : A → B) (t : Bool) (o : Option A) → cond t None (option_map f o) ≡ option_map f (cond t None o)
mapped f true o = refl
mapped f false o = refl

formed : (name : List ℕ) (comparison : Comparison) (rest : List ℕ) → (length name == 0) ≡ false
    → spelled_after name (Some (comparison, rest)) ≡ option_map (as_spelled name comparison) (cond (nat_lt 64 (length (literal_parts comparison rest))) None (each_some unescaped (literal_parts comparison rest)))
formed [] comparison rest h = cc
formed (b ∷ name) comparison rest h = mapped (as_spelled (b ∷ name) comparison) (nat_lt 64 (length (literal_parts comparison rest))) (each_some unescaped (literal_parts comparison rest))

-- A name and an operator: the literals decide on the form.
pub spelled : (bytes name behind rest : List ℕ) (comparison : Comparison) (found : Option (List (List ℕ))) → name ≡ take_while is_name_byte bytes → behind ≡ drop (length name) bytes → (length name == 0) ≡ false
    → operator_of behind ≡ Some (comparison, rest) → found ≡ cond (nat_lt 64 (length (literal_parts comparison rest))) None (each_some unescaped (literal_parts comparison rest))
    → spelled_of bytes ≡ option_map (as_spelled name comparison) found
spelled bytes name behind rest comparison found e r n o t =
    ap (λ (x : List ℕ). spelled_after x (operator_of (drop (length x) bytes))) (sym e) ∙ ap (λ (xs : List ℕ). spelled_after name (operator_of xs)) (sym r) ∙ ap (spelled_after name) o
    ∙ formed name comparison rest n ∙ ap (option_map (as_spelled name comparison)) (sym t)

-- What becomes of a well formed term: its name is none, a literal is none, or it is read.
pub no_column : (s : Columns) (n : ℕ) (bytes name : List ℕ) (comparison : Comparison) (texts : List (List ℕ)) → n ≤ 64 → spelled_of bytes ≡ Some (name, comparison, texts) → place_of name (key_names s) ≡ None
    → term_of s n bytes ≡ Err (NoColumn n)
no_column s n bytes name comparison texts l h p = rw (le-ltb 64 n l, h, p) refl

pub bad_literal : (s : Columns) (n : ℕ) (bytes name : List ℕ) (comparison : Comparison) (texts : List (List ℕ)) (place : ℕ) (kind : KeyType) → n ≤ 64 → spelled_of bytes ≡ Some (name, comparison, texts)
    → place_of name (key_names s) ≡ Some place → slice_get (kinds_of s) place ≡ Some kind → each_some (key_value_of kind) texts ≡ None → term_of s n bytes ≡ Err (BadLiteral n)
bad_literal s n bytes name comparison texts place kind l h p k v = rw (le-ltb 64 n l, h, p, k, v) refl

pub well_formed : (s : Columns) (n : ℕ) (bytes name : List ℕ) (comparison : Comparison) (texts : List (List ℕ)) (place : ℕ) (kind : KeyType) (values : List KeyValue) → n ≤ 64 → spelled_of bytes ≡ Some (name, comparison, texts)
    → place_of name (key_names s) ≡ Some place → slice_get (kinds_of s) place ≡ Some kind → each_some (key_value_of kind) texts ≡ Some values
    → term_of s n bytes ≡ Ok (record { column = place; comparison = comparison; literals = values })
well_formed s n bytes name comparison texts place kind values l h p k v = rw (le-ltb 64 n l, h, p, k, v) refl

-- the type of the column at a place
pub kind_there : (columns : List KeyColumn) (place : ℕ) (column : KeyColumn) → place < length columns → column ≡ get_or columns place column → slice_get (map (λ (c : KeyColumn). c.kind) columns) place ≡ Some column.kind
kind_there columns place column h e =
    slice_get-map (λ (c : KeyColumn). c.kind) columns place ∙ ap (option_map (λ (c : KeyColumn). c.kind)) (slice_get-get_or columns place column h ∙ ap Some (sym e))
