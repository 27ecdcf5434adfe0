-- Checks of a query never refuse its resume key.
use Rattle.std.proofs.Common.{◌≡◌, ◌≢◌, ℕ, List, [], ◌∷◌, true, false, cond, sym, ◌∙◌, subst, Option, Some, None, Result, Ok, Err}
use Rattle.std.specs.Option.{ok_or}
use Rattle.mesa_list.specs.Bytes.{same_bytes}
use Rattle.mesa_list.specs.Checks.{◌>>=◌, ◌>>◌, refused_as}
use Rattle.mesa_list.specs.Split.{entries_of}
use Rattle.mesa_fold.specs.mesa_columns.declared.columns.ValueColumn.{ValueColumn}
use Rattle.mesa_fold.specs.mesa_columns.Columns.{Columns, key_names, value_names, place_of}
use Rattle.mesa_filter.specs.declared.terms.FilterError.{FilterError}
use Rattle.mesa_filter.specs.declared.terms.FilterError.TheVariants as fault
use Rattle.mesa_filter.specs.declared.words.QueryWords.{QueryWords}
use Rattle.mesa_filter.specs.declared.words.QueryError.{QueryError}
use Rattle.mesa_filter.specs.declared.words.QueryError.TheVariants.{NoColumn, BadResume, Memory}
use Rattle.mesa_filter.specs.Filter.{filter_of}
use Rattle.mesa_filter.specs.Asked.{asked_of, filter_refusal, group_columns, places_of, refuse_replace, replace_asked, value_columns}

-- no refusal of the resume key
abbrev Other : {A : Type 0} → Result A QueryError → Type 0
Other (Ok x) = Unit {0}
Other (Err e) = e ≢ BadResume

then : {A B : Type 0} (r : Result A QueryError) (f : A → Result B QueryError) → Other r → ((x : A) → Other (f x)) → Other (r >>= f)
then (Ok x) f h g = g x
then (Err e) f h g = h

next : {A B : Type 0} (r : Result A QueryError) (s : Result B QueryError) → Other r → Other s → Other (r >> s)
next (Ok x) s h g = g
next (Err e) s h g = h

one_place : (o : Option ℕ) → Other (ok_or o NoColumn)
one_place None = λ e. cc
one_place (Some place) = tt

all_places : (names words : List (List ℕ)) → Other (places_of names words)
all_places names [] = tt
all_places names (word ∷ words) = then (ok_or (place_of word names) NoColumn) _ (one_place (place_of word names)) (λ y. then (places_of names words) _ (all_places names words) (λ _. tt))

groups : (s : Columns) (words : List ℕ) → Other (group_columns s words)
groups s [] = tt
groups s (b ∷ words) = elim (same_bytes (b ∷ words) (45 ∷ [])) as (λ t. Other (cond t (Ok []) (places_of (key_names s) (entries_of (b ∷ words))))) [ true ↦ tt | false ↦ all_places (key_names s) (entries_of (b ∷ words)) ]

values : (s : Columns) (words : List ℕ) → Other (value_columns s words)
values s [] = tt
values s (b ∷ words) = all_places (value_names s) (entries_of (b ∷ words))

replaces : (o : Option ValueColumn) → Other (refuse_replace o)
replaces None = tt
replaces (Some column) = λ e. cc

other_fault : (f : FilterError) → filter_refusal f ≢ BadResume
other_fault (fault.NoColumn term) = λ e. cc
other_fault (fault.BadLiteral term) = λ e. cc
other_fault (fault.BadForm term) = λ e. cc
other_fault fault.Memory = λ e. cc

filters : {A : Type 0} (r : Result A FilterError) → Other (refused_as filter_refusal r)
filters (Ok x) = tt
filters (Err f) = other_fault f

asks : (s : Columns) (words : QueryWords) → Other (asked_of s words)
asks s words =
    then (group_columns s words.group) _ (groups s words.group) (λ columns. then (value_columns s words.values) _ (values s words.values) (λ places.
    next (refuse_replace (replace_asked s columns places)) _ (replaces (replace_asked s columns places)) (then (refused_as filter_refusal (filter_of s words.filter)) _ (filters (filter_of s words.filter)) (λ terms. tt))))

-- What is asked is never refused for its resume key.
never_resume : (s : Columns) (words : QueryWords) (e : QueryError) → asked_of s words ≡ Err e → e ≢ BadResume
never_resume s words e h = subst (λ r. Other r) h (asks s words)

pub other_refusal : (s : Columns) (words : QueryWords) (e : QueryError) → (e ≢ Memory → asked_of s words ≡ Err e) → e ≢ BadResume
other_refusal s words e h same = never_resume s words e (h (λ m. let no : BadResume ≡ Memory = sym same ∙ m in cc)) same
