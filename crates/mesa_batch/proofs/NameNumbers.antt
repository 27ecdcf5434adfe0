-- Tables' numbers by their names.
use Rattle.std.proofs.Common.{◌≡◌, ℕ, ◌+◌, ◌<◌, ◌≤◌, List, [], ◌∷◌, ◌++◌, length, take, map, get_or, refl, sym, ◌∙◌, ap, subst, arith, add-one, Option, Some, None}
use Rattle.std.specs.Prelude.{Bool, true, false, cond, position, Vec}
use Rattle.std.specs.Bool.{then_some}
use Rattle.std.specs.List.{position_from}
use Rattle.std.specs.Option.{IfSome, option_or, is_some}
use Rattle.std.specs.declared.alloc.Global.{Global}
use Rattle.std.specs.declared.cmp.Ordering.TheVariants.{Equal}
use Rattle.std.specs.Ordering.{is_eq}
use Rattle.std.specs.Cmp.Lexicographic.{texts_ties}
use Rattle.std.specs.FinMap.{slice_cmp-IsAntisymmetric, nat_cmp-IsAntisymmetric}
use Rattle.std.specs.BTreeMap.{insert_entry}
use Rattle.std.proofs.lemmas.Iterator.Adapters.{position_from-zero}
use Rattle.mesa_schema.specs.mesa_key.Order.{byte_cmp}
use Rattle.mesa_list.specs.Bytes.{same_bytes}
use Rattle.mesa_schema.proofs.mesa_fold.Folds.{is_equal}
use Rattle.std.proofs.lemmas.List.{get_or-map, length-map, length-take-le}
use Rattle.std.proofs.Math.Seq.{take-suc}
use Rattle.mesa_schema.specs.mesa_columns.Columns.{place_of}
use Rattle.mesa_batch.specs.declared.glance.Glanced.{Glanced}
use Rattle.mesa_batch.specs.Glance.{Known, Sight, names_in}
use Rattle.mesa_batch.specs.Numbers.{known_of, number_at}
use Rattle.mesa_batch.proofs.Inserted.{lookup-inserted}

position_from-push : {X : Type 0} (p : X → Bool) (i : ℕ) (xs : List X) (x : X) → position_from p i (xs ++ x ∷ []) ≡ option_or (position_from p i xs) (then_some (p x) (i + length xs))
position_from-push p i [] x = elim (p x) as (λ b. cond b (Some i) None ≡ then_some b (i + 0)) [ true ↦ ap Some (omega arith) | false ↦ refl ]
position_from-push p i (y ∷ ys) x =
    elim (p y) as (λ b. cond b (Some i) (position_from p (i + 1) (ys ++ x ∷ [])) ≡ option_or (cond b (Some i) (position_from p (i + 1) ys)) (then_some (p x) (i + length (y ∷ ys)))) [
      | true ↦ refl
      | false ↦ position_from-push p (i + 1) ys x ∙ ap (λ n. option_or (position_from p (i + 1) ys) (then_some (p x) n)) (omega arith)
    ]

-- the place of the first that passes, in a list with one more
pub position-push : {X : Type 0} (p : X → Bool) (xs : List X) (x : X) → position p (xs ++ x ∷ []) ≡ option_or (position p xs) (then_some (p x) (length xs))
position-push p xs x = position_from-zero p (xs ++ x ∷ []) ∙ position_from-push p 0 xs x ∙ ap (λ o. option_or o (then_some (p x) (0 + length xs))) (sym (position_from-zero p xs)) ∙ ap (λ n. option_or (position p xs) (then_some (p x) n)) (omega arith)

pub same_name : (q name : List ℕ) → same_bytes q name ≡ true → q ≡ name
same_name q name e = slice_cmp-IsAntisymmetric nat_cmp-IsAntisymmetric q name (is_equal _ (sym (texts_ties q name) ∙ e))

or_none : (o : Option ℕ) → o ≡ option_or o None
or_none (Some x) = refl
or_none None = refl

or_some : (o : Option ℕ) (n : ℕ) → is_some o ≡ true → o ≡ option_or o (Some n)
or_some (Some x) n e = refl
or_some None n e = absurd (cc)

is_none : (o : Option ℕ) → is_some o ≡ false → o ≡ None
is_none (Some x) e = absurd (cc)
is_none None e = refl

-- keys that both tie with a name tie
tied : (q a b : List ℕ) → is_eq (byte_cmp q a) ≡ true → is_eq (byte_cmp q b) ≡ true → byte_cmp a b ≡ Equal
tied q a b e f =
    let same : q ≡ a = slice_cmp-IsAntisymmetric nat_cmp-IsAntisymmetric q a (is_equal _ e) in
    subst (λ x. byte_cmp x b ≡ Equal) same (is_equal _ f)

-- a name that is there keeps its number
pub number_kept : (entries : List (Vec ℕ Global × ℕ)) (name : List ℕ) (number : ℕ) → is_some (number_at name entries) ≡ true → (q : List ℕ)
    → number_at q entries ≡ option_or (number_at q entries) (then_some (same_bytes q name) number)
number_kept entries name number there q =
    elim (same_bytes q name) as (λ b. same_bytes q name ≡ b → number_at q entries ≡ option_or (number_at q entries) (then_some b number)) [
      | true ↦ λ e. or_some (number_at q entries) number (ap (λ n. is_some (number_at n entries)) (same_name q name e) ∙ there)
      | false ↦ λ e. or_none (number_at q entries)
    ] refl

-- a name that isn't there yet gets one
pub number_new : (entries : List (Vec ℕ Global × ℕ)) (key : Vec ℕ Global) (number : ℕ) → is_some (number_at key.items entries) ≡ false → (q : List ℕ)
    → number_at q (insert_entry (λ (x y : Vec ℕ Global). byte_cmp x.items y.items) entries key number) ≡ option_or (number_at q entries) (then_some (same_bytes q key.items) number)
number_new entries key number absent q =
    let none : number_at key.items entries ≡ None = is_none (number_at key.items entries) absent in
    let found : number_at q (insert_entry (λ (x y : Vec ℕ Global). byte_cmp x.items y.items) entries key number) ≡ cond (is_eq (byte_cmp q key.items)) (Some number) (number_at q entries) =
    lookup-inserted (λ (x y : Vec ℕ Global). byte_cmp x.items y.items) (λ (k : Vec ℕ Global). is_eq (byte_cmp q k.items)) key number (λ x a b. tied q key.items x.items a b) entries none in
    found ∙ ap (λ b. cond b (Some number) (number_at q entries)) (sym (texts_ties q key.items))
    ∙ elim (same_bytes q key.items) as (λ b. same_bytes q key.items ≡ b → cond b (Some number) (number_at q entries) ≡ option_or (number_at q entries) (then_some b number)) [
      | true ↦ λ e. ap (λ o. option_or o (Some number)) (sym none ∙ ap (λ n. number_at n entries) (sym (same_name q key.items e)))
      | false ↦ λ e. or_none (number_at q entries)
    ] refl

-- the tables' names, as contracts see them
pub names_known : (tables : List Glanced) → map (λ (t : Glanced). t.name) tables ≡ map (λ (t : Known). t.name) (map known_of tables)
names_known [] = refl
names_known (t ∷ tables) = ap (λ l. t.name ∷ l) (names_known tables)

position_from-within : {X : Type 0} (p : X → Bool) (i : ℕ) (xs : List X) (n : ℕ) → position_from p i xs ≡ Some n → n < i + length xs
position_from-within p i [] n e = absurd (cc)
position_from-within p i (x ∷ xs) n e =
    elim (p x) as (λ b. cond b (Some i) (position_from p (i + 1) xs) ≡ Some n → n < i + length (x ∷ xs)) [
      | true ↦ λ f. let same : i ≡ n = (cc) in omega arith
      | false ↦ λ f. let rest : n < i + 1 + length xs = position_from-within p (i + 1) xs n f in omega arith
    ] e

-- what is found is there
pub position-within : {X : Type 0} (p : X → Bool) (xs : List X) (n : ℕ) → position p xs ≡ Some n → n < length xs
position-within p xs n e = let within : n < 0 + length xs = position_from-within p 0 xs n (sym (position_from-zero p xs) ∙ e) in omega arith

-- a mapped list's first, with one more
pub take_next : {X Y : Type 0} (f : X → Y) (xs : List X) (i : ℕ) (x : X) → i < length xs → x ≡ get_or xs i x → take (i + 1) (map f xs) ≡ take i (map f xs) ++ f x ∷ []
take_next f xs i x h e =
    let within : i < length (map f xs) = subst (λ n. i < n) (sym (length-map xs f)) h in
    let at : get_or (map f xs) i (f x) ≡ f x = get_or-map f xs i x (f x) h ∙ ap f (sym e) in
    rw add-one (take-suc (map f xs) i (f x) within ∙ ap (λ y. take i (map f xs) ++ y ∷ []) at)

-- the names with one more
pub names_next : (tables : List Glanced) (i : ℕ) (table : Glanced) → i < length tables → table ≡ get_or tables i table → (q : List ℕ)
    → place_of q (take (i + 1) (map (λ (t : Glanced). t.name) tables)) ≡ option_or (place_of q (take i (map (λ (t : Glanced). t.name) tables))) (then_some (same_bytes q table.name) i)
names_next tables i table h e q =
    let names = map (λ (t : Glanced). t.name) tables in
    let within : i ≤ length names = omega (arith, length-map tables (λ (t : Glanced). t.name)) in
    ap (place_of q) (take_next (λ (t : Glanced). t.name) tables i table h e) ∙ position-push (same_bytes q) (take i names) table.name
    ∙ ap (λ n. option_or (place_of q (take i names)) (then_some (same_bytes q table.name) n)) (length-take-le i names within)

-- a table that is found is there
pub found_there : (name : List ℕ) (sight : Sight) (found : Option ℕ) → found ≡ place_of name (names_in sight) → IfSome found (λ table. table < length sight.tables)
found_there name sight None e = tt
found_there name sight (Some table) e = subst (λ n. table < n) (length-map sight.tables (λ (t : Known). t.name)) (position-within (same_bytes name) (names_in sight) table (sym e))
