-- The files of a table's ranges, one after another.
use Rattle.std.proofs.Common.{◌≡◌, ◌∙◌, ℕ, zero, suc, ◌+◌, ◌-◌, ◌≤◌, ◌<◌, List, [], ◌∷◌, ◌++◌, length, map, take, get_or, refl, sym, ap, subst, arith, append_assoc, append-nil, true, false, Option, Some, None, inl, inr}
use Rattle.std.specs.Prelude.{Result, Ok, Err, IfOk, IfSome, flat_map, is_some, option_map, option_to_list, replicate, slice_get}
use Rattle.std.specs.List.{AllByRecursion}
use Rattle.std.proofs.lemmas.List.{length-append, take_all, take_more}
use Rattle.mesa_schema.specs.Changes.{Lineage}
use Rattle.mesa_validate.proofs.mesa_columns.Lists.{all_append, all_so}
use Rattle.mesa_disk.specs.Image.{Image}
use Rattle.mesa_file.specs.declared.damage.Damage.{Damage}
use Rattle.mesa_record.specs.declared.record.Files.{Files}
use Rattle.mesa_span.specs.Ranges.{start_behind}
use Rattle.mesa_validate.specs.mesa_store_spec.Catalog.{Delta, Ending, TableMeta, empty_delta, start_in}
use Rattle.mesa_validate.specs.mesa_store_spec.Fitting.{base_deltas, delta_in, deltas_of}
use Rattle.mesa_catalog_table.specs.Meaning.{AreLoaded, IsTable, delta_or_empty, ending_of, singles_from, start_of_base, meta_of}
use Rattle.mesa_catalog_table.specs.declared.table.Base.{Base}
use Rattle.mesa_catalog_table.specs.declared.table.Loaded.{Loaded}
use Rattle.mesa_catalog_table.specs.declared.table.Table.{Table}
use Rattle.mesa_catalog_table.proofs.Tens.{base_ends}
use Rattle.mesa_query.specs.mesa_scan.Cursors.{reader_in}
use Rattle.mesa_delta.specs.declared.input.Input.{Input}
use Rattle.mesa_pick_files.specs.Files.{want_of}
use Rattle.mesa_open_files.specs.Opening.{IsOpened}
use Rattle.mesa_open_files.specs.Recasts.{own}
use Rattle.mesa_open_files.specs.declared.opening.Wanted.{Wanted}
use Rattle.mesa_open_files.specs.declared.recasting.RecastRange.{RecastRange}
use Rattle.mesa_open_files.proofs.Retired.{all_back, all_front}
use Rattle.mesa_pick_files.specs.Ranges.{HasInput, HasMore, HoldsAt, HoldsEach, IsDamagedAs, IsDamagedRange, IsOfRange, IsOneOf, IsOpenedAs, IsOpenedRange, Ranged, base_ranged, empty_ranged, first_ranged, range_wanted, ranged, singles_ranged}
use Rattle.mesa_pick_files.specs.Ranging.{HasMoreAs}

-- ---- where singletons begin, and what was loaded of them

-- the range of what a version brought
abbrev pub single_range : Loaded → Ranged
single_range l = record { from = l.version; to = l.version; delta = l.delta.value }

pub start_held : (next : ℕ) (t : Table) → start_in (meta_of next t) ≡ start_of_base t.base
start_held next t = ap start_behind (base_ends t.base)

-- what holds behind versions that brought nothing
past : (P : List Ranged → Type 0) → ((x : Ranged) (xs : List Ranged) → x.delta ≡ empty_delta → P xs → P (x ∷ xs)) → (count from to : ℕ) (ds : List Delta) → from + count ≡ to → P (singles_ranged to ds) → P (singles_ranged from (replicate count empty_delta ++ ds))
past P skip zero from to ds same at = subst (λ n. P (singles_ranged n ds)) (let back : to ≡ from = omega (arith, same) in back) at
past P skip (suc count) from to ds same at = skip _ _ refl (past P skip count (from + 1) to ds (omega (arith, same)) at)

-- a range of what was loaded is one of the table's
one_loaded : (from next : ℕ) (loaded : List Loaded) (i : ℕ) (l : Loaded) → AreLoaded from next loaded → i < length loaded → l ≡ get_or loaded i l → IsOneOf (single_range l) (singles_ranged from (singles_from from next loaded))
one_loaded from next [] i l are within is = absurd (omega (arith, within))
one_loaded from next (m ∷ loaded) zero l are within is =
    let lower : from ≤ m.version = are.0 in
    past (IsOneOf (single_range l)) (λ x xs empty one. inr one) (m.version - from) from m.version (m.delta.value ∷ singles_from (m.version + 1) next loaded) (omega (arith, lower)) (inl (ap single_range is))
one_loaded from next (m ∷ loaded) (suc i) l are within is =
    let lower : from ≤ m.version = are.0 in
    past (IsOneOf (single_range l)) (λ x xs empty one. inr one) (m.version - from) from m.version (m.delta.value ∷ singles_from (m.version + 1) next loaded) (omega (arith, lower)) (inr (one_loaded (m.version + 1) next loaded i l are.2 (omega (arith, within)) is))

one_front : (x : Ranged) (xs ys : List Ranged) → IsOneOf x xs → IsOneOf x (xs ++ ys)
one_front x [] ys one = absurd one
one_front x (y ∷ xs) ys (inl same) = inl same
one_front x (y ∷ xs) ys (inr later) = inr (one_front x xs ys later)

one_back : (x : Ranged) (xs ys : List Ranged) → IsOneOf x ys → IsOneOf x (xs ++ ys)
one_back x [] ys one = one
one_back x (y ∷ xs) ys one = inr (one_back x xs ys one)

pub one_single : (next : ℕ) (t : Table) (i : ℕ) (l : Loaded) → IsTable next t → i < length t.loaded.items → l ≡ get_or t.loaded.items i l → IsOneOf (single_range l) (ranged (meta_of next t))
one_single next t i l is within at =
    let u = meta_of next t in
    one_back (single_range l) (base_ranged u.base) (singles_ranged (start_in u) u.singles)
    (subst (λ n. IsOneOf (single_range l) (singles_ranged n u.singles)) (sym (start_held next t)) (one_loaded (start_of_base t.base) next t.loaded.items i l is.loaded within at))

-- so is that of a base
pub one_base : (next : ℕ) (t : Table) (b : Base) → t.base ≡ Some b → IsOneOf (record { from = 0; to = b.to; delta = delta_or_empty b.delta }) (ranged (meta_of next t))
one_base next t b is =
    let u = meta_of next t in
    let x : Ranged = record { from = 0; to = b.to; delta = delta_or_empty b.delta } in
    one_front x (base_ranged u.base) (singles_ranged (start_in u) u.singles) (subst (λ (o : Option Base). IsOneOf x (base_ranged (option_map ending_of o))) (sym is) (inl refl))

-- ---- epochs

loaded_have : (P : Delta → Type 0) (from next : ℕ) (loaded : List Loaded) → AllByRecursion P (singles_from from next loaded) → AllByRecursion (λ (l : Loaded). P l.delta.value) loaded
loaded_have P from next [] all = tt
loaded_have P from next (l ∷ loaded) all =
    let rest = all_back P (replicate (l.version - from) empty_delta) (l.delta.value ∷ singles_from (l.version + 1) next loaded) all in
    (rest.0, loaded_have P (l.version + 1) next loaded rest.1)

-- what holds of all deltas of a table holds of its base's, and of what was loaded
pub base_has : (P : Delta → Type 0) (next : ℕ) (t : Table) (b : Base) → AllByRecursion P (deltas_of (meta_of next t)) → t.base ≡ Some b → P (delta_or_empty b.delta)
base_has P next t b all is =
    let u = meta_of next t in
    let front = all_front P (base_deltas u.base) (map delta_in u.cumulatives ++ u.singles) all in
    (subst (λ (o : Option Base). AllByRecursion P (base_deltas (option_map ending_of o))) is front).0

pub single_has : (P : Delta → Type 0) (next : ℕ) (t : Table) (i : ℕ) (l : Loaded) → AllByRecursion P (deltas_of (meta_of next t)) → i < length t.loaded.items → l ≡ get_or t.loaded.items i l → P l.delta.value
single_has P next t i l all within at =
    let u = meta_of next t in
    let singles = all_back P (map delta_in u.cumulatives) u.singles (all_back P (base_deltas u.base) (map delta_in u.cumulatives ++ u.singles) all) in
    got (λ (x : Loaded). P x.delta.value) t.loaded.items i l within at (loaded_have P (start_of_base t.base) next t.loaded.items singles)
  where
    got : (Q : Loaded → Type 0) (xs : List Loaded) (n : ℕ) (x : Loaded) → n < length xs → x ≡ get_or xs n x → AllByRecursion Q xs → Q x
    got Q [] n x low is have = absurd (omega (arith, low))
    got Q (y ∷ xs) zero x low is have = subst Q (sym is) have.0
    got Q (y ∷ xs) (suc n) x low is have = got Q xs n x (omega (arith, low)) is have.1

-- ---- what is held

module _ {R : Type 0} where
  has_front : (xs ys : List (RecastRange R)) (from to : ℕ) → HasInput xs from to → HasInput (xs ++ ys) from to
  has_front [] ys from to has = absurd has
  has_front (x ∷ xs) ys from to (inl here) = inl here
  has_front (x ∷ xs) ys from to (inr later) = inr (has_front xs ys from to later)

  pub has_pushed : (xs : List (RecastRange R)) (x : RecastRange R) (i : Input R) → x.input ≡ Some i → HasInput (xs ++ x ∷ []) x.from x.to
  has_pushed [] x i is = inl (refl, refl, i, is)
  has_pushed (y ∷ xs) x i is = inr (has_pushed xs x i is)

  some_input : (o : Option (Input R)) → is_some o ≡ true → (i : Input R) × (o ≡ Some i)
  some_input None is = absurd cc
  some_input (Some i) is = (i, refl)

  -- the one at a place
  pub has_at : (xs : List (RecastRange R)) (place from to : ℕ) (x : RecastRange R) → slice_get xs place ≡ Some x → x.from ≡ from → x.to ≡ to → is_some x.input ≡ true → HasInput xs from to
  has_at [] place from to x is first last some = absurd cc
  has_at (y ∷ xs) zero from to x is first last some =
      let same : y ≡ x = cc in
      let input = some_input x.input some in
      inl (ap (λ (z : RecastRange R). z.from) same ∙ first, ap (λ (z : RecastRange R). z.to) same ∙ last, input.0, ap (λ (z : RecastRange R). z.input) same ∙ input.1)
  has_at (y ∷ xs) (suc place) from to x is first last some = inr (has_at xs place from to x is first last some)

  pub holds_if_has : (xs : List (RecastRange R)) (from to : ℕ) (o : Option Files) → HasInput xs from to → HoldsAt xs from to o
  holds_if_has xs from to None has = tt
  holds_if_has xs from to (Some f) has = has

  -- Ranges that come behind take nothing away.
  holds_front : (xs ys : List (RecastRange R)) (from to : ℕ) (o : Option Files) → HoldsAt xs from to o → HoldsAt (xs ++ ys) from to o
  holds_front xs ys from to None holds = tt
  holds_front xs ys from to (Some f) holds = has_front xs ys from to holds

  abbrev pub HoldsSingle : List (RecastRange R) → Loaded → Type 0
  HoldsSingle xs l = HoldsAt xs l.version l.version l.delta.value.files

  each_front : (xs ys : List (RecastRange R)) (rs : List Ranged) → HoldsEach xs rs → HoldsEach (xs ++ ys) rs
  each_front xs ys rs holds = all_so (λ (r : Ranged). HoldsAt xs r.from r.to r.delta.files) (λ (r : Ranged). HoldsAt (xs ++ ys) r.from r.to r.delta.files) rs (λ r h. holds_front xs ys r.from r.to r.delta.files h) holds

  singles_front : (xs ys : List (RecastRange R)) (ls : List Loaded) → AllByRecursion (HoldsSingle xs) ls → AllByRecursion (HoldsSingle (xs ++ ys)) ls
  singles_front xs ys ls holds = all_so (HoldsSingle xs) (HoldsSingle (xs ++ ys)) ls (λ l h. holds_front xs ys l.version l.version l.delta.value.files h) holds

  pub singles_kept : (xs ys more : List (RecastRange R)) (ls : List Loaded) → ys ≡ xs ++ more → AllByRecursion (HoldsSingle xs) ls → AllByRecursion (HoldsSingle ys) ls
  singles_kept xs ys more ls is holds = subst (λ (zs : List (RecastRange R)). AllByRecursion (HoldsSingle zs) ls) (sym is) (singles_front xs more ls holds)

  pub each_kept : (xs ys more : List (RecastRange R)) (rs : List Ranged) → ys ≡ xs ++ more → HoldsEach xs rs → HoldsEach ys rs
  each_kept xs ys more rs is holds = subst (λ (zs : List (RecastRange R)). HoldsEach zs rs) (sym is) (each_front xs more rs holds)

  -- A version that brought nothing has no range with rows.
  loaded_held : (xs : List (RecastRange R)) (from next : ℕ) (loaded : List Loaded) → AreLoaded from next loaded → AllByRecursion (HoldsSingle xs) loaded → HoldsEach xs (singles_ranged from (singles_from from next loaded))
  loaded_held xs from next [] are holds = none (next - from) from
    where
      none : (count at : ℕ) → HoldsEach xs (singles_ranged at (replicate count empty_delta))
      none zero at = tt
      none (suc count) at = (tt, none count (at + 1))
  loaded_held xs from next (l ∷ loaded) are holds =
      let lower : from ≤ l.version = are.0 in
      past (HoldsEach xs) (λ r rs empty h. (subst (λ (d : Delta). HoldsAt xs r.from r.to d.files) (sym empty) tt, h)) (l.version - from) from l.version (l.delta.value ∷ singles_from (l.version + 1) next loaded) (omega (arith, lower))
      (holds.0, loaded_held xs (l.version + 1) next loaded are.2 holds.1)

  pub singles_held : (xs : List (RecastRange R)) (next : ℕ) (t : Table) → IsTable next t → AllByRecursion (HoldsSingle xs) t.loaded.items → HoldsEach xs (singles_ranged (start_in (meta_of next t)) (meta_of next t).singles)
  singles_held xs next t is holds =
      subst (λ n. HoldsEach xs (singles_ranged n (meta_of next t).singles)) (sym (start_held next t)) (loaded_held xs (start_of_base t.base) next t.loaded.items is.loaded holds)

  -- one more single is held
  pub single_more : (xs : List (RecastRange R)) (loaded : List Loaded) (i : ℕ) (l : Loaded) → i < length loaded → l ≡ get_or loaded i l → AllByRecursion (HoldsSingle xs) (take i loaded) → HoldsSingle xs l → AllByRecursion (HoldsSingle xs) (take (i + 1) loaded)
  single_more xs loaded i l within at before one =
      subst (AllByRecursion (HoldsSingle xs)) (sym (take_more loaded i l within ∙ ap (λ (x : Loaded). take i loaded ++ x ∷ []) (sym at))) (all_append (HoldsSingle xs) (take i loaded) (l ∷ []) before (one, tt))

  pub all_singles : (xs : List (RecastRange R)) (loaded : List Loaded) (i : ℕ) → length loaded ≤ i → AllByRecursion (HoldsSingle xs) (take i loaded) → AllByRecursion (HoldsSingle xs) loaded
  all_singles xs loaded i past' holds = subst (AllByRecursion (HoldsSingle xs)) (take_all i loaded past') holds

  -- a base that is held, and one that isn't there or has no rows
  pub base_held : (xs : List (RecastRange R)) (b : Base) (o : Option Base) → o ≡ Some b → HoldsAt xs 0 b.to (delta_or_empty b.delta).files → HoldsEach xs (base_ranged (option_map ending_of o))
  base_held xs b o is holds = subst (λ (x : Option Base). HoldsEach xs (base_ranged (option_map ending_of x))) (sym is) (holds, tt)

  pub no_base_held : (xs : List (RecastRange R)) (o : Option Base) → o ≡ None → HoldsEach xs (base_ranged (option_map ending_of o))
  no_base_held xs o is = subst (λ (x : Option Base). HoldsEach xs (base_ranged (option_map ending_of x))) (sym is) tt

  -- ---- the range of a base without rows

  pub first_none : (xs : List (RecastRange R)) (o : Option Base) → xs ≡ [] → o ≡ None → xs ≡ first_ranged (option_map ending_of o)
  first_none xs o none is = none ∙ ap (λ (x : Option Base). first_ranged (option_map ending_of x)) (sym is)

  pub first_filed : (xs : List (RecastRange R)) (o : Option Base) (b : Base) → xs ≡ [] → o ≡ Some b → is_some (delta_or_empty b.delta).files ≡ true → xs ≡ first_ranged (option_map ending_of o)
  first_filed xs o b none is some = none ∙ by (delta_or_empty b.delta).files some ∙ ap (λ (x : Option Base). first_ranged (option_map ending_of x)) (sym is)
    where
      by : (f : Option Files) → is_some f ≡ true → [] ≡ empty_ranged {R = R} b.to f
      by None e = cc
      by (Some f) e = refl

  pub first_unfiled : (xs : List (RecastRange R)) (o : Option Base) (b : Base) → xs ≡ [] ++ record { from = 0; to = b.to; input = None } ∷ [] → o ≡ Some b → is_some (delta_or_empty b.delta).files ≡ false → xs ≡ first_ranged (option_map ending_of o)
  first_unfiled xs o b one is none = one ∙ by (delta_or_empty b.delta).files none ∙ ap (λ (x : Option Base). first_ranged (option_map ending_of x)) (sym is)
    where
      by : (f : Option Files) → is_some f ≡ false → record { from = 0; to = b.to; input = None } ∷ [] ≡ empty_ranged {R = R} b.to f
      by None e = refl
      by (Some f) e = cc

-- ---- what is open

module _ {R : Type 0} (bytes : R → Option (List ℕ)) (faults : R → ℕ) (told : Option Image) (t : TableMeta) where
  pub more_none : (xs : List (RecastRange R)) → HasMore bytes faults told t xs xs
  more_none xs = ([], sym (append-nil xs), tt)

  -- a file that was opened is that of one of the table's ranges
  pub more_of : (x : Ranged) (old new : List (RecastRange R)) → IsOneOf x (ranged t) → HasMoreAs bytes faults told t.lineage x old new → HasMore bytes faults told t old new
  more_of x old new one more = (
    more.0,
    more.1,
    all_so (IsOpenedAs bytes faults told t.lineage x.from x.to x.delta) (IsOpenedRange bytes faults told t) more.0 (λ y opened. record { range = x; one = one; opened = opened }) more.2,
  )

  pub more_then : (a b d : List (RecastRange R)) → HasMore bytes faults told t a b → HasMore bytes faults told t b d → HasMore bytes faults told t a d
  more_then a b d one two = (
    one.0 ++ two.0,
    two.1 ∙ ap (λ xs. xs ++ two.0) one.1 ∙ append_assoc a one.0 two.0,
    all_append (IsOpenedRange bytes faults told t) one.0 two.0 one.2 two.2,
  )

  -- the readers of ranges that were opened haven't failed
  abbrev IsFresh : Input R → Type 0
  IsFresh i = faults (reader_in i) ≡ 0

  own_fresh : (x : RecastRange R) → IsOpenedRange bytes faults told t x → AllByRecursion IsFresh (own x)
  own_fresh x is = subst (λ (o : Option (Input R)). AllByRecursion IsFresh (option_to_list o)) (sym is.opened.has) (is.opened.opened.fresh, tt)

  opened_fresh : (xs : List (RecastRange R)) → AllByRecursion (IsOpenedRange bytes faults told t) xs → AllByRecursion IsFresh (flat_map own xs)
  opened_fresh [] are = tt
  opened_fresh (x ∷ xs) are = all_append IsFresh (own x) (flat_map own xs) (own_fresh x are.0) (opened_fresh xs are.1)

  -- the range of a base without rows has none
  first_own : (o : Option Ending) (xs : List (RecastRange R)) → flat_map own (first_ranged o ++ xs) ≡ flat_map own xs
  first_own None xs = refl
  first_own (Some e) xs = elim (e.delta.files) as (λ o. flat_map own (empty_ranged {R = R} e.to o ++ xs) ≡ flat_map own xs) [ None ↦ refl | Some f ↦ refl ]

  pub first_fresh : (first all : List (RecastRange R)) → first ≡ first_ranged t.base → HasMore bytes faults told t first all → AllByRecursion IsFresh (flat_map own all)
  first_fresh first all is more =
      subst (AllByRecursion IsFresh) (sym (ap (flat_map own) (more.1 ∙ ap (λ xs. xs ++ more.0) is) ∙ first_own t.base more.0)) (opened_fresh more.0 more.2)

  -- The ranges of a recast that is granted.
  first_empty : (o : Option Ending) → t.base ≡ o → AllByRecursion (IsOfRange bytes faults told t) (first_ranged o)
  first_empty None is = tt
  first_empty (Some e) is = by e.delta.files refl
    where
      one : IsOneOf (record { from = 0; to = e.to; delta = e.delta }) (ranged t)
      one = one_front (record { from = 0; to = e.to; delta = e.delta }) (base_ranged t.base) (singles_ranged (start_in t) t.singles) (subst (λ (b : Option Ending). IsOneOf (record { from = 0; to = e.to; delta = e.delta }) (base_ranged b)) (sym is) (inl refl))

      by : (f : Option Files) → e.delta.files ≡ f → AllByRecursion (IsOfRange bytes faults told t) (empty_ranged e.to f)
      by None none = (inr (record { range = record { from = 0; to = e.to; delta = e.delta }; one = one; at_from = refl; at_to = refl; none = refl; empty = none }), tt)
      by (Some f) some = tt

  pub all_of_range : (first all : List (RecastRange R)) → first ≡ first_ranged t.base → HasMore bytes faults told t first all → AllByRecursion (IsOfRange bytes faults told t) all
  all_of_range first all is more =
      subst (AllByRecursion (IsOfRange bytes faults told t)) (sym (more.1 ∙ ap (λ xs. xs ++ more.0) is))
      (all_append (IsOfRange bytes faults told t) (first_ranged t.base) more.0 (first_empty t.base refl)
      (all_so (IsOpenedRange bytes faults told t) (IsOfRange bytes faults told t) more.0 (λ x opened. inl opened) more.2))

-- ---- one file after another

module _ {R : Type 0} (bytes : R → Option (List ℕ)) (faults : R → ℕ) where
  -- where nothing is opened
  pub none_as : (told : Option Image) (l : Lineage) (r : Ranged) (xs : List (RecastRange R)) → HasMoreAs bytes faults told l r xs xs
  none_as told l r xs = ([], sym (append-nil xs), tt)

  pub one_as : (told : Option Image) (l : Lineage) (r : Ranged) (xs ys : List (RecastRange R)) (x : RecastRange R) → ys ≡ xs ++ x ∷ [] → IsOpenedAs bytes faults told l r.from r.to r.delta x → HasMoreAs bytes faults told l r xs ys
  one_as told l r xs ys x is opened = (x ∷ [], is, (opened, tt))

  pub opened_as : (told : Option Image) (l : Lineage) (r : Ranged) (f : Files) (w : Wanted) (i : Input R) → IsOpened bytes faults told w i → want_of w ≡ range_wanted l r.delta f → r.delta.files ≡ Some f
      → IsOpenedAs bytes faults told l r.from r.to r.delta (record { from = r.from; to = r.to; input = Some i })
  opened_as told l r f w i opened is there = record { at_from = refl; at_to = refl; input = i; has = refl; files = f; there = there; wanted = w; is = is; opened = opened }

  module _ (told then : Option Image) (same : then ≡ told) where
    pub then_as : (l : Lineage) (r : Ranged) (a b : List (RecastRange R)) → HasMoreAs bytes faults then l r a b → HasMoreAs bytes faults told l r a b
    then_as l r a b more = subst (λ i. HasMoreAs bytes faults i l r a b) same more

    -- what a version brought, behind those before
    pub single_step : (next : ℕ) (t : Table) (i : ℕ) (l : Loaded) (r : Ranged) (a b d : List (RecastRange R)) → IsTable next t → i < length t.loaded.items → l ≡ get_or t.loaded.items i l → r ≡ single_range l
        → HasMore bytes faults told (meta_of next t) a b → HasMoreAs bytes faults then t.evolving.value r b d → HasMore bytes faults told (meta_of next t) a d
    single_step next t i l r a b d is within at range before more =
        more_then bytes faults told (meta_of next t) a b d before
        (more_of bytes faults told (meta_of next t) r b d (subst (λ (x : Ranged). IsOneOf x (ranged (meta_of next t))) (sym range) (one_single next t i l is within at)) (then_as t.evolving.value r b d more))

    pub damaged_then : (t : TableMeta) (r : Ranged) (damage : Damage) → IsOneOf r (ranged t) → IsDamagedAs then t.lineage r.delta damage → IsDamagedRange told t damage
    damaged_then t r damage one met = record { range = r; one = one; damaged = subst (λ i. IsDamagedAs i t.lineage r.delta damage) same met }

-- longer lists, by what came behind
pub longer : {X : Type 0} (xs ys more : List X) (n : ℕ) → ys ≡ xs ++ more → n ≤ length xs → n ≤ length ys
longer xs ys more n is low = omega (arith, low, ap length is, length-append xs more)

-- what follows from what an outcome promises of its value
pub ok_so : {A E : Type 0} (r : Result A E) (P Q : A → Type 0) → ((a : A) → P a → Q a) → IfOk r P → IfOk r Q
ok_so (Ok a) P Q f p = f a p
ok_so (Err e) P Q f p = tt

pub some_so : {A : Type 0} (o : Option A) (P Q : A → Type 0) → ((a : A) → P a → Q a) → IfSome o P → IfSome o Q
some_so (Some a) P Q f p = f a p
some_so None P Q f p = tt
