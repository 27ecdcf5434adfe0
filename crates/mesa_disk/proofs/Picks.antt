-- The calls up to the last sync and those since, and what a pick leaves of them.
use Rattle.std.proofs.Common.{◌≡◌, ◌⊎◌, inl, inr, ⊎_elim, ℕ, ◌+◌, ◌-◌, ◌≤◌, nat_lt, List, [], ◌∷◌, ◌++◌, length, take, drop, replicate, get_or, Bool, true, false, if◌then◌else◌, refl, sym, ◌∙◌, ap, subst, arith, add-one, take-append-drop}
use Rattle.std.specs.Bool.{◌==◌}
use Rattle.std.proofs.lemmas.Bool.Decides.{nat_tests}
use Rattle.std.proofs.lemmas.List.{take_more, take_all, length-replicate}
use Rattle.std.specs.Arc.{arc_value}
use Rattle.mesa_disk.specs.Image.{Image, area_of, with_area, with_file, without_file, overwritten, Tears, May, Loses}
use Rattle.mesa_disk.specs.Recorded.{Left, seen_step, other_step, seen_after, OtherAfter, PastLeft, MayLeave, MayHaveLeft, IsPlaced, ArePlaced, nothing}
use Rattle.mesa_disk.specs.Picked.{synced, is_sync, picked_bytes, loses_name, picked_step, picked_after, picked_image, calls_before}
use Rattle.mesa_disk.specs.declared.area.Area.{Area}
use Rattle.mesa_disk.specs.declared.area.Area.TheVariants.{Zero, One}
use Rattle.mesa_disk.specs.declared.memory.calls.Done.{Done}
use Rattle.mesa_disk.specs.declared.memory.calls.Call.{Call}
use Rattle.mesa_disk.specs.declared.memory.calls.Call.TheVariants.{Write, Sync, Adopt, Remove}
use Rattle.mesa_disk.proofs.Noted.{torn_none, tears_overwritten, length-overwritten}

-- one call in front
abbrev counted : Done → ℕ → ℕ
counted e n = if n == 0 then (if is_sync e.call then 1 else 0) else n + 1

counted_some : (e : Done) (n : ℕ) → counted e (n + 1) ≡ n + 1 + 1
counted_some e n = grind (arith, nat_tests)

pub synced-sync : (calls : List Done) (d : Done) → d.call ≡ Sync → synced (calls ++ d ∷ []) ≡ length calls + 1
synced-sync [] d is = ap (λ c. if is_sync c then 1 else 0) is
synced-sync (e ∷ calls) d is = ap (counted e) (synced-sync calls d is) ∙ counted_some e (length calls) ∙ omega arith

pub synced-other : (calls : List Done) (d : Done) → is_sync d.call ≡ false → synced (calls ++ d ∷ []) ≡ synced calls
synced-other [] d is = ap (λ b. if b then 1 else 0) is
synced-other (e ∷ calls) d is = ap (counted e) (synced-other calls d is)

pub no_sync : (call : Call) → (call ≡ Sync → ⊥) → is_sync call ≡ false
no_sync (Write area at bytes) other = refl
no_sync Sync other = absurd (other refl)
no_sync (Adopt id bytes) other = refl
no_sync (Remove id) other = refl

pub last_of : (calls : List Done) (d : Done) → 1 ≤ length calls → d ≡ get_or calls (length calls - 1) d → calls ≡ take (length calls - 1) calls ++ d ∷ []
last_of calls d some is =
    let n = length calls - 1 in
    let whole : take (n + 1) calls ≡ calls = take_all (n + 1) calls (omega arith) in
    sym whole ∙ take_more calls n d (omega arith) ∙ ap (λ (x : Done). take n calls ++ x ∷ []) (sym is)

-- the length of an area that both images have
abbrev SameSizes : ℕ → Image → Image → Type 0
SameSizes pick seen left = (pick == 0) ≡ false → (a : Area) → length (area_of a left) ≡ length (area_of a seen)

abbrev NoSync : List Done → Type 0
NoSync [] = Unit {0}
NoSync (d ∷ ds) = (is_sync d.call ≡ false) × NoSync ds

length-picked : (pick : ℕ) (bytes : List ℕ) → length (picked_bytes pick bytes) ≡ length bytes
length-picked pick bytes = elim (pick == 2) as (λ b. length (if b then replicate (length bytes) 1 else bytes) ≡ length bytes) [ true ↦ length-replicate (length bytes) 1 | false ↦ refl ]

other_area : (area a : Area) (x : List ℕ) (i j : Image) → ((b : Area) → length (area_of b i) ≡ length (area_of b j)) → (y : List ℕ) → length x ≡ length y
    → length (area_of a (with_area area x i)) ≡ length (area_of a (with_area area y j))
other_area Zero Zero x i j same y is = is
other_area Zero One x i j same y is = same One
other_area One Zero x i j same y is = same Zero
other_area One One x i j same y is = is

module _ (pick : ℕ) where
  tears_picked : (area : Area) (at : ℕ) (bytes : List ℕ) (seen left : Image) → at ≤ length (area_of area seen) → SameSizes pick seen left → (b : Bool) → (pick == 0) ≡ b
      → Tears area at (length bytes) left (if b then left else with_area area (overwritten at (picked_bytes pick bytes) (area_of area left)) left)
  tears_picked area at bytes seen left placed same true is = torn_none at (length bytes) area left
  tears_picked area at bytes seen left placed same false is =
      let within : at ≤ length (area_of area left) = omega (arith, same is area) in
      subst (λ n. Tears area at n left (with_area area (overwritten at (picked_bytes pick bytes) (area_of area left)) left)) (length-picked pick bytes)
      (tears_overwritten area at (picked_bytes pick bytes) left _ within refl)

  lost : (id : ℕ) (left : Image) (b : Bool) → May Loses id left (if b then left else without_file id left)
  lost id left true = inl refl
  lost id left false = inr refl

  named : (id : ℕ) (bytes : List ℕ) (left : Image) (b : Bool) → ((if b then left else with_file id bytes left) ≡ left) ⊎ ((if b then left else with_file id bytes left) ≡ with_file id bytes left)
  named id bytes left true = inl refl
  named id bytes left false = inr refl

  become : (call : Call) (seen : Image) (other : Image → Type 0) (left : Image) → is_sync call ≡ false → IsPlaced call seen → SameSizes pick seen left
      → Left seen other left → Left (seen_step call seen) (other_step call seen other) (picked_step pick call left)
  become (Write area at bytes) seen other left pending placed same had = inr (left, had, tears_picked area at bytes seen left placed same (pick == 0) refl)
  become Sync seen other left pending placed same had = absurd (let e : true ≡ false = pending in cc)
  become (Adopt id bytes) seen other left pending placed same had = inr (left, had, named id (arc_value bytes) left (loses_name pick id))
  become (Remove id) seen other left pending placed same had = inr (left, had, lost id left (loses_name pick id))

  same_step : (call : Call) (seen left : Image) → IsPlaced call seen → SameSizes pick seen left → SameSizes pick (seen_step call seen) (picked_step pick call left)
  same_step (Write area at bytes) seen left placed same some a =
      let within : at ≤ length (area_of area left) = omega (arith, same some area) in
      let longer : length (overwritten at (picked_bytes pick bytes) (area_of area left)) ≡ length (overwritten at bytes (area_of area seen)) =
      omega (arith, length-overwritten at (picked_bytes pick bytes) (area_of area left) within, length-overwritten at bytes (area_of area seen) placed, length-picked pick bytes, same some area) in
      ap (λ b. length (area_of a (if b then left else with_area area (overwritten at (picked_bytes pick bytes) (area_of area left)) left))) some
      ∙ other_area area a _ left seen (same some) _ longer
  same_step Sync seen left placed same some a = same some a
  same_step (Adopt id bytes) seen left placed same some a = untouched a (loses_name pick id)
    where
      untouched : (a : Area) (b : Bool) → length (area_of a (if b then left else with_file id (arc_value bytes) left)) ≡ length (area_of a (with_file id (arc_value bytes) seen))
      untouched Zero true = same some Zero
      untouched Zero false = same some Zero
      untouched One true = same some One
      untouched One false = same some One
  same_step (Remove id) seen left placed same some a = untouched a (loses_name pick id)
    where
      untouched : (a : Area) (b : Bool) → length (area_of a (if b then left else without_file id left)) ≡ length (area_of a (without_file id seen))
      untouched Zero true = same some Zero
      untouched Zero false = same some Zero
      untouched One true = same some One
      untouched One false = same some One

  grown : (seen : Image) (other : Image → Type 0) (calls : List Done) (left : Image) → NoSync calls → ArePlaced seen calls → SameSizes pick seen left → Left seen other left
      → Left (seen_after seen calls) (OtherAfter seen other calls) (picked_after pick left calls)
  grown seen other [] left pending placed same had = had
  grown seen other (d ∷ ds) left pending placed same had =
      grown (seen_step d.call seen) (other_step d.call seen other) ds (picked_step pick d.call left) pending.1 placed.1 (same_step d.call seen left placed.0 same) (become d.call seen other left pending.0 placed.0 same had)

joined : (seen : Image) (other : Image → Type 0) (xs ys : List Done) (c : Image) → Left (seen_after (seen_after seen xs) ys) (OtherAfter (seen_after seen xs) (OtherAfter seen other xs) ys) c
    → Left (seen_after seen (xs ++ ys)) (OtherAfter seen other (xs ++ ys)) c
joined seen other [] ys c had = had
joined seen other (x ∷ xs) ys c had = joined (seen_step x.call seen) (other_step x.call seen other) xs ys c had

placed_rest : (seen : Image) (xs ys : List Done) → ArePlaced seen (xs ++ ys) → ArePlaced (seen_after seen xs) ys
placed_rest seen [] ys all = all
placed_rest seen (x ∷ xs) ys all = placed_rest (seen_step x.call seen) xs ys all.1

-- no sync after the last one
record Pending (calls : List Done) (n : ℕ) : Type 0 where
  all : n ≡ 0 → NoSync calls
  rest : NoSync (drop n calls)

pending_step : (d : Done) (ds : List Done) (n : ℕ) → Pending ds n → (none b : Bool) → (n == 0) ≡ none → is_sync d.call ≡ b → Pending (d ∷ ds) (if none then (if b then 1 else 0) else n + 1)
pending_step d ds n pending true true zero_n is = let n_is : n ≡ 0 = grind (arith, nat_tests) in record { all = λ e. absurd (omega arith); rest = pending.all n_is }
pending_step d ds n pending true false zero_n is = let n_is : n ≡ 0 = grind (arith, nat_tests) in record { all = λ e. (is, pending.all n_is); rest = (is, pending.all n_is) }
pending_step d ds n pending false b some is = record { all = λ e. absurd (omega arith); rest = rw add-one pending.rest }

pending_of : (calls : List Done) → Pending calls (synced calls)
pending_of [] = record { all = λ e. tt; rest = tt }
pending_of (d ∷ ds) = pending_step d ds (synced ds) (pending_of ds) (synced ds == 0) (is_sync d.call) refl refl

-- what the pick leaves is one of the images
pub picked_left : (pick : ℕ) (start : Image) (calls : List Done) → ArePlaced start calls → MayLeave start calls (picked_image pick start calls)
picked_left pick start calls placed =
    let n = synced calls in
    let whole : take n calls ++ drop n calls ≡ calls = take-append-drop n calls in
    let seen = seen_after start (take n calls) in
    let rest : ArePlaced seen (drop n calls) = placed_rest start (take n calls) (drop n calls) (subst (ArePlaced start) (sym whole) placed) in
    let left = grown pick seen (OtherAfter start nothing (take n calls)) (drop n calls) seen (pending_of calls).rest rest (λ some a. refl) (inl refl) in
    subst (λ ds. MayLeave start ds (picked_image pick start calls)) whole (joined start nothing (take n calls) (drop n calls) _ left)

placed_before : (moment : ℕ) (seen : Image) (calls : List Done) → ArePlaced seen calls → ArePlaced seen (calls_before moment calls)
placed_before moment seen [] all = tt
placed_before moment seen (d ∷ ds) all =
    elim (nat_lt d.before moment) as (λ b. ArePlaced seen (if b then d ∷ calls_before moment ds else [])) [ true ↦ (all.0, placed_before moment (seen_step d.call seen) ds all.1) | false ↦ tt ]

not_before : (b m : ℕ) → nat_lt b m ≡ false → m ≤ b
not_before b m later = grind (arith, nat_tests)

-- what a crash before a moment's first call leaves, one since that moment may have left
past_before : (moment : ℕ) (seen : Image) (other : Image → Type 0) (calls : List Done) (c : Image)
    → Left (seen_after seen (calls_before moment calls)) (OtherAfter seen other (calls_before moment calls)) c
    → Left (seen_after seen calls) (OtherAfter seen other calls) c ⊎ PastLeft seen other calls moment c
past_before moment seen other [] c left = inl left
past_before moment seen other (d ∷ ds) c left = by_case (nat_lt d.before moment) refl (past_before moment (seen_step d.call seen) (other_step d.call seen other) ds c) left
  where
    by_case : (b : Bool) → nat_lt d.before moment ≡ b
        → (Left (seen_after (seen_step d.call seen) (calls_before moment ds)) (OtherAfter (seen_step d.call seen) (other_step d.call seen other) (calls_before moment ds)) c
        → Left (seen_after (seen_step d.call seen) ds) (OtherAfter (seen_step d.call seen) (other_step d.call seen other) ds) c ⊎ PastLeft (seen_step d.call seen) (other_step d.call seen other) ds moment c)
        → Left (seen_after seen (if b then d ∷ calls_before moment ds else [])) (OtherAfter seen other (if b then d ∷ calls_before moment ds else [])) c
        → Left (seen_after seen (d ∷ ds)) (OtherAfter seen other (d ∷ ds)) c ⊎ PastLeft seen other (d ∷ ds) moment c
    by_case true is further had = ⊎_elim (λ l. inl l) (λ p. inr (inr p)) (further had)
    by_case false is further had = inr (inl (not_before d.before moment is, had))

pub image_left : (pick moment : ℕ) (start : Image) (calls : List Done) → ArePlaced start calls → MayHaveLeft start calls moment (picked_image pick start (calls_before moment calls))
image_left pick moment start calls placed = past_before moment start nothing calls _ (picked_left pick start (calls_before moment calls) (placed_before moment start calls placed))
