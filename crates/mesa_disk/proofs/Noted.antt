-- One call more in the record of a disk in memory.
use Rattle.std.proofs.Common.{◌≡◌, ◌⊎◌, inl, inr, ⊎_elim, ℕ, ◌+◌, ◌-◌, ◌≤◌, max, List, [], ◌∷◌, ◌++◌, length, take, drop, Some, refl, sym, ◌∙◌, ap, subst, arith, append_assoc, length-append, length-drop}
use Rattle.std.proofs.lemmas.List.{take_at, drop_at, length-take-le}
use Rattle.mesa_io.specs.Causes.{Rose}
use Rattle.mesa_disk.specs.Image.{Image, area_of, with_area, with_file, overwritten, Torn, Tears, Adopts}
use Rattle.mesa_disk.specs.Story.{Steps, After, Follows}
use Rattle.mesa_disk.specs.Recorded.{Left, seen_step, other_step, seen_after, OtherAfter, PastLeft, MayLeave, MayHaveLeft, AllBefore, IsPlaced, ArePlaced, nothing}
use Rattle.mesa_disk.specs.Memory.{start_of, seen_of, Notes, Keeps}
use Rattle.mesa_disk.specs.declared.area.Area.{Area}
use Rattle.mesa_disk.specs.declared.memory.calls.Done.{Done}
use Rattle.mesa_disk.specs.declared.memory.calls.Call.{Call}
use Rattle.mesa_disk.specs.declared.memory.calls.Call.TheVariants.{Sync}
use Rattle.mesa_disk.specs.declared.memory.calls.CallLog.{CallLog}
use Rattle.mesa_disk.proofs.Run.{with_area-area_of}

pub AllBefore-later : (calls : List Done) (before after : ℕ) → before ≤ after → AllBefore before calls → AllBefore after calls
AllBefore-later [] before after le all = tt
AllBefore-later (d ∷ ds) before after le all = (let h : Rose d.before before = all.0 in omega arith, AllBefore-later ds before after le all.1)

AllBefore-push : (calls : List Done) (d : Done) (clock : ℕ) → AllBefore clock calls → Rose d.before clock → AllBefore clock (calls ++ d ∷ [])
AllBefore-push [] d clock all rose = (rose, tt)
AllBefore-push (e ∷ calls) d clock all rose = (all.0, AllBefore-push calls d clock all.1 rose)

pub stamped_more : (calls new_calls : List Done) (d : Done) (before after : ℕ) → AllBefore before calls → before ≤ after → Rose d.before after → new_calls ≡ calls ++ d ∷ [] → AllBefore after new_calls
stamped_more calls new_calls d before after all le rose is = subst (AllBefore after) (sym is) (AllBefore-push calls d after (AllBefore-later calls before after le all) rose)

pub seen_push : (seen : Image) (calls : List Done) (d : Done) → seen_after seen (calls ++ d ∷ []) ≡ seen_step d.call (seen_after seen calls)
seen_push seen [] d = refl
seen_push seen (e ∷ calls) d = seen_push (seen_step e.call seen) calls d

placed_push : (seen : Image) (calls : List Done) (d : Done) → ArePlaced seen calls → IsPlaced d.call (seen_after seen calls) → ArePlaced seen (calls ++ d ∷ [])
placed_push seen [] d all placed = (placed, tt)
placed_push seen (e ∷ calls) d all placed = (all.0, placed_push (seen_step e.call seen) calls d all.1 placed)

-- the invariant of a record after a call that was noted
pub tied_more : (start new_start held new_held : Image) (calls new_calls : List Done) (d : Done) → new_start ≡ start → new_calls ≡ calls ++ d ∷ []
    → held ≡ seen_after start calls → new_held ≡ seen_step d.call held → new_held ≡ seen_after new_start new_calls
tied_more start new_start held new_held calls new_calls d begun is tied next =
    next ∙ ap (seen_step d.call) tied ∙ sym (seen_push start calls d) ∙ ap (seen_after start) (sym is) ∙ ap (λ s. seen_after s new_calls) (sym begun)

pub placed_more : (start new_start held : Image) (calls new_calls : List Done) (d : Done) → new_start ≡ start → new_calls ≡ calls ++ d ∷ []
    → held ≡ seen_after start calls → ArePlaced start calls → IsPlaced d.call held → ArePlaced new_start new_calls
placed_more start new_start held calls new_calls d begun is tied all placed =
    subst (λ s. ArePlaced s new_calls) (sym begun) (subst (ArePlaced start) (sym is) (placed_push start calls d all (subst (IsPlaced d.call) tied placed)))

-- and where none was
pub tied_same : (start new_start held new_held : Image) (calls new_calls : List Done) → new_start ≡ start → new_calls ≡ calls → held ≡ seen_after start calls → new_held ≡ held → new_held ≡ seen_after new_start new_calls
tied_same start new_start held new_held calls new_calls begun is tied same = same ∙ tied ∙ ap (seen_after start) (sym is) ∙ ap (λ s. seen_after s new_calls) (sym begun)

pub placed_same : (start new_start : Image) (calls new_calls : List Done) → new_start ≡ start → new_calls ≡ calls → ArePlaced start calls → ArePlaced new_start new_calls
placed_same start new_start calls new_calls begun is all = subst (λ s. ArePlaced s new_calls) (sym begun) (subst (ArePlaced start) (sym is) all)

other_push : (seen : Image) (other : Image → Type 0) (calls : List Done) (d : Done) (c : Image) → OtherAfter seen other (calls ++ d ∷ []) c → other_step d.call (seen_after seen calls) (OtherAfter seen other calls) c
other_push seen other [] d c left = left
other_push seen other (e ∷ calls) d c left = other_push (seen_step e.call seen) (other_step e.call seen other) calls d c left

past_push : (seen : Image) (other : Image → Type 0) (calls : List Done) (d : Done) (t : ℕ) (c : Image) → PastLeft seen other (calls ++ d ∷ []) t c
    → PastLeft seen other calls t c ⊎ Left (seen_after seen calls) (OtherAfter seen other calls) c
past_push seen other [] d t c (inl (before, left)) = inr left
past_push seen other [] d t c (inr past) = inl past
past_push seen other (e ∷ calls) d t c (inl now) = inl (inl now)
past_push seen other (e ∷ calls) d t c (inr past) = ⊎_elim (λ p. inl (inr p)) (λ l. inr l) (past_push (seen_step e.call seen) (other_step e.call seen other) calls d t c past)

past_kept : (seen : Image) (other : Image → Type 0) (calls : List Done) (d : Done) (t : ℕ) (c : Image) → PastLeft seen other calls t c → PastLeft seen other (calls ++ d ∷ []) t c
past_kept seen other [] d t c past = absurd past
past_kept seen other (e ∷ calls) d t c (inl now) = inl now
past_kept seen other (e ∷ calls) d t c (inr past) = inr (past_kept (seen_step e.call seen) (other_step e.call seen other) calls d t c past)

now_past : (seen : Image) (other : Image → Type 0) (calls : List Done) (d : Done) (t : ℕ) (c : Image) → t ≤ d.before → Left (seen_after seen calls) (OtherAfter seen other calls) c → PastLeft seen other (calls ++ d ∷ []) t c
now_past seen other [] d t c le left = inl (le, left)
now_past seen other (e ∷ calls) d t c le left = inr (now_past (seen_step e.call seen) (other_step e.call seen other) calls d t c le left)

pub steps_some : (R : Image → Image → Type 0) (i j : Image) → R i j → Steps R (Some i) (Some j)
steps_some R i j r = record {
  on = λ k e. let same : i ≡ k = cc in (j, refl, subst (λ (l : Image). R l j) same r);
  back = λ k e. let same : j ≡ k = cc in (i, refl, subst (λ (l : Image). R i l) same r);
}

pub torn_none : (at n : ℕ) (area : Area) (i : Image) → Tears area at n i i
torn_none at n area i = record {
  bytes = area_of area i;
  stepped = record { before = refl; after = refl; no_shorter = omega arith; no_longer = omega arith };
  same = sym (with_area-area_of area i);
}

pub torn_overwritten : (at : ℕ) (bytes old : List ℕ) → at ≤ length old → Torn at (length bytes) old (overwritten at bytes old)
torn_overwritten at bytes old within =
    let n = length bytes in
    let rest = drop (at + n) old in
    let front : length (take at old) ≡ at = length-take-le at old within in
    let split : overwritten at bytes old ≡ take at old ++ (bytes ++ rest) = append_assoc (take at old) bytes rest in
    let len : length (overwritten at bytes old) ≡ at + n + (length old - (at + n)) =
    omega (arith, length-append (take at old ++ bytes) rest, length-append (take at old) bytes, front, length-drop (at + n) old) in
    record {
      before = ap (λ (l : List ℕ). take at l) split ∙ take_at (take at old) (bytes ++ rest) at front;
      after = drop_at (take at old ++ bytes) rest (at + n) (omega (arith, length-append (take at old) bytes, front));
      no_shorter = omega (arith, len);
      no_longer = omega (arith, len);
    }

pub tears_overwritten : (area : Area) (at : ℕ) (bytes : List ℕ) (i j : Image) → at ≤ length (area_of area i) → j ≡ with_area area (overwritten at bytes (area_of area i)) i → Tears area at (length bytes) i j
tears_overwritten area at bytes i j within is = record { bytes = overwritten at bytes (area_of area i); stepped = torn_overwritten at bytes (area_of area i) within; same = is }

pub adopts_told : (id : ℕ) (bytes : List ℕ) (i j : Image) → j ≡ with_file id bytes i → Adopts (id, Some bytes) i j
adopts_told id bytes i j is = record { bytes = bytes; told = refl; same = is }

-- what a crash leaves after a call that was noted
module _ (old new : CallLog) (d : Done) (notes : Notes d old new) where
  as_noted : (F : Image → List Done → Type 0) → F (start_of new) new.calls.items → F (start_of old) (old.calls.items ++ d ∷ [])
  as_noted F h = subst (F (start_of old)) notes.calls (subst (λ s. F s new.calls.items) notes.start h)

  from_noted : (F : Image → List Done → Type 0) → F (start_of old) (old.calls.items ++ d ∷ []) → F (start_of new) new.calls.items
  from_noted F h = subst (λ s. F s new.calls.items) (sym notes.start) (subst (F (start_of old)) (sym notes.calls) h)

  pub passed : (t : ℕ) (c : Image) → MayHaveLeft (start_of new) new.calls.items t c → MayHaveLeft (start_of old) old.calls.items t c ⊎ MayLeave (start_of new) new.calls.items c
  passed t c (inl now) = inr now
  passed t c (inr past) =
      ⊎_elim (λ p. inl (inr p)) (λ l. inl (inl l)) (past_push (start_of old) nothing old.calls.items d t c (as_noted (λ s ds. PastLeft s nothing ds t c) past))

  pub kept : (t : ℕ) (c : Image) → t ≤ d.before → MayHaveLeft (start_of old) old.calls.items t c → MayHaveLeft (start_of new) new.calls.items t c
  kept t c le (inl now) = inr (from_noted (λ s ds. PastLeft s nothing ds t c) (now_past (start_of old) nothing old.calls.items d t c le now))
  kept t c le (inr past) = inr (from_noted (λ s ds. PastLeft s nothing ds t c) (past_kept (start_of old) nothing old.calls.items d t c past))

  -- by what the call does
  pub left_by : (R : Image → Image → Type 0) → R (seen_after (start_of old) old.calls.items) (seen_step d.call (seen_after (start_of old) old.calls.items))
      → ((x : Image) → other_step d.call (seen_after (start_of old) old.calls.items) (OtherAfter (start_of old) nothing old.calls.items) x → After R (MayLeave (start_of old) old.calls.items) x)
      → Follows R (MayLeave (start_of old) old.calls.items) (MayLeave (start_of new) new.calls.items)
  left_by R seen other c left = by_case (as_noted (λ s ds. MayLeave s ds c) left)
    where
      by_case : MayLeave (start_of old) (old.calls.items ++ d ∷ []) c → After R (MayLeave (start_of old) old.calls.items) c
      by_case (inl now) = (seen_after (start_of old) old.calls.items, inl refl, subst (R (seen_after (start_of old) old.calls.items)) (sym (seen_push (start_of old) old.calls.items d) ∙ now) seen)
      by_case (inr left) = other c (other_push (start_of old) nothing old.calls.items d c left)

  -- after a sync only what a read gives
  pub sync_left : d.call ≡ Sync → (c : Image) → MayLeave (start_of new) new.calls.items c → seen_of old ≡ c
  sync_left is c left = by_case (as_noted (λ s ds. MayLeave s ds c) left)
    where
      none : (call : Call) → call ≡ Sync → (seen : Image) (other : Image → Type 0) (x : Image) → other_step call seen other x → ⊥
      none call same seen other x left = subst (λ k. other_step k seen other x) same left

      by_case : MayLeave (start_of old) (old.calls.items ++ d ∷ []) c → seen_of old ≡ c
      by_case (inl now) = old.tied ∙ ap (λ k. seen_step k (seen_after (start_of old) old.calls.items)) (sym is) ∙ sym (seen_push (start_of old) old.calls.items d) ∙ now
      by_case (inr left) = absurd (none d.call is _ _ c (other_push (start_of old) nothing old.calls.items d c left))

-- what a crash leaves after a call that was not noted
module _ (old new : CallLog) (keeps : Keeps old new) where
  pub same_left : (F : Image → List Done → Type 0) → F (start_of new) new.calls.items → F (start_of old) old.calls.items
  same_left F h = subst (F (start_of old)) keeps.calls (subst (λ s. F s new.calls.items) keeps.start h)

  pub left_same : (F : Image → List Done → Type 0) → F (start_of old) old.calls.items → F (start_of new) new.calls.items
  left_same F h = subst (λ s. F s new.calls.items) (sym keeps.start) (subst (F (start_of old)) (sym keeps.calls) h)

pub length-overwritten : (at : ℕ) (bytes old : List ℕ) → at ≤ length old → length (overwritten at bytes old) ≡ max (length old) (at + length bytes)
length-overwritten at bytes old within =
    omega (arith, length-append (take at old ++ bytes) (drop (at + length bytes) old), length-append (take at old) bytes, length-take-le at old within, length-drop (at + length bytes) old)
