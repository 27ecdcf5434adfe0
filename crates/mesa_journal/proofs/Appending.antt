-- What a crash leaves at each moment of an append.
use Rattle.std.proofs.Common.{◌≡◌, ℕ, ◌+◌, ◌^◌, ◌<◌, List, [], ◌∷◌, ◌++◌, length, Option, Some, ◌∙◌, ap, subst, inl, inr}
use Rattle.mesa_disk.specs.Image.{Image, area_of, with_area, overwritten, Torn, InArea, Overwrites, Tears}
use Rattle.mesa_disk.specs.Story.{Story, Steps, After, Follows, Elapses, Spans}
use Rattle.mesa_disk.specs.declared.area.Area.{Area}
use Rattle.mesa_disk.proofs.Run.{spans_further, starts, goes_on, area_of-with_area, with_area-with_area}
use Rattle.mesa_journal.specs.Journal.{Closed, record_bytes}
use Rattle.mesa_journal.specs.Settled.{IsSettled, IsWithinAppend}
use Rattle.mesa_journal.proofs.Bytes.{Staged, closed_torn, closed_written, staged_torn, staged_either, staged_written}

-- what a read gave at the start, whose area is staged
abbrev IsStaged : Story → Area → List (List ℕ) → ℕ → List ℕ → Image → Type 0
IsStaged start area bodies end body = After (InArea area (λ old new. Staged new bodies end body)) (λ i. start.told ≡ Some i)

module _ (start : Story) (area : Area) (bodies : List (List ℕ)) (end : ℕ) (body : List ℕ) (small : length body < 2 ^ 32) (settled : IsSettled start area bodies end) where
  -- once the record was written, or not whole
  pub written : (n : ℕ) (now : Story) → Follows (Tears area (end + 1) n) start.may_leave now.may_leave → Elapses now.may_leave start now → Spans (IsWithinAppend start area bodies end body) start now
  written n now crash time =
      let left = λ (c : Image) (left : now.may_leave c). (
      let from = crash c left in
      let is : IsWithinAppend start area bodies end body c =
      inl (from.0, from.1, record { bytes = from.2.bytes; stepped = closed_torn bodies end n _ _ (settled.left from.0 from.1) from.2.stepped; same = from.2.same }) in
      is
      ) in
      record { run = goes_on _ now.may_leave start start now (starts _ start) time left; left = left }

  -- what a read gives once it was written whole
  pub staged : (record_is : List ℕ) → record_is ≡ record_bytes body → (told : Option Image)
      → Steps (Overwrites area (end + 1) record_is) start.told told → (c : Image) → told ≡ Some c → IsStaged start area bodies end body c
  staged record_is same told wrote c is =
      let from = wrote.back c is in
      (from.0, from.1, record { bytes = _; stepped = closed_written bodies end body _ _ (settled.read from.0 from.1) (ap (λ (l : List ℕ). overwritten (end + 1) l (area_of area from.0)) same); same = from.2 })

  within : (c : Image) → IsStaged start area bodies end body c → IsWithinAppend start area bodies end body c
  within c is = inr (is.0, is.1, record { bytes = is.2.bytes; stepped = staged_either bodies end body _ is.2.stepped small; same = is.2.same })

  torn_gate : (told : Option Image) (old new : Image → Type 0) → ((c : Image) → told ≡ Some c → IsStaged start area bodies end body c) → ((c : Image) → old c → told ≡ Some c)
      → Follows (Tears area end 1) old new → (c : Image) → new c → IsStaged start area bodies end body c
  torn_gate told old new is_staged only crash c left =
      let from = crash c left in
      let was = is_staged from.0 (only from.0 from.1) in
      let area_is : area_of area from.0 ≡ was.2.bytes = ap (area_of area) was.2.same ∙ area_of-with_area area was.2.bytes was.0 in
      let torn = subst (λ (l : List ℕ). Torn end 1 l from.2.bytes) area_is from.2.stepped in (
        was.0,
        was.1,
        record {
          bytes = from.2.bytes;
          stepped = staged_torn bodies end body _ _ was.2.stepped torn;
          same = from.2.same ∙ ap (with_area area from.2.bytes) was.2.same ∙ with_area-with_area area from.2.bytes was.2.bytes was.0;
        },
      )

  -- once the gate was written, or not
  pub gated : (mid now : Story) → Spans (IsWithinAppend start area bodies end body) start mid → ((c : Image) → mid.told ≡ Some c → IsStaged start area bodies end body c)
      → ((c : Image) → mid.may_leave c → mid.told ≡ Some c) → (gate : List ℕ) → gate ≡ 1 ∷ [] → Follows (Tears area end (length gate)) mid.may_leave now.may_leave → Elapses now.may_leave mid now
      → Spans (IsWithinAppend start area bodies end body) start now
  gated mid now so_far is_staged only gate gate_is crash time =
      let torn = subst (λ (l : List ℕ). Follows (Tears area end (length l)) mid.may_leave now.may_leave) gate_is crash in
      spans_further _ start mid now so_far (λ c left. within c (torn_gate mid.told mid.may_leave now.may_leave is_staged only torn c left)) time

  -- what a read gives once the gate is open
  pub opened : (told new : Option Image) → ((c : Image) → told ≡ Some c → IsStaged start area bodies end body c) → (gate : List ℕ) → gate ≡ 1 ∷ []
      → Steps (Overwrites area end gate) told new → (c : Image) → new ≡ Some c → Closed (area_of area c) (bodies ++ body ∷ []) (end + length body + 5)
  opened told new is_staged gate gate_is wrote c is =
      let from = wrote.back c is in
      let was = is_staged from.0 from.1 in
      let area_is : area_of area from.0 ≡ was.2.bytes = ap (area_of area) was.2.same ∙ area_of-with_area area was.2.bytes was.0 in
      let new_is : area_of area c ≡ overwritten end (1 ∷ []) was.2.bytes =
      ap (area_of area) from.2 ∙ area_of-with_area area _ from.0 ∙ ap (λ (l : List ℕ). overwritten end l (area_of area from.0)) gate_is ∙ ap (overwritten end (1 ∷ [])) area_is in
      staged_written bodies end body _ _ was.2.stepped small new_is
