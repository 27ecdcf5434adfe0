-- The laws of a disk in memory.
use Rattle.std.specs.Prelude.{◌≡◌, ℕ, ◌^◌, ◌<◌, ◌≤◌, List, [], ◌∷◌, length, Option, None, Some}
use Rattle.std.proofs.Common.{inl, inr, sym, arith, ◌∙◌, ap}
use Rattle.mesa_io.specs.Causes.{last, Rose}
use Rattle.mesa_disk.specs.Image.{Image, area_of}
use Rattle.mesa_disk.specs.Recorded.{start_image, now_image, seen_step, other_step, seen_after, PastLeft, AllBefore, nothing, MayLeave, MayHaveLeft}
use Rattle.mesa_disk.specs.declared.memory.calls.Done.{Done}
use Rattle.mesa_disk.specs.declared.memory.held.Held.{Held}
use Rattle.mesa_disk.specs.declared.memory.held.Start.{Start}
use Rattle.mesa_disk.specs.declared.memory.held.Start.TheVariants.{AsGiven, Shared}
use Rattle.mesa_disk.specs.declared.area.Area.{Area}
use Rattle.mesa_disk.specs.declared.area.Area.TheVariants.{Zero, One}

pub told_is_left : (start held i : Image) (calls : List Done) → held ≡ seen_after start calls → Some held ≡ Some i → MayLeave start calls i
told_is_left start held i calls tied is = let same : held ≡ i = cc in inl (sym tied ∙ same)

pub told_len : (held i : Image) (a : Area) → Some held ≡ Some i → length (area_of a i) ≡ length (area_of a held)
told_len held i a is = let same : held ≡ i = cc in ap (λ (k : Image). length (area_of a k)) (sym same)

pub past_earlier : (seen : Image) (other : Image → Type 0) (calls : List Done) (s t : ℕ) (c : Image) → s ≤ t → PastLeft seen other calls t c → PastLeft seen other calls s c
past_earlier seen other [] s t c le past = past
past_earlier seen other (d ∷ ds) s t c le (inl (before, left)) = inl (let h : s ≤ d.before = omega arith in h, left)
past_earlier seen other (d ∷ ds) s t c le (inr past) = inr (past_earlier (seen_step d.call seen) (other_step d.call seen other) ds s t c le past)

pub left_earlier : (start : Image) (calls : List Done) (s t : ℕ) (c : Image) → s ≤ t → MayHaveLeft start calls t c → MayHaveLeft start calls s c
left_earlier start calls s t c le (inl now) = inl now
left_earlier start calls s t c le (inr past) = inr (past_earlier start nothing calls s t c le past)

no_past : (seen : Image) (other : Image → Type 0) (calls : List Done) (clock : ℕ) (c : Image) → clock < last → AllBefore clock calls → PastLeft seen other calls clock c → ⊥
no_past seen other [] clock c below all past = past
no_past seen other (d ∷ ds) clock c below all (inl (before, left)) = let rose : Rose d.before clock = all.0 in omega arith
no_past seen other (d ∷ ds) clock c below all (inr past) = no_past (seen_step d.call seen) (other_step d.call seen other) ds clock c below all.1 past

pub only_present : (start : Image) (calls : List Done) (clock : ℕ) (c : Image) → AllBefore clock calls → clock < last → MayHaveLeft start calls clock c → MayLeave start calls c
only_present start calls clock c all below (inl now) = now
only_present start calls clock c all below (inr past) = absurd (no_past start nothing calls clock c below all past)

pub same_size : (a b : List ℕ) → Some a ≡ Some b → length b ≡ length a
same_size a b is = let same : a ≡ b = cc in ap length (sym same)

start_small : (start : Start) (a : Area) → length (area_of a (start_image start)) < 2 ^ 64
start_small (AsGiven given) Zero = omega (arith, given.zero.ok, given.zero.small)
start_small (AsGiven given) One = omega (arith, given.one.ok, given.one.small)
start_small (Shared held) Zero = omega (arith, held.zero.ok, held.zero.small)
start_small (Shared held) One = omega (arith, held.one.ok, held.one.small)

pub area_small : (start : Start) (held : Option Held) (a : Area) → length (area_of a (now_image start held)) < 2 ^ 64
area_small start None a = start_small start a
area_small start (Some held) Zero = omega (arith, held.zero.ok, held.zero.small)
area_small start (Some held) One = omega (arith, held.one.ok, held.one.small)
