-- How a run of device calls goes on, and what changes of one area do to an image.
use Rattle.std.proofs.Common.{◌⊎◌, ◌<◌, Option, ◌∙◌, ap, ◌≡◌, inl, inr, ⊎_elim, ℕ, ◌≤◌, List, refl, arith}
use Rattle.mesa_disk.specs.Image.{Image, area_of, with_area, InArea, AnyChange}
use Rattle.mesa_io.specs.Causes.{last}
use Rattle.mesa_disk.specs.Story.{Story, Steps, After, Elapses, Spans}
use Rattle.mesa_disk.specs.declared.area.Area.{Area}
use Rattle.mesa_disk.specs.declared.area.Area.TheVariants.{Zero, One}

pub area_of-with_area : (a : Area) (bytes : List ℕ) (i : Image) → area_of a (with_area a bytes i) ≡ bytes
area_of-with_area Zero bytes i = refl
area_of-with_area One bytes i = refl

pub with_area-with_area : (a : Area) (x y : List ℕ) (i : Image) → with_area a x (with_area a y i) ≡ with_area a x i
with_area-with_area Zero x y i = refl
with_area-with_area One x y i = refl

-- before the first call
pub starts : (P : Image → Type 0) (s : Story) → Elapses P s s
starts P s = record { later = omega arith; nothing_else = λ t c le left. inl left; keeps = λ t c le left. left }

-- one call more, or one run more, after which a crash leaves what has P
pub goes_on : (P Q : Image → Type 0) (a b d : Story) → Elapses P a b → Elapses Q b d → ((c : Image) → Q c → P c) → Elapses P a d
goes_on P Q a b d so_far next here = record {
  later = omega (arith, so_far.later, next.later);
  nothing_else = λ t c le left. ⊎_elim (so_far.nothing_else t c le) (λ q. inr (here c q)) (next.nothing_else t c (omega (arith, le, so_far.later)) left);
  keeps = λ t c le left. next.keeps t c (omega (arith, le, so_far.later)) (so_far.keeps t c le left);
}

-- a run whose images all have P
pub weakens : (P Q : Image → Type 0) (a b : Story) → Elapses Q a b → ((c : Image) → Q c → P c) → Elapses P a b
weakens P Q a b run here = goes_on P Q a a b (starts P a) run here

pub with_area-area_of : (a : Area) (i : Image) → with_area a (area_of a i) i ≡ i
with_area-area_of Zero i = refl
with_area-area_of One i = refl

pub changed : (area : Area) (step : List ℕ → List ℕ → Type 0) (i j : Image) → InArea area step i j → AnyChange area i j
changed area step i j is = record { bytes = is.bytes; stepped = tt; same = is.same }

pub changed_twice : (area : Area) (i j k : Image) → AnyChange area i j → AnyChange area j k → AnyChange area i k
changed_twice area i j k first second = record {
  bytes = second.bytes;
  stepped = tt;
  same = second.same ∙ ap (with_area area second.bytes) first.same ∙ with_area-with_area area second.bytes first.bytes i;
}

pub told_changed : (area : Area) (step : List ℕ → List ℕ → Type 0) (old new : Option Image) → Steps (InArea area step) old new → Steps (AnyChange area) old new
told_changed area step old new is = record {
  on = λ i e. let to = is.on i e in (to.0, to.1, changed area step i to.0 to.2);
  back = λ j e. let from = is.back j e in (from.0, from.1, changed area step from.0 j from.2);
}

pub told_twice : (area : Area) (old mid new : Option Image) → Steps (AnyChange area) old mid → Steps (AnyChange area) mid new → Steps (AnyChange area) old new
told_twice area old mid new first second = record {
  on = λ i e. let a = first.on i e in let b = second.on a.0 a.1 in (b.0, b.1, changed_twice area i a.0 b.0 a.2 b.2);
  back = λ k e. let b = second.back k e in let a = first.back b.0 b.1 in (a.0, a.1, changed_twice area a.0 b.0 k a.2 b.2);
}

-- what a crash now leaves after a run, while the clock is below its last value
pub left_now : (P : Image → Type 0) (old new : Story) → Elapses P old new → old.moment < last
    → ((t : ℕ) (c : Image) → t ≤ new.moment → new.may_leave c → new.may_have_left t c)
    → ((c : Image) → old.moment < last → old.may_have_left old.moment c → old.may_leave c)
    → (c : Image) → new.may_leave c → old.may_leave c ⊎ P c
left_now P old new run below counts only c left =
    ⊎_elim (λ had. inl (only c below had)) (λ p. inr p) (run.nothing_else old.moment c (omega arith) (counts old.moment c run.later left))

-- ---- runs that span

-- before the first call
pub spans_none : (P : Image → Type 0) (s : Story) → ((c : Image) → s.may_leave c → P c) → Spans P s s
spans_none P s left = record { run = starts P s; left = left }

-- one run more
pub spans_on : (P Q : Image → Type 0) (a b d : Story) → Spans P a b → Spans Q b d → ((c : Image) → Q c → P c) → Spans P a d
spans_on P Q a b d so_far next here = record { run = goes_on P Q a b d so_far.run next.run here; left = λ c left. here c (next.left c left) }

-- one call more
pub spans_further : (P : Image → Type 0) (a b d : Story) → Spans P a b → ((c : Image) → d.may_leave c → P c) → Elapses d.may_leave b d → Spans P a d
spans_further P a b d so_far left time = spans_on P d.may_leave a b d so_far (record { run = time; left = λ c l. l }) left

-- one sync more
pub spans_synced : (P : Image → Type 0) (a b d : Story) → Spans P a b → ((c : Image) → d.may_leave c → b.may_leave c) → Elapses d.may_leave b d → Spans P a d
spans_synced P a b d so_far crash time = spans_further P a b d so_far (λ c left. so_far.left c (crash c left)) time

-- a weaker P
pub spans_weaken : (P Q : Image → Type 0) (a b : Story) → Spans Q a b → ((c : Image) → Q c → P c) → Spans P a b
spans_weaken P Q a b run here = record { run = weakens P Q a b run.run here; left = λ c left. here c (run.left c left) }

-- a run whose images are earlier ones after a step, where P holds before and each step keeps it
pub spans_kept : (P : Image → Type 0) (step : Image → Image → Type 0) (a b : Story) → Spans (After step a.may_leave) a b → ((c : Image) → a.may_leave c → P c) → ((i j : Image) → step i j → P i → P j) → Spans P a b
spans_kept P step a b run had keeps = spans_weaken P (After step a.may_leave) a b run (λ c from. keeps from.0 c from.2 (had from.0 from.1))
