-- When a fault may be answered, told by a count of faults.
use Rattle.std.specs.Prelude.{◌≡◌, ℕ, ◌+◌, ◌-◌, ◌^◌, ◌≤◌, min, Result, OnErr, OnOk, IfErr}

-- the last value of a count
abbrev pub last : ℕ
last = 2 ^ 64 - 1

-- A count of faults rose, or stands at its last value.
abbrev pub Rose : ℕ → ℕ → Type 0
Rose before now = min (before + 1) last ≤ now

-- A count of faults never falls. It rose where the call failed, and stays where it didn't.
pub record HasCause {T E : Type 0} (before now : ℕ) (result : Result T E) : Type 0 where
  pub later : before ≤ now
  pub failed : OnErr result (Rose before now)
  pub quiet : OnOk result (now ≡ before)

-- The same where only some of a call's errors are faults: with any other the count stays.
pub record HasFaultCause {T E : Type 0} (IsFault : E → Type 0) (before now : ℕ) (result : Result T E) : Type 0 where
  pub later : before ≤ now
  pub failed : IfErr result (λ e. IsFault e → Rose before now)
  pub quiet : OnOk result (now ≡ before)
  pub other : IfErr result (λ e. (IsFault e → ⊥) → now ≡ before)
