-- What the bytes of a journal area stand for.
use Rattle.std.specs.Prelude.{◌≡◌, ◌≢◌, ◌⊎◌, ℕ, ◌+◌, ◌-◌, ◌^◌, ◌<◌, ◌≤◌, List, [], ◌∷◌, ◌++◌, length, take, drop}
use Rattle.std.specs.Int.{w32, to_be_bytes, from_be_bytes}

-- a length as four bytes, the highest first
unfoldable pub word : ℕ → List ℕ
word n = to_be_bytes w32 n

unfoldable pub of_word : List ℕ → ℕ
of_word bytes = from_be_bytes w32 bytes

-- a record that counts: an open gate, the body's length, the body
abbrev pub frames : List (List ℕ) → List ℕ
frames [] = []
frames (body ∷ bodies) = 1 ∷ word (length body) ++ body ++ frames bodies

-- each body's length fits its field
abbrev pub AllFit : List (List ℕ) → Type 0
AllFit [] = Unit {0}
AllFit (body ∷ bodies) = (length body < 2 ^ 32) × AllFit bodies

-- the bodies of the records that count, and a gate behind them that isn't open, whatever follows
pub record Closed (area : List ℕ) (bodies : List (List ℕ)) (end : ℕ) : Type 0 where
  pub gate : ℕ
  pub rest : List ℕ
  pub shut : gate ≢ 1
  pub split : area ≡ frames bodies ++ gate ∷ rest
  pub fit : AllFit bodies
  pub ends : end ≡ length (frames bodies)

-- an area of less than two bytes has no record
pub record NoRecord (area : List ℕ) (bodies : List (List ℕ)) (end : ℕ) : Type 0 where
  pub short : length area ≤ 1
  pub none : bodies ≡ []
  pub ends : end ≡ 0

abbrev pub IsJournal : List ℕ → List (List ℕ) → ℕ → Type 0
IsJournal area bodies end = NoRecord area bodies end ⊎ Closed area bodies end

-- what an open gate needs, counted from itself, by the bytes behind it: gate, length, body and the next gate
abbrev pub needed_of : List ℕ → ℕ
needed_of (a ∷ b ∷ c ∷ d ∷ rest) = of_word (a ∷ b ∷ c ∷ d ∷ []) + 6
needed_of tail = 6

-- an open gate whose record, with the next gate, isn't whole
pub record IsDamaged (area : List ℕ) (at want : ℕ) : Type 0 where
  pub bodies : List (List ℕ)
  pub tail : List ℕ
  pub split : area ≡ frames bodies ++ 1 ∷ tail
  pub fit : AllFit bodies
  pub place : at ≡ length (frames bodies)
  pub some : 2 ≤ length area
  pub wants : want ≡ at + needed_of tail
  pub short : length area < want

-- what an append writes behind the gate: the length, the body and a closed gate
abbrev pub record_bytes : List ℕ → List ℕ
record_bytes body = word (length body) ++ body ++ 0 ∷ []

-- the body in a frame of gate, length, body and gate
abbrev pub body_of_frame : List ℕ → List ℕ
body_of_frame frame = take (length frame - 6) (drop 5 frame)
