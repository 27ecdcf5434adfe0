-- The ids of a session's drafts.
use Rattle.std.specs.Prelude.{◌≡◌, ℕ, zero, suc, ◌+◌, ◌*◌, ◌^◌, ◌%◌, ◌<◌, List, [], ◌∷◌, ◌++◌}

-- the run, the session, and the serial number of its next draft
pub record Drafts : Type 0 where
  pub run : ℕ
  pub session : ℕ
  pub next : ℕ

-- the id of the next draft: the run in three bytes, the session in one, the serial number in four
abbrev pub drawn : Drafts → ℕ
drawn d = d.run * 2 ^ 40 + d.session * 2 ^ 32 + d.next

-- one draft later
abbrev pub next_serials : Drafts → Drafts
next_serials d = record d { next = (d.next + 1) % 2 ^ 32 }

-- the ids of a session after so many drafts
abbrev pub after_drafts : ℕ → Drafts → Drafts
after_drafts zero d = d
after_drafts (suc n) d = next_serials (after_drafts n d)

-- the ids of so many drafts, one after the other
abbrev pub next_ids : ℕ → Drafts → List ℕ
next_ids zero d = []
next_ids (suc n) d = next_ids n d ++ drawn (after_drafts n d) ∷ []

-- Numbers that an id has room for: of the session in one byte, of the next draft in four.
pub record AreSerials (d : Drafts) : Type 0 where
  pub session : d.session < 2 ^ 8
  pub next : d.next < 2 ^ 32

-- These ids are those of the next drafts, in their order, which are drawn.
pub record AreNext (old new : Drafts) (ids : List ℕ) : Type 0 where
  pub count : ℕ
  pub next : ids ≡ next_ids count old
  pub after : new ≡ after_drafts count old
