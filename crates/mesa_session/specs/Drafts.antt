-- The ids of a session's drafts, from command to command.
use Rattle.std.specs.Prelude.{◌≡◌, ℕ}
use Rattle.mesa_file.specs.Serials.{Drafts, after_drafts}

-- Ids of this session's drafts in this run.
abbrev pub AreOf : ℕ → ℕ → Drafts → Type 0
AreOf run session d = (d.run ≡ run) × (d.session ≡ session)

-- What a command leaves of the ids of its session's drafts: they are the session's own in this run, and go on from those that it found.
pub record GoOn (run session : ℕ) (old new : Drafts) : Type 0 where
  pub own : AreOf run session new
  pub on : (n : ℕ) × (new ≡ after_drafts n old)
