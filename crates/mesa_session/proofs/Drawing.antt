-- The ids of a session's drafts, over several steps of a command.
use Rattle.std.proofs.Common.{◌≡◌, ℕ, zero, suc, ◌+◌, refl, ap, ◌∙◌, arith}
use Rattle.mesa_file.specs.Serials.{Drafts, after_drafts, next_serials}
use Rattle.mesa_session.specs.Drafts.{AreOf, GoOn}

drawn_more : (n m : ℕ) (d : Drafts) → after_drafts m (after_drafts n d) ≡ after_drafts (m + n) d
drawn_more n zero d = let e : n ≡ zero + n = omega arith in ap (λ k. after_drafts k d) e
drawn_more n (suc m) d = let e : suc (m + n) ≡ suc m + n = omega arith in ap next_serials (drawn_more n m d) ∙ ap (λ k. after_drafts k d) e

-- drafts upon drafts
pub drawn_both : (first between now : Drafts) → (n : ℕ) × (between ≡ after_drafts n first) → (m : ℕ) × (now ≡ after_drafts m between) → (k : ℕ) × (now ≡ after_drafts k first)
drawn_both first between now a b = (b.0 + a.0, b.1 ∙ ap (after_drafts b.0) a.1 ∙ drawn_more a.0 b.0 first)

run_stays : (n : ℕ) (d : Drafts) → (after_drafts n d).run ≡ d.run
run_stays zero d = refl
run_stays (suc n) d = run_stays n d

session_stays : (n : ℕ) (d : Drafts) → (after_drafts n d).session ≡ d.session
session_stays zero d = refl
session_stays (suc n) d = session_stays n d

-- what a command that drew ids leaves, and one that drew none
pub go_on : (run session : ℕ) (old new : Drafts) → AreOf run session old → (n : ℕ) × (new ≡ after_drafts n old) → GoOn run session old new
go_on run session old new own more = record {
  own = (ap (λ (d : Drafts). d.run) more.1 ∙ run_stays more.0 old ∙ own.0, ap (λ (d : Drafts). d.session) more.1 ∙ session_stays more.0 old ∙ own.1);
  on = more;
}

pub undrawn : (run session : ℕ) (old : Drafts) → AreOf run session old → GoOn run session old old
undrawn run session old own = record { own = own; on = (0, refl) }
