-- A claim stays while its lease does, whatever the range machine does.
use Rattle.std.proofs.Common.{◌≡◌, ◌⊎◌, inl, inr, ⊎_elim, ℕ, zero, suc, ◌+◌, ◌<◌, ◌≤◌, List, [], ◌∷◌, ◌++◌, length, Bool, true, false, if◌then◌else◌, not, ◌&&◌, ◌==◌, nat_lt, refl, sym, ◌∙◌, ap, subst, arith, Option, None, Some, slice_index_or, slice_set}
use Rattle.std.proofs.lemmas.Bool.Decides.{nat_tests}
use Rattle.std.proofs.lemmas.List.{length-append, length-set}
use Rattle.mesa_span.specs.declared.ranges.Ranges.{Ranges}
use Rattle.mesa_span.specs.declared.works.Work.{Work}
use Rattle.mesa_span.specs.Work.{swapped}
use Rattle.mesa_lease.specs.declared.lease.Lease.{Lease}
use Rattle.mesa_lease.specs.Book.{Book, last_of, with_last, is_held, holds_at, ended}
use Rattle.mesa_history_spec.specs.Machine.{Machine, Claim, ranges_at, new_ranges, claimed, claim_renewed, claim_ended, claim_merged, claim_recast, without_cumulatives, with_new_table}
use Rattle.mesa_history_spec.specs.Claims.{is_live, is_live_as, IsClaim}

-- what stands at a place once one is set
pub set_get : {A : Type 0} (xs : List A) (n : ℕ) (y : A) (k : ℕ) (d : A) → (slice_index_or (slice_set xs n y) k d ≡ slice_index_or xs k d) ⊎ ((k ≡ n) × (slice_index_or (slice_set xs n y) k d ≡ y))
set_get [] n y k d = inl refl
set_get (x ∷ xs) zero y zero d = inr (refl, refl)
set_get (x ∷ xs) zero y (suc k) d = inl refl
set_get (x ∷ xs) (suc n) y zero d = inl refl
set_get (x ∷ xs) (suc n) y (suc k) d = ⊎_elim (λ same. inl same) (λ one. inr (ap suc one.0, one.1)) (set_get xs n y k d)

set_there : {A : Type 0} (xs : List (Option A)) (n : ℕ) (y : Option A) (l : A) → slice_index_or xs n None ≡ Some l → slice_index_or (slice_set xs n y) n None ≡ y
set_there [] n y l is = let never : None ≡ Some l = is in cc
set_there (x ∷ xs) zero y l is = refl
set_there (x ∷ xs) (suc n) y l is = set_there xs n y l is

front_get : {A : Type 0} (xs ys : List A) (k : ℕ) (d : A) → k < length xs → slice_index_or (xs ++ ys) k d ≡ slice_index_or xs k d
front_get [] ys k d lt = absurd (omega (arith, lt))
front_get (x ∷ xs) ys zero d lt = refl
front_get (x ∷ xs) ys (suc k) d lt = front_get xs ys k d (omega (arith, lt))

both_true : (a b : Bool) → (a && b) ≡ true → (a ≡ true) × (b ≡ true)
both_true true b e = (refl, e)
both_true false b e = absurd (let f : false ≡ true = e in cc)

same_is : (a b : ℕ) → (a == b) ≡ true → a ≡ b
same_is a b e = grind (arith, nat_tests)

is_same : (a b : ℕ) → a ≡ b → (a == b) ≡ true
is_same a b e = grind (arith, nat_tests)

-- a lease that holds is live
held_lease : (book : Book) (table number position : ℕ) → is_held book table number position ≡ true → (lease : Lease) × (last_of book table ≡ Some lease) × (lease.number ≡ number) × (lease.ended ≡ false)
held_lease book table number position is = by (last_of book table) refl
  where
    not_ended : (b : Bool) → not b ≡ true → b ≡ false
    not_ended true e = absurd (let f : false ≡ true = e in cc)
    not_ended false e = refl

    by : (o : Option Lease) → last_of book table ≡ o → (lease : Lease) × (last_of book table ≡ Some lease) × (lease.number ≡ number) × (lease.ended ≡ false)
    by None e = let no : false ≡ true = subst (λ o. is_held (record book { last = o ∷ [] }) 0 number position ≡ true) e is in absurd cc
    by (Some lease) e =
        let held : ((lease.number == number) && holds_at position lease) ≡ true = subst (λ o. is_held (record book { last = o ∷ [] }) 0 number position ≡ true) e is in
        let two = both_true (lease.number == number) (holds_at position lease) held in
        (lease, e, same_is lease.number number two.0, not_ended lease.ended (both_true (nat_lt position lease.until) (not lease.ended) two.1).1)

pub held_is_live : (book : Book) (table number position : ℕ) → is_held book table number position ≡ true → is_live book table number ≡ true
held_is_live book table number position is =
    let l = held_lease book table number position is in
    ap (is_live_as number) l.1 ∙ (λ i. (is_same l.0.number number l.2 i) && not (l.3 i))

module _ (m : Machine) (claim : Claim) (was : Ranges) (c : IsClaim m claim was) where
  -- another lease is granted: a lease that is live was so
  pub claimed_live : (position : ℕ) (other : Claim) → is_live (claimed m position other).leases claim.table claim.lease ≡ true → is_live m.leases claim.table claim.lease ≡ true
  claimed_live position other live =
      ⊎_elim (λ same. ap (is_live_as claim.lease) (sym same) ∙ live)
      (λ one. (let at : is_live_as claim.lease (Some (record { number = m.leases.granted + 1; until = position + m.leases.turns; ended = false })) ≡ true = ap (is_live_as claim.lease) (sym one.1) ∙ live in
      let same : m.leases.granted + 1 ≡ claim.lease = same_is (m.leases.granted + 1) claim.lease (both_true (m.leases.granted + 1 == claim.lease) true at).0 in let n = c.number in absurd (omega (arith, n, same))))
      (set_get m.leases.last other.table (Some (record { number = m.leases.granted + 1; until = position + m.leases.turns; ended = false })) claim.table None)

  pub claimed_keeps : (position : ℕ) (other : Claim) → IsClaim (claimed m position other) claim was
  claimed_keeps position other = record { number = (let n = c.number in omega (arith, n)); there = c.there; stays = λ live. c.stays (claimed_live position other live) }

  -- a lease that holds is renewed, this one or another
  pub renewed_live : (position : ℕ) (other : Claim) → is_held m.leases other.table other.lease position ≡ true → is_live (claim_renewed m position other).leases claim.table claim.lease ≡ true → is_live m.leases claim.table claim.lease ≡ true
  renewed_live position other held live =
      ⊎_elim (λ same. ap (is_live_as claim.lease) (sym same) ∙ live)
      (λ one. (let at : is_live_as claim.lease (Some (record { number = other.lease; until = position + m.leases.turns; ended = false })) ≡ true = ap (is_live_as claim.lease) (sym one.1) ∙ live in
      let same : other.lease ≡ claim.lease = same_is other.lease claim.lease (both_true (other.lease == claim.lease) true at).0 in
      subst (λ t. is_live m.leases t claim.lease ≡ true) (sym one.0) (subst (λ n. is_live m.leases other.table n ≡ true) same (held_is_live m.leases other.table other.lease position held))))
      (set_get m.leases.last other.table (Some (record { number = other.lease; until = position + m.leases.turns; ended = false })) claim.table None)

  pub renewed_keeps : (position : ℕ) (other : Claim) → is_held m.leases other.table other.lease position ≡ true → IsClaim (claim_renewed m position other) claim was
  renewed_keeps position other held = record { number = c.number; there = c.there; stays = λ live. c.stays (renewed_live position other held live) }

  -- a lease ends
  abbrev ends : Claim → Option Lease → Book
  ends other None = m.leases
  ends other (Some lease) = if lease.number == other.lease then with_last other.table (record lease { ended = true }) m.leases else m.leases

  ended_is : (other : Claim) (o : Option Lease) → last_of m.leases other.table ≡ o → ended other.table other.lease m.leases ≡ ends other o
  ended_is other o e = ap (ends other) e

  never : (n : ℕ) (l : Lease) → is_live_as n (Some (record l { ended = true })) ≡ true → ⊥
  never n l e = let f : false ≡ true = (both_true (l.number == n) false e).1 in absurd cc

  pub ended_live : (other : Claim) → is_live (ended other.table other.lease m.leases) claim.table claim.lease ≡ true → is_live m.leases claim.table claim.lease ≡ true
  ended_live other live = by (last_of m.leases other.table) refl
    where
      if_ended : (b : Bool) (lease : Lease) → is_live (if b then with_last other.table (record lease { ended = true }) m.leases else m.leases) claim.table claim.lease ≡ true → is_live m.leases claim.table claim.lease ≡ true
      if_ended true lease e = ⊎_elim (λ same. ap (is_live_as claim.lease) (sym same) ∙ e) (λ one. absurd (never claim.lease lease (ap (is_live_as claim.lease) (sym one.1) ∙ e)))
          (set_get m.leases.last other.table (Some (record lease { ended = true })) claim.table None)
      if_ended false lease e = e

      by : (o : Option Lease) → last_of m.leases other.table ≡ o → is_live m.leases claim.table claim.lease ≡ true
      by None e = subst (λ b. is_live b claim.table claim.lease ≡ true) (ended_is other None e) live
      by (Some lease) e = if_ended (lease.number == other.lease) lease (subst (λ b. is_live b claim.table claim.lease ≡ true) (ended_is other (Some lease) e) live)

  same_granted : (other : Claim) → (ended other.table other.lease m.leases).granted ≡ m.leases.granted
  same_granted other = by (last_of m.leases other.table) refl
    where
      if_granted : (b : Bool) (lease : Lease) → (if b then with_last other.table (record lease { ended = true }) m.leases else m.leases).granted ≡ m.leases.granted
      if_granted true lease = refl
      if_granted false lease = refl

      by : (o : Option Lease) → last_of m.leases other.table ≡ o → (ended other.table other.lease m.leases).granted ≡ m.leases.granted
      by None e = ap (λ (b : Book). b.granted) (ended_is other None e)
      by (Some lease) e = ap (λ (b : Book). b.granted) (ended_is other (Some lease) e) ∙ if_granted (lease.number == other.lease) lease

  pub ended_keeps : (other : Claim) → IsClaim (claim_ended m other) claim was
  ended_keeps other = record { number = subst (λ n. claim.lease ≤ n) (sym (same_granted other)) c.number; there = c.there; stays = λ live. c.stays (ended_live other live) }

  -- once a lease that held has ended, none of its table is live
  pub dead : (position : ℕ) (other : Claim) → is_held m.leases other.table other.lease position ≡ true → is_live (ended other.table other.lease m.leases) claim.table claim.lease ≡ true → claim.table ≡ other.table → ⊥
  dead position other held lives same =
      let live : is_live (ended other.table other.lease m.leases) other.table claim.lease ≡ true = subst (λ t. is_live (ended other.table other.lease m.leases) t claim.lease ≡ true) same lives in
      let l = held_lease m.leases other.table other.lease position held in
      let lease : Lease = l.0 in
      let done : ended other.table other.lease m.leases ≡ with_last other.table (record lease { ended = true }) m.leases =
      ended_is other (Some lease) l.1 ∙ ap (λ b. if b then with_last other.table (record lease { ended = true }) m.leases else m.leases) (is_same lease.number other.lease l.2) in
      never claim.lease lease (ap (is_live_as claim.lease) (sym (set_there m.leases.last other.table (Some (record lease { ended = true })) lease l.1)) ∙ ap (λ b. is_live b other.table claim.lease) (sym done) ∙ live)

  -- a table gets other ranges under a lease that holds and ends: it is another table, or this claim's lease has ended
  done_keeps : (position : ℕ) (other : Claim) (ranges : Ranges) → is_held m.leases other.table other.lease position ≡ true → IsClaim (record (claim_ended m other) { ranges = slice_set m.ranges other.table ranges }) claim was
  done_keeps position other ranges held = record {
    number = subst (λ n. claim.lease ≤ n) (sym (same_granted other)) c.number;
    there = subst (λ n. claim.table < n) (sym (length-set m.ranges other.table ranges)) c.there;
    stays = λ live. ⊎_elim (λ same. same ∙ c.stays (ended_live other live)) (λ one. absurd (dead position other held live one.0)) (set_get m.ranges other.table ranges claim.table (new_ranges 0));
  }

  pub merged_keeps : (position : ℕ) (other : Claim) (work : Work) → is_held m.leases other.table other.lease position ≡ true → IsClaim (claim_merged m other work) claim was
  merged_keeps position other work held = done_keeps position other (swapped work (ranges_at m other.table)) held

  pub recast_keeps : (position : ℕ) (other : Claim) → is_held m.leases other.table other.lease position ≡ true → IsClaim (claim_recast m other) claim was
  recast_keeps position other held = done_keeps position other (without_cumulatives (ranges_at m other.table)) held

  -- a table more
  pub table_keeps : (oldest : ℕ) → IsClaim (with_new_table m oldest) claim was
  table_keeps oldest = record {
    number = c.number;
    there = (let more : length (m.ranges ++ new_ranges oldest ∷ []) ≡ length m.ranges + 1 = length-append m.ranges (new_ranges oldest ∷ []) in let old = c.there in omega (arith, more, old));
    stays = λ live. front_get m.ranges (new_ranges oldest ∷ []) claim.table (new_ranges 0) c.there ∙ c.stays live;
  }

-- the claim that is granted
pub granted_claim : (m : Machine) (position : ℕ) (claim : Claim) → claim.lease ≡ m.leases.granted + 1 → claim.table < length m.ranges → IsClaim (claimed m position claim) claim (ranges_at m claim.table)
granted_claim m position claim number there = record { number = omega (arith, number); there = there; stays = λ live. refl }
