-- The claims of a run's works and recasts stay while their leases do.
use Rattle.std.proofs.Common.{◌≡◌, ℕ, ◌+◌, ◌<◌, List, [], ◌∷◌, length, Bool, true, false, refl, sym, ◌∙◌, ap, subst, arith, Option, None, Some, ok_or, map, ne_eqb, nat_lt, ◌≤◌, ⊎_elim}
use Rattle.std.specs.Prelude.{Result, Ok, Err, IfOk}
use Rattle.std.proofs.lemmas.List.{length-append, length-set, length-map}
use Rattle.std.proofs.lemmas.List.Quantifiers.{position-Some}
use mathlib.Core.Logic.{dite}
use native.Mathlib.Decide.{ℕ_discrete}
use Rattle.mesa_script.specs.mesa_list.Bytes.{same_bytes}
use Rattle.mesa_span.specs.declared.ranges.Ranges.{Ranges}
use Rattle.mesa_span.specs.declared.works.Work.{Work}
use Rattle.mesa_script.specs.mesa_list.Checks.{refuse_if, refuse_unless, refused_as}
use Rattle.mesa_span.specs.Work.{next_work, swapped}
use Rattle.mesa_lease.specs.Book.{holder, is_held, other_holder}
use Rattle.mesa_script.specs.mesa_model.declared.commands.Command.{Command}
use Rattle.mesa_script.specs.mesa_model.declared.commands.Command.TheVariants as command
use Rattle.mesa_script.specs.mesa_model.declared.commands.Script.{Script}
use Rattle.mesa_script.specs.mesa_model.declared.entries.Entry.{Entry}
use Rattle.mesa_script.specs.mesa_model.declared.entries.Kind.{Kind}
use Rattle.mesa_script.specs.mesa_model.declared.entries.Kind.TheVariants as kind
use Rattle.mesa_script.specs.mesa_model.declared.entries.Outcome.{Outcome}
use Rattle.mesa_script.specs.mesa_model.declared.entries.Outcome.TheVariants as outcome
use Rattle.mesa_script.specs.mesa_model.declared.replies.Reply.{Reply}
use Rattle.mesa_script.specs.mesa_model.declared.replies.Reply.TheVariants as reply
use Rattle.mesa_script.specs.mesa_model.declared.replies.Refusal.{Refusal}
use Rattle.mesa_script.specs.mesa_model.declared.replies.Refusal.TheVariants as no
use Rattle.mesa_script.specs.mesa_schema.Changes.{columns_of, epoch_of}
use Rattle.mesa_script.specs.mesa_schema.Recasts.{Recast, recast_checked}
use Rattle.mesa_script.specs.mesa_model.declared.commands.RecastWords.{RecastWords}
use Rattle.mesa_script.specs.mesa_model.Warehouse.{Table, Store, Warehouse, newest_of, no_table, table_at}
use Rattle.mesa_script.specs.mesa_model.Relations.{table_number}
use Rattle.mesa_script.specs.mesa_model.Refusals.{no_such_table, recast_refusal, refuse_closed}
use Rattle.mesa_script.specs.mesa_model.Tables.{alter_table, make_table, make_view, recast_asked, table_recast}
use Rattle.mesa_script.specs.mesa_model.Load.{load_batch}
use Rattle.mesa_script.specs.mesa_model.Versions.{expire_to}
use Rattle.mesa_script.specs.mesa_model.Pins.{make_pin, release_pin}
use Rattle.mesa_script.specs.mesa_model.Step.{nothing_done}
use Rattle.mesa_script.specs.mesa_model.Query.{Answer, query_answer}
use Rattle.mesa_history_spec.specs.Machine.{Machine, Claim, Errand, Merges, Recasts, new_ranges, ranges_at, claim_of, recast_claim_of, claimed, claim_checked, claim_renewed, claim_ended, claim_merged, max_deltas, refuse_busy, singletons_of, still_checked, without_cumulatives, explained}
use Rattle.mesa_history_spec.specs.Run.{State, Stage, First, Looked, Answered, Granted, Renewed, Finished, CutOff, Place, Run, place_of, command_of, begins}
use Rattle.mesa_history_spec.specs.Replay.{Turned, turned, turn_as, turn_of, standing, decide, decided, decided_query, decided_explain, grants, renews, renew, completes, claim_asked, does, recasts, recasted, close, leaves, prints, refused_turn, closed_if, closes, some_damage, machine_after, place_after, with_machine, go, runs}
use Rattle.mesa_history_spec.specs.Claims.{IsClaim, HasClaimAt, HasErrand, HasRanges, is_live}
use Rattle.mesa_history_spec.proofs.Checks.{ok_bind, ok_check, ok_then, passed_as}
use Rattle.mesa_history_spec.proofs.Claiming.{claimed_keeps, claimed_live, dead, ended_keeps, ended_live, granted_claim, merged_keeps, recast_keeps, renewed_keeps, renewed_live, set_get, table_keeps}
use Rattle.mesa_history_spec.proofs.Growing.{made_by, Grows, alter_grows, done_grows, expire_grows, load_grows, nothing_grows, pin_grows, release_grows, table_grows, view_grows}
use Rattle.mesa_history_spec.proofs.More.{state_after}
use Rattle.mesa_history_spec.proofs.Places.{place_of-go, place_of-other}

-- what a turn keeps: each table's ranges, every claim, and the claim of its own session's work or recast
pub record Keeps (s : State) (stage : Stage) (t : Turned) : Type 0 where
  pub ranges : HasRanges s → HasRanges t.state
  pub claims : HasRanges s → (claim : Claim) (errand : Errand) → HasErrand s claim errand → HasErrand t.state claim errand
  pub own : HasRanges s → HasClaimAt s stage → HasClaimAt t.state t.stage

-- what the range machine keeps: it has the ranges of each table, every claim of a work is one still, and a lease that is live was so
record Goes (m n : Machine) : Type 0 where
  pub more : length m.ranges ≤ length n.ranges
  pub claims : (claim : Claim) (was : Ranges) → IsClaim m claim was → IsClaim n claim was
  pub live : (claim : Claim) (was : Ranges) → IsClaim m claim was → is_live n.leases claim.table claim.lease ≡ true → is_live m.leases claim.table claim.lease ≡ true

-- a claim in a state with another machine
moved : (s : State) (n : Machine) → Goes s.machine n → (claim : Claim) (errand : Errand) → HasErrand s claim errand → HasErrand (with_machine s n) claim errand
moved s n goes claim (Merges work) c = record {
  was = c.was;
  oldest = c.oldest;
  versions = c.versions;
  begins = c.begins;
  is = goes.claims claim c.was c.is;
  next = c.next;
  later_oldest = c.later_oldest;
  later_versions = c.later_versions;
  unrecast = λ live. c.unrecast (goes.live claim c.was c.is live);
}
moved s n goes claim (Recasts epoch r) c = record {
  was = c.was;
  there = (let more = goes.more in let there = c.there in omega (arith, more, there));
  epoch_was = c.epoch_was;
  allowed = c.allowed;
  later_epoch = c.later_epoch;
  columns = c.columns;
}

-- ---- what a claim says where it is granted and where it is checked

-- a claim that is granted is for the next work, or for a recast that is allowed in the table's present epoch
abbrev IsNewErrand : Warehouse → Machine → ℕ → Errand → Type 0
IsNewErrand w m table (Merges work) = next_work (ranges_at m table) (table_at w.store table).oldest (newest_of w) ≡ Some work
IsNewErrand w m table (Recasts epoch r) = (epoch ≡ epoch_of (table_at w.store table).lineage) × (recast_checked (table_at w.store table).lineage r ≡ Ok tt)

-- it has the next lease, and a table that is there
record IsNew (w : Warehouse) (m : Machine) (claim : Claim) : Type 0 where
  pub lease : claim.lease ≡ m.leases.granted + 1
  pub table : claim.table < length w.store.tables
  pub errand : IsNewErrand w m claim.table claim.errand

number_there : (s : Store) (name : List ℕ) (number : ℕ) → table_number s name ≡ Some number → number < length s.tables
number_there s name number is =
    let there = position-Some (same_bytes name) (map (λ (t : Table). t.name) s.tables) number [] is in
    let all : length (map (λ (t : Table). t.name) s.tables) ≡ length s.tables = length-map s.tables (λ (t : Table). t.name) in
    let lt : number < length (map (λ (t : Table). t.name) s.tables) = there.0 in
    omega (arith, lt, all)

found_of : {A E : Type 0} (o : Option A) (e : E) (x : A) → ok_or o e ≡ Ok x → o ≡ Some x
found_of None e x is = cc
found_of (Some y) e x is = cc

claim_new : (w : Warehouse) (m : Machine) (position : ℕ) (name : List ℕ) → IfOk (claim_of w m position name) (IsNew w m)
claim_new w m position name =
    ok_then (IsNew w m) (refused_as reply.Refused (refuse_closed w.closed)) _ (
    ok_bind (IsNew w m) (ok_or (table_number w.store name) (reply.Refused no_such_table)) _ (λ table found.
    ok_then (IsNew w m) (refuse_busy (holder m.leases table position)) _ (
    ok_bind (IsNew w m) (ok_or (next_work (ranges_at m table) (table_at w.store table).oldest (newest_of w)) reply.Idle) _ (λ work next.
    record { lease = refl; table = number_there w.store name table (found_of _ _ table found); errand = found_of _ _ work next }))))

recast_claim_new : (w : Warehouse) (m : Machine) (position : ℕ) (words : RecastWords) → IfOk (recast_claim_of w m position words) (IsNew w m)
recast_claim_new w m position words =
    ok_then (IsNew w m) (refused_as reply.Refused (refuse_closed w.closed)) _ (
    ok_bind (IsNew w m) (ok_or (table_number w.store words.table) (reply.Refused no_such_table)) _ (λ table found.
    ok_check (IsNew w m) (refused_as reply.Refused (refused_as recast_refusal (recast_checked (table_at w.store table).lineage (recast_asked words)))) _ (λ rules.
    ok_then (IsNew w m) (refuse_busy (holder m.leases table position)) _ (
    ok_then (IsNew w m) (refuse_if (nat_lt max_deltas (singletons_of w m table)) (reply.Refused (no.TooManyDeltas max_deltas))) _ (
    record { lease = refl; table = number_there w.store words.table table (found_of _ _ table found); errand = (refl, passed_as recast_refusal _ (passed_as reply.Refused _ rules)) })))))

asked_new : (w : Warehouse) (m : Machine) (position : ℕ) (c : Command) → IfOk (claim_asked w m position c) (IsNew w m)
asked_new w m position (command.Recast words) = recast_claim_new w m position words
asked_new w m position (command.Table words) = claim_new w m position []
asked_new w m position (command.View words) = claim_new w m position []
asked_new w m position (command.Alter words) = claim_new w m position []
asked_new w m position (command.Load rows) = claim_new w m position []
asked_new w m position (command.Query words) = claim_new w m position []
asked_new w m position (command.Explain words) = claim_new w m position []
asked_new w m position (command.Pin asked) = claim_new w m position []
asked_new w m position (command.Release token) = claim_new w m position []
asked_new w m position (command.Expire table version) = claim_new w m position []
asked_new w m position (command.Work words) = claim_new w m position words.table

unless_held : (b : Bool) (e : Refusal) → IfOk (refuse_unless b e) (λ ok. b ≡ true)
unless_held true e = refl
unless_held false e = tt

-- a claim that passes its check holds its lease
checked_held : (s : State) (position : ℕ) (claim : Claim) → IfOk (claim_checked s.warehouse s.machine position claim) (λ ok. is_held s.machine.leases claim.table claim.lease position ≡ true)
checked_held s position claim =
    ok_then (λ ok. is_held s.machine.leases claim.table claim.lease position ≡ true) (refuse_closed s.warehouse.closed) _ (
    unless_held (is_held s.machine.leases claim.table claim.lease position) (no.Lost claim.lease (other_holder s.machine.leases claim.table claim.lease position)))

-- ---- decisions

same_machine : (m : Machine) → Goes m m
same_machine m = record { more = omega arith; claims = λ claim was c. c; live = λ claim was c live. live }

after_reply : (w : Warehouse) (r : Reply) (m : Machine) → Goes m (machine_after w r m)
after_reply w (reply.Table name) m = record {
  more = omega (arith, length-append m.ranges (new_ranges w.store.floor ∷ []));
  claims = λ claim was c. table_keeps m claim was c w.store.floor;
  live = λ claim was c live. live;
}
after_reply w r m = same_machine m

ranges_after : (w : Warehouse) (r : Reply) (m : Machine) → length (machine_after w r m).ranges ≡ length m.ranges + made_by r
ranges_after w (reply.Table name) m = length-append m.ranges (new_ranges w.store.floor ∷ [])
ranges_after w r m = omega arith

module _ (position : ℕ) (s : State) (stage : Stage) where
  -- a turn that changes nothing
  stays : (to : Stage) → (HasClaimAt s stage → HasClaimAt s to) → Keeps s stage (leaves s to)
  stays to own = record { ranges = λ has. has; claims = λ has claim errand c. c; own = λ has at. own at }

  -- nor does one that prints
  printing : (at : ℕ) (r : Reply) → Keeps s stage (prints at s r)
  printing at r = record { ranges = λ has. has; claims = λ has claim errand c. c; own = λ has at. tt }

  grown : (done : Warehouse × Reply) → Grows s.warehouse done → HasRanges s → (claim : Claim) (errand : Errand) → HasErrand s claim errand → HasErrand (decided position s done).state claim errand
  grown done grows has claim (Merges work) c =
      let goes = after_reply done.0 done.1 s.machine in
      let on = grows.on claim.table (let there = c.is.there in omega (arith, there, has)) in
      record {
        was = c.was;
        oldest = c.oldest;
        versions = c.versions;
        begins = c.begins;
        is = goes.claims claim c.was c.is;
        next = c.next;
        later_oldest = (let before = c.later_oldest in let more = on.oldest in omega (arith, before, more));
        later_versions = (let before = c.later_versions in let more = grows.versions in omega (arith, before, more));
        unrecast = λ live. on.begins ∙ c.unrecast (goes.live claim c.was c.is live);
      }
  grown done grows has claim (Recasts epoch r) c =
      let goes = after_reply done.0 done.1 s.machine in
      let on = grows.on claim.table (let there = c.there in omega (arith, there, has)) in
      record {
        was = c.was;
        there = (let more = goes.more in let there = c.there in omega (arith, more, there));
        epoch_was = c.epoch_was;
        allowed = c.allowed;
        later_epoch = (let before = c.later_epoch in let more = on.epoch in omega (arith, before, more));
        columns = λ same. (let before = c.later_epoch in let more = on.epoch in
            let at : epoch_of (table_at s.warehouse.store claim.table).lineage ≡ epoch = omega (arith, before, more, same) in on.columns (same ∙ sym at) ∙ c.columns at);
      }

  deciding : (done : Warehouse × Reply) → Grows s.warehouse done → Keeps s stage (decided position s done)
  deciding done grows = record {
    ranges = λ has. (let more = ranges_after done.0 done.1 s.machine in let tables = grows.tables in omega (arith, more, tables, has));
    claims = grown done grows;
    own = λ has at. tt;
  }

  querying : (r : Result Answer Refusal) → Keeps s stage (decided_query position s r)
  querying (Ok answer) = stays (Answered position answer) (λ at. tt)
  querying (Err refusal) = printing position (reply.Refused refusal)

  explaining : (r : Result Reply Refusal) → Keeps s stage (decided_explain position s r)
  explaining (Ok r) = printing position r
  explaining (Err refusal) = printing position (reply.Refused refusal)

  decides : (session : ℕ) (c : Command) → Keeps s stage (decide position s session c)
  decides session (command.Query words) = querying (query_answer s.warehouse session words)
  decides session (command.Explain words) = explaining (explained s.warehouse s.machine words)
  decides session (command.Table words) = deciding _ (done_grows s.warehouse (make_table s.warehouse words) (table_grows s.warehouse words))
  decides session (command.View words) = deciding _ (done_grows s.warehouse (make_view s.warehouse words) (view_grows s.warehouse words))
  decides session (command.Alter words) = deciding _ (done_grows s.warehouse (alter_table s.warehouse words) (alter_grows s.warehouse words))
  decides session (command.Load rows) = deciding _ (done_grows s.warehouse (load_batch s.warehouse rows) (load_grows s.warehouse rows))
  decides session (command.Pin asked) = deciding _ (done_grows s.warehouse (make_pin s.warehouse session asked) (pin_grows s.warehouse session asked))
  decides session (command.Release token) = deciding _ (done_grows s.warehouse (release_pin s.warehouse session token) (release_grows s.warehouse session token))
  decides session (command.Expire table version) = deciding _ (done_grows s.warehouse (expire_to s.warehouse table version) (expire_grows s.warehouse table version))
  decides session (command.Work words) = deciding _ (done_grows s.warehouse (nothing_done s.warehouse) (nothing_grows s.warehouse))
  decides session (command.Recast words) = deciding _ (done_grows s.warehouse (nothing_done s.warehouse) (nothing_grows s.warehouse))

  -- ---- works and recasts

  new_errand : (claim : Claim) (errand : Errand) → claim.lease ≡ s.machine.leases.granted + 1 → claim.table < length s.machine.ranges → IsNewErrand s.warehouse s.machine claim.table errand
      → HasErrand (with_machine s (claimed s.machine position claim)) claim errand
  new_errand claim (Merges work) lease there new = record {
    was = ranges_at s.machine claim.table;
    oldest = (table_at s.warehouse.store claim.table).oldest;
    versions = s.warehouse.next;
    begins = (table_at s.warehouse.store claim.table).lineage.begins;
    is = granted_claim s.machine position claim lease there;
    next = new;
    later_oldest = omega arith;
    later_versions = omega arith;
    unrecast = λ live. refl;
  }
  new_errand claim (Recasts epoch r) lease there new = record {
    was = (table_at s.warehouse.store claim.table).lineage;
    there = there;
    epoch_was = sym new.0;
    allowed = new.1;
    later_epoch = (let at = new.0 in omega (arith, at));
    columns = λ same. refl;
  }

  granting : (r : Result Claim Reply) → IfOk r (IsNew s.warehouse s.machine) → Keeps s stage (grants position s r)
  granting (Err r) new = printing position r
  granting (Ok claim) new = record {
    ranges = λ has. has;
    claims = λ has. moved s (claimed s.machine position claim) (record {
      more = omega arith;
      claims = λ other was c. claimed_keeps s.machine other was c position claim;
      live = λ other was c live. claimed_live s.machine other was c position claim live;
    });
    own = λ has at. new_errand claim claim.errand new.lease (let there = new.table in omega (arith, there, has)) new.errand;
  }

  renewed_goes : (claim : Claim) → is_held s.machine.leases claim.table claim.lease position ≡ true → Goes s.machine (claim_renewed s.machine position claim)
  renewed_goes claim held = record {
    more = omega arith;
    claims = λ other was c. renewed_keeps s.machine other was c position claim held;
    live = λ other was c live. renewed_live s.machine other was c position claim held live;
  }

  renewing : (claim : Claim) (r : Result (Unit {0}) Refusal) → IfOk r (λ ok. is_held s.machine.leases claim.table claim.lease position ≡ true) → stage ≡ Granted claim → Keeps s stage (renews position s claim r)
  renewing claim (Err refusal) held is = printing position (reply.Refused refusal)
  renewing claim (Ok ok) held is = record {
    ranges = λ has. has;
    claims = λ has. moved s (claim_renewed s.machine position claim) (renewed_goes claim held);
    own = λ has at. (let c : HasErrand s claim claim.errand = subst (HasClaimAt s) is at in moved s (claim_renewed s.machine position claim) (renewed_goes claim held) claim claim.errand c);
  }

  -- a lease ends
  giving_up : (at : ℕ) (claim : Claim) (r : Reply) → Keeps s stage (prints at (with_machine s (claim_ended s.machine claim)) r)
  giving_up at claim r = record {
    ranges = λ has. has;
    claims = λ has. moved s (claim_ended s.machine claim) (record {
      more = omega arith;
      claims = λ other was c. ended_keeps s.machine other was c claim;
      live = λ other was c live. ended_live s.machine other was c claim live;
    });
    own = λ has at. tt;
  }

  -- a range is swapped in
  merging : (claim : Claim) (work : Work) → is_held s.machine.leases claim.table claim.lease position ≡ true → Keeps s stage (does position s claim (Merges work))
  merging claim work held =
      let same = length-set s.machine.ranges claim.table (swapped work (ranges_at s.machine claim.table)) in
      record {
        ranges = λ has. omega (arith, same, has);
        claims = λ has. moved s (claim_merged s.machine claim work) (record {
          more = omega (arith, same);
          claims = λ other was c. merged_keeps s.machine other was c position claim work held;
          live = λ other was c live. ended_live s.machine other was c claim live;
        });
        own = λ has at. tt;
      }

  -- a table is recast: a work's claim on it has no live lease any more, and its epoch rises
  recast_grown : (claim : Claim) (r : Recast) → is_held s.machine.leases claim.table claim.lease position ≡ true → (other : Claim) (errand : Errand) → HasErrand s other errand → HasErrand (recasted s claim r) other errand
  recast_grown claim r held other (Merges work) c =
      let before : Table = table_at s.warehouse.store claim.table in
      let got = set_get s.warehouse.store.tables claim.table (table_recast before r) other.table no_table in
      record {
        was = c.was;
        oldest = c.oldest;
        versions = c.versions;
        begins = c.begins;
        is = recast_keeps s.machine other c.was c.is position claim held;
        next = c.next;
        later_oldest = (let old = c.later_oldest in ⊎_elim
            (λ same. (let is = ap (λ (t : Table). t.oldest) same in omega (arith, old, is)))
            (λ one. (let is = ap (λ (t : Table). t.oldest) one.1 in let at = ap (λ n. (table_at s.warehouse.store n).oldest) one.0 in omega (arith, old, is, at))) got);
        later_versions = c.later_versions;
        unrecast = λ live. ⊎_elim
            (λ same. ap (λ (t : Table). t.lineage.begins) same ∙ c.unrecast (ended_live s.machine other c.was c.is claim live))
            (λ one. absurd (dead s.machine other c.was c.is position claim held live one.0)) got;
      }
  recast_grown claim r held other (Recasts epoch next) c =
      let before : Table = table_at s.warehouse.store claim.table in
      let got = set_get s.warehouse.store.tables claim.table (table_recast before r) other.table no_table in
      record {
        was = c.was;
        there = (let there = c.there in omega (arith, there, length-set s.machine.ranges claim.table (without_cumulatives (ranges_at s.machine claim.table))));
        epoch_was = c.epoch_was;
        allowed = c.allowed;
        later_epoch = (let old = c.later_epoch in ⊎_elim
            (λ same. (let is = ap (λ (t : Table). epoch_of t.lineage) same in omega (arith, old, is)))
            (λ one. (let is = ap (λ (t : Table). epoch_of t.lineage) one.1 in let at = ap (λ n. epoch_of (table_at s.warehouse.store n).lineage) one.0 in omega (arith, old, is, at))) got);
        columns = λ now. ⊎_elim
            (λ same. ap (λ (t : Table). columns_of t.lineage) same ∙ c.columns (ap (λ (t : Table). epoch_of t.lineage) (sym same) ∙ now))
            (λ one. absurd (let old = c.later_epoch in let is = ap (λ (t : Table). epoch_of t.lineage) one.1 in let at = ap (λ n. epoch_of (table_at s.warehouse.store n).lineage) one.0 in omega (arith, old, is, at, now))) got;
      }

  recasting : (claim : Claim) (r : Recast) (o : Result (Unit {0}) Refusal) → is_held s.machine.leases claim.table claim.lease position ≡ true → Keeps s stage (recasts position s claim r o)
  recasting claim r (Err refusal) held = giving_up position claim (reply.Refused refusal)
  recasting claim r (Ok ok) held = record {
    ranges = λ has. (let ranges = length-set s.machine.ranges claim.table (without_cumulatives (ranges_at s.machine claim.table)) in
        let tables = length-set s.warehouse.store.tables claim.table (table_recast (table_at s.warehouse.store claim.table) r) in omega (arith, ranges, tables, has));
    claims = λ has. recast_grown claim r held;
    own = λ has at. tt;
  }

  doing : (claim : Claim) (errand : Errand) → is_held s.machine.leases claim.table claim.lease position ≡ true → Keeps s stage (does position s claim errand)
  doing claim (Merges work) held = merging claim work held
  doing claim (Recasts epoch r) held = recasting claim r (still_checked (table_at s.warehouse.store claim.table).lineage epoch r) held

  completing : (claim : Claim) (r : Result (Unit {0}) Refusal) → IfOk r (λ ok. is_held s.machine.leases claim.table claim.lease position ≡ true) → Keeps s stage (completes position s claim r)
  completing claim (Err refusal) held = printing position (reply.Refused refusal)
  completing claim (Ok ok) held = doing claim claim.errand held

-- ---- turns

module _ (position : ℕ) (s : State) where
  renewed_keeps_all : (stage : Stage) → Keeps s stage (renew position s stage)
  renewed_keeps_all First = stays position s First First (λ at. at)
  renewed_keeps_all Looked = stays position s Looked Looked (λ at. at)
  renewed_keeps_all (Answered at answer) = stays position s (Answered at answer) (Answered at answer) (λ at. at)
  renewed_keeps_all (Granted claim) = renewing position s (Granted claim) claim (claim_checked s.warehouse s.machine position claim) (checked_held s position claim) refl
  renewed_keeps_all (Renewed claim) = stays position s (Renewed claim) (Renewed claim) (λ at. at)
  renewed_keeps_all Finished = stays position s Finished Finished (λ at. at)
  renewed_keeps_all CutOff = stays position s CutOff CutOff (λ at. at)

  closed_keeps_all : (stage : Stage) → Keeps s stage (close position s stage)
  closed_keeps_all First = stays position s First First (λ at. at)
  closed_keeps_all Looked = stays position s Looked Looked (λ at. at)
  closed_keeps_all (Answered at answer) = record { ranges = λ has. has; claims = λ has claim errand c. c; own = λ has at. tt }
  closed_keeps_all (Granted claim) = completing position s (Granted claim) claim (claim_checked s.warehouse s.machine position claim) (checked_held s position claim)
  closed_keeps_all (Renewed claim) = completing position s (Renewed claim) claim (claim_checked s.warehouse s.machine position claim) (checked_held s position claim)
  closed_keeps_all Finished = stays position s Finished Finished (λ at. at)
  closed_keeps_all CutOff = stays position s CutOff CutOff (λ at. at)

  standing_keeps : (session : ℕ) (c : Command) (k : Kind) (stage : Stage) → Keeps s stage (standing position s session c k stage)
  standing_keeps session c kind.Look stage = stays position s stage Looked (λ at. tt)
  standing_keeps session c kind.Decide stage = decides position s stage session c
  standing_keeps session c kind.Close stage = closed_keeps_all stage
  standing_keeps session c kind.Grant stage = granting position s stage (claim_asked s.warehouse s.machine position c) (asked_new s.warehouse s.machine position c)
  standing_keeps session c kind.Renew stage = renewed_keeps_all stage

  off_keeps : (stage : Stage) (refusal : Refusal) → Keeps s stage (refused_turn position s kind.Close stage refusal)
  off_keeps First refusal = printing position s First position (reply.Refused refusal)
  off_keeps Looked refusal = printing position s Looked position (reply.Refused refusal)
  off_keeps (Answered at answer) refusal = printing position s (Answered at answer) at (reply.Refused refusal)
  off_keeps (Granted claim) refusal = giving_up position s (Granted claim) position claim (reply.Refused refusal)
  off_keeps (Renewed claim) refusal = giving_up position s (Renewed claim) position claim (reply.Refused refusal)
  off_keeps Finished refusal = printing position s Finished position (reply.Refused refusal)
  off_keeps CutOff refusal = printing position s CutOff position (reply.Refused refusal)

  refused_keeps : (k : Kind) (stage : Stage) (refusal : Refusal) → Keeps s stage (refused_turn position s k stage refusal)
  refused_keeps kind.Look stage refusal = stays position s stage Looked (λ at. tt)
  refused_keeps kind.Decide stage refusal = printing position s stage position (reply.Refused refusal)
  refused_keeps kind.Close stage refusal = off_keeps stage refusal
  refused_keeps kind.Grant stage refusal = printing position s stage position (reply.Refused refusal)
  refused_keeps kind.Renew stage refusal = printing position s stage position (reply.Refused refusal)

-- a claim in a state that is closed
shut : (s : State) (position : ℕ) (claim : Claim) (errand : Errand) → HasErrand s claim errand → HasErrand (closed_if true position s) claim errand
shut s position claim (Merges work) c = record {
  was = c.was;
  oldest = c.oldest;
  versions = c.versions;
  begins = c.begins;
  is = c.is;
  next = c.next;
  later_oldest = c.later_oldest;
  later_versions = c.later_versions;
  unrecast = c.unrecast;
}
shut s position claim (Recasts epoch r) c = record { was = c.was; there = c.there; epoch_was = c.epoch_was; allowed = c.allowed; later_epoch = c.later_epoch; columns = c.columns }

shut_at : (s : State) (position : ℕ) (stage : Stage) → HasClaimAt s stage → HasClaimAt (closed_if true position s) stage
shut_at s position (Granted claim) at = shut s position claim claim.errand at
shut_at s position (Renewed claim) at = shut s position claim claim.errand at
shut_at s position stage at = tt

-- a write fault, whether it closes the warehouse or not
fault_keeps : (position : ℕ) (s : State) (b : Bool) (k : Kind) (stage : Stage) → Keeps s stage (refused_turn position (closed_if b position s) k stage no.WriteFault)
fault_keeps position s false k stage = refused_keeps position s k stage no.WriteFault
fault_keeps position s true k stage =
    let keeps = refused_keeps position (closed_if true position s) k stage no.WriteFault in
    record { ranges = keeps.ranges; claims = λ has claim errand c. keeps.claims has claim errand (shut s position claim errand c); own = λ has at. keeps.own has (shut_at s position stage at) }

turn_keeps : (r : Run) (c : Command) (e : Entry) (stage : Stage) (o : Outcome) → Keeps r.state stage (turn_of r c e stage o)
turn_keeps r c e stage outcome.Stands = standing_keeps r.position r.state e.session c e.kind stage
turn_keeps r c e stage outcome.Memory = refused_keeps r.position r.state e.kind stage no.Memory
turn_keeps r c e stage outcome.ReadFault = refused_keeps r.position r.state e.kind stage no.ReadFault
turn_keeps r c e stage outcome.WriteFault = fault_keeps r.position r.state (closes r.moment e) e.kind stage
turn_keeps r c e stage outcome.Damaged = refused_keeps r.position r.state e.kind stage (no.Damaged some_damage)
turn_keeps r c e stage outcome.Skipped = stays r.position r.state stage CutOff (λ at. tt)

-- What any entry's turn keeps.
pub turned_keeps : (script : Script) (r : Run) (e : Entry) → Keeps r.state (place_of r e.session).stage (turned script r e)
unfolding turned
turned_keeps script r e = by (command_of script e)
  where
    by : (o : Option Command) → Keeps r.state (place_of r e.session).stage (turn_as r e o)
    by None = stays r.position r.state (place_of r e.session).stage CutOff (λ at. tt)
    by (Some c) = turn_keeps r c e (place_of r e.session).stage e.outcome

-- ---- runs

-- each table has its ranges, and each session's work or recast its claim
pub record HoldAll (r : Run) : Type 0 where
  pub ranges : HasRanges r.state
  pub claims : (session : ℕ) → HasClaimAt r.state (place_of r session).stage

placed : (s : State) (number : ℕ) (stage : Stage) → HasClaimAt s stage → HasClaimAt s (place_after number stage).stage
placed s number Finished at = tt
placed s number (Granted claim) at = at
placed s number (Renewed claim) at = at
placed s number First at = tt
placed s number Looked at = tt
placed s number (Answered position answer) at = tt
placed s number CutOff at = tt

others_hold : (s : State) (stage : Stage) (t : Turned) (mine : Stage) → Keeps s mine t → HasRanges s → HasClaimAt s stage → HasClaimAt t.state stage
others_hold s (Granted claim) t mine keeps has at = keeps.claims has claim claim.errand at
others_hold s (Renewed claim) t mine keeps has at = keeps.claims has claim claim.errand at
others_hold s stage t mine keeps has at = tt

go_holds : (script : Script) (r : Run) (e : Entry) → HoldAll r → HoldAll (go script r e)
go_holds script r e all =
    let keeps = turned_keeps script r e in
    let same : (go script r e).state ≡ (turned script r e).state = state_after script r e in
    record {
      ranges = subst HasRanges (sym same) (keeps.ranges all.ranges);
      claims = λ session. subst (λ (s : State). HasClaimAt s (place_of (go script r e) session).stage) (sym same) (dite (ℕ_discrete session e.session)
          (λ mine.
          subst (λ (p : Place). HasClaimAt (turned script r e).state p.stage) (sym (ap (place_of (go script r e)) mine ∙ place_of-go script r e))
          (placed (turned script r e).state (place_of r e.session).number (turned script r e).stage (keeps.own all.ranges (all.claims e.session))))
          (λ other.
          subst (λ (p : Place). HasClaimAt (turned script r e).state p.stage) (sym (place_of-other script r e session (ne_eqb session e.session other)))
          (others_hold r.state (place_of r session).stage (turned script r e) (place_of r e.session).stage keeps all.ranges (all.claims session))));
    }

-- They hold after every history.
pub runs_hold : (script : Script) (r : Run) (h : List Entry) → HoldAll r → HoldAll (runs script r h)
unfolding runs
runs_hold script r [] all = all
runs_hold script r (e ∷ h) all = runs_hold script (go script r e) h (go_holds script r e all)

pub begins_hold : (start : State) → HasRanges start → HoldAll (begins start)
unfolding place_of
begins_hold start has = record { ranges = has; claims = λ session. tt }
