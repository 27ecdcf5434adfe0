-- What the books say of a recast's claim.
use Rattle.std.proofs.Common.{◌≡◌, ◌==◌, ℕ, arith, cond, ◌-◌, ◌+◌, ◌∙◌, ap, subst, true, false, Bool, sym, refl, ◌<◌, ◌≤◌, nat_lt, Option, None, Some, Ok, Err}
use Rattle.std.specs.Prelude.{Result}
use Rattle.std.specs.Option.{ok_or}
use Rattle.std.proofs.Math.ListN.{get_or-map}
use Rattle.std.proofs.lemmas.Bool.{le-ltb, lt-ltb}
use Rattle.std.proofs.lemmas.Bool.Decides.{nat_tests}
use Rattle.std.proofs.lemmas.Simd.{map-map}
use Rattle.mesa_write_turns.specs.mesa_list.Checks.{◌>>=◌, ◌>>◌, refuse_if, refused_as}
use Rattle.mesa_write_turns.specs.mesa_schema.declared.recasts.RecastError.{RecastError}
use Rattle.mesa_write_turns.specs.mesa_schema.Changes.{epoch_of}
use Rattle.mesa_write_turns.specs.mesa_columns.Columns.{place_of}
use Rattle.mesa_write_turns.specs.mesa_schema.Recasts.{recast_checked}
use Rattle.mesa_write_turns.specs.mesa_binding.Told.{IsDue}
use Rattle.mesa_write_turns.specs.mesa_binding.declared.failure.Failure.{Failure}
use Rattle.mesa_write_turns.specs.mesa_binding.declared.failure.Failure.TheVariants as asked
use Rattle.mesa_write_turns.specs.mesa_history_spec.Machine.{Claim, Machine, Recasts, max_deltas, recast_claim_of, refuse_busy}
use Rattle.mesa_lease.specs.Book.{holder}
use Rattle.mesa_engine.specs.EngineState.{EngineState, books_of, projection_of}
use Rattle.mesa_engine.specs.Failure.{cause_in, told_as}
use Rattle.mesa_write_turns.specs.mesa_invariant_spec.Works.{HasNoClaim}
use Rattle.mesa_engine.specs.mesa_store_spec.Catalog.{no_meta, ranges_of, start_in, meta_at}
use Rattle.mesa_model.specs.Refusals.{no_such_table, recast_refusal, refuse_closed}
use Rattle.mesa_model.specs.Relations.{table_number}
use Rattle.mesa_model.specs.Tables.{recast_asked}
use Rattle.mesa_model.specs.Warehouse.{Table, Warehouse}
use Rattle.mesa_model.specs.declared.commands.RecastWords.{RecastWords}
use Rattle.mesa_model.specs.declared.replies.Refusal.{Refusal}
use Rattle.mesa_model.specs.declared.replies.Refusal.TheVariants as no
use Rattle.mesa_model.specs.declared.replies.Reply.{Reply}
use Rattle.mesa_model.specs.declared.replies.Reply.TheVariants as reply
use Rattle.mesa_validate.specs.Recastings.{recast_due}
use Rattle.mesa_validate.specs.Seen.{number_of}
use Rattle.mesa_write_turns.specs.mesa_history_spec.Rows.{no_rows}
use Rattle.mesa_span.specs.Ranges.{base_before, start_of}

-- ---- how many versions there are

before_as : (zero_is : Bool) (n : ℕ) → (n == 0) ≡ zero_is → base_before n ≡ cond zero_is None (Some (n - 1))
before_as zero_is n is = ap (λ b. cond b None (Some (n - 1))) is

pub some_before : (n m : ℕ) → base_before n ≡ Some m → m + 1 ≡ n
some_before n m is = by (n == 0) refl
  where
    by : (b : Bool) → (n == 0) ≡ b → m + 1 ≡ n
    by true none = let no = sym (before_as true n none) ∙ is in cc
    by false some =
        let same = sym (before_as false n some) ∙ is in
        let less : n - 1 ≡ m = cc in
        grind (arith, nat_tests)

pub none_before : (n : ℕ) → base_before n ≡ None → 0 ≡ n
none_before n is = by (n == 0) refl
  where
    by : (b : Bool) → (n == 0) ≡ b → 0 ≡ n
    by true none = grind (arith, nat_tests)
    by false some = let no = sym (before_as false n some) ∙ is in cc

module _ (l : EngineState) (at : ℕ) (words : RecastWords) where
  abbrev bare : Warehouse
  bare = (books_of no_rows l).bare

  abbrev machine : Machine
  machine = (books_of no_rows l).machine

  abbrev asked_of : Result Claim Reply
  asked_of = recast_claim_of bare machine at words

  -- its steps, by what each asks
  abbrev given : ℕ → ℕ → Claim
  given table epoch = record { table = table; lease = l.leases.granted + 1; errand = Recasts epoch (recast_asked words) }

  abbrev counted : ℕ → ℕ → Bool → Result Claim Reply
  counted table epoch many = refuse_if many (reply.Refused (no.TooManyDeltas max_deltas)) >> Ok (given table epoch)

  abbrev allowed : ℕ → ℕ → Result (Unit {0}) RecastError → Option ℕ → Bool → Result Claim Reply
  allowed table epoch checked held many = refused_as reply.Refused (refused_as recast_refusal checked) >> (refuse_busy held >> counted table epoch many)

  abbrev steps : Option ℕ → Option ℕ → Result Claim Reply
  steps closed number = refused_as reply.Refused (refuse_closed closed) >> (ok_or number (reply.Refused no_such_table)
      >>= (λ table. allowed table (epoch_of (meta_at l.catalogue table).lineage) (recast_checked (meta_at l.catalogue table).lineage (recast_asked words)) (holder l.leases table at)
      (nat_lt max_deltas (l.catalogue.next - start_in (meta_at l.catalogue table)))))

  number_is : table_number bare.store words.table ≡ number_of l.catalogue words.table
  number_is = ap (place_of words.table) (map-map (λ (t : Table). t.name) projection_of l.catalogue.tables)

  -- the projection of a table has its columns, and the machine its ranges
  claim_is : asked_of ≡ steps l.closed (number_of l.catalogue words.table)
  claim_is = (λ i. refused_as reply.Refused (refuse_closed l.closed) >> (ok_or (number_is i) (reply.Refused no_such_table)
      >>= (λ table.
      let lineage = ap (λ (t : Table). t.lineage) (get_or-map projection_of l.catalogue.tables table no_meta) in
      let ranges = get_or-map ranges_of l.catalogue.tables table no_meta in
      allowed table (epoch_of (lineage i)) (recast_checked (lineage i) (recast_asked words)) (holder l.leases table at) (nat_lt max_deltas (l.catalogue.next - start_of (ranges i))))))

  pub shut : (p : ℕ) → l.closed ≡ Some p → asked_of ≡ Err (reply.Refused (no.Closed p))
  shut p is = claim_is ∙ ap (λ c. steps c (number_of l.catalogue words.table)) is

  module _ (open' : l.closed ≡ None) where
    opened_is : asked_of ≡ steps None (number_of l.catalogue words.table)
    opened_is = claim_is ∙ ap (λ c. steps c (number_of l.catalogue words.table)) open'

    -- the rules don't allow it
    denied_as : (x : Refusal) → recast_due l.catalogue words ≡ Err x → asked_of ≡ Err (reply.Refused x)
    denied_as x due = opened_is ∙ by (number_of l.catalogue words.table) due
      where
        of_checked : (table epoch : ℕ) (checked : Result (Unit {0}) RecastError) (held : Option ℕ) (many : Bool) → refused_as recast_refusal checked ≡ Err x → allowed table epoch checked held many ≡ Err (reply.Refused x)
        of_checked table epoch checked held many is = ap (λ (r : Result (Unit {0}) Refusal). refused_as reply.Refused r >> (refuse_busy held >> counted table epoch many)) is

        by : (number : Option ℕ) → (ok_or number no_such_table >>= (λ table. refused_as recast_refusal (recast_checked (meta_at l.catalogue table).lineage (recast_asked words)))) ≡ Err x → steps None number ≡ Err (reply.Refused x)
        by None is = let same : no_such_table ≡ x = cc in ap (λ (r : Refusal). Err (reply.Refused r)) same
        by (Some table) is =
            of_checked table (epoch_of (meta_at l.catalogue table).lineage) (recast_checked (meta_at l.catalogue table).lineage (recast_asked words)) (holder l.leases table at)
            (nat_lt max_deltas (l.catalogue.next - start_in (meta_at l.catalogue table))) is

    pub denied : (failure : Failure) → IsDue (recast_due l.catalogue words) failure → HasNoClaim (books_of no_rows l) asked_of (cause_in (told_as failure))
    denied (asked.Refused x) due = denied_as x due
    denied asked.Memory due = open'

    module _ (table : ℕ) (there : number_of l.catalogue words.table ≡ Some table) (rule : recast_checked (meta_at l.catalogue table).lineage (recast_asked words) ≡ Ok tt) where
      abbrev epoch : ℕ
      epoch = epoch_of (meta_at l.catalogue table).lineage

      abbrev many : Bool
      many = nat_lt max_deltas (l.catalogue.next - start_in (meta_at l.catalogue table))

      table_is : asked_of ≡ (refuse_busy (holder l.leases table at) >> counted table epoch many)
      table_is = opened_is ∙ ap (steps None) there ∙ ap (λ checked. allowed table epoch checked (holder l.leases table at) many) rule

      pub busy : (lease : ℕ) → holder l.leases table at ≡ Some lease → asked_of ≡ Err (reply.Busy lease)
      busy lease is = table_is ∙ ap (λ held. refuse_busy held >> counted table epoch many) is

      module _ (free : holder l.leases table at ≡ None) where
        free_is : asked_of ≡ counted table epoch many
        free_is = table_is ∙ ap (λ held. refuse_busy held >> counted table epoch many) free

        pub crowded : many ≡ true → asked_of ≡ Err (reply.Refused (no.TooManyDeltas max_deltas))
        crowded is = free_is ∙ ap (counted table epoch) is

        pub claimed : many ≡ false → asked_of ≡ Ok (given table epoch)
        claimed is = free_is ∙ ap (counted table epoch) is

-- more than so many, and no more
pub over : (n m : ℕ) → n ≡ m → max_deltas < n → nat_lt max_deltas m ≡ true
over n m same more = subst (λ k. nat_lt max_deltas k ≡ true) same (lt-ltb max_deltas n more)

pub within : (n m : ℕ) → n ≡ m → n ≤ max_deltas → nat_lt max_deltas m ≡ false
within n m same few = subst (λ k. nat_lt max_deltas k ≡ false) same (le-ltb max_deltas n few)
