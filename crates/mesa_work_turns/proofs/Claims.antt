-- What the books say of a claim.
use Rattle.std.proofs.Common.{◌≡◌, inl, inr, ℕ, ◌+◌, ◌<◌, List, ◌∙◌, ap, arith, true, ◌&&◌, ◌==◌, nat_le, Option, None, Some, Ok, Err}
use Rattle.std.specs.Prelude.{Result}
use Rattle.std.specs.Option.{ok_or}
use Rattle.std.proofs.Math.ListN.{get_or-map}
use Rattle.std.proofs.lemmas.Simd.{map-map}
use Rattle.mesa_write_turns.specs.mesa_list.Checks.{◌>>=◌, ◌>>◌, refused_as}
use Rattle.mesa_write_turns.specs.mesa_columns.Columns.{place_of}
use Rattle.mesa_span.specs.declared.works.Work.{Work}
use Rattle.mesa_span.specs.Ranges.{base_before}
use Rattle.mesa_span.specs.Work.{missing_end, next_work}
use Rattle.mesa_span.specs.declared.works.Work.TheVariants as range
use Rattle.mesa_write_turns.specs.mesa_history_spec.Machine.{Claim, Machine, Merges, claim_of, ranges_at, refuse_busy}
use Rattle.mesa_engine.specs.mesa_store_spec.Catalog.{Catalog, TableMeta, no_meta, ranges_of, start_in, meta_at}
use Rattle.mesa_engine.specs.mesa_store_spec.Fitting.{is_number, may_be_work}
use Rattle.mesa_engine.specs.mesa_store_spec.Shape.{IsShaped}
use Rattle.mesa_engine.proofs.mesa_store_spec.Lists.{both_true, is_at_most, is_equal}
use Rattle.mesa_engine.proofs.mesa_store_spec.ShapedBatches.{missing_there}
use Rattle.mesa_engine.specs.mesa_store_spec.Moves.{first_of, is_base, last_of}
use Rattle.mesa_lease.specs.Book.{holder}
use Rattle.mesa_model.specs.Refusals.{no_such_table, refuse_closed}
use Rattle.mesa_model.specs.Relations.{table_number}
use Rattle.mesa_model.specs.Warehouse.{Table, Warehouse, table_at}
use Rattle.mesa_model.specs.declared.replies.Refusal.TheVariants as no
use Rattle.mesa_model.specs.declared.replies.Reply.{Reply}
use Rattle.mesa_model.specs.declared.replies.Reply.TheVariants as reply
use Rattle.mesa_engine.specs.EngineState.{EngineState, books_of, projection_of}
use Rattle.mesa_validate.specs.Seen.{number_of}
use Rattle.mesa_write_turns.specs.mesa_history_spec.Rows.{no_rows}

module _ (l : EngineState) (at : ℕ) (name : List ℕ) where
  abbrev bare : Warehouse
  bare = (books_of no_rows l).bare

  abbrev machine : Machine
  machine = (books_of no_rows l).machine

  abbrev given : ℕ → Option Work → Result Claim Reply
  given table work = ok_or work reply.Idle >>= (λ w. Ok (record { table = table; lease = l.leases.granted + 1; errand = Merges w }))

  abbrev at_table : ℕ → Option ℕ → Option Work → Result Claim Reply
  at_table table held work = refuse_busy held >> given table work

  abbrev work_of : ℕ → Option Work
  work_of table = next_work (ranges_at machine table) (table_at bare.store table).oldest (base_before l.catalogue.next)

  -- its steps, by what each asks
  abbrev steps : Option ℕ → Option ℕ → Result Claim Reply
  steps closed number = refused_as reply.Refused (refuse_closed closed) >> (ok_or number (reply.Refused no_such_table) >>= (λ table. at_table table (holder l.leases table at) (work_of table)))

  number_is : table_number bare.store name ≡ number_of l.catalogue name
  number_is = ap (place_of name) (map-map (λ (t : Table). t.name) projection_of l.catalogue.tables)

  claim_is : claim_of bare machine at name ≡ steps l.closed (number_of l.catalogue name)
  claim_is = ap (steps l.closed) number_is

  pub shut : (p : ℕ) → l.closed ≡ Some p → claim_of bare machine at name ≡ Err (reply.Refused (no.Closed p))
  shut p is = claim_is ∙ ap (λ c. steps c (number_of l.catalogue name)) is

  module _ (open' : l.closed ≡ None) where
    pub missing : number_of l.catalogue name ≡ None → claim_of bare machine at name ≡ Err (reply.Refused no_such_table)
    missing is = claim_is ∙ (λ i. steps (open' i) (is i))

    module _ (table : ℕ) (there : number_of l.catalogue name ≡ Some table) where
      table_is : claim_of bare machine at name ≡ at_table table (holder l.leases table at) (work_of table)
      table_is = claim_is ∙ (λ i. steps (open' i) (there i))

      pub busy : (lease : ℕ) → holder l.leases table at ≡ Some lease → claim_of bare machine at name ≡ Err (reply.Busy lease)
      busy lease is = table_is ∙ ap (λ held. at_table table held (work_of table)) is

      work_is : (o : Option Work) → next_work (ranges_of (meta_at l.catalogue table)) (meta_at l.catalogue table).oldest (base_before l.catalogue.next) ≡ o → work_of table ≡ o
      work_is o is =
          let ranges = get_or-map ranges_of l.catalogue.tables table no_meta in
          let oldest = ap (λ (t : Table). t.oldest) (get_or-map projection_of l.catalogue.tables table no_meta) in
          (λ i. next_work (ranges i) (oldest i) (base_before l.catalogue.next)) ∙ is

      pub idle : holder l.leases table at ≡ None → next_work (ranges_of (meta_at l.catalogue table)) (meta_at l.catalogue table).oldest (base_before l.catalogue.next) ≡ None → claim_of bare machine at name ≡ Err reply.Idle
      idle free is = table_is ∙ (λ i. at_table table (free i) (work_is None is i))

      pub claimed : (work : Work) → holder l.leases table at ≡ None → next_work (ranges_of (meta_at l.catalogue table)) (meta_at l.catalogue table).oldest (base_before l.catalogue.next) ≡ Some work
          → claim_of bare machine at name ≡ Ok (record { table = table; lease = l.leases.granted + 1; errand = Merges work })
      claimed work free is = table_is ∙ (λ i. at_table table (free i) (work_is (Some work) is i))

-- ---- its range

-- a number that is this one
some_number : (o : Option ℕ) (n : ℕ) → is_number o n ≡ true → o ≡ Some n
some_number None n is = absurd cc
some_number (Some m) n is = ap Some (is_equal m n is)

-- A range that work may give ends before the next version.
pub work_ends : (c : Catalog) (t : TableMeta) (work : Work) → IsShaped c.floor c.next t → may_be_work c t (is_base work) (first_of work) (last_of work) ≡ true → last_of work < c.next
work_ends c t (range.Base to) shaped may =
    let last = both_true ((0 == 0) && nat_le 1 to && nat_le (start_in t) to) (nat_le to t.oldest) may in
    let third = both_true ((0 == 0) && nat_le 1 to) (nat_le (start_in t) to) last.0 in
    let some = is_at_most 1 to (both_true (0 == 0) (nat_le 1 to) third.0).1 in
    let within = is_at_most to t.oldest last.1 in
    elim shaped.oldest [ inl lt ↦ omega (arith, within, lt) | inr none ↦ absurd (omega (arith, some, within, none.0)) ]
work_ends c t (range.Cumulative from to) shaped may =
    let both = both_true (from == start_in t) (is_number (missing_end (start_in t) (ranges_of t).cumulatives (base_before c.next)) to) may in
    let whole = shaped.singles in
    missing_there (start_in t) c.next to (ranges_of t).cumulatives (omega (arith, whole)) (some_number (missing_end (start_in t) (ranges_of t).cumulatives (base_before c.next)) to both.1)
