use Rattle.std.proofs.Common.{◌≡◌, ◌∙◌, ◌+◌, ◌<◌, ◌∷◌, [], ℕ, List, inl, inr, ap, sym, subst, map, length, length-append, arith, Ok}
use Rattle.std.specs.Prelude.{◌⊎◌}
use Rattle.std.specs.List.{AllByRecursion}
use Rattle.std.proofs.lemmas.Result.{err_from_is_err_and}
use Rattle.mesa_batch.specs.Numbers.{known_of}
use Rattle.mesa_model.specs.Load.{bounds_checked}
use Rattle.mesa_oracle_tables.specs.Kept.{Versioned, from_of, known_in, nowhere, tables_in, with_batch}
use Rattle.mesa_oracle_tables.specs.Grown.{AreContentsWith, AreTotalsWith, IsBatchOf}
use Rattle.mesa_binding.specs.Told.{IsDue}
use Rattle.mesa_oracle_tables.specs.Sound.{IsOldest}
use Rattle.mesa_oracle_tables.proofs.Stores.{bounds_any, bounds_passed, can_take, have_after, held_after, known_again, loaded, newest_there, widths_after}
use Rattle.mesa_oracle_tables.proofs.store.PlainStore.load.Goals as goal

-- an oldest version stays one where there is a version more
later : (floor next oldest : ℕ) → IsOldest floor next oldest → (oldest < next + 1) ⊎ ((oldest ≡ 0) × (next + 1 ≡ 0))
later floor next oldest is = elim is.1 [ inl lt ↦ inl (omega (arith, lt)) | inr none ↦ inl (omega (arith, none.0)) ]

all_later : (floor next : ℕ) (oldests : List ℕ) → AllByRecursion (IsOldest floor next) oldests → AllByRecursion (IsOldest floor (next + 1)) oldests
all_later floor next [] all = tt
all_later floor next (o ∷ oldests) all = ((all.0.0, later floor next o all.0), all_later floor next oldests all.1)

pub totals_with_batch-requires-clause-totals : goal.totals_with_batch-requires-clause-totals
totals_with_batch-requires-clause-totals c = rw c.deref.ensures.value c.self.invariant.have

pub totals_with_batch-requires-clause-batch : goal.totals_with_batch-requires-clause-batch
totals_with_batch-requires-clause-batch c =
    let s = c.self.inside in
    let known = sym (ap (λ (v : Versioned). known_in v.store) c.self.view_is) ∙ known_again (from_of s.floor s.oldests) 0 s.totals s.versions.items (map known_of s.tables.items) in
    rw c.deref.ensures.value (subst (λ ks. IsBatchOf ks c.args.batch.now) known c.requires.batch)

pub returns-in_err-totals-clause-refused : goal.returns-in_err-totals-clause-refused
returns-in_err-totals-clause-refused c =
    let p = err_from_is_err_and c.from_residual.result c.from_residual.ensures.1 in
    let s = c.self.inside in
    let tables = map known_of s.tables.items in
    rw (p.1, p.2) (λ placed has.
    let due = rw c.deref.ensures.value at (c.in_err-totals.ensures.refused placed has) in
    subst (λ (v : Versioned). IsDue (bounds_checked placed 0 v.store.tables) c.in_err-totals.field-0.0) c.self.view_is
    (subst (λ r. IsDue r c.in_err-totals.field-0.0) (bounds_any nowhere (from_of s.floor s.oldests) placed 0 s.totals [] s.versions.items tables) due))

pub contents_with_batch-requires-clause-batch : goal.contents_with_batch-requires-clause-batch
contents_with_batch-requires-clause-batch c =
    let s = c.self.inside in
    let known = sym (ap (λ (v : Versioned). known_in v.store) c.self.view_is) ∙ known_again (from_of s.floor s.oldests) 0 s.totals s.versions.items (map known_of s.tables.items) in
    rw c.deref-2.ensures.value (subst (λ ks. IsBatchOf ks c.args.batch.now) known c.requires.batch)

pub contents_with_batch-requires-clause-can : goal.contents_with_batch-requires-clause-can
contents_with_batch-requires-clause-can c =
    let s = c.self.inside in
    let with = rw c.deref.ensures.value at c.in_ok-totals.ensures.after in
    rw c.deref-2.ensures.value (can_take (map known_of s.tables.items) s.totals c.in_ok-totals.totals s.versions.items c.args.batch.now c.self.invariant.have c.self.invariant.held with)

pub invariant_of-self-2 : goal.invariant_of-self-2
invariant_of-self-2 c =
    let inv = c.self.invariant in
    let s = c.self.inside in
    let tables = map known_of s.tables.items in
    let versions = s.versions.items in
    let batch = c.args.batch.now in
    let known = sym (ap (λ (v : Versioned). known_in v.store) c.self.view_is) ∙ known_again (from_of s.floor s.oldests) 0 s.totals versions tables in
    let of = subst (λ ks. IsBatchOf ks batch) known c.requires.batch in
    let with : AreTotalsWith tables s.totals batch c.in_ok-totals.totals = rw c.deref.ensures.value at c.in_ok-totals.ensures.after in
    let grown : AreContentsWith tables versions batch c.in_ok-contents.contents = rw c.deref-2.ensures.value at c.in_ok-contents.ensures in
    let pushed = c.in_ok-push_contents.ensures.ok in
    record {
      few = inv.few;
      count = with.count;
      oldests = inv.oldests;
      apart = all_later s.floor s.next s.oldests inv.apart;
      widths = rw pushed (widths_after versions c.in_ok-contents.contents (length tables) inv.widths grown.count);
      numbers = omega (arith, ap length pushed, length-append versions (c.in_ok-contents.contents ∷ []), inv.numbers);
      floor = later s.floor s.next s.floor (omega arith, inv.floor);
      most = omega (arith, c.requires.room, ap (λ (v : Versioned). v.next) c.self.view_is);
      have = have_after tables s.totals c.in_ok-totals.totals batch inv.have with;
      held = rw pushed (held_after tables s.totals c.in_ok-totals.totals versions c.in_ok-contents.contents batch inv.have inv.held of with grown);
    }

pub returns-clause-loaded : goal.returns-clause-loaded
returns-clause-loaded c = λ placed has.
    let s = c.self.inside in
    let tables = map known_of s.tables.items in
    let versions = s.versions.items in
    let batch = c.args.batch.now in
    let with : AreTotalsWith tables s.totals batch c.in_ok-totals.totals = rw c.deref.ensures.value at c.in_ok-totals.ensures.after in
    let grown : AreContentsWith tables versions batch c.in_ok-contents.contents = rw c.deref-2.ensures.value at c.in_ok-contents.ensures in
    let made = ap (λ vs. tables_in (from_of s.floor s.oldests) 0 c.in_ok-totals.totals vs tables) c.in_ok-push_contents.ensures.ok ∙ loaded (from_of s.floor s.oldests) placed tables batch s.totals c.in_ok-totals.totals versions c.in_ok-contents.contents (newest_there tables s.totals versions (from_of s.floor s.oldests) s.next c.self.invariant) has with grown in
    subst (λ (v : Versioned). record { store = record { tables = tables_in (from_of s.floor s.oldests) 0 c.in_ok-totals.totals c.push_contents.new.versions.items tables; floor = s.floor }; next = s.next + 1 } ≡ with_batch placed v) c.self.view_is (λ j. record { store = record { tables = made j; floor = s.floor }; next = s.next + 1 })

pub returns-clause-bounds : goal.returns-clause-bounds
returns-clause-bounds c = λ placed has.
    let s = c.self.inside in
    let tables = map known_of s.tables.items in
    let with : AreTotalsWith tables s.totals c.args.batch.now c.in_ok-totals.totals = rw c.deref.ensures.value at c.in_ok-totals.ensures.after in
    subst (λ (v : Versioned). bounds_checked placed 0 v.store.tables ≡ Ok tt) c.self.view_is (bounds_passed (from_of s.floor s.oldests) placed tables s.totals c.in_ok-totals.totals s.versions.items c.args.batch.now has with)
