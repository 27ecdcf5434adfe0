-- The holds of a vault: they stay, there is one more, or some are given back.
use Rattle.std.proofs.Common.{◌≡◌, ℕ, ◌+◌, ◌<◌, ◌≤◌, List, [], ◌∷◌, ◌++◌, map, Bool, true, false, sym, ◌∙◌, ap, subst, arith, Option, Some, IsTrue, nat_lt, lt-ltb}
use Rattle.std.specs.Prelude.{filter, if◌then◌else◌}
use Rattle.std.specs.List.{AllByRecursion}
use Rattle.std.proofs.lemmas.Bool.Decides.{nat_tests}
use Rattle.mesa_commit.specs.Images.{Has}
use Rattle.mesa_disk.specs.Image.{Image}
use Rattle.mesa_catalog.specs.mesa_store_spec.Catalog.{Catalog}
use Rattle.mesa_catalog.specs.mesa_store_spec.Fitting.{live_files}
use Rattle.mesa_catalog.specs.mesa_store_spec.Shape.{IsCatalog}
use Rattle.mesa_catalog.specs.mesa_store_spec.Sound.{HaveSoundRows, wants}
use Rattle.mesa_catalog.specs.mesa_store_spec.Ids.{named}
use Rattle.mesa_invariant_spec.specs.mesa_history_spec.Rows.{Rows}
use Rattle.mesa_commit.specs.declared.trash.Hold.{Hold}
use Rattle.mesa_commit.specs.Filed.{PinFiles}
use Rattle.mesa_commit.specs.Holding.{Held, IsHoldOf, AreFiled}
use Rattle.mesa_commit.proofs.Filing.{filed_later, filed_pinned}
use Rattle.mesa_engine.specs.EngineState.{HeldPin, OpenQuery, EngineState, next_id, Holder, pin_holder, query_holder, holders, ids_held, files_held}
use Rattle.mesa_engine.specs.Vault.{AreShaped, IsVersioned}
use Rattle.mesa_engine.proofs.Lists.{all_map, map_all, all_joined, all_front, all_back, all_also, all_so, all_filtered}

-- ---- all holds, by pins and queries

pub all_holders : (P : Holder → Type 0) (seen : ℕ → Catalog) (pins : List HeldPin) (queries : List OpenQuery) → AllByRecursion (λ p. P (pin_holder p)) pins → AllByRecursion (λ q. P (query_holder seen q)) queries
    → AllByRecursion P (map pin_holder pins ++ map (query_holder seen) queries)
all_holders P seen pins queries all also = all_joined P _ _ (all_map P pin_holder pins all) (all_map P (query_holder seen) queries also)

pub pins_of : (P : Holder → Type 0) (seen : ℕ → Catalog) (l : EngineState) → AllByRecursion P (holders seen l) → AllByRecursion (λ p. P (pin_holder p)) l.pins
pins_of P seen l all = map_all P pin_holder l.pins (all_front P (map pin_holder l.pins) (map (query_holder seen) l.queries) all)

pub queries_of : (P : Holder → Type 0) (seen : ℕ → Catalog) (l : EngineState) → AllByRecursion P (holders seen l) → AllByRecursion (λ q. P (query_holder seen q)) l.queries
queries_of P seen l all = map_all P (query_holder seen) l.queries (all_back P (map pin_holder l.pins) (map (query_holder seen) l.queries) all)

-- What is kept of holds when a state has other pins and queries.
pub record AreKept (rows : Rows) (sound : Bool) (told : Option Image) (seen : ℕ → Catalog) (l : EngineState) (position : ℕ) : Type 0 where
  pub filed : AreFiled position (next_id l) (named l.catalogue) l.trash (map ids_held (holders seen l))
  pub copies : AreShaped seen l
  pub versions : AllByRecursion IsVersioned l.pins
  pub sound_rows : IsTrue sound → AllByRecursion (λ (x : Holder). HaveSoundRows rows x.1) (holders seen l)
  pub there : IsTrue sound → (i : Image) → told ≡ Some i → AllByRecursion (λ (p : PinFiles). Has p.1 i) (map (files_held rows) (holders seen l))

-- ---- a hold more

-- the hold of a turn at a position, in which this is the next id
abbrev pub hold_at : ℕ → ℕ → Hold
hold_at position next = record { at = position; next = next }

-- the catalogues that stood at positions, and one that stands at this
abbrev pub seen_more : (ℕ → Catalog) → ℕ → Catalog → ℕ → Catalog
seen_more seen position c p = if nat_lt p position then seen p else c

seen_before : (seen : ℕ → Catalog) (position : ℕ) (c : Catalog) (p : ℕ) → p < position → seen_more seen position c p ≡ seen p
seen_before seen position c p lt = ap (λ b. if b then seen p else c) (lt-ltb p position lt)

seen_now : (seen : ℕ → Catalog) (position : ℕ) (c : Catalog) → seen_more seen position c position ≡ c
seen_now seen position c = ap (λ b. if b then seen position else c) not_less
  where
    not_less : nat_lt position position ≡ false
    not_less = grind (arith, nat_tests)

module _ (rows : Rows) (sound : Bool) (told : Option Image) (seen : ℕ → Catalog) (l : EngineState) (position : ℕ) (kept : AreKept rows sound told seen l position) where
  filed_all : (P : Held → Type 0) (x : Holder → Type 0) → AllByRecursion P (map ids_held (holders seen l)) → AllByRecursion (λ h. P (ids_held h)) (holders seen l)
  filed_all P x all = map_all P ids_held (holders seen l) all

  -- the turn that follows leaves the holds
  pub holds_stay : AreKept rows sound told seen l (position + 1)
  holds_stay = record {
    filed = filed_later position (next_id l) (named l.catalogue) l.trash (map ids_held (holders seen l)) kept.filed (position + 1) (omega arith);
    copies = kept.copies;
    versions = kept.versions;
    sound_rows = kept.sound_rows;
    there = kept.there;
  }

  -- what the catalogue is for a hold that is made now
  module _ (shaped : IsCatalog l.catalogue) (rows_are : IsTrue sound → HaveSoundRows rows l.catalogue) (has : IsTrue sound → (i : Image) → told ≡ Some i → Has (wants rows (live_files l.catalogue)) i) where
    abbrev mine : Holder
    mine = (hold_at position (next_id l), l.catalogue)

    made : AreFiled (position + 1) (next_id l) (named l.catalogue) l.trash ((hold_at position (next_id l), named l.catalogue) ∷ map ids_held (holders seen l))
    made = (filed_pinned position (next_id l) (named l.catalogue) l.trash (map ids_held (holders seen l)) kept.filed true).1

    -- all of them, where the new one is the first
    pub record Firsts (P : Holder → Type 0) : Type 0 where
      pub first : P (hold_at position (next_id l), l.catalogue)
      pub rest : AllByRecursion P (holders seen l)

    held_first : Firsts (λ x. IsHoldOf (named l.catalogue) l.trash (ids_held x).0 (ids_held x).1)
    held_first = record { first = made.held.0; rest = map_all (λ (p : Held). IsHoldOf (named l.catalogue) l.trash p.0 p.1) ids_held (holders seen l) made.held.1 }

    before_first : Firsts (λ x. ((ids_held x).0.at < position + 1) × ((ids_held x).0.next ≤ next_id l))
    before_first = record { first = made.before.0; rest = map_all (λ (p : Held). (p.0.at < position + 1) × (p.0.next ≤ next_id l)) ids_held (holders seen l) made.before.1 }

    -- a pin more
    module _ (pin : HeldPin) (hold : pin.hold ≡ hold_at position (next_id l)) (copy : pin.copy ≡ l.catalogue) (versioned : IsVersioned pin) where
      abbrev with_pin : EngineState
      with_pin = record l { pins = l.pins ++ pin ∷ [] }

      with_one : (P : Holder → Type 0) → P (hold_at position (next_id l), l.catalogue) → AllByRecursion P (holders seen l) → AllByRecursion P (holders seen with_pin)
      with_one P first rest =
          all_holders P seen (l.pins ++ pin ∷ []) l.queries
          (all_joined (λ p. P (pin_holder p)) l.pins (pin ∷ []) (pins_of P seen l rest) (subst P (λ i. (sym hold i, sym copy i)) first, tt)) (queries_of P seen l rest)

      pub pin_kept : AreKept rows sound told seen with_pin (position + 1)
      pin_kept = record {
        filed = record {
          held = all_map (λ (p : Held). IsHoldOf (named l.catalogue) l.trash p.0 p.1) ids_held (holders seen with_pin) (with_one _ held_first.first held_first.rest);
          before = all_map (λ (p : Held). (p.0.at < position + 1) × (p.0.next ≤ next_id l)) ids_held (holders seen with_pin) (with_one _ before_first.first before_first.rest);
          apart = made.apart;
          named_given = made.named_given;
          trash_given = made.trash_given;
          past = made.past;
        };
        copies = with_one _ shaped kept.copies;
        versions = all_joined IsVersioned l.pins (pin ∷ []) kept.versions (versioned, tt);
        sound_rows = λ ok. with_one _ (rows_are ok) (kept.sound_rows ok);
        there = λ ok i is. all_map (λ (p : PinFiles). Has p.1 i) (files_held rows) (holders seen with_pin) (with_one _ (has ok i is) (map_all (λ (p : PinFiles). Has p.1 i) (files_held rows) (holders seen l) (kept.there ok i is)));
      }

    -- an open query more
    module _ (query : OpenQuery) (hold : query.hold ≡ hold_at position (next_id l)) where
      abbrev with_query : EngineState
      with_query = record l { queries = l.queries ++ query ∷ [] }

      abbrev later : ℕ → Catalog
      later = seen_more seen position l.catalogue

      old_queries : AllByRecursion (λ (q : OpenQuery). q.hold.at < position) l.queries
      old_queries = all_so (λ (q : OpenQuery). (q.hold.at < position) × (q.hold.next ≤ next_id l)) (λ (q : OpenQuery). q.hold.at < position) l.queries (λ q is. is.0)
          (queries_of (λ x. ((ids_held x).0.at < position) × ((ids_held x).0.next ≤ next_id l)) seen l (map_all (λ (p : Held). (p.0.at < position) × (p.0.next ≤ next_id l)) ids_held (holders seen l) kept.filed.before))

      here : query_holder later query ≡ (hold_at position (next_id l), l.catalogue)
      here = λ i. (hold i, (ap (λ (x : Hold). later x.at) hold ∙ seen_now seen position l.catalogue) i)

      with_another : (P : Holder → Type 0) → P (hold_at position (next_id l), l.catalogue) → AllByRecursion P (holders seen l) → AllByRecursion P (holders later with_query)
      with_another P first rest =
          all_holders P later l.pins (l.queries ++ query ∷ []) (pins_of P seen l rest)
          (all_joined (λ q. P (query_holder later q)) l.queries (query ∷ [])
          (all_also (λ q. P (query_holder seen q)) (λ (q : OpenQuery). q.hold.at < position) (λ q. P (query_holder later q)) l.queries (λ q is lt. subst (λ c. P (q.hold, c)) (sym (seen_before seen position l.catalogue q.hold.at lt)) is) (queries_of P seen l rest) old_queries)
          (subst P (sym here) first, tt))

      pub query_kept : AreKept rows sound told later with_query (position + 1)
      query_kept = record {
        filed = record {
          held = all_map (λ (p : Held). IsHoldOf (named l.catalogue) l.trash p.0 p.1) ids_held (holders later with_query) (with_another _ held_first.first held_first.rest);
          before = all_map (λ (p : Held). (p.0.at < position + 1) × (p.0.next ≤ next_id l)) ids_held (holders later with_query) (with_another _ before_first.first before_first.rest);
          apart = made.apart;
          named_given = made.named_given;
          trash_given = made.trash_given;
          past = made.past;
        };
        copies = with_another _ shaped kept.copies;
        versions = kept.versions;
        sound_rows = λ ok. with_another _ (rows_are ok) (kept.sound_rows ok);
        there = λ ok i is. all_map (λ (p : PinFiles). Has p.1 i) (files_held rows) (holders later with_query) (with_another _ (has ok i is) (map_all (λ (p : PinFiles). Has p.1 i) (files_held rows) (holders seen l) (kept.there ok i is)));
      }

  -- ---- holds that are given back

  module _ (pins : HeldPin → Bool) (queries : OpenQuery → Bool) where
    abbrev fewer : EngineState
    fewer = record l { pins = filter pins l.pins; queries = filter queries l.queries }

    with_fewer : (P : Holder → Type 0) → AllByRecursion P (holders seen l) → AllByRecursion P (holders seen fewer)
    with_fewer P all = all_holders P seen (filter pins l.pins) (filter queries l.queries) (all_filtered (λ p. P (pin_holder p)) pins l.pins (pins_of P seen l all)) (all_filtered (λ q. P (query_holder seen q)) queries l.queries (queries_of P seen l all))

    pub fewer_kept : AreKept rows sound told seen fewer (position + 1)
    fewer_kept = record {
      filed = record {
        held = all_map (λ (p : Held). IsHoldOf (named l.catalogue) l.trash p.0 p.1) ids_held (holders seen fewer) (with_fewer _ (map_all (λ (p : Held). IsHoldOf (named l.catalogue) l.trash p.0 p.1) ids_held (holders seen l) stay.held));
        before = all_map (λ (p : Held). (p.0.at < position + 1) × (p.0.next ≤ next_id l)) ids_held (holders seen fewer) (with_fewer _ (map_all (λ (p : Held). (p.0.at < position + 1) × (p.0.next ≤ next_id l)) ids_held (holders seen l) stay.before));
        apart = stay.apart;
        named_given = stay.named_given;
        trash_given = stay.trash_given;
        past = stay.past;
      };
      copies = with_fewer _ kept.copies;
      versions = all_filtered IsVersioned pins l.pins kept.versions;
      sound_rows = λ ok. with_fewer _ (kept.sound_rows ok);
      there = λ ok i is. all_map (λ (p : PinFiles). Has p.1 i) (files_held rows) (holders seen fewer) (with_fewer _ (map_all (λ (p : PinFiles). Has p.1 i) (files_held rows) (holders seen l) (kept.there ok i is)));
    }
      where
        stay : AreFiled (position + 1) (next_id l) (named l.catalogue) l.trash (map ids_held (holders seen l))
        stay = holds_stay.filed
