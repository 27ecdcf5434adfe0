use Rattle.std.proofs.Common.{◌≡◌, ◌∙◌, ◌<◌, ◌≤◌, ◌-◌, ◌∷◌, [], ap, arith, length, map, replicate, subst, sym}
use Rattle.mesa_batch.specs.Numbers.{known_of}
use Rattle.mesa_model.specs.Pins.{store_at}
use Rattle.mesa_model.specs.Versions.{common_oldest}
use Rattle.mesa_oracle_tables.specs.Kept.{Versioned, from_of, tables_in}
use Rattle.mesa_oracle_tables.proofs.OneVersion.{all_below, floor_below, pinned_kept, tables_pinned}
use Rattle.mesa_oracle_tables.proofs.store.PlainStore.at.Goals as goal

pub overflow_sub-place : goal.overflow_sub-place
overflow_sub-place c =
    let s = c.self.inside in
    let from = from_of s.floor s.oldests in
    let tables = map known_of s.tables.items in
    let low : common_oldest (record { tables = tables_in from 0 s.totals s.versions.items tables; floor = s.floor }) ≤ c.args.version = subst (λ (v : Versioned). common_oldest v.store ≤ c.args.version) (sym c.self.view_is) c.requires.low in
    floor_below from c.args.version 0 s.totals s.versions.items tables low

pub overflow_add-result : goal.overflow_add-result
overflow_add-result c = omega (arith, c.requires.high, c.self.invariant.most, ap (λ (v : Versioned). v.next) c.self.view_is)

pub invariant_of-result : goal.invariant_of-result
invariant_of-result c =
    let s = c.self.inside in
    let again = c.in_ok-tables.ensures.known ∙ ap (map known_of) c.deref.ensures.value in
    let before : c.args.version < s.next = omega (arith, c.requires.high, ap (λ (v : Versioned). v.next) c.self.view_is) in
    let kept = pinned_kept (map known_of s.tables.items) s.totals s.versions.items (from_of s.floor s.oldests) s.next (c.args.version - s.floor) c.args.version c.in_ok-contents.contents c.self.invariant before c.in_ok-contents.ensures in
    rw (again, c.in_ok-only.ensures, c.totals.view_is, c.in_ok-totals.ensures, c.in_ok-oldests.ensures, c.len.ensures) kept

pub returns : goal.returns
returns c =
    let s = c.self.inside in
    let from = from_of s.floor s.oldests in
    let tables = map known_of s.tables.items in
    let again = c.in_ok-tables.ensures.known ∙ ap (map known_of) c.deref.ensures.value in
    let totals = c.totals.view_is ∙ c.in_ok-totals.ensures in
    let oldests = c.in_ok-oldests.ensures ∙ ap (λ n. replicate n c.args.version) c.len.ensures in
    let low : common_oldest (record { tables = tables_in from 0 s.totals s.versions.items tables; floor = s.floor }) ≤ c.args.version = subst (λ (v : Versioned). common_oldest v.store ≤ c.args.version) (sym c.self.view_is) c.requires.low in
    let long : length tables ≡ length s.oldests = sym c.self.invariant.oldests in
    let below = all_below from c.args.version s.totals s.versions.items tables long low in
    let pinned : record { tables = tables_in (from_of c.args.version (replicate (length s.oldests) c.args.version)) 0 s.totals (c.in_ok-contents.contents ∷ []) tables; floor = c.args.version } ≡ store_at (record { tables = tables_in from 0 s.totals s.versions.items tables; floor = s.floor }) c.args.version =
    λ j. record { tables = tables_pinned from s.next c.args.version 0 s.totals s.versions.items c.in_ok-contents.contents tables c.self.invariant.apart below (omega (arith, long)) c.in_ok-contents.ensures j; floor = c.args.version } in
    (λ j. record { tables = tables_in (from_of c.args.version (oldests j)) 0 (totals j) (c.in_ok-only.ensures j) (again j); floor = c.args.version }) ∙ pinned ∙ ap (λ (v : Versioned). store_at v.store c.args.version) c.self.view_is
