use Rattle.std.proofs.Common.{◌≡◌, ◌∙◌, ◌<◌, ◌+◌, ◌-◌, ap, length, map, subst, sym, arith, []}
use Rattle.std.specs.Prelude.{slice_index_or}
use Rattle.mesa_answer.specs.mesa_columns.Rows.{AreRowsOf}
use Rattle.mesa_schema.specs.Changes.{columns_of}
use Rattle.mesa_answer.specs.Answering.{KeepsSums}
use Rattle.mesa_batch.specs.Numbers.{known_of}
use Rattle.mesa_model.specs.Warehouse.{Table, content_at, table_at}
use Rattle.mesa_oracle_tables.specs.Found.{known_at, no_known}
use Rattle.mesa_oracle_tables.specs.Kept.{Versioned, contents_in, from_of, gone_in, oldest_in, totals_in}
use Rattle.mesa_oracle_tables.proofs.OneVersion.{length-tables_in}
use Rattle.mesa_oracle_tables.proofs.Seen.{held_at, keeps_sums, table_kept}
use Rattle.std.proofs.lemmas.Option.{slice_get-get_or}
use Rattle.std.proofs.lemmas.List.{get_or-drop}
use Rattle.mesa_oracle_tables.proofs.store.PlainStore.content.Goals as goal

-- where the content of a version stands among those that are kept
pub overflow_sub-behind : goal.overflow_sub-behind
overflow_sub-behind c = omega (arith, c.oldest-oldest.ensures.above, ap (λ (v : Versioned). v.store.floor) c.self.view_is)

pub returns-clause-rows : goal.returns-clause-rows
returns-clause-rows c =
    let s = c.self.inside in
    let from = from_of s.floor s.oldests in
    let tables = map known_of s.tables.items in
    let contents = contents_in c.args.table s.versions.items in
    let lt : c.args.table < length tables = omega (arith, c.requires, ap (λ (v : Versioned). length v.store.tables) c.self.view_is, length-tables_in from 0 s.totals s.versions.items tables) in
    let kept = table_kept s.totals s.versions.items tables from c.args.table lt in
    let oldest : c.oldest-oldest.result ≡ oldest_in c.args.table from = c.oldest-oldest.ensures.oldest ∙ sym (ap (λ (v : Versioned). (table_at v.store c.args.table).oldest) c.self.view_is) ∙ ap (λ (t : Table). t.oldest) kept in
    let place : (c.oldest-oldest.result - s.floor) + c.saturating_sub.result ≡ gone_in c.args.table from + (c.args.version - oldest_in c.args.table from) = (λ j. (oldest j - s.floor) + c.saturating_sub.result) ∙ ap (λ n. gone_in c.args.table from + n) (c.saturating_sub.ensures ∙ ap (λ o. c.args.version - o) oldest) in
    let at = ap (λ n. slice_index_or contents n []) place ∙ sym (get_or-drop (gone_in c.args.table from) contents (c.args.version - oldest_in c.args.table from) []) in
    subst (λ (v : Versioned). c.content_of.result.now ≡ content_at (table_at v.store c.args.table) c.args.version) c.self.view_is
    (c.content_of.ensures ∙ at ∙ sym (ap (λ (t : Table). content_at t c.args.version) kept))

pub returns-clause-forms : goal.returns-clause-forms
returns-clause-forms c =
    let s = c.self.inside in
    let tables = map known_of s.tables.items in
    let lt : c.args.table < length tables = omega (arith, c.requires, ap (λ (v : Versioned). length v.store.tables) c.self.view_is, length-tables_in (from_of s.floor s.oldests) 0 s.totals s.versions.items tables) in
    let held = held_at tables s.totals s.versions.items c.args.table (c.oldest-oldest.result - s.floor + c.saturating_sub.result) c.self.invariant.have c.self.invariant.held lt in
    let kept = table_kept s.totals s.versions.items tables (from_of s.floor s.oldests) c.args.table lt in
    let columns = ap (λ (t : Table). columns_of t.lineage) kept in
    subst (λ (v : Versioned). AreRowsOf (columns_of (table_at v.store c.args.table).lineage) c.content_of.result.now) c.self.view_is
    (subst (λ s. AreRowsOf s c.content_of.result.now) (sym columns) (subst (AreRowsOf (columns_of (known_at c.args.table tables).lineage)) (sym c.content_of.ensures) held.forms))

pub returns-clause-sums : goal.returns-clause-sums
returns-clause-sums c =
    let s = c.self.inside in
    let tables = map known_of s.tables.items in
    let lt : c.args.table < length tables = omega (arith, c.requires, ap (λ (v : Versioned). length v.store.tables) c.self.view_is, length-tables_in (from_of s.floor s.oldests) 0 s.totals s.versions.items tables) in
    let held = held_at tables s.totals s.versions.items c.args.table (c.oldest-oldest.result - s.floor + c.saturating_sub.result) c.self.invariant.have c.self.invariant.held lt in
    let has = c.self.invariant.have c.args.table (known_at c.args.table tables) (slice_get-get_or tables c.args.table no_known lt) in
    let kept = table_kept s.totals s.versions.items tables (from_of s.floor s.oldests) c.args.table lt in
    let columns = ap (λ (t : Table). columns_of t.lineage) kept in
    let sums : KeepsSums (columns_of (known_at c.args.table tables).lineage) c.content_of.result.now =
    subst (KeepsSums (columns_of (known_at c.args.table tables).lineage)) (sym c.content_of.ensures) (keeps_sums (columns_of (known_at c.args.table tables).lineage) (totals_in c.args.table s.totals) _ has held) in
    subst (λ (v : Versioned). KeepsSums (columns_of (table_at v.store c.args.table).lineage) c.content_of.result.now) c.self.view_is
    (subst (λ s. KeepsSums s c.content_of.result.now) (sym columns) sums)
