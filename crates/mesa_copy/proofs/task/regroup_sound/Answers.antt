use Rattle.std.proofs.Common.{◌≡◌, List, length, flat_map, take, refl, sym, ◌∙◌, ap, subst, arith}
use Rattle.std.proofs.lemmas.List.{take-append-le, take_all}
use Rattle.std.specs.Prelude.{Err}
use Rattle.std.specs.Vec.{with_items}
use Rattle.mesa_schema.specs.Changes.{Lineage, columns_of}
use Rattle.mesa_compact.specs.mesa_columns.Columns.{Columns}
use Rattle.mesa_schema.specs.Recasts.{recast_keys, recast_values}
use Rattle.mesa_compact.specs.mesa_merge.Faults.{faults_of}
use Rattle.mesa_compact.proofs.mesa_merge.Handing.{refill}
use Rattle.mesa_open_files.specs.Recasts.{AreRangesOf, AreRewritten, own, recast_in, recast_table}
use Rattle.mesa_open_files.specs.declared.recasting.RecastRange.{RecastRange}
use Rattle.mesa_open_files.specs.declared.recasting.RecastedRange.{RecastedRange}
use Rattle.mesa_compact.specs.Writing.{HasCauses}
use Rattle.mesa_compact.proofs.Causing.{caused_memory, caused_ok, caused_on}
use Rattle.mesa_copy.specs.Copying.{AreRangesBounded, IsRangesDamage, known_ranges}
use Rattle.mesa_copy.specs.Renewals.{columns_in}
use Rattle.mesa_copy.proofs.Lending.{told_here}
use Rattle.mesa_copy.proofs.Rewriting.{rewritten_all}
use Rattle.mesa_copy.proofs.Same.{first_same, rewritten_same}
use Rattle.mesa_copy.proofs.task.regroup_sound.Goals as goal

pub returns-in_default-clause-causes : goal.returns-in_default-clause-causes
returns-in_default-clause-causes g c = caused_memory _ _ _ _ _ refl refl

pub returns-in_default-clause-ids : goal.returns-in_default-clause-ids
returns-in_default-clause-ids g c = (0, refl)

pub rewrite_ranges-requires-clause-begun : goal.rewrite_ranges-requires-clause-begun
rewrite_ranges-requires-clause-begun g c = λ _ _.
    let bytes = g.M.Made.bytes in
    let id_of = g.M.Made.id_of in
    let read = g.R.FileReader.bytes in
    let t = c.args.task.now in
    let made = c.args.made.now.ranges.items in
    let r = recast_in t in
    let s : Columns = columns_of (recast_table t) in
    let columns : columns_in c.in-Ok.renewal ≡ s = ap columns_of c.in-Ok.ensures.table in (
      r,
      c.in-Ok.ensures.renewal,
      subst (λ (u : Columns). AreRewritten bytes id_of read u r (take (length made) c.deref_mut.result.now) made) (sym columns) (subst (λ (xs : List (RecastRange g.row.R.Denot)). AreRewritten bytes id_of read s r (take (length made) xs) made) (sym c.deref_mut.ensures.value) c.requires.begun),
    )

pub rewrite_ranges-requires-clause-ranges : goal.rewrite_ranges-requires-clause-ranges
rewrite_ranges-requires-clause-ranges g c = λ _ _.
    let read = g.R.FileReader.bytes in
    subst (λ (l : Lineage). AreRangesOf read l c.deref_mut.result.now) (sym c.in-Ok.ensures.table) (subst (AreRangesOf read (recast_table c.args.task.now)) (sym c.deref_mut.ensures.value) c.requires.task.ranges)

-- ---- all are made

-- What the ranges are once they come back: the same, with the same made of them.
pub returns-in-Ok-rewrite_ranges-clause-rewritten : goal.returns-in-Ok-rewrite_ranges-clause-rewritten
returns-in-Ok-rewrite_ranges-clause-rewritten g c =
    let bytes = g.M.Made.bytes in
    let id_of = g.M.Made.id_of in
    let read = g.R.FileReader.bytes in
    let t = c.args.task.now in
    let before = c.args.made.now.ranges.items in
    let after = c.rewrite_ranges.new.made.items in
    let r = recast_in t in
    let s : Columns = columns_of (recast_table t) in
    let columns : columns_in c.in-Ok.renewal ≡ s = ap columns_of c.in-Ok.ensures.table in
    let lent = c.deref_mut.ensures.value in
    let back = refill t.ranges.len t.ranges.items c.rewrite_ranges.new.ranges (sym t.ranges.ok.0) (c.rewrite_ranges.auto.ranges ∙ ap length lent) in
    let begun = subst (λ (u : Columns). AreRewritten bytes id_of read u r (take (length before) c.deref_mut.result.now) before) (sym columns) (subst (λ (xs : List (RecastRange g.row.R.Denot)). AreRewritten bytes id_of read s r (take (length before) xs) before) (sym lent) c.requires.begun) in
    let all = subst (λ (u : Columns). AreRewritten bytes id_of read u r c.deref_mut.result.now after) columns (c.in-Ok-rewrite_ranges.ensures.rewritten r c.in-Ok.ensures.renewal begun) in
    subst (λ (xs : List (RecastRange g.row.R.Denot)). AreRewritten bytes id_of read s r xs after) (sym back) (rewritten_same bytes id_of read s r c.deref_mut.result.now c.rewrite_ranges.new.ranges after c.in-Ok-rewrite_ranges.ensures.known all)

pub returns-in-Ok-rewrite_ranges-clause-so_far : goal.returns-in-Ok-rewrite_ranges-clause-so_far
returns-in-Ok-rewrite_ranges-clause-so_far g c =
    rewritten_all g.M.Made.bytes g.M.Made.id_of g.R.FileReader.bytes (columns_of (recast_table c.args.task.now)) (recast_in c.args.task.now) _ c.rewrite_ranges.new.made.items (returns-in-Ok-rewrite_ranges-clause-rewritten g c)

pub returns-in-Ok-rewrite_ranges-clause-causes : goal.returns-in-Ok-rewrite_ranges-clause-causes
returns-in-Ok-rewrite_ranges-clause-causes g c =
    let t = c.args.task.now in
    let lent = c.deref_mut.ensures.value in
    let back = refill t.ranges.len t.ranges.items c.rewrite_ranges.new.ranges (sym t.ranges.ok.0) (c.rewrite_ranges.auto.ranges ∙ ap length lent) in
    let counts = λ (xs : List (RecastRange g.row.R.Denot)). faults_of g.R.FileReader.faults (flat_map own xs) in
    let all = c.in-Ok-rewrite_ranges.ensures.causes in
    caused_ok _ _ _ _ _ _ all.drafts.quiet (ap counts back ∙ all.reads.quiet ∙ ap counts lent)

-- ---- one isn't

pub returns-clause-causes : goal.returns-clause-causes
returns-clause-causes g c =
    let read = g.R.FileReader.bytes in
    let size = g.R.FileReader.size in
    let t = c.args.task.now in
    let r = recast_in t in
    let s : Columns = columns_of (recast_table t) in
    let x = c.in-Ok.renewal in
    let is = c.in-Ok.ensures.renewal in
    let columns : columns_in x ≡ s = ap columns_of c.in-Ok.ensures.table in
    let keys : x.columns.items ≡ recast_keys s r = is.columns ∙ ap (λ (u : Columns). recast_keys u r) columns in
    let values : x.values.items ≡ recast_values s r = is.values ∙ ap (λ (u : Columns). recast_values u r) columns in
    let lent = c.deref_mut.ensures.value in
    let back = refill t.ranges.len t.ranges.items c.rewrite_ranges.new.ranges (sym t.ranges.ok.0) (c.rewrite_ranges.auto.ranges ∙ ap length lent) in
    let counts = λ (xs : List (RecastRange g.row.R.Denot)). faults_of g.R.FileReader.faults (flat_map own xs) in
    let here = caused_on {U = Unit {0}} _ (IsRangesDamage read size s (recast_keys s r) (recast_values s r) c.rewrite_ranges.new.ranges) _ _ _ _ _ _ _ (Err c.in-Err.error) refl (ap counts lent) c.in-Err.ensures.causes refl
    (λ d told. record { at = told.at; range = told.range; one = told.one; told = told_here read size (columns_in x) s x.columns.items (recast_keys s r) x.values.items (recast_values s r) (own told.range) d columns keys values told.told }) in
    subst (λ (xs : List (RecastRange g.row.R.Denot)). HasCauses {T = Unit {0}} (g.B.Bench.faults c.args.bench.now) (g.B.Bench.faults c.rewrite_ranges.new.bench) (counts t.ranges.items) (counts xs) (IsRangesDamage read size s (recast_keys s r) (recast_values s r) xs) (Err c.in-Err.error)) (sym back) here

pub returns-clause-accepts : goal.returns-clause-accepts
returns-clause-accepts g c = λ d is b.
    let read = g.R.FileReader.bytes in
    let s : Columns = columns_of (recast_table c.args.task.now) in
    let columns : columns_in c.in-Ok.renewal ≡ s = ap columns_of c.in-Ok.ensures.table in
    c.in-Err.ensures.accepts d is (subst (λ (u : Columns). AreRangesBounded read u c.deref_mut.result.now) (sym columns) (subst (AreRangesBounded read s) (sym c.deref_mut.ensures.value) b))

pub returns-clause-so_far : goal.returns-clause-so_far
returns-clause-so_far g c =
    let bytes = g.M.Made.bytes in
    let id_of = g.M.Made.id_of in
    let read = g.R.FileReader.bytes in
    let t = c.args.task.now in
    let made = c.args.made.now.ranges in
    let r = recast_in t in
    let s : Columns = columns_of (recast_table t) in
    let lent = c.deref_mut.ensures.value in
    let back = refill t.ranges.len t.ranges.items c.rewrite_ranges.new.ranges (sym t.ranges.ok.0) (c.rewrite_ranges.auto.ranges ∙ ap length lent) in
    let n = c.len-before.result in
    let count : n ≡ length made.items = omega (arith, c.len-before.ensures, made.ok.0) in
    let more = c.in-Err.ensures.more in
    let stays : c.truncate.new.self.items ≡ made.items = c.truncate.ensures.items ∙ ap (take n) more.1 ∙ take-append-le n made.items more.0 (omega (arith, count)) ∙ take_all n made.items (omega (arith, count)) in
    let known = c.in-Err.ensures.known ∙ ap (known_ranges read) lent in
    let first = first_same bytes id_of read s r (length made.items) t.ranges.items c.rewrite_ranges.new.ranges made.items known c.requires.begun in
    subst (λ (ys : List (RecastedRange g.row.M.Denot)). AreRewritten bytes id_of read s r (take (length ys) (with_items t.ranges c.rewrite_ranges.new.ranges).items) ys) (sym stays)
    (subst (λ (xs : List (RecastRange g.row.R.Denot)). AreRewritten bytes id_of read s r (take (length made.items) xs) made.items) (sym back) first)
