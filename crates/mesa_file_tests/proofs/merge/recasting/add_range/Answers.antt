use Rattle.std.proofs.Common.{[], ◌∷◌, length, take, sym, subst}
use Rattle.mesa_schema.specs.Changes.{columns_of}
use Rattle.mesa_open_files.specs.Recasts.{AreRewritten, recast_in, recast_table}
use Rattle.mesa_copy.proofs.Rewriting.{rewritten_front}
use Rattle.mesa_file_tests.proofs.merge.recasting.add_range.Goals as goal

pub returns-clause-begun : goal.returns-clause-begun
returns-clause-begun g c made are =
    let t = c.args.task.now in
    let bytes = g.M.Made.bytes in
    let id_of = g.M.Made.id_of in
    let read = g.R.FileReader.bytes in
    let s = columns_of (recast_table t) in
    let r = recast_in t in
    let ys = made.ranges.items in
    subst (λ xs. AreRewritten bytes id_of read s r (take (length ys) xs) ys) (sym c.in-Ok.ensures.items) (rewritten_front bytes id_of read s r t.ranges.items (c.args.range ∷ []) ys are)
