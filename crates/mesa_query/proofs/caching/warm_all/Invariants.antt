use Rattle.std.proofs.Common.{◌+◌, ◌≤◌, ◌++◌, map, vec_len}
use Rattle.std.specs.Prelude.{reverse, vec_capacity}
use Rattle.mesa_query.specs.Cooled.{cooled_file}
use Rattle.mesa_query.proofs.CachedFiles.{AreStill}
use Rattle.mesa_query.proofs.caching.warm_all.Given as goal

abbrev pub invariant-each_file : goal.invariant-each_file
invariant-each_file g l =
    (vec_len l.warm + vec_len l.files ≤ vec_capacity l.warm)
    × (vec_len l.warm + vec_len l.files ≤ vec_capacity l.files)
    × AreStill g.R.FileReader.bytes l.fn.files.items (map cooled_file l.warm.items ++ reverse l.files.items)

abbrev pub decreases-each_file : goal.decreases-each_file
decreases-each_file g l = vec_len l.files
