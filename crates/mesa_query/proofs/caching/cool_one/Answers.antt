use Rattle.std.proofs.Common.{ap, ◌∙◌}
use Rattle.mesa_cache.specs.Reading.{Reading}
use Rattle.mesa_query.specs.Cooled.{cooled_file}
use Rattle.mesa_query.proofs.CachedFiles.{readable_one, same_one}
use Rattle.mesa_query.proofs.caching.cool_one.Goals as goal

pub whole-reader-requires-after_bounds : goal.whole-reader-requires-after_bounds
whole-reader-requires-after_bounds g c κs within = rw (c.into_inner.ensures, c.part-reader.ensures.reader, c.part-reader.ensures.index) c.requires.over

pub returns-clause-same : goal.returns-clause-same
returns-clause-same g c =
    same_one g.R.FileReader.bytes (cooled_file c.args.warm) c.whole-reader.result
    (c.whole-reader.ensures.reader ∙ c.into_inner.ensures ∙ ap (λ (r : Reading _). r.inner) c.part-reader.ensures.reader)
    (c.whole-reader.ensures.index ∙ c.part-reader.ensures.index)

pub returns-clause-readable : goal.returns-clause-readable
returns-clause-readable g c =
    readable_one g.R.FileReader.bytes (cooled_file c.args.warm) c.whole-reader.result
    (c.whole-reader.ensures.reader ∙ c.into_inner.ensures ∙ ap (λ (r : Reading _). r.inner) c.part-reader.ensures.reader)
    (c.whole-reader.ensures.index ∙ c.part-reader.ensures.index) c.whole-reader.ensures.read c.requires
