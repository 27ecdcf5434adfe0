use Rattle.std.proofs.Common.{[], ap, ◌∙◌}
use Rattle.mesa_cache.specs.Reading.{Reading}
use Rattle.mesa_query.specs.Cooled.{cooled_reader}
use Rattle.mesa_query.proofs.Cooling.{read_cool}
use Rattle.mesa_query.proofs.CachedFiles.{readable_one, same_one}
use Rattle.mesa_query.proofs.caching.warm_one.Goals as goal

pub new-requires-after_bounds : goal.new-requires-after_bounds
new-requires-after_bounds g c κs within = c.requires.pages

pub whole-reader-requires-after_bounds : goal.whole-reader-requires-after_bounds
whole-reader-requires-after_bounds g c κs within = rw (c.in-Ok.ensures.inner, c.part-reader.ensures.reader, c.part-reader.ensures.index) c.requires.readable.over

pub whole-reader-requires-in-Err-after_bounds : goal.whole-reader-requires-in-Err-after_bounds
whole-reader-requires-in-Err-after_bounds g c κs within = rw (c.in-Err.ensures.given_back, c.part-reader.ensures.reader, c.part-reader.ensures.index) c.requires.readable.over

pub returns-in-Ok-clause-same : goal.returns-in-Ok-clause-same
returns-in-Ok-clause-same g c =
    same_one g.R.FileReader.bytes c.args.file (cooled_reader c.whole-reader.result)
    (ap (λ (r : Reading _). r.inner) c.whole-reader.ensures.reader ∙ c.in-Ok.ensures.inner ∙ c.part-reader.ensures.reader)
    (c.whole-reader.ensures.index ∙ c.part-reader.ensures.index)

pub returns-in-Ok-clause-readable : goal.returns-in-Ok-clause-readable
returns-in-Ok-clause-readable g c =
    readable_one g.R.FileReader.bytes c.args.file (cooled_reader c.whole-reader.result)
    (ap (λ (r : Reading _). r.inner) c.whole-reader.ensures.reader ∙ c.in-Ok.ensures.inner ∙ c.part-reader.ensures.reader)
    (c.whole-reader.ensures.index ∙ c.part-reader.ensures.index) (read_cool g.R.FileReader.bytes c.whole-reader.result [] c.whole-reader.ensures.read) c.requires.readable

pub returns-in-Err-clause-given_back : goal.returns-in-Err-clause-given_back
returns-in-Err-clause-given_back g c =
    same_one g.R.FileReader.bytes c.args.file c.whole-reader-in-Err.result
    (c.whole-reader-in-Err.ensures.reader ∙ c.in-Err.ensures.given_back ∙ c.part-reader.ensures.reader)
    (c.whole-reader-in-Err.ensures.index ∙ c.part-reader.ensures.index)

pub returns-in-Err-clause-readable_again : goal.returns-in-Err-clause-readable_again
returns-in-Err-clause-readable_again g c =
    readable_one g.R.FileReader.bytes c.args.file c.whole-reader-in-Err.result
    (c.whole-reader-in-Err.ensures.reader ∙ c.in-Err.ensures.given_back ∙ c.part-reader.ensures.reader)
    (c.whole-reader-in-Err.ensures.index ∙ c.part-reader.ensures.index) c.whole-reader-in-Err.ensures.read c.requires.readable
