use Rattle.mesa_store_spec.proofs.AllSourced.{content_written, work_written}
use Rattle.mesa_store_spec.proofs.sources.sources_tell.Goals as goal

pub returns : goal.returns
returns g = record {
  contents = λ rows written c table version is has lt from to. content_written rows written c is has table lt version from to;
  works = λ rows written c table base from to is has lt may. work_written rows written c is has table lt base from to may;
}
