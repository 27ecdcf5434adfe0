use Rattle.mesa_store_spec.proofs.AllSourced.{merge_written, swap_replaces}
use Rattle.mesa_store_spec.proofs.sources.works_merge_sources.Goals as goal

pub returns : goal.returns
returns g = record {
  made = λ rows written c table from to d is has lt m. merge_written rows written c is has table lt from to d m;
  replaces = λ rows written c table base from to epoch files is has fit made. swap_replaces rows written c is has table base from to epoch files fit made;
}
