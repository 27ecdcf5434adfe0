-- A pinned query whose files are read through caches, as it is without them.
use Rattle.std.specs.Vec.Covariant.{in_vec}
use Rattle.mesa_cache.specs.Reading.{Reading}
use Rattle.mesa_group_blocks.specs.mesa_delta.declared.input.Input.{Input}
use Rattle.mesa_group_blocks.specs.mesa_delta.declared.reader.DeltaReader.{DeltaReader}
use Rattle.mesa_group_blocks.specs.mesa_open_files.declared.querying.Pinned.{Pinned}
use Rattle.mesa_group_blocks.specs.mesa_open_files.declared.querying.PinnedInput.{PinnedInput}

-- a file's reader, which reads by the cache's inner reader
abbrev pub cooled_reader : {R : Type 0} → DeltaReader (Reading R) → DeltaReader R
cooled_reader r = record { reader = r.reader.inner; index = r.index; run = r.run; bytes = r.bytes }

-- a file that is merged, scanned or queried
abbrev pub cooled_input : {R : Type 0} → Input (Reading R) → Input R
cooled_input i = record { reader = cooled_reader i.reader; evolving = i.evolving; epoch = i.epoch }

-- a file of a query
abbrev pub cooled_file : {R : Type 0} → PinnedInput (Reading R) → PinnedInput R
cooled_file file = record { input = cooled_input file.input; own = file.own }

-- the query and its files
abbrev pub cooled : {R : Type 0} → Pinned (Reading R) → Pinned R
cooled p = record { query = p.query; version = p.version; view = p.view; at = p.at; inputs = in_vec cooled_file p.inputs }
