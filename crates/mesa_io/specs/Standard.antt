-- What a source over a reader and a sink over a writer show.
use Rattle.std.specs.Prelude.{ℕ}
use Rattle.mesa_io.specs.declared.standard.StdSource.{StdSource}
use Rattle.mesa_io.specs.declared.standard.StdSink.{StdSink}

-- the reader under a source
abbrev pub source_reader : {R : Type 0} → StdSource R → R
source_reader s = s.inner

-- how often a read has failed
abbrev pub source_faults : {R : Type 0} → StdSource R → ℕ
source_faults s = s.faults

-- the writer under a sink
abbrev pub sink_writer : {W : Type 0} → StdSink W → W
sink_writer s = s.inner

-- how often a write has failed
abbrev pub sink_faults : {W : Type 0} → StdSink W → ℕ
sink_faults s = s.faults
