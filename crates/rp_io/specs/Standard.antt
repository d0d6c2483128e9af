-- The reader of a source and the writer of a sink, and the number of their calls that failed.
use Rattle.std.specs.Prelude.{ℕ}
use Rattle.rp_io.specs.declared.standard.StdSource.{StdSource}
use Rattle.rp_io.specs.declared.standard.StdSink.{StdSink}

-- the reader of a source
abbrev pub reader_of : {R : Type 0} → StdSource R → R
reader_of source = source.reader

-- the number of reads of a source that failed
abbrev pub read_faults : {R : Type 0} → StdSource R → ℕ
read_faults source = source.faults

-- the writer of a sink
abbrev pub writer_of : {W : Type 0} → StdSink W → W
writer_of sink = sink.writer

-- the number of puts of a sink that failed
abbrev pub put_faults : {W : Type 0} → StdSink W → ℕ
put_faults sink = sink.faults
