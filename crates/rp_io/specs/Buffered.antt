-- A sink that buffers bytes for another sink.
use Rattle.std.specs.Prelude.{ℕ, ◌==◌, if◌then◌else◌, List, ◌++◌, Option, None, option_map}
use Rattle.rp_io.specs.declared.buffered.BufferedSink.{BufferedSink}

-- the other sink
abbrev pub other_sink : {K : Type 0} → BufferedSink K → K
other_sink buffered = buffered.sink

-- the buffered bytes
abbrev pub held_bytes : {K : Type 0} → BufferedSink K → List ℕ
held_bytes buffered = buffered.held.items

-- the number of puts that failed
abbrev pub buffered_faults : {K : Type 0} → BufferedSink K → ℕ
buffered_faults buffered = buffered.faults

-- the known bytes of a sink, and then the buffered bytes
abbrev pub with_held : Option (List ℕ) → List ℕ → Option (List ℕ)
with_held said held = option_map (λ bytes. bytes ++ held) said

-- the known bytes of the other sink, and then the buffered bytes; none after a failure
abbrev pub known_bytes : {K : Type 0} → (K → Option (List ℕ)) → BufferedSink K → Option (List ℕ)
known_bytes said buffered = if buffered.faults == 0 then with_held (said buffered.sink) buffered.held.items else None
