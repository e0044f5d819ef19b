-- The lengths of a writer's buffers for frames.
use Rattle.std.specs.Prelude.{ℕ, length, max}
use Rattle.relay_fanout.specs.declared.sending.writer_buffers.WriterBuffers.{WriterBuffers}

-- the greatest of this length and those of the two buffers
abbrev pub longest_with : ℕ → WriterBuffers → ℕ
longest_with size buffers = max size (max (length buffers.frames.items) (length buffers.spare.items))
