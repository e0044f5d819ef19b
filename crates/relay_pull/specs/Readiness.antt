-- When a socket is read and written whose readiness the system reports once for each change.
use Rattle.std.specs.Prelude.{◌≡◌, ◌||◌, Bool, true, false}
use Rattle.relay_pull.specs.declared.readiness.Readiness.{Readiness}

-- what was reported stays so until it is tried in vain
abbrev pub after_report : (bytes room end closed : Bool) → Readiness → Readiness
after_report bytes room end closed ready = record {
  has_bytes = ready.has_bytes || bytes;
  has_room = ready.has_room || room;
  has_end = ready.has_end || end;
  has_closed = ready.has_closed || closed;
  is_read = ready.is_read;
  is_written = ready.is_written;
}

-- a read that doesn't fill its buffer has left nothing, unless the end was reported, which is read after the bytes
abbrev pub after_read : (is_full : Bool) → Readiness → Readiness
after_read is_full ready = record {
  has_bytes = is_full || ready.has_end;
  has_room = ready.has_room;
  has_end = ready.has_end;
  has_closed = ready.has_closed;
  is_read = ready.is_read;
  is_written = ready.is_written;
}

-- nothing more is read
abbrev pub reading_closed : Readiness → Readiness
reading_closed ready = record {
  has_bytes = ready.has_bytes;
  has_room = ready.has_room;
  has_end = ready.has_end;
  has_closed = ready.has_closed;
  is_read = true;
  is_written = ready.is_written;
}

-- nothing more is written, and what came before is still to be read, to its end
abbrev pub writing_closed : Readiness → Readiness
writing_closed ready = record {
  has_bytes = true;
  has_room = ready.has_room;
  has_end = true;
  has_closed = ready.has_closed;
  is_read = ready.is_read;
  is_written = true;
}

-- what may be ready is tried while that side is open
abbrev pub MayMove : (is_ready is_closed : Bool) → Type 0
MayMove is_ready is_closed = (is_ready ≡ true) × (is_closed ≡ false)
