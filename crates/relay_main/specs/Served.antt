-- What the command line of the server asks of it.
use Rattle.std.specs.Prelude.{ℕ, Bool, ◌*◌, ◌-◌, ◌^◌, min, Option, None, Some, if◌then◌else◌}
use Rattle.std.specs.Option.{unwrap_or}
use Rattle.relay_command.specs.declared.settings.Settings.{Settings}
use Rattle.relay_server.specs.declared.listen.options.Options.{Options}

-- seconds in milliseconds, which stay at 2^64 - 1
abbrev pub milliseconds_of : (seconds : Option ℕ) → Option ℕ
milliseconds_of None = None
milliseconds_of (Some seconds) = Some (min (seconds * 1000) (2 ^ 64 - 1))

-- What a server with these settings does, with this number of processors. A player that is to be disconnected after its mount's end
-- stays for ten seconds, the packets of a mount that has ended are kept for twenty, and a silent peer is looked at every two. A
-- write fails that moves nothing for twenty seconds, unless the system disconnects peers that acknowledge nothing.
abbrev pub told_to : Settings → (processors : ℕ) → (is_limited : Bool) → Options
told_to settings processors is_limited = record {
  accept = settings.accept;
  gather = settings.gather;
  back = settings.back;
  after_end = if settings.hang_up_ended then Some 10000 else None;
  write_wait = if is_limited then None else Some 20000;
  end_wait = 20000;
  read_wait = 2000;
  idle = milliseconds_of settings.idle;
  silent = milliseconds_of settings.silent;
  writers = if settings.is_direct then 0 else unwrap_or settings.writers processors;
  is_direct = settings.is_direct;
  is_verbose = settings.is_verbose;
  report = milliseconds_of settings.report;
}
