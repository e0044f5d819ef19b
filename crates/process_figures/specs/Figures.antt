-- The figures of a process (proc_pid_stat(5), proc_stat(5)).
use Rattle.std.specs.Prelude.{ℕ, ◌+◌, ◌*◌, List, Option, codes}
use Rattle.std.specs.Option.{option_and_then, option_map}
use Rattle.process_figures.specs.declared.figures.ProcessFigures.{ProcessFigures}
use Rattle.process_figures.specs.declared.figures.ProcFiles.{ProcFiles}
use Rattle.process_figures.specs.Limits.{max_open_files}
use Rattle.process_figures.specs.Lines.{behind_named}
use Rattle.process_figures.specs.Numbers.{capped, number_of}
use Rattle.process_figures.specs.Stat.{stat_number}

-- how long the process has run: field 14, utime, in user mode, and field 15, stime, in kernel mode, both in clock ticks; in milliseconds
abbrev pub run_time : (stat : List ℕ) → Option ℕ
run_time stat =
    option_and_then (λ utime. option_map (λ stime. capped ((utime + stime) * 10)) (stat_number 15 stat)) (stat_number 14 stat)

-- when the system booted, in seconds since the beginning of 1970: `btime` of /proc/stat
abbrev pub boot_time : (system : List ℕ) → Option ℕ
boot_time system = option_and_then number_of (behind_named (codes "btime ") system)

-- when the process started, in milliseconds since the beginning of 1970: field 22, starttime, in clock ticks after the boot
abbrev pub start_time : (stat system : List ℕ) → Option ℕ
start_time stat system =
    option_and_then (λ boot. option_map (λ starttime. capped (boot * 1000 + starttime * 10)) (stat_number 22 stat)) (boot_time system)

-- how much memory is resident, in bytes: field 24, rss, in pages
abbrev pub resident_bytes : (stat : List ℕ) → Option ℕ
resident_bytes stat = option_map (λ rss. capped (rss * 4096)) (stat_number 24 stat)

-- the figures of a process whose files have these texts
abbrev pub figures_of : ProcFiles → (open_files : Option ℕ) → ProcessFigures
figures_of files open_files = record {
  started = start_time files.stat.now files.system.now;
  ran = run_time files.stat.now;
  resident = resident_bytes files.stat.now;
  open_files = open_files;
  max_open_files = max_open_files files.limits.now;
}
