-- The file /proc/PID/limits (proc_pid_limits(5)): a line for each resource with its name, its soft limit, its hard limit and its unit.
use Rattle.std.specs.Prelude.{ℕ, ◌==◌, if◌then◌else◌, List, Option, Some, codes}
use Rattle.std.specs.List.{before_first}
use Rattle.std.specs.Option.{option_and_then}
use Rattle.std.specs.Str.{bytes_eq}
use Rattle.base_syntax.specs.Blanks.{trimmed}
use Rattle.process_figures.specs.Lines.{behind_named}
use Rattle.process_figures.specs.Numbers.{most, number_of}

-- the first word of a text, behind the blanks that it begins with
abbrev pub first_word : List ℕ → List ℕ
first_word text = before_first (λ b. b == 32) (trimmed text)

-- the limit that a word spells: a number, or `unlimited`, which the kernel keeps as the greatest one (RLIM_INFINITY)
abbrev pub limit_of : (word : List ℕ) → Option ℕ
limit_of word = if bytes_eq word (codes "unlimited") then Some most else number_of word

-- the soft limit of open files, which is the first word behind the name of the resource
abbrev pub max_open_files : (limits : List ℕ) → Option ℕ
max_open_files limits = option_and_then (λ behind. limit_of (first_word behind)) (behind_named (codes "Max open files ") limits)
