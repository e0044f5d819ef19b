-- What the name of a command means.
use Rattle.std.specs.Prelude.{List, ℕ, Option, None, Some, codes, if◌then◌else◌}
use Rattle.std.specs.Str.{bytes_eq}
use Rattle.relay_command.specs.declared.task.Task.{Task}
use Rattle.relay_command.specs.declared.task.Task.TheVariants as tasks

-- the task that a command's name means
abbrev pub task_of : List ℕ → Option Task
task_of name =
    if bytes_eq name (codes "talk") then Some tasks.Talk
    else (if bytes_eq name (codes "steps") then Some tasks.Steps
    else (if bytes_eq name (codes "serve") then Some tasks.Serve else (if bytes_eq name (codes "pass") then Some tasks.Pass
    else (if bytes_eq name (codes "pull") then Some tasks.Pull else None))))
