use Rattle.std.proofs.Common.{◌≡◌, ◌-◌, slice_get}
use Rattle.process_figures.specs.Stat.{between_spaces}
use Rattle.process_figures.proofs.stat.between_spaces.Given as goal

-- the part at the place is one in what is left
abbrev pub invariant-loop-passed : goal.invariant-loop-passed
invariant-loop-passed l = slice_get (between_spaces l.left) (l.place - l._passed) ≡ slice_get (between_spaces l.text) l.place
