use Rattle.std.proofs.Common.{◌≡◌, ◌++◌, map, drop}
use Rattle.status_texts.specs.Figures.{figures_of}
use Rattle.status_texts.proofs.figures.figures_of.Given as goal

-- the figures so far and those of the names left are all figures
abbrev pub invariant-loop-named : goal.invariant-loop-named
invariant-loop-named l = l.figures.items ++ map (figures_of l.snapshot) (drop l.named-index l.snapshot.named.items) ≡ map (figures_of l.snapshot) l.snapshot.named.items
