use Rattle.std.proofs.Common.{◌≡◌, ◌++◌, map, drop}
use Rattle.status_json.specs.Status.{figures_in}
use Rattle.status_json.proofs.objects.name_rows.Given as goal

-- the figures so far and those of the names left are all figures
abbrev pub invariant-loop-named : goal.invariant-loop-named
invariant-loop-named l = l.rows.items ++ map (figures_in l.snapshot) (drop l.named-index l.snapshot.named.items) ≡ map (figures_in l.snapshot) l.snapshot.named.items
