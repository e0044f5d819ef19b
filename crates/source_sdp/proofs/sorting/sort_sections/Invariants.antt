use Rattle.std.proofs.Common.{◌≡◌, ◌≤◌, drop}
use Rattle.source_sdp.specs.Section.{sections_of}
use Rattle.source_sdp.specs.Sorting.{sorted_from, sorted_out}
use Rattle.source_sdp.proofs.sorting.sort_sections.Given as goal

-- the sections so far are sorted out, and those left come after them
abbrev pub invariant-loop-i : goal.invariant-loop-i
invariant-loop-i l = record {
  few : l.place ≤ l.i;
  rest : sorted_from l.sorted l.place (sections_of (drop l.i l.lines)) ≡ sorted_out (sections_of l.lines);
}
