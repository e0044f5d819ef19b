use Rattle.std.proofs.Common.{◌≡◌, ◌≤◌, ◌+◌, length, take}
use Rattle.std.specs.List.{suffix_len}
use Rattle.source_sdp.specs.Lines.{is_padding}
use Rattle.source_sdp.proofs.lines.without_padding.Given as goal

-- what is after the end doesn't count
abbrev pub invariant-loop-end : goal.invariant-loop-end
invariant-loop-end l = record {
  within : l.end ≤ length l.line;
  dropped : l.end + suffix_len is_padding l.line ≡ length l.line + suffix_len is_padding (take l.end l.line);
}

abbrev pub decreases-loop-end : goal.decreases-loop-end
decreases-loop-end l = l.end
