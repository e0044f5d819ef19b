use Rattle.std.proofs.Common.{◌≡◌, ◌≤◌, ◌++◌, length, take, drop, vec_capacity}
use Rattle.transport_header.proofs.Joined.{items_from}
use Rattle.transport_header.proofs.rtp_info.write_entries.Given as goal

-- the text so far and that of the entries left are the whole text
abbrev pub invariant-loop-i : goal.invariant-loop-i
invariant-loop-i l = record {
  told : l.out.items ++ items_from l.i (drop l.i l.entries) ≡ l.fn.out.items ++ items_from 0 l.entries;
  kept : take (length l.fn.out.items) l.out.items ≡ l.fn.out.items;
  room : vec_capacity l.fn.out ≤ vec_capacity l.out;
}
