use Rattle.base_syntax.proofs.Parts.{PartsAt}
use Rattle.base_syntax.proofs.quotes.part_len.Given as goal

-- the first part begins with the bytes so far
abbrev pub invariant-loop-i : goal.invariant-loop-i
invariant-loop-i l = PartsAt l.separator l.text l.i l.quoted
