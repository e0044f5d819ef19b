use Rattle.std.proofs.Common.{◌≡◌, ◌+◌, min, true, take}
use Rattle.std.specs.List.{list_all}
use Rattle.std.specs.Char.{is_ascii_digit}
use Rattle.std.specs.Str.Parse.{digits_value}
use Rattle.process_figures.specs.Numbers.{most}
use Rattle.process_figures.proofs.numbers.read_number.Given as goal

-- digits so far, and their number, or one more than the greatest if it is greater
abbrev pub invariant-loop-byte : goal.invariant-loop-byte
invariant-loop-byte l =
    (list_all is_ascii_digit (take l.byte-index l.text) ≡ true)
    × (l.value ≡ min (digits_value 10 (take l.byte-index l.text)) (l.limit + 1))
    × (l.limit ≡ most)
