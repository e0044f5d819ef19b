-- A slot's word and the head as numbers of 64 bits.
use Rattle.std.specs.Prelude.{ℕ, ◌+◌, ◌*◌, ◌^◌, Bool, true, false, length}
use Rattle.ring_steps.specs.declared.words.Head.{Head}
use Rattle.ring_steps.specs.declared.words.Word.{Word}
use Rattle.ring_steps.specs.Ring.{State, floor}

abbrev pub bit : Bool → ℕ
bit false = 0
bit true = 1

-- a slot's word as a number of 64 bits: the pins in bits 0 to 15, the writing bit in bit 16, and the
-- number in bits 17 to 63
abbrev pub word_bits : Word → ℕ
word_bits w = w.pins + 2 ^ 16 * bit w.writing + 2 ^ 17 * w.number

-- the head word: the closed bit in bit 0, and the length in bits 1 to 63
abbrev pub head_bits : Head → ℕ
head_bits h = bit h.closed + 2 * h.length

-- the word that the publisher knows where the next packet goes, while nobody pins that slot
abbrev pub known_word : State → Word
known_word s = record { pins = 0; writing = false; number = floor s (length s.log) }
