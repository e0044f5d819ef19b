-- The words that threads wake each other by.
use Rattle.std.specs.Prelude.{ℕ, ◌+◌}

-- a word after one more change; who sleeps on one looks whether it is still the one that it read
abbrev pub next_of : (word : ℕ) → ℕ
next_of word = word + 1
