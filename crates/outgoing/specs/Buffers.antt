-- A buffer that is written at its end and read from its front.
use Rattle.std.specs.Prelude.{ℕ, List, drop, take}

-- its bytes, what its block has after them, and for how many bytes it holds memory
pub record BufferState : Type 0 where
  pub bytes : List ℕ
  pub free : List ℕ
  pub room : ℕ

-- the bytes of a block from one place up to another
abbrev pub stretch : List ℕ → (first end : ℕ) → List ℕ
stretch block first end = drop first (take end block)
