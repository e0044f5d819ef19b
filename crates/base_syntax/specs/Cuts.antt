-- Cutting a text at the first of a byte.
use Rattle.std.specs.Prelude.{◌≡◌, ◌==◌, ℕ, false, if◌then◌else◌, List, ◌∷◌, ◌++◌, Option, None, Some}
use Rattle.std.specs.List.{AllByRecursion, list_any, after_first}

-- no byte of the text is this one
abbrev pub HasNone : (byte : ℕ) → List ℕ → Type 0
HasNone byte text = AllByRecursion (λ b. (b == byte) ≡ false) text

-- what stands after the first such byte, if one is there
abbrev pub behind_first : (byte : ℕ) → List ℕ → Option (List ℕ)
behind_first byte text = if list_any (λ b. b == byte) text then Some (after_first (λ b. b == byte) text) else None

-- a text is cut into what stands before the first such byte, and what stands after it, if it is there
abbrev pub IsCut : (byte : ℕ) → (text front : List ℕ) → (behind : Option (List ℕ)) → Type 0
IsCut byte text front None = (text ≡ front) × HasNone byte front
IsCut byte text front (Some rest) = (text ≡ front ++ byte ∷ rest) × HasNone byte front
