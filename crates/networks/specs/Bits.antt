-- Binary digits.
use Rattle.std.specs.Prelude.{ℕ, suc, zero, ◌/◌, ◌%◌, List, [], ◌∷◌, ◌++◌}

-- the number's last binary digits, as many as there are places, the most significant first
unfoldable pub binary : (places : ℕ) → ℕ → List ℕ
binary zero number = []
binary (suc places) number = binary places (number / 2) ++ number % 2 ∷ []
