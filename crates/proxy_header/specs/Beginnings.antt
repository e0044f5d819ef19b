-- Bytes, and a text that they may begin with.
use Rattle.std.specs.Prelude.{◌≡◌, ℕ, List, ◌∷◌, ◌++◌}
use Rattle.proxy_header.specs.declared.beginning.Start.{Start}
use Rattle.proxy_header.specs.declared.beginning.Start.TheVariants.{Begun, Other, Whole}

-- the text begins with the bytes, and has more
pub record IsBegun (bytes text : List ℕ) : Type 0 where
  pub next : ℕ
  pub more : List ℕ
  pub whole : text ≡ bytes ++ next ∷ more

-- whatever comes after the bytes, they don't begin with the text
abbrev pub IsOther : (bytes text : List ℕ) → Type 0
IsOther bytes text = (more rest : List ℕ) → bytes ++ more ≡ text ++ rest → ⊥

abbrev pub StartsAs : (bytes text : List ℕ) → Start → Type 0
StartsAs bytes text (Whole rest) = bytes ≡ text ++ rest.now
StartsAs bytes text Begun = IsBegun bytes text
StartsAs bytes text Other = IsOther bytes text
