-- Reading a quoted string from its front.
use Rattle.std.proofs.Common.{◌≡◌, ℕ, List, [], ◌∷◌, ◌++◌, Option, None, Some, refl, ap, sym, append_assoc}
use Rattle.std.specs.Option.{option_map}

-- a value with a text before it, if there is one
abbrev pub with_front : List ℕ → Option (List ℕ) → Option (List ℕ)
with_front front None = None
with_front front (Some value) = Some (front ++ value)

pub with_nothing : (value : Option (List ℕ)) → with_front [] value ≡ value
with_nothing None = refl
with_nothing (Some value) = refl

pub with_more : (front : List ℕ) (byte : ℕ) (value : Option (List ℕ)) → with_front front (option_map (λ rest. byte ∷ rest) value) ≡ with_front (front ++ byte ∷ []) value
with_more front byte None = refl
with_more front byte (Some value) = ap (λ (t : List ℕ). Some t) (sym (append_assoc front (byte ∷ []) value))
