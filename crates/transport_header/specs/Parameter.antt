-- What a parameter of a spec says, apart from how it is read (RFC 2326, 12.39: `name` or `name=value`).
use Rattle.std.specs.Prelude.{◌≡◌, ℕ, true, List, [], ◌∷◌, ◌++◌, ◌⊎◌}
use Rattle.std.specs.List.{AllByRecursion}
use Rattle.base_syntax.specs.Cuts.{HasNone}
use Rattle.base_syntax.specs.Names.{same_name}
use Rattle.transport_header.specs.Separators.{equals_sign}

-- The part is a parameter of this name, in any case, with this value: `name=value`, or `name`, whose value is empty.
pub record IsParameter (part name value : List ℕ) : Type 0 where
  pub spelled : List ℕ
  pub unbroken : HasNone equals_sign spelled
  pub same : same_name spelled name ≡ true
  pub whole : (part ≡ spelled ++ equals_sign ∷ value) ⊎ ((part ≡ spelled) × (value ≡ []))

-- the part is a parameter of this name
abbrev pub HasName : (name part : List ℕ) → Type 0
HasName name part = (value : List ℕ) × IsParameter part name value

-- no part is a parameter of this name
abbrev pub NoneHasName : (name : List ℕ) → List (List ℕ) → Type 0
NoneHasName name parts = AllByRecursion (λ part. ¬ HasName name part) parts

-- The first of the parts that has this name has this value.
pub record IsFirstNamed (parts : List (List ℕ)) (name value : List ℕ) : Type 0 where
  pub before : List (List ℕ)
  pub part : List ℕ
  pub after : List (List ℕ)
  pub whole : parts ≡ before ++ part ∷ after
  pub none_before : NoneHasName name before
  pub is : IsParameter part name value
