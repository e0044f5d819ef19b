-- What is kept of the spare passes.
use Rattle.std.specs.Prelude.{◌≡◌, ℕ, List, map, None, Some, slice_get}
use Rattle.mounts.specs.Different.{AreDifferent}
use Rattle.session_lock.specs.declared.spares.MountPasses.{MountPasses}
use Rattle.session_lock.specs.Spares.{of_number, out_count}

-- The mounts in the order in which they were announced, and for how many more there is room.
pub record Held (P : Type 0) : Type 0 where
  pub mounts : List (MountPasses P)
  pub room : ℕ

-- No two mounts have one number or one owner, and the seats that are out are counted.
pub record IsHeld {P : Type 0} (mounts : List (MountPasses P)) (out : ℕ) : Type 0 where
  pub numbers : AreDifferent (map (λ one. one.number) mounts)
  pub owners : AreDifferent (map (λ one. one.owner) mounts)
  pub out_is : out ≡ out_count mounts

-- A seat of a mount that is out.
pub record IsOutOf {P : Type 0} (mounts : List (MountPasses P)) (number seat : ℕ) : Type 0 where
  pub one : MountPasses P
  pub there : of_number number mounts ≡ Some one
  pub is : slice_get one.passes seat ≡ Some None
