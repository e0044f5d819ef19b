-- What is known after a test that gives a fault.
use Rattle.std.proofs.Common.{◌≡◌, Bool, true, false, not, cond, Option, None, Some, refl}
use Rattle.std.specs.Option.{option_or}
use Rattle.std.specs.Prelude.{is_some}

pub guard : {F : Type 0} (b : Bool) (f : F) (o : Option F) → cond b (Some f) o ≡ None → (b ≡ false) × (o ≡ None)
guard false f o h = (refl, h)
guard true f o h = absurd (cc)

pub guard_not : {F : Type 0} (b : Bool) (f : F) (o : Option F) → cond (not b) (Some f) o ≡ None → (b ≡ true) × (o ≡ None)
guard_not true f o h = (refl, h)
guard_not false f o h = absurd (cc)

pub neither : {F : Type 0} (o r : Option F) → option_or o r ≡ None → (o ≡ None) × (r ≡ None)
neither None r h = (refl, h)
neither (Some f) r h = absurd (cc)

pub is_none : {A : Type 0} (o : Option A) → is_some o ≡ false → o ≡ None
is_none None h = refl
is_none (Some x) h = absurd (cc)
