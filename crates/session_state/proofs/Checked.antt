-- The checks of a request, one list after another.
use Rattle.std.proofs.Common.{◌++◌, List, [], ◌∷◌, inl, inr}
use Rattle.session_state.specs.declared.checks.asking.Asking.{Asking}
use Rattle.session_state.specs.declared.checks.Check.{Check}
use Rattle.session_state.specs.declared.checks.refusal.Refusal.{Refusal}
use Rattle.session_state.specs.declared.checks.refusal.Refusal.TheVariants.{Fails, OutOfMemory}
use Rattle.session_state.specs.Asking.{IsPassing, IsRefusedAt, asked_in}
use Rattle.session_state.specs.Checks.{Asked, FailsFirst, PassesAll}

passes_both : (asked : Asked) (xs ys : List Check) → PassesAll asked xs → PassesAll asked ys → PassesAll asked (xs ++ ys)
passes_both asked [] ys p q = q
passes_both asked (x ∷ xs) ys p q = (p.0, passes_both asked xs ys p.1 q)

pub fails_before : (asked : Asked) (xs ys : List Check) (check : Check) → FailsFirst asked xs check → FailsFirst asked (xs ++ ys) check
fails_before asked [] ys check h = absurd h
fails_before asked (x ∷ xs) ys check (inl here) = inl here
fails_before asked (x ∷ xs) ys check (inr (passes, later)) = inr (passes, fails_before asked xs ys check later)

pub fails_later : (asked : Asked) (xs ys : List Check) (check : Check) → PassesAll asked xs → FailsFirst asked ys check → FailsFirst asked (xs ++ ys) check
fails_later asked [] ys check p h = h
fails_later asked (x ∷ xs) ys check p h = inr (p.0, fails_later asked xs ys check p.1 h)

-- a request that passes some checks and then some others passes all of them
pub passing_both : (asking : Asking) (xs ys : List Check) → IsPassing asking xs → IsPassing asking ys → IsPassing asking (xs ++ ys)
passing_both asking xs ys p q = λ history told. passes_both (asked_in asking history) xs ys (p history told) (q history told)

-- a request that some checks refuse is refused however many come after them
pub refused_before : (asking : Asking) (xs ys : List Check) (refusal : Refusal) → IsRefusedAt asking xs refusal → IsRefusedAt asking (xs ++ ys) refusal
refused_before asking xs ys (Fails check) h = λ history told. fails_before (asked_in asking history) xs ys check (h history told)
refused_before asking xs ys OutOfMemory h = tt

-- and one that passes some and is refused by those after them is refused by all
pub refused_later : (asking : Asking) (xs ys : List Check) (refusal : Refusal) → IsPassing asking xs → IsRefusedAt asking ys refusal → IsRefusedAt asking (xs ++ ys) refusal
refused_later asking xs ys (Fails check) p h = λ history told. fails_later (asked_in asking history) xs ys check (p history told) (h history told)
refused_later asking xs ys OutOfMemory p h = tt

-- one that passes some and is refused by the next is refused however many come after
pub refused_within : (asking : Asking) (xs ys zs : List Check) (refusal : Refusal) → IsPassing asking xs → IsRefusedAt asking ys refusal → IsRefusedAt asking (xs ++ (ys ++ zs)) refusal
refused_within asking xs ys zs refusal p h = refused_later asking xs (ys ++ zs) refusal p (refused_before asking ys zs refusal h)
