use Rattle.std.proofs.Common.{ℕ, ◌<◌, ◌↔◌, Bool, true, false, List, [], ◌∷◌, length, slice_index_or, MatchBool, refl, arith, rules, tests}
use Rattle.std.specs.Prelude.{Any, IsTrue}
use Rattle.std.specs.List.{HoldsAt, AllWithin}
use Rattle.std.proofs.lemmas.Iterator.{cases_from_any, YieldsList-from_slice}
use Rattle.std.proofs.lemmas.Bool.{false≢true}
use Rattle.std.proofs.lemmas.List.{get_or_default}
use Rattle.networks.specs.declared.network.Network.{Network}
use Rattle.networks.specs.Networks.{Holds}
use Rattle.networks.proofs.networks.Networks.contains.Goals as goal

-- `any` answers true exactly if one of the networks has P
true_if_any : (P : Network → Type 0) (r : Bool) (xs : List Network) → MatchBool r ((k : ℕ) × (k < length xs) × HoldsAt P xs k) (AllWithin (λ x. P x → ⊥) xs 0 (length xs)) → IsTrue r ↔ Any P xs
true_if_any P true [] h = absurd (omega (arith, h.1))
true_if_any P true (y ∷ ys) h =
    let x : Network = slice_index_or (y ∷ ys) h.0 y in
    (λ _. (h.0, x, h.1, get_or_default (y ∷ ys) h.0 x y h.1, h.2 y), λ _. refl)
true_if_any P false xs h = (λ e. absurd (false≢true e), λ w. absurd (h w.0 w.1 (omega arith) w.2 (rw w.3 w.4)))

pub returns : goal.returns
returns c =
    let address = c.args.address in
    let by_call = cases_from_any _ _ _ (λ n. Holds n address) (λ n. Holds n address → ⊥) c.any.ensures.ran (YieldsList-from_slice c.args.self.now cc) (λ x q k. search (rules, tests)) (λ x q k. search (rules, tests)) in
    true_if_any _ _ c.args.self.now by_call
