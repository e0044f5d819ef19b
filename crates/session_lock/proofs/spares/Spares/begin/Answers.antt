use Rattle.std.proofs.Common.{◌≡◌, ◌∷◌, ◌++◌, [], None, sym, subst}
use Rattle.session_lock.specs.Held.{IsHeld}
use Rattle.session_lock.specs.Spares.{of_number, of_owner}
use Rattle.session_lock.proofs.Holding.{begun}
use Rattle.session_lock.proofs.spares.Spares.begin.Goals as goal

pub invariant_of-self : goal.invariant_of-self
invariant_of-self g c =
    let pushed : c.push.new.self.items ≡ c.self.inside.mounts.items ++ c.args.one ∷ [] = rw c.unwrap.ensures at c.push.ensures.items in
    let number = subst (λ now. of_number c.args.one.number now.mounts ≡ None) (sym c.self.view_is) c.requires.number in
    let owner = subst (λ now. of_owner c.args.one.owner now.mounts ≡ None) (sym c.self.view_is) c.requires.owner in
    subst (λ ms. IsHeld ms c.self.inside.out) (sym pushed) (begun c.self.inside.mounts.items c.self.inside.out c.args.one c.self.invariant number owner c.requires.free)
