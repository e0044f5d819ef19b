-- What a request's URI names among the mounts that live is one thing.
use Rattle.std.proofs.Common.{◌≡◌, ℕ, List, Option, Some, inl, inr, refl, sym, ap, subst, ◌∙◌}
use Rattle.mounts.specs.declared.mount.Mount.{Mount}
use Rattle.mounts.specs.declared.target.Target.{Target}
use Rattle.mounts.specs.declared.uri.Uri.TheVariants.{At}
use Rattle.mounts.specs.Mounts.{IsSound, Table, named, numbered, owned_by}
use Rattle.mounts.specs.Names.{GoesOn}
use Rattle.mounts.specs.Uri.{IsUri}
use Rattle.mounts.proofs.Lookups.{found_is_numbered, looked_up, only_name, only_owner}
use Rattle.mounts.proofs.OneAnswer.{one_mount, one_uri, shorter}
use Rattle.session_state.specs.Streams.{IsSetUpOn}

-- a text that is the URI of a target is that of no other
pub same_target : (text : List ℕ) (a b : Target) → IsUri text (At a) → IsUri text (At b) → a ≡ b
same_target text a b g h = let same = one_uri text (At a) (At b) g h in cc

pub same_some : {A : Type 0} (a b : A) (o : Option A) → o ≡ Some a → o ≡ Some b → a ≡ b
same_some a b o g h = cc

-- a mount that a name finds is found by its number
pub named_is_numbered : (table : Table) (name : List ℕ) (mount : Mount) → IsSound table → named name table.mounts ≡ Some mount → numbered mount.number table.mounts ≡ Some mount
named_is_numbered table name mount sound at =
    let one = only_name table name mount sound at in
    (looked_up table sound one.place mount one.live).0

-- and so is one that an owner finds
pub owned_is_numbered : (table : Table) (owner : ℕ) (mount : Mount) → IsSound table → owned_by owner table.mounts ≡ Some mount → numbered mount.number table.mounts ≡ Some mount
owned_is_numbered table owner mount sound at =
    let one = only_owner table owner mount sound at in
    (looked_up table sound one.place mount one.live).0

-- a path goes on after a name in one way
pub one_behind : (path name : List ℕ) (rest behind : Option (List ℕ)) → GoesOn path name rest → GoesOn path name behind → rest ≡ behind
one_behind path name rest behind g h = (shorter path name name rest behind g h refl).1

-- the path of a SETUP names one mount, with one rest
pub one_set_up : (mounts : List Mount) (conn : ℕ) (path : List ℕ) (number other : ℕ) (rest behind : Option (List ℕ)) → IsSetUpOn mounts conn path number rest → IsSetUpOn mounts conn path other behind
    → (number ≡ other) × (rest ≡ behind)
one_set_up mounts conn path number other rest behind (inl g) (inl h) =
    let same : g.0 ≡ h.0 = same_some g.0 h.0 (owned_by conn mounts) g.1 h.1 in (
      sym g.3 ∙ ap (λ (m : Mount). m.number) same ∙ h.3,
      one_behind path h.0.name rest behind (subst (λ (m : Mount). GoesOn path m.name rest) same g.2) h.2,
    )
one_set_up mounts conn path number other rest behind (inl g) (inr h) = absurd (h.0 number rest g)
one_set_up mounts conn path number other rest behind (inr g) (inl h) = absurd (g.0 other behind h)
one_set_up mounts conn path number other rest behind (inr g) (inr h) = one_mount mounts path number other rest behind g.1 h.1

-- the path goes on after the mount's name
pub set_up_behind : (table : Table) (conn : ℕ) (path : List ℕ) (number : ℕ) (rest : Option (List ℕ)) (mount : Mount) → IsSound table → IsSetUpOn table.mounts conn path number rest
    → numbered number table.mounts ≡ Some mount → GoesOn path mount.name rest
set_up_behind table conn path number rest mount sound (inl g) at =
    let there : numbered number table.mounts ≡ Some g.0 = subst (λ n. numbered n table.mounts ≡ Some g.0) g.3 (owned_is_numbered table conn g.0 sound g.1) in
    subst (λ (m : Mount). GoesOn path m.name rest) (same_some g.0 mount (numbered number table.mounts) there at) g.2
set_up_behind table conn path number rest mount sound (inr g) at =
    let found = found_is_numbered table path number rest sound g.1 in
    subst (λ (m : Mount). GoesOn path m.name rest) (same_some found.0 mount (numbered number table.mounts) found.1 at) found.2
