-- Mounts of which none has a longer name.
use Rattle.std.proofs.Common.{◌≡◌, ◌≤◌, ◌<◌, ◌+◌, sym, subst, arith, ℕ, zero, suc, List, [], ◌∷◌, All, length, take, get_or, slice_get}
use Rattle.std.specs.Prelude.{Option, None, Some, IfNone, IfSome, IsSomeAnd}
use Rattle.std.proofs.lemmas.List.Elements.{All-more}
use Rattle.relay_log.specs.declared.published.PublishedMount.{PublishedMount}
use Rattle.relay_log.specs.Names.{IsNamedBy, IsNoLongerName}

-- where no name has more bytes than this, none has more than a greater number
pub no_longer_than : (fewer more : ℕ) (path : List ℕ) (mounts : List PublishedMount) → fewer ≤ more → All (IsNoLongerName fewer path) mounts → All (IsNoLongerName more path) mounts
no_longer_than fewer more path mounts order all k d inside named = let here = all k d inside named in omega (arith, here, order)

-- one more mount has no longer name
pub one_more : (most : ℕ) (path : List ℕ) (mounts : List PublishedMount) (k : ℕ) (d : PublishedMount) → k < length mounts → All (IsNoLongerName most path) (take k mounts) → IsNoLongerName most path (get_or mounts k d) → All (IsNoLongerName most path) (take (k + 1) mounts)
one_more most path mounts k d inside before here = All-more (IsNoLongerName most path) mounts k d inside before here

of_found : (most : ℕ) (path : List ℕ) (mounts : List PublishedMount) (got : Option PublishedMount) → IsSomeAnd got (λ mount. IsNamedBy mount.name path × (length mount.name ≡ most)) → All (IsNoLongerName most path) mounts → IsSomeAnd got (λ mount. All (IsNoLongerName (length mount.name) path) mounts)
of_found most path mounts None is all = absurd is
of_found most path mounts (Some mount) is all = subst (λ bytes. All (IsNoLongerName bytes path) mounts) (sym is.1) all

-- the mount that was found has the longest name
pub longest_found : (most : ℕ) (path : List ℕ) (mounts : List PublishedMount) (found : Option ℕ) → IfSome found (λ place. IsSomeAnd (slice_get mounts place) (λ mount. IsNamedBy mount.name path × (length mount.name ≡ most))) → All (IsNoLongerName most path) mounts → IfSome found (λ place. IsSomeAnd (slice_get mounts place) (λ mount. All (IsNoLongerName (length mount.name) path) mounts))
longest_found most path mounts None is all = is
longest_found most path mounts (Some place) is all = of_found most path mounts (slice_get mounts place) is all

-- where none was found, none is named
pub none_found : (most : ℕ) (path : List ℕ) (mounts : List PublishedMount) (found : Option ℕ) → IfNone found (most ≡ 0) → All (IsNoLongerName most path) mounts → IfNone found (All (IsNoLongerName 0 path) mounts)
none_found most path mounts None is all = subst (λ bytes. All (IsNoLongerName bytes path) mounts) is all
none_found most path mounts (Some place) is all = is

-- the mount at a place, which is named and has so many bytes
pub found_here : (mounts : List PublishedMount) (k : ℕ) (d : PublishedMount) (path : List ℕ) (bytes : ℕ) → k < length mounts → IsNamedBy (get_or mounts k d).name path → bytes ≡ length (get_or mounts k d).name → IsSomeAnd (slice_get mounts k) (λ mount. IsNamedBy mount.name path × (length mount.name ≡ bytes))
found_here [] k d path bytes within named is = absurd (omega arith)
found_here (mount ∷ mounts) zero d path bytes within named is = (named, sym is)
found_here (mount ∷ mounts) (suc k) d path bytes within named is = found_here mounts k d path bytes (omega arith) named is
