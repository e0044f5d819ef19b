-- Which mount a path names.
use Rattle.std.specs.Prelude.{◌≡◌, ◌≤◌, ⊤, ℕ, List, [], ◌∷◌, length, take, drop}
use Rattle.relay_log.specs.declared.published.PublishedMount.{PublishedMount}

-- nothing, or what begins with a slash
abbrev pub IsEmptyOrRooted : List ℕ → Type 0
IsEmptyOrRooted [] = ⊤
IsEmptyOrRooted (b ∷ rest) = b ≡ 47

-- a path begins with a mount's name, and nothing or a slash follows
abbrev pub IsNamedBy : (name path : List ℕ) → Type 0
IsNamedBy name path = (take (length name) path ≡ name) × IsEmptyOrRooted (drop (length name) path)

-- the mount isn't named by the path, or its name has no more bytes than this
abbrev pub IsNoLongerName : (most : ℕ) → (path : List ℕ) → PublishedMount → Type 0
IsNoLongerName most path mount = IsNamedBy mount.name path → length mount.name ≤ most
