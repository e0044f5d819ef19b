-- Paths that go on after a name.
use Rattle.std.proofs.Common.{◌≡◌, ◌≢◌, ℕ, suc, ◌<◌, ◌-◌, List, [], ◌∷◌, ◌++◌, None, Some, Option, length, take, drop, get_or, sym, ap, ◌∙◌, arith, append-nil}
use Rattle.std.proofs.lemmas.List.{append_cancel_left, take_all}
use Rattle.mounts.specs.Names.{GoesOn}
use Rattle.mounts.specs.Uri.{slash}

-- a path with nothing after the name is the name
pub is_nothing : (path name behind : List ℕ) → path ≡ name ++ behind → length behind ≡ 0 → path ≡ name
is_nothing path name [] e none = e ∙ append-nil name
is_nothing path name (b ∷ behind) e none = absurd (omega arith)

-- what stands after a slash
pub behind_slash : (path name behind : List ℕ) → path ≡ name ++ behind → 0 < length behind → get_or behind 0 0 ≡ slash → path ≡ name ++ slash ∷ take (length behind - 1) (drop 1 behind)
behind_slash path name [] e some first = absurd (omega arith)
behind_slash path name (b ∷ behind) e some first =
    let whole : take (suc (length behind) - 1) behind ≡ behind = take_all (suc (length behind) - 1) behind (omega arith) in
    e ∙ ap (λ c. name ++ c ∷ behind) first ∙ ap (λ rest. name ++ slash ∷ rest) (sym whole)

-- a path goes on after a name in no other way
pub no_slash : (path name behind : List ℕ) → path ≡ name ++ behind → 0 < length behind → get_or behind 0 0 ≢ slash → (rest : Option (List ℕ)) → GoesOn path name rest → ⊥
no_slash path name behind e some first None g =
    let none = append_cancel_left name behind [] (sym e ∙ g ∙ sym (append-nil name)) in
    let long = ap length none in
    omega arith
no_slash path name behind e some first (Some rest) g = first (ap (λ xs. get_or xs 0 0) (append_cancel_left name behind (slash ∷ rest) (sym e ∙ g)))
