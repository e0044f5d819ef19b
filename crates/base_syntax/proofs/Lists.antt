-- Lists by their first elements.
use Rattle.std.proofs.Common.{◌≡◌, List, [], ◌∷◌}

pub same_head : {X : Type 0} {x y : X} {xs ys : List X} → x ∷ xs ≡ y ∷ ys → x ≡ y
same_head e = cc

pub same_tail : {X : Type 0} {x y : X} {xs ys : List X} → x ∷ xs ≡ y ∷ ys → xs ≡ ys
same_tail e = cc

pub same_cons : {X : Type 0} {x y : X} {xs ys : List X} → x ≡ y → xs ≡ ys → x ∷ xs ≡ y ∷ ys
same_cons a b = cc

pub nothing_is_more : {X : Type 0} {x : X} {xs : List X} → [] ≡ x ∷ xs → ⊥
nothing_is_more e = cc
