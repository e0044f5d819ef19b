-- What is chosen is settled by the specs and the channels in use.
use Rattle.std.proofs.Common.{◌≡◌, ◌<◌, ◌≤◌, ℕ, zero, suc, Bool, true, false, List, [], ◌∷◌, ◌++◌, length, get_or, All, Option, None, Some, ◌⊎◌, inl, inr, refl, ap, sym, ◌∙◌, subst, arith}
use Rattle.std.specs.List.{Contains}
use Rattle.std.proofs.lemmas.Bool.{cases_eq}
use Rattle.transport_header.specs.declared.spec.Spec.{Spec}
use Rattle.transport_header.specs.declared.spec.ChannelPair.{ChannelPair}
use Rattle.transport_header.specs.declared.spec.Mode.{Mode}
use Rattle.transport_header.specs.declared.spec.Mode.TheVariants.{Record}
use Rattle.transport_header.specs.declared.chosen.Chosen.{Chosen}
use Rattle.transport_header.specs.Chosen.{IsAcceptable, IsFirstAcceptable, IsUsable, IsLeastFree, IsGiven, IsChosen}

-- no spec of a list is acceptable
abbrev None_acceptable : List Spec → Type 0
None_acceptable specs = All (λ spec. ¬ IsAcceptable spec) specs

rest_of : (x : Spec) (xs : List Spec) → None_acceptable (x ∷ xs) → None_acceptable xs
rest_of x xs none k d below = none (suc k) d (omega arith)

head_of : (x : Spec) (xs : List Spec) → None_acceptable (x ∷ xs) → ¬ IsAcceptable x
head_of x xs none = none 0 x (omega arith)

no_first : (before : List Spec) (spec : Spec) (after : List Spec) → None_acceptable (before ++ spec ∷ after) → ¬ IsAcceptable spec
no_first [] spec after none = head_of spec after none
no_first (x ∷ xs) spec after none = no_first xs spec after (rest_of x (xs ++ spec ∷ after) none)

one_first : (xs ys : List Spec) (a b : Spec) (ls rs : List Spec) → xs ++ a ∷ ls ≡ ys ++ b ∷ rs → None_acceptable xs → IsAcceptable a → None_acceptable ys → IsAcceptable b → a ≡ b
one_first [] [] a b ls rs same none_a at_a none_b at_b = cc
one_first [] (y ∷ ys) a b ls rs same none_a at_a none_b at_b =
    let head : y ≡ a = cc in absurd (head_of y ys none_b (rw head at_a))
one_first (x ∷ xs) [] a b ls rs same none_a at_a none_b at_b =
    let head : x ≡ b = cc in absurd (head_of x xs none_a (rw head at_b))
one_first (x ∷ xs) (y ∷ ys) a b ls rs same none_a at_a none_b at_b =
    let tail : xs ++ a ∷ ls ≡ ys ++ b ∷ rs = cc in
    one_first xs ys a b ls rs tail (rest_of x xs none_a) at_a (rest_of y ys none_b) at_b

pub first_is_one : (specs : List Spec) (a b : Spec) → IsFirstAcceptable specs a → IsFirstAcceptable specs b → a ≡ b
first_is_one specs a b (xs, ls, at_a, none_a, ok_a) (ys, rs, at_b, none_b, ok_b) =
    one_first xs ys a b ls rs (sym at_a ∙ at_b) none_a ok_a none_b ok_b

-- whether a channel is used, and a pair usable, is known
not_behind : (x c : ℕ) (xs : List ℕ) → (x ≡ c → ⊥) → ¬ Contains xs c → (k : ℕ) → k < length (x ∷ xs) → get_or (x ∷ xs) k c ≡ c → ⊥
not_behind x c xs other none zero below at = other at
not_behind x c xs other none (suc k) below at = none (k, omega arith, at)

used_or_not : (used : List ℕ) (c : ℕ) → Contains used c ⊎ ¬ Contains used c
used_or_not [] c = inr (λ h. absurd (omega (arith, h.1)))
used_or_not (x ∷ xs) c = go (cases_eq x c) (used_or_not xs c)
  where
    go : (x ≡ c) ⊎ (x ≡ c → ⊥) → Contains xs c ⊎ ¬ Contains xs c → Contains (x ∷ xs) c ⊎ ¬ Contains (x ∷ xs) c
    go (inl same) rest = inl (0, omega arith, same)
    go (inr other) (inl (k, below, at)) = inl (suc k, omega arith, at)
    go (inr other) (inr none) = inr (λ h. not_behind x c xs other none h.0 h.1 h.2)

usable_or_not : (used : List ℕ) (pair : ChannelPair) → IsUsable used pair ⊎ ¬ IsUsable used pair
usable_or_not used pair = go (cases_eq pair.first pair.second) (used_or_not used pair.first) (used_or_not used pair.second)
  where
    go : (pair.first ≡ pair.second) ⊎ (pair.first ≡ pair.second → ⊥) → Contains used pair.first ⊎ ¬ Contains used pair.first → Contains used pair.second ⊎ ¬ Contains used pair.second → IsUsable used pair ⊎ ¬ IsUsable used pair
    go (inl same) first second = inr (λ usable. usable.0 same)
    go (inr apart) (inl taken) second = inr (λ usable. usable.1.0 taken)
    go (inr apart) (inr free) (inl taken) = inr (λ usable. usable.1.1 taken)
    go (inr apart) (inr free) (inr free') = inl (apart, (free, free'))

least_is_one : (used : List ℕ) (a a' b b' : ℕ) → IsLeastFree used a a' → IsLeastFree used b b' → (a ≡ b) × (a' ≡ b')
least_is_one used a a' b b' at_a at_b =
    let low : a ≤ b = at_a.2 b at_b.1 in
    let high : b ≤ a = at_b.2 a at_a.1 in
    (omega arith, omega (arith, at_a.0, at_b.0))

given_is_one : (used : List ℕ) (asked : Option ChannelPair) (a a' b b' : ℕ) → IsGiven used asked a a' → IsGiven used asked b b' → (a ≡ b) × (a' ≡ b')
given_is_one used None a a' b b' at_a at_b = least_is_one used a a' b b' at_a at_b
given_is_one used (Some pair) a a' b b' at_a at_b = go (usable_or_not used pair)
  where
    go : IsUsable used pair ⊎ ¬ IsUsable used pair → (a ≡ b) × (a' ≡ b')
    go (inl usable) = ((at_a.0 usable).0 ∙ sym (at_b.0 usable).0, (at_a.0 usable).1 ∙ sym (at_b.0 usable).1)
    go (inr not_usable) = least_is_one used a a' b b' (at_a.1 not_usable) (at_b.1 not_usable)

same_mode : (a b : Bool) (mode : Mode) → ((a ≡ true → mode ≡ Record) × (mode ≡ Record → a ≡ true)) → ((b ≡ true → mode ≡ Record) × (mode ≡ Record → b ≡ true)) → a ≡ b
same_mode true b mode at_a at_b = sym (at_b.1 (at_a.0 refl))
same_mode false true mode at_a at_b = at_a.1 (at_b.0 refl)
same_mode false false mode at_a at_b = refl

same_chosen : (a b : Chosen) → a.rtp ≡ b.rtp → a.rtcp ≡ b.rtcp → a.recording ≡ b.recording → Some a ≡ Some b
same_chosen a b rtp rtcp recording =
    let make : ℕ → ℕ → Bool → Option Chosen = λ c d r. Some (record { rtp = c; rtcp = d; recording = r }) in
    ap (λ c. make c a.rtcp a.recording) rtp ∙ ap (λ d. make b.rtp d a.recording) rtcp ∙ ap (λ r. make b.rtp b.rtcp r) recording

pub none_with_first : (specs : List Spec) (spec : Spec) → None_acceptable specs → IsFirstAcceptable specs spec → ⊥
none_with_first specs spec none (xs, ls, at, before, ok) = no_first xs spec ls (let P : List Spec → Type 0 = None_acceptable in subst P at none) ok

pub one_choice : (specs : List Spec) (used : List ℕ) (a b : Option Chosen) → IsChosen specs used a → IsChosen specs used b → a ≡ b
one_choice specs used None None h h' = refl
one_choice specs used None (Some b) h h' = absurd (none_with_first specs h'.0 h h'.1)
one_choice specs used (Some a) None h h' = absurd (none_with_first specs h.0 h' h.1)
one_choice specs used (Some a) (Some b) h h' =
    let same : h'.0 ≡ h.0 = first_is_one specs h'.0 h.0 h'.1 h.1 in
    let Settles : Spec → Type 0 = λ spec. IsGiven used spec.interleaved b.rtp b.rtcp × ((b.recording ≡ true → spec.mode ≡ Record) × (spec.mode ≡ Record → b.recording ≡ true)) in
    let settled : Settles h.0 = subst Settles same (h'.2, h'.3) in
    let channels : (a.rtp ≡ b.rtp) × (a.rtcp ≡ b.rtcp) = given_is_one used h.0.interleaved a.rtp a.rtcp b.rtp b.rtcp h.2 settled.0 in
    same_chosen a b channels.0 channels.1 (same_mode a.recording b.recording h.0.mode h.3 settled.1)
