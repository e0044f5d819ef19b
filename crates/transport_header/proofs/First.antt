-- The first acceptable spec, by its index.
use Rattle.std.proofs.Common.{◌≡◌, ◌≤◌, ◌⊎◌, inl, inr, ◌<◌, ◌+◌, ℕ, List, ◌++◌, length, get_or, take, drop, sym, ◌∙◌, ap, arith, length-take, get_or-take, take-append-drop}
use Rattle.std.proofs.lemmas.List.{drop_more, get_or_default}
use Rattle.std.proofs.lemmas.Bool.{cases_lt}
use Rattle.transport_header.specs.declared.spec.Spec.{Spec}
use Rattle.transport_header.specs.Chosen.{IsAcceptable, IsFirstAcceptable}

-- no spec below i is acceptable
abbrev pub NoneBelow : List Spec → ℕ → Type 0
NoneBelow specs i = (k : ℕ) (d : Spec) → k < i → ¬ IsAcceptable (get_or specs k d)

pub is_first : (specs : List Spec) (i : ℕ) (d : Spec) → i < length specs → NoneBelow specs i → IsAcceptable (get_or specs i d) → IsFirstAcceptable specs (get_or specs i d)
is_first specs i d below earlier here = (
  take i specs,
  drop (i + 1) specs,
  sym (take-append-drop i specs) ∙ ap (λ rest. take i specs ++ rest) (drop_more specs i d below),
  λ k e h. let under : k < i = omega (arith, length-take i specs) in rw get_or-take (earlier k e under),
  here,
)

pub none_more : (specs : List Spec) (i : ℕ) (d : Spec) → i < length specs → NoneBelow specs i → ¬ IsAcceptable (get_or specs i d) → NoneBelow specs (i + 1)
none_more specs i d below earlier here k e h = go (cases_lt k i)
  where
    go : (k < i) ⊎ (i ≤ k) → ¬ IsAcceptable (get_or specs k e)
    go (inl under) = earlier k e under
    go (inr over) = let same : k ≡ i = omega arith in rw (same, get_or_default specs i e d below) here
