-- The user of a location, and the address behind it.
use Rattle.std.proofs.Common.{◌≡◌, ◌==◌, ℕ, List, [], ◌∷◌, ◌++◌, inl, inr, Option, None, Some, refl, sym, ap, ◌∙◌, append_assoc}
use Rattle.std.specs.Prelude.{⊤}
use Rattle.std.specs.List.{after_first, before_first, list_any}
use Rattle.std.proofs.lemmas.Option.{cond_some}
use Rattle.base_syntax.specs.Cuts.{HasNone}
use Rattle.base_syntax.proofs.Cuts.{cut_behind, found_or_missing}
use Rattle.source_urls.specs.Grammar.{user_text}
use Rattle.source_urls.specs.Parts.{address_in, user_in}
use Rattle.source_urls.proofs.Cutting.{none_any}

-- no user has an `@`
abbrev pub HasNoAt : Option (List ℕ) → Type 0
HasNoAt None = ⊤
HasNoAt (Some user) = HasNone 64 user

-- the location is the user and the address
pub record Splits (location : List ℕ) (user : Option (List ℕ)) (address : List ℕ) : Type 0 where
  pub whole : location ≡ user_text user ++ address
  pub no_at : HasNoAt user

pub splits : (location : List ℕ) → Splits location (user_in location) (address_in location)
splits location = elim (found_or_missing 64 location) [
  | inl r ↦ rw r.found (record {
    whole = r.whole ∙ sym (append_assoc (before_first (λ x. x == 64) location) (64 ∷ []) (after_first (λ x. x == 64) location));
    no_at = r.front;
  })
  | inr r ↦ rw r.none (record { whole = refl; no_at = tt })
]

-- nothing else is so, if the address has no `@`
pub user_is : (location : List ℕ) (user : Option (List ℕ)) (address : List ℕ) → Splits location user address → HasNone 64 address → user_in location ≡ user
user_is location None address s none = ap user_in s.whole ∙ rw (none_any 64 address none) refl
user_is location (Some user) address s none =
    let whole : location ≡ user ++ 64 ∷ address = s.whole ∙ append_assoc user (64 ∷ []) address in
    let cut = cut_behind 64 user address s.no_at in
    let found = (cond_some (list_any (λ b. b == 64) (user ++ 64 ∷ address)) (after_first (λ b. b == 64) (user ++ 64 ∷ address)) address cut.1).0 in
    ap user_in whole ∙ rw found (ap (λ (l : List ℕ). Some l) cut.0)

pub address_is : (location : List ℕ) (user : Option (List ℕ)) (address : List ℕ) → Splits location user address → HasNone 64 address → address_in location ≡ address
address_is location None address s none = ap address_in s.whole ∙ rw (none_any 64 address none) refl
address_is location (Some user) address s none =
    let whole : location ≡ user ++ 64 ∷ address = s.whole ∙ append_assoc user (64 ∷ []) address in
    ap address_in whole ∙ rw (cut_behind 64 user address s.no_at).1 refl
