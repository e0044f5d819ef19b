-- The location of a resource: what is before the first slash and the first question mark.
use Rattle.std.proofs.Common.{◌≡◌, ◌==◌, ℕ, List, [], ◌∷◌, ◌++◌, inl, inr, Option, None, Some, length, drop, refl, sym, ap, subst, ◌∙◌, append_assoc}
use Rattle.std.specs.List.{before_first}
use Rattle.std.proofs.lemmas.List.{append-nil}
use Rattle.std.proofs.lemmas.List.Prefix.{front_rest}
use Rattle.base_syntax.specs.Cuts.{HasNone, IsCut, behind_first}
use Rattle.base_syntax.proofs.Cuts.{cut_behind, is_cut, one_plus, uncut}
use Rattle.source_urls.specs.Grammar.{BeginsRest}
use Rattle.source_urls.specs.Parts.{location_in}
use Rattle.source_urls.proofs.Cutting.{before_first-append, none_front}

-- the resource is the location and the rest
pub record Ends (resource location rest : List ℕ) : Type 0 where
  pub whole : resource ≡ location ++ rest
  pub no_slash : HasNone 47 location
  pub no_question : HasNone 63 location
  pub begins : BeginsRest rest

-- a resource cut at its first slash, and what is before that at its first question mark
pub cut_twice : (resource front location : List ℕ) (slash question : Option (List ℕ)) → IsCut 47 resource front slash → IsCut 63 front location question
    → (rest : List ℕ) × Ends resource location rest
cut_twice resource front location None None h k =
    ([], record { whole = h.0 ∙ (k.0 ∙ sym (append-nil location)); no_slash = subst (HasNone 47) k.0 h.1; no_question = k.1; begins = tt })
cut_twice resource front location None (Some q) h k =
    (63 ∷ q, record { whole = h.0 ∙ k.0; no_slash = none_front 47 location (63 ∷ q) (subst (HasNone 47) k.0 h.1); no_question = k.1; begins = inr refl })
cut_twice resource front location (Some s) None h k =
    (47 ∷ s, record { whole = h.0 ∙ ap (λ (l : List ℕ). l ++ 47 ∷ s) k.0; no_slash = subst (HasNone 47) k.0 h.1; no_question = k.1; begins = inl refl })
cut_twice resource front location (Some s) (Some q) h k = (
  63 ∷ (q ++ 47 ∷ s),
  record {
    whole = h.0 ∙ (ap (λ (l : List ℕ). l ++ 47 ∷ s) k.0 ∙ append_assoc location (63 ∷ q) (47 ∷ s));
    no_slash = none_front 47 location (63 ∷ q) (subst (HasNone 47) k.0 h.1);
    no_question = k.1;
    begins = inr refl;
  },
)

pub ends : (resource : List ℕ) → Ends resource (location_in resource) (drop (length (location_in resource)) resource)
ends resource =
    let front : List ℕ = before_first (λ b. b == 47) resource in
    let found = cut_twice resource front (location_in resource) (behind_first 47 resource) (behind_first 63 front) (is_cut 47 resource) (is_cut 63 front) in
    let rest_is : drop (length (location_in resource)) resource ≡ found.0 = front_rest resource (location_in resource) found.0 found.1.whole in
    subst (Ends resource (location_in resource)) (sym rest_is) found.1

-- nothing else is so
pub location_is : (resource location rest : List ℕ) → Ends resource location rest → location_in resource ≡ location
location_is resource location [] e =
    let whole : resource ≡ location = e.whole ∙ append-nil location in
    ap location_in whole ∙ (ap (before_first (λ b. b == 63)) (uncut 47 location e.no_slash).0 ∙ (uncut 63 location e.no_question).0)
location_is resource location (b ∷ rest) e = elim e.begins [
  | inl slash ↦
      let whole : resource ≡ location ++ 47 ∷ rest = e.whole ∙ ap (λ (n : ℕ). location ++ n ∷ rest) slash in
      ap location_in whole ∙ (ap (before_first (λ b. b == 63)) (cut_behind 47 location rest e.no_slash).0 ∙ (uncut 63 location e.no_question).0)
  | inr question ↦
      let whole : resource ≡ location ++ 63 ∷ rest = e.whole ∙ ap (λ (n : ℕ). location ++ n ∷ rest) question in
      let front : before_first (λ x. x == 47) (location ++ 63 ∷ rest) ≡ location ++ 63 ∷ before_first (λ x. x == 47) rest =
      before_first-append 47 location (63 ∷ rest) e.no_slash ∙ rw one_plus refl in
      ap location_in whole ∙ (ap (before_first (λ b. b == 63)) front ∙ (cut_behind 63 location (before_first (λ x. x == 47) rest) e.no_question).0)
]
