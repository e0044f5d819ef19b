-- The fields of a text, one after another.
use Rattle.std.proofs.Common.{◌≡◌, ◌==◌, ℕ, Option, None, Some, List, [], ◌∷◌, refl, ap, sym, subst, ◌∙◌, inl, inr}
use Rattle.std.specs.Prelude.{Result, Ok, Err}
use Rattle.std.specs.Result.{result_ok}
use Rattle.std.specs.List.{before_first, onto_first}
use Rattle.std.proofs.lemmas.List.Splits.{slice_split_first, slice_split-cons_no}
use Rattle.base_syntax.specs.Cuts.{HasNone, behind_first}
use Rattle.base_syntax.proofs.Cuts.{found_or_missing}
use Rattle.std.specs.Net.Grammar.{Parses}
use Rattle.proxy_header.specs.Fields.{parts_of, AreAddresses, HasNoFields}

-- the fields of what is left of a text, if something is
abbrev pub parts_left : Option (List ℕ) → List (List ℕ)
parts_left None = []
parts_left (Some text) = parts_of text

-- a text without a space is one field
one_part : (text : List ℕ) → HasNone 32 text → parts_of text ≡ text ∷ []
one_part [] h = refl
one_part (b ∷ bs) h = slice_split-cons_no (λ x. x == 32) b bs h.0 ∙ ap (onto_first b) (one_part bs h.1)

-- the first field ends at the first space
first_part : (text : List ℕ) → parts_of text ≡ before_first (λ b. b == 32) text ∷ parts_left (behind_first 32 text)
first_part text = elim (found_or_missing 32 text) [
  | inl r ↦ rw r.found (slice_split_first (λ b. b == 32) text 0 r.below)
  | inr r ↦ rw (r.none, r.all) (one_part text r.unbroken)
]

-- This is the first field of a text, and what is left of it after the space.
pub record IsFirstPart (text front : List ℕ) (left : Option (List ℕ)) : Type 0 where
  pub parts : parts_of text ≡ front ∷ parts_left left

-- where a text is cut at its first space
pub cut_part : (text front : List ℕ) (behind left : Option (List ℕ)) → front ≡ before_first (λ b. b == 32) text → behind ≡ behind_first 32 text → behind ≡ left → IsFirstPart text front left
cut_part text front behind left front_is behind_is left_is = record { parts = first_part text ∙ rw (← front_is, ← behind_is, left_is) refl }

-- four fields
pub four_parts : {text a b c d e f g : List ℕ} {left : Option (List ℕ)} → IsFirstPart text a (Some e) → IsFirstPart e b (Some f) → IsFirstPart f c (Some g) → IsFirstPart g d left
    → parts_of text ≡ a ∷ b ∷ c ∷ d ∷ parts_left left
four_parts p q r s = rw (p.parts, q.parts, r.parts, s.parts) refl

-- fewer
pub one_part_only : {text a : List ℕ} → IsFirstPart text a None → HasNoFields text
one_part_only p h i j k four = cc

pub two_parts_only : {text a b e : List ℕ} → IsFirstPart text a (Some e) → IsFirstPart e b None → HasNoFields text
two_parts_only p q h i j k four = cc

pub three_parts_only : {text a b c e f : List ℕ} → IsFirstPart text a (Some e) → IsFirstPart e b (Some f) → IsFirstPart f c None → HasNoFields text
three_parts_only p q r h i j k four = cc

-- more
pub more_parts : {text a b c d e f g : List ℕ} (rest : List ℕ) → IsFirstPart text a (Some e) → IsFirstPart e b (Some f) → IsFirstPart f c (Some g) → IsFirstPart g d (Some rest) → HasNoFields text
more_parts rest p q r s h i j k four =
    let same = sym (four_parts p q r s) ∙ four in
    let none : parts_of rest ≡ [] = cc in
    let some = sym none ∙ first_part rest in
    cc

-- a text writes the value that it is read as, and none if it isn't read
pub writes_some : {A E : Type 0} (Spells : List ℕ → A → Type 0) (text : List ℕ) (r : Result A E) (a : A) → Parses Spells text r → result_ok r ≡ Some a → Spells text a
writes_some Spells text (Ok b) a p some = let same : b ≡ a = cc in subst (Spells text) same p
writes_some Spells text (Err e) a p some = absurd (cc)

pub writes_none : {A E : Type 0} (Spells : List ℕ → A → Type 0) (text : List ℕ) (r : Result A E) → Parses Spells text r → result_ok r ≡ None → (a : A) → Spells text a → ⊥
writes_none Spells text (Ok a) p none = absurd (cc)
writes_none Spells text (Err e) p none = p

-- a first field that writes no address, or a second one
pub bad_source : {A : Type 0} (IsText : List ℕ → A → Type 0) (text a b c d : List ℕ) → parts_of text ≡ a ∷ b ∷ c ∷ d ∷ [] → ((ip : A) → IsText a ip → ⊥) → (ip : A) (port : ℕ) → AreAddresses IsText text ip port → ⊥
bad_source IsText text a b c d parts bad ip port p =
    let both = sym p.parts ∙ parts in
    let same : p.source ≡ a = cc in
    bad ip (subst (λ (l : List ℕ). IsText l ip) same p.source_is)

pub bad_destination : {A : Type 0} (IsText : List ℕ → A → Type 0) (text a b c d : List ℕ) → parts_of text ≡ a ∷ b ∷ c ∷ d ∷ [] → ((ip : A) → IsText b ip → ⊥) → (ip : A) (port : ℕ) → AreAddresses IsText text ip port → ⊥
bad_destination IsText text a b c d parts bad ip port p =
    let both = sym p.parts ∙ parts in
    let same : p.destination ≡ b = cc in
    bad p.own (subst (λ (l : List ℕ). IsText l p.own) same p.destination_is)
