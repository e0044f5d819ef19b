-- The networks of a text, one part after another.
use Rattle.std.proofs.Common.{◌≡◌, ◌==◌, ℕ, Option, None, Some, List, [], ◌∷◌, ◌++◌, refl, ap, sym, ◌∙◌, append_assoc, append-nil, inl, inr}
use Rattle.std.specs.List.{before_first, onto_first}
use Rattle.std.proofs.lemmas.List.Splits.{slice_split_first, slice_split-cons_no}
use Rattle.base_syntax.specs.Cuts.{HasNone, behind_first}
use Rattle.base_syntax.proofs.Cuts.{found_or_missing}
use Rattle.networks.specs.declared.network.Network.{Network}
use Rattle.networks.specs.declared.fault.NetworkFault.{NetworkFault}
use Rattle.networks.specs.declared.fault.NetworkFault.TheVariants.{Empty, BadText, Mapped, TooManyBits, HostBits, OutOfMemory}
use Rattle.networks.specs.Reading.{AreNetworks, IsFaulty, IsFirstFault, IsRefused, Spells, parts_of}

-- the parts of what is left of a text, if something is
abbrev pub parts_left : Option (List ℕ) → List (List ℕ)
parts_left None = []
parts_left (Some text) = parts_of text

-- a text without a comma is one part
one_part : (text : List ℕ) → HasNone 44 text → parts_of text ≡ text ∷ []
one_part [] h = refl
one_part (b ∷ bs) h = slice_split-cons_no (λ x. x == 44) b bs h.0 ∙ ap (onto_first b) (one_part bs h.1)

-- the first part ends at the first comma
pub first_part : (text : List ℕ) → parts_of text ≡ before_first (λ b. b == 44) text ∷ parts_left (behind_first 44 text)
first_part text = elim (found_or_missing 44 text) [
  | inl r ↦ rw r.found (slice_split_first (λ b. b == 44) text 0 r.below)
  | inr r ↦ rw (r.none, r.all) (one_part text r.unbroken)
]

-- Some parts of the text write these networks, and the others are left.
pub record HasRead (text : List ℕ) (networks : List Network) (left : Option (List ℕ)) : Type 0 where
  pub done : List (List ℕ)
  pub parts : parts_of text ≡ done ++ parts_left left
  pub read : AreNetworks done networks

pub read_none : (text : List ℕ) → HasRead text [] (Some text)
read_none text = record { done = []; parts = refl; read = tt }

AreNetworks-push : (done : List (List ℕ)) (networks : List Network) (part : List ℕ) (network : Network)
    → AreNetworks done networks → Spells part network → AreNetworks (done ++ part ∷ []) (networks ++ network ∷ [])
AreNetworks-push [] [] part network h s = (s, tt)
AreNetworks-push [] (n ∷ ns) part network h s = absurd h
AreNetworks-push (d ∷ ds) [] part network h s = absurd h
AreNetworks-push (d ∷ ds) (n ∷ ns) part network h s = (h.0, AreNetworks-push ds ns part network h.1 s)

-- the part before the next comma writes a network
pub read_more : (text : List ℕ) (networks : List Network) (left part : List ℕ) (others : Option (List ℕ)) (network : Network)
    → HasRead text networks (Some left) → part ≡ before_first (λ b. b == 44) left → others ≡ behind_first 44 left → Spells part network
    → HasRead text (networks ++ network ∷ []) others
read_more text networks left part others network h e f s = record {
  done = h.done ++ part ∷ [];
  parts = h.parts ∙ ap (λ ps. h.done ++ ps) (first_part left) ∙ rw (e, f) (sym (append_assoc h.done (before_first (λ b. b == 44) left ∷ []) (parts_left (behind_first 44 left))));
  read = AreNetworks-push h.done networks part network h.read s;
}

-- nothing is left
pub read_all : (text : List ℕ) (networks : List Network) → HasRead text networks None → AreNetworks (parts_of text) networks
read_all text networks h = let all : parts_of text ≡ h.done = h.parts ∙ append-nil h.done in rw all h.read

first_fault : (done : List (List ℕ)) (networks : List Network) (part : List ℕ) (others : List (List ℕ)) (fault : NetworkFault)
    → AreNetworks done networks → IsFaulty part fault → IsFirstFault (done ++ part ∷ others) fault
first_fault [] networks part others fault h bad = inl bad
first_fault (d ∷ ds) [] part others fault h bad = absurd h
first_fault (d ∷ ds) (n ∷ ns) part others fault h bad = inr ((n, h.0), first_fault ds ns part others fault h.1 bad)

refused : (parts : List (List ℕ)) (fault : NetworkFault) → IsFirstFault parts fault → IsRefused parts fault
refused parts Empty h = h
refused parts BadText h = h
refused parts Mapped h = h
refused parts TooManyBits h = h
refused parts HostBits h = h
refused parts OutOfMemory h = tt

-- the part before the next comma writes no network
pub read_bad : (text : List ℕ) (networks : List Network) (left part : List ℕ) (fault : NetworkFault)
    → HasRead text networks (Some left) → part ≡ before_first (λ b. b == 44) left → IsFaulty part fault
    → IsRefused (parts_of text) fault
read_bad text networks left part fault h e bad =
    let parts : parts_of text ≡ h.done ++ part ∷ parts_left (behind_first 44 left) = h.parts ∙ ap (λ ps. h.done ++ ps) (first_part left) ∙ rw e refl in
    refused (parts_of text) fault (rw parts (first_fault h.done networks part _ fault h.read bad))
