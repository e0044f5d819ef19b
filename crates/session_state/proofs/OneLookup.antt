-- What a legal history tells of a mount doesn't go by how the mounts that live are listed.
use Rattle.std.proofs.Common.{◌≡◌, ℕ, suc, ◌==◌, Bool, List, [], ◌∷◌, length, slice_get, Option, None, Some, refl, ap, sym, ◌∙◌}
use Rattle.std.specs.Str.{bytes_eq}
use Rattle.sdp.specs.declared.sections.Sections.{Sections}
use Rattle.mounts.specs.declared.mount.Mount.{Mount}
use Rattle.mounts.specs.Mounts.{named, numbered, owned_by}
use Rattle.mounts.proofs.Firsts.{found_all}
use Rattle.session_state.specs.History.{History}
use Rattle.session_state.specs.Legal.{IsLegal}
use Rattle.session_state.specs.Streams.{AreLive, IsLiveMount, is_out}
use Rattle.session_state.proofs.OneAnswer.{AreOne, one_named, one_numbered, one_owned}

-- lists of the same length with the same elements at each place are one
same_bits : (xs ys : List Bool) → length xs ≡ length ys → ((place : ℕ) (a b : Bool) → slice_get xs place ≡ Some a → slice_get ys place ≡ Some b → a ≡ b) → xs ≡ ys
same_bits [] [] long each = refl
same_bits [] (y ∷ ys) long each = absurd (cc)
same_bits (x ∷ xs) [] long each = absurd (cc)
same_bits (x ∷ xs) (y ∷ ys) long each =
    let head : x ≡ y = each 0 x y refl refl in
    let shorter : length xs ≡ length ys = cc in
    let tail : xs ≡ ys = same_bits xs ys shorter (λ place a b one other. each (suc place) a b one other) in
    cc

make : ℕ → ℕ → List ℕ → Sections → List Bool → Mount
make number owner name description seats = record { number = number; owner = owner; name = name; description = description; seats = seats }

-- what one look-up finds another finds, and the other way round
agree : (a b : Option Mount) → ((one : Mount) → a ≡ Some one → b ≡ Some one) → ((one : Mount) → b ≡ Some one → a ≡ Some one) → a ≡ b
agree (Some one) b there back = sym (there one refl)
agree None None there back = refl
agree None (Some one) there back = back one refl

module _ (seats : ℕ) (history : History) (legal : IsLegal seats history) where
  same_mount : (one other : Mount) → IsLiveMount seats history one → IsLiveMount seats history other → AreOne one other → one ≡ other
  unfolding make
  same_mount one other a b same =
      let number = same.number in
      let owner = same.owner in
      let name = same.name in
      let description = same.description in
      let bits : one.seats ≡ other.seats = same_bits one.seats other.seats (a.seats_are ∙ sym b.seats_are)
      (λ place x y here there. a.out place x here ∙ ap (λ n. is_out n place history) number ∙ sym (b.out place y there)) in
      let made : make one.number one.owner one.name one.description one.seats ≡ make other.number other.owner other.name other.description other.seats = cc in
      made

  module _ (mounts others : List Mount) (are : AreLive seats history mounts) (also : AreLive seats history others) where
    numbered_too : (number : ℕ) (one : Mount) → numbered number mounts ≡ Some one → numbered number others ≡ Some one
    numbered_too number one at =
        let found = one_numbered seats history legal number mounts others one are also at in
        let lives = found_all (IsLiveMount seats history) (λ mount. mount.number == number) mounts one are.each at in
        let second = found_all (IsLiveMount seats history) (λ mount. mount.number == number) others found.0 also.each found.1 in
        found.1 ∙ ap Some (sym (same_mount one found.0 lives second found.2))

    named_too : (name : List ℕ) (one : Mount) → named name mounts ≡ Some one → named name others ≡ Some one
    named_too name one at =
        let found = one_named seats history legal name mounts others one are also at in
        let lives = found_all (IsLiveMount seats history) (λ mount. bytes_eq name mount.name) mounts one are.each at in
        let second = found_all (IsLiveMount seats history) (λ mount. bytes_eq name mount.name) others found.0 also.each found.1 in
        found.1 ∙ ap Some (sym (same_mount one found.0 lives second found.2))

    owned_too : (owner : ℕ) (one : Mount) → owned_by owner mounts ≡ Some one → owned_by owner others ≡ Some one
    owned_too owner one at =
        let found = one_owned seats history legal owner mounts others one are also at in
        let lives = found_all (IsLiveMount seats history) (λ mount. mount.owner == owner) mounts one are.each at in
        let second = found_all (IsLiveMount seats history) (λ mount. mount.owner == owner) others found.0 also.each found.1 in
        found.1 ∙ ap Some (sym (same_mount one found.0 lives second found.2))

  module _ (mounts others : List Mount) (are : AreLive seats history mounts) (also : AreLive seats history others) where
    pub numbers_agree : (number : ℕ) → numbered number mounts ≡ numbered number others
    numbers_agree number = agree (numbered number mounts) (numbered number others) (numbered_too mounts others are also number) (numbered_too others mounts also are number)

    pub names_agree : (name : List ℕ) → named name mounts ≡ named name others
    names_agree name = agree (named name mounts) (named name others) (named_too mounts others are also name) (named_too others mounts also are name)

    pub owners_agree : (owner : ℕ) → owned_by owner mounts ≡ owned_by owner others
    owners_agree owner = agree (owned_by owner mounts) (owned_by owner others) (owned_too mounts others are also owner) (owned_too others mounts also are owner)
