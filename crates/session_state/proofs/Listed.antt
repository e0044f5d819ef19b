-- What a SETUP names doesn't go by how the mounts that live are listed.
use Rattle.std.proofs.Common.{◌≡◌, ℕ, ◌==◌, ◌≤◌, List, length, inl, inr, Option, None, Some, sym, subst, ◌∙◌}
use Rattle.mounts.specs.declared.mount.Mount.{Mount}
use Rattle.mounts.specs.declared.target.Target.{Target}
use Rattle.mounts.specs.Find.{IsFoundIn}
use Rattle.mounts.specs.Mounts.{named, numbered, owned_by}
use Rattle.mounts.proofs.Firsts.{found_all}
use Rattle.mounts.proofs.OneAnswer.{named_once}
use Rattle.session_state.specs.History.{History}
use Rattle.session_state.specs.Legal.{IsLegal}
use Rattle.session_state.specs.Streams.{AreLive, IsLiveMount, IsOwnMount, IsSetUpOn, IsTrackOf, SetsUp}
use Rattle.session_state.proofs.CheckedNames.{one_set_up as one_among, same_some, same_target}
use Rattle.session_state.proofs.OneAnswer.{few_tracks}
use Rattle.session_state.proofs.OneLookup.{names_agree, numbers_agree, owners_agree}
use Rattle.session_state.proofs.SameCount.{same_count}

-- Two lists of mounts tell one thing by each number, name and owner, and are of one length.
pub record Agree (mounts others : List Mount) : Type 0 where
  pub numbers : (number : ℕ) → numbered number mounts ≡ numbered number others
  pub names : (name : List ℕ) → named name mounts ≡ named name others
  pub owners : (owner : ℕ) → owned_by owner mounts ≡ owned_by owner others
  pub count : length mounts ≡ length others

pub turned : (mounts others : List Mount) → Agree mounts others → Agree others mounts
turned mounts others agree = record {
  numbers = λ number. sym (agree.numbers number);
  names = λ name. sym (agree.names name);
  owners = λ owner. sym (agree.owners owner);
  count = sym agree.count;
}

-- what a request names
module _ (mounts others : List Mount) (agree : Agree mounts others) where
  own_too : (conn : ℕ) (path : List ℕ) (number : ℕ) (rest : Option (List ℕ)) → IsOwnMount mounts conn path number rest → IsOwnMount others conn path number rest
  own_too conn path number rest (own, owned, goes, is) = (own, sym (agree.owners conn) ∙ owned, goes, is)

  found_too : (path : List ℕ) (number : ℕ) (rest : Option (List ℕ)) → IsFoundIn mounts path number rest → IsFoundIn others path number rest
  found_too path number rest found = record {
    mount = found.mount;
    name = found.name;
    goes_on = found.goes_on;
    live = sym (agree.names found.name) ∙ found.live;
    number_is = found.number_is;
    longest = λ longer other goes more. sym (agree.names longer) ∙ found.longest longer other goes more;
  }

  on_too : ((conn : ℕ) (path : List ℕ) (number : ℕ) (rest : Option (List ℕ)) → IsOwnMount others conn path number rest → IsOwnMount mounts conn path number rest)
      → (conn : ℕ) (path : List ℕ) (number : ℕ) (rest : Option (List ℕ)) → IsSetUpOn mounts conn path number rest → IsSetUpOn others conn path number rest
  on_too back conn path number rest (inl own) = inl (own_too conn path number rest own)
  on_too back conn path number rest (inr (none, found)) = inr ((λ other behind own. none other behind (back conn path other behind own)), found_too path number rest found)

pub set_up_on_too : (mounts others : List Mount) → Agree mounts others → (conn : ℕ) (path : List ℕ) (number : ℕ) (rest : Option (List ℕ)) → IsSetUpOn mounts conn path number rest → IsSetUpOn others conn path number rest
set_up_on_too mounts others agree = on_too mounts others agree (own_too others mounts (turned mounts others agree))

pub sets_up_too : (mounts others : List Mount) → Agree mounts others → (conn : ℕ) (uri : List ℕ) (mount : Mount) (track : ℕ) → SetsUp mounts conn uri mount track → SetsUp others conn uri mount track
sets_up_too mounts others agree conn uri mount track is = record {
  target = is.target;
  names = is.names;
  rest = is.rest;
  on = set_up_on_too mounts others agree conn is.target.path mount.number is.rest is.on;
  is = sym (agree.numbers mount.number) ∙ is.is;
  track_is = is.track_is;
}

one_of_rest : (mount : Mount) → length mount.description.tracks ≤ 16 → (conn : ℕ) (target : Target) (rest : Option (List ℕ)) (track other : ℕ) → IsTrackOf mount conn target rest track → IsTrackOf mount conn target rest other → track ≡ other
one_of_rest mount few conn target None track other a b = a.1 ∙ sym b.1
one_of_rest mount few conn target (Some rest) track other a b = named_once (mount.owner == conn) target rest mount.description.tracks track other few a b

module _ (seats : ℕ) (history : History) (legal : IsLegal seats history) (mounts others : List Mount) (are : AreLive seats history mounts) (also : AreLive seats history others) where
  pub agreeing : Agree mounts others
  agreeing = record {
    numbers = numbers_agree seats history legal mounts others are also;
    names = names_agree seats history legal mounts others are also;
    owners = owners_agree seats history legal mounts others are also;
    count = same_count seats history mounts others are also;
  }

  -- a SETUP sets up one track of one mount
  pub one_set_up : (conn : ℕ) (uri : List ℕ) (one other : Mount) (track second : ℕ) → SetsUp mounts conn uri one track → SetsUp others conn uri other second → (one ≡ other) × (track ≡ second)
  one_set_up conn uri one other track second a b =
      let target = same_target uri b.target a.target b.names a.names in
      let on = one_among others conn a.target.path one.number other.number a.rest b.rest (set_up_on_too mounts others agreeing conn a.target.path one.number a.rest a.on)
      (subst (λ (t : Target). IsSetUpOn others conn t.path other.number b.rest) target b.on) in
      let at = sym (agreeing.numbers one.number) ∙ a.is in
      let same = same_some one other (numbered other.number others) (subst (λ n. numbered n others ≡ Some one) on.0 at) b.is in
      let few = few_tracks seats history legal other (found_all (IsLiveMount seats history) (λ mount. mount.number == other.number) others other also.each b.is) in (
        same,
        one_of_rest other few conn a.target a.rest track second (subst (λ m. IsTrackOf m conn a.target a.rest track) same a.track_is)
            (subst (λ t. IsTrackOf other conn t a.rest second) target (subst (λ rest. IsTrackOf other conn b.target rest second) (sym on.1) b.track_is)),
      )
