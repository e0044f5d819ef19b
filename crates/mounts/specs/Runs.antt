-- The changes of a table, and the tables that they lead to.
use Rattle.std.specs.Prelude.{◌≡◌, ℕ, true, false, List, [], ◌∷◌, None}
use Rattle.sdp.specs.declared.sections.Sections.{Sections}
use Rattle.mounts.specs.Names.{EndsInTrack, IsName}
use Rattle.mounts.specs.Mounts.{Table, HasRoom, IsSeat, announced, ended, named, owned_by, with_seat_of}

-- a change of a table: what each call that changes one does
pub data Change : Type 0 where
  Announce : (owner : ℕ) → (name : List ℕ) → (description : Sections) → Change
  End : (number : ℕ) → Change
  Take : (number : ℕ) → (seat : ℕ) → Change
  GiveBack : (number : ℕ) → (seat : ℕ) → Change

-- where the change may be made, and what it leaves
abbrev pub Changes : Table → Change → Table → Type 0
Changes old (Announce owner name description) new =
    HasRoom old × IsName name × (EndsInTrack name → ⊥) × (named name old.mounts ≡ None) × (owned_by owner old.mounts ≡ None) × (new ≡ announced old owner name description)
Changes old (End number) new = new ≡ ended number old
Changes old (Take number seat) new = IsSeat old number seat false × (new ≡ with_seat_of number seat true old)
Changes old (GiveBack number seat) new = IsSeat old number seat true × (new ≡ with_seat_of number seat false old)

-- one change after another
abbrev pub LeadsTo : Table → List Change → Table → Type 0
LeadsTo old [] new = new ≡ old
LeadsTo old (change ∷ changes) new = (mid : Table) × Changes old change mid × LeadsTo mid changes new
