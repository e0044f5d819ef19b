-- What giving a seat back leaves.
use Rattle.std.proofs.Common.{◌≡◌, ℕ, ◌<◌, ◌==◌, Bool, true, false, ◌∷◌, Some, refl, ap, sym, ◌∙◌, subst}
use Rattle.std.proofs.lemmas.Option.{slice_get_within}
use Rattle.std.proofs.lemmas.Bool.{eqb-true}
use Rattle.mounts.specs.Mounts.{IsSeat, with_seat_of}
use Rattle.mounts.proofs.Firsts.{found_all, found_passes}
use Rattle.mounts.proofs.Indexed.{some_at}
use Rattle.mounts.proofs.Sound.{sound_seat}
use Rattle.session_state.specs.declared.entry.Entry.TheVariants.{Back}
use Rattle.session_state.specs.History.{History}
use Rattle.session_state.specs.Legal.{IsBack, IsLegal}
use Rattle.session_state.specs.Stands.{Recalls, Stands, Tables}
use Rattle.session_state.specs.Streams.{IsLive, IsLiveMount, is_out}
use Rattle.session_state.proofs.Parts.{session_still}
use Rattle.session_state.proofs.Moving.{seat_moves}
use Rattle.session_state.proofs.Plays.{out_below}
use Rattle.session_state.proofs.Strangers.{still_heard}

-- A seat of a mount that lives, of which the history tells whether it is out.
pub record IsSeatOf (seats : ℕ) (history : History) (mount owner seat : ℕ) (is : Bool) : Type 0 where
  pub live : IsLive history mount owner
  pub out : is_out mount seat history ≡ is
  pub below : seat < seats

-- a seat of a mount in the table is out there where it is out in the history
pub seat_in_history : (history : History) (tables : Tables) (mount seat : ℕ) (out : Bool) → Recalls history tables → (is : IsSeat tables.mounts mount seat out)
    → IsSeatOf tables.mounts.seats history mount is.mount.owner seat out
seat_in_history history tables mount seat out stands is =
    let found = found_all (IsLiveMount tables.mounts.seats history) (λ one. one.number == mount) tables.mounts.mounts is.mount stands.mounts.each is.live in
    let number = eqb-true is.mount.number mount (found_passes (λ one. one.number == mount) tables.mounts.mounts is.mount is.live) in
    record {
      live = subst (λ n. IsLive history n is.mount.owner) number found.live;
      out = subst (λ n. is_out n seat history ≡ out) number (sym (found.out seat out is.is));
      below = subst (λ n. seat < n) found.seats_are (slice_get_within is.mount.seats seat out is.is);
    }

-- a seat that is out of a mount in the table is out in the history
pub is_back : (history : History) (tables : Tables) (mount seat : ℕ) → Recalls history tables → IsSeat tables.mounts mount seat true → IsBack history mount seat
is_back history tables mount seat stands is =
    let found = seat_in_history history tables mount seat true stands is in
    record { owner = is.mount.owner; live = found.live; out = found.out }

pub backed : (history : History) (old new : Tables) (mount seat : ℕ) → Stands history old → new ≡ record old { mounts = with_seat_of mount seat false old.mounts } → Stands (Back mount seat ∷ history) new
backed history old new mount seat all is = let stands = all.recalls in subst (Stands (Back mount seat ∷ history)) (sym is) (record {
  recalls = record {
    sound = sound_seat mount seat false old.mounts stands.sound;
    mounts = seat_moves old.mounts.seats history (Back mount seat) mount seat false (record { plain = refl; on = λ owner. refl; moves = λ of given. refl; leaves = refl }) old.mounts.mounts stands.mounts;
    next = stands.next;
    are_open = stands.are_open;
    sessions = λ conn session kept. session_still old.mounts.seats conn history (Back mount seat ∷ history) session refl (stands.sessions conn session kept);
    came_is = stands.came_is;
    gone = stands.gone;
    begun_is = stands.begun_is;
  };
  heard = λ conn moment kept. all.heard conn moment kept ∙ sym (still_heard conn (Back mount seat) history refl);
})

-- a seat of a mount in the history is one of the table's
pub seat_in_table : (history : History) (tables : Tables) (mount owner seat : ℕ) (out : Bool) → Recalls history tables → IsSeatOf tables.mounts.seats history mount owner seat out → IsSeat tables.mounts mount seat out
seat_in_table history tables mount owner seat out stands is =
    let found = stands.mounts.all mount owner is.live in
    let lives = found_all (IsLiveMount tables.mounts.seats history) (λ one. one.number == mount) tables.mounts.mounts found.0 stands.mounts.each found.1 in
    let number = eqb-true found.0.number mount (found_passes (λ one. one.number == mount) tables.mounts.mounts found.0 found.1) in
    let at = some_at found.0.seats seat (subst (λ n. seat < n) (sym lives.seats_are) is.below) in
    record {
      mount = found.0;
      live = found.1;
      is = at.1 ∙ ap Some (lives.out seat at.0 at.1 ∙ ap (λ n. is_out n seat history) number ∙ is.out);
    }

-- a seat that is out in the history is out of its mount in the table
pub is_seat : (history : History) (tables : Tables) (mount seat : ℕ) → IsLegal tables.mounts.seats history → Recalls history tables → IsBack history mount seat → IsSeat tables.mounts mount seat true
is_seat history tables mount seat legal stands back =
    seat_in_table history tables mount back.owner seat true stands (record { live = back.live; out = back.out; below = out_below mount seat tables.mounts.seats history legal back.out })
