-- What the tables of a server tell of a request, and what its checks then tell.
use Rattle.std.proofs.Common.{◌≡◌, ◌==◌, ◌++◌, ℕ, Bool, List, [], ◌∷◌, Option, None, Some, Result, Ok, Err, MatchResult, IfOk, sym, ap, subst, ◌∙◌, append_assoc}
use Rattle.std.specs.Option.{option_and_then, option_copied}
use Rattle.rtsp_message.specs.declared.request.Request as messages
use Rattle.mounts.specs.declared.mount.Mount.{Mount}
use Rattle.mounts.specs.Mounts.{Table, numbered}
use Rattle.mounts.proofs.Firsts.{found_all}
use Rattle.session_state.specs.declared.checks.accepted.Accepted.{Accepted}
use Rattle.session_state.specs.declared.checks.asking.Asking.{Asking}
use Rattle.session_state.specs.declared.checks.Check.{Check}
use Rattle.session_state.specs.declared.entry.Entry.{Entry}
use Rattle.session_state.specs.declared.checks.refusal.Refusal.{Refusal}
use Rattle.session_state.specs.declared.checks.refusal.Refusal.TheVariants.{Fails}
use Rattle.session_state.specs.declared.session.Session.{Session}
use Rattle.session_state.specs.Asking.{IsChecked, IsRefusedAt, IsToldBy, asked_in}
use Rattle.session_state.specs.Checks.{Asked, FailsFirst, checks_of}
use Rattle.session_state.specs.History.{History, IsNth, Moment, accepts}
use Rattle.std.proofs.lemmas.Result.{MatchResult-at_err}
use Rattle.session_state.specs.Legal.{IsLegal}
use Rattle.session_state.specs.Judged.{IsFine, asked_of}
use Rattle.session_state.specs.Lookups.{IsSession}
use Rattle.session_state.specs.Methods.{is_announce, method_of}
use Rattle.session_state.specs.Stands.{Stands, Tables, kept_of, session_kept}
use Rattle.session_state.specs.Streams.{AreLive, IsLiveMount}
use Rattle.session_state.proofs.CheckedSetUp.{has_number}
use Rattle.session_state.proofs.Identifiers.{is_beginning}
use Rattle.session_state.proofs.Namesakes.{one_announcement}
use Rattle.session_state.proofs.Nth.{one_nth}

-- what is the n-th of some entries is the n-th of more
nth_of_more : (that : Entry → Bool) (n : ℕ) (history front before later : History) (moment : Moment) → history ≡ front ++ before → IsNth that n before later moment → IsNth that n history (front ++ later) moment
nth_of_more that n history front before later moment cut nth =
    record { cut = cut ∙ ap (λ h. front ++ h) nth.cut ∙ sym (append_assoc front later (moment.entry ∷ moment.before)); is = nth.is; counted = nth.counted }

-- the mount of a session, while it lives, has the name that it had when the session began
pub session_name : (seats conn : ℕ) (history : History) (session : Session) (mounts : List Mount) (mount : Mount) → AreLive seats history mounts → IsSession seats conn history session
    → numbered session.mount mounts ≡ Some mount → mount.name ≡ session.name
session_name seats conn history session mounts mount live is at =
    let begun = is_beginning conn history is.begin is.first in
    let old = found_all (IsLiveMount seats is.begin.before) (λ (m : Mount). m.number == is.mount.number) is.set_up.mounts is.mount is.set_up.live.each is.set_up.sets_up.is in
    let new = found_all (IsLiveMount seats history) (λ (m : Mount). m.number == session.mount) mounts mount live.each at in
    let number : mount.number ≡ is.mount.number = has_number session.mount mounts mount at ∙ is.mount_is in
    let front : History = begun.later ++ is.begin.entry ∷ [] in
    let cut : history ≡ front ++ is.begin.before = begun.cut ∙ sym (append_assoc begun.later (is.begin.entry ∷ []) is.begin.before) in
    let earlier = nth_of_more (accepts is_announce) is.mount.number history front is.begin.before old.live.later old.live.moment cut old.live.nth in
    let nth = subst (λ n. IsNth (accepts is_announce) n history new.live.later new.live.moment) number new.live.nth in
    let moment = one_nth (accepts is_announce) is.mount.number history new.live.later (front ++ old.live.later) new.live.moment old.live.moment nth earlier in
    (one_announcement new.live.moment.entry old.live.moment.entry mount.owner is.mount.owner mount.name is.mount.name mount.description is.mount.description moment.entry new.announced old.announced).name_is
    ∙ sym is.name_is

-- The tables tell this of a request.
pub record IsOf (tables : Tables) (conn : ℕ) (request : messages.Request) (asking : Asking) : Type 0 where
  pub request_is : asking.request.now ≡ request
  pub conn_is : asking.conn ≡ conn
  pub session : option_copied asking.session ≡ session_kept tables conn
  pub mounts : asking.mounts.now ≡ tables.mounts
  pub begun : asking.begun ≡ tables.begun

flattened : (kept : Option (Option Session)) (session : Session) → option_and_then (λ one. one) kept ≡ Some session → kept ≡ Some (Some session)
flattened None session at = absurd (cc)
flattened (Some one) session at = ap Some at

-- so a history that stands for the tables tells what is known for the request
pub told_by : (history : History) (tables : Tables) (conn : ℕ) (request : messages.Request) (asking : Asking) → Stands history tables → IsOf tables conn request asking → IsToldBy history asking
told_by history tables conn request asking stands is = record {
  mounts = subst (λ (t : Table). AreLive t.seats history t.mounts) (sym is.mounts) stands.recalls.mounts;
  next = ap (λ (t : Table). t.next) is.mounts ∙ stands.recalls.next;
  begun = is.begun ∙ stands.recalls.begun_is;
  names = λ session mount has at.
      let kept = flattened (kept_of conn tables.connections) session (sym is.session ∙ has) in
      session_name tables.mounts.seats conn history session tables.mounts.mounts mount stands.recalls.mounts (stands.recalls.sessions conn (Some session) kept)
      (subst (λ (t : Table). numbered session.mount t.mounts ≡ Some mount) is.mounts at);
}

abbrev made : History → Table → ℕ → messages.Request → Option Session → Asked
made history table conn request session = record { seats = table.seats; history = history; conn = conn; request = request; mounts = table.mounts; session = session }

same_asked : (history : History) (tables : Tables) (conn : ℕ) (request : messages.Request) (asking : Asking) → IsOf tables conn request asking → asked_in asking history ≡ asked_of tables history conn request
same_asked history tables conn request asking is =
    ap (λ (t : Table). made history t asking.conn asking.request.now (option_copied asking.session)) is.mounts
    ∙ ap (λ (n : ℕ). made history tables.mounts n asking.request.now (option_copied asking.session)) is.conn_is
    ∙ ap (λ (r : messages.Request). made history tables.mounts conn r (option_copied asking.session)) is.request_is
    ∙ ap (λ (o : Option Session). made history tables.mounts conn request o) is.session

-- what the checks tell of a request, the tables tell
pub fine_of : (tables : Tables) (conn : ℕ) (request : messages.Request) (asking : Asking) → IsOf tables conn request asking → (accepted : Accepted) → IsChecked asking accepted
    → (history : History) → Stands history tables → IsFine (asked_of tables history conn request) accepted
fine_of tables conn request asking is accepted checked history stands =
    subst (λ (asked : Asked). IsFine asked accepted) (same_asked history tables conn request asking is) (checked.fine history (told_by history tables conn request asking stands is))

pub fails_of : (tables : Tables) (conn : ℕ) (request : messages.Request) (asking : Asking) → IsOf tables conn request asking → (check : Check)
    → IsRefusedAt asking (checks_of (method_of asking.request.now.method)) (Fails check) → (history : History) → Stands history tables
    → FailsFirst (asked_of tables history conn request) (checks_of (method_of request.method)) check
fails_of tables conn request asking is check refused history stands =
    subst (λ (r : messages.Request). FailsFirst (asked_of tables history conn request) (checks_of (method_of r.method)) check) is.request_is
    (subst (λ (asked : Asked). FailsFirst asked (checks_of (method_of asking.request.now.method)) check) (same_asked history tables conn request asking is)
    (refused history (told_by history tables conn request asking stands is)))

pub fine_result : (tables : Tables) (conn : ℕ) (request : messages.Request) (asking : Asking) (result : Result Accepted Refusal)
    → MatchResult result (IsChecked asking) (IsRefusedAt asking (checks_of (method_of asking.request.now.method))) → IsOf tables conn request asking
    → IfOk result (λ accepted. (history : History) → IsLegal tables.mounts.seats history → Stands history tables → IsFine (asked_of tables history conn request) accepted)
fine_result tables conn request asking (Ok accepted) checked is = λ history legal stands. fine_of tables conn request asking is accepted checked history stands
fine_result tables conn request asking (Err refusal) checked is = tt

pub fails_result : (tables : Tables) (conn : ℕ) (request : messages.Request) (asking : Asking) (result : Result Accepted Refusal)
    → MatchResult result (IsChecked asking) (IsRefusedAt asking (checks_of (method_of asking.request.now.method))) → IsOf tables conn request asking
    → (check : Check) → result ≡ Err (Fails check) → (history : History) → IsLegal tables.mounts.seats history → Stands history tables
    → FailsFirst (asked_of tables history conn request) (checks_of (method_of request.method)) check
fails_result tables conn request asking result checked is check fails history legal stands =
    fails_of tables conn request asking is check (MatchResult-at_err (IsChecked asking) (IsRefusedAt asking (checks_of (method_of asking.request.now.method))) (Fails check) fails checked) history stands
