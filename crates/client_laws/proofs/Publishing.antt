-- What a client asks that publishes is answered 200, from its ANNOUNCE to its TEARDOWN.
use Rattle.std.proofs.Common.{◌≡◌, ◌<◌, ◌^◌, ◌-◌, ℕ, true, false, List, [], ◌∷◌, ◌++◌, inl, inr, is_some, Option, None, Some, refl, ap, sym, subst, ◌∙◌}
use Rattle.std.proofs.lemmas.Bool.{eq-eqb}
use Rattle.rtsp_message.specs.declared.reply.Reply.{Reply}
use Rattle.rtsp_message.specs.Reply.{code_of}
use Rattle.session_state.specs.declared.act.Act.{Act}
use Rattle.session_state.specs.declared.given.Given.{Given}
use Rattle.session_state.specs.declared.entry.Entry.{Entry}
use Rattle.session_state.specs.declared.entry.Entry.TheVariants.{Connect, Request, HangUp, Back, Expire}
use Rattle.session_state.specs.declared.method.Method.TheVariants as methods
use Rattle.session_state.specs.declared.session.Session.{Session}
use Rattle.session_state.specs.declared.session.State.{State}
use Rattle.session_state.specs.declared.session.State.TheVariants as states
use Rattle.session_state.specs.Checks.{fits, state_in}
use Rattle.session_state.specs.History.{History}
use Rattle.session_state.specs.Legal.{Follows, IsLegal, IsReplyOf}
use Rattle.session_state.specs.Lookups.{sessions_begun}
use Rattle.session_state.proofs.AcceptedEntries.{accepted_entry}
use Rattle.request_text.specs.declared.request_text.RequestText.{RequestText}
use Rattle.request_text.specs.Texts.{request_of}
use Rattle.client_laws.specs.Course.{Announced, AreAnsweredOk, Ended, Fresh, IsAnsweredOk, IsAt, IsMove, Moves, Publishes, Recording, SettingUp, Stage, is_of}
use Rattle.client_laws.specs.Phases.{IsAnnounced, IsFresh, IsInSession}
use Rattle.client_laws.specs.Publishing.{AsksAnnounce, AsksOptions, AsksRecord, AsksSetup, AsksTeardown, CanBePublished, HasPlace, Publication, track_count}
use Rattle.client_laws.proofs.Accepting.{answered_ok, none_kept, unnamed}
use Rattle.client_laws.proofs.Fields.{fields_tell}
use Rattle.client_laws.proofs.Keeping.{others_spare, stays}
use Rattle.client_laws.proofs.Known.{known_of}
use Rattle.client_laws.proofs.OwnMount.{found_own}
use Rattle.client_laws.proofs.Named.{announce_named, asked_for, options_named, record_named, setup_named, teardown_named}
use Rattle.client_laws.proofs.Passing.{announce_passes, fits_in, its_session, options_passes, record_passes, setup_passes, teardown_passes}
use Rattle.client_laws.proofs.Steps.{announced_now, begun, moved, options_spare}

module _ (seats conn : ℕ) (publication : Publication) (can : CanBePublished publication) (history : History) (legal : IsLegal seats history) (request : RequestText) (given : Given) (reply : Reply) (act : Act)
    (answer : IsReplyOf seats history conn (request_of request) given reply act) where
  pub announce_ok : IsFresh conn history → HasPlace seats history publication.target.path → AsksAnnounce publication request → code_of reply.status ≡ 200
  announce_ok fresh place asks =
      answered_ok (asked_for seats conn history request answer.mounts answer.session) given reply act methods.Announce (announce_named request publication asks)
      (announce_passes seats conn publication can history request answer.mounts answer.session answer.looks_up fresh place asks) answer.answered

  pub first_setup_ok : (track : ℕ) → IsAnnounced conn publication history → track < track_count publication → sessions_begun history < 2 ^ 32 - 1 → AsksSetup publication track None request → code_of reply.status ≡ 200
  first_setup_ok track was there left asks =
      let none = none_kept seats conn history answer.session answer.looks_up.session was.no_session in
      answered_ok (asked_for seats conn history request answer.mounts answer.session) given reply act methods.Setup (setup_named request publication track None asks)
      (setup_passes seats conn publication can history request answer.mounts answer.session answer.looks_up was.owns.number track None
      (found_own seats conn publication history legal was.owns answer.mounts answer.looks_up.mounts) there asks
      (λ s has. absurd (cc))
      (unnamed (asked_for seats conn history request answer.mounts answer.session) methods.Setup ((fields_tell request).session_is ∙ asks.2.session_is) none (λ needs. let both : false ≡ true = needs in absurd (cc)))
      (ap (λ (s : Option Session). fits methods.Setup (state_in s)) none) (inr left))
      answer.answered

  pub next_setup_ok : (track : ℕ) (told : Option (List ℕ)) → IsInSession seats conn publication told states.Ready history → track < track_count publication → AsksSetup publication track told request → code_of reply.status ≡ 200
  next_setup_ok track told was there asks =
      let known = known_of seats conn publication history request answer.mounts answer.session told states.Ready answer.looks_up was in
      answered_ok (asked_for seats conn history request answer.mounts answer.session) given reply act methods.Setup (setup_named request publication track told asks)
      (setup_passes seats conn publication can history request answer.mounts answer.session answer.looks_up was.owns.number track told
      (found_own seats conn publication history legal was.owns answer.mounts answer.looks_up.mounts) there asks
      (λ s has. let own = known.has in let same : known.session ≡ s = cc in ap (λ (one : Session). one.mount) (sym same) ∙ known.mount_is)
      (its_session seats conn publication can history request answer.mounts answer.session answer.looks_up was.owns.number told states.Ready known methods.Setup asks.2.session_is)
      (fits_in seats conn publication can history request answer.mounts answer.session answer.looks_up was.owns.number told states.Ready known methods.Setup refl)
      (inl (ap is_some known.has)))
      answer.answered

  pub record_ok : (told : Option (List ℕ)) → IsInSession seats conn publication told states.Ready history → AsksRecord publication told request → code_of reply.status ≡ 200
  record_ok told was asks =
      answered_ok (asked_for seats conn history request answer.mounts answer.session) given reply act methods.Record (record_named request publication told asks)
      (record_passes seats conn publication can history request answer.mounts answer.session answer.looks_up was.owns.number told states.Ready
      (known_of seats conn publication history request answer.mounts answer.session told states.Ready answer.looks_up was)
      (found_own seats conn publication history legal was.owns answer.mounts answer.looks_up.mounts) refl asks)
      answer.answered

  pub options_ok : (told : Option (List ℕ)) → IsInSession seats conn publication told states.Recording history → AsksOptions publication told request → code_of reply.status ≡ 200
  options_ok told was asks =
      answered_ok (asked_for seats conn history request answer.mounts answer.session) given reply act methods.Options (options_named request publication told asks)
      (options_passes seats conn publication can history request answer.mounts answer.session answer.looks_up was.owns.number told states.Recording
      (known_of seats conn publication history request answer.mounts answer.session told states.Recording answer.looks_up was) asks)
      answer.answered

  pub teardown_ok : (told : Option (List ℕ)) (state : State) → fits methods.Teardown (Some state) ≡ true → IsInSession seats conn publication told state history → AsksTeardown publication told request
      → code_of reply.status ≡ 200
  teardown_ok told state fit was asks =
      answered_ok (asked_for seats conn history request answer.mounts answer.session) given reply act methods.Teardown (teardown_named request publication told asks)
      (teardown_passes seats conn publication can history request answer.mounts answer.session answer.looks_up was.owns.number told state
      (known_of seats conn publication history request answer.mounts answer.session told state answer.looks_up was) fit asks)
      answer.answered

  -- A request of the course is answered 200, and leads to its next stage.
  pub record LeadsTo (to : Stage) : Type 0 where
    pub ok : code_of reply.status ≡ 200
    pub next : IsAt seats conn publication (Request conn (request_of request) given reply act ∷ history) to

  pub leads : (from to : Stage) → IsAt seats conn publication history from → Moves seats conn publication history from request reply to → LeadsTo to
  leads Fresh to was (asks, place, is) =
      let ok = announce_ok was place asks in
      record { ok = ok; next = subst (IsAt seats conn publication (Request conn (request_of request) given reply act ∷ history)) (sym is) (announced_now seats conn publication can history request given reply act ok asks was.no_session) }
  leads Announced to was (asks, some, left, is) =
      let ok = first_setup_ok 0 was some left asks in
      record { ok = ok; next = subst (IsAt seats conn publication (Request conn (request_of request) given reply act ∷ history)) (sym is) (begun seats conn publication can history request given reply act ok 0 None legal was some asks answer) }
  leads (SettingUp tracks told) to was (inl (asks, there, is)) =
      let ok = next_setup_ok tracks told was there asks in
      record {
        ok = ok;
        next = subst (IsAt seats conn publication (Request conn (request_of request) given reply act ∷ history)) (sym is)
            (moved seats conn publication can history request given reply act ok methods.Setup (accepted_entry conn (request_of request) given reply act methods.Setup ok (setup_named request publication tracks told asks)) refl refl told states.Ready states.Ready refl was);
      }
  leads (SettingUp tracks told) to was (inr (inl (asks, all, is))) =
      let ok = record_ok told was asks in
      record {
        ok = ok;
        next = subst (IsAt seats conn publication (Request conn (request_of request) given reply act ∷ history)) (sym is)
            (moved seats conn publication can history request given reply act ok methods.Record (accepted_entry conn (request_of request) given reply act methods.Record ok (record_named request publication told asks)) refl refl told states.Ready states.Recording refl was);
      }
  leads (SettingUp tracks told) to was (inr (inr (asks, is))) =
      record { ok = teardown_ok told states.Ready refl was asks; next = subst (IsAt seats conn publication (Request conn (request_of request) given reply act ∷ history)) (sym is) tt }
  leads (Recording told) to was (inl (asks, is)) =
      let ok = options_ok told was asks in
      record {
        ok = ok;
        next = subst (IsAt seats conn publication (Request conn (request_of request) given reply act ∷ history)) (sym is)
            (stays seats conn publication history (Request conn (request_of request) given reply act) (options_spare seats conn publication can history request given reply act ok told asks) (Recording told) was);
      }
  leads (Recording told) to was (inr (asks, is)) =
      record { ok = teardown_ok told states.Recording refl was asks; next = subst (IsAt seats conn publication (Request conn (request_of request) given reply act ∷ history)) (sym is) tt }
  leads Ended to was never = absurd never

-- where a course has come to, and that its requests were answered 200
pub record HasCome (seats conn : ℕ) (publication : Publication) (later start : History) (stage : Stage) : Type 0 where
  pub at : IsAt seats conn publication (later ++ start) stage
  pub ok : AreAnsweredOk conn later

module _ (seats conn : ℕ) (publication : Publication) (can : CanBePublished publication) (start : History) (fresh : IsFresh conn start) where
  not_own : (entry : Entry) → is_of conn entry ≡ false → IsAnsweredOk conn entry
  not_own (Connect who) other = tt
  not_own (Request who request given reply act) other = λ same. let both : true ≡ false = sym (eq-eqb who conn same) ∙ other in absurd (cc)
  not_own (HangUp who act) other = tt
  not_own (Back mount seat) other = tt
  not_own (Expire who heard now act) other = tt

  moves_on : (later : History) (entry : Entry) (from to : Stage) → IsLegal seats (entry ∷ later ++ start) → IsMove seats conn publication (later ++ start) entry from to → HasCome seats conn publication later start from
      → HasCome seats conn publication (entry ∷ later) start to
  moves_on later entry from to legal move was =
      let answer = subst (Follows seats (later ++ start)) move.is legal.1 in
      let done = leads seats conn publication can (later ++ start) legal.0 move.request move.given move.reply move.act answer from to was.at move.moves in
      record {
        at = subst (λ e. IsAt seats conn publication (e ∷ later ++ start) to) (sym move.is) done.next;
        ok = (subst (IsAnsweredOk conn) (sym move.is) (λ same. done.ok), was.ok);
      }

  pub has_come : (later : History) (stage : Stage) → IsLegal seats (later ++ start) → Publishes seats conn publication later start stage → HasCome seats conn publication later start stage
  has_come [] stage legal is = record { at = subst (IsAt seats conn publication start) (sym is) fresh; ok = tt }
  has_come (entry ∷ later) stage legal (inl (other, rest)) =
      let was = has_come later stage legal.0 rest in
      record { at = stays seats conn publication (later ++ start) entry (others_spare conn entry other) stage was.at; ok = (not_own entry other, was.ok) }
  has_come (entry ∷ later) stage legal (inr (from, move, rest)) = moves_on later entry from stage legal move (has_come later from legal.0 rest)
