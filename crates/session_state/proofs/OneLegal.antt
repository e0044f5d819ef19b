-- A legal history determines what a request is answered.
use Rattle.std.proofs.Common.{◌≡◌, ℕ, inl, inr, Some, refl, ap, sym, ◌∙◌, subst}
use Rattle.rtsp_message.specs.declared.request.Request as messages
use Rattle.rtsp_message.specs.declared.reply.Reply.{Reply}
use Rattle.session_state.specs.declared.act.Act.{Act}
use Rattle.session_state.specs.declared.act.Act.TheVariants as acts
use Rattle.session_state.specs.declared.given.Given.{Given}
use Rattle.session_state.specs.declared.method.Method.{Method}
use Rattle.session_state.specs.declared.method.Method.TheVariants as methods
use Rattle.session_state.specs.declared.session.Session.{Session}
use Rattle.session_state.specs.declared.session.State.{State}
use Rattle.session_state.specs.declared.session.State.TheVariants.{Ready, Playing, Recording}
use Rattle.session_state.specs.Checks.{Asked, LooksUp}
use Rattle.session_state.specs.History.{History}
use Rattle.session_state.specs.Legal.{IsAnswered, IsExpiry, IsLegal, IsReplyOf, IsSameAct}
use Rattle.session_state.specs.Replies.{IsAccepted, IsPlayAct, IsPlayed, teardown_act}
use Rattle.session_state.proofs.AnyList.{answered_too, listing}
use Rattle.session_state.proofs.OneReply.{no_both, one_reply}
use Rattle.session_state.proofs.OneSession.{one_session_of}

itself : (act : Act) → IsSameAct act act
itself acts.None = refl
itself acts.Open = refl
itself acts.Record = refl
itself acts.End = refl
itself (acts.Play mount seat) = refl
itself (acts.Stop mount seat) = refl

same : (act behind : Act) → act ≡ behind → IsSameAct act behind
same act behind is = subst (IsSameAct act) is (itself act)

module _ (asked : Asked) (looks : LooksUp asked) (legal : IsLegal asked.seats asked.history) (given : Given) (one other : Reply) (act behind : Act) where
  plays : (mount : ℕ) (state : State) → IsPlayAct asked mount state act → IsPlayAct asked mount state behind → IsSameAct act behind
  plays mount Ready (seat, few, free, is) (second, low, none, so) = subst (λ doing. IsSameAct doing behind) (sym is) (subst (IsSameAct (acts.Play mount seat)) (sym so) refl)
  plays mount (Playing seat) a b = same act behind (a ∙ sym b)
  plays mount Recording a b = same act behind (a ∙ sym b)

  played : IsPlayed asked given one act → IsPlayed asked given other behind → IsSameAct act behind
  played a b =
      let first = a.names.has in
      let second = b.names.has in
      let session : b.session ≡ a.session = cc in
      plays a.session.mount a.session.state a.does (subst (λ (s : Session). IsPlayAct asked s.mount s.state behind) session b.does)

  accepted : (method : Method) → IsAccepted asked method given one act → IsAccepted asked method given other behind → IsSameAct act behind
  accepted methods.Options a b = same act behind (a.1 ∙ sym b.1)
  accepted methods.GetParameter a b = same act behind (a.1 ∙ sym b.1)
  accepted methods.Describe a b = same act behind (a.1 ∙ sym b.1)
  accepted methods.Announce a b = same act behind (a.1 ∙ sym b.1)
  accepted methods.Setup a b = same act behind (a.1 ∙ sym b.1)
  accepted methods.Play a b = played a b
  accepted methods.Record a b = same act behind (a.1 ∙ sym b.1)
  accepted methods.Pause a b = same act behind (a.1 ∙ sym b.1)
  accepted methods.Teardown a b = same act behind (a.1 ∙ sym b.1)

  one_act : IsAnswered asked given one act → IsAnswered asked given other behind → IsSameAct act behind
  one_act (inl (check, fails, is, none)) (inl (second, breaks, so, nothing)) = same act behind (none ∙ sym nothing)
  one_act (inl refused) (inr accepts) = absurd (no_both asked looks legal given one other act behind refused accepts)
  one_act (inr accepts) (inl refused) = absurd (no_both asked looks legal given other one behind act refused accepts)
  one_act (inr (method, named, passes, is)) (inr (second, called, also, so)) =
      let one_method : second ≡ method = cc in
      accepted method is (subst (λ m. IsAccepted asked m given other behind) one_method so)

module _ (seats : ℕ) (history : History) (conn : ℕ) (request : messages.Request) (given : Given) (one other : Reply) (act behind : Act) (legal : IsLegal seats history)
    (a : IsReplyOf seats history conn request given one act) (b : IsReplyOf seats history conn request given other behind) where
  -- the second answer, by what the first was looked up in
  second : IsAnswered (listing seats history conn request a.session a.mounts) given other behind
  second =
      let session = one_session_of seats conn history legal b.session a.session b.looks_up.session a.looks_up.session in
      answered_too seats history conn request a.session b.mounts a.mounts legal b.looks_up.mounts a.looks_up.mounts given other behind
      (subst (λ s. IsAnswered (listing seats history conn request s b.mounts) given other behind) session b.answered)

  pub one_legal_reply : one ≡ other
  one_legal_reply = one_reply (listing seats history conn request a.session a.mounts) a.looks_up legal given one other act behind a.answered second

  pub one_legal_act : IsSameAct act behind
  one_legal_act = one_act (listing seats history conn request a.session a.mounts) a.looks_up legal given one other act behind a.answered second

pub one_expiry : (seats : ℕ) (history : History) (conn heard now other later : ℕ) (act behind : Act) → IsLegal seats history → IsExpiry seats history conn heard now act
    → IsExpiry seats history conn other later behind → act ≡ behind
one_expiry seats history conn heard now other later act behind legal a b =
    a.does ∙ ap teardown_act (one_session_of seats conn history legal (Some a.session) (Some b.session) a.has b.has) ∙ sym b.does
