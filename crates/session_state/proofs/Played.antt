-- What a PLAY that is answered 200 takes.
use Rattle.std.proofs.Common.{◌≡◌, ℕ, ◌<◌, false, ◌∷◌, Some, subst}
use Rattle.rtsp_message.specs.declared.request.Request as messages
use Rattle.rtsp_message.specs.declared.reply.Reply.{Reply}
use Rattle.rtsp_message.specs.Reply.{code_of}
use Rattle.session_state.specs.declared.act.Act.{Act}
use Rattle.session_state.specs.declared.act.Act.TheVariants as acts
use Rattle.session_state.specs.declared.given.Given.{Given}
use Rattle.session_state.specs.declared.entry.Entry.TheVariants.{Request}
use Rattle.session_state.specs.declared.method.Method.TheVariants as methods
use Rattle.session_state.specs.declared.session.Session.{Session}
use Rattle.session_state.specs.declared.session.State.TheVariants.{Ready}
use Rattle.session_state.specs.Methods.{method_of}
use Rattle.session_state.specs.History.{History}
use Rattle.session_state.specs.Checks.{Asked}
use Rattle.session_state.specs.Legal.{IsLegal}
use Rattle.session_state.specs.Lookups.{IsSession, IsSessionOf}
use Rattle.session_state.specs.Replies.{IsPlayAct, IsPlayed}
use Rattle.session_state.specs.Streams.{is_out}
use Rattle.session_state.proofs.Announced.{accepted_as}
use Rattle.session_state.proofs.OneSession.{one_session}

pub takes_a_seat : (seats : ℕ) (before : History) (conn : ℕ) (request : messages.Request) (given : Given) (reply : Reply) (act : Act) (session : Session)
    → IsLegal seats (Request conn request given reply act ∷ before) → code_of reply.status ≡ 200 → method_of request.method ≡ Some methods.Play
    → IsSession seats conn before session → session.state ≡ Ready → (seat : ℕ) × (act ≡ acts.Play session.mount seat) × (seat < seats) × (is_out session.mount seat before ≡ false)
takes_a_seat seats before conn request given reply act session legal ok named is ready =
    let asked : Asked = record { seats = seats; history = before; conn = conn; request = request; mounts = legal.1.mounts; session = legal.1.session } in
    let play : IsPlayed asked given reply act = (accepted_as asked given reply act methods.Play legal.1.answered ok named).1 in
    let told = subst (IsSessionOf seats conn before) play.names.has legal.1.looks_up.session in
    let same = one_session seats conn before legal.0 play.session session told is in
    let does = subst (λ (s : Session). IsPlayAct asked s.mount s.state act) same play.does in
    let (seat, few, free, is_play) = subst (λ s. IsPlayAct asked session.mount s act) ready does in
    (seat, is_play, few, free)
