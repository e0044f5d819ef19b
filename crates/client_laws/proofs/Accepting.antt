-- A request that passes all its checks is answered 200, and what its connection's session is known by.
use Rattle.std.proofs.Common.{◌≡◌, ℕ, true, false, is_some, inl, inr, Option, None, Some, codes, refl, ap, sym, subst, ◌∙◌}
use Rattle.rtsp_message.specs.declared.reply.Reply.{Reply}
use Rattle.rtsp_message.specs.Headers.{value_of}
use Rattle.rtsp_message.specs.Reply.{code_of}
use Rattle.transport_header.specs.Session.{identifier_in}
use Rattle.transport_header.proofs.ReadAgain.{read_again}
use Rattle.session_state.specs.declared.act.Act.{Act}
use Rattle.session_state.specs.declared.given.Given.{Given}
use Rattle.session_state.specs.declared.method.Method.{Method}
use Rattle.session_state.specs.declared.method.Method.TheVariants as methods
use Rattle.session_state.specs.declared.session.Session.{Session}
use Rattle.session_state.specs.Checks.{Asked, FailsFirst, NamesItsSession, NamesSession, NeedsSession, PassesAll, checks_of}
use Rattle.session_state.specs.History.{History}
use Rattle.session_state.specs.Legal.{IsAnswered}
use Rattle.session_state.specs.Lookups.{IsSession, IsSessionOf, has_session}
use Rattle.session_state.specs.Methods.{method_of}
use Rattle.session_state.specs.Replies.{IsAccepted, identifier_of}
use Rattle.session_state.proofs.OneReply.{fails_or_passes}

-- what is accepted is answered 200
ok_as : (asked : Asked) (method : Method) (given : Given) (reply : Reply) (act : Act) → IsAccepted asked method given reply act → code_of reply.status ≡ 200
ok_as asked methods.Options given reply act is = ap (λ (r : Reply). code_of r.status) is.0
ok_as asked methods.GetParameter given reply act is = ap (λ (r : Reply). code_of r.status) is.0
ok_as asked methods.Describe given reply act ((target, mount, names, is), none) = ap (λ (r : Reply). code_of r.status) is
ok_as asked methods.Announce given reply act is = ap (λ (r : Reply). code_of r.status) is.0
ok_as asked methods.Setup given reply act is = ap (λ (r : Reply). code_of r.status) is.0.is
ok_as asked methods.Play given reply act is = ap (λ (r : Reply). code_of r.status) is.is
ok_as asked methods.Record given reply act is = ap (λ (r : Reply). code_of r.status) is.0
ok_as asked methods.Pause given reply act is = ap (λ (r : Reply). code_of r.status) is.0
ok_as asked methods.Teardown given reply act is = ap (λ (r : Reply). code_of r.status) is.0

pub answered_ok : (asked : Asked) (given : Given) (reply : Reply) (act : Act) (method : Method) → method_of asked.request.method ≡ Some method → PassesAll asked (checks_of (Some method))
    → IsAnswered asked given reply act → code_of reply.status ≡ 200
answered_ok asked given reply act method named passes (inl (check, fails, is, none)) =
    absurd (fails_or_passes asked (checks_of (Some method)) check (subst (λ m. FailsFirst asked (checks_of m) check) named fails) passes)
answered_ok asked given reply act method named passes (inr (asks, by, others, is)) = ok_as asked asks given reply act is

-- a connection without a session has none to be asked in
pub none_kept : (seats conn : ℕ) (history : History) (session : Option Session) → IsSessionOf seats conn history session → has_session conn history ≡ false → session ≡ None
none_kept seats conn history None is none = refl
none_kept seats conn history (Some session) is none = let both : true ≡ false = sym (ap is_some is.first) ∙ none in absurd (cc)

-- and one with a session has it
pub some_kept : (seats conn : ℕ) (history : History) (session : Option Session) → IsSessionOf seats conn history session → has_session conn history ≡ true
    → (kept : Session) × (session ≡ Some kept) × IsSession seats conn history kept
some_kept seats conn history None is some = let both : false ≡ true = sym is ∙ some in absurd (cc)
some_kept seats conn history (Some session) is some = (session, refl, is)

-- without a session there is no Session field to be checked, and none is needed
pub unnamed : (asked : Asked) (method : Method) → value_of asked.request.headers (codes "Session") ≡ None → asked.session ≡ None → (NeedsSession method None → ⊥) → NamesItsSession asked method
unnamed asked method absent none needless = record {
  named = λ text is. let both : None ≡ Some text = sym absent ∙ is in absurd (cc);
  needed = λ needs. absurd (needless (subst (NeedsSession method) none needs));
}

-- the Session field that the client was told names its session
pub named_so : (asked : Asked) (method : Method) (session : Session) → asked.session ≡ Some session → value_of asked.request.headers (codes "Session") ≡ Some (identifier_of session) → NamesItsSession asked method
named_so asked method session has field = record {
  named = λ text is.
      let both : Some (identifier_of session) ≡ Some text = sym field ∙ is in
      let same : identifier_of session ≡ text = cc in
      subst (NamesSession text) (sym has) (ap identifier_in (sym same) ∙ read_again session.number session.word);
  needed = λ needs. ap is_some field;
}
