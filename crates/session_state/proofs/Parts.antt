-- What a connection's session goes by after one entry more.
use Rattle.std.proofs.Common.{◌≡◌, ℕ, ◌==◌, ◌&&◌, Bool, true, false, cond, List, [], ◌∷◌, reverse, is_some, Option, None, Some, refl, ap, sym, subst, ◌∙◌}
use Rattle.std.specs.List.{filter, find}
use Rattle.std.specs.Option.{option_map, option_map_or, option_or}
use Rattle.std.proofs.lemmas.Bool.{cond-false}
use Rattle.std.proofs.lemmas.List.{reverse-append}
use Rattle.std.proofs.lemmas.List.Folds.{find-append}
use Rattle.rtsp_message.specs.declared.request.Request as messages
use Rattle.rtsp_message.specs.declared.reply.Reply.{Reply}
use Rattle.rtsp_message.specs.Reply.{code_of}
use Rattle.session_state.specs.declared.act.Act.{Act}
use Rattle.session_state.specs.declared.given.Given.{Given}
use Rattle.session_state.specs.declared.entry.Entry.{Entry}
use Rattle.session_state.specs.declared.entry.Entry.TheVariants.{Request}
use Rattle.transport_header.specs.Tracks.{pair_at}
use Rattle.session_state.specs.declared.method.Method.{Method}
use Rattle.session_state.specs.declared.session.Session.{Session}
use Rattle.session_state.specs.Methods.{is_setup, method_of, moves}
use Rattle.session_state.specs.History.{History, Moment, accepts_from, since_last}
use Rattle.session_state.specs.Lookups.{AreChannels, IsSessionOf, beginning, session_part, state_of}
use Rattle.session_state.specs.Streams.{ends_of}

-- an entry that neither moves a session nor ends it leaves it as it was
pub part_still : (conn : ℕ) (entry : Entry) (history : History) → ends_of conn entry ≡ false → accepts_from conn moves entry ≡ false
    → session_part conn (entry ∷ history) ≡ session_part conn history
part_still conn entry history no_end no_move =
    let moment : Moment = record { entry = entry; before = history } in
    let rest : List Moment = since_last (ends_of conn) history in
    let mine : Moment → Bool = λ one. accepts_from conn moves one.entry in
    ap (λ ends. filter mine (cond ends [] (moment ∷ rest))) no_end ∙ cond-false (mine moment) (moment ∷ filter mine rest) (filter mine rest) no_move

-- an entry that ends a session leaves nothing of it
pub part_ends : (conn : ℕ) (entry : Entry) (history : History) → ends_of conn entry ≡ true → session_part conn (entry ∷ history) ≡ []
part_ends conn entry history ends =
    let rest : List Moment = since_last (ends_of conn) history in
    ap (λ is. filter (λ one. accepts_from conn moves one.entry) (cond is [] (record { entry = entry; before = history } ∷ rest))) ends

-- the request of another connection is none of this one's
pub of_another : (who conn : ℕ) (such : Method → Bool) (request : messages.Request) (given : Given) (reply : Reply) (act : Act) → (who == conn) ≡ false
    → accepts_from conn such (Request who request given reply act) ≡ false
of_another who conn such request given reply act other = by (code_of reply.status == 200) (method_of request.method)
  where
    by : (ok : Bool) (method : Option Method) → option_map_or (λ (one : ℕ × Method). one.0 == conn && such one.1) (cond ok (option_map (λ one. (who, one)) method) None) false ≡ false
    by true None = refl
    by true (Some method) = ap (λ is. is && such method) other
    by false method = refl

-- a session is as it was where what it goes by is
pub session_still : (seats conn : ℕ) (history later : History) (session : Option Session) → session_part conn later ≡ session_part conn history
    → IsSessionOf seats conn history session → IsSessionOf seats conn later session
session_still seats conn history later None same none = ap (λ part. is_some (beginning conn part)) same ∙ none
session_still seats conn history later (Some session) same is = record {
  begin = is.begin;
  first = ap (beginning conn) same ∙ is.first;
  number = is.number;
  word = is.word;
  mount = is.mount;
  track = is.track;
  set_up = is.set_up;
  mount_is = is.mount_is;
  name_is = is.name_is;
  recording = is.recording;
  tracks = is.tracks;
  channels = λ of. subst (λ part. AreChannels seats conn part of (pair_at session.channels of)) (sym same) (is.channels of);
  state = ap state_of same ∙ is.state;
}

-- with one moment more, the first SETUP is the one that was first, else this one
pub beginning_on : (conn : ℕ) (here : Moment) (moments : List Moment)
    → beginning conn (here ∷ moments) ≡ option_or (beginning conn moments) (cond (accepts_from conn is_setup here.entry) (Some here) None)
beginning_on conn here moments =
    let setup : Moment → Bool = λ one. accepts_from conn is_setup one.entry in
    ap (find setup) (reverse-append (here ∷ []) moments) ∙ find-append setup (reverse moments) (here ∷ [])
