-- Which seats a legal history takes.
use Rattle.std.proofs.Common.{◌≡◌, ℕ, ◌<◌, ◌==◌, ◌&&◌, Bool, true, false, cond, if◌then◌else◌, [], ◌∷◌, inl, inr, Option, None, Some, refl, ap, sym, subst, ◌∙◌}
use Rattle.std.specs.Option.{option_map_or}
use Rattle.std.proofs.lemmas.Bool.{eqb-true}
use Rattle.rtsp_message.specs.declared.request.Request as messages
use Rattle.rtsp_message.specs.declared.reply.Reply.{Reply}
use Rattle.session_state.specs.declared.act.Act.{Act}
use Rattle.session_state.specs.declared.act.Act.TheVariants as acts
use Rattle.session_state.specs.declared.given.Given.{Given}
use Rattle.session_state.specs.declared.entry.Entry.{Entry}
use Rattle.session_state.specs.declared.entry.Entry.TheVariants.{Connect, Request, HangUp, Back, Expire}
use Rattle.session_state.specs.declared.method.Method.{Method}
use Rattle.session_state.specs.declared.method.Method.TheVariants as methods
use Rattle.session_state.specs.declared.session.Session.{Session}
use Rattle.session_state.specs.declared.session.State.{State}
use Rattle.session_state.specs.declared.session.State.TheVariants.{Ready, Playing, Recording}
use Rattle.session_state.specs.History.{History, act_of, is_play_of, last_of}
use Rattle.session_state.specs.Checks.{Asked, state_in}
use Rattle.session_state.specs.Legal.{IsAnswered, IsLegal, IsReplyOf}
use Rattle.session_state.specs.Replies.{IsAccepted, IsPlayAct, pause_act, record_act, stop_in, teardown_act}
use Rattle.session_state.specs.Streams.{is_out, takes_or_gives_back}

-- A seat that a request takes: one of the mount's, and free.
pub record IsTaken (seats : ℕ) (history : History) (mount seat : ℕ) : Type 0 where
  pub few : seat < seats
  pub free : is_out mount seat history ≡ false

module _ (mount seat : ℕ) where
  -- an act that takes no seat is none that does
  pub no_play : (act other : Act) → act ≡ other → is_play_of mount seat other ≡ false → is_play_of mount seat act ≡ true → ⊥
  no_play act other is none plays = let same = ap (is_play_of mount seat) is in absurd (cc)

  pub records : (state : Option State) → is_play_of mount seat (record_act state) ≡ false
  records None = refl
  records (Some Ready) = refl
  records (Some (Playing taken)) = refl
  records (Some Recording) = refl

  stops : (of : ℕ) (state : State) → is_play_of mount seat (stop_in of state) ≡ false
  stops of Ready = refl
  stops of (Playing taken) = refl
  stops of Recording = refl

  pub pauses : (session : Option Session) → is_play_of mount seat (pause_act session) ≡ false
  pauses None = refl
  pauses (Some session) = stops session.mount session.state

  pub tears_down : (session : Option Session) → is_play_of mount seat (teardown_act session) ≡ false
  tears_down None = refl
  tears_down (Some session) = by session.recording
    where
      by : (recording : Bool) → is_play_of mount seat (if recording then acts.End else pause_act (Some session)) ≡ false
      by true = refl
      by false = pauses (Some session)

  both : (a b : Bool) → (a && b) ≡ true → (a ≡ true) × (b ≡ true)
  both true b is = (refl, is)
  both false b is = absurd (cc)

  takes : (asked : Asked) (of : ℕ) (state : State) (act : Act) → IsPlayAct asked of state act → is_play_of mount seat act ≡ true → IsTaken asked.seats asked.history mount seat
  takes asked of Ready act (taken, few, free, is) plays =
      let tied = both (of == mount) (taken == seat) (sym (ap (is_play_of mount seat) is) ∙ plays) in
      let mount_is = eqb-true of mount tied.0 in
      let seat_is = eqb-true taken seat tied.1 in
      record { few = subst (λ s. s < asked.seats) seat_is few; free = subst (λ m. is_out m seat asked.history ≡ false) mount_is (subst (λ s. is_out of s asked.history ≡ false) seat_is free) }
  takes asked of (Playing kept) act is plays = absurd (no_play act acts.None is refl plays)
  takes asked of Recording act is plays = absurd (no_play act acts.None is refl plays)

  -- an accepted request that takes a seat is a PLAY
  pub is_play : (asked : Asked) (method : Method) (given : Given) (reply : Reply) (act : Act) → IsAccepted asked method given reply act → is_play_of mount seat act ≡ true → method ≡ methods.Play
  is_play asked methods.Options given reply act is plays = absurd (no_play act acts.None is.1 refl plays)
  is_play asked methods.GetParameter given reply act is plays = absurd (no_play act acts.None is.1 refl plays)
  is_play asked methods.Describe given reply act is plays = absurd (no_play act acts.None is.1 refl plays)
  is_play asked methods.Announce given reply act is plays = absurd (no_play act acts.Open is.1 refl plays)
  is_play asked methods.Setup given reply act is plays = absurd (no_play act acts.None is.1 refl plays)
  is_play asked methods.Play given reply act is plays = refl
  is_play asked methods.Record given reply act is plays = absurd (no_play act (record_act (state_in asked.session)) is.1 (records (state_in asked.session)) plays)
  is_play asked methods.Pause given reply act is plays = absurd (no_play act (pause_act asked.session) is.1 (pauses asked.session) plays)
  is_play asked methods.Teardown given reply act is plays = absurd (no_play act (teardown_act asked.session) is.1 (tears_down asked.session) plays)

  accepts_play : (asked : Asked) (method : Method) (given : Given) (reply : Reply) (act : Act) → IsAccepted asked method given reply act → is_play_of mount seat act ≡ true → IsTaken asked.seats asked.history mount seat
  accepts_play asked method given reply act is plays =
      let played = subst (λ m. IsAccepted asked m given reply act) (is_play asked method given reply act is plays) is in
      takes asked played.session.mount played.session.state act played.does plays

  -- the mount that a seat is taken of
  pub mount_of_act : (asked : Asked) (of : ℕ) (state : State) (act : Act) → IsPlayAct asked of state act → is_play_of mount seat act ≡ true → of ≡ mount
  mount_of_act asked of Ready act (taken, few, free, is) plays = eqb-true of mount (both (of == mount) (taken == seat) (sym (ap (is_play_of mount seat) is) ∙ plays)).0
  mount_of_act asked of (Playing kept) act is plays = absurd (no_play act acts.None is refl plays)
  mount_of_act asked of Recording act is plays = absurd (no_play act acts.None is refl plays)

  answers_play : (asked : Asked) (given : Given) (reply : Reply) (act : Act) → IsAnswered asked given reply act → is_play_of mount seat act ≡ true → IsTaken asked.seats asked.history mount seat
  answers_play asked given reply act (inl (check, fails, is, none)) plays = absurd (no_play act acts.None none refl plays)
  answers_play asked given reply act (inr (method, named, passes, is)) plays = accepts_play asked method given reply act is plays

  -- a request that takes a seat takes a free one
  pub plays_free : (seats : ℕ) (history : History) (conn : ℕ) (request : messages.Request) (given : Given) (reply : Reply) (act : Act) → IsReplyOf seats history conn request given reply act
      → is_play_of mount seat act ≡ true → IsTaken seats history mount seat
  plays_free seats history conn request given reply act is plays =
      answers_play (record { seats = seats; history = history; conn = conn; request = request; mounts = is.mounts; session = is.session }) given reply act is.answered plays

  -- whether a seat is out after an entry that moves it, or doesn't
  abbrev pub after_move : (is : Bool) → Entry → History → Bool
  after_move is entry before = option_map_or (λ one. is_play_of mount seat (act_of one)) (cond is (Some entry) (last_of (takes_or_gives_back mount seat) before)) false

  -- after an entry that takes a seat of the mount's, or gives one back, or does neither
  pub moved : (P : Type 0) (before : History) (entry : Entry) (is : Bool) → (is ≡ true → is_play_of mount seat (act_of entry) ≡ true → P) → (is_out mount seat before ≡ true → P) → after_move is entry before ≡ true → P
  moved P before entry true takes earlier out = takes refl out
  moved P before entry false takes earlier out = earlier out

  -- a seat that is out is one of the mount's
  pub out_below : (seats : ℕ) (history : History) → IsLegal seats history → is_out mount seat history ≡ true → seat < seats
  out_below seats [] legal out = absurd (cc)
  out_below seats (Connect who ∷ before) legal out = out_below seats before legal.0 out
  out_below seats (HangUp who act ∷ before) legal out = out_below seats before legal.0 out
  out_below seats (Expire who heard now act ∷ before) legal out = out_below seats before legal.0 out
  out_below seats (Request who request given reply act ∷ before) legal out =
      moved (seat < seats) before (Request who request given reply act) (is_play_of mount seat act) (λ is plays. (plays_free seats before who request given reply act legal.1 plays).few) (out_below seats before legal.0) out
  out_below seats (Back of given ∷ before) legal out = moved (seat < seats) before (Back of given) (of == mount && given == seat) (λ is plays. absurd (cc)) (out_below seats before legal.0) out
