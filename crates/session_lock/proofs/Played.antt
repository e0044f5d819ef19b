-- What a legal history says of a request that takes a seat: it is a PLAY, and its mount lives.
use Rattle.std.proofs.Common.{◌≡◌, ℕ, suc, ◌≤◌, ◌==◌, ◌&&◌, Bool, true, false, cond, [], ◌∷◌, inl, inr, is_some, Option, None, Some, refl, ap, sym, subst, ◌∙◌, arith}
use Rattle.std.proofs.lemmas.Bool.{eqb-true}
use Rattle.rtsp_message.specs.declared.request.Request as messages
use Rattle.rtsp_message.specs.declared.reply.Reply.{Reply}
use Rattle.mounts.specs.declared.mount.Mount.{Mount}
use Rattle.mounts.specs.Mounts.{numbered}
use Rattle.mounts.proofs.Firsts.{found_all, found_passes}
use Rattle.session_state.specs.declared.act.Act.{Act}
use Rattle.session_state.specs.declared.act.Act.TheVariants as acts
use Rattle.session_state.specs.declared.given.Given.{Given}
use Rattle.session_state.specs.declared.entry.Entry.{Entry}
use Rattle.session_state.specs.declared.entry.Entry.TheVariants.{Connect, Request, HangUp, Back, Expire}
use Rattle.session_state.specs.declared.method.Method.TheVariants as methods
use Rattle.session_state.specs.declared.session.Session.{Session}
use Rattle.session_state.specs.Methods.{is_announce, method_of}
use Rattle.session_state.specs.History.{History, accepts, how_many, is_play_of}
use Rattle.session_state.specs.Checks.{Asked, PassesAll, checks_of}
use Rattle.session_state.specs.Legal.{IsAnswered, IsLegal, IsReplyOf}
use Rattle.session_state.specs.Replies.{IsAccepted}
use Rattle.session_state.specs.Streams.{IsLive, IsLiveMount, is_out}
use Rattle.session_state.proofs.Plays.{is_play, mount_of_act, moved, no_play}
use Rattle.session_lock.proofs.Spared.{live_counted}

module _ (mount seat : ℕ) where
  -- A PLAY that takes a seat of a mount that lives.
  pub record IsPlaying (asked : Asked) (act : Act) : Type 0 where
    pub method : method_of asked.request.method ≡ Some methods.Play
    pub one : Mount
    pub there : numbered mount asked.mounts ≡ Some one

  some_of : (found : Option Mount) → is_some found ≡ true → (one : Mount) × (found ≡ Some one)
  some_of None is = absurd (cc)
  some_of (Some one) is = (one, refl)

  accepted_play : (asked : Asked) (given : Given) (reply : Reply) (act : Act) → method_of asked.request.method ≡ Some methods.Play → PassesAll asked (checks_of (Some methods.Play))
      → IsAccepted asked methods.Play given reply act → is_play_of mount seat act ≡ true → IsPlaying asked act
  accepted_play asked given reply act named passes is plays =
      let names = passes.1.1.1.1.1.1.0 in
      let same : Some names.0 ≡ Some is.session = sym names.3.has ∙ is.names.has in
      let number : names.0.mount ≡ mount = number_same names.0 is.session same ∙ mount_of_act mount seat asked is.session.mount is.session.state act is.does plays in
      let found = some_of (numbered names.0.mount asked.mounts) names.4 in
      record { method = named; one = found.0; there = ap (λ n. numbered n asked.mounts) (sym number) ∙ found.1 }
    where
      number_same : (a b : Session) → Some a ≡ Some b → a.mount ≡ b.mount
      number_same a b e = let same : a ≡ b = cc in ap (λ (s : Session). s.mount) same

  answered_play : (asked : Asked) (given : Given) (reply : Reply) (act : Act) → IsAnswered asked given reply act → is_play_of mount seat act ≡ true → IsPlaying asked act
  answered_play asked given reply act (inl (check, fails, is, none)) plays = absurd (no_play mount seat act acts.None none refl plays)
  answered_play asked given reply act (inr (method, named, passes, is)) plays =
      let play = is_play mount seat asked method given reply act is plays in
      accepted_play asked given reply act (subst (λ m. method_of asked.request.method ≡ Some m) play named) (subst (λ m. PassesAll asked (checks_of (Some m))) play passes)
      (subst (λ m. IsAccepted asked m given reply act) play is) plays

  -- A request that takes a seat is a PLAY on a mount that lives.
  pub record PlaysOn (history : History) (request : messages.Request) : Type 0 where
    pub method : method_of request.method ≡ Some methods.Play
    pub owner : ℕ
    pub live : IsLive history mount owner

  pub plays_on : (seats : ℕ) (history : History) (conn : ℕ) (request : messages.Request) (given : Given) (reply : Reply) (act : Act) → IsReplyOf seats history conn request given reply act
      → is_play_of mount seat act ≡ true → PlaysOn history request
  plays_on seats history conn request given reply act is plays =
      let playing = answered_play (record { seats = seats; history = history; conn = conn; request = request; mounts = is.mounts; session = is.session }) given reply act is.answered plays in
      let lives = found_all (IsLiveMount seats history) (λ one. one.number == mount) is.mounts playing.one is.looks_up.mounts.each playing.there in
      let number = eqb-true playing.one.number mount (found_passes (λ one. one.number == mount) is.mounts playing.one playing.there) in
      record { method = playing.method; owner = playing.one.owner; live = subst (λ n. IsLive history n playing.one.owner) number lives.live }

  counts_more : (entry : Entry) (before : History) → how_many (accepts is_announce) before ≤ how_many (accepts is_announce) (entry ∷ before)
  counts_more entry before = by (accepts is_announce entry)
    where
      by : (is : Bool) → how_many (accepts is_announce) before ≤ cond is (suc (how_many (accepts is_announce) before)) (how_many (accepts is_announce) before)
      by true = omega arith
      by false = omega arith

  -- a seat that is out is of a mount that was announced
  pub out_counted : (seats : ℕ) (history : History) → IsLegal seats history → is_out mount seat history ≡ true → mount ≤ how_many (accepts is_announce) history
  out_counted seats [] legal out = absurd (cc)
  out_counted seats (Connect who ∷ before) legal out = out_counted seats before legal.0 out
  out_counted seats (HangUp who act ∷ before) legal out = out_counted seats before legal.0 out
  out_counted seats (Expire who heard now act ∷ before) legal out = out_counted seats before legal.0 out
  out_counted seats (Request who request given reply act ∷ before) legal out =
      let more = counts_more (Request who request given reply act) before in
      moved mount seat (mount ≤ how_many (accepts is_announce) (Request who request given reply act ∷ before)) before (Request who request given reply act) (is_play_of mount seat act)
      (λ is plays. let on = plays_on seats before who request given reply act legal.1 plays in let most = live_counted before mount on.owner on.live in omega (arith, most, more))
      (λ was. let so = out_counted seats before legal.0 was in omega (arith, so, more)) out
  out_counted seats (Back of given ∷ before) legal out =
      moved mount seat (mount ≤ how_many (accepts is_announce) before) before (Back of given) (of == mount && given == seat) (λ is plays. absurd (cc)) (out_counted seats before legal.0) out
