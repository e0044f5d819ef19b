-- What an accepted ANNOUNCE leaves of the mounts.
use Rattle.std.proofs.Common.{◌≡◌, ℕ, zero, suc, ◌+◌, ◌≤◌, ◌==◌, ◌&&◌, Bool, true, false, cond, List, [], ◌∷◌, replicate, slice_get, ◌⊎◌, inl, inr, IsSome, Option, None, Some, refl, ap, sym, subst, ◌∙◌, arith}
use Rattle.std.specs.List.{AllByRecursion}
use Rattle.std.specs.Option.{option_map_or}
use Rattle.std.proofs.lemmas.Bool.{eqb-true}
use Rattle.std.proofs.lemmas.List.{length-replicate}
use Rattle.rtsp_message.specs.declared.request.Request as messages
use Rattle.rtsp_message.specs.declared.reply.Reply.{Reply}
use Rattle.sdp.specs.declared.sections.Sections.{Sections}
use Rattle.sdp.specs.Readings.{Reads}
use Rattle.sdp.proofs.Goods.{push_all}
use Rattle.mounts.specs.declared.mount.Mount.{Mount}
use Rattle.mounts.specs.declared.target.Target.{Target}
use Rattle.mounts.specs.declared.uri.Uri.TheVariants.{At}
use Rattle.mounts.specs.Mounts.{IsSound, Table, announced, new_mount, numbered}
use Rattle.mounts.specs.Uri.{IsUri}
use Rattle.mounts.proofs.Firsts.{found_all, found_passes}
use Rattle.mounts.proofs.Lookups.{numbered-announced, numbered-announced_next}
use Rattle.session_state.specs.declared.act.Act.{Act}
use Rattle.session_state.specs.declared.act.Act.TheVariants as acts
use Rattle.session_state.specs.declared.given.Given.{Given}
use Rattle.session_state.specs.declared.entry.Entry.{Entry}
use Rattle.session_state.specs.declared.entry.Entry.TheVariants.{Connect, Request, HangUp, Back, Expire}
use Rattle.session_state.specs.declared.method.Method.TheVariants as methods
use Rattle.session_state.specs.declared.session.Session.{Session}
use Rattle.session_state.specs.Methods.{is_announce}
use Rattle.session_state.specs.History.{History, accepts, act_of, how_many, is_play_of, last_of}
use Rattle.session_state.specs.Checks.{Asked, LooksUp, PassesAll, checks_of}
use Rattle.session_state.specs.Legal.{IsAnswered, IsLegal, IsReplyOf}
use Rattle.session_state.specs.Replies.{IsAccepted}
use Rattle.session_state.specs.Streams.{AreLive, IsLive, IsLiveMount, is_out, takes_or_gives_back}
use Rattle.session_state.proofs.AcceptedEntries.{IsAcceptedEntry, ends_none, of_conn, of_method, of_own}
use Rattle.session_state.proofs.Living.{out_still, lives_on}
use Rattle.session_state.proofs.Nth.{counts_more, within}
use Rattle.session_state.proofs.Owners.{IsNewest, newest_or_earlier}
use Rattle.session_state.proofs.Plays.{is_play, mount_of_act}

-- a mount that lives has the number of an ANNOUNCE
pub lives_below : (history : History) (number owner : ℕ) → IsLive history number owner → number ≤ how_many (accepts is_announce) history
lives_below history number owner live =
    let count = how_many (accepts is_announce) in
    let here = live.moment.entry ∷ live.moment.before in
    let one : count here ≡ suc (count live.moment.before) = ap (λ b. cond b (suc (count live.moment.before)) (count live.moment.before)) live.nth.is in
    let counted = live.nth.counted in
    let later = within count (counts_more (accepts is_announce)) live.later here in
    let all = ap count live.nth.cut in
    omega (arith, one, counted, later, all)

module _ (asked : Asked) (looks : LooksUp asked) where
  live_below : (number : ℕ) (found : Option Mount) → numbered number asked.mounts ≡ found → IsSome found → number ≤ how_many (accepts is_announce) asked.history
  live_below number None at some = absurd (cc)
  live_below number (Some found) at some =
      let lives = found_all (IsLiveMount asked.seats asked.history) (λ one. one.number == number) asked.mounts found looks.mounts.each at in
      let same = eqb-true found.number number (found_passes (λ one. one.number == number) asked.mounts found at) in
      subst (λ n. n ≤ how_many (accepts is_announce) asked.history) same (lives_below asked.history found.number found.owner lives.live)

  played_below : (given : Given) (reply : Reply) (act : Act) (mount seat : ℕ) → IsAccepted asked methods.Play given reply act → PassesAll asked (checks_of (Some methods.Play)) → is_play_of mount seat act ≡ true
      → mount ≤ how_many (accepts is_announce) asked.history
  played_below given reply act mount seat so passes plays =
      let names = passes.1.1.1.1.1.1.0 in
      let has = names.3.has in
      let also = so.names.has in
      let same : names.0 ≡ so.session = cc in
      let of = mount_of_act mount seat asked so.session.mount so.session.state act so.does plays in
      subst (λ n. n ≤ how_many (accepts is_announce) asked.history) of (live_below so.session.mount (numbered so.session.mount asked.mounts) refl
      (subst (λ (s : Session). IsSome (numbered s.mount asked.mounts)) same names.4))

  answered_below : (given : Given) (reply : Reply) (act : Act) (mount seat : ℕ) → IsAnswered asked given reply act → is_play_of mount seat act ≡ true → mount ≤ how_many (accepts is_announce) asked.history
  answered_below given reply act mount seat (inl (check, fails, refused, none)) plays = let so = ap (is_play_of mount seat) none in absurd (cc)
  answered_below given reply act mount seat (inr (method, named, passes, so)) plays =
      let method_is = is_play mount seat asked method given reply act so plays in
      played_below given reply act mount seat (subst (λ m. IsAccepted asked m given reply act) method_is so) (subst (λ m. PassesAll asked (checks_of (Some m))) method_is passes) plays

-- a seat is taken of a mount that was announced
play_below : (seats : ℕ) (history : History) (conn : ℕ) (request : messages.Request) (given : Given) (reply : Reply) (act : Act) (mount seat : ℕ) → IsReplyOf seats history conn request given reply act
    → is_play_of mount seat act ≡ true → mount ≤ how_many (accepts is_announce) history
play_below seats history conn request given reply act mount seat is plays =
    answered_below (record { seats = seats; history = history; conn = conn; request = request; mounts = is.mounts; session = is.session }) is.looks_up given reply act mount seat is.answered plays

-- a seat that is out is of a mount that was announced
out_made : (mount seat seats : ℕ) (history : History) → IsLegal seats history → is_out mount seat history ≡ true → mount ≤ how_many (accepts is_announce) history
out_made mount seat seats [] legal out = absurd (cc)
out_made mount seat seats (Connect who ∷ before) legal out = out_made mount seat seats before legal.0 out
out_made mount seat seats (HangUp who act ∷ before) legal out = out_made mount seat seats before legal.0 out
out_made mount seat seats (Expire who heard now act ∷ before) legal out = out_made mount seat seats before legal.0 out
out_made mount seat seats (Request who request given reply act ∷ before) legal out =
    let more = counts_more (accepts is_announce) (Request who request given reply act) before in
    let low = by (is_play_of mount seat act) refl out (out_made mount seat seats before legal.0) in
    omega (arith, more, low)
  where
    by : (is : Bool) → is_play_of mount seat act ≡ is
        → option_map_or (λ one. is_play_of mount seat (act_of one)) (cond is (Some (Request who request given reply act)) (last_of (takes_or_gives_back mount seat) before)) false ≡ true
        → (is_out mount seat before ≡ true → mount ≤ how_many (accepts is_announce) before) → mount ≤ how_many (accepts is_announce) before
    by true plays taken earlier = play_below seats before who request given reply act mount seat legal.1 plays
    by false plays taken earlier = earlier taken
out_made mount seat seats (Back of given ∷ before) legal out = by (of == mount && given == seat) out (out_made mount seat seats before legal.0)
  where
    by : (is : Bool) → option_map_or (λ one. is_play_of mount seat (act_of one)) (cond is (Some (Back of given)) (last_of (takes_or_gives_back mount seat) before)) false ≡ true
        → (is_out mount seat before ≡ true → mount ≤ how_many (accepts is_announce) before) → mount ≤ how_many (accepts is_announce) before
    by true given_back earlier = absurd (cc)
    by false still earlier = earlier still

-- what is read of many is that
one_of_many : (count place : ℕ) (value is : Bool) → slice_get (replicate count value) place ≡ Some is → is ≡ value
one_of_many zero place value is at = absurd (cc)
one_of_many (suc count) zero value is at = cc
one_of_many (suc count) (suc place) value is at = one_of_many count place value is at

module _ (history : History) (table : Table) (conn : ℕ) (request : messages.Request) (given : Given) (reply : Reply) (legal : IsLegal table.seats history)
    (is : IsAcceptedEntry conn methods.Announce (Request conn request given reply acts.Open)) (target : Target) (description : Sections)
    (uri : IsUri request.uri (At target)) (body : Reads request.body description) (next : table.next ≡ how_many (accepts is_announce) history + 1) where
  abbrev entry : Entry
  entry = Request conn request given reply acts.Open

  old_lives : (mount : Mount) → IsLiveMount table.seats history mount → IsLiveMount table.seats (entry ∷ history) mount
  unfolding lives_on
  old_lives mount so = record {
    live = lives_on history entry mount.number mount.owner so.live (ends_none conn methods.Announce entry is mount.owner refl);
    announced = so.announced;
    seats_are = so.seats_are;
    out = λ seat out there. so.out seat out there ∙ sym (out_still history entry mount.number seat refl);
  }

  not_out : (seat : ℕ) → is_out table.next seat history ≡ false
  not_out seat = by (is_out table.next seat history) refl
    where
      by : (out : Bool) → is_out table.next seat history ≡ out → out ≡ false
      by false is_so = refl
      by true is_so = let low = out_made table.next seat table.seats history legal is_so in absurd (omega (arith, low, next))

  new_lives : IsLiveMount table.seats (entry ∷ history) (new_mount table conn target.path description)
  new_lives = record {
    live = record {
      later = [];
      moment = record { entry = entry; before = history };
      nth = record { cut = refl; is = of_method conn methods.Announce entry is is_announce; counted = next };
      owned = of_own conn methods.Announce entry is is_announce;
      unended = tt;
    };
    announced = record { asks = record { request = request; given = given; reply = reply; act = acts.Open; is = refl }; target = target; uri = uri; path = refl; body = body };
    seats_are = length-replicate table.seats false;
    out = λ seat out there. one_of_many table.seats seat false out there ∙ sym (out_still history entry table.next seat refl ∙ not_out seat);
  }

  olds : (mounts : List Mount) → AllByRecursion (IsLiveMount table.seats history) mounts → AllByRecursion (IsLiveMount table.seats (entry ∷ history)) mounts
  olds [] each = tt
  olds (mount ∷ mounts) each = (old_lives mount each.0, olds mounts each.1)

  pub mount_made : IsSound table → IsSound (announced table conn target.path description) → AreLive table.seats history table.mounts
      → AreLive table.seats (Request conn request given reply acts.Open ∷ history) (announced table conn target.path description).mounts
  mount_made sound grown are = record {
    each = push_all (IsLiveMount table.seats (entry ∷ history)) table.mounts (new_mount table conn target.path description) (olds table.mounts are.each) new_lives;
    all = λ number owner live. by number owner (newest_or_earlier history entry number owner live);
    once = grown.numbers;
  }
    where
      by : (number owner : ℕ) → IsNewest history entry number owner ⊎ IsLive history number owner
          → (mount : Mount) × (numbered number (announced table conn target.path description).mounts ≡ Some mount) × (mount.owner ≡ owner)
      by number owner (inl newest) =
          (new_mount table conn target.path description, numbered-announced_next table conn target.path description number sound (newest.counted ∙ sym next), mine (conn == owner) refl (sym (of_conn conn methods.Announce entry is owner is_announce) ∙ newest.owned))
        where
          mine : (same : Bool) → (conn == owner) ≡ same → (same && true) ≡ true → conn ≡ owner
          mine true same so = eqb-true conn owner same
          mine false same so = absurd (cc)
      by number owner (inr live) =
          let found = are.all number owner live in
          let low = lives_below history number owner live in
          (found.0, numbered-announced table conn target.path description number (λ e. absurd (omega (arith, e, low, next))) ∙ found.1, found.2)
