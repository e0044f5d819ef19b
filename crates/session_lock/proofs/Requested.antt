-- What a request leaves of a book.
use Rattle.std.proofs.Common.{◌≡◌, ℕ, zero, suc, ◌+◌, ◌≤◌, ◌<◌, ◌==◌, ◌&&◌, Bool, true, false, not, cond, if◌then◌else◌, List, [], ◌∷◌, is_none, is_some, IsSome, get_or, slice_get, Option, None, Some, refl, ap, sym, ◌∙◌, subst, arith}
use Rattle.std.specs.List.{AllByRecursion}
use Rattle.std.specs.Option.{option_and_then, option_map, option_map_or}
use Rattle.std.proofs.lemmas.Bool.{eq-eqb, eqb-true}
use Rattle.mounts.proofs.Firsts.{found_all, found_passes}
use Rattle.mounts.proofs.Indexed.{some_at}
use Rattle.rtsp_message.specs.declared.request.Request as messages
use Rattle.rtsp_message.specs.declared.reply.Reply.{Reply}
use Rattle.rtsp_message.specs.Reply.{code_of}
use Rattle.session_state.specs.declared.act.Act.{Act}
use Rattle.session_state.specs.declared.act.Act.TheVariants as acts
use Rattle.session_state.specs.declared.entry.Entry.{Entry}
use Rattle.session_state.specs.declared.entry.Entry.TheVariants.{Request}
use Rattle.session_state.specs.declared.given.Given.{Given}
use Rattle.session_state.specs.declared.method.Method.{Method}
use Rattle.session_state.specs.declared.method.Method.TheVariants as methods
use Rattle.session_state.specs.History.{History, accepted, accepts, accepts_from, act_of, how_many, is_play_of, last_of}
use Rattle.session_state.specs.Legal.{IsLegal, IsReplyOf}
use Rattle.session_state.specs.Lookups.{open_count}
use Rattle.session_state.specs.Methods.{is_announce, is_teardown, method_of}
use Rattle.session_state.specs.Stands.{Stands, Tables}
use Rattle.session_state.specs.Streams.{IsLive, ends_mount_of, is_out, takes_or_gives_back}
use Rattle.session_state.proofs.Announced.{owned_none}
use Rattle.session_state.proofs.Plays.{plays_free}
use Rattle.session_state.proofs.Strangers.{session_open}
use Rattle.session_lock.specs.declared.spares.MountPasses.{MountPasses}
use Rattle.session_lock.specs.Books.{HasRoom, IsKept, IsOffer}
use Rattle.session_lock.specs.Entries.{Adds, Written, method_accepted}
use Rattle.session_lock.specs.Held.{Held}
use Rattle.session_lock.specs.Requests.{CanBegin, passes_after, pass_after}
use Rattle.session_lock.specs.Spares.{AreSpare, IsSpareOf, handed_out, left_by, of_owner, out_count, pass_at, unended, without}
use Rattle.session_lock.proofs.Played.{out_counted, plays_on}
use Rattle.session_lock.proofs.Spared.{begun_so, ended_so, moved_so, unnumbered}
use Rattle.session_lock.proofs.Standing.{all_roomy, base_after, flip, next_is, none_ended, same_filter, some_after}

not_true : (b : Bool) → (b ≡ true → ⊥) → b ≡ false
not_true true never = absurd (never refl)
not_true false never = refl

-- what is said of an accepted request by its method
module _ (conn : ℕ) (request : messages.Request) (given : Given) (reply : Reply) (act : Act) where
  abbrev pub entry : Entry
  entry = Request conn request given reply act

  abbrev of_conn : Option Method → Option (ℕ × Method)
  of_conn method = option_map (λ one. (conn, one)) method

  accepted_is : (method : Option Method) → method_accepted request reply ≡ method → accepted entry ≡ of_conn method
  accepted_is method is = by (code_of reply.status == 200) ∙ ap of_conn is
    where
      by : (ok : Bool) → cond ok (of_conn (method_of request.method)) None ≡ of_conn (if ok then method_of request.method else None)
      by true = refl
      by false = refl

  pub accepts_by : (such : Method → Bool) (method : Option Method) → method_accepted request reply ≡ method → accepts such entry ≡ option_map_or such method false
  accepts_by such method is = ap (λ found. option_map_or (λ (one : ℕ × Method). such one.1) found false) (accepted_is method is) ∙ of method
    where
      of : (method : Option Method) → option_map_or (λ (one : ℕ × Method). such one.1) (of_conn method) false ≡ option_map_or such method false
      of None = refl
      of (Some method) = refl

  pub accepts_from_by : (owner : ℕ) (such : Method → Bool) (method : Option Method) → method_accepted request reply ≡ method
      → accepts_from owner such entry ≡ option_map_or (λ one. conn == owner && such one) method false
  accepts_from_by owner such method is = ap (λ found. option_map_or (λ (one : ℕ × Method). one.0 == owner && such one.1) found false) (accepted_is method is) ∙ of method
    where
      of : (method : Option Method) → option_map_or (λ (one : ℕ × Method). one.0 == owner && such one.1) (of_conn method) false ≡ option_map_or (λ one. conn == owner && such one) method false
      of None = refl
      of (Some method) = refl

  -- an accepted request has its method
  pub method_is : (method : Method) → method_accepted request reply ≡ Some method → method_of request.method ≡ Some method
  method_is method is = by (code_of reply.status == 200) is
    where
      by : (ok : Bool) → (if ok then method_of request.method else None) ≡ Some method → method_of request.method ≡ Some method
      by true is = is
      by false is = absurd (cc)

  both_true : (b : Bool) → (b && true) ≡ b
  both_true true = refl
  both_true false = refl

  both_false : (b : Bool) → (b && false) ≡ false
  both_false true = refl
  both_false false = refl

  module _ (seats : ℕ) (history : History) (is : IsReplyOf seats history conn request given reply act) where
    -- a request of another method than PLAY takes no seat
    pub plays_none : (method : Method) → (Some method ≡ Some methods.Play → ⊥) → method_accepted request reply ≡ Some method → (mount seat : ℕ) → is_play_of mount seat act ≡ false
    plays_none method other named mount seat =
        not_true (is_play_of mount seat act) (λ plays. other (sym (method_is method named) ∙ (plays_on mount seat seats history conn request given reply act is plays).method))

    pub announces_first : method_accepted request reply ≡ Some methods.Announce → (number : ℕ) → IsLive history number conn → ⊥
    announces_first named number live =
        owned_none seats history conn conn request given reply act number is (accepts_from_by conn is_announce (Some methods.Announce) named ∙ both_true (conn == conn) ∙ eq-eqb conn conn refl) live

    ends_none : (method : Option Method) → method_accepted request reply ≡ method → option_map_or is_teardown method false ≡ false → (owner : ℕ) → ends_mount_of owner entry ≡ false
    ends_none method named other owner = accepts_from_by owner is_teardown method named ∙ by method other
      where
        by : (method : Option Method) → option_map_or is_teardown method false ≡ false → option_map_or (λ one. conn == owner && is_teardown one) method false ≡ false
        by None other = refl
        by (Some one) other = ap (λ b. conn == owner && b) other ∙ both_false (conn == owner)

    out_by : (mount seat of other : ℕ) → act ≡ acts.Play mount seat → is_out of other (entry ∷ history) ≡ cond (mount == of && seat == other) true (is_out of other history)
    out_by mount seat of other plays = by (is_play_of of other act) refl ∙ ap (λ b. cond b true (is_out of other history)) (ap (is_play_of of other) plays)
      where
        by : (moves : Bool) → is_play_of of other act ≡ moves
            → option_map_or (λ one. is_play_of of other (act_of one)) (cond moves (Some entry) (last_of (takes_or_gives_back of other) history)) false ≡ cond moves true (is_out of other history)
        by true moves = moves
        by false moves = refl

    module _ {P : Type 0} where
      none_owned : (mounts : List (MountPasses P)) → AllByRecursion (IsSpareOf seats history) mounts → ((number : ℕ) → IsLive history number conn → ⊥) → of_owner conn mounts ≡ None
      none_owned [] each none = refl
      none_owned (one ∷ mounts) each none = by (one.owner == conn) refl (none_owned mounts each.1 none)
        where
          by : (same : Bool) → (one.owner == conn) ≡ same → of_owner conn mounts ≡ None → cond same (Some one) (of_owner conn mounts) ≡ None
          by true same rest = absurd (none one.number (subst (IsLive history one.number) (eqb-true one.owner conn same) each.0.live))
          by false apart rest = rest

      -- an accepted ANNOUNCE may add its mount
      pub can_begin : (held : Held P) → AreSpare seats history held.mounts → 0 < held.room → method_accepted request reply ≡ Some methods.Announce
          → CanBegin held conn (how_many (accepts is_announce) history + 1)
      can_begin held spare room named = record {
        room = room;
        number_new = unnumbered seats history entry conn [] held.mounts spare;
        owner_new = none_owned held.mounts spare.each (announces_first named);
      }

      still : (mounts : List (MountPasses P)) → accepts is_announce entry ≡ false → ((owner : ℕ) → ends_mount_of owner entry ≡ false) → AreSpare seats history mounts
          → ((mount seat : ℕ) → takes_or_gives_back mount seat entry ≡ false) → AreSpare seats (entry ∷ history) mounts
      still mounts plain on spare moves = subst (AreSpare seats (entry ∷ history)) (none_ended seats entry mounts on) (ended_so seats history entry mounts plain moves spare)

      -- after a request that announces no mount and ends none
      pub played_so : (mounts : List (MountPasses P)) (doing : Act) → act ≡ doing → accepts is_announce entry ≡ false → ((owner : ℕ) → ends_mount_of owner entry ≡ false) → AreSpare seats history mounts
          → AreSpare seats (entry ∷ history) (left_by doing mounts)
      played_so mounts (acts.Play mount seat) does plain on spare = moved_so seats history entry mount seat None mounts plain on (λ of other. out_by mount seat of other does) spare
      played_so mounts acts.None does plain on spare = still mounts plain on spare (λ of other. ap (is_play_of of other) does)
      played_so mounts acts.Open does plain on spare = still mounts plain on spare (λ of other. ap (is_play_of of other) does)
      played_so mounts (acts.Stop mount seat) does plain on spare = still mounts plain on spare (λ of other. ap (is_play_of of other) does)
      played_so mounts acts.Record does plain on spare = still mounts plain on spare (λ of other. ap (is_play_of of other) does)
      played_so mounts acts.End does plain on spare = still mounts plain on spare (λ of other. ap (is_play_of of other) does)

      ended_with : (mounts : List (MountPasses P)) → method_accepted request reply ≡ Some methods.Teardown → without conn mounts ≡ unended entry mounts
      ended_with mounts named =
          same_filter (λ (one : MountPasses P). not (one.owner == conn)) (λ one. not (ends_mount_of one.owner entry)) mounts
          (λ one. ap not (flip one.owner conn ∙ sym (accepts_from_by one.owner is_teardown (Some methods.Teardown) named ∙ both_true (conn == one.owner))))

      other_so : (mounts : List (MountPasses P)) (method : Option Method) → method_accepted request reply ≡ method → option_map_or is_announce method false ≡ false
          → option_map_or is_teardown method false ≡ false → AreSpare seats history mounts → AreSpare seats (entry ∷ history) (left_by act mounts)
      other_so mounts method named no_announce no_teardown spare =
          played_so mounts act refl (accepts_by is_announce method named ∙ no_announce) (ends_none method named no_teardown) spare

      -- after any request
      pub requested_so : (mounts : List (MountPasses P)) (offer : Option (List P)) (method : Option Method) → method_accepted request reply ≡ method → IsLegal seats history
          → IsOffer seats request.method offer → AreSpare seats history mounts
          → AreSpare seats (entry ∷ history) (passes_after conn (how_many (accepts is_announce) history + 1) method act offer mounts)
      requested_so mounts offer None named legal offered spare = other_so mounts None named refl refl spare
      requested_so mounts None (Some methods.Announce) named legal offered spare = absurd (offered (method_is methods.Announce named))
      requested_so mounts (Some offer) (Some methods.Announce) named legal offered spare =
          begun_so seats history entry conn offer mounts (accepts_by is_announce (Some methods.Announce) named)
          (λ owner. accepts_from_by owner is_announce (Some methods.Announce) named ∙ both_true (conn == owner))
          (ends_none (Some methods.Announce) named refl)
          (plays_none methods.Announce (λ e. absurd (cc)) named)
          (λ seat. not_true (is_out (how_many (accepts is_announce) history + 1) seat history) (λ out.
          let most = out_counted (how_many (accepts is_announce) history + 1) seat seats history legal out in absurd (omega (arith, most))))
          offered.1 spare
      requested_so mounts offer (Some methods.Teardown) named legal offered spare =
          subst (AreSpare seats (entry ∷ history)) (sym (ended_with mounts named))
          (ended_so seats history entry mounts (accepts_by is_announce (Some methods.Teardown) named) (plays_none methods.Teardown (λ e. absurd (cc)) named) spare)
      requested_so mounts offer (Some methods.Options) named legal offered spare = other_so mounts (Some methods.Options) named refl refl spare
      requested_so mounts offer (Some methods.Describe) named legal offered spare = other_so mounts (Some methods.Describe) named refl refl spare
      requested_so mounts offer (Some methods.Setup) named legal offered spare = other_so mounts (Some methods.Setup) named refl refl spare
      requested_so mounts offer (Some methods.Play) named legal offered spare = other_so mounts (Some methods.Play) named refl refl spare
      requested_so mounts offer (Some methods.Pause) named legal offered spare = other_so mounts (Some methods.Pause) named refl refl spare
      requested_so mounts offer (Some methods.Record) named legal offered spare = other_so mounts (Some methods.Record) named refl refl spare
      requested_so mounts offer (Some methods.GetParameter) named legal offered spare = other_so mounts (Some methods.GetParameter) named refl refl spare

      no_pass : (mounts : List (MountPasses P)) (doing : Act) → act ≡ doing → ((mount seat : ℕ) → is_play_of mount seat act ≡ false) → handed_out doing mounts ≡ None
      no_pass mounts (acts.Play mount seat) does none =
          let is = sym (ap (is_play_of mount seat) does) ∙ none mount seat in
          let self = ap (λ b. b && seat == seat) (eq-eqb mount mount refl) ∙ eq-eqb seat seat refl in
          absurd (cc)
      no_pass mounts acts.None does none = refl
      no_pass mounts acts.Open does none = refl
      no_pass mounts (acts.Stop mount seat) does none = refl
      no_pass mounts acts.Record does none = refl
      no_pass mounts acts.End does none = refl

      -- the pass goes by the act
      pub pass_so : (mounts : List (MountPasses P)) (method : Option Method) → method_accepted request reply ≡ method → pass_after method act mounts ≡ handed_out act mounts
      pass_so mounts None named = refl
      pass_so mounts (Some methods.Announce) named = sym (no_pass mounts act refl (plays_none methods.Announce (λ e. absurd (cc)) named))
      pass_so mounts (Some methods.Teardown) named = sym (no_pass mounts act refl (plays_none methods.Teardown (λ e. absurd (cc)) named))
      pass_so mounts (Some methods.Options) named = refl
      pass_so mounts (Some methods.Describe) named = refl
      pass_so mounts (Some methods.Setup) named = refl
      pass_so mounts (Some methods.Play) named = refl
      pass_so mounts (Some methods.Pause) named = refl
      pass_so mounts (Some methods.Record) named = refl
      pass_so mounts (Some methods.GetParameter) named = refl

      -- PLAY gets the pass of its seat
      pub pass_comes : (mounts : List (MountPasses P)) (mount seat : ℕ) → AreSpare seats history mounts → act ≡ acts.Play mount seat → IsSome (pass_at mount seat mounts)
      pass_comes mounts mount seat spare does =
          let plays = ap (is_play_of mount seat) does ∙ ap (λ b. b && seat == seat) (eq-eqb mount mount refl) ∙ eq-eqb seat seat refl in
          let on = plays_on mount seat seats history conn request given reply act is plays in
          let taken = plays_free mount seat seats history conn request given reply act is plays in
          let found = spare.all mount on.owner on.live in
          let one = found_all (IsSpareOf seats history) (λ (one : MountPasses P). one.number == mount) mounts found.0 spare.each found.1 in
          let number = eqb-true found.0.number mount (found_passes (λ (one : MountPasses P). one.number == mount) mounts found.0 found.1) in
          let few = taken.few in
          let at = some_at found.0.passes seat (subst (λ n. seat < n) (sym one.seats_are) few) in
          let free = one.out seat at.0 at.1 ∙ ap (λ n. is_out n seat history) number ∙ taken.free in
          ap (λ m. is_some (option_and_then (λ (one : MountPasses P). get_or one.passes seat None) m)) found.1 ∙ here found.0.passes seat at.0 at.1 free
        where
          here : (passes : List (Option P)) (seat : ℕ) (place : Option P) → slice_get passes seat ≡ Some place → is_none place ≡ false → is_some (get_or passes seat None) ≡ true
          here [] seat place there free = absurd (cc)
          here (x ∷ passes) zero place there free = some x (ap is_none (same x place there) ∙ free)
            where
              same : (a b : Option P) → Some a ≡ Some b → a ≡ b
              same a b e = cc

              some : (a : Option P) → is_none a ≡ false → is_some a ≡ true
              some None there = absurd (cc)
              some (Some pass) there = refl
          here (x ∷ passes) (suc seat) place there free = here passes seat place there free

module _ {P : Type 0} (seats : ℕ) (tables after : Tables) (written later : Written) (held left : Held P) (kept : IsKept seats tables written held) (same : after.mounts.seats ≡ tables.mounts.seats) where
  -- What a request leaves.
  pub requested : (due : Bool) (next : Option Tables) (conn : ℕ) (request : messages.Request) (given : Given) (reply : Reply) (act : Act) (offer : Option (List P)) → next ≡ next_is due tables
      → IsOffer seats request.method offer
      → IsReplyOf tables.mounts.seats written.history conn request given reply act × Stands (Request conn request given reply act ∷ written.history) after
      → Adds next (Request conn request given reply act) written later
      → left.mounts ≡ passes_after conn (how_many (accepts is_announce) written.history + 1) (method_accepted request reply) act offer held.mounts
      → later.kept ≤ later.cut → open_count written.history + open_count written.history + out_count left.mounts ≤ later.room → IsKept seats after later left
  requested due next conn request given reply act offer of offered replied adds settled few enough =
      let is = adds.history in
      let follows = subst (λ n. IsReplyOf n written.history conn request given reply act) kept.seats_are replied.0 in
      record {
        legal = subst (IsLegal seats) (sym is) (kept.legal, follows);
        stands = subst (λ h. Stands h after) (sym is) replied.1;
        seats_are = same ∙ kept.seats_are;
        base = base_after seats tables after written later held kept same due next (Request conn request given reply act) of adds;
        some = some_after seats tables after written later held kept same next (Request conn request given reply act) adds;
        bounded = omega (arith, few);
        spare = subst (λ h. AreSpare seats h left.mounts) (sym is) (subst (AreSpare seats (Request conn request given reply act ∷ written.history)) (sym settled)
            (requested_so conn request given reply act seats written.history follows held.mounts offer (method_accepted request reply) refl kept.legal offered kept.spare));
        room = subst (λ h. HasRoom h (out_count left.mounts) later.room) (sym is)
            (all_roomy seats written.history (Request conn request given reply act) (out_count left.mounts) later.room kept.legal
            (λ other has. session_open seats (Request conn request given reply act ∷ written.history) other (kept.legal, follows) has) enough);
      }

-- the entry that is written down, of what was copied
pub entered : (written : Entry) (conn : ℕ) (copied request : messages.Request) (same given : Given) (told reply : Reply) (act : Act) → written ≡ Request conn copied same told act → copied ≡ request
    → same ≡ given → told ≡ reply → written ≡ Request conn request given reply act
entered written conn copied request same given told reply act is of handed reply_is =
    is ∙ ap (λ r. Request conn r same told act) of ∙ ap (λ g. Request conn request g told act) handed ∙ ap (λ r. Request conn request given r act) reply_is

pub settled_so : {P : Type 0} (left shown mounts : List (MountPasses P)) (number : ℕ) (method : Option Method) (conn : ℕ) (request : messages.Request) (reply : Reply) (act : Act) (offer : Option (List P)) (history : History)
    → left ≡ passes_after conn number method act offer shown → number ≡ how_many (accepts is_announce) history + 1 → method ≡ method_accepted request reply → shown ≡ mounts
    → left ≡ passes_after conn (how_many (accepts is_announce) history + 1) (method_accepted request reply) act offer mounts
settled_so left shown mounts number method conn request reply act offer history is number_is method_is shown_is =
    is ∙ ap (λ n. passes_after conn n method act offer shown) number_is ∙ ap (λ m. passes_after conn (how_many (accepts is_announce) history + 1) m act offer shown) method_is
    ∙ ap (passes_after conn (how_many (accepts is_announce) history + 1) (method_accepted request reply) act offer) shown_is
