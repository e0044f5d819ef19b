-- The answers of a talk stand in a legal history in which its connection is open.
use Rattle.std.proofs.Common.{◌≡◌, ℕ, true, List, [], ◌∷◌, ◌++◌, inl, inr, Option, None, refl, sym, subst, arith}
use Rattle.interleaved.specs.declared.frame.Frame.{Frame as StreamFrame}
use Rattle.rtsp_message.specs.declared.request.Request.{Request}
use Rattle.rtsp_message.specs.declared.unit.Unit.{Unit as StreamUnit}
use Rattle.rtsp_message.specs.declared.unit.Unit.TheVariants.{Message, Frame}
use Rattle.session_state.specs.declared.act.Act.{Act}
use Rattle.session_state.specs.declared.act.Act.TheVariants as acts
use Rattle.session_state.specs.declared.entry.Entry.TheVariants as entries
use Rattle.session_state.specs.declared.given.Given.{Given}
use Rattle.session_state.specs.History.{History}
use Rattle.session_state.specs.Legal.{Comes, IsLegal}
use Rattle.session_state.specs.Lookups.{is_open}
use Rattle.relay_talk.specs.Exchange.{AreAnswers, AreDrawn, IsAnswer, IsExpired, IsMet, IsSettled, Standing, after_frames, heard_after, opening}

-- after this history: the connection of the talk is open, and the history is legal if that one is
pub record IsOpening (first history : History) : Type 0 where
  pub legal : IsLegal 1 first → IsLegal 1 history
  pub there : is_open 1 history ≡ true

comes_first : Comes [] 1
comes_first = record { few = omega arith; next = refl; left = omega arith }

pub opening_legal : IsLegal 1 opening
opening_legal = (tt, comes_first)

pub opens_itself : (history : History) → is_open 1 history ≡ true → IsOpening history history
opens_itself history there = record { legal = λ is. is; there = there }

module _ (first : History) where
  -- what settles an act leaves the connection open
  settled_opens : (act : Act) (history after : History) → IsSettled act history after → IsOpening first history → IsOpening first after
  settled_opens acts.None history after is opens = subst (IsOpening first) (sym is) opens
  settled_opens acts.Open history after is opens = subst (IsOpening first) (sym is) opens
  settled_opens (acts.Play mount seat) history after is opens = subst (IsOpening first) (sym is) opens
  settled_opens acts.Record history after is opens = subst (IsOpening first) (sym is) opens
  settled_opens acts.End history after is opens = subst (IsOpening first) (sym is) opens
  settled_opens (acts.Stop mount seat) history after (inl back) opens =
      subst (IsOpening first) (sym back.1) (record { legal = λ is. (opens.legal is, back.0); there = opens.there })
  settled_opens (acts.Stop mount seat) history after (inr is) opens = subst (IsOpening first) (sym is.1) opens

  pub expired_opens : (history after : History) (heard now : ℕ) → IsExpired history heard now after → IsOpening first history → IsOpening first after
  expired_opens history after heard now (inl (act, is, settled)) opens =
      settled_opens act (entries.Expire 1 heard now act ∷ history) after settled (record { legal = λ begins. (opens.legal begins, is); there = opens.there })
  expired_opens history after heard now (inr is) opens = subst (IsOpening first) (sym is.1) opens

  answer_opens : (before : History) (request : Request) (given : Given) (after : History) (text : List ℕ) → IsAnswer before request given after text → IsOpening first before → IsOpening first after
  answer_opens before request given after text (inl (reply, is, said)) opens =
      settled_opens is.act (entries.Request 1 request given reply is.act ∷ before) after is.settled
      (record { legal = λ begins. (opens.legal begins, is.is_reply); there = opens.there })
  answer_opens before request given after text (inr is) opens = subst (IsOpening first) (sym is.0) opens

  pub met_opens : (before : Standing) (request : Request) (given : Given) (after : Standing) (text : List ℕ) → IsMet before request given after text → IsOpening first before.history → IsOpening first after.history
  met_opens before request given after text met opens =
      answer_opens met.between request given after.history text met.answer (expired_opens before.history met.between _ given.now met.expired opens)

  pub answers_open : (before : Standing) (us : List StreamUnit) (given : List Given) (after : Standing) (text : List ℕ) → AreAnswers before us given after text → IsOpening first before.history → IsOpening first after.history
  answers_open before [] given after text is opens = subst (λ (s : Standing). IsOpening first s.history) (sym is.1) opens
  answers_open before (Message r ∷ us) given after text (one, later, between, begin, others, met, rest, split, all) opens =
      answers_open between us later after others rest (met_opens before r one between begin met opens)
  answers_open before (Frame frame ∷ us) given after text is opens = answers_open (after_frames (frame ∷ []) before) us given after text is opens

-- where no moment stands, none does behind frames
pub heard_none : (frames : List StreamFrame) → heard_after frames None ≡ None
heard_none [] = refl
heard_none (frame ∷ frames) = refl

pub AreDrawn-append : {D : Type 0} (gives : D → Given → D → Type 0) (old between new : D) (u v : List Given) → AreDrawn gives old u between → AreDrawn gives between v new → AreDrawn gives old (u ++ v) new
AreDrawn-append {D = D} gives old between new [] v p q = subst (λ (d : D). AreDrawn gives d v new) p q
AreDrawn-append gives old between new (one ∷ u) v (next, gave, rest) q = (next, gave, AreDrawn-append gives next between new u v rest q)

-- how a talk stands behind frames, by its parts
pub stands_so : (frames : List StreamFrame) (standing : Standing) (history : History) (heard : Option ℕ) → history ≡ standing.history → heard ≡ heard_after frames standing.heard
    → after_frames frames standing ≡ record { history = history; heard = heard }
stands_so frames standing history heard same then = cc
