use Rattle.std.proofs.Common.{◌≡◌, ℕ, List, [], Option, ap, subst, ◌∙◌}
use Rattle.std.specs.Option.{option_flatten}
use Rattle.rtsp_message.specs.declared.request.Request.{Request}
use Rattle.rtsp_message.specs.declared.reply.Reply.{Reply}
use Rattle.transport_header.specs.declared.point.Point.{Point}
use Rattle.packet_ring.specs.Views.{Passing}
use Rattle.session_state.specs.declared.act.Act.{Act}
use Rattle.session_state.specs.History.{History}
use Rattle.session_state.specs.Legal.{IsReplyOf}
use Rattle.session_lock.specs.Books.{Remembered}
use Rattle.relay_talk.specs.Exchange.{given_with}
use Rattle.relay_talk.specs.Seat.{PassGoesBack, seat_after}
use Rattle.relay_talk.proofs.Announcing.{acts_on, opens_by_announce}
use Rattle.relay_talk.proofs.Leaving.{requested}
use Rattle.relay_talk.proofs.talker.Talker.reply_to.Goals as goal

-- the reply that the book gives is one of a talk: of one seat, and without points
of_talk : (seats : ℕ) (before : History) (request : Request) (word now : ℕ) (points : List (Option Point)) (reply : Reply) (act : Act) → seats ≡ 1 → points ≡ []
    → IsReplyOf seats before 1 request (record { word = word; points = points; now = now }) reply act → IsReplyOf 1 before 1 request (given_with word now) reply act
of_talk seats before request word now points reply act one none is =
    subst (λ (s : ℕ). IsReplyOf s before 1 request (given_with word now) reply act) one
    (subst (λ (ps : List (Option Point)). IsReplyOf seats before 1 request (record { word = word; points = ps; now = now }) reply act) none is)

pub returns-clause-publishing : goal.returns-clause-publishing
returns-clause-publishing c =
    let before = c.args.self.now.book.history in
    let request = c.args.request.now in
    let answer = c.in-Ok-call.answer in
    let is = of_talk _ before request c.args.word c.args.now _ answer.reply answer.act c.requires.seats c.empty.ensures c.in-Ok-call.ensures.reply in (
      answer.act,
      is,
      acts_on answer.act _ c.args.self.now.publishing c.carry_out.new.self.publishing
          (λ opens. c.in-Ok.ensures.ring (opens_by_announce 1 before 1 request (given_with c.args.word c.args.now) answer.reply (subst (λ (act : Act). IsReplyOf 1 before 1 request (given_with c.args.word c.args.now) answer.reply act) opens is)))
          c.carry_out.ensures.publishing,
    )

pub returns-clause-seat : goal.returns-clause-seat
returns-clause-seat c =
    let answer = c.in-Ok-call.answer in (
      record {
        act = answer.act;
        is_reply = of_talk _ c.args.self.now.book.history c.args.request.now c.args.word c.args.now _ answer.reply answer.act c.requires.seats c.empty.ensures c.in-Ok-call.ensures.reply;
        settled = rw c.empty.ensures at (rw c.in-Ok-call.ensures.history at c.carry_out.ensures.settled);
      },
      c.carry_out.ensures.seat ∙ ap (λ (pass : Option (Option Passing)). seat_after answer.act (option_flatten pass) c.args.self.now.seat) c.in-Ok-call.ensures.pass,
    )

pub returns-clause-back : goal.returns-clause-back
returns-clause-back c =
    let answer = c.in-Ok-call.answer in
    let before = c.args.self.now.book in
    let called = c.in-Ok-call.ensures in (
      record {
        act = answer.act;
        is_reply = of_talk _ before.history c.args.request.now c.args.word c.args.now _ answer.reply answer.act c.requires.seats c.empty.ensures called.reply;
        settled = rw c.empty.ensures at (rw called.history at c.carry_out.ensures.settled);
      },
      _,
      c.in-Ok.ensures.offer,
      subst (λ (b : Remembered (Option Passing)). PassGoesBack answer.act c.args.self.now.seat b c.carry_out.new.self.book)
          (requested c.args.request.now (given_with c.args.word c.args.now) answer.reply answer.act _ before c.call.new.self called.seats called.cut
          (rw c.empty.ensures at called.history) called.kept called.spares)
          c.carry_out.ensures.back,
    )
