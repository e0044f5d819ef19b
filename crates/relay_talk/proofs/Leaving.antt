-- The pass of a seat that is left goes back to the book.
use Rattle.std.proofs.Common.{◌≡◌, ◌+◌, ◌∷◌, ℕ, List, inl, Option, subst}
use Rattle.rtsp_message.specs.declared.request.Request.{Request}
use Rattle.rtsp_message.specs.declared.reply.Reply.{Reply}
use Rattle.packet_ring.specs.Views.{Passing}
use Rattle.session_state.specs.declared.act.Act.{Act}
use Rattle.session_state.specs.declared.entry.Entry.TheVariants as entries
use Rattle.session_state.specs.declared.given.Given.{Given}
use Rattle.session_state.specs.History.{History, accepts, how_many}
use Rattle.session_state.specs.Legal.{IsExpiry, IsHangUp}
use Rattle.session_state.specs.Methods.{is_announce}
use Rattle.session_lock.specs.declared.spares.MountPasses.{MountPasses}
use Rattle.session_lock.specs.Books.{Remembered, kept_after}
use Rattle.session_lock.specs.Entries.{method_accepted}
use Rattle.session_lock.specs.Requests.{passes_after}
use Rattle.relay_talk.specs.Exchange.{IsSettled}
use Rattle.relay_talk.specs.Seat.{PassAfterExpiry, PassAfterLeave, PassGoesBack, with_ending, with_request}

module _ (before between after : Remembered (Option Passing)) (act : Act) (kept : Option Passing) (settled : IsSettled act between.history after.history) (back : PassGoesBack act kept between after) where
  -- with a hang-up
  pub leaves_pass : (seats : ℕ) → seats ≡ 1 → IsHangUp seats before.history 1 act → between ≡ with_ending (entries.HangUp 1 act) before → PassAfterLeave before kept after
  leaves_pass seats one is book = (
    (
      act,
      subst (λ (s : ℕ). IsHangUp s before.history 1 act) one is,
      subst (λ (b : Remembered (Option Passing)). IsSettled act b.history after.history) book settled,
    ),
    subst (λ (b : Remembered (Option Passing)). PassGoesBack act kept b after) book back,
  )

  -- with an expiry
  pub expires_pass : (seats heard then now : ℕ) → seats ≡ 1 → heard ≡ then → IsExpiry seats before.history 1 heard now act → between ≡ with_ending (entries.Expire 1 heard now act) before
      → PassAfterExpiry before then now kept after
  expires_pass seats heard then now one same is book =
      subst (λ (h : ℕ). PassAfterExpiry before h now kept after) same
      (inl (
        act,
        subst (λ (s : ℕ). IsExpiry s before.history 1 heard now act) one is,
        subst (λ (b : Remembered (Option Passing)). IsSettled act b.history after.history) book settled,
        subst (λ (b : Remembered (Option Passing)). PassGoesBack act kept b after) book back,
      ))

abbrev book_of : (seats cut : ℕ) → History → (kept : ℕ) → List (MountPasses (Option Passing)) → Remembered (Option Passing)
book_of seats cut history kept spares = record { seats = seats; cut = cut; history = history; kept = kept; spares = spares }

-- two books with equal parts are equal
same_book : (one other : Remembered (Option Passing)) → one.seats ≡ other.seats → one.cut ≡ other.cut → one.history ≡ other.history → one.kept ≡ other.kept → one.spares ≡ other.spares → one ≡ other
same_book one other seats cut history kept spares =
    let same : book_of one.seats one.cut one.history one.kept one.spares ≡ book_of other.seats other.cut other.history other.kept other.spares = cc in same

-- the book that a request leaves before its act is carried out, by its parts
pub requested : (request : Request) (given : Given) (reply : Reply) (act : Act) (offer : Option (List (Option Passing))) (before between : Remembered (Option Passing))
    → between.seats ≡ before.seats → between.cut ≡ before.cut → between.history ≡ entries.Request 1 request given reply act ∷ before.history → between.kept ≡ kept_after before
    → between.spares ≡ passes_after 1 (how_many (accepts is_announce) before.history + 1) (method_accepted request reply) act offer before.spares
    → between ≡ with_request request given reply act offer before
requested request given reply act offer before between seats cut history kept spares =
    same_book between (with_request request given reply act offer before) seats cut history kept spares
