-- The seat that the talker's connection plays from: which pass is kept for it, and that this goes back to the book.
use Rattle.std.specs.Prelude.{◌≡◌, ◌+◌, ◌∷◌, ◌⊎◌, ℕ, List, Option, None, Some}
use Rattle.std.specs.Option.{option_flatten}
use Rattle.rtsp_message.specs.declared.request.Request.{Request}
use Rattle.rtsp_message.specs.declared.reply.Reply.{Reply}
use Rattle.packet_ring.specs.Views.{Passing}
use Rattle.session_state.specs.declared.act.Act.{Act}
use Rattle.session_state.specs.declared.act.Act.TheVariants as acts
use Rattle.session_state.specs.declared.entry.Entry.{Entry}
use Rattle.session_state.specs.declared.entry.Entry.TheVariants as entries
use Rattle.session_state.specs.declared.given.Given.{Given}
use Rattle.session_state.specs.History.{History, accepts, how_many}
use Rattle.session_state.specs.Legal.{IsBack, IsExpiry}
use Rattle.session_state.specs.Methods.{is_announce}
use Rattle.session_lock.specs.Books.{IsOffer, Remembered, kept_after}
use Rattle.session_lock.specs.Entries.{method_accepted}
use Rattle.session_lock.specs.Requests.{passes_after}
use Rattle.session_lock.specs.Spares.{handed_out, unended, with_pass}
use Rattle.relay_talk.specs.Exchange.{IsAnswered, IsLeft, IsSettled}

-- the pass that is kept after an act: what was handed out for the seat that it took, and none once the seat is left
abbrev pub seat_after : {P : Type 0} → Act → (handed now : Option P) → Option P
seat_after (acts.Play mount seat) handed now = handed
seat_after (acts.Stop mount seat) handed now = None
seat_after act handed now = now

-- if an act leaves a seat and the seat may be given back, the pass that was kept for it is the book's again
abbrev pub PassGoesBack : Act → (kept : Option Passing) → (old new : Remembered (Option Passing)) → Type 0
PassGoesBack (acts.Stop mount seat) kept old new = IsBack old.history mount seat → new.spares ≡ with_pass mount seat (Some kept) old.spares
PassGoesBack act kept old new = new.spares ≡ old.spares

-- A request is answered, and the act that the history has with its reply is carried out on the seat. If the act takes a seat, the
-- pass that is kept is the one that the book hands out for that seat.
abbrev pub SeatAfterReply : (before : Remembered (Option Passing)) → Request → Given → (after : History) → Reply → (old new : Option Passing) → Type 0
SeatAfterReply before request given after reply old new =
    (is : IsAnswered before.history request given after reply) × (new ≡ seat_after is.act (option_flatten (handed_out is.act before.spares)) old)

-- the seat after the reply to a request; nothing changes if memory was refused for the reply, which then isn't written down
abbrev pub SeatAfterAnswer : (before : Remembered (Option Passing)) → Request → Given → (after : History) → (old new : Option Passing) → Type 0
SeatAfterAnswer before request given after old new = ((reply : Reply) × SeatAfterReply before request given after reply old new) ⊎ ((after ≡ before.history) × (new ≡ old))

-- the act of a session that expires is carried out on the seat; nothing changes if none expires
abbrev pub SeatAfterExpiry : History → (heard now : ℕ) → (old new : Option Passing) → Type 0
SeatAfterExpiry before heard now old new =
    ((act : Act) × IsExpiry 1 before 1 heard now act × (new ≡ seat_after act None old)) ⊎ (((act : Act) → IsExpiry 1 before 1 heard now act → ⊥) × (new ≡ old))

-- the book with the entry of a hang-up or an expiry, before the act of that is carried out: it has no passes of a mount that ends
abbrev pub with_ending : Entry → Remembered (Option Passing) → Remembered (Option Passing)
with_ending entry book = record book { history = entry ∷ book.history; kept = book.kept + 1; spares = unended entry book.spares }

-- The connection hangs up. If the act that the history has with the hang-up leaves a seat, the pass that was kept for the seat goes
-- back.
abbrev pub PassAfterLeave : (before : Remembered (Option Passing)) → (kept : Option Passing) → (after : Remembered (Option Passing)) → Type 0
PassAfterLeave before kept after =
    (left : IsLeft before.history after.history) × PassGoesBack left.0 kept (with_ending (entries.HangUp 1 left.0) before) after

-- The session expires. If the act of the expiry leaves a seat, the pass that was kept for the seat goes back. The book is unchanged
-- if none expires.
abbrev pub PassAfterExpiry : (before : Remembered (Option Passing)) → (heard now : ℕ) → (kept : Option Passing) → (after : Remembered (Option Passing)) → Type 0
PassAfterExpiry before heard now kept after =
    ((act : Act) × IsExpiry 1 before.history 1 heard now act × IsSettled act (entries.Expire 1 heard now act ∷ before.history) after.history
    × PassGoesBack act kept (with_ending (entries.Expire 1 heard now act) before) after)
    ⊎ (((act : Act) → IsExpiry 1 before.history 1 heard now act → ⊥) × (after ≡ before))

-- the book with the entry of a request, before the act of the reply is carried out; this was offered with the request
abbrev pub with_request : Request → Given → Reply → Act → (offer : Option (List (Option Passing))) → Remembered (Option Passing) → Remembered (Option Passing)
with_request request given reply act offer book = record book {
  history = entries.Request 1 request given reply act ∷ book.history;
  kept = kept_after book;
  spares = passes_after 1 (how_many (accepts is_announce) book.history + 1) (method_accepted request reply) act offer book.spares;
}

-- A request is answered. If the act that the history has with the reply leaves a seat, the pass that was kept for the seat goes back.
abbrev pub PassAfterReply : (before : Remembered (Option Passing)) → Request → Given → Reply → (kept : Option Passing) → (after : Remembered (Option Passing)) → Type 0
PassAfterReply before request given reply kept after =
    (is : IsAnswered before.history request given after.history reply) × (offer : Option (List (Option Passing))) × IsOffer 1 request.method offer
    × PassGoesBack is.act kept (with_request request given reply is.act offer before) after

-- the pass after the reply to a request; the book is unchanged if memory was refused for the reply, which then isn't written down
abbrev pub PassAfterAnswer : (before : Remembered (Option Passing)) → Request → Given → (kept : Option Passing) → (after : Remembered (Option Passing)) → Type 0
PassAfterAnswer before request given kept after = ((reply : Reply) × PassAfterReply before request given reply kept after) ⊎ (after ≡ before)
