-- Bytes at whose front neither a unit nor a fault stands yet.
use Rattle.std.proofs.Common.{◌≡◌, ◌<◌, ℕ, List, ◌++◌, length, take, sym, ap, subst, ◌∙◌, arith, length-append}
use Rattle.std.proofs.Math.Seq.{take-append_seam}
use Rattle.interleaved.specs.declared.frame.Frame.{Frame as Block}
use Rattle.interleaved.specs.Frame.{IsFrame, FrameBegins}
use Rattle.rtsp_message.specs.declared.peer.Peer.{Peer}
use Rattle.rtsp_message.specs.declared.request.Request.{Request}
use Rattle.rtsp_message.specs.declared.unit.Unit.{Unit as StreamUnit}
use Rattle.rtsp_message.specs.declared.unit.Unit.TheVariants.{Message, Frame}
use Rattle.rtsp_message.specs.Heads.{IsHeadFrom, IsUnfinished}
use Rattle.rtsp_message.specs.Lengths.{body_len}
use Rattle.rtsp_message.specs.Stream.{BeginsMessage, BeginsFrame, IsUnitFrom, IsUndecided}
use Rattle.rtsp_message.proofs.OneHead.{same_heads, no_head_and_fault, no_head_and_open, no_fault_and_open}
use Rattle.rtsp_message.proofs.Runs.{cancel}
use Rattle.rtsp_message.proofs.OneUnit.{frame_begins, message_begins, message_is_no_frame, message_whole}

no_frame_in_message : (bytes front more : List ℕ) (frame : Block) → BeginsMessage bytes → bytes ≡ front ++ more → IsFrame front frame.channel frame.payload → ⊥
no_frame_in_message bytes front more frame begins e p = message_is_no_frame bytes begins (subst BeginsFrame (sym e) (frame_begins front more p))

-- the head isn't whole
pub head_is_open : (peer : Peer) (bytes : List ℕ) → BeginsMessage bytes → IsUnfinished peer bytes → IsUndecided peer bytes
head_is_open peer bytes begins unfinished = record { no_unit = no_unit; no_fault = λ fault b has. no_fault_and_open peer bytes fault has unfinished }
  where
    no_unit : (front more : List ℕ) (content : StreamUnit) → bytes ≡ front ++ more → IsUnitFrom peer front content → ⊥
    no_unit front more (Message request) e p = no_head_and_open peer bytes p.head (request.body ++ more) request p.is_head (message_whole peer bytes front more request p e) unfinished
    no_unit front more (Frame frame) e p = no_frame_in_message bytes front more frame begins e p

-- the head is whole, and its body isn't
pub body_is_short : (peer : Peer) (bytes head part : List ℕ) (other : Request) → BeginsMessage bytes → IsHeadFrom peer head other → bytes ≡ head ++ part → length part < body_len other.headers → IsUndecided peer bytes
body_is_short peer bytes head part other begins is whole short = record { no_unit = no_unit; no_fault = λ fault b has. no_head_and_fault peer bytes head part other fault is whole has }
  where
    no_unit : (front more : List ℕ) (content : StreamUnit) → bytes ≡ front ++ more → IsUnitFrom peer front content → ⊥
    no_unit front more (Message request) e p =
        let parts = message_whole peer bytes front more request p e in
        let heads = same_heads peer bytes p.head (request.body ++ more) head part request other p.is_head is parts whole in
        let behind : request.body ++ more ≡ part = cancel p.head head (request.body ++ more) part heads.0 (sym parts ∙ whole) in
        omega (arith, short, p.body_size, ap body_len heads.1.headers, ap length behind, length-append request.body more)
    no_unit front more (Frame frame) e p = no_frame_in_message bytes front more frame begins e p

-- no frame is whole
pub frame_is_short : (peer : Peer) (bytes : List ℕ) → BeginsFrame bytes → ((len : ℕ) → FrameBegins bytes len → ⊥) → IsUndecided peer bytes
frame_is_short peer bytes begins none = record { no_unit = no_unit; no_fault = λ fault b has. message_is_no_frame bytes b begins }
  where
    no_unit : (front more : List ℕ) (content : StreamUnit) → bytes ≡ front ++ more → IsUnitFrom peer front content → ⊥
    no_unit front more (Message request) e p = message_is_no_frame bytes (message_begins peer bytes front more request p e) begins
    no_unit front more (Frame frame) e p =
        let cut : take (length front) bytes ≡ front = ap (take (length front)) e ∙ take-append_seam front more in
        none (length front) (omega (arith, ap length e, length-append front more), frame.channel, frame.payload, subst (λ (l : List ℕ). IsFrame l frame.channel frame.payload) (sym cut) p)
