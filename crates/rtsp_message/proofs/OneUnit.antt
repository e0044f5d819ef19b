-- At most one unit stands at the front of a stream.
use Rattle.std.proofs.Common.{◌≡◌, ℕ, List, [], ◌∷◌, ◌++◌, length, refl, sym, ap, subst, ◌∙◌, append_assoc}
use Rattle.interleaved.specs.declared.frame.Frame.{Frame as Block}
use Rattle.interleaved.specs.Frame.{IsFrame}
use Rattle.interleaved.proofs.Frames.{same_front, no_frame_begins_another}
use Rattle.rtsp_message.specs.declared.peer.Peer.{Peer}
use Rattle.rtsp_message.specs.declared.request.Request.{Request}
use Rattle.rtsp_message.specs.declared.unit.Unit.{Unit as StreamUnit}
use Rattle.rtsp_message.specs.declared.unit.Unit.TheVariants.{Message, Frame}
use Rattle.rtsp_message.specs.declared.fault.Fault.{Fault}
use Rattle.rtsp_message.specs.Heads.{HasFault}
use Rattle.rtsp_message.specs.Lengths.{body_len}
use Rattle.rtsp_message.specs.Stream.{BeginsWithNoPad, BeginsMessage, BeginsFrame, IsMessageFrom, IsUnitFrom}
use Rattle.rtsp_message.proofs.Runs.{cancel, false_is_true}
use Rattle.rtsp_message.proofs.OneHead.{SameHead, same_heads, no_head_and_fault}

pub begins_message : (bytes more : List ℕ) → BeginsMessage bytes → BeginsMessage (bytes ++ more)
begins_message [] more p = absurd p
begins_message (b ∷ bytes) more p = p

pub message_is_no_pad : (bytes : List ℕ) → BeginsMessage bytes → BeginsWithNoPad bytes
message_is_no_pad [] p = tt
message_is_no_pad (b ∷ bytes) p = p.0

pub message_is_no_frame : (bytes : List ℕ) → BeginsMessage bytes → BeginsFrame bytes → ⊥
message_is_no_frame [] p q = p
message_is_no_frame (b ∷ bytes) p q = false_is_true (sym p.1 ∙ rw q refl)

pub frame_is_no_pad : (bytes : List ℕ) → BeginsFrame bytes → BeginsWithNoPad bytes
frame_is_no_pad [] p = tt
frame_is_no_pad (b ∷ bytes) p = rw p refl

pub frame_begins : (bytes more : List ℕ) {channel : ℕ} {payload : List ℕ} → IsFrame bytes channel payload → BeginsFrame (bytes ++ more)
frame_begins bytes more p = subst (λ (l : List ℕ). BeginsFrame (l ++ more)) (sym p.2) refl

-- a message as its head, and what comes after that
pub message_whole : (peer : Peer) (stream bytes more : List ℕ) (request : Request) (p : IsMessageFrom peer bytes request) → stream ≡ bytes ++ more → stream ≡ p.head ++ (request.body ++ more)
message_whole peer stream bytes more request p e = e ∙ ap (λ (l : List ℕ). l ++ more) p.whole ∙ append_assoc p.head request.body more

pub message_begins : (peer : Peer) (stream bytes more : List ℕ) (request : Request) → IsMessageFrom peer bytes request → stream ≡ bytes ++ more → BeginsMessage stream
message_begins peer stream bytes more request p e = subst BeginsMessage (sym (message_whole peer stream bytes more request p e)) (begins_message p.head (request.body ++ more) p.begins)

pub unit_begins : (peer : Peer) (stream bytes more : List ℕ) (content : StreamUnit) → IsUnitFrom peer bytes content → stream ≡ bytes ++ more → BeginsWithNoPad stream
unit_begins peer stream bytes more (Message request) p e = message_is_no_pad stream (message_begins peer stream bytes more request p e)
unit_begins peer stream bytes more (Frame frame) p e = subst BeginsWithNoPad (sym (e ∙ ap (λ (l : List ℕ). l ++ more) p.2)) refl

-- no message and frame stand at one place
pub no_message_and_frame : (peer : Peer) (stream a x b y : List ℕ) (request : Request) (frame : Block) → IsMessageFrom peer a request → IsFrame b frame.channel frame.payload → stream ≡ a ++ x → stream ≡ b ++ y → ⊥
no_message_and_frame peer stream a x b y request frame p q e f =
    message_is_no_frame stream (message_begins peer stream a x request p e) (subst BeginsFrame (sym f) (frame_begins b y q))

same_request : (r s : Request) → SameHead r s → r.body ≡ s.body → r ≡ s
same_request r s p body = rw (p.method, p.uri, p.version, p.cseq, p.headers, body) refl

same_messages : (peer : Peer) (stream a x b y : List ℕ) (r s : Request) → IsMessageFrom peer a r → IsMessageFrom peer b s → stream ≡ a ++ x → stream ≡ b ++ y → (a ≡ b) × (r ≡ s)
same_messages peer stream a x b y r s p q e f =
    let one = message_whole peer stream a x r p e in
    let other = message_whole peer stream b y s q f in
    let heads = same_heads peer stream p.head (r.body ++ x) q.head (s.body ++ y) r s p.is_head q.is_head one other in
    let sizes : length r.body ≡ length s.body = p.body_size ∙ ap body_len heads.1.headers ∙ sym q.body_size in
    let bodies : r.body ≡ s.body = same_front r.body s.body x y sizes (cancel p.head q.head (r.body ++ x) (s.body ++ y) heads.0 (sym one ∙ other)) in
    (p.whole ∙ ap (λ (l : List ℕ). l ++ r.body) heads.0 ∙ ap (λ (l : List ℕ). q.head ++ l) bodies ∙ sym q.whole, same_request r s heads.1 bodies)

same_block : (f g : Block) → f.channel ≡ g.channel → f.payload ≡ g.payload → f ≡ g
same_block f g channel payload = rw (channel, payload) refl

-- two units at the front of one stream are one
pub same_units : (peer : Peer) (stream a x b y : List ℕ) (u v : StreamUnit) → IsUnitFrom peer a u → IsUnitFrom peer b v → stream ≡ a ++ x → stream ≡ b ++ y → (a ≡ b) × (u ≡ v)
same_units peer stream a x b y (Message r) (Message s) p q e f = let same = same_messages peer stream a x b y r s p q e f in (same.0, ap Message same.1)
same_units peer stream a x b y (Message r) (Frame g) p q e f = absurd (no_message_and_frame peer stream a x b y r g p q e f)
same_units peer stream a x b y (Frame f) (Message s) p q e g = absurd (no_message_and_frame peer stream b y a x s f q p g e)
same_units peer stream a x b y (Frame f) (Frame g) p q d e =
    let same = no_frame_begins_another a b x y f.channel g.channel f.payload g.payload p q (sym d ∙ e) in
    (same.0, ap Frame (same_block f g same.1 same.2))

-- where a unit stands there is no fault
pub no_unit_and_fault : (peer : Peer) (stream a x : List ℕ) (u : StreamUnit) (fault : Fault) → IsUnitFrom peer a u → stream ≡ a ++ x → BeginsMessage stream → HasFault peer stream fault → ⊥
no_unit_and_fault peer stream a x (Message r) fault p e begins has = no_head_and_fault peer stream p.head (r.body ++ x) r fault p.is_head (message_whole peer stream a x r p e) has
no_unit_and_fault peer stream a x (Frame f) fault p e begins has = message_is_no_frame stream begins (subst BeginsFrame (sym e) (frame_begins a x p))
