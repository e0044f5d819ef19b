-- Whole frames at the front of bytes, one more.
use Rattle.std.proofs.Common.{◌≡◌, ◌+◌, ◌-◌, ◌≤◌, ℕ, List, [], ◌∷◌, ◌++◌, length, take, drop, slice_index, sym, ap, subst, ◌∙◌, arith, append-nil, length-append, length-drop, length-take, Option, None, Some}
use Rattle.std.proofs.lemmas.List.{drop-take, get_or-take, take_all}
use Rattle.rtsp_message.specs.declared.peer.Peer.{Peer}
use Rattle.rtsp_message.specs.declared.fault.Fault.{Fault}
use Rattle.rtsp_message.specs.ReaderStates.{ending_from}
use Rattle.rtsp_message.specs.declared.unit.Unit.{Unit as StreamUnit}
use Rattle.rtsp_message.specs.declared.unit.Unit.TheVariants.{Frame}
use Rattle.interleaved.specs.Frame.{IsFrame, FrameBegins}
use Rattle.rtsp_message.specs.Stores.{between}
use Rattle.rtsp_message.specs.Parts.{AreFew}
use Rattle.rtsp_message.specs.Stream.{bytes_of, Waits, ReadsFrom, ReadsOnFrom, ReadsSoFar}
use Rattle.rtsp_message.proofs.Finding.{between_behind}
use Rattle.rtsp_message.proofs.Pieces.{empty_waits, unit_more}

-- one more frame
pub frame_more : (bytes : List ℕ) (len size count : ℕ) → AreFew count bytes len → FrameBegins (drop len bytes) size → AreFew (count + 1) bytes (len + size)
frame_more bytes len size count p q =
    let content : StreamUnit = Frame (record { channel = q.1; payload = q.2 }) in
    record { units = p.units ++ content ∷ []; reads = λ peer. unit_more peer content size (p.reads peer) q.0 q.3; within = omega (arith, q.0, p.within, length-drop len bytes); few = omega (arith, p.few, length-append p.units (content ∷ [])) }

-- whole units that are all bytes read as these units, and nothing waits
pub all_read : (peer : Peer) (bytes : List ℕ) (units : List StreamUnit) (len : ℕ) → ReadsSoFar peer bytes units len → ReadsFrom peer (take len bytes) units (Waits [])
all_read peer bytes units len p =
    record { pieces = p.pieces; rest = []; whole = p.front ∙ sym (append-nil (bytes_of p.pieces)); are_pieces = p.are_pieces; units_are = p.units_are; ends = empty_waits peer }

-- where nothing waited, whole units that are all bytes are read, and nothing waits
pub units_read : (peer : Peer) (waited piece : List ℕ) (fault : Option Fault) (units : List StreamUnit) → fault ≡ None → length waited ≡ 0 → ReadsSoFar peer piece units (length piece) → ReadsOnFrom peer (ending_from waited fault) piece units (ending_from waited fault)
units_read peer [] piece None units none empty p = subst (λ (l : List ℕ). ReadsFrom peer l units (Waits [])) (take_all (length piece) piece (omega arith)) (all_read peer piece units (length piece) p)
units_read peer (b ∷ waited) piece None units none empty p = absurd (omega (arith, empty))
units_read peer waited piece (Some fault) units none empty p = absurd (cc)

-- a frame stands whole, and this is its channel: its data lies after its head
pub frame_placed : (bytes : List ℕ) (from len channel : ℕ) → FrameBegins (drop from bytes) len → channel ≡ slice_index (drop from bytes) 1 → IsFrame (take len (drop from bytes)) channel (between bytes (from + 4) (from + len))
frame_placed bytes from len channel p channel_is =
    let front = drop from bytes in
    let four : 4 ≤ len = omega (arith, ap length p.3.2, length-take len front) in
    let size : 4 + (len - 4) ≡ len = omega arith in
    let behind : between bytes (from + 4) (from + len) ≡ p.2 =
    between_behind bytes from 4 len ∙ sym (drop-take 4 (len - 4) front) ∙ ap (λ (n : ℕ). drop 4 (take n front)) size ∙ ap (drop 4) p.3.2 in
    let same : channel ≡ p.1 = channel_is ∙ sym (get_or-take len front 1 0 (omega (arith, four))) ∙ ap (λ (l : List ℕ). slice_index l 1) p.3.2 in
    subst (λ (b : ℕ). IsFrame (take len front) b (between bytes (from + 4) (from + len))) (sym same) (subst (IsFrame (take len front) p.1) (sym behind) p.3)
