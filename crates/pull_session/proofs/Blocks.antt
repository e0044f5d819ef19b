-- Frames one after another, and what becomes of them.
use Rattle.std.proofs.Common.{◌≡◌, ℕ, ◌+◌, ◌-◌, ◌<◌, ◌≤◌, List, [], ◌∷◌, ◌++◌, length, take, drop, map, slice_index, refl, sym, ap, subst, ◌∙◌, arith, append_assoc, length-append, length-drop, length-take}
use Rattle.std.proofs.lemmas.List.{drop-append-le, drop-drop, drop-take, drop_all, get_or-take, map_push, take-append-drop, take-append-le, take-take, take_all}
use Rattle.interleaved.specs.declared.frame.Frame.{Frame as Block}
use Rattle.interleaved.specs.Frame.{FrameBegins, IsFrame}
use Rattle.interleaved.proofs.Frames.{FrameBegins-length}
use Rattle.rtsp_message.specs.declared.peer.Peer.{Peer}
use Rattle.rtsp_message.specs.declared.unit.Unit.{Unit as StreamUnit}
use Rattle.rtsp_message.specs.declared.unit.Unit.TheVariants.{Frame}
use Rattle.rtsp_message.specs.Stream.{ReadsFrom, Waits, Whole, bytes_of}
use Rattle.rtsp_message.proofs.Compose.{nothing_reads}
use Rattle.pull_session.specs.Blocks.{AreFrames, frame_in}
use Rattle.pull_session.specs.Passing.{PassState, TakesUnit, TakesUnits}
use Rattle.pull_session.proofs.Units.{takes_more}

-- one more frame
pub frames_push : (bytes more : List ℕ) (frames : List Block) (frame : Block) → AreFrames bytes frames → IsFrame more frame.channel frame.payload
    → AreFrames (bytes ++ more) (frames ++ frame ∷ [])
frames_push bytes more [] frame none is =
    let whole : take (length more) more ≡ more = take_all (length more) more (omega arith) in
    let one : AreFrames more (frame ∷ []) =
    (length more, omega arith, subst (λ (l : List ℕ). IsFrame l frame.channel frame.payload) (sym whole) is, drop_all (length more) more (omega arith)) in
    subst (λ (l : List ℕ). AreFrames l (frame ∷ [])) (sym (ap (λ (l : List ℕ). l ++ more) none)) one
frames_push bytes more (first ∷ frames) frame (size, fits, is, others) next = (
  size,
  omega (arith, fits, length-append bytes more),
  subst (λ (l : List ℕ). IsFrame l first.channel first.payload) (sym (take-append-le size bytes more fits)) is,
  subst (λ (l : List ℕ). AreFrames l (frames ++ frame ∷ [])) (sym (drop-append-le size bytes more fits)) (frames_push (drop size bytes) more frames frame others next),
)

-- a reader reads them, and nothing is left over
pub frames_read : (peer : Peer) (bytes : List ℕ) (frames : List Block) → AreFrames bytes frames → ReadsFrom peer bytes (map Frame frames) (Waits [])
frames_read peer bytes [] none = subst (λ (l : List ℕ). ReadsFrom peer l [] (Waits [])) (sym none) (nothing_reads peer)
frames_read peer bytes (frame ∷ frames) (size, fits, is, others) =
    let rest = frames_read peer (drop size bytes) frames others in
    record {
      pieces = Whole (take size bytes) (Frame frame) ∷ rest.pieces;
      rest = rest.rest;
      whole = sym (take-append-drop size bytes) ∙ ap (λ (l : List ℕ). take size bytes ++ l) rest.whole
          ∙ sym (append_assoc (take size bytes) (bytes_of rest.pieces) rest.rest);
      are_pieces = (is, rest.are_pieces);
      units_are = ap (λ (l : List StreamUnit). Frame frame ∷ l) rest.units_are;
      ends = rest.ends;
    }

-- units come, and then others
pub takes_both : (us vs : List StreamUnit) (now : ℕ) (a b c : PassState) → TakesUnits us now a b → TakesUnits vs now b c → TakesUnits (us ++ vs) now a c
takes_both [] vs now a b c same next = subst (λ (state : PassState). TakesUnits vs now state c) same next
takes_both (unit ∷ us) vs now a b c takes next = (takes.0, takes.1, takes_both us vs now takes.0 b c takes.2 next)

-- a frame at a place before the end, and those after it
pub record Ahead (bytes : List ℕ) (from len : ℕ) (left : List Block) : Type 0 where
  pub frame : Block
  pub others : List Block
  pub parts : left ≡ frame ∷ others
  pub size : ℕ
  pub within : from + size ≤ len
  pub some : 4 ≤ size
  pub fits : size ≤ length (drop from bytes)
  pub is : IsFrame (take size (drop from bytes)) frame.channel frame.payload
  pub next : AreFrames (drop (from + size) (take len bytes)) others

frame_size : (bytes : List ℕ) (channel : ℕ) (payload : List ℕ) → IsFrame bytes channel payload → 4 ≤ length bytes
frame_size bytes channel payload is = omega (arith, ap length is.2)

pub ahead : (bytes : List ℕ) (from len : ℕ) (left : List Block) → from < len → len ≤ length bytes → AreFrames (drop from (take len bytes)) left → Ahead bytes from len left
ahead bytes from len [] before within none =
    absurd (omega (arith, ap length none, length-drop from (take len bytes), length-take len bytes, before, within))
ahead bytes from len (frame ∷ others) before within (size, fits, is, next) =
    let cut : List ℕ = drop from (take len bytes) in
    let parts : from + (len - from) ≡ len = omega arith in
    let cut_is : cut ≡ take (len - from) (drop from bytes) =
    ap (λ (n : ℕ). drop from (take n bytes)) (sym parts) ∙ drop-take from (len - from) bytes in
    let long : length cut ≡ len - from = length-drop from (take len bytes) ∙ ap (λ (n : ℕ). n - from) (length-take len bytes ∙ omega arith) in
    let small : size ≤ len - from = omega (arith, fits, long) in
    let same : take size cut ≡ take size (drop from bytes) = ap (take size) cut_is ∙ take-take size (len - from) (drop from bytes) small in
    record {
      frame = frame;
      others = others;
      parts = refl;
      size = size;
      within = omega (arith, small, before);
      some = omega (arith, frame_size (take size cut) frame.channel frame.payload is, length-take size cut);
      fits = omega (arith, small, length-drop from bytes, within);
      is = subst (λ (l : List ℕ). IsFrame l frame.channel frame.payload) same is;
      next = subst (λ (l : List ℕ). AreFrames l others) (drop-drop size from (take len bytes)) next;
    }

-- no frame is at the end
pub at_end : (bytes : List ℕ) (left : List Block) → length bytes ≡ 0 → AreFrames bytes left → left ≡ []
at_end bytes [] none are = refl
at_end bytes (frame ∷ left) none (size, fits, is, next) =
    absurd (omega (arith, frame_size (take size bytes) frame.channel frame.payload is, length-take size bytes, none))

-- it begins there
pub frame_begins : (bytes : List ℕ) (from len : ℕ) (left : List Block) → (a : Ahead bytes from len left) → FrameBegins (drop from bytes) a.size
frame_begins bytes from len left a = (a.fits, a.frame.channel, a.frame.payload, a.is)

-- with a dollar sign
pub frame_first : (bytes : List ℕ) (from len : ℕ) (left : List Block) → Ahead bytes from len left → slice_index (drop from bytes) 0 ≡ 0x24
frame_first bytes from len left a =
    sym (get_or-take a.size (drop from bytes) 0 0 (omega (arith, a.some))) ∙ ap (λ (l : List ℕ). slice_index l 0) a.is.2

-- it has one length
pub one_size : (bytes : List ℕ) (m n : ℕ) → FrameBegins bytes m → FrameBegins bytes n → m ≡ n
one_size bytes m n p q = FrameBegins-length bytes m p ∙ sym (FrameBegins-length bytes n q)

-- and is what its bytes are
pub frame_is : (bytes : List ℕ) (frame : Block) → IsFrame bytes frame.channel frame.payload → frame_in bytes ≡ frame
frame_is bytes frame is = ap frame_in is.2

-- the frame at a place is taken
pub takes_next : (done : List Block) (frame : Block) (bytes : List ℕ) (now : ℕ) (a b c : PassState) → frame_in bytes ≡ frame → TakesUnits (map Frame done) now a b
    → TakesUnit (Frame (frame_in bytes)) now b c → TakesUnits (map Frame (done ++ frame ∷ [])) now a c
takes_next done frame bytes now a b c is before taken =
    subst (λ (us : List StreamUnit). TakesUnits us now a c) (sym (map_push Frame done frame))
    (takes_more (map Frame done) (Frame frame) now a b c before (subst (λ (f : Block). TakesUnit (Frame f) now b c) is taken))

-- a place is within what is left
pub place_within : (bytes free : List ℕ) (at from len : ℕ) → drop at free ≡ drop from bytes → from < len → len ≤ length bytes → at ≤ length free
place_within bytes free at from len same before within = omega (arith, ap length same, length-drop at free, length-drop from bytes, before, within)
