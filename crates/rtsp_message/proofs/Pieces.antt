-- Pieces of a stream, one after another.
use Rattle.std.proofs.Common.{◌≡◌, ℕ, ◌+◌, ◌<◌, ◌≤◌, true, false, List, [], ◌∷◌, ◌++◌, length, take, drop, get_or, refl, sym, ap, subst, ◌∙◌, arith, append_assoc, append-nil, length-append, length-drop, drop-cons, take-append-drop, Option, None, Some}
use Rattle.std.proofs.Math.Seq.{take-add}
use Rattle.rtsp_message.specs.declared.peer.Peer.{Peer}
use Rattle.rtsp_message.specs.declared.request.Request.{Request}
use Rattle.rtsp_message.specs.declared.fault.Fault.{Fault}
use Rattle.rtsp_message.specs.declared.unit.Unit.{Unit as StreamUnit}
use Rattle.rtsp_message.specs.declared.unit.Unit.TheVariants.{Message, Frame}
use Rattle.base_syntax.specs.Lines.{ended}
use Rattle.rtsp_message.specs.Heads.{IsHeadFrom}
use Rattle.rtsp_message.specs.Stream.{is_pad, BeginsWithNoPad, IsUnitFrom, Piece, Pad, Whole, IsPieceFrom, ArePiecesFrom, bytes_of, units_of, EndsAsFrom, Waits, ReadsFrom, ReadsSoFar, IsScan}
use Rattle.rtsp_message.specs.ReaderStates.{ending_from}

pub bytes_of-append : (ps qs : List Piece) → bytes_of (ps ++ qs) ≡ bytes_of ps ++ bytes_of qs
bytes_of-append [] qs = refl
bytes_of-append (Pad byte ∷ ps) qs = ap (λ (l : List ℕ). byte ∷ l) (bytes_of-append ps qs)
bytes_of-append (Whole bytes content ∷ ps) qs = ap (λ (l : List ℕ). bytes ++ l) (bytes_of-append ps qs) ∙ sym (append_assoc bytes (bytes_of ps) (bytes_of qs))

pub units_of-append : (ps qs : List Piece) → units_of (ps ++ qs) ≡ units_of ps ++ units_of qs
units_of-append [] qs = refl
units_of-append (Pad byte ∷ ps) qs = units_of-append ps qs
units_of-append (Whole bytes content ∷ ps) qs = ap (λ (l : List StreamUnit). content ∷ l) (units_of-append ps qs)

pub ArePieces-append : (peer : Peer) (ps qs : List Piece) → ArePiecesFrom peer ps → ArePiecesFrom peer qs → ArePiecesFrom peer (ps ++ qs)
ArePieces-append peer [] qs p q = q
ArePieces-append peer (piece ∷ ps) qs p q = (p.0, ArePieces-append peer ps qs p.1 q)

-- a head is not empty
pub head_is_some : (peer : Peer) {bytes : List ℕ} {request : Request} → IsHeadFrom peer bytes request → 0 < length bytes
head_is_some peer p = omega (arith, ap length p.whole, length-append (ended p.first) p.rest, length-append p.first (10 ∷ []))

-- a unit is not empty
pub unit_is_some : (peer : Peer) (bytes : List ℕ) (content : StreamUnit) → IsUnitFrom peer bytes content → 0 < length bytes
unit_is_some peer bytes (Message request) p = omega (arith, ap length p.whole, length-append p.head request.body, head_is_some peer p.is_head)
unit_is_some peer bytes (Frame frame) p = omega (arith, ap length p.2)

pub none_so_far : (peer : Peer) (bytes : List ℕ) → ReadsSoFar peer bytes [] 0
none_so_far peer bytes = record { pieces = []; front = refl; are_pieces = tt; units_are = refl; within = omega arith }

-- one more piece
piece_more : (peer : Peer) {bytes : List ℕ} {units : List StreamUnit} {len : ℕ} (n : ℕ) (piece : Piece) → ReadsSoFar peer bytes units len → IsPieceFrom peer piece → n ≤ length (drop len bytes) → take n (drop len bytes) ≡ bytes_of (piece ∷ []) → ReadsSoFar peer bytes (units ++ units_of (piece ∷ [])) (len + n)
piece_more peer {bytes} {units} {len} n piece p is fits front = record {
  pieces = p.pieces ++ piece ∷ [];
  front = take-add len n bytes ∙ ap (λ (l : List ℕ). l ++ take n (drop len bytes)) p.front ∙ ap (λ (l : List ℕ). bytes_of p.pieces ++ l) front ∙ sym (bytes_of-append p.pieces (piece ∷ []));
  are_pieces = ArePieces-append peer p.pieces (piece ∷ []) p.are_pieces (is, tt);
  units_are = ap (λ (l : List StreamUnit). l ++ units_of (piece ∷ [])) p.units_are ∙ sym (units_of-append p.pieces (piece ∷ []));
  within = omega (arith, p.within, length-drop len bytes);
}

pub pad_more : (peer : Peer) {bytes : List ℕ} {units : List StreamUnit} {len : ℕ} → ReadsSoFar peer bytes units len → len < length bytes → is_pad (get_or bytes len 0) ≡ true → ReadsSoFar peer bytes units (len + 1)
pad_more peer {bytes} {units} {len} p below pad =
    let cut : take 1 (drop len bytes) ≡ get_or bytes len 0 ∷ [] = rw (drop-cons bytes len 0) refl in
    subst (λ (us : List StreamUnit). ReadsSoFar peer bytes us (len + 1)) (append-nil units) (piece_more peer 1 (Pad (get_or bytes len 0)) p pad (omega (arith, length-drop len bytes)) cut)

pub unit_more : (peer : Peer) {bytes : List ℕ} {units : List StreamUnit} {len : ℕ} (content : StreamUnit) (n : ℕ) → ReadsSoFar peer bytes units len → n ≤ length (drop len bytes) → IsUnitFrom peer (take n (drop len bytes)) content → ReadsSoFar peer bytes (units ++ content ∷ []) (len + n)
unit_more peer {bytes} {len = len} content n p fits is =
    piece_more peer n (Whole (take n (drop len bytes)) content) p is fits (sym (append-nil (take n (drop len bytes))))

pub no_pad_at : (bytes : List ℕ) (i : ℕ) → i < length bytes → is_pad (get_or bytes i 0) ≡ false → BeginsWithNoPad (drop i bytes)
no_pad_at bytes i below other = rw (drop-cons bytes i 0) other

-- nothing is left to read
pub empty_waits : (peer : Peer) → EndsAsFrom peer [] (Waits [])
empty_waits peer = (
  refl,
  tt,
  record {
    no_unit = λ front more content whole is. absurd (omega (arith, unit_is_some peer front content is, ap length whole, length-append front more));
    no_fault = λ fault begins has. absurd begins;
  },
)

-- what was scanned reads so
pub scan_reads : (peer : Peer) {bytes : List ℕ} {units : List StreamUnit} {len : ℕ} (fault : Option Fault) → IsScan peer bytes units len fault → ReadsFrom peer bytes units (ending_from (drop len bytes) fault)
scan_reads peer {bytes} {units} {len} None p = record {
  pieces = p.0.pieces;
  rest = drop len bytes;
  whole = sym (take-append-drop len bytes) ∙ ap (λ (l : List ℕ). l ++ drop len bytes) p.0.front;
  are_pieces = p.0.are_pieces;
  units_are = p.0.units_are;
  ends = p.1.0;
}
scan_reads peer {bytes} {units} {len} (Some fault) p = record {
  pieces = p.0.pieces;
  rest = drop len bytes;
  whole = sym (take-append-drop len bytes) ∙ ap (λ (l : List ℕ). l ++ drop len bytes) p.0.front;
  are_pieces = p.0.are_pieces;
  units_are = p.0.units_are;
  ends = p.1;
}
