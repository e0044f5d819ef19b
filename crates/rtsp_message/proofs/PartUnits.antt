-- How many units more bytes make: at most one a byte. What waited held no whole unit, so the first unit takes a byte of them too.
use Rattle.std.proofs.Common.{◌≡◌, ℕ, ◌<◌, ◌≤◌, List, [], ◌∷◌, ◌++◌, length, take, drop, sym, ap, subst, ◌∙◌, inl, inr, arith, append_assoc, None, length-append, take-append-drop}
use Rattle.std.proofs.Math.Seq.{take-append_seam}
use Rattle.std.proofs.lemmas.List.{take-append-le}
use Rattle.std.proofs.lemmas.Bool.Decides.{leb_tells}
use Rattle.rtsp_message.specs.declared.peer.Peer.TheVariants.{Client}
use Rattle.rtsp_message.specs.declared.unit.Unit.{Unit as StreamUnit}
use Rattle.rtsp_message.specs.Stream.{BeginsWithNoPad, IsUnit, IsUndecided, Piece, Pad, Whole, ArePieces, bytes_of, units_of, Ending, Waits, Fails, EndsAs, ReadsOn, fault_of, waiting_len}
use Rattle.rtsp_message.specs.Parts.{AreFew}
use Rattle.rtsp_message.proofs.Placing.{all_read}
use Rattle.rtsp_message.proofs.OneReading.{pad_begins_nothing, one_reading}
use Rattle.rtsp_message.proofs.HandingOut.{units_take_bytes}

-- a unit at the front of what waited and of more bytes is longer than what waited
front_is_longer : (rest more a x : List ℕ) (u : StreamUnit) → IsUndecided Client rest → IsUnit a u → rest ++ more ≡ a ++ x → length rest < length a
front_is_longer rest more a x u waits is whole = elim (leb_tells (length a) (length rest)) [
  | inl within ↦
      let below : length a ≤ length rest = within.1 in
      let front : take (length a) rest ≡ a = sym (take-append-le (length a) rest more below) ∙ ap (take (length a)) whole ∙ take-append_seam a x in
      absurd (waits.no_unit a (drop (length a) rest) u (sym (take-append-drop (length a) rest) ∙ ap (λ (l : List ℕ). l ++ drop (length a) rest) front) is)
  | inr past ↦ omega (arith, past.1)
]

pieces_take_bytes : (rest more x : List ℕ) (pieces : List Piece) → BeginsWithNoPad rest → IsUndecided Client rest → ArePieces pieces → rest ++ more ≡ bytes_of pieces ++ x → length (units_of pieces) ≤ length more
pieces_take_bytes rest more x [] no_pad waits p whole = omega arith
pieces_take_bytes [] more x (Pad byte ∷ pieces) no_pad waits p whole = omega (arith, units_take_bytes pieces p.1, ap length whole, length-append (bytes_of pieces) x)
pieces_take_bytes (b ∷ rest) more x (Pad byte ∷ pieces) no_pad waits p whole = absurd (pad_begins_nothing ((b ∷ rest) ++ more) byte (bytes_of pieces ++ x) p.0 whole no_pad)
pieces_take_bytes rest more x (Whole a u ∷ pieces) no_pad waits p whole =
    let longer = front_is_longer rest more a (bytes_of pieces ++ x) u waits p.0 (whole ∙ append_assoc a (bytes_of pieces) x) in
    omega (arith, longer, units_take_bytes pieces p.1, ap length whole, length-append rest more, length-append (a ++ bytes_of pieces) x, length-append a (bytes_of pieces))

-- from where a reading has come to, no more units are found than there are more bytes
pub one_a_byte : (d m : Ending) (more : List ℕ) (us : List StreamUnit) → ReadsOn d [] [] d → ReadsOn d more us m → length us ≤ length more
one_a_byte (Waits rest) m more us stands p =
    let ends = subst (λ (l : List ℕ). EndsAs l (Waits rest)) stands.ends.0 stands.ends in
    omega (arith, ap length p.units_are, pieces_take_bytes rest more p.rest p.pieces ends.1 ends.2 p.are_pieces p.whole)
one_a_byte (Fails fault) m more us stands p = omega (arith, ap length p.0)

-- if nothing waits, whole units are read as what they are: no more of them than were counted
pub no_more_than_counted : (d m : Ending) (bytes : List ℕ) (len most : ℕ) (us : List StreamUnit) → fault_of d ≡ None → waiting_len d ≡ 0 → AreFew most bytes len → ReadsOn d (take len bytes) us m → length us ≤ most
no_more_than_counted (Waits []) m bytes len most us none empty few p =
    omega (arith, few.few, ap length (one_reading Client p (all_read Client bytes few.units len (few.reads Client))).0)
no_more_than_counted (Waits (b ∷ rest)) m bytes len most us none empty few p = absurd (omega (arith, empty))
no_more_than_counted (Fails fault) m bytes len most us none empty few p = absurd (cc)
