-- A stream reads in one way.
use Rattle.std.proofs.Common.{◌≡◌, ℕ, true, List, [], ◌∷◌, ◌++◌, refl, sym, ap, subst, ◌∙◌, append_assoc}
use Rattle.rtsp_message.specs.declared.peer.Peer.{Peer}
use Rattle.rtsp_message.specs.declared.unit.Unit.{Unit as StreamUnit}
use Rattle.rtsp_message.specs.Stream.{is_pad, BeginsWithNoPad, IsUnitFrom, Piece, Pad, Whole, ArePiecesFrom, bytes_of, units_of, Ending, Waits, Fails, EndsAsFrom, ReadsFrom}
use Rattle.rtsp_message.proofs.Runs.{cancel, false_is_true}
use Rattle.base_syntax.proofs.Lists.{same_tail}
use Rattle.rtsp_message.proofs.OneHead.{same_fault}
use Rattle.rtsp_message.proofs.OneUnit.{message_is_no_pad, unit_begins, same_units, no_unit_and_fault}

ends_without_pad : (peer : Peer) (bytes : List ℕ) (e : Ending) → EndsAsFrom peer bytes e → BeginsWithNoPad bytes
ends_without_pad peer bytes (Waits rest) p = p.1
ends_without_pad peer bytes (Fails fault) p = message_is_no_pad bytes p.0

pub pad_begins_nothing : (bytes : List ℕ) (b : ℕ) (rest : List ℕ) → is_pad b ≡ true → bytes ≡ b ∷ rest → BeginsWithNoPad bytes → ⊥
pad_begins_nothing bytes b rest p e q = false_is_true (sym (subst BeginsWithNoPad e q) ∙ p)

-- bytes that end a reading have no unit at their front
no_unit_at_end : (peer : Peer) (bytes a x : List ℕ) (u : StreamUnit) (e : Ending) → EndsAsFrom peer bytes e → IsUnitFrom peer a u → bytes ≡ a ++ x → ⊥
no_unit_at_end peer bytes a x u (Waits rest) p q f = p.2.no_unit a x u f q
no_unit_at_end peer bytes a x u (Fails fault) p q f = no_unit_and_fault peer bytes a x u fault q f p.0 p.1

same_end : (peer : Peer) (bytes : List ℕ) (d e : Ending) → EndsAsFrom peer bytes d → EndsAsFrom peer bytes e → d ≡ e
same_end peer bytes (Waits rest) (Waits other) p q = ap Waits (sym p.0 ∙ q.0)
same_end peer bytes (Waits rest) (Fails fault) p q = absurd (p.2.no_fault fault q.0 q.1)
same_end peer bytes (Fails fault) (Waits rest) p q = absurd (q.2.no_fault fault p.0 p.1)
same_end peer bytes (Fails fault) (Fails other) p q = ap Fails (same_fault peer bytes fault other p.1 q.1)

-- two lists of pieces with the same bytes, and what ends them, have the same units
same_pieces : (peer : Peer) (ps qs : List Piece) (x y : List ℕ) (d e : Ending) → ArePiecesFrom peer ps → ArePiecesFrom peer qs → EndsAsFrom peer x d → EndsAsFrom peer y e → bytes_of ps ++ x ≡ bytes_of qs ++ y → (units_of ps ≡ units_of qs) × (d ≡ e)
same_pieces peer [] [] x y d e p q f g same = (refl, same_end peer y d e (subst (λ (l : List ℕ). EndsAsFrom peer l d) same f) g)
same_pieces peer [] (Pad b ∷ qs) x y d e p q f g same = absurd (pad_begins_nothing x b (bytes_of qs ++ y) q.0 same (ends_without_pad peer x d f))
same_pieces peer [] (Whole a u ∷ qs) x y d e p q f g same = absurd (no_unit_at_end peer x a (bytes_of qs ++ y) u d f q.0 (same ∙ append_assoc a (bytes_of qs) y))
same_pieces peer (Pad b ∷ ps) [] x y d e p q f g same = absurd (pad_begins_nothing y b (bytes_of ps ++ x) p.0 (sym same) (ends_without_pad peer y e g))
same_pieces peer (Pad b ∷ ps) (Pad c ∷ qs) x y d e p q f g same = same_pieces peer ps qs x y d e p.1 q.1 f g (same_tail same)
same_pieces peer (Pad b ∷ ps) (Whole a u ∷ qs) x y d e p q f g same =
    let stream = b ∷ (bytes_of ps ++ x) in
    absurd (pad_begins_nothing stream b (bytes_of ps ++ x) p.0 refl (unit_begins peer stream a (bytes_of qs ++ y) u q.0 (same ∙ append_assoc a (bytes_of qs) y)))
same_pieces peer (Whole a u ∷ ps) [] x y d e p q f g same = absurd (no_unit_at_end peer y a (bytes_of ps ++ x) u e g p.0 (sym same ∙ append_assoc a (bytes_of ps) x))
same_pieces peer (Whole a u ∷ ps) (Pad c ∷ qs) x y d e p q f g same =
    let stream = c ∷ (bytes_of qs ++ y) in
    absurd (pad_begins_nothing stream c (bytes_of qs ++ y) q.0 refl (unit_begins peer stream a (bytes_of ps ++ x) u p.0 (sym same ∙ append_assoc a (bytes_of ps) x)))
same_pieces peer (Whole a u ∷ ps) (Whole b v ∷ qs) x y d e p q f g same =
    let apart : a ++ (bytes_of ps ++ x) ≡ b ++ (bytes_of qs ++ y) = sym (append_assoc a (bytes_of ps) x) ∙ same ∙ append_assoc b (bytes_of qs) y in
    let units = same_units peer (a ++ (bytes_of ps ++ x)) a (bytes_of ps ++ x) b (bytes_of qs ++ y) u v p.0 q.0 refl apart in
    let rest = same_pieces peer ps qs x y d e p.1 q.1 f g (cancel a b (bytes_of ps ++ x) (bytes_of qs ++ y) units.0 apart) in
    (ap (λ (m : StreamUnit). m ∷ units_of ps) units.1 ∙ ap (λ (l : List StreamUnit). v ∷ l) rest.0, rest.1)

pub one_reading : (peer : Peer) {stream : List ℕ} {us vs : List StreamUnit} {d e : Ending} → ReadsFrom peer stream us d → ReadsFrom peer stream vs e → (us ≡ vs) × (d ≡ e)
one_reading peer {d = d} {e = e} p q =
    let same = same_pieces peer p.pieces q.pieces p.rest q.rest d e p.are_pieces q.are_pieces p.ends q.ends (sym p.whole ∙ q.whole) in
    (p.units_are ∙ same.0 ∙ sym q.units_are, same.1)
