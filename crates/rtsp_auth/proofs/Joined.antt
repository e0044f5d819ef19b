-- The pieces of a field are what cutting means, and nothing else is.
use Rattle.std.proofs.Common.{◌≡◌, ℕ, Bool, true, false, cond, List, [], ◌∷◌, ◌++◌, refl, ap, sym, ◌∙◌}
use Rattle.std.specs.List.{onto_first, join_with_byte}
use Rattle.std.proofs.lemmas.Bool.{cond-true, cond-false, eqb-true, true≢false}
use Rattle.rtsp_auth.specs.declared.place.Place.{Place}
use Rattle.rtsp_auth.specs.declared.place.Place.TheVariants as places
use Rattle.rtsp_auth.specs.Pieces.{cuts, place_after, pieces_from, pieces}
use Rattle.rtsp_auth.specs.Commas.{IsUncut, place_behind, ArePieces}

-- the same of a text whose first byte is at such a place
abbrev Pieces : Place → List (List ℕ) → Type 0
Pieces place [] = ⊥
Pieces place (piece ∷ []) = IsUncut place piece
Pieces place (piece ∷ next ∷ others) = IsUncut place piece × (place_behind place piece ≡ places.Outside) × Pieces places.Outside (next ∷ others)

to_pieces : (ps : List (List ℕ)) → ArePieces ps → Pieces places.Outside ps
to_pieces [] h = h
to_pieces (p ∷ []) h = h
to_pieces (p ∷ q ∷ ps) h = (h.0, h.1, to_pieces (q ∷ ps) h.2)

from_pieces : (ps : List (List ℕ)) → Pieces places.Outside ps → ArePieces ps
from_pieces [] h = h
from_pieces (p ∷ []) h = h
from_pieces (p ∷ q ∷ ps) h = (h.0, h.1, from_pieces (q ∷ ps) h.2)

-- what is cut is pieces
starts : (place : Place) (ps : List (List ℕ)) → place ≡ places.Outside → Pieces places.Outside ps → Pieces place ([] ∷ ps)
starts place [] closed h = absurd h
starts place (p ∷ ps) closed h = (tt, closed, h)

extends : (place : Place) (b : ℕ) (ps : List (List ℕ)) → cuts place b ≡ false → Pieces (place_after place b) ps → Pieces place (onto_first b ps)
extends place b [] h pieces = absurd pieces
extends place b (p ∷ []) h pieces = (h, pieces)
extends place b (p ∷ q ∷ ps) h pieces = ((h, pieces.0), pieces.1, pieces.2)

outside : (place : Place) (b : ℕ) → cuts place b ≡ true → place ≡ places.Outside
outside places.Outside b h = refl
outside places.Quoted b h = absurd (true≢false (sym h))
outside places.Escaped b h = absurd (true≢false (sym h))

by_test : (place : Place) (b : ℕ) (ps qs : List (List ℕ)) (test : Bool) → cuts place b ≡ test → Pieces places.Outside ps → Pieces (place_after place b) qs → Pieces place (cond test ([] ∷ ps) (onto_first b qs))
by_test place b ps qs true e behind on = starts place ps (outside place b e) behind
by_test place b ps qs false e behind on = extends place b qs e on

is_pieces : (place : Place) (text : List ℕ) → Pieces place (pieces_from place text)
is_pieces place [] = tt
is_pieces place (b ∷ bs) = by_test place b _ _ (cuts place b) refl (is_pieces places.Outside bs) (is_pieces (place_after place b) bs)

pub are_pieces : (text : List ℕ) → ArePieces (pieces text)
are_pieces text = from_pieces (pieces text) (is_pieces places.Outside text)

-- joined again, the pieces are the text
join_front : (place : Place) (ps : List (List ℕ)) → Pieces place ps → join_with_byte 44 ([] ∷ ps) ≡ 44 ∷ join_with_byte 44 ps
join_front place [] h = absurd h
join_front place (p ∷ ps) h = refl

join_onto : (place : Place) (b : ℕ) (ps : List (List ℕ)) → Pieces place ps → join_with_byte 44 (onto_first b ps) ≡ b ∷ join_with_byte 44 ps
join_onto place b [] h = absurd h
join_onto place b (p ∷ []) h = refl
join_onto place b (p ∷ q ∷ ps) h = refl

is_comma : (place : Place) (b : ℕ) → cuts place b ≡ true → 44 ≡ b
is_comma places.Outside b h = sym (eqb-true b 44 h)
is_comma places.Quoted b h = absurd (true≢false (sym h))
is_comma places.Escaped b h = absurd (true≢false (sym h))

join_by_test : (place : Place) (b : ℕ) (bs : List ℕ) (ps qs : List (List ℕ)) (test : Bool) → cuts place b ≡ test → Pieces places.Outside ps → Pieces (place_after place b) qs → join_with_byte 44 ps ≡ bs → join_with_byte 44 qs ≡ bs → join_with_byte 44 (cond test ([] ∷ ps) (onto_first b qs)) ≡ b ∷ bs
join_by_test place b bs ps qs true e behind on at_ps at_qs =
    join_front places.Outside ps behind ∙ ap (λ t. 44 ∷ t) at_ps ∙ ap (λ c. c ∷ bs) (is_comma place b e)
join_by_test place b bs ps qs false e behind on at_ps at_qs =
    join_onto (place_after place b) b qs on ∙ ap (λ t. b ∷ t) at_qs

joined_from : (place : Place) (text : List ℕ) → join_with_byte 44 (pieces_from place text) ≡ text
joined_from place [] = refl
joined_from place (b ∷ bs) = join_by_test place b bs _ _ (cuts place b) refl (is_pieces places.Outside bs) (is_pieces (place_after place b) bs) (joined_from places.Outside bs) (joined_from (place_after place b) bs)

pub joined : (text : List ℕ) → join_with_byte 44 (pieces text) ≡ text
joined text = joined_from places.Outside text

-- nothing else is the pieces of a text
last_piece : (place : Place) (piece : List ℕ) → IsUncut place piece → pieces_from place piece ≡ piece ∷ []
last_piece place [] h = refl
last_piece place (b ∷ bs) h = cond-false _ _ _ h.0 ∙ ap (onto_first b) (last_piece (place_after place b) bs h.1)

cuts_itself : (place : Place) → place ≡ places.Outside → cuts place 44 ≡ true
cuts_itself place closed = ap (λ (p : Place). cuts p 44) closed

front_piece : (place : Place) (piece rest : List ℕ) → IsUncut place piece → place_behind place piece ≡ places.Outside → pieces_from place (piece ++ 44 ∷ rest) ≡ piece ∷ pieces_from places.Outside rest
front_piece place [] rest h closed = cond-true _ _ _ (cuts_itself place closed)
front_piece place (b ∷ bs) rest h closed = cond-false _ _ _ h.0 ∙ ap (onto_first b) (front_piece (place_after place b) bs rest h.1 closed)

only_pieces : (ps : List (List ℕ)) → Pieces places.Outside ps → pieces (join_with_byte 44 ps) ≡ ps
only_pieces [] h = absurd h
only_pieces (p ∷ []) h = last_piece places.Outside p h
only_pieces (p ∷ q ∷ ps) h = front_piece places.Outside p (join_with_byte 44 (q ∷ ps)) h.0 h.1 ∙ ap (λ others. p ∷ others) (only_pieces (q ∷ ps) h.2)

pub only : (ps : List (List ℕ)) → ArePieces ps → pieces (join_with_byte 44 ps) ≡ ps
only ps h = only_pieces ps (to_pieces ps h)
