-- What the pieces of a field are, apart from how they are cut.
use Rattle.std.specs.Prelude.{◌≡◌, ℕ, false, List, [], ◌∷◌}
use Rattle.std.specs.List.{fold}
use Rattle.rtsp_auth.specs.declared.place.Place.{Place}
use Rattle.rtsp_auth.specs.declared.place.Place.TheVariants as places
use Rattle.rtsp_auth.specs.Pieces.{cuts, place_after}

-- no byte of a text, whose first one is at this place, is a comma outside of quoted strings
abbrev pub IsUncut : Place → List ℕ → Type 0
IsUncut place [] = Unit {0}
IsUncut place (byte ∷ bytes) = (cuts place byte ≡ false) × IsUncut (place_after place byte) bytes

-- where the byte after a text is
abbrev pub place_behind : Place → List ℕ → Place
place_behind place bytes = fold place_after place bytes

-- the pieces of some field: one or more, none of them to be cut, and each but the last closes its quoted strings
abbrev pub ArePieces : List (List ℕ) → Type 0
ArePieces [] = ⊥
ArePieces (piece ∷ []) = IsUncut places.Outside piece
ArePieces (piece ∷ next ∷ others) =
    IsUncut places.Outside piece × (place_behind places.Outside piece ≡ places.Outside) × ArePieces (next ∷ others)
