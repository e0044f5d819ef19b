-- The pieces of a field: a comma ends a challenge and a parameter alike (RFC 7235, 2.1 and 4.1), unless it is in a quoted string.
use Rattle.std.specs.Prelude.{ℕ, ◌==◌, Bool, false, if◌then◌else◌, List, [], ◌∷◌, Option, None, Some}
use Rattle.std.specs.List.{onto_first}
use Rattle.rtsp_auth.specs.declared.place.Place.{Place}
use Rattle.rtsp_auth.specs.declared.place.Place.TheVariants as places

-- a double quote opens a quoted string and the next one closes it, but for one after a backslash (RFC 7230, 3.2.6)
abbrev pub place_after : Place → ℕ → Place
place_after places.Outside byte = if byte == 34 then places.Quoted else places.Outside
place_after places.Quoted byte = if byte == 34 then places.Outside else if byte == 92 then places.Escaped else places.Quoted
place_after places.Escaped byte = places.Quoted

-- the byte is a comma outside of quoted strings
abbrev pub cuts : Place → ℕ → Bool
cuts places.Outside byte = byte == 44
cuts places.Quoted byte = false
cuts places.Escaped byte = false

-- the pieces of a text, whose first byte is at this place
abbrev pub pieces_from : Place → List ℕ → List (List ℕ)
pieces_from place [] = [] ∷ []
pieces_from place (byte ∷ bytes) =
    if cuts place byte then [] ∷ pieces_from places.Outside bytes else onto_first byte (pieces_from (place_after place byte) bytes)

abbrev pub pieces : List ℕ → List (List ℕ)
pieces text = pieces_from places.Outside text

-- the pieces of what is left of a text, if something is
abbrev pub rest_pieces : Option (List ℕ) → List (List ℕ)
rest_pieces None = []
rest_pieces (Some text) = pieces text
