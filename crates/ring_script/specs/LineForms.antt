-- What one line of the input of the command `steps` says.
use Rattle.std.specs.Prelude.{ℕ, ◌==◌, ◌&&◌, nat_lt, nat_le, nat_eq, min, if◌then◌else◌, Bool, List, [], ◌∷◌, ◌++◌, length, drop, replicate, codes, Option, None, Some, Result, Ok, Err}
use Rattle.std.specs.List.{slice_split, before_first, starts_with}
use Rattle.std.specs.Option.{option_map}
use Rattle.std.specs.Str.{bytes_eq}
use Rattle.hex.specs.Hex.{decode_of}
use Rattle.base_syntax.specs.Cuts.{behind_first}
use Rattle.base_syntax.specs.Numbers.{number_up_to}
use Rattle.hex.specs.declared.error.FromHexError.{FromHexError}
use Rattle.ring_steps.specs.declared.calls.Actor.{Actor}
use Rattle.ring_steps.specs.declared.calls.Actor.TheVariants.{P, Seat}
use Rattle.ring_steps.specs.declared.calls.PublisherCall.TheVariants.{Publish, Close}
use Rattle.ring_steps.specs.declared.calls.SeatCall.{SeatCall}
use Rattle.ring_steps.specs.declared.calls.SeatCall.TheVariants.{Attach, Take, Detach}
use Rattle.ring_script.specs.declared.call_line.CallLine.{CallLine}
use Rattle.ring_script.specs.declared.call_line.CallLine.TheVariants.{ByPublisher, BySeat}
use Rattle.ring_script.specs.declared.line.Line.{Line}
use Rattle.ring_script.specs.declared.line.Line.TheVariants.{Keep, Seats, Call, Go}

-- the number that one to nine decimal digits write; leading zeros are read
abbrev pub number_of : List ℕ → Option ℕ
number_of text = if nat_le (length text) 9 then number_up_to 999999999 text else None

abbrev pub is_space : ℕ → Bool
is_space b = b == 32

abbrev pub is_star : ℕ → Bool
is_star b = b == 42

-- what stands after this beginning
abbrev pub behind : (beginning text : List ℕ) → Option (List ℕ)
behind beginning text = if starts_with nat_eq text beginning then Some (drop (length beginning) text) else None

-- 1 to 65,535 bytes are published
abbrev pub publish_of : Result (List ℕ) FromHexError → Option CallLine
publish_of (Ok bytes) = if nat_lt 0 (length bytes) && nat_le (length bytes) 65535 then Some (ByPublisher (Publish bytes)) else None
publish_of (Err e) = None

-- what stands after `p `
unfoldable pub publisher_call_of : List ℕ → Option CallLine
publisher_call_of text = if bytes_eq text (codes "close") then Some (ByPublisher Close) else publish_of (decode_of text)

-- what stands after `attach `: how many packets back are asked for
abbrev pub attach_of : Option (List ℕ) → Option SeatCall
attach_of None = None
attach_of (Some text) = option_map Attach (number_of text)

abbrev pub seat_call_of : List ℕ → Option SeatCall
seat_call_of text =
    if bytes_eq text (codes "attach") then Some (Attach 0)
    else if bytes_eq text (codes "take") then Some Take
    else if bytes_eq text (codes "detach") then Some Detach
    else attach_of (behind (codes "attach ") text)

abbrev pub seat_line_by : Option ℕ → Option SeatCall → Option Line
seat_line_by (Some seat) (Some call) = Some (Call (BySeat seat call))
seat_line_by (Some seat) None = None
seat_line_by None call = None

abbrev pub seat_line_of : (number : List ℕ) → (call : Option (List ℕ)) → Option Line
seat_line_of number None = None
seat_line_of number (Some text) = seat_line_by (number_of number) (seat_call_of text)

-- The actor that a seat's number names. No ring has a seat 65,535, so a number past the numbers that an actor can have
-- names a seat that isn't there, as it must.
abbrev pub seat_of : ℕ → Actor
seat_of number = Seat (min number 65535)

abbrev pub actor_of : List ℕ → Option Actor
actor_of name = if bytes_eq name (codes "p") then Some P else option_map seat_of (number_of name)

-- how often an item's actor steps: once, or as often as the number after its `*` says, 1 to 100,000 times
abbrev pub in_limits : Option ℕ → Option ℕ
in_limits None = None
in_limits (Some n) = if nat_le 1 n && nat_le n 100000 then Some n else None

abbrev pub times_of : (behind_star : Option (List ℕ)) → Option ℕ
times_of None = Some 1
times_of (Some text) = in_limits (number_of text)

abbrev pub repeated : Option Actor → Option ℕ → Option (List Actor)
repeated (Some actor) (Some times) = Some (replicate times actor)
repeated (Some actor) None = None
repeated None times = None

-- the steps of one item, `A` or `A*N`
unfoldable pub item_of : List ℕ → Option (List Actor)
item_of word = repeated (actor_of (before_first is_star word)) (times_of (behind_first 42 word))

-- these steps and then those, if both can be read
abbrev pub joined : Option (List Actor) → Option (List Actor) → Option (List Actor)
joined (Some first) (Some others) = Some (first ++ others)
joined (Some first) None = None
joined None others = None

-- the steps of these items, in order
abbrev pub items_of : List (List ℕ) → Option (List Actor)
items_of [] = Some []
items_of (word ∷ words) = joined (item_of word) (items_of words)

-- at most 1,000,000 steps
abbrev pub not_too_long : Option (List Actor) → Option (List Actor)
not_too_long None = None
not_too_long (Some steps) = if nat_le (length steps) 1000000 then Some steps else None

-- what stands after `go `: one item or more, with one space between two
unfoldable pub schedule_of : List ℕ → Option (List Actor)
schedule_of text = not_too_long (items_of (slice_split is_space text))

-- what a line says by its beginning, or else
abbrev pub or_else : Option (List ℕ) → (List ℕ → Option Line) → Option Line → Option Line
or_else None form other = other
or_else (Some rest) form other = form rest

-- what a line says; nothing where it has none of these forms
unfoldable pub line_of : List ℕ → Option Line
line_of line =
    or_else (behind (codes "keep ") line) (λ rest. option_map Keep (number_of rest))
    (or_else (behind (codes "seats ") line) (λ rest. option_map Seats (number_of rest))
    (or_else (behind (codes "p ") line) (λ rest. option_map Call (publisher_call_of rest))
    (or_else (behind (codes "go ") line) (λ rest. option_map Go (schedule_of rest))
    (seat_line_of (before_first is_space line) (behind_first 32 line)))))
