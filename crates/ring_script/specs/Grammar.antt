-- The forms of the lines of an input of the command `steps`, and what each says.
use Rattle.std.specs.Prelude.{◌≡◌, ◌⊎◌, ◌≤◌, ℕ, List, [], ◌∷◌, ◌++◌, length, min, replicate, codes, Ok}
use Rattle.std.specs.List.{flat_map}
use Rattle.hex.specs.Hex.{decode_of}
use Rattle.std.specs.Str.Parse.{IsNumeral, digits_value}
use Rattle.ring_steps.specs.declared.calls.Actor.{Actor}
use Rattle.ring_steps.specs.declared.calls.Actor.TheVariants.{P, Seat}
use Rattle.ring_steps.specs.declared.calls.PublisherCall.TheVariants.{Publish, Close}
use Rattle.ring_steps.specs.declared.calls.SeatCall.{SeatCall}
use Rattle.ring_steps.specs.declared.calls.SeatCall.TheVariants.{Attach, Take, Detach}
use Rattle.ring_script.specs.declared.call_line.CallLine.{CallLine}
use Rattle.ring_script.specs.declared.call_line.CallLine.TheVariants.{ByPublisher, BySeat}
use Rattle.ring_script.specs.declared.line.Line.{Line}
use Rattle.ring_script.specs.declared.line.Line.TheVariants.{Keep, Seats, Call, Go}

-- one to nine decimal digits, leading zeros too, that write this number
pub record IsNumber (text : List ℕ) (number : ℕ) : Type 0 where
  pub numeral : IsNumeral 10 text
  pub most : length text ≤ 9
  pub value : digits_value 10 text ≡ number

-- two hexadecimal digits a byte, of either case, for 1 to 65,535 bytes
pub record IsHex (text bytes : List ℕ) : Type 0 where
  pub digits : decode_of text ≡ Ok bytes
  pub least : 1 ≤ length bytes
  pub most : length bytes ≤ 65535

-- `attach N`, which asks for N packets back, `attach`, which asks for none, `take` or `detach`
abbrev pub IsSeatCall : List ℕ → SeatCall → Type 0
IsSeatCall text (Attach back) = ((text ≡ codes "attach") × (back ≡ 0)) ⊎ ((number : List ℕ) × (text ≡ codes "attach " ++ number) × IsNumber number back)
IsSeatCall text Take = text ≡ codes "take"
IsSeatCall text Detach = text ≡ codes "detach"

-- `p HEX`, `p close`, or a seat's number, one space and its call
abbrev pub IsCall : List ℕ → CallLine → Type 0
IsCall line (ByPublisher (Publish bytes)) = (text : List ℕ) × (line ≡ codes "p " ++ text) × IsHex text bytes
IsCall line (ByPublisher Close) = line ≡ codes "p close"
IsCall line (BySeat seat call) = (number text : List ℕ) × (line ≡ number ++ 32 ∷ text) × IsNumber number seat × IsSeatCall text call

-- `p`, or a seat's number. No ring has a seat 65,535, and a number past it stands for that one.
abbrev pub IsActor : List ℕ → Actor → Type 0
IsActor name P = name ≡ codes "p"
IsActor name (Seat seat) = (number : ℕ) × IsNumber name number × (seat ≡ min number 65535)

-- `A`: one step of the actor
pub record IsOneStep (item : List ℕ) (steps : List Actor) : Type 0 where
  pub actor : Actor
  pub named : IsActor item actor
  pub steps_are : steps ≡ actor ∷ []

-- `A*N`: N steps of the actor, 1 to 100,000
pub record IsManySteps (item : List ℕ) (steps : List Actor) : Type 0 where
  pub name : List ℕ
  pub count : List ℕ
  pub whole : item ≡ name ++ 42 ∷ count
  pub actor : Actor
  pub named : IsActor name actor
  pub times : ℕ
  pub counted : IsNumber count times
  pub least : 1 ≤ times
  pub most : times ≤ 100000
  pub steps_are : steps ≡ replicate times actor

abbrev pub IsItem : List ℕ → List Actor → Type 0
IsItem item steps = IsOneStep item steps ⊎ IsManySteps item steps

-- items with one space between two, and the steps of each
abbrev pub AreItems : List ℕ → List (List Actor) → Type 0
AreItems text [] = ⊥
AreItems text (steps ∷ []) = IsItem text steps
AreItems text (steps ∷ next ∷ others) = (item rest : List ℕ) × (text ≡ item ++ 32 ∷ rest) × IsItem item steps × AreItems rest (next ∷ others)

-- one item or more, of at most 1,000,000 steps in all
pub record IsSchedule (text : List ℕ) (steps : List Actor) : Type 0 where
  pub items : List (List Actor)
  pub are : AreItems text items
  pub joined : steps ≡ flat_map (λ item. item) items
  pub most : length steps ≤ 1000000

-- a line, and what it says
abbrev pub IsLine : List ℕ → Line → Type 0
IsLine line (Keep keep) = (text : List ℕ) × (line ≡ codes "keep " ++ text) × IsNumber text keep
IsLine line (Seats seats) = (text : List ℕ) × (line ≡ codes "seats " ++ text) × IsNumber text seats
IsLine line (Call call) = IsCall line call
IsLine line (Go steps) = (text : List ℕ) × (line ≡ codes "go " ++ text) × IsSchedule text steps
