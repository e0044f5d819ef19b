-- Which texts are an input of the command `steps`, and which line of another text is bad.
use Rattle.std.specs.Prelude.{◌≡◌, ◌<◌, ◌+◌, ℕ, List, [], ◌∷◌, ◌++◌, length, map, filter}
use Rattle.std.specs.List.{AllByRecursion}
use Rattle.ring_script.specs.declared.call_line.CallLine.{CallLine}
use Rattle.ring_script.specs.declared.call_line.CallLine.TheVariants.{ByPublisher, BySeat}
use Rattle.ring_script.specs.declared.line.Line.{Line}
use Rattle.ring_script.specs.declared.line.Line.TheVariants.{Keep, Seats, Call, Go}
use Rattle.ring_script.specs.declared.plan.Plan.{Plan}
use Rattle.ring_script.specs.declared.plan.PlanFault.{PlanFault}
use Rattle.ring_script.specs.declared.plan.PlanFault.TheVariants.{BadLine, OutOfMemory}
use Rattle.base_syntax.specs.Lines.{has_bytes}
use Rattle.ring_script.specs.Lines.{AreLines}
use Rattle.ring_script.specs.Grammar.{IsLine}

-- what the lines of a plan say: `keep`, `seats`, the calls, and `go`
abbrev pub said_by : Plan → List Line
said_by plan = Keep plan.config.keep ∷ Seats plan.config.seats ∷ (map Call plan.calls ++ Go plan.schedule ∷ [])

-- a call of the publisher, or of one of so many seats
abbrev pub IsBelow : (seats : ℕ) → CallLine → Type 0
IsBelow seats (ByPublisher call) = Unit {0}
IsBelow seats (BySeat seat call) = seat < seats

-- each of these lines, in order, has the form of what is said
abbrev pub HaveForms : List (List ℕ) → List Line → Type 0
HaveForms [] [] = Unit {0}
HaveForms [] (said ∷ others) = ⊥
HaveForms (line ∷ lines) [] = ⊥
HaveForms (line ∷ lines) (said ∷ others) = IsLine line said × HaveForms lines others

-- these lines, without the empty ones, are those of the plan
pub record Says (lines : List (List ℕ)) (plan : Plan) : Type 0 where
  pub said : HaveForms (filter has_bytes lines) (said_by plan)
  pub below : AllByRecursion (IsBelow plan.config.seats) plan.calls

-- the text is an input with this plan
pub record Reads (text : List ℕ) (plan : Plan) : Type 0 where
  pub lines : List (List ℕ)
  pub are : AreLines text lines
  pub says : Says lines plan

-- some input begins with these lines
abbrev pub Begins : List (List ℕ) → Type 0
Begins lines = (more : List (List ℕ)) × (plan : Plan) × Says (lines ++ more) plan

-- no input has the next of these lines there; or there is none, and no input ends there
abbrev pub IsWrong : (before after : List (List ℕ)) → Type 0
IsWrong before [] = (plan : Plan) → ¬ Says before plan
IsWrong before (line ∷ after) = ¬ Begins (before ++ line ∷ [])

-- The first line that makes the text no input, from 1 over all lines. Where all lines are good but no `go` line is
-- among them, it is the one after the last.
pub record IsBadLine (text : List ℕ) (number : ℕ) : Type 0 where
  pub before : List (List ℕ)
  pub after : List (List ℕ)
  pub lines : AreLines text (before ++ after)
  pub counted : number ≡ length before + 1
  pub begins : Begins before
  pub wrong : IsWrong before after

-- why a text is refused; memory may run out at any text
abbrev pub IsRefused : List ℕ → PlanFault → Type 0
IsRefused text (BadLine number) = IsBadLine text number
IsRefused text OutOfMemory = Unit {0}
