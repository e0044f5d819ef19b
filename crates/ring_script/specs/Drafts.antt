-- The lines of an input so far, while it is read.
use Rattle.std.specs.Prelude.{◌≡◌, ℕ, true, List, [], ◌∷◌, ◌++◌, Option, Some, map, filter}
use Rattle.std.specs.List.{AllByRecursion}
use Rattle.ring_script.specs.declared.draft.Draft.{Draft}
use Rattle.ring_script.specs.declared.draft.Draft.TheVariants.{Empty, Kept, Listing, Whole}
use Rattle.ring_script.specs.declared.line.Line.{Line}
use Rattle.ring_script.specs.declared.line.Line.TheVariants.{Keep, Seats, Call}
use Rattle.ring_script.specs.declared.plan.Plan.{Plan}
use Rattle.base_syntax.specs.Lines.{has_bytes}
use Rattle.ring_script.specs.LineForms.{line_of}
use Rattle.ring_script.specs.Plans.{said_by, IsBelow}

-- what the lines of a draft say
abbrev pub told : Draft → List Line
told Empty = []
told (Kept keep) = Keep keep ∷ []
told (Listing config calls) = Keep config.keep ∷ Seats config.seats ∷ map Call calls
told (Whole plan) = said_by plan

-- the calls are those of seats below its number of seats
abbrev pub IsSound : Draft → Type 0
IsSound Empty = Unit {0}
IsSound (Kept keep) = Unit {0}
IsSound (Listing config calls) = AllByRecursion (IsBelow config.seats) calls
IsSound (Whole plan) = AllByRecursion (IsBelow plan.config.seats) plan.calls

-- what a line adds: nothing where it is empty
abbrev pub heard : List ℕ → List (Option Line)
heard line = map line_of (filter has_bytes (line ∷ []))

-- the lines of no plan begin so
abbrev pub NoPlanBegins : List (Option Line) → Type 0
NoPlanBegins lines = (plan : Plan) (more : List (Option Line)) → AllByRecursion (IsBelow plan.config.seats) plan.calls → map Some (said_by plan) ≡ lines ++ more → ⊥

-- a line that no plan has after those of the draft
pub record IsStuck (draft : Draft) (line : List ℕ) : Type 0 where
  pub there : has_bytes line ≡ true
  pub none : NoPlanBegins (map Some (told draft) ++ line_of line ∷ [])
