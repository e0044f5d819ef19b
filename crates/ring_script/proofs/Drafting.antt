-- Which lines a draft can go on with.
use Rattle.std.proofs.Common.{◌≡◌, ℕ, ◌<◌, length, arith, List, [], ◌∷◌, ◌++◌, ◌⊎◌, inl, inr, Option, None, Some, Result, Ok, Err, map, refl, subst}
use Rattle.std.specs.List.{AllByRecursion}
use Rattle.std.specs.Prelude.{IfOk, IfNone}
use Rattle.ring_steps.specs.declared.calls.Actor.{Actor}
use Rattle.ring_steps.specs.declared.config.Config.{Config}
use Rattle.ring_script.specs.declared.call_line.CallLine.{CallLine}
use Rattle.ring_script.specs.declared.draft.Draft.{Draft}
use Rattle.ring_script.specs.declared.draft.Draft.TheVariants.{Listing, Whole}
use Rattle.ring_script.specs.declared.line.Line.{Line}
use Rattle.ring_script.specs.declared.line.Line.TheVariants.{Call, Go}
use Rattle.ring_script.specs.declared.plan.Plan.{Plan}
use Rattle.ring_script.specs.Plans.{said_by, IsBelow}
use Rattle.ring_script.specs.Drafts.{told, IsStuck, NoPlanBegins}
use Rattle.ring_script.specs.LineForms.{line_of}

-- what stands after some of the calls is `go` or one more call
next_line : (seats : ℕ) (own calls : List CallLine) (s : List Actor) (line : Line) (more : List (Option Line)) → AllByRecursion (IsBelow seats) own
    → map Some (map Call own ++ Go s ∷ []) ≡ (map Some (map Call calls) ++ Some line ∷ []) ++ more
    → (line ≡ Go s) ⊎ ((call : CallLine) × (line ≡ Call call) × IsBelow seats call)
next_line seats [] [] s line more p e = inl (cc)
next_line seats (o ∷ own) [] s line more p e = inr (o, (cc), p.0)
next_line seats [] (c ∷ calls) s line more p e = absurd (cc)
next_line seats (o ∷ own) (c ∷ calls) s line more p e = next_line seats own calls s line more p.1 (cc)

-- nothing stands after `go`
no_more : (own calls : List CallLine) (s t : List Actor) (line : Line) (more : List (Option Line)) → map Some (map Call own ++ Go s ∷ []) ≡ (map Some (map Call calls ++ Go t ∷ []) ++ Some line ∷ []) ++ more → ⊥
no_more [] [] s t line more e = cc
no_more (o ∷ own) [] s t line more e = cc
no_more [] (c ∷ calls) s t line more e = cc
no_more (o ∷ own) (c ∷ calls) s t line more e = no_more own calls s t line more (cc)

-- each line of a plan says something
no_none : (own front : List Line) (more : List (Option Line)) → map Some own ≡ (map Some front ++ None ∷ []) ++ more → ⊥
no_none [] [] more e = cc
no_none (o ∷ own) [] more e = cc
no_none [] (f ∷ front) more e = cc
no_none (o ∷ own) (f ∷ front) more e = no_none own front more (cc)

silent_line : (draft : Draft) → NoPlanBegins (map Some (told draft) ++ None ∷ [])
silent_line draft plan more below e = no_none (said_by plan) (told draft) more e

pub listing_ends : (config : Config) (calls : List CallLine) (line : Line) → ((s : List Actor) → line ≡ Go s → ⊥) → ((call : CallLine) → line ≡ Call call → IsBelow config.seats call → ⊥)
    → NoPlanBegins (map Some (told (Listing config calls)) ++ Some line ∷ [])
listing_ends config calls line no_go no_call plan more below e =
    let seats : plan.config.seats ≡ config.seats = cc in
    let rest : map Some (map Call plan.calls ++ Go plan.schedule ∷ []) ≡ (map Some (map Call calls) ++ Some line ∷ []) ++ more = cc in
    elim (next_line plan.config.seats plan.calls calls plan.schedule line more below rest) [
      | inl go ↦ no_go plan.schedule go
      | inr call ↦ no_call call.0 call.1 (subst (λ (n : ℕ). IsBelow n call.0) seats call.2)
    ]

pub whole_ends : (plan : Plan) (line : Line) → NoPlanBegins (map Some (told (Whole plan)) ++ Some line ∷ [])
whole_ends own line plan more below e =
    let rest : map Some (map Call plan.calls ++ Go plan.schedule ∷ []) ≡ (map Some (map Call own.calls ++ Go own.schedule ∷ []) ++ Some line ∷ []) ++ more = cc in
    no_more plan.calls own.calls plan.schedule own.schedule line more rest

-- a call of a seat that isn't there
pub call_ends : {E : Type 0} (r : Result (Option Draft) E) (config : Config) (calls : List CallLine) (call : CallLine) → IfOk r (λ o. IfNone o (¬ IsBelow config.seats call))
    → IfOk r (λ o. IfNone o (NoPlanBegins (map Some (told (Listing config calls)) ++ Some (Call call) ∷ [])))
call_ends (Ok None) config calls call h =
    listing_ends config calls (Call call) (λ s e. absurd (cc)) (λ own e below. h (let same : own ≡ call = cc in subst (IsBelow config.seats) same below))
call_ends (Ok (Some d)) config calls call h = tt
call_ends (Err e) config calls call h = tt

-- a line that says nothing
pub silent_ends : (draft : Draft) (line : List ℕ) → 0 < length line → None ≡ line_of line → IsStuck draft line
silent_ends draft [] some none = absurd (omega arith)
silent_ends draft (b ∷ line) some none = record { there = refl; none = subst (λ (o : Option Line). NoPlanBegins (map Some (told draft) ++ o ∷ [])) none (silent_line draft) }
