-- The text of a trace, line by line.
use Rattle.std.proofs.Common.{◌≡◌, ℕ, ◌+◌, ◌<◌, List, [], ◌∷◌, ◌++◌, length, take, get_or, sym, ap, ◌∙◌, arith, append_assoc, append-nil, length-take}
use Rattle.std.proofs.lemmas.List.{take_more}
use Rattle.ring_steps.specs.declared.trace.TraceStep.{TraceStep}
use Rattle.ring_steps.specs.declared.trace.TraceEvent.{TraceEvent}
use Rattle.ring_script.specs.TraceText.{step_line, step_lines, event_line, event_lines}

step_lines-push : (n : ℕ) (steps : List TraceStep) (step : TraceStep) → step_lines n (steps ++ step ∷ []) ≡ step_lines n steps ++ step_line (n + length steps) step
step_lines-push n [] step = append-nil (step_line n step) ∙ ap (λ (k : ℕ). step_line k step) (omega arith)
step_lines-push n (s ∷ steps) step =
    ap (λ (l : List ℕ). step_line n s ++ l) (step_lines-push (n + 1) steps step ∙ ap (λ (k : ℕ). step_lines (n + 1) steps ++ step_line k step) (omega arith))
    ∙ sym (append_assoc (step_line n s) (step_lines (n + 1) steps) (step_line (n + length (s ∷ steps)) step))

event_lines-push : (steps : List TraceStep) (events : List TraceEvent) (event : TraceEvent) → event_lines steps (events ++ event ∷ []) ≡ event_lines steps events ++ event_line steps event
event_lines-push steps [] event = append-nil (event_line steps event)
event_lines-push steps (e ∷ events) event =
    ap (λ (l : List ℕ). event_line steps e ++ l) (event_lines-push steps events event) ∙ sym (append_assoc (event_line steps e) (event_lines steps events) (event_line steps event))

-- one more step was put, and one more event
pub step_put : (base old new : List ℕ) (steps : List TraceStep) (i : ℕ) (d : TraceStep) → i < length steps → old ≡ base ++ step_lines 0 (take i steps) → new ≡ old ++ step_line i (get_or steps i d) → new ≡ base ++ step_lines 0 (take (i + 1) steps)
step_put base old new steps i d inside before put =
    let count : 0 + length (take i steps) ≡ i = omega (arith, length-take i steps) in
    let more : step_lines 0 (take (i + 1) steps) ≡ step_lines 0 (take i steps) ++ step_line i (get_or steps i d) =
    ap (step_lines 0) (take_more steps i d inside) ∙ step_lines-push 0 (take i steps) (get_or steps i d) ∙ ap (λ (k : ℕ). step_lines 0 (take i steps) ++ step_line k (get_or steps i d)) count in
    put ∙ ap (λ (l : List ℕ). l ++ step_line i (get_or steps i d)) before ∙ append_assoc base (step_lines 0 (take i steps)) (step_line i (get_or steps i d)) ∙ ap (λ (l : List ℕ). base ++ l) (sym more)

pub event_put : (base old new : List ℕ) (steps : List TraceStep) (events : List TraceEvent) (i : ℕ) (d : TraceEvent) → i < length events → old ≡ base ++ event_lines steps (take i events) → new ≡ old ++ event_line steps (get_or events i d)
    → new ≡ base ++ event_lines steps (take (i + 1) events)
event_put base old new steps events i d inside before put =
    let more : event_lines steps (take (i + 1) events) ≡ event_lines steps (take i events) ++ event_line steps (get_or events i d) =
    ap (event_lines steps) (take_more events i d inside) ∙ event_lines-push steps (take i events) (get_or events i d) in
    put ∙ ap (λ (l : List ℕ). l ++ event_line steps (get_or events i d)) before ∙ append_assoc base (event_lines steps (take i events)) (event_line steps (get_or events i d)) ∙ ap (λ (l : List ℕ). base ++ l) (sym more)
