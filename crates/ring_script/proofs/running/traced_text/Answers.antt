use Rattle.std.proofs.Common.{◌++◌, ℕ, List, ap, subst, ◌∙◌}
use Rattle.ring_script.specs.Plans.{Reads}
use Rattle.ring_script.specs.TraceText.{trace_text}
use Rattle.ring_script.proofs.running.traced_text.Goals as goal

pub returns-in-Ok-put_trace-clause-ok : goal.returns-in-Ok-put_trace-clause-ok
returns-in-Ok-put_trace-clause-ok g c =
    let plan = c.in-Ok-read_plan.plan in
    let trace = c.in-Ok-run_plan.trace in
    record {
      input = c.in-Ok.input.items;
      trace = trace;
      whole = c.in-Ok.ensures.ok;
      traced = record { plan = plan; reads = subst (λ (t : List ℕ). Reads t plan) c.as_slice.ensures.value c.in-Ok-read_plan.ensures; runs = c.in-Ok-run_plan.ensures.ok };
      is_text = c.in-Ok-put_trace.ensures ∙ ap (λ (l : List ℕ). l ++ trace_text trace) c.new-text.ensures.items;
    }
