use Rattle.std.proofs.Common.{◌≡◌, ◌++◌, length, take, drop}
use Rattle.std.specs.List.{flat_map}
use Rattle.status_texts.specs.Serving.{request_sample}
use Rattle.status_texts.proofs.serving_metrics.write_requests.Given as goal

-- the text so far and that of the statuses left are the whole text
abbrev pub invariant-loop-request : goal.invariant-loop-request
invariant-loop-request l = record {
  told : l.out.items ++ flat_map (request_sample l.metric) (drop l.request-index l.requests) ≡ l.fn.out.items ++ flat_map (request_sample l.metric) l.requests;
  kept : take (length l.fn.out.items) l.out.items ≡ l.fn.out.items;
}
