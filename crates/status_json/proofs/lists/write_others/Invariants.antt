use Rattle.std.proofs.Common.{◌≡◌, ◌++◌, length, take, drop}
use Rattle.std.specs.List.{flat_map}
use Rattle.status_json.specs.Json.{next_text}
use Rattle.status_json.proofs.lists.write_others.Given as goal

-- the text so far and that of the values left are the whole text
abbrev pub invariant-loop-value : goal.invariant-loop-value
invariant-loop-value g l = record {
  told : l.out.items ++ flat_map (λ value. next_text (g.T.Written.text value)) (drop l.value-index l.values) ≡ l.fn.out.items ++ flat_map (λ value. next_text (g.T.Written.text value)) l.values;
  kept : take (length l.fn.out.items) l.out.items ≡ l.fn.out.items;
}
