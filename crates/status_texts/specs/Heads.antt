-- The head of a family.
use Rattle.std.specs.Prelude.{ℕ, List}
use Rattle.exposition.specs.declared.kind.MetricKind.{MetricKind}

pub record Head : Type 0 where
  pub name : List ℕ
  pub kind : MetricKind
  pub help : List ℕ
