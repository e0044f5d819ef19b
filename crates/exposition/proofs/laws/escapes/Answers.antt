use Rattle.exposition.proofs.Reading.{value_reads, help_reads, value_in_line, help_in_line, same_text, same_value}
use Rattle.exposition.proofs.Utf8.{value_utf8}
use Rattle.exposition.proofs.laws.escapes.Goals as goal

pub returns : goal.returns
returns c = record {
  value = value_reads;
  help = help_reads;
  value_line = value_in_line;
  help_line = help_in_line;
  utf8 = value_utf8;
  same_text = same_text;
  same_value = same_value;
}
