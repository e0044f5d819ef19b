use Rattle.std.proofs.Common.{◌≡◌, ◌++◌, drop}
use Rattle.rtsp_auth.specs.Items.{fields_items}
use Rattle.rtsp_auth.proofs.items.read_fields.Given as goal

-- the items so far and those of the fields left are all of them
abbrev pub invariant-loop-field : goal.invariant-loop-field
invariant-loop-field l = l.items.items ++ fields_items (drop l.field-index l.fields) ≡ fields_items l.fields
