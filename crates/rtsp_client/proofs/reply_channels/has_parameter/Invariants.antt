use Rattle.std.proofs.Common.{◌≡◌}
use Rattle.std.specs.List.{list_any}
use Rattle.std.specs.Option.{option_copied}
use Rattle.base_syntax.specs.Quotes.{rest_parts, rest_size}
use Rattle.rtsp_client.specs.ReplyChannels.{is_parameter}
use Rattle.rtsp_client.proofs.reply_channels.has_parameter.Given as goal

-- no parameter so far has the name
abbrev pub invariant-loop-rest : goal.invariant-loop-rest
invariant-loop-rest l = list_any (is_parameter l.name) (rest_parts 59 (option_copied l.rest)) ≡ list_any (is_parameter l.name) (rest_parts 59 (option_copied l.fn.parameters))

abbrev pub decreases-loop-rest : goal.decreases-loop-rest
decreases-loop-rest l = rest_size (option_copied l.rest)
