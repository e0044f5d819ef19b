-- Where refused requests are counted.
use Rattle.std.specs.Prelude.{ℕ, List, [], ◌∷◌, Option, None, Some}
use Rattle.rtsp_message.specs.declared.status.Status.{Status}
use Rattle.rtsp_message.specs.declared.status.Status.TheVariants as statuses

-- the statuses that refuse a request, in the order of their codes (RFC 2326, 11)
abbrev pub refused_statuses : List Status
refused_statuses = statuses.BadRequest ∷ statuses.Forbidden ∷ statuses.NotFound ∷ statuses.NotAcceptable ∷ statuses.RequestEntityTooLarge ∷ statuses.UnsupportedMediaType ∷ statuses.ParameterNotUnderstood ∷ statuses.NotEnoughBandwidth ∷ statuses.SessionNotFound ∷ statuses.MethodNotValidInThisState ∷ statuses.AggregateOperationNotAllowed ∷ statuses.OnlyAggregateOperationAllowed ∷ statuses.UnsupportedTransport ∷ statuses.NotImplemented ∷ statuses.ServiceUnavailable ∷ statuses.VersionNotSupported ∷ statuses.OptionNotSupported ∷ []

-- the place of a status among them: none for success
abbrev pub place_of_status : Status → Option ℕ
place_of_status statuses.Ok = None
place_of_status statuses.BadRequest = Some 0
place_of_status statuses.Forbidden = Some 1
place_of_status statuses.NotFound = Some 2
place_of_status statuses.NotAcceptable = Some 3
place_of_status statuses.RequestEntityTooLarge = Some 4
place_of_status statuses.UnsupportedMediaType = Some 5
place_of_status statuses.ParameterNotUnderstood = Some 6
place_of_status statuses.NotEnoughBandwidth = Some 7
place_of_status statuses.SessionNotFound = Some 8
place_of_status statuses.MethodNotValidInThisState = Some 9
place_of_status statuses.AggregateOperationNotAllowed = Some 10
place_of_status statuses.OnlyAggregateOperationAllowed = Some 11
place_of_status statuses.UnsupportedTransport = Some 12
place_of_status statuses.NotImplemented = Some 13
place_of_status statuses.ServiceUnavailable = Some 14
place_of_status statuses.VersionNotSupported = Some 15
place_of_status statuses.OptionNotSupported = Some 16
