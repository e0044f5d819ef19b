-- What can happen to one request after it begins.
use Rattle.std.specs.Prelude.{if◌then◌else◌, List, [], ◌∷◌}
use Rattle.rtsp_auth.specs.declared.attempt.Attempt.{Attempt}
use Rattle.rtsp_auth.specs.declared.challenge.Challenge.{Challenge}
use Rattle.rtsp_auth.specs.declared.credentials.Credentials.{Credentials}
use Rattle.rtsp_auth.specs.declared.request.Request.{Request}
use Rattle.rtsp_auth.specs.Attempts.{answered, is_answered, sent}

pub data Event : Type 0 where
  -- it is sent
  IsSent : Event
  -- a reply refuses it with 401 and this challenge
  IsRefused : Challenge → Event

-- what is kept after one: other replies, as 100 Continue, change nothing
abbrev pub step : Attempt → Credentials → Request → Event → Attempt
step attempt credentials request IsSent = sent attempt
step attempt credentials request (IsRefused challenge) =
    if is_answered attempt challenge credentials request then answered attempt challenge else attempt

-- what is kept after some, in their order
abbrev pub steps : Attempt → Credentials → Request → List Event → Attempt
steps attempt credentials request [] = attempt
steps attempt credentials request (event ∷ events) = steps (step attempt credentials request event) credentials request events
