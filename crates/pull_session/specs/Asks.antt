-- The requests that a try puts to its target (RFC 2326, 10).
use Rattle.std.specs.Prelude.{◌≡◌, ◌++◌, ℕ, List, Option, None, map}
use Rattle.std.specs.List.{AllByRecursion}
use Rattle.request_text.specs.Sending.{Asking}
use Rattle.request_text.specs.declared.request_text.RequestText.{RequestText}
use Rattle.rtsp_client.specs.Table.{side_of}
use Rattle.rtsp_client.specs.declared.ask.Ask.{Ask}
use Rattle.rtsp_client.specs.declared.asked.Side.TheVariants.{Target}
use Rattle.client_requests.specs.Requests.{IsText, Request, request_for}
use Rattle.client_requests.specs.declared.places.Places.{Places}
use Rattle.outgoing.specs.Items.{Sends}
use Rattle.outgoing.specs.Queues.{Queue, Waiting, waiting_item}

-- A request for something that the client asks of the target, for this mount.
pub record IsForTarget (mount : List ℕ) (request : Request) : Type 0 where
  pub ask : Ask
  pub side : side_of ask.asked ≡ Target
  pub places : Places
  pub mount_is : places.target.now ≡ mount
  pub is : request ≡ request_for ask places

-- It is sent to the mount or to a track of it, and has no Authorization.
pub record IsTargetRequest (mount : List ℕ) (text : RequestText) : Type 0 where
  pub request : Request
  pub for_target : IsForTarget mount request
  pub session : Option (List ℕ)
  pub is_text : IsText request session None text

abbrev pub request_item : RequestText → Waiting
request_item text = waiting_item (Sends (Asking text))

-- Requests to the target wait after all that waited, and nothing else does.
pub record PutsRequests (mount : List ℕ) (old new : Queue) : Type 0 where
  pub texts : List RequestText
  pub put : new.items ≡ old.items ++ map request_item texts
  pub begun : new.begun ≡ old.begun
  pub each : AllByRecursion (IsTargetRequest mount) texts
