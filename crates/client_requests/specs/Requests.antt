-- The requests that a client of RTSP servers sends (RFC 2326, 10): which URI, Transport and body each has.
use Rattle.std.specs.Prelude.{◌≡◌, ℕ, List, [], ◌++◌, Option, Some, None, codes, decimal, unwrap_or}
use Rattle.std.specs.Option.{option_copied}
use Rattle.transport_header.specs.declared.spec.ChannelPair.{ChannelPair}
use Rattle.request_text.specs.Methods.{description_of, method_of, transport_of}
use Rattle.request_text.specs.declared.asked.Asked as requests
use Rattle.request_text.specs.declared.method.Method as texts
use Rattle.request_text.specs.declared.method.Method.TheVariants as named
use Rattle.request_text.specs.declared.request_text.RequestText.{RequestText}
use Rattle.rtsp_client.specs.Table.{side_of}
use Rattle.rtsp_client.specs.declared.ask.Ask.{Ask}
use Rattle.rtsp_client.specs.declared.ask.Method.{Method}
use Rattle.rtsp_client.specs.declared.ask.Method.TheVariants as methods
use Rattle.rtsp_client.specs.declared.asked.Asked.{Asked}
use Rattle.rtsp_client.specs.declared.asked.Asked.TheVariants as asks
use Rattle.rtsp_client.specs.declared.asked.Side.{Side}
use Rattle.rtsp_client.specs.declared.asked.Side.TheVariants.{Source, Target}
use Rattle.client_requests.specs.declared.places.Places.{Places}

-- a request of a client: what it is for, its URI, and the Transport and the body that it has if it is SETUP or ANNOUNCE
pub record Request : Type 0 where
  pub ask : Ask
  pub uri : List ℕ
  pub transport : List ℕ
  pub description : List ℕ

-- the place that a request goes to
abbrev pub given_uri : Asked → Places → List ℕ
given_uri asks.Options places = places.source.now
given_uri asks.Describe places = places.source.now
given_uri asks.SetUp places = places.track.now
given_uri asks.Announce places = places.target.now
given_uri asks.SetUpTarget places = places.target.now
given_uri asks.Record places = places.target.now
given_uri asks.Play places = places.session.now
given_uri (asks.KeepAlive Source) places = places.session.now
given_uri (asks.KeepAlive Target) places = places.target.now
given_uri (asks.TearDown Source) places = places.session.now
given_uri (asks.TearDown Target) places = places.target.now

-- the URI of a track of a mount (RFC 2326, C.1.1: its control is relative to the base)
abbrev pub track_uri : (mount : List ℕ) → (track : ℕ) → List ℕ
track_uri mount track = mount ++ (codes "/trackID=" ++ decimal track)

-- SETUP at the target goes to a track of the mount
abbrev pub made_uri : Asked → (track : ℕ) → (mount : List ℕ) → Option (List ℕ)
made_uri asks.Options track mount = None
made_uri asks.Describe track mount = None
made_uri asks.SetUp track mount = None
made_uri asks.Announce track mount = None
made_uri asks.SetUpTarget track mount = Some (track_uri mount track)
made_uri asks.Record track mount = None
made_uri asks.Play track mount = None
made_uri (asks.KeepAlive side) track mount = None
made_uri (asks.TearDown side) track mount = None

-- the track that is set up
abbrev pub track_in : Method → ℕ
track_in methods.Options = 0
track_in methods.Describe = 0
track_in (methods.SetUp track channels) = track
track_in methods.Announce = 0
track_in methods.Record = 0
track_in methods.Play = 0
track_in methods.GetParameter = 0
track_in methods.TearDown = 0

-- a target is asked to record (RFC 2326, 12.39)
abbrev pub mode_text : Side → List ℕ
mode_text Source = []
mode_text Target = codes ";mode=record"

-- the value of Transport: over TCP on these channels (RFC 2326, 10.12)
abbrev pub transport_text : Side → ChannelPair → List ℕ
transport_text side channels =
    codes "RTP/AVP/TCP;unicast;interleaved=" ++ decimal channels.first ++ codes "-" ++ decimal channels.second ++ mode_text side

abbrev pub transport_by : Method → Side → List ℕ
transport_by methods.Options side = []
transport_by methods.Describe side = []
transport_by (methods.SetUp track channels) side = transport_text side channels
transport_by methods.Announce side = []
transport_by methods.Record side = []
transport_by methods.Play side = []
transport_by methods.GetParameter side = []
transport_by methods.TearDown side = []

abbrev pub made_transport : Ask → List ℕ
made_transport ask = transport_by ask.method (side_of ask.asked)

-- the request for an `Ask`
abbrev pub request_for : Ask → Places → Request
request_for ask places = record {
  ask = ask;
  uri = unwrap_or (made_uri ask.asked (track_in ask.method) places.target.now) (given_uri ask.asked places);
  transport = made_transport ask;
  description = places.description.now;
}

-- the name of its method
abbrev pub method_for : Method → texts.Method
method_for methods.Options = named.Options
method_for methods.Describe = named.Describe
method_for (methods.SetUp track channels) = named.Setup
method_for methods.Announce = named.Announce
method_for methods.Record = named.Record
method_for methods.Play = named.Play
method_for methods.GetParameter = named.GetParameter
method_for methods.TearDown = named.Teardown

-- SETUP alone has a Transport
abbrev pub transport_if : Method → (transport : List ℕ) → Option (List ℕ)
transport_if methods.Options transport = None
transport_if methods.Describe transport = None
transport_if (methods.SetUp track channels) transport = Some transport
transport_if methods.Announce transport = None
transport_if methods.Record transport = None
transport_if methods.Play transport = None
transport_if methods.GetParameter transport = None
transport_if methods.TearDown transport = None

-- ANNOUNCE alone has a body
abbrev pub description_if : Method → (description : List ℕ) → Option (List ℕ)
description_if methods.Options description = None
description_if methods.Describe description = None
description_if (methods.SetUp track channels) description = None
description_if methods.Announce description = Some description
description_if methods.Record description = None
description_if methods.Play description = None
description_if methods.GetParameter description = None
description_if methods.TearDown description = None

-- It asks for what the request is for: by this method, with this Transport and this body.
pub record AsksFor (request : Request) (asked : requests.Asked) : Type 0 where
  pub method : method_of asked ≡ method_for request.ask.method
  pub transport : transport_of asked ≡ transport_if request.ask.method request.transport
  pub description : description_of asked ≡ description_if request.ask.method request.description

-- It is the request with its URI and its number, and with these values of Session and Authorization.
pub record IsText (request : Request) (session authorization : Option (List ℕ)) (text : RequestText) : Type 0 where
  pub asks : AsksFor request text.asked
  pub uri_is : text.uri.now ≡ request.uri
  pub number_is : text.number ≡ request.ask.number
  pub session_is : option_copied text.session ≡ session
  pub authorization_is : option_copied text.authorization ≡ authorization
