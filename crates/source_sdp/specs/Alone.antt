-- Which media sections are left out by their own lines alone, whatever tracks are before them.
use Rattle.std.specs.Prelude.{ℕ, if◌then◌else◌, List, Option, None, Some, Result, Ok, Err}
use Rattle.std.specs.List.{enumerate_from, filter_map, list_any}
use Rattle.std.specs.Option.{option_map}
use Rattle.source_sdp.specs.declared.heading.Heading.{Heading}
use Rattle.source_sdp.specs.declared.left_out.LeftOut.{LeftOut}
use Rattle.source_sdp.specs.declared.reason.Reason.{Reason}
use Rattle.source_sdp.specs.declared.reason.Reason.TheVariants.{SendOnly}
use Rattle.source_sdp.specs.Heading.{heading_of}
use Rattle.source_sdp.specs.Section.{Section}
use Rattle.source_sdp.specs.Sorting.{is_sendonly}

-- why a section is left out so: what its `m=` line says, or that it is for the client to send
abbrev pub own_reason_by : Result Heading Reason → (lines : List (List ℕ)) → Option Reason
own_reason_by (Err reason) lines = Some reason
own_reason_by (Ok heading) lines = if list_any is_sendonly lines then Some SendOnly else None

abbrev pub own_reason : Section → Option Reason
own_reason section = own_reason_by (heading_of section.head) section.lines

-- the section with a place, if it is left out so
abbrev pub left_alone_at : (place : ℕ) → Section → Option LeftOut
left_alone_at place section = option_map (λ reason. record { place = place; reason = reason }) (own_reason section)

-- those of the sections that are left out so, in their order, of which the first section has this place
abbrev pub left_alone_from : (place : ℕ) → List Section → List LeftOut
left_alone_from place sections = filter_map (λ (p : ℕ × Section). left_alone_at p.0 p.1) (enumerate_from place sections)
