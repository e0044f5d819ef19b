-- The connections of a listener, in the order in which they came.
use Rattle.std.specs.Prelude.{ℕ, Bool, List, Option, None, Some, nat_lt, ◌==◌, if◌then◌else◌}
use Rattle.std.specs.List.{position}
use Rattle.status_listener.specs.declared.phase.Phase.{Phase}
use Rattle.status_listener.specs.declared.phase.Phase.TheVariants as phases
use Rattle.status_listener.specs.declared.visit.Visit.{Visit}
use Rattle.status_listener.specs.Accepting.{later}
use Rattle.status_listener.specs.Phase.{is_asking, is_closing}

-- a connection that comes at this moment has two seconds for its request
abbrev pub begun : {P : Type 0} → (token : ℕ) → P → (now : ℕ) → Visit P
begun token peer now = record { token = token; peer = peer; phase = phases.Asking; due = later now 2000 }

-- when the time of a connection of one phase is over that comes to another: once its request is there, it has ten seconds from now
abbrev pub due_of : (old new : Phase) → (due now : ℕ) → ℕ
due_of old new due now = if is_asking old then (if is_asking new then due else later now 10000) else due

-- a connection that has come to this phase at this moment
abbrev pub come_to : {P : Type 0} → (new : Phase) → (now : ℕ) → Visit P → Visit P
come_to new now visit = record visit { phase = new; due = due_of visit.phase new visit.due now }

-- whether the whole request isn't there yet
abbrev pub asks : {P : Type 0} → Visit P → Bool
asks visit = is_asking visit.phase

-- whether it has time left at this moment
abbrev pub has_time : {P : Type 0} → (now : ℕ) → Visit P → Bool
has_time now visit = nat_lt now visit.due

-- the place of the oldest that hasn't sent its whole request
abbrev pub oldest_asking : {P : Type 0} → List (Visit P) → Option ℕ
oldest_asking visits = position asks visits

-- the place of the oldest whose answer is written
abbrev pub oldest_closing : {P : Type 0} → List (Visit P) → Option ℕ
oldest_closing visits = position (λ visit. is_closing visit.phase) visits

-- the first of two places that there is
abbrev pub either : (one other : Option ℕ) → Option ℕ
either None other = other
either (Some place) other = Some place

-- the place of the one that gives way to a new one: the oldest that hasn't sent its whole request, else the oldest whose answer is written
abbrev pub giving_way : {P : Type 0} → List (Visit P) → Option ℕ
giving_way visits = either (oldest_asking visits) (oldest_closing visits)

-- the place of the connection with this token
abbrev pub place_of : {P : Type 0} → (token : ℕ) → List (Visit P) → Option ℕ
place_of token visits = position (λ visit. visit.token == token) visits
