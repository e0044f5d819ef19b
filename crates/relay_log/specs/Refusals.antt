-- Counts of requests that were refused.
use Rattle.std.specs.Prelude.{◌≡◌, ◌≤◌, ◌⊎◌, ℕ, ◌+◌, ◌-◌, ◌==◌, Bool, true, false, if◌then◌else◌, nat_lt, List, [], ◌∷◌, ◌++◌, take, length, slice_get, slice_set, All, Option, None, Some}
use Rattle.std.specs.declared.net.socket_addr.SocketAddr.{SocketAddr}
use Rattle.rtsp_message.specs.declared.status.Status.{Status}
use Rattle.relay_accounts.specs.Capped.{capped}
use Rattle.relay_log.specs.declared.refused_requests.Entry.{Entry}
use Rattle.relay_log.specs.declared.refused_line.RefusedLine.{RefusedLine}
use Rattle.relay_log.specs.declared.subject.Subject.{Subject}
use Rattle.relay_log.specs.declared.subject.Subject.TheVariants as subjects
use Rattle.relay_log.specs.declared.refused_line.Kept.TheVariants as kept
use Rattle.relay_log.specs.Kept.{IsAbout}
use Rattle.relay_log.specs.Tallies.{IsDue, due_at}

-- the count of requests about this subject that were refused with this status
abbrev pub IsCountOf : Subject → Status → Entry → Type 0
IsCountOf subject status entry = (entry.status ≡ status) × IsAbout entry.kept subject

-- when a count is due to be logged
abbrev pub due_of : Entry → Option ℕ
due_of entry = due_at entry.tally

-- how many counts there are at most when one of this subject begins: nine places are for what is about no mount
abbrev pub most_counts : Subject → ℕ
most_counts (subjects.Mount name) = 119
most_counts subjects.Others = 128
most_counts subjects.NoMount = 128

-- A count of this subject and status counts one request more, the last one of this peer. The others stay as they were.
pub record CountsOne (old new : List Entry) (subject : Subject) (status : Status) (peer : SocketAddr) : Type 0 where
  pub place : ℕ
  pub entry : Entry
  pub is_there : slice_get old place ≡ Some entry
  pub is_count : IsCountOf subject status entry
  pub counted : new ≡ slice_set old place (record entry { last = peer; tally = record entry.tally { count = capped (entry.tally.count + 1) } })

-- A count of this subject and status begins with one request of this peer.
pub record BeginsCount (old new : List Entry) (subject : Subject) (status : Status) (peer : SocketAddr) : Type 0 where
  pub entry : Entry
  pub is_count : IsCountOf subject status entry
  pub last : entry.last ≡ peer
  pub tally : entry.tally ≡ record { count = 1; told = None }
  pub added : new ≡ old ++ entry ∷ []

-- none of these counts is of this subject and status
abbrev pub IsUncounted : List Entry → Subject → Status → Type 0
IsUncounted entries subject status = All (λ entry. IsCountOf subject status entry → ⊥) entries

-- A request is counted by the count of its subject and status. It begins if there was none.
abbrev pub AddsOne : (old new : List Entry) → Subject → Status → (peer : SocketAddr) → Type 0
AddsOne old new subject status peer = CountsOne old new subject status peer ⊎ (IsUncounted old subject status × BeginsCount old new subject status peer)

-- A request is counted by its subject or, if there was no count of that and none could begin, as one about others. It isn't counted
-- only if there was no count of others, and no place for one.
abbrev pub Counts : (old new : List Entry) → Subject → Status → (peer : SocketAddr) → Type 0
Counts old new subject status peer = AddsOne old new subject status peer
    ⊎ (IsUncounted old subject status × (AddsOne old new subjects.Others status peer
    ⊎ (IsUncounted old subjects.Others status × (128 ≤ length old) × (new ≡ old))))

-- whether a line was written less than a minute before this moment
abbrev pub was_told_lately : (now : ℕ) → Option ℕ → Bool
was_told_lately now None = false
was_told_lately now (Some told) = nat_lt (now - told) 60000

-- whether a count is kept at this moment: something came since its line, or that was written less than a minute ago
abbrev pub is_kept : (now : ℕ) → Entry → Bool
is_kept now entry = if entry.tally.count == 0 then was_told_lately now entry.tally.told else true

-- its line is due at this moment
abbrev pub IsDueCount : (now : ℕ) → Entry → Type 0
IsDueCount now entry = IsDue entry.tally now

-- Of these counts the first whose line is due at this moment has this line, and then counts as reported. The others stay as they were.
pub record TellsFirst (old new : List Entry) (now : ℕ) (line : RefusedLine) : Type 0 where
  pub place : ℕ
  pub entry : Entry
  pub is_there : slice_get old place ≡ Some entry
  pub is_due : IsDueCount now entry
  pub none_before : All (λ before. IsDueCount now before → ⊥) (take place old)
  pub count : line.count ≡ entry.tally.count
  pub status : line.status ≡ entry.status
  pub subject : (line.kept ≡ kept.Others) ⊎ (line.kept ≡ entry.kept)
  pub last : line.last ≡ entry.last
  pub told : new ≡ slice_set old place (record entry { tally = record { count = 0; told = Some now } })
