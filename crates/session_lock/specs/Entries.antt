-- The history as it is written down.
use Rattle.std.specs.Prelude.{◌≡◌, ℕ, ◌+◌, ◌≤◌, ◌==◌, if◌then◌else◌, List, [], ◌∷◌, length, take, reverse, is_some, Option, None, Some, vec_capacity}
use Rattle.std.specs.Option.{option_map, unwrap_or}
use Rattle.rtsp_message.specs.declared.request.Request as messages
use Rattle.rtsp_message.specs.declared.reply.Reply.{Reply}
use Rattle.rtsp_message.specs.Reply.{code_of}
use Rattle.session_state.specs.declared.entry.Entry.{Entry}
use Rattle.session_state.specs.declared.method.Method.{Method}
use Rattle.session_state.specs.Methods.{method_of}
use Rattle.session_state.specs.History.{History}
use Rattle.session_state.specs.Stands.{Tables}
use Rattle.session_lock.specs.declared.entries.NextBase.{NextBase}

-- A history; how many of its newest entries are kept, and how many are kept when they are cut off; the world that those
-- before them led to; and for how many more there is room.
pub record Written : Type 0 where
  pub history : History
  pub cut : ℕ
  pub kept : ℕ
  pub base : Tables
  pub room : ℕ

-- the entries that are kept, the newest last, are the newest of the history
abbrev pub AreNewest : (entries history : List Entry) → Type 0
AreNewest entries history = take (length entries) history ≡ reverse entries

-- the base that a cut puts in place, if there is a cut
abbrev pub base_in : Option NextBase → Option Tables
base_in next = option_map (λ (one : NextBase). one.world) next

-- the entries that a cut puts in place are none, and have this room
abbrev pub HasRoomFor : (room : ℕ) → Option NextBase → Type 0
HasRoomFor room None = Unit {0}
HasRoomFor room (Some next) = (next.entries.items ≡ []) × (room ≤ vec_capacity next.entries)

-- An entry is added, in room that was made for it, after those that are kept, or after a new base.
pub record Adds (next : Option Tables) (entry : Entry) (old new : Written) : Type 0 where
  pub history : new.history ≡ entry ∷ old.history
  pub cut : new.cut ≡ old.cut
  pub kept : new.kept ≡ (if is_some next then 0 else old.kept) + 1
  pub base : new.base ≡ unwrap_or next old.base
  pub room : old.room ≤ new.room + 1

-- the method of a request that was answered 200
abbrev pub method_accepted : messages.Request → Reply → Option Method
method_accepted request reply = if code_of reply.status == 200 then method_of request.method else None
