-- What an intake still has to hand out.
use Rattle.std.specs.Prelude.{◌≡◌, ◌+◌, ◌<◌, ◌⊎◌, ℕ, Bool, true, false, List, [], ◌∷◌, ◌++◌, Option, None, Some, length}
use Rattle.std.specs.List.{concat}
use Rattle.std.specs.Io.KnownBytes.{Consumes, IsAtEnd}
use Rattle.rtsp_message.specs.declared.unit.Unit.{Unit as StreamUnit}
use Rattle.rtsp_message.specs.declared.intake.Next.{Next}
use Rattle.rtsp_message.specs.declared.intake.Next.TheVariants as answers
use Rattle.rtsp_message.specs.Stream.{Ending, Waits, Fails, ReadsOn, fault_of, waiting_len}

-- An intake: its source, the units that are read and not handed out, where the reading stands,
-- the bytes that the source gave and the reader has not taken, and whether the source gave all.
pub record IntakeState (S : Type 0) : Type 0 where
  pub source : S
  pub queue : List StreamUnit
  pub reading : Ending
  pub held : List ℕ
  pub ended : Bool

-- an intake from which nothing was taken yet
abbrev pub fresh : {S : Type 0} → S → IntakeState S
fresh source = record { source = source; queue = []; reading = Waits []; held = []; ended = false }

-- the unit that an answer hands out
abbrev pub handed : Next → List StreamUnit
handed (answers.Unit content) = content ∷ []
handed answers.End = []
handed (answers.Fault fault) = []
handed answers.ReadFailed = []
handed answers.OutOfMemory = []

-- From old to new these units were handed out: the source gave bytes, the reader took some of what was held and given
-- and found units in them, and the rest is held. What was queued and what was found is handed out or queued, in order.
pub record HandsOut {S : Type 0} (incoming : S → Option (List ℕ)) (old new : IntakeState S) (units : List StreamUnit) : Type 0 where
  pub read : List ℕ
  pub taken : List ℕ
  pub found : List StreamUnit
  pub given : Consumes (incoming old.source) (incoming new.source) read
  pub kept : old.held ++ read ≡ taken ++ new.held
  pub reads : ReadsOn old.reading taken found new.reading
  pub order : old.queue ++ found ≡ units ++ new.queue

-- At least as many bytes and units as an intake may still hand out: each unit takes bytes.
abbrev pub weight : {S : Type 0} → (S → ℕ) → IntakeState S → ℕ
weight bound intake = bound intake.source + length intake.held + waiting_len intake.reading + length intake.queue

module _ {S : Type 0} where
  -- all that was read is handed out, and there was no fault
  abbrev pub IsDrained : IntakeState S → Type 0
  IsDrained intake = (intake.queue ≡ []) × (intake.held ≡ []) × (fault_of intake.reading ≡ None)

  -- What an answer tells of the intake, beside the unit that it hands out. Where memory was refused, bytes are held that
  -- the reader has not taken.
  abbrev pub Tells : (S → Option (List ℕ)) → (S → Bool) → IntakeState S → Next → Type 0
  Tells incoming failed intake (answers.Unit content) = Unit {0}
  Tells incoming failed intake answers.End = IsDrained intake × IsAtEnd (incoming intake.source)
  Tells incoming failed intake (answers.Fault fault) = (intake.queue ≡ []) × (intake.reading ≡ Fails fault)
  Tells incoming failed intake answers.ReadFailed = IsDrained intake × (failed intake.source ≡ true)
  Tells incoming failed intake answers.OutOfMemory = (intake.queue ≡ []) × (fault_of intake.reading ≡ None) × (0 < length intake.held)

  -- each call answers so from then on
  abbrev pub IsOver : (S → Bool) → IntakeState S → Next → Type 0
  IsOver failed intake (answers.Unit content) = ⊥
  IsOver failed intake answers.End = (intake.queue ≡ []) × (fault_of intake.reading ≡ None) × (intake.ended ≡ true)
  IsOver failed intake (answers.Fault fault) = (intake.queue ≡ []) × (fault_of intake.reading ≡ Some fault)
  IsOver failed intake answers.ReadFailed =
      (intake.queue ≡ []) × (fault_of intake.reading ≡ None) × (intake.ended ≡ false) × (intake.held ≡ []) × (failed intake.source ≡ true)
  IsOver failed intake answers.OutOfMemory = ⊥

  -- after End, Fault and ReadFailed it is over
  abbrev pub Lasts : (S → Bool) → IntakeState S → Next → Type 0
  Lasts failed intake (answers.Unit content) = Unit {0}
  Lasts failed intake answers.End = IsOver failed intake answers.End
  Lasts failed intake (answers.Fault fault) = IsOver failed intake (answers.Fault fault)
  Lasts failed intake answers.ReadFailed = IsOver failed intake answers.ReadFailed
  Lasts failed intake answers.OutOfMemory = Unit {0}

module _ {S : Type 0} (gives : S → List ℕ → S → Type 0) where
  -- from the one state to the other the source gave these pieces, one a read, and none of them was empty
  abbrev pub Gave : S → List (List ℕ) → S → Type 0
  Gave old [] new = new ≡ old
  Gave old (piece ∷ pieces) new = (mid : S) × (0 < length piece) × gives old piece mid × Gave mid pieces new

  -- The source was read while nothing was at hand. No unit was queued, and the source had not ended. What was held and
  -- what these pieces brought held no unit and no fault; then came the last read.
  pub record ReadsInNeed (old new : IntakeState S) : Type 0 where
    pub pieces : List (List ℕ)
    pub before : S
    pub reading : Ending
    pub last : List ℕ
    pub none_queued : old.queue ≡ []
    pub not_ended : old.ended ≡ false
    pub came : Gave old.source pieces before
    pub no_unit : ReadsOn old.reading (old.held ++ concat pieces) [] reading
    pub no_fault : fault_of reading ≡ None
    pub last_read : gives before last new.source

  -- the source is as it was, or was read only while nothing was at hand
  abbrev pub IsPrompt : IntakeState S → IntakeState S → Type 0
  IsPrompt old new = (new.source ≡ old.source) ⊎ ReadsInNeed old new

  -- at most one read, and that only where nothing was queued or held, there was no fault and the source had not ended
  abbrev pub ReadsOnce : IntakeState S → IntakeState S → Type 0
  ReadsOnce old new =
      (new.source ≡ old.source)
      ⊎ (old.queue ≡ []) × (old.held ≡ []) × (fault_of old.reading ≡ None) × (old.ended ≡ false) × (piece : List ℕ) × gives old.source piece new.source

  -- Of what was held and what these pieces brought some was read, and the rest is held. The units that it made are queued.
  pub record Takes (old new : IntakeState S) : Type 0 where
    pub pieces : List (List ℕ)
    pub taken : List ℕ
    pub none_queued : old.queue ≡ []
    pub not_ended : old.ended ≡ false
    pub came : Gave old.source pieces new.source
    pub kept : old.held ++ concat pieces ≡ taken ++ new.held
    pub reads : ReadsOn old.reading taken new.queue new.reading

-- an answer that hands out no unit
abbrev pub IsNoUnit : Next → Type 0
IsNoUnit answer = handed answer ≡ []
