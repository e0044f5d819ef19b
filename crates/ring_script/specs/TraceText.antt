-- The text of a trace: one line a step, then one line an event.
use Rattle.std.specs.Prelude.{ℕ, ◌+◌, Bool, true, false, List, [], ◌∷◌, ◌++◌, Option, None, Some, codes, decimal, slice_get}
use Rattle.hex.specs.Hex.{encode_lower}
use Rattle.cursor.specs.declared.calls.Answer.{Answer}
use Rattle.cursor.specs.declared.calls.Answer.TheVariants.{Appended, Refused, Closed, Attached, Taken, Detached}
use Rattle.cursor.specs.declared.takes.Delivery.{Delivery}
use Rattle.cursor.specs.declared.takes.Delivery.TheVariants as deliveries
use Rattle.ring_steps.specs.declared.calls.Observed.{Observed}
use Rattle.ring_steps.specs.declared.calls.Observed.TheVariants.{Load, Pin, Unpin, Begin, Finish, Length, Byte, Append, Close}
use Rattle.ring_steps.specs.declared.words.Word.{Word}
use Rattle.ring_steps.specs.declared.trace.Trace.{Trace}
use Rattle.ring_steps.specs.declared.trace.TraceStep.{TraceStep}
use Rattle.ring_steps.specs.declared.trace.TraceEvent.{TraceEvent}
use Rattle.ring_steps.specs.Texts.{actor_text}

abbrev pub bit_text : Bool → List ℕ
bit_text true = codes "1"
bit_text false = codes "0"

-- pins, writing bit and number field
abbrev pub word_text : Word → List ℕ
word_text word = decimal word.pins ++ codes " " ++ bit_text word.writing ++ codes " " ++ decimal word.number

-- what a step did, with what it saw
abbrev pub saw_text : Observed → List ℕ
saw_text (Load head) = codes "load " ++ decimal head.length ++ codes " " ++ bit_text head.closed
saw_text (Pin word) = codes "pin " ++ word_text word
saw_text (Unpin word) = codes "unpin " ++ word_text word
saw_text (Begin word) = codes "begin " ++ word_text word
saw_text (Finish word) = codes "finish " ++ word_text word
saw_text (Length len) = codes "len " ++ decimal len
saw_text (Byte byte) = codes "byte " ++ encode_lower (byte ∷ [])
saw_text (Append length) = codes "append " ++ decimal length
saw_text Close = codes "close"

-- the line of the step with this index
unfoldable pub step_line : ℕ → TraceStep → List ℕ
step_line index step = decimal index ++ codes " " ++ actor_text step.actor ++ codes " " ++ saw_text step.saw ++ codes "\n"

-- the lines of these steps, the first of them with this index
abbrev pub step_lines : ℕ → List TraceStep → List ℕ
step_lines index [] = []
step_lines index (step ∷ steps) = step_line index step ++ step_lines (index + 1) steps

-- the pins of the word that a publish found as it began
abbrev pub pins_in : Observed → ℕ
pins_in (Begin word) = word.pins
pins_in saw = 0

abbrev pub pins_of : Option TraceStep → ℕ
pins_of None = 0
pins_of (Some step) = pins_in step.saw

abbrev pub delivery_text : Delivery → List ℕ
delivery_text (deliveries.Got number packet) = codes "took " ++ decimal number ++ codes " " ++ encode_lower packet.bytes
delivery_text (deliveries.Lost count) = codes "lost " ++ decimal count
delivery_text deliveries.Empty = codes "empty"
delivery_text deliveries.Ended = codes "ended"

-- an answer, where the acting step found so many pins
abbrev pub answer_text : (pins : ℕ) → Answer → List ℕ
answer_text pins (Appended number) = codes "appended " ++ decimal number
answer_text pins Refused = codes "refused " ++ decimal pins
answer_text pins Closed = codes "close"
answer_text pins (Attached cursor) = codes "attach " ++ decimal cursor
answer_text pins (Taken delivery) = delivery_text delivery
answer_text pins (Detached left) = codes "detach " ++ decimal left.taken ++ codes " " ++ decimal left.lost ++ codes " " ++ decimal left.left

-- the line of an event among these steps
unfoldable pub event_line : List TraceStep → TraceEvent → List ℕ
event_line steps event =
    codes "@" ++ decimal event.step ++ codes " " ++ actor_text event.actor ++ codes " "
    ++ answer_text (pins_of (slice_get steps event.step)) event.answer ++ codes "\n"

abbrev pub event_lines : List TraceStep → List TraceEvent → List ℕ
event_lines steps [] = []
event_lines steps (event ∷ events) = event_line steps event ++ event_lines steps events

abbrev pub trace_text : Trace → List ℕ
trace_text trace = step_lines 0 trace.steps.items ++ event_lines trace.steps.items trace.events.items
