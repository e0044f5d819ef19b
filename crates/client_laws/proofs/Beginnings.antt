-- What is read of a beginning of what a client sends.
use Rattle.std.proofs.Common.{◌≡◌, ◌<◌, ◌⊎◌, ℕ, ◌/◌, ◌%◌, List, [], ◌∷◌, ◌++◌, inl, inr, length, map, refl, sym, ap, subst, ◌∙◌, arith, append_assoc, append-nil, length-append}
use Rattle.std.specs.List.{flat_map, AllByRecursion}
use Rattle.std.proofs.lemmas.List.{append_cancel_left}
use Rattle.rtsp_message.specs.declared.fault.Fault.{Fault}
use Rattle.rtsp_message.specs.declared.peer.Peer.TheVariants.{Client}
use Rattle.rtsp_message.specs.declared.unit.Unit.{Unit as StreamUnit}
use Rattle.rtsp_message.specs.Heads.{HasFault}
use Rattle.rtsp_message.specs.Stream.{BeginsMessage, BeginsWithNoPad, Ending, Fails, IsUnit, IsUnitFrom, Reads, Waits}
use Rattle.rtsp_message.proofs.Compose.{nothing_reads, readings_compose}
use Rattle.rtsp_message.proofs.OneReading.{one_reading}
use Rattle.rtsp_message.proofs.OneUnit.{same_units, unit_begins}
use Rattle.request_text.specs.Sending.{Asking, CanSend, Framed, Sent, sent_text, sent_unit}
use Rattle.request_text.proofs.Messages.{all_read, is_message}
use Rattle.client_laws.specs.Sent.{IsBeginning, ReadsBeginning}

-- of two cuts of one text one is the other's beginning
cut_where : (a x b y : List ℕ) → a ++ x ≡ b ++ y → ((rest : List ℕ) × (a ≡ b ++ rest)) ⊎ (length a < length b)
cut_where a x [] y same = inl (a, refl)
cut_where [] x (c ∷ b) y same = inr (omega arith)
cut_where (d ∷ a) x (c ∷ b) y same = by (cut_where a x b y (cc))
  where
    by : ((rest : List ℕ) × (a ≡ b ++ rest)) ⊎ (length a < length b) → ((rest : List ℕ) × (d ∷ a ≡ (c ∷ b) ++ rest)) ⊎ (length (d ∷ a) < length (c ∷ b))
    by (inl (rest, is)) = let first : d ≡ c = cc in inl (rest, cc)
    by (inr less) = inr (omega (arith, less))

item_is : (item : Sent) → CanSend item → IsUnit (sent_text item) (sent_unit item)
item_is (Asking request) can = is_message request can.0 can.1
item_is (Framed frame) can = (length frame.payload / 256, length frame.payload % 256, refl, omega arith)

-- where fewer bytes have come than the next item has, they wait
module _ (item : Sent) (items : List Sent) (cans : AllByRecursion CanSend (item ∷ items)) (front more : List ℕ) (same : front ++ more ≡ sent_text item ++ flat_map sent_text items) (less : length front < length (sent_text item)) where
  no_pad : BeginsWithNoPad front
  no_pad = by front (unit_begins Client (front ++ more) (sent_text item) (flat_map sent_text items) (sent_unit item) (item_is item cans.0) same)
    where
      by : (bytes : List ℕ) → BeginsWithNoPad (bytes ++ more) → BeginsWithNoPad bytes
      by [] is = tt
      by (b ∷ bytes) is = is

  no_unit : (a x : List ℕ) (content : StreamUnit) → front ≡ a ++ x → IsUnitFrom Client a content → ⊥
  no_unit a x content whole is =
      let one = same_units Client (front ++ more) a (x ++ more) (sent_text item) (flat_map sent_text items) content (sent_unit item) is (item_is item cans.0) (ap (λ (l : List ℕ). l ++ more) whole ∙ append_assoc a x more) same in
      let long = ap length one.0 in
      let all = ap length whole ∙ length-append a x in
      absurd (omega (arith, less, long, all))

  no_fault : (fault : Fault) → BeginsMessage front → HasFault Client front fault → ⊥
  no_fault fault begins has =
      let fails : Reads front [] (Fails fault) = record { pieces = []; rest = front; whole = refl; are_pieces = tt; units_are = refl; ends = (begins, has) } in
      let all : Reads (front ++ more) [] (Fails fault) = readings_compose Client front more [] [] (Fails fault) (Fails fault) fails (refl, refl) in
      let good : Reads (front ++ more) (map sent_unit (item ∷ items)) (Waits []) = subst (λ l. Reads l (map sent_unit (item ∷ items)) (Waits [])) (sym same) (all_read (item ∷ items) cans) in
      let one : Fails fault ≡ Waits [] = (one_reading Client all good).1 in
      absurd (cc)

  waiting : ReadsBeginning (item ∷ items) front
  waiting = record {
    units = [];
    ending = Waits front;
    reads = record { pieces = []; rest = front; whole = refl; are_pieces = tt; units_are = refl; ends = (refl, no_pad, record { no_unit = no_unit; no_fault = no_fault }) };
    begins = record { later = map sent_unit (item ∷ items); first = refl; rest = front; waits = refl };
  }

pub beginning_read : (items : List Sent) (front more : List ℕ) → AllByRecursion CanSend items → front ++ more ≡ flat_map sent_text items → ReadsBeginning items front
beginning_read [] [] more cans same = record { units = []; ending = Waits []; reads = nothing_reads Client; begins = record { later = []; first = refl; rest = []; waits = refl } }
beginning_read [] (b ∷ front) more cans same = absurd (cc)
beginning_read (item ∷ items) front more cans same = by (cut_where front more (sent_text item) (flat_map sent_text items) same) (λ rest tail. beginning_read items rest more cans.1 tail)
  where
    by : ((rest : List ℕ) × (front ≡ sent_text item ++ rest)) ⊎ (length front < length (sent_text item)) → ((rest : List ℕ) → rest ++ more ≡ flat_map sent_text items → ReadsBeginning items rest)
        → ReadsBeginning (item ∷ items) front
    by (inl (rest, is)) later =
        let tail : rest ++ more ≡ flat_map sent_text items =
        append_cancel_left (sent_text item) (rest ++ more) (flat_map sent_text items) (sym (append_assoc (sent_text item) rest more) ∙ ap (λ (l : List ℕ). l ++ more) (sym is) ∙ same) in
        let inner = later rest tail in
        let one : Reads (sent_text item) (sent_unit item ∷ []) (Waits []) = subst (λ l. Reads l (sent_unit item ∷ []) (Waits [])) (append-nil (sent_text item)) (all_read (item ∷ []) (cans.0, tt)) in
        record {
          units = sent_unit item ∷ inner.units;
          ending = inner.ending;
          reads = subst (λ l. Reads l (sent_unit item ∷ inner.units) inner.ending) (sym is) (readings_compose Client (sent_text item) rest (sent_unit item ∷ []) inner.units (Waits []) inner.ending one inner.reads);
          begins = record { later = inner.begins.later; first = ap (λ (l : List StreamUnit). sent_unit item ∷ l) inner.begins.first; rest = inner.begins.rest; waits = inner.begins.waits };
        }
    by (inr less) later = waiting item items cans front more same less

pub beginning_is : (items : List Sent) (front more : List ℕ) (units : List StreamUnit) (ending : Ending) → AllByRecursion CanSend items → front ++ more ≡ flat_map sent_text items
    → Reads front units ending → IsBeginning items units ending
beginning_is items front more units ending cans same reads =
    let known = beginning_read items front more cans same in
    let one = one_reading Client known.reads reads in
    subst (IsBeginning items units) one.1 (subst (λ us. IsBeginning items us known.ending) one.0 known.begins)
