-- What an intake hands out, one step after another.
use Rattle.std.proofs.Common.{◌≡◌, ℕ, List, [], ◌∷◌, ◌++◌, Option, ◌+◌, ◌≤◌, length, refl, sym, ap, subst, ◌∙◌, arith, append_assoc, append-nil, length-append}
use Rattle.rtsp_message.specs.declared.peer.Peer.TheVariants.{Client}
use Rattle.rtsp_message.proofs.Pieces.{unit_is_some}
use Rattle.std.specs.Io.KnownBytes.{Consumes}
use Rattle.std.proofs.KnownBytes.{Consumes-trans, Consumes-nil}
use Rattle.rtsp_message.specs.declared.unit.Unit.{Unit as StreamUnit}
use Rattle.rtsp_message.specs.Stream.{Piece, Pad, Whole, ArePieces, bytes_of, units_of, Ending, Waits, Fails, EndsAs, Reads, ReadsOn, waiting_len}
use Rattle.rtsp_message.specs.Intakes.{IntakeState, HandsOut}
use Rattle.rtsp_message.proofs.Compose.{readings_compose}

-- reading on twice is reading on once
pub reads_twice : (d m e : Ending) (a b : List ℕ) (us vs : List StreamUnit) → ReadsOn d a us m → ReadsOn m b vs e → ReadsOn d (a ++ b) (us ++ vs) e
reads_twice (Waits rest) m e a b us vs p q = subst (λ (l : List ℕ). Reads l (us ++ vs) e) (append_assoc rest a b) (readings_compose Client (rest ++ a) b us vs m e p q)
reads_twice (Fails fault) m e a b us vs p q =
    let on = subst (λ (x : Ending). ReadsOn x b vs e) p.1 q in
    (ap (λ (l : List StreamUnit). l ++ vs) p.0 ∙ on.0, on.1)

rest_reads : (rest bytes : List ℕ) → EndsAs bytes (Waits rest) → Reads (rest ++ []) [] (Waits rest)
rest_reads rest bytes p = record { pieces = []; rest = rest; whole = append-nil rest; are_pieces = tt; units_are = refl; ends = subst (λ (l : List ℕ). EndsAs l (Waits rest)) p.0 p }

-- where a reading has come to, reading nothing more gives nothing
pub settled : (d m : Ending) (a : List ℕ) (us : List StreamUnit) → ReadsOn d a us m → ReadsOn m [] [] m
settled (Waits rest) (Waits other) a us p = rest_reads other p.rest p.ends
settled (Waits rest) (Fails fault) a us p = (refl, refl)
settled (Fails fault) (Waits other) a us p = absurd (cc)
settled (Fails fault) (Fails other) a us p = (refl, refl)

pub units_take_bytes : (pieces : List Piece) → ArePieces pieces → length (units_of pieces) ≤ length (bytes_of pieces)
units_take_bytes [] p = omega arith
units_take_bytes (Pad byte ∷ pieces) p = omega (arith, units_take_bytes pieces p.1)
units_take_bytes (Whole bytes content ∷ pieces) p = omega (arith, units_take_bytes pieces p.1, unit_is_some Client bytes content p.0, length-append bytes (bytes_of pieces))

reading_takes_bytes : (stream : List ℕ) (us : List StreamUnit) (m : Ending) → Reads stream us m → length us + waiting_len m ≤ length stream
reading_takes_bytes stream us (Waits rest) p =
    omega (arith, ap length p.whole, length-append (bytes_of p.pieces) p.rest, ap length p.units_are, units_take_bytes p.pieces p.are_pieces, ap length p.ends.0)
reading_takes_bytes stream us (Fails fault) p =
    omega (arith, ap length p.whole, length-append (bytes_of p.pieces) p.rest, ap length p.units_are, units_take_bytes p.pieces p.are_pieces)

-- each unit takes bytes
pub units_found : (d m : Ending) (a : List ℕ) (us : List StreamUnit) → ReadsOn d a us m → length us + waiting_len m ≤ waiting_len d + length a
units_found (Waits rest) m a us p = omega (arith, reading_takes_bytes (rest ++ a) us m p, length-append rest a)
units_found (Fails fault) m a us p = let e : waiting_len m ≡ 0 = ap waiting_len p.1 in omega (arith, ap length p.0, e)

module _ {S : Type 0} (incoming : S → Option (List ℕ)) where
  -- one after another
  pub HandsOut-trans : (a b c : IntakeState S) (us vs : List StreamUnit) → HandsOut incoming a b us → HandsOut incoming b c vs → HandsOut incoming a c (us ++ vs)
  HandsOut-trans a b c us vs p q = record {
    read = p.read ++ q.read;
    taken = p.taken ++ q.taken;
    found = p.found ++ q.found;
    given = Consumes-trans (incoming a.source) (incoming b.source) (incoming c.source) p.read q.read p.given q.given;
    kept =
        sym (append_assoc a.held p.read q.read) ∙ ap (λ (l : List ℕ). l ++ q.read) p.kept ∙ append_assoc p.taken b.held q.read
        ∙ ap (λ (l : List ℕ). p.taken ++ l) q.kept ∙ sym (append_assoc p.taken q.taken c.held);
    reads = reads_twice a.reading b.reading c.reading p.taken q.taken p.found q.found p.reads q.reads;
    order =
        sym (append_assoc a.queue p.found q.found) ∙ ap (λ (l : List StreamUnit). l ++ q.found) p.order ∙ append_assoc us b.queue q.found
        ∙ ap (λ (l : List StreamUnit). us ++ l) q.order ∙ sym (append_assoc us vs c.queue);
  }

  -- the reader took nothing: what the source gave is held
  pub holds_more : (old new : IntakeState S) (read : List ℕ) (units : List StreamUnit) → Consumes (incoming old.source) (incoming new.source) read → new.held ≡ old.held ++ read → new.reading ≡ old.reading → ReadsOn old.reading [] [] old.reading → old.queue ≡ units ++ new.queue → HandsOut incoming old new units
  holds_more old new read units given held reading stands queue = record {
    read = read;
    taken = [];
    found = [];
    given = given;
    kept = sym held;
    reads = subst (ReadsOn old.reading [] []) (sym reading) stands;
    order = append-nil old.queue ∙ queue;
  }

  -- nothing happened
  pub holds_same : (old : IntakeState S) → ReadsOn old.reading [] [] old.reading → HandsOut incoming old old []
  holds_same old stands = holds_more old old [] [] (Consumes-nil (incoming old.source)) (sym (append-nil old.held)) refl stands refl
