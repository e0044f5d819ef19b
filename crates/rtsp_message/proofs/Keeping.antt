-- What a reader keeps, piece by piece.
use Rattle.std.proofs.Common.{◌≡◌, ℕ, ◌+◌, ◌-◌, ◌*◌, ◌^◌, ◌<◌, ◌≤◌, List, [], ◌∷◌, ◌++◌, length, take, drop, get_or, Option, None, Some, true, sym, ap, subst, ◌∙◌, arith, length-append, length-drop}
use Rattle.std.proofs.lemmas.List.{take-append-le, drop-append-le, get_or_append_left, get_or-drop, length-take}
use Rattle.base_syntax.specs.Lines.{HasNoLf}
use Rattle.rtsp_message.specs.declared.peer.Peer.{Peer}
use Rattle.rtsp_message.specs.declared.fault.Fault.{Fault}
use Rattle.interleaved.specs.declared.frame.Frame.{Frame as Block}
use Rattle.interleaved.specs.Frame.{IsFrame, FrameBegins}
use Rattle.rtsp_message.specs.declared.request.Request.{Request}
use Rattle.rtsp_message.specs.declared.unit.Unit.{Unit as StreamUnit}
use Rattle.rtsp_message.specs.declared.unit.Unit.TheVariants.{Message, Frame}
use Rattle.rtsp_message.specs.declared.known.Known.{Known}
use Rattle.rtsp_message.specs.declared.known.Known.TheVariants as knows
use Rattle.rtsp_message.specs.Limits.{waiting_limit}
use Rattle.rtsp_message.specs.Heads.{IsHeadFrom}
use Rattle.rtsp_message.specs.Stores.{StoreState, LooksOnly, between}
use Rattle.rtsp_message.specs.Knowns.{AreGoodLines, IsKnown, IsMessageStart, looks_for}
use Rattle.rtsp_message.specs.ReaderStates.{ending_from, left, read_len, IsRead}
use Rattle.rtsp_message.specs.Stream.{is_pad, BeginsFrame, IsMessageFrom, EndsAsFrom, Waits, ReadsFrom, ReadsSoFar, IsScan}
use Rattle.rtsp_message.proofs.OneUnit.{begins_message}
use Rattle.rtsp_message.proofs.Pieces.{head_is_some, pad_more, unit_more, scan_reads}
use Rattle.rtsp_message.proofs.Fronts.{frame_has_head}
use Rattle.rtsp_message.proofs.Counting.{looks_then}

begins_frame : (bytes more : List ℕ) → BeginsFrame bytes → BeginsFrame (bytes ++ more)
begins_frame [] more p = absurd p
begins_frame (b ∷ bytes) more p = p

between_grows : (bytes more : List ℕ) (i j : ℕ) → i ≤ j → j ≤ length bytes → between (bytes ++ more) i j ≡ between bytes i j
between_grows bytes more i j low high =
    let start : i ≤ length bytes = omega arith in
    let rest : j - i ≤ length (drop i bytes) = omega (arith, length-drop i bytes) in
    ap (take (j - i)) (drop-append-le i bytes more start) ∙ take-append-le (j - i) (drop i bytes) more rest

-- what is known of bytes is known of them with more after them
pub known_grows : (peer : Peer) (bytes more : List ℕ) (known : Known) → IsKnown peer bytes known → IsKnown peer (bytes ++ more) known
known_grows peer bytes more knows.Nothing p = tt
known_grows peer bytes more knows.Dollar p = begins_frame bytes more p
known_grows peer bytes more (knows.Frame len) p =
    let second = get_or_append_left bytes more 0 2 (omega (arith, p.has_head)) in
    let third = get_or_append_left bytes more 0 3 (omega (arith, p.has_head)) in
    record { begins = begins_frame bytes more p.begins; has_head = omega (arith, p.has_head, length-append bytes more); len_is = omega (arith, p.len_is, second, third); most = p.most }
known_grows peer bytes more (knows.FirstLine searched) p =
    record {
      begins = begins_message bytes more p.begins;
      within = omega (arith, p.within, length-append bytes more);
      none_found = subst HasNoLf (sym (between_grows bytes more 0 searched (omega arith) p.within)) p.none_found;
    }
known_grows peer bytes more (knows.Fields line searched told) p =
    record {
      begins = begins_message bytes more p.begins;
      good = subst (λ (l : List ℕ). AreGoodLines peer l told) (sym (take-append-le line bytes more (omega (arith, p.in_order, p.within)))) p.good;
      short = p.short;
      in_order = p.in_order;
      within = omega (arith, p.within, length-append bytes more);
      none_found = subst HasNoLf (sym (between_grows bytes more line searched p.in_order p.within)) p.none_found;
    }
known_grows peer bytes more (knows.Message head len) p =
    record {
      begins = begins_message bytes more p.begins;
      within = omega (arith, p.within, length-append bytes more);
      request = p.request;
      is_head = subst (λ (l : List ℕ). IsHeadFrom peer l p.request) (sym (take-append-le head bytes more p.within)) p.is_head;
      len_is = p.len_is;
    }

-- the units were cut out, and the rest is kept
pub read_done : (peer : Peer) (old mid new : StoreState) (before now : Known) (units : List StreamUnit) (len : ℕ) (fault : Option Fault) → IsScan peer old.bytes units len fault → IsKnown peer (left fault (drop len old.bytes)) now
    → LooksOnly old mid (looks_for before) (6 * read_len (length old.bytes) len fault + looks_for now) → new.bytes ≡ left fault (drop len mid.bytes) → new.room ≤ 2 * length new.bytes → new.looked ≡ mid.looked
    → IsRead peer old.bytes old.looked new before units fault now
read_done peer old mid new before now units len None p known looks kept room looked =
    let rest : new.bytes ≡ drop len old.bytes = kept ∙ ap (drop len) looks.bytes in
    record {
      reads = subst (λ (l : List ℕ). ReadsFrom peer old.bytes units (ending_from l None)) (sym rest) (scan_reads peer None p);
      keeps = subst (λ (l : List ℕ). EndsAsFrom peer l (Waits l) × (length l < waiting_limit)) (sym rest) p.1;
      knows = subst (λ (l : List ℕ). IsKnown peer l now) (sym rest) known;
      room = room;
      at_most = omega (arith, looks.at_most, looked, ap length rest, length-drop len old.bytes, p.0.within);
      grows = λ h. subst (λ (n : ℕ). old.looked ≤ n) (sym looked) (looks.grows h);
      fits = λ h. subst (λ (n : ℕ). n < 2 ^ 64) (sym looked) (looks.fits h);
    }
read_done peer old mid new before now units len (Some fault) p known looks kept room looked =
    record {
      reads = scan_reads peer (Some fault) p;
      keeps = omega (arith, ap length kept);
      knows = subst (λ (l : List ℕ). IsKnown peer l now) (sym kept) known;
      room = room;
      at_most = omega (arith, looks.at_most, looked, ap length kept);
      grows = λ h. subst (λ (n : ℕ). old.looked ≤ n) (sym looked) (looks.grows h);
      fits = λ h. subst (λ (n : ℕ). n < 2 ^ 64) (sym looked) (looks.fits h);
    }

-- a byte between units
pub pad_step : (peer : Peer) (old loop seen : StoreState) (units : List StreamUnit) (len k : ℕ) (known : Known) → ReadsSoFar peer old.bytes units len → LooksOnly old loop k (6 * len + looks_for known) → LooksOnly loop seen (looks_for known) 1
    → (0 < length (drop len loop.bytes)) × (is_pad (get_or (drop len loop.bytes) 0 0) ≡ true) → ReadsSoFar peer old.bytes units (len + 1) × Unit {0} × LooksOnly old seen k (6 * (len + 1) + 0)
pad_step peer old loop seen units len k known p before now found =
    let size = ap length before.bytes in
    let start : len + 0 ≡ len = omega arith in
    let byte : get_or (drop len loop.bytes) 0 0 ≡ get_or old.bytes len 0 = get_or-drop len loop.bytes 0 0 ∙ ap (λ (n : ℕ). get_or loop.bytes n 0) start ∙ ap (λ (l : List ℕ). get_or l len 0) before.bytes in (
      pad_more peer p (omega (arith, found.0, length-drop len loop.bytes, size)) (subst (λ (b : ℕ). is_pad b ≡ true) byte found.1),
      tt,
      looks_then old loop seen k (6 * len + looks_for known) (looks_for known) 1 k (6 * (len + 1) + 0) before now (omega arith),
    )

-- a frame
pub frame_step : (peer : Peer) (old loop seen : StoreState) (units more : List StreamUnit) (len size k : ℕ) (known : Known) (frame : Block) → ReadsSoFar peer old.bytes units len → LooksOnly old loop k (6 * len + looks_for known) → LooksOnly loop seen (looks_for known) 4
    → FrameBegins (drop len loop.bytes) size → IsFrame (take size (drop len seen.bytes)) frame.channel frame.payload → more ≡ units ++ Frame frame ∷ [] → ReadsSoFar peer old.bytes more (len + size) × Unit {0} × LooksOnly old seen k (6 * (len + size) + 0)
frame_step peer old loop seen units more len size k known frame p before now found is more_is =
    let rest : drop len loop.bytes ≡ drop len old.bytes = ap (drop len) before.bytes in
    let cut : take size (drop len seen.bytes) ≡ take size (drop len old.bytes) = ap (λ (l : List ℕ). take size (drop len l)) (now.bytes ∙ before.bytes) in
    let four = frame_has_head (drop len loop.bytes) size found in (
      subst (λ (us : List StreamUnit). ReadsSoFar peer old.bytes us (len + size)) (sym more_is)
          (unit_more peer (Frame frame) size p (omega (arith, found.0, ap length rest)) (subst (λ (l : List ℕ). IsFrame l frame.channel frame.payload) cut is)),
      tt,
      looks_then old loop seen k (6 * len + looks_for known) (looks_for known) 4 k (6 * (len + size) + 0) before now (omega (arith, four, length-take size (drop len loop.bytes))),
    )

-- a message
pub message_step : (peer : Peer) (old loop seen cut : StoreState) (units more : List StreamUnit) (len head size k : ℕ) (known : Known) (request : Request) → ReadsSoFar peer old.bytes units len → LooksOnly old loop k (6 * len + looks_for known)
    → LooksOnly loop seen (looks_for known) (1 + 2 * head) → LooksOnly seen cut 0 head → (size ≤ length (drop len loop.bytes)) × IsMessageStart peer (drop len loop.bytes) head size → IsMessageFrom peer (take size (drop len seen.bytes)) request
    → more ≡ units ++ Message request ∷ [] → ReadsSoFar peer old.bytes more (len + size) × Unit {0} × LooksOnly old cut k (6 * (len + size) + 0)
message_step peer old loop seen cut units more len head size k known request p before now after found is more_is =
    let rest : drop len loop.bytes ≡ drop len old.bytes = ap (drop len) before.bytes in
    let same : take size (drop len seen.bytes) ≡ take size (drop len old.bytes) = ap (λ (l : List ℕ). take size (drop len l)) (now.bytes ∙ before.bytes) in
    let some = head_is_some peer found.1.is_head in
    let both = looks_then old loop seen k (6 * len + looks_for known) (looks_for known) (1 + 2 * head) k (6 * len + (1 + 2 * head)) before now (omega arith) in (
      subst (λ (us : List StreamUnit). ReadsSoFar peer old.bytes us (len + size)) (sym more_is)
          (unit_more peer (Message request) size p (omega (arith, found.0, ap length rest)) (subst (λ (l : List ℕ). IsMessageFrom peer l request) same is)),
      tt,
      looks_then old seen cut k (6 * len + (1 + 2 * head)) 0 head k (6 * (len + size) + 0) both after (omega (arith, some, length-take head (drop len loop.bytes), found.1.len_is)),
    )
