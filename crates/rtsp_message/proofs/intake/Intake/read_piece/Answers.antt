use Rattle.std.proofs.Common.{◌≡◌, ℕ, List, ◌∷◌, ◌++◌, [], None, take, drop, refl, sym, ap, subst, ◌∙◌, inl, inr, append-nil, arith, true, ◌+◌, ◌-◌, ◌≤◌, length, take-append-drop, drop-drop, length-drop, length-append, length-take, length-take, take-append-drop}
use Rattle.std.proofs.lemmas.List.{length-take-le, drop_all, take_rest}
use Rattle.std.proofs.KnownBytes.{Consumes-nil, Consumes-kept}
use Rattle.std.specs.Io.KnownBytes.{Consumes}
use Rattle.std.specs.Vec.Iter.{into_iter_items}
use Rattle.rtsp_message.specs.declared.unit.Unit.{Unit as StreamUnit}
use Rattle.rtsp_message.specs.ReaderStates.{ReaderState}
use Rattle.rtsp_message.specs.Stream.{Ending, ReadsOn, fault_of, waiting_len}
use Rattle.rtsp_message.specs.IntakeFields.{state_of}
use Rattle.rtsp_message.specs.Pieces.{bytes_in}
use Rattle.rtsp_message.proofs.HandingOut.{units_found, settled, holds_more, holds_same}
use Rattle.rtsp_message.specs.Parts.{AreFew}
use Rattle.rtsp_message.proofs.PartUnits.{one_a_byte, no_more_than_counted}
use Rattle.rtsp_message.specs.Intakes.{IntakeState, HandsOut}
use Rattle.rtsp_message.proofs.Fetching.{Fetched, FedPart}
use Rattle.rtsp_message.proofs.intake.Intake.read_piece.Given.{Over}
use Rattle.rtsp_message.proofs.intake.Intake.read_piece.Goals.{After-feed, In-Ok-feed, then-self-2+in-Ok, else-self-2}
use Rattle.rtsp_message.proofs.intake.Intake.read_piece.Goals as goal

-- what is left of the piece if all of it was taken
none_held : (from held : ℕ) (piece : List ℕ) → from ≡ held → drop from (take held piece) ≡ []
none_held from held piece same = drop_all from (take held piece) (omega (arith, length-take held piece))

-- nor is anything left whatever is in its place
none_either : (from held : ℕ) (old new : List ℕ) → from ≡ held → drop from (take held new) ≡ drop from (take held old) ++ []
none_either from held old new same = none_held from held new same ∙ ap (λ (l : List ℕ). l ++ []) (sym (none_held from held old same))

hand_len : (from held : ℕ) (piece : List ℕ) → held ≤ length piece → length (drop from (take held piece)) ≡ held - from
hand_len from held piece within = omega (arith, length-drop from (take held piece), length-take held piece)

fetched : (g : Over) (c : After-feed g) → Fetched g.S.Source.incoming g.S.Source.bound g.S.Source.gives c.args.self.now c.if-self-2.self-inside
fetched g c =
    let inside = c.self.inside in
    let from_inside : Fetched g.S.Source.incoming g.S.Source.bound g.S.Source.gives (state_of inside) c.if-self-2.self-inside = elim c.if-self-2.branch [
      | then-self-2+in-Ok w ↦
          let got = take w.in-Ok.count (bytes_in w.read_from.new.self) in
          let size : length got ≡ w.in-Ok.count = length-take-le w.in-Ok.count (bytes_in w.read_from.new.self) w.in-Ok.ensures.count in
          let queue : into_iter_items inside.units ≡ [] = ap (λ (s : IntakeState g.row.S.Denot). s.queue) c.self.view_is ∙ c.requires in
          let none = none_held inside.from inside.held (bytes_in inside.piece) w.if-self-2.true in
          subst (Fetched g.S.Source.incoming g.S.Source.bound g.S.Source.gives (state_of inside)) (sym w.self-inside-is) (record {
            read = got;
            given = w.in-Ok.ensures.bytes;
            left = ap (λ (n : ℕ). g.S.Source.bound w.read_from.new.source + n) size ∙ w.in-Ok.ensures.left;
            pieces = got ∷ [];
            came = (w.read_from.new.source, omega (arith, size), w.in-Ok.ensures.gave, refl);
            whole = append-nil got;
            once = inr (queue, none, sym c.in_default.ensures, c.if-self.false, got, w.in-Ok.ensures.gave);
            held = ap (λ (l : List ℕ). l ++ got) (sym none);
            reading = refl;
            queue = refl;
            fits = w.in-Ok.ensures.count;
            room = omega (arith, w.read_from.ensures.room, w.lengthen.ensures.longer, c.self.invariant.room);
            most = omega (arith, w.read_from.ensures.room, w.lengthen.ensures.most);
            some = omega arith;
            was_going = c.if-self.false;
            going = c.if-self.false;
          })
      | else-self-2 w ↦
          subst (Fetched g.S.Source.incoming g.S.Source.bound g.S.Source.gives (state_of inside)) (sym w.self-inside-is) (record {
            read = [];
            given = Consumes-nil (g.S.Source.incoming inside.source);
            left = omega arith;
            pieces = [];
            came = refl;
            whole = refl;
            once = inl refl;
            held = sym (append-nil (drop inside.from (take inside.held (bytes_in inside.piece))));
            reading = refl;
            queue = refl;
            fits = c.self.invariant.within;
            room = c.self.invariant.room;
            most = c.self.invariant.most;
            some = omega (arith, c.self.invariant.fed);
            was_going = c.if-self.false;
            going = c.if-self.false;
          })
    ] in
    subst (λ old. Fetched g.S.Source.incoming g.S.Source.bound g.S.Source.gives old c.if-self-2.self-inside) c.self.view_is from_inside

fed_part : (g : Over) (c : In-Ok-feed g) → FedPart c.if-self-2.self-inside.from c.if-self-2.self-inside.held (bytes_in c.if-self-2.self-inside.piece) c.part_len-len.result c.if-self-2.self-inside.reader.reading c.in-Ok-feed.fed.units.items c.feed.new.self.reading
fed_part g c =
    let i = c.if-self-2.self-inside in
    let f = fetched g (goal.at.In-Ok-feed g c).After-feed in
    let len = c.part_len-len.result in
    let piece = c.as_slice.result.now in
    let fits : i.held ≤ length piece = omega (arith, f.fits, ap length c.as_slice.ensures) in
    let all = take i.held piece in
    let hand = drop i.from all in
    let units = c.in-Ok-feed.fed.units.items in
    let old = i.reader.reading in
    let new = c.feed.new.self.reading in
    let same = take_rest all i.from in
    let within : len ≤ length hand = omega (arith, c.part_len-len.ensures.within, ap length same) in
    let size : length (take len hand) ≡ len = length-take-le len hand within in
    let reads = subst (λ (l : List ℕ). ReadsOn old (take len l) units new) same c.in-Ok-feed.ensures.units in
    let stands = subst (λ (d : Ending). ReadsOn d [] [] d) (sym f.reading) (subst (λ (o : IntakeState g.row.S.Denot). ReadsOn o.reading [] [] o.reading) c.self.view_is c.self.invariant.settled) in
    let bytes : length units ≤ len = omega (arith, one_a_byte old new (take len hand) units stands reads, size) in
    let fault : fault_of old ≡ None = ap fault_of f.reading ∙ subst (λ (o : IntakeState g.row.S.Denot). fault_of o.reading ≡ None) c.self.view_is (sym c.in_default.ensures) in
    subst (λ (piece : List ℕ). FedPart i.from i.held piece len old units new) c.as_slice.ensures (record {
      some = c.part_len-len.ensures.some;
      within = omega (arith, within, fits, f.some, hand_len i.from i.held piece fits);
      reads = reads;
      size = size;
      cut = sym (take-append-drop len hand) ∙ ap (λ (l : List ℕ). take len hand ++ l) (drop-drop len i.from all);
      bytes = bytes;
      few = elim c.part_len-len.ensures.few [
        | inl mixed ↦ omega (arith, bytes, mixed)
        | inr frames ↦
            let counted = subst (λ (l : List ℕ). AreFew 512 l len) same frames.1 in
            omega (arith, no_more_than_counted old new hand len 512 units fault (sym c.waiting.ensures.value ∙ frames.0) counted reads)
      ];
    })

pub invariant_of-self-in-Ok-feed : goal.invariant_of-self-in-Ok-feed
invariant_of-self-in-Ok-feed g c =
    let at = goal.at.invariant_of-self-in-Ok-feed g c in
    let f = fetched g at.After-feed in
    let p = fed_part g at.In-Ok-feed in
    record {
      within = f.fits;
      room = f.room;
      most = f.most;
      fed = p.within;
      settled = settled _ _ _ _ p.reads;
      at_end = λ ended. absurd (cc (ended, f.going));
      waits = c.in-Ok-feed.ensures.bound;
      queued = omega (arith, p.few, ap length c.into_iter.ensures.rest);
      few = omega (arith, p.bytes, ap length c.into_iter.ensures.rest);
    }

pub returns-in-Ok-feed-clause-hands_out : goal.returns-in-Ok-feed-clause-hands_out
returns-in-Ok-feed-clause-hands_out g c =
    let at = goal.at.returns-in-Ok-feed-clause-hands_out g c in
    let f = fetched g at.After-feed in
    let p = fed_part g at.In-Ok-feed in
    let i = c.if-self-2.self-inside in
    let units = c.in-Ok-feed.fed.units.items in
    record {
      read = f.read;
      taken = take c.part_len-len.result (drop i.from (take i.held (bytes_in i.piece)));
      found = units;
      given = f.given;
      kept = sym f.held ∙ p.cut;
      reads = subst (λ (d : Ending). ReadsOn d (take c.part_len-len.result (drop i.from (take i.held (bytes_in i.piece)))) units c.feed.new.self.reading) f.reading p.reads;
      order = ap (λ (q : List StreamUnit). q ++ units) c.requires ∙ sym c.into_iter.ensures.rest;
    }

pub returns-in-Err-feed-clause-hands_out : goal.returns-in-Err-feed-clause-hands_out
returns-in-Err-feed-clause-hands_out g c =
    let f = fetched g (goal.at.returns-in-Err-feed-clause-hands_out g c).After-feed in
    let new = state_of (record c.if-self-2.self-inside { reader = c.feed.new.self }) in
    let stands = subst (λ (o : IntakeState g.row.S.Denot). ReadsOn o.reading [] [] o.reading) c.self.view_is c.self.invariant.settled in
    holds_more g.S.Source.incoming c.args.self.now new f.read [] f.given f.held (ap (λ (r : ReaderState). r.reading) c.in-Err-feed.ensures.err ∙ f.reading) stands (sym f.queue)

pub returns-in-Err-feed-clause-tells : goal.returns-in-Err-feed-clause-tells
returns-in-Err-feed-clause-tells g c =
    let f = fetched g (goal.at.returns-in-Err-feed-clause-tells g c).After-feed in
    let i = c.if-self-2.self-inside in
    let fault = subst (λ (o : IntakeState g.row.S.Denot). fault_of o.reading ≡ None) c.self.view_is (sym c.in_default.ensures) in
    (f.queue ∙ c.requires, ap (λ (r : ReaderState). fault_of r.reading) c.in-Err-feed.ensures.err ∙ ap fault_of f.reading ∙ fault, omega (arith, f.some, hand_len i.from i.held (bytes_in i.piece) f.fits))

pub returns-in-Some-clause-hands_out : goal.returns-in-Some-clause-hands_out
returns-in-Some-clause-hands_out g c =
    subst (λ s. HandsOut g.S.Source.incoming s s []) c.self.view_is (holds_same g.S.Source.incoming (state_of c.self.inside) c.self.invariant.settled)

pub returns-then-self-clause-hands_out : goal.returns-then-self-clause-hands_out
returns-then-self-clause-hands_out g c =
    subst (λ s. HandsOut g.S.Source.incoming s s []) c.self.view_is (holds_same g.S.Source.incoming (state_of c.self.inside) c.self.invariant.settled)

pub returns-in-Ok-eq0-clause-hands_out : goal.returns-in-Ok-eq0-clause-hands_out
returns-in-Ok-eq0-clause-hands_out g c =
    let inside = c.self.inside in
    let new = state_of (record inside { source = c.read_from.new.source; piece = c.read_from.new.self; ended = true }) in
    let given : Consumes (g.S.Source.incoming inside.source) (g.S.Source.incoming c.read_from.new.source) [] =
    subst (λ (n : ℕ). Consumes (g.S.Source.incoming inside.source) (g.S.Source.incoming c.read_from.new.source) (take n (bytes_in c.read_from.new.self))) c.in-Ok-eq0.field-0-test c.in-Ok-eq0.ensures.bytes in
    let held = none_either inside.from inside.held (bytes_in inside.piece) (bytes_in c.read_from.new.self) c.if-self-2.true in
    subst (λ s. HandsOut g.S.Source.incoming s new []) c.self.view_is (holds_more g.S.Source.incoming (state_of inside) new [] [] given held refl c.self.invariant.settled refl)

pub returns-in-Err-clause-hands_out : goal.returns-in-Err-clause-hands_out
returns-in-Err-clause-hands_out g c =
    let inside = c.self.inside in
    let new = state_of (record inside { source = c.read_from.new.source; piece = c.read_from.new.self }) in
    let before = g.S.Source.incoming inside.source in
    let given = Consumes-kept before before (g.S.Source.incoming c.read_from.new.source) [] (Consumes-nil before) c.in-Err.ensures.refused_moves_none in
    let held = none_either inside.from inside.held (bytes_in inside.piece) (bytes_in c.read_from.new.self) c.if-self-2.true in
    subst (λ s. HandsOut g.S.Source.incoming s new []) c.self.view_is (holds_more g.S.Source.incoming (state_of inside) new [] [] given held refl c.self.invariant.settled refl)

pub returns-in-Ok-feed-clause-ends : goal.returns-in-Ok-feed-clause-ends
returns-in-Ok-feed-clause-ends g c =
    let at = goal.at.returns-in-Ok-feed-clause-ends g c in
    let f = fetched g at.After-feed in
    let p = fed_part g at.In-Ok-feed in
    let i = c.if-self-2.self-inside in
    let part = take c.part_len-len.result (drop i.from (take i.held (bytes_in i.piece))) in
    let found = units_found i.reader.reading c.feed.new.self.reading part c.in-Ok-feed.fed.units.items p.reads in
    let bytes = ap length (sym f.held ∙ p.cut) in
    omega (arith, found, f.left, bytes, length-append part (drop (i.from + c.part_len-len.result) (take i.held (bytes_in i.piece))), length-append c.args.self.now.held f.read, ap waiting_len f.reading, ap length c.into_iter.ensures.rest)

pub returns-in-Ok-feed-clause-once : goal.returns-in-Ok-feed-clause-once
returns-in-Ok-feed-clause-once g c = (fetched g (goal.at.returns-in-Ok-feed-clause-once g c).After-feed).once

pub returns-in-Err-feed-clause-once : goal.returns-in-Err-feed-clause-once
returns-in-Err-feed-clause-once g c = (fetched g (goal.at.returns-in-Err-feed-clause-once g c).After-feed).once

pub returns-in-Ok-feed-clause-takes : goal.returns-in-Ok-feed-clause-takes
returns-in-Ok-feed-clause-takes g c =
    let at = goal.at.returns-in-Ok-feed-clause-takes g c in
    let f = fetched g at.After-feed in
    let p = fed_part g at.In-Ok-feed in
    let i = c.if-self-2.self-inside in
    let part = take c.part_len-len.result (drop i.from (take i.held (bytes_in i.piece))) in
    record {
      pieces = f.pieces;
      taken = part;
      none_queued = c.requires;
      not_ended = f.was_going;
      came = f.came;
      kept = ap (λ (l : List ℕ). c.args.self.now.held ++ l) f.whole ∙ sym f.held ∙ p.cut;
      reads = subst (λ (q : List StreamUnit). ReadsOn c.args.self.now.reading part q c.feed.new.self.reading) (sym c.into_iter.ensures.rest)
          (subst (λ (d : Ending). ReadsOn d part c.in-Ok-feed.fed.units.items c.feed.new.self.reading) f.reading p.reads);
    }
