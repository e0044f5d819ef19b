-- Readings one after another.
use Rattle.std.proofs.Common.{◌≡◌, ℕ, ◌+◌, ◌-◌, ◌≤◌, List, [], ◌∷◌, ◌++◌, length, take, refl, sym, ap, subst, ◌∙◌, inl, inr, arith, append_assoc, append-nil, length-append}
use Rattle.std.specs.List.{concat}
use Rattle.std.proofs.lemmas.List.{take-append-le, take_all}
use Rattle.std.proofs.lemmas.Bool.Decides.{leb_tells}
use Rattle.std.proofs.Math.Seq.{take-append-add}
use Rattle.rtsp_message.specs.declared.peer.Peer.{Peer}
use Rattle.rtsp_message.specs.Limits.{head_limit}
use Rattle.rtsp_message.specs.declared.unit.Unit.{Unit as StreamUnit}
use Rattle.rtsp_message.specs.declared.fault.Fault.{Fault}
use Rattle.rtsp_message.specs.declared.fault.Fault.TheVariants.{BadLine, BadHeader, BadLength, HeadTooLong, BodyTooLong}
use Rattle.base_syntax.specs.Lines.{ended}
use Rattle.rtsp_message.specs.Heads.{joined, HasFault, HasBadStartLine, HasStartLine, BreaksHeaders, GoesOn}
use Rattle.rtsp_message.specs.Stream.{bytes_of, units_of, Ending, Waits, Fails, EndsAsFrom, ReadsFrom, ReadsOnFrom, ReadsPiecesFrom}
use Rattle.rtsp_message.proofs.Pieces.{bytes_of-append, units_of-append, ArePieces-append, empty_waits}

-- the front of bytes with more after them is their front, and some of what comes after
take-append : (n : ℕ) (xs ys : List ℕ) → take n (xs ++ ys) ≡ take n xs ++ take (n - length xs) ys
take-append n xs ys = elim (leb_tells n (length xs)) [
  | inl within ↦
      let below : n ≤ length xs = within.1 in
      let none : n - length xs ≡ 0 = omega arith in
      take-append-le n xs ys below ∙ sym (append-nil (take n xs)) ∙ ap (λ (k : ℕ). take n xs ++ take k ys) (sym none)
  | inr past ↦
      let over : length xs ≤ n = omega (arith, past.1) in
      let size : n ≡ length xs + (n - length xs) = omega arith in
      ap (λ (k : ℕ). take k (xs ++ ys)) size ∙ take-append-add xs ys (n - length xs) ∙ ap (λ (l : List ℕ). l ++ take (n - length xs) ys) (sym (take_all n xs over))
]

bad_first_grows : (peer : Peer) (w x : List ℕ) → HasBadStartLine peer w → HasBadStartLine peer (w ++ x)
bad_first_grows peer w x p = record {
  line = p.line;
  more = p.more ++ x;
  whole = ap (λ (l : List ℕ). l ++ x) p.whole ∙ append_assoc (ended p.line) p.more x;
  unbroken = p.unbroken;
  bad = p.bad;
}

bad_header_grows : (peer : Peer) (w x : List ℕ) (fault : Fault) → HasStartLine peer w (λ rest. BreaksHeaders rest fault) → HasStartLine peer (w ++ x) (λ rest. BreaksHeaders rest fault)
bad_header_grows peer w x fault p =
    let b = p.after in
    record {
      first = p.first;
      rest = p.rest ++ x;
      method = p.method;
      uri = p.uri;
      version = p.version;
      whole = ap (λ (l : List ℕ). l ++ x) p.whole ∙ append_assoc (ended p.first) p.rest x;
      first_unbroken = p.first_unbroken;
      request_line = p.request_line;
      after = record {
        lines = b.lines;
        headers = b.headers;
        line = b.line;
        more = b.more ++ x;
        whole = ap (λ (l : List ℕ). l ++ x) b.whole ∙ append_assoc (joined b.lines) (ended b.line ++ b.more) x ∙ ap (λ (l : List ℕ). joined b.lines ++ l) (append_assoc (ended b.line) b.more x);
        are_headers = b.are_headers;
        unbroken = b.unbroken;
        bad = b.bad;
      };
    }

-- a fault stays, whatever comes after it
fault_grows : (peer : Peer) (bytes more : List ℕ) (fault : Fault) → HasFault peer bytes fault → HasFault peer (bytes ++ more) fault
fault_grows peer bytes more BadLine p = subst (HasBadStartLine peer) (sym (take-append head_limit bytes more)) (bad_first_grows peer (take head_limit bytes) (take (head_limit - length bytes) more) p)
fault_grows peer bytes more BadHeader p = subst (λ (w : List ℕ). HasStartLine peer w (λ rest. BreaksHeaders rest BadHeader)) (sym (take-append head_limit bytes more)) (bad_header_grows peer (take head_limit bytes) (take (head_limit - length bytes) more) BadHeader p)
fault_grows peer bytes more BadLength p = subst (λ (w : List ℕ). HasStartLine peer w (λ rest. BreaksHeaders rest BadLength)) (sym (take-append head_limit bytes more)) (bad_header_grows peer (take head_limit bytes) (take (head_limit - length bytes) more) BadLength p)
fault_grows peer bytes more BodyTooLong p = subst (λ (w : List ℕ). HasStartLine peer w (λ rest. BreaksHeaders rest BodyTooLong)) (sym (take-append head_limit bytes more)) (bad_header_grows peer (take head_limit bytes) (take (head_limit - length bytes) more) BodyTooLong p)
fault_grows peer bytes more HeadTooLong p = (subst (GoesOn peer) (sym (take-append-le head_limit bytes more p.1)) p.0, omega (arith, p.1, length-append bytes more))

fails_on : (peer : Peer) (bytes more : List ℕ) (fault : Fault) → EndsAsFrom peer bytes (Fails fault) → EndsAsFrom peer (bytes ++ more) (Fails fault)
fails_on peer [] more fault p = absurd p.0
fails_on peer (b ∷ bytes) more fault p = (p.0, fault_grows peer (b ∷ bytes) more fault p.1)

pub readings_compose : (peer : Peer) (stream more : List ℕ) (us vs : List StreamUnit) (d e : Ending) → ReadsFrom peer stream us d → ReadsOnFrom peer d more vs e → ReadsFrom peer (stream ++ more) (us ++ vs) e
readings_compose peer stream more us vs (Waits rest) e p q = record {
  pieces = p.pieces ++ q.pieces;
  rest = q.rest;
  whole =
      ap (λ (l : List ℕ). l ++ more) p.whole ∙ append_assoc (bytes_of p.pieces) p.rest more
      ∙ ap (λ (l : List ℕ). bytes_of p.pieces ++ l) (ap (λ (l : List ℕ). l ++ more) p.ends.0 ∙ q.whole)
      ∙ sym (append_assoc (bytes_of p.pieces) (bytes_of q.pieces) q.rest) ∙ ap (λ (l : List ℕ). l ++ q.rest) (sym (bytes_of-append p.pieces q.pieces));
  are_pieces = ArePieces-append peer p.pieces q.pieces p.are_pieces q.are_pieces;
  units_are = ap (λ (l : List StreamUnit). l ++ vs) p.units_are ∙ ap (λ (l : List StreamUnit). units_of p.pieces ++ l) q.units_are ∙ sym (units_of-append p.pieces q.pieces);
  ends = q.ends;
}
readings_compose peer stream more us vs (Fails fault) e p q =
    let grown : ReadsFrom peer (stream ++ more) us (Fails fault) = record {
      pieces = p.pieces;
      rest = p.rest ++ more;
      whole = ap (λ (l : List ℕ). l ++ more) p.whole ∙ append_assoc (bytes_of p.pieces) p.rest more;
      are_pieces = p.are_pieces;
      units_are = p.units_are;
      ends = fails_on peer p.rest more fault p.ends;
    } in
    let units : us ≡ us ++ vs = sym (append-nil us) ∙ ap (λ (l : List StreamUnit). us ++ l) (sym q.0) in
    subst (λ (x : Ending). ReadsFrom peer (stream ++ more) (us ++ vs) x) (sym q.1) (subst (λ (l : List StreamUnit). ReadsFrom peer (stream ++ more) l (Fails fault)) units grown)

pub pieces_compose : (peer : Peer) (stream : List ℕ) (us : List StreamUnit) (d : Ending) (pieces : List (List ℕ)) (vs : List StreamUnit) (e : Ending) → ReadsFrom peer stream us d → ReadsPiecesFrom peer d pieces vs e → ReadsFrom peer (stream ++ concat pieces) (us ++ vs) e
pieces_compose peer stream us d [] vs e p q =
    let units : us ≡ us ++ vs = sym (append-nil us) ∙ ap (λ (l : List StreamUnit). us ++ l) (sym q.0) in
    subst (λ (x : Ending). ReadsFrom peer (stream ++ []) (us ++ vs) x) (sym q.1) (subst (λ (l : List StreamUnit). ReadsFrom peer (stream ++ []) l d) units (subst (λ (l : List ℕ). ReadsFrom peer l us d) (sym (append-nil stream)) p))
pieces_compose peer stream us d (piece ∷ pieces) vs e p (first, mid, others, one, rest, all) =
    let both = pieces_compose peer (stream ++ piece) (us ++ first) mid pieces others e (readings_compose peer stream piece us first d mid p one) rest in
    subst (λ (l : List ℕ). ReadsFrom peer l (us ++ vs) e) (append_assoc stream piece (concat pieces))
    (subst (λ (l : List StreamUnit). ReadsFrom peer ((stream ++ piece) ++ concat pieces) l e) (append_assoc us first others ∙ ap (λ (l : List StreamUnit). us ++ l) (sym all)) both)

-- before anything has come
pub nothing_reads : (peer : Peer) → ReadsFrom peer [] [] (Waits [])
nothing_reads peer = record { pieces = []; rest = []; whole = refl; are_pieces = tt; units_are = refl; ends = empty_waits peer }
