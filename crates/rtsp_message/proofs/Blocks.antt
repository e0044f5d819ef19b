-- Reading header fields line by line.
use Rattle.std.proofs.Common.{◌≡◌, ℕ, ◌-◌, ◌<◌, List, [], ◌∷◌, ◌++◌, length, take, refl, sym, ap, subst, ◌∙◌, arith, append_assoc, append-nil, length-append, None}
use Rattle.std.proofs.Math.Seq.{take-append_seam}
use Rattle.std.proofs.lemmas.List.Concat.{flat_map-append}
use Rattle.rtsp_message.specs.declared.headers.Header.{Header}
use Rattle.rtsp_message.specs.declared.fault.Fault.{Fault}
use Rattle.rtsp_message.specs.declared.head.HeaderBlock.TheVariants.{Ended}
use Rattle.base_syntax.specs.Lines.{IsFirstLine, HasNoLf, ended}
use Rattle.rtsp_message.specs.Lines.{IsHeaderLine}
use Rattle.rtsp_message.specs.Lengths.{field_fault}
use Rattle.rtsp_message.specs.Heads.{joined, AreHeaders, IsGoodHeader, IsBadHeader, BreaksHeaders, LeavesHeaders}
use Rattle.rtsp_message.specs.Fronts.{IsBlock}

-- The text begins with these header fields, and then goes on with the rest.
pub record FieldsSoFar (text : List ℕ) (headers : List Header) (rest : List ℕ) : Type 0 where
  pub lines : List (List ℕ)
  pub whole : text ≡ joined lines ++ rest
  pub are_headers : AreHeaders [] lines headers

pub no_fields : (text : List ℕ) → FieldsSoFar text [] text
no_fields text = record { lines = []; whole = refl; are_headers = tt }

pub AreHeaders-push : (before : List Header) (lines : List (List ℕ)) (headers : List Header) (line : List ℕ) (header : Header) → AreHeaders before lines headers → IsGoodHeader (before ++ headers) line header → AreHeaders before (lines ++ line ∷ []) (headers ++ header ∷ [])
AreHeaders-push before [] [] line header p q = (subst (λ (hs : List Header). IsGoodHeader hs line header) (append-nil before) q, tt)
AreHeaders-push before [] (h ∷ headers) line header p q = absurd p
AreHeaders-push before (l ∷ lines) [] line header p q = absurd p
AreHeaders-push before (l ∷ lines) (h ∷ headers) line header p q =
    (p.0, AreHeaders-push (before ++ h ∷ []) lines headers line header p.1 (subst (λ (hs : List Header). IsGoodHeader hs line header) (sym (append_assoc before (h ∷ []) headers)) q))

joined-push : (lines : List (List ℕ)) (line rest : List ℕ) → joined (lines ++ line ∷ []) ++ rest ≡ joined lines ++ (ended line ++ rest)
joined-push lines line rest =
    ap (λ (l : List ℕ). l ++ rest) (flat_map-append ended lines (line ∷ []) ∙ ap (λ (l : List ℕ). joined lines ++ l) (append-nil (ended line)))
    ∙ append_assoc (joined lines) (ended line) rest

pub fields_more : {text rest line after : List ℕ} {headers : List Header} {header : Header} → FieldsSoFar text headers rest → IsFirstLine rest line after → IsHeaderLine line header → field_fault headers header ≡ None → FieldsSoFar text (headers ++ header ∷ []) after
fields_more {after = after} {headers = headers} {header = header} p q is allowed = record {
  lines = p.lines ++ q.line ∷ [];
  whole = p.whole ∙ ap (λ (r : List ℕ). joined p.lines ++ r) q.whole ∙ sym (joined-push p.lines q.line after);
  are_headers = AreHeaders-push [] p.lines headers q.line header p.are_headers (record { unbroken = q.unbroken; field = subst (λ (t : List ℕ). IsHeaderLine t header) q.text_is is; allowed = allowed });
}

pub fields_end : {text rest line after : List ℕ} {headers : List Header} → FieldsSoFar text headers rest → IsFirstLine rest line after → line ≡ [] → IsBlock text (Ended headers (length text - length after))
fields_end {text} {rest} {line} {after} {headers} p q empty =
    let block = joined p.lines ++ ended q.line in
    let parts : text ≡ block ++ after = p.whole ∙ ap (λ (r : List ℕ). joined p.lines ++ r) q.whole ∙ sym (append_assoc (joined p.lines) (ended q.line) after) in
    let count : length text - length after ≡ length block = omega (arith, ap length parts, length-append block after) in (
      omega arith,
      record {
        lines = p.lines;
        last = q.line;
        whole = ap (λ (n : ℕ). take n text) count ∙ ap (take (length block)) parts ∙ take-append_seam block after;
        are_headers = p.are_headers;
        last_unbroken = q.unbroken;
        last_empty = sym q.text_is ∙ empty;
      },
    )

pub fields_break : {text rest line after : List ℕ} {headers : List Header} {fault : Fault} → FieldsSoFar text headers rest → IsFirstLine rest line after → IsBadHeader headers line fault → BreaksHeaders text fault
fields_break {after = after} {headers = headers} {fault = fault} p q bad = record {
  lines = p.lines;
  headers = headers;
  line = q.line;
  more = after;
  whole = p.whole ∙ ap (λ (r : List ℕ). joined p.lines ++ r) q.whole;
  are_headers = p.are_headers;
  unbroken = q.unbroken;
  bad = subst (λ (t : List ℕ). IsBadHeader headers t fault) q.text_is bad;
}

pub fields_leave : {text rest : List ℕ} {headers : List Header} → FieldsSoFar text headers rest → HasNoLf rest → LeavesHeaders text
fields_leave {rest = rest} {headers = headers} p none = record {
  lines = p.lines;
  headers = headers;
  tail = rest;
  whole = p.whole;
  are_headers = p.are_headers;
  unfinished = none;
}

-- what follows a line is shorter
pub shorter_after : {rest line after : List ℕ} → IsFirstLine rest line after → length after < length rest
shorter_after {rest} {line} {after} q = omega (arith, ap length q.whole, length-append (ended q.line) after, length-append q.line (10 ∷ []))
