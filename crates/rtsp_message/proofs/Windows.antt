-- What stands in the first bytes of a stream is one thing only.
use Rattle.std.proofs.Common.{◌≡◌, ℕ, List, [], ◌∷◌, ◌++◌, None, Some, length, refl, sym, ap, subst, ◌∙◌, arith, append_assoc, append-nil, length-append}
use Rattle.rtsp_message.specs.declared.peer.Peer.{Peer}
use Rattle.rtsp_message.specs.declared.headers.Header.{Header}
use Rattle.rtsp_message.specs.declared.fault.Fault.{Fault}
use Rattle.rtsp_message.specs.declared.fault.Fault.TheVariants.{BadLine, BadHeader, BadLength, HeadTooLong, BodyTooLong}
use Rattle.base_syntax.specs.Lines.{HasNoLf, ended, said}
use Rattle.base_syntax.proofs.LineEnds.{same_line, no_whole_line}
use Rattle.rtsp_message.specs.Lines.{IsStartLine, IsHeaderLine}
use Rattle.rtsp_message.specs.Lengths.{field_fault}
use Rattle.rtsp_message.specs.Heads.{joined, AreHeaders, IsGoodHeader, IsBadHeader, HasBadField}
use Rattle.rtsp_message.proofs.StartLines.{same_start_line}
use Rattle.rtsp_message.proofs.HeaderLines.{same_header_line}

-- how a list of header lines stops: at the empty line with these bytes after it, at a bad line, or before a whole line
pub data Stop : Type 0 where
  Blank : (more : List ℕ) → Stop
  Broken : (fault : Fault) → Stop
  Open : Stop

-- after these header fields
abbrev pub StopsAs : (before : List Header) → List ℕ → Stop → Type 0
StopsAs before text (Blank more) = (last : List ℕ) × (text ≡ ended last ++ more) × HasNoLf last × (said last ≡ [])
StopsAs before text (Broken fault) = (line : List ℕ) × (more : List ℕ) × (text ≡ ended line ++ more) × HasNoLf line × IsBadHeader before (said line) fault
StopsAs before text Open = HasNoLf text

-- an empty text is no header line, and not a bad one
no_empty_header : {text : List ℕ} {header : Header} → text ≡ [] → IsHeaderLine text header → ⊥
no_empty_header {text} {header} e h = omega (arith, ap length (sym e ∙ h.whole), length-append header.name (58 ∷ h.text))

empty_not_bad : (before : List Header) (text : List ℕ) (fault : Fault) → text ≡ [] → IsBadHeader before text fault → ⊥
empty_not_bad before text BadHeader e b = omega (arith, b.0, ap length e)
empty_not_bad before text BadLength e b = no_empty_header e b.1
empty_not_bad before text BodyTooLong e b = no_empty_header e b.1
empty_not_bad before text BadLine e b = b
empty_not_bad before text HeadTooLong e b = b

none_is_some : {f : Fault} → None ≡ Some f → ⊥
none_is_some e = cc

-- a good field has no fault
good_field : (before : List Header) (text : List ℕ) (header : Header) (fault : Fault) → IsHeaderLine text header → field_fault before header ≡ None → HasBadField before text fault → ⊥
good_field before text header fault h a b = none_is_some (sym a ∙ ap (field_fault before) (same_header_line h b.1) ∙ b.2)

good_not_bad : (before : List Header) (text : List ℕ) (header : Header) (fault : Fault) → IsHeaderLine text header → field_fault before header ≡ None → IsBadHeader before text fault → ⊥
good_not_bad before text header BadHeader h a b = b.1 header h
good_not_bad before text header BadLength h a b = good_field before text header BadLength h a b
good_not_bad before text header BodyTooLong h a b = good_field before text header BodyTooLong h a b
good_not_bad before text header BadLine h a b = b
good_not_bad before text header HeadTooLong h a b = b

same_some : {f g : Fault} → Some f ≡ Some g → f ≡ g
same_some e = cc

-- a field has one fault
same_field_fault : (before : List Header) (text : List ℕ) (f g : Fault) → HasBadField before text f → HasBadField before text g → f ≡ g
same_field_fault before text f g p q = same_some (sym p.2 ∙ ap (field_fault before) (same_header_line p.1 q.1) ∙ q.2)

same_bad : (before : List Header) (text : List ℕ) (f g : Fault) → IsBadHeader before text f → IsBadHeader before text g → f ≡ g
same_bad before text BadHeader BadHeader p q = refl
same_bad before text BadHeader BadLength p q = absurd (p.1 q.0 q.1)
same_bad before text BadHeader BodyTooLong p q = absurd (p.1 q.0 q.1)
same_bad before text BadLength BadHeader p q = absurd (q.1 p.0 p.1)
same_bad before text BodyTooLong BadHeader p q = absurd (q.1 p.0 p.1)
same_bad before text BadLength BadLength p q = refl
same_bad before text BadLength BodyTooLong p q = same_field_fault before text BadLength BodyTooLong p q
same_bad before text BodyTooLong BadLength p q = same_field_fault before text BodyTooLong BadLength p q
same_bad before text BodyTooLong BodyTooLong p q = refl
same_bad before text BadLine g p q = absurd p
same_bad before text HeadTooLong g p q = absurd p
same_bad before text BadHeader BadLine p q = absurd q
same_bad before text BadHeader HeadTooLong p q = absurd q
same_bad before text BadLength BadLine p q = absurd q
same_bad before text BadLength HeadTooLong p q = absurd q
same_bad before text BodyTooLong BadLine p q = absurd q
same_bad before text BodyTooLong HeadTooLong p q = absurd q

same_stop : (before : List Header) (text : List ℕ) (s t : Stop) → StopsAs before text s → StopsAs before text t → s ≡ t
same_stop before text (Blank m) (Blank n) p q = ap Blank (same_line p.0 m q.0 n p.2 q.2 (sym p.1 ∙ q.1)).1
same_stop before text (Blank m) (Broken f) p q = let l = same_line p.0 m q.0 q.1 p.2 q.3 (sym p.1 ∙ q.2) in absurd (empty_not_bad before (said q.0) f (ap said (sym l.0) ∙ p.3) q.4)
same_stop before text (Blank m) Open p q = absurd (no_whole_line text p.0 m q p.1)
same_stop before text (Broken f) (Blank n) p q = let l = same_line q.0 n p.0 p.1 q.2 p.3 (sym q.1 ∙ p.2) in absurd (empty_not_bad before (said p.0) f (ap said (sym l.0) ∙ q.3) p.4)
same_stop before text (Broken f) (Broken g) p q =
    let l = same_line p.0 p.1 q.0 q.1 p.3 q.3 (sym p.2 ∙ q.2) in
    ap Broken (same_bad before (said q.0) f g (subst (λ (t : List ℕ). IsBadHeader before (said t) f) l.0 p.4) q.4)
same_stop before text (Broken f) Open p q = absurd (no_whole_line text p.0 p.1 q p.2)
same_stop before text Open (Blank n) p q = absurd (no_whole_line text q.0 n p q.1)
same_stop before text Open (Broken g) p q = absurd (no_whole_line text q.0 q.1 p q.2)
same_stop before text Open Open p q = refl

-- a good header line is not where the list stops
no_stop : (before : List Header) (text line rest : List ℕ) (header : Header) (s : Stop) → text ≡ ended line ++ rest → IsGoodHeader before line header → StopsAs before text s → ⊥
no_stop before text line rest header (Blank m) e g p = let l = same_line p.0 m line rest p.2 g.unbroken (sym p.1 ∙ e) in no_empty_header (ap said (sym l.0) ∙ p.3) g.field
no_stop before text line rest header (Broken f) e g p =
    let l = same_line p.0 p.1 line rest p.3 g.unbroken (sym p.2 ∙ e) in
    good_not_bad before (said line) header f g.field g.allowed (subst (λ (t : List ℕ). IsBadHeader before (said t) f) l.0 p.4)
no_stop before text line rest header Open e g p = no_whole_line text line rest p e

-- after the fields before, the lines of a text are these header fields, and then it stops so
unfoldable pub FieldsThen : (before : List Header) → List ℕ → List (List ℕ) → List Header → List ℕ → Stop → Type 0
FieldsThen before text lines headers end s = (text ≡ joined lines ++ end) × AreHeaders before lines headers × StopsAs (before ++ headers) end s

regroup : (text line : List ℕ) (lines : List (List ℕ)) (end : List ℕ) → text ≡ joined (line ∷ lines) ++ end → text ≡ ended line ++ (joined lines ++ end)
regroup text line lines end e = e ∙ append_assoc (ended line) (joined lines) end

-- without more fields it stops after those before
stops_here : (before : List Header) (end : List ℕ) (s : Stop) → StopsAs (before ++ []) end s → StopsAs before end s
stops_here before end s p = subst (λ (hs : List Header). StopsAs hs end s) (append-nil before) p

-- one more field stands before, and one fewer after
stops_behind : (before : List Header) (h : Header) (hs : List Header) (end : List ℕ) (s : Stop) → StopsAs (before ++ h ∷ hs) end s → StopsAs ((before ++ h ∷ []) ++ hs) end s
stops_behind before h hs end s p = subst (λ (all : List Header). StopsAs all end s) (sym (append_assoc before (h ∷ []) hs)) p

same_fields : (before : List Header) (text : List ℕ) (ls ms : List (List ℕ)) (hs ks : List Header) (d e : List ℕ) (s t : Stop) → FieldsThen before text ls hs d s → FieldsThen before text ms ks e t → (hs ≡ ks) × (s ≡ t)
unfolding FieldsThen
same_fields before text [] [] [] [] d e s t p q = (refl, same_stop (before ++ []) e s t (subst (λ (l : List ℕ). StopsAs (before ++ []) l s) (sym p.0 ∙ q.0) p.2) q.2)
same_fields before text [] [] [] (k ∷ ks) d e s t p q = absurd q.1
same_fields before text [] [] (h ∷ hs) ks d e s t p q = absurd p.1
same_fields before text [] (m ∷ ms) (h ∷ hs) ks d e s t p q = absurd p.1
same_fields before text [] (m ∷ ms) [] [] d e s t p q = absurd q.1
same_fields before text [] (m ∷ ms) [] (k ∷ ks) d e s t p q = absurd (no_stop before d m (joined ms ++ e) k s (sym p.0 ∙ regroup text m ms e q.0) q.1.0 (stops_here before d s p.2))
same_fields before text (l ∷ ls) [] [] ks d e s t p q = absurd p.1
same_fields before text (l ∷ ls) [] (h ∷ hs) (k ∷ ks) d e s t p q = absurd q.1
same_fields before text (l ∷ ls) [] (h ∷ hs) [] d e s t p q = absurd (no_stop before e l (joined ls ++ d) h t (sym q.0 ∙ regroup text l ls d p.0) p.1.0 (stops_here before e t q.2))
same_fields before text (l ∷ ls) (m ∷ ms) [] ks d e s t p q = absurd p.1
same_fields before text (l ∷ ls) (m ∷ ms) (h ∷ hs) [] d e s t p q = absurd q.1
same_fields before text (l ∷ ls) (m ∷ ms) (h ∷ hs) (k ∷ ks) d e s t p q =
    let line = same_line l (joined ls ++ d) m (joined ms ++ e) p.1.0.unbroken q.1.0.unbroken (sym (regroup text l ls d p.0) ∙ regroup text m ms e q.0) in
    let header : h ≡ k = same_header_line (subst (λ (x : List ℕ). IsHeaderLine (said x) h) line.0 p.1.0.field) q.1.0.field in
    let others : AreHeaders (before ++ k ∷ []) ls hs = subst (λ (x : Header). AreHeaders (before ++ x ∷ []) ls hs) header p.1.1 in
    let stops : StopsAs ((before ++ k ∷ []) ++ hs) d s = stops_behind before k hs d s (subst (λ (x : Header). StopsAs (before ++ x ∷ hs) d s) header p.2) in
    let rest = same_fields (before ++ k ∷ []) (joined ms ++ e) ls ms hs ks d e s t (sym line.1, others, stops) (refl, q.1.1, stops_behind before k ks e t q.2) in
    (ap (λ (x : Header). x ∷ hs) header ∙ ap (λ (xs : List Header). k ∷ xs) rest.0, rest.1)

-- what the first bytes of a stream are
pub data Window : Type 0 where
  NoLine : Window
  NoStartLine : Window
  After : (method uri version : List ℕ) → (headers : List Header) → (stop : Stop) → Window

abbrev pub WindowIs : (peer : Peer) → List ℕ → Window → Type 0
WindowIs peer w NoLine = HasNoLf w
WindowIs peer w NoStartLine = (line : List ℕ) × (more : List ℕ) × (w ≡ ended line ++ more) × HasNoLf line × ((m u v : List ℕ) → IsStartLine peer (said line) m u v → ⊥)
WindowIs peer w (After m u v headers stop) =
    (line : List ℕ) × (rest : List ℕ) × (w ≡ ended line ++ rest) × HasNoLf line × IsStartLine peer (said line) m u v
    × (lines : List (List ℕ)) × (end : List ℕ) × FieldsThen [] rest lines headers end stop

after_eq : {m u v m' u' v' : List ℕ} {hs hs' : List Header} {s s' : Stop} → m ≡ m' → u ≡ u' → v ≡ v' → hs ≡ hs' → s ≡ s' → After m u v hs s ≡ After m' u' v' hs' s'
after_eq a b c d e = cc

pub same_window : (peer : Peer) (w : List ℕ) (x y : Window) → WindowIs peer w x → WindowIs peer w y → x ≡ y
same_window peer w NoLine NoLine p q = refl
same_window peer w NoLine NoStartLine p q = absurd (no_whole_line w q.0 q.1 p q.2)
same_window peer w NoLine (After m u v hs s) p q = absurd (no_whole_line w q.0 q.1 p q.2)
same_window peer w NoStartLine NoLine p q = absurd (no_whole_line w p.0 p.1 q p.2)
same_window peer w NoStartLine NoStartLine p q = refl
same_window peer w NoStartLine (After m u v hs s) p q =
    let l = same_line p.0 p.1 q.0 q.1 p.3 q.3 (sym p.2 ∙ q.2) in
    absurd (p.4 m u v (subst (λ (x : List ℕ). IsStartLine peer (said x) m u v) (sym l.0) q.4))
same_window peer w (After m u v hs s) NoLine p q = absurd (no_whole_line w p.0 p.1 q p.2)
same_window peer w (After m u v hs s) NoStartLine p q =
    let l = same_line p.0 p.1 q.0 q.1 p.3 q.3 (sym p.2 ∙ q.2) in
    absurd (q.4 m u v (subst (λ (x : List ℕ). IsStartLine peer (said x) m u v) l.0 p.4))
same_window peer w (After m u v hs s) (After m' u' v' hs' s') p q =
    let l = same_line p.0 p.1 q.0 q.1 p.3 q.3 (sym p.2 ∙ q.2) in
    let request = same_start_line peer (said q.0) m u v m' u' v' (subst (λ (x : List ℕ). IsStartLine peer (said x) m u v) l.0 p.4) q.4 in
    let fields = same_fields [] q.1 p.5 q.5 hs hs' p.6 q.6 s s' (subst (λ (x : List ℕ). FieldsThen [] x p.5 hs p.6 s) l.1 p.7) q.7 in
    after_eq request.0 request.1 request.2 fields.0 fields.1
