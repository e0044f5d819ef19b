-- How the items that wait are kept.
use Rattle.std.proofs.Common.{◌≡◌, ℕ, ◌+◌, ◌-◌, ◌*◌, ◌≤◌, max, Bool, cond, List, [], ◌∷◌, ◌++◌, length, take, drop, refl, sym, ap, subst, ◌∙◌, arith, length-append, length-drop}
use Rattle.std.proofs.lemmas.List.{drop-append-le, drop-drop, drop_at, length-take-le, nil_from_length, take-append-drop, take-append-le, take_all}
use Rattle.std.proofs.lemmas.List.Sums.{sum_by-append, sum_by-cons, sum_by_push}
use Rattle.outgoing.specs.Kept.{IsKept, items_of}
use Rattle.outgoing.specs.Marks.{DropsWhole, IsWithinFirst, frames_in, lengths}
use Rattle.outgoing.specs.Queues.{Puts, Queue, Takes, Waiting, bytes_waiting, frame_count, texts}
use Rattle.outgoing.specs.Queues as queues
use Rattle.outgoing.specs.declared.marks.Mark.{Mark}
use Rattle.outgoing.specs.declared.marks.Taken.{Taken}

abbrev item : (text : List ℕ) → Bool → Waiting
item text is_frame = record { text = text; is_frame = is_frame }

lengths-cons : (mark : Mark) (marks : List Mark) → lengths (mark ∷ marks) ≡ mark.len + lengths marks
lengths-cons mark marks = sum_by-cons (λ (m : Mark). m.len) mark marks

items_of-append : (bytes : List ℕ) (front back : List Mark) → items_of bytes (front ++ back) ≡ items_of bytes front ++ items_of (drop (lengths front) bytes) back
items_of-append bytes [] back = refl
items_of-append bytes (mark ∷ front) back =
    let rest : List ℕ = drop mark.len bytes in
    let place : drop (lengths front) rest ≡ drop (lengths (mark ∷ front)) bytes =
    drop-drop (lengths front) mark.len bytes ∙ ap (λ (n : ℕ). drop n bytes) (sym (lengths-cons mark front)) in
    ap (λ (l : List Waiting). item (take mark.len bytes) mark.is_frame ∷ l)
    (items_of-append rest front back ∙ ap (λ (l : List ℕ). items_of rest front ++ items_of l back) place)

-- bytes after those of the items change nothing
items_of-more : (bytes more : List ℕ) (marks : List Mark) → lengths marks ≤ length bytes → items_of (bytes ++ more) marks ≡ items_of bytes marks
items_of-more bytes more [] fits = refl
items_of-more bytes more (mark ∷ marks) fits =
    let sum : lengths (mark ∷ marks) ≡ mark.len + lengths marks = lengths-cons mark marks in
    let first_fits : mark.len ≤ length bytes = omega arith in
    let others_fit : lengths marks ≤ length (drop mark.len bytes) = omega (arith, length-drop mark.len bytes) in
    let rest : items_of (drop mark.len (bytes ++ more)) marks ≡ items_of (drop mark.len bytes) marks =
    ap (λ (l : List ℕ). items_of l marks) (drop-append-le mark.len bytes more first_fits) ∙ items_of-more (drop mark.len bytes) more marks others_fit in
    ap (λ (l : List ℕ). item l mark.is_frame ∷ items_of (drop mark.len (bytes ++ more)) marks) (take-append-le mark.len bytes more first_fits)
    ∙ ap (λ (l : List Waiting). item (take mark.len bytes) mark.is_frame ∷ l) rest

-- one more item
pub items_of-push : (bytes text : List ℕ) (marks : List Mark) (mark : Mark) → lengths marks ≡ length bytes → mark.len ≡ length text
    → items_of (bytes ++ text) (marks ++ mark ∷ []) ≡ items_of bytes marks ++ item text mark.is_frame ∷ []
items_of-push bytes text marks mark whole len =
    let rest : drop (lengths marks) (bytes ++ text) ≡ text = drop_at bytes text (lengths marks) (sym whole) in
    let all : take mark.len text ≡ text = take_all mark.len text (omega (arith, len)) in
    items_of-append (bytes ++ text) marks (mark ∷ [])
    ∙ ap (λ (l : List Waiting). l ++ items_of (drop (lengths marks) (bytes ++ text)) (mark ∷ [])) (items_of-more bytes text marks (omega (arith, whole)))
    ∙ ap (λ (l : List ℕ). items_of bytes marks ++ item (take mark.len l) mark.is_frame ∷ []) rest
    ∙ ap (λ (l : List ℕ). items_of bytes marks ++ item l mark.is_frame ∷ []) all

-- the bytes are the joined texts
pub texts-items_of : (bytes : List ℕ) (marks : List Mark) → lengths marks ≡ length bytes → texts (items_of bytes marks) ≡ bytes
texts-items_of bytes [] whole = sym (nil_from_length bytes (sym whole))
texts-items_of bytes (mark ∷ marks) whole =
    let sum : lengths (mark ∷ marks) ≡ mark.len + lengths marks = lengths-cons mark marks in
    let others : lengths marks ≡ length (drop mark.len bytes) = omega (arith, whole, length-drop mark.len bytes) in
    ap (λ (l : List ℕ). take mark.len bytes ++ l) (texts-items_of (drop mark.len bytes) marks others) ∙ take-append-drop mark.len bytes

-- the frames are those of the marks
pub frame_count-items_of : (bytes : List ℕ) (marks : List Mark) → frame_count (items_of bytes marks) ≡ frames_in marks
frame_count-items_of bytes [] = refl
frame_count-items_of bytes (mark ∷ marks) =
    sum_by-cons (λ (i : Waiting). cond i.is_frame 1 0) (item (take mark.len bytes) mark.is_frame) (items_of (drop mark.len bytes) marks)
    ∙ ap (λ (n : ℕ). cond mark.is_frame 1 0 + n) (frame_count-items_of (drop mark.len bytes) marks)
    ∙ sym (sum_by-cons (λ (m : Mark). cond m.is_frame 1 0) mark marks)

length-texts : (bytes : List ℕ) (marks : List Mark) → lengths marks ≤ length bytes → length (texts (items_of bytes marks)) ≡ lengths marks
length-texts bytes [] fits = refl
length-texts bytes (mark ∷ marks) fits =
    let sum : lengths (mark ∷ marks) ≡ mark.len + lengths marks = lengths-cons mark marks in
    let first : length (take mark.len bytes) ≡ mark.len = length-take-le mark.len bytes (omega arith) in
    let others : length (texts (items_of (drop mark.len bytes) marks)) ≡ lengths marks = length-texts (drop mark.len bytes) marks (omega (arith, length-drop mark.len bytes)) in
    omega (arith, length-append (take mark.len bytes) (texts (items_of (drop mark.len bytes) marks)))

pub begun_fits : (begun : ℕ) (marks : List Mark) → IsWithinFirst begun marks → begun ≤ lengths marks
begun_fits begun [] within = omega (arith, within)
begun_fits begun (mark ∷ marks) within = omega (arith, lengths-cons mark marks)

within_first : (begun : ℕ) (bytes : List ℕ) (marks : List Mark) → lengths marks ≡ length bytes → IsWithinFirst begun marks → queues.IsWithinFirst begun (items_of bytes marks)
within_first begun bytes [] whole within = within
within_first begun bytes (mark ∷ marks) whole within =
    let first : length (take mark.len bytes) ≡ mark.len = length-take-le mark.len bytes (omega (arith, whole, lengths-cons mark marks)) in
    omega arith

-- what becomes of the queue then
pub taken_is : (bytes free left_free : List ℕ) (marks new : List Mark) (begun count frames room : ℕ) (taken : Taken) → IsKept bytes marks begun frames
    → DropsWhole (begun + count) taken marks new
    → Takes count taken.frames (record { items = items_of bytes marks; begun = begun; room = room; free = free })
    (record { items = items_of (drop taken.len bytes) new; begun = begun + count - taken.len; room = room; free = left_free })
taken_is bytes free left_free marks new begun count frames room taken kept drops =
    let gone : List Mark = drops.drops.gone in
    let len : taken.len ≡ lengths gone = drops.drops.len in
    let lengths_are : lengths marks ≡ lengths gone + lengths new = ap lengths drops.drops.parts ∙ sum_by-append (λ (m : Mark). m.len) gone new in
    let whole : lengths marks ≡ length bytes = kept.whole in
    let within : taken.len ≤ begun + count = drops.drops.within in
    let size : length (texts (items_of bytes gone)) ≡ lengths gone = length-texts bytes gone (omega (arith, lengths_are, whole)) in
    record {
      gone = items_of bytes gone;
      items = ap (items_of bytes) drops.drops.parts ∙ items_of-append bytes gone new ∙ ap (λ (n : ℕ). items_of bytes gone ++ items_of (drop n bytes) new) (sym len);
      bytes = omega (arith, size, len, within);
      frames_are = drops.drops.frames ∙ sym (frame_count-items_of bytes gone);
      begun = within_first (begun + count - taken.len) (drop taken.len bytes) new (omega (arith, lengths_are, len, whole, length-drop taken.len bytes)) drops.rest;
      room = refl;
    }

-- the bytes that wait are the kept bytes, less what was taken
pub bytes_waiting-kept : (bytes free : List ℕ) (marks : List Mark) (begun frames room : ℕ) → IsKept bytes marks begun frames
    → bytes_waiting (record { items = items_of bytes marks; begun = begun; room = room; free = free }) ≡ drop begun bytes
bytes_waiting-kept bytes free marks begun frames room kept = ap (drop begun) (texts-items_of bytes marks kept.whole)

-- what is taken is kept
pub taking_fits : (bytes free : List ℕ) (marks : List Mark) (begun frames room count : ℕ) (queue : Queue) → IsKept bytes marks begun frames
    → record { items = items_of bytes marks; begun = begun; room = room; free = free } ≡ queue → count ≤ length (bytes_waiting queue)
    → begun + count ≤ lengths marks
taking_fits bytes free marks begun frames room count queue kept is fits =
    let waits : bytes_waiting queue ≡ drop begun bytes = sym (ap bytes_waiting is) ∙ bytes_waiting-kept bytes free marks begun frames room kept in
    let size : length (bytes_waiting queue) ≡ length bytes - begun = ap length waits ∙ length-drop begun bytes in
    let within : begun ≤ lengths marks = begun_fits begun marks kept.begun_within in
    let whole : lengths marks ≡ length bytes = kept.whole in
    omega (arith, size, within, whole, fits)

-- the queue after a taking
pub took_is : (bytes left free left_free : List ℕ) (marks new : List Mark) (begun count frames room left_room : ℕ) (taken : Taken) (queue : Queue)
    → IsKept bytes marks begun frames → DropsWhole (begun + count) taken marks new
    → record { items = items_of bytes marks; begun = begun; room = room; free = free } ≡ queue → left ≡ drop taken.len bytes → left_room ≡ room
    → Takes count taken.frames queue (record { items = items_of left new; begun = begun + count - taken.len; room = left_room; free = left_free })
took_is bytes left free left_free marks new begun count frames room left_room taken queue kept drops is left_is room_is =
    let old : Queue = record { items = items_of bytes marks; begun = begun; room = room; free = free } in
    subst (λ (queue : Queue). Takes count taken.frames queue (record { items = items_of left new; begun = begun + count - taken.len; room = left_room; free = left_free })) is
    (subst (λ (l : List ℕ). Takes count taken.frames old (record { items = items_of l new; begun = begun + count - taken.len; room = left_room; free = left_free })) (sym left_is)
    (subst (λ (n : ℕ). Takes count taken.frames old (record { items = items_of (drop taken.len bytes) new; begun = begun + count - taken.len; room = n; free = left_free })) (sym room_is)
    (taken_is bytes free left_free marks new begun count frames room taken kept drops)))

-- the queue after a put
pub put_is : (bytes text after free new_free : List ℕ) (marks new : List Mark) (mark : Mark) (begun frames room new_room : ℕ) (queue : Queue) → IsKept bytes marks begun frames
    → record { items = items_of bytes marks; begun = begun; room = room; free = free } ≡ queue → mark.len ≡ length text
    → after ≡ bytes ++ text → new ≡ marks ++ mark ∷ [] → new_room ≤ max room (2 * length after)
    → Puts (item text mark.is_frame) queue (record { items = items_of after new; begun = begun; room = new_room; free = new_free })
put_is bytes text after free new_free marks new mark begun frames room new_room queue kept is len after_is new_is bound =
    let whole : lengths marks ≡ length bytes = kept.whole in
    let lengths_are : lengths new ≡ lengths marks + mark.len = ap lengths new_is ∙ sum_by_push (λ (m : Mark). m.len) marks mark in
    let long : length after ≡ length bytes + length text = ap length after_is ∙ length-append bytes text in
    let all : texts (items_of after new) ≡ after = texts-items_of after new (omega (arith, lengths_are, long, whole, len)) in
    let size : length (texts (items_of after new)) ≡ length after = ap length all in
    let same_room : room ≡ queue.room = ap (λ (q : Queue). q.room) is in
    record {
      items = ap (items_of after) new_is ∙ ap (λ (l : List ℕ). items_of l (marks ++ mark ∷ [])) after_is ∙ items_of-push bytes text marks mark whole len
          ∙ ap (λ (q : Queue). q.items ++ item text mark.is_frame ∷ []) is;
      begun = ap (λ (q : Queue). q.begun) is;
      room = omega (arith, bound, size, same_room);
    }
