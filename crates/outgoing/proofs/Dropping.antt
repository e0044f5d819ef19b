-- Marks that go from the front.
use Rattle.std.proofs.Common.{◌≡◌, ℕ, ◌+◌, ◌-◌, ◌≤◌, Bool, true, false, cond, List, [], ◌∷◌, ◌++◌, length, refl, sym, ap, ◌∙◌, arith, append_assoc, length-append}
use Rattle.std.proofs.lemmas.List.Sums.{count_by-le-length, sum_by-append, sum_by_push}
use Rattle.outgoing.specs.Marks.{DropsFront, DropsWhole, IsCutBy, IsWithinFirst, frames_in, lengths}
use Rattle.outgoing.specs.declared.marks.Mark.{Mark}
use Rattle.outgoing.specs.declared.marks.Taken.{Taken}

pub nothing_dropped : (count : ℕ) (marks : List Mark) → DropsFront count (record { len = 0; frames = 0 }) marks marks
nothing_dropped count marks = record { gone = []; parts = refl; len = refl; frames = refl; within = omega arith }

-- the first mark goes too
pub one_more : (count : ℕ) (taken : Taken) (old mid new : List Mark) (mark : Mark) (one : ℕ) → DropsFront count taken old mid → mid ≡ mark ∷ new
    → mark.len ≤ count - taken.len → one ≡ cond mark.is_frame 1 0
    → DropsFront count (record { len = taken.len + mark.len; frames = taken.frames + one }) old new
one_more count taken old mid new mark one drops is fits counts =
    let lengths_are : lengths (drops.gone ++ mark ∷ []) ≡ lengths drops.gone + mark.len = sum_by_push (λ (m : Mark). m.len) drops.gone mark in
    let frames_are : frames_in (drops.gone ++ mark ∷ []) ≡ frames_in drops.gone + cond mark.is_frame 1 0 = sum_by_push (λ (m : Mark). cond m.is_frame 1 0) drops.gone mark in
    let len : taken.len ≡ lengths drops.gone = drops.len in
    let frames : taken.frames ≡ frames_in drops.gone = drops.frames in
    let within : taken.len ≤ count = drops.within in
    record {
      gone = drops.gone ++ mark ∷ [];
      parts = drops.parts ∙ ap (λ (l : List Mark). drops.gone ++ l) is ∙ sym (append_assoc drops.gone (mark ∷ []) new);
      len = omega (arith, len, lengths_are);
      frames = omega (arith, frames, frames_are, counts);
      within = omega (arith, within, fits);
    }

at_most_one : (b : Bool) → cond b 1 0 ≤ 1
at_most_one true = omega arith
at_most_one false = omega arith

-- no more frames go than there are marks
pub frames_fit : (count most : ℕ) (taken : Taken) (old mid new : List Mark) (mark : Mark) (one : ℕ) → DropsFront count taken old mid → mid ≡ mark ∷ new
    → one ≡ cond mark.is_frame 1 0 → length old ≤ most → taken.frames + one ≤ most
frames_fit count most taken old mid new mark one drops is counts fits =
    let frames : taken.frames ≡ frames_in drops.gone = drops.frames in
    let bound : frames_in drops.gone ≤ length drops.gone = count_by-le-length (λ (m : Mark). m.is_frame) drops.gone in
    let all : length old ≡ length drops.gone + length mid = ap length drops.parts ∙ length-append drops.gone mid in
    let rest : length mid ≡ length (mark ∷ new) = ap length is in
    let small : cond mark.is_frame 1 0 ≤ 1 = at_most_one mark.is_frame in
    omega (arith, frames, bound, all, rest, small, counts)

rest_within : (count len all : ℕ) (gone rest : List Mark) → len ≡ lengths gone → all ≡ lengths (gone ++ rest) → count ≤ all → IsCutBy (count - len) rest → IsWithinFirst (count - len) rest
rest_within count len all gone [] is total fits cut = omega (arith, sum_by-append (λ (m : Mark). m.len) gone [])
rest_within count len all gone (mark ∷ marks) is total fits cut = cut

-- no more go
pub drops_whole : (count : ℕ) (taken : Taken) (old mid new : List Mark) → DropsFront count taken old mid → new ≡ mid → IsCutBy (count - taken.len) mid
    → count ≤ lengths old → DropsWhole count taken old new
drops_whole count taken old mid new drops same cut fits =
    let parts : old ≡ drops.gone ++ new = drops.parts ∙ ap (λ (l : List Mark). drops.gone ++ l) (sym same) in
    record {
      drops = record { gone = drops.gone; parts = parts; len = drops.len; frames = drops.frames; within = drops.within };
      rest = rest_within count taken.len (lengths old) drops.gone new drops.len (ap lengths parts) fits (rw same cut);
    }
