-- Stretches of a block.
use Rattle.std.proofs.Common.{◌≡◌, ℕ, ◌+◌, ◌-◌, ◌≤◌, List, ◌++◌, length, take, drop, sym, ap, ◌∙◌, arith, append_assoc, length-drop}
use Rattle.std.proofs.Math.Seq.{take-add}
use Rattle.std.proofs.lemmas.List.{drop-append-le, drop-drop, drop-take, length-take-le}
use Rattle.outgoing.specs.Buffers.{stretch}

-- the front of a stretch is dropped
pub stretch-dropped : (block : List ℕ) (first end count : ℕ) → stretch block (first + count) end ≡ drop count (stretch block first end)
stretch-dropped block first end count = sym (drop-drop count first (take end block))

-- a stretch was moved to the front
pub stretch-moved : (old new : List ℕ) (first end : ℕ) → first ≤ end → take (end - first) new ≡ take (end - first) (drop first old)
    → stretch new 0 (end - first) ≡ stretch old first end
stretch-moved old new first end order moved =
    let parts : first + (end - first) ≡ end = omega arith in
    moved ∙ sym (drop-take first (end - first) old) ∙ ap (λ (n : ℕ). drop first (take n old)) parts

-- the front of a stretch is dropped, and the others are moved
pub dropped-moved : (old new bytes : List ℕ) (first end count : ℕ) → first ≤ end → end ≤ length old → stretch old first end ≡ bytes → count ≤ length bytes
    → take (end - (first + count)) new ≡ take (end - (first + count)) (drop (first + count) old) → take (end - (first + count)) new ≡ drop count bytes
dropped-moved old new bytes first end count order within is fits moved =
    let long : length bytes ≡ end - first = sym (ap length is) ∙ length-drop first (take end old) ∙ ap (λ (n : ℕ). n - first) (length-take-le end old within) in
    let all : first + count ≤ end = omega arith in
    stretch-moved old new (first + count) end all moved ∙ stretch-dropped old first end count ∙ ap (drop count) is

-- bytes after a stretch are added to it, and the first of them are a head now
pub stretch-extended : (old new head : List ℕ) (first end len : ℕ) → first ≤ end → end ≤ length old → length head ≤ len
    → take (end + length head) new ≡ take end old ++ head → drop (end + length head) new ≡ drop (end + length head) old
    → stretch new first (end + len) ≡ stretch old first end ++ (head ++ drop (length head) (take len (drop end old)))
stretch-extended old new head first end len order within fits front back =
    let more : ℕ = len - length head in
    let parts : length head + more ≡ len = omega arith in
    let all : end + length head + more ≡ end + len = omega arith in
    let tail : List ℕ = drop (length head) (take len (drop end old)) in
    let tail_is : tail ≡ take more (drop (end + length head) old) =
    ap (λ (n : ℕ). drop (length head) (take n (drop end old))) (sym parts) ∙ drop-take (length head) more (drop end old)
    ∙ ap (take more) (drop-drop (length head) end old) in
    let bytes : take (end + len) new ≡ take end old ++ (head ++ tail) =
    ap (λ (n : ℕ). take n new) (sym all) ∙ take-add (end + length head) more new ∙ ap (λ (l : List ℕ). l ++ take more (drop (end + length head) new)) front
    ∙ ap (λ (l : List ℕ). (take end old ++ head) ++ take more l) back ∙ ap (λ (l : List ℕ). (take end old ++ head) ++ l) (sym tail_is)
    ∙ append_assoc (take end old) head tail in
    let kept : first ≤ length (take end old) = omega (arith, order, length-take-le end old within) in
    ap (drop first) bytes ∙ drop-append-le first (take end old) (head ++ tail) kept

-- what is after it then
pub behind-extended : (old new head : List ℕ) (end len : ℕ) → length head ≤ len → drop (end + length head) new ≡ drop (end + length head) old
    → drop (end + len) new ≡ drop len (drop end old)
behind-extended old new head end len fits back =
    let more : ℕ = len - length head in
    let all : end + length head + more ≡ end + len = omega arith in
    ap (λ (n : ℕ). drop n new) (sym all) ∙ sym (drop-drop more (end + length head) new) ∙ ap (drop more) back ∙ drop-drop more (end + length head) old
    ∙ ap (λ (n : ℕ). drop n old) all ∙ sym (drop-drop len end old)

-- a part of what is after a place
pub slice-behind : (bytes : List ℕ) (at head len : ℕ) → head ≤ len → take (at + len - (at + head)) (drop (at + head) bytes) ≡ drop head (take len (drop at bytes))
slice-behind bytes at head len fits =
    let more : ℕ = len - head in
    let size : at + len - (at + head) ≡ more = omega arith in
    let parts : head + more ≡ len = omega arith in
    ap (λ (n : ℕ). take n (drop (at + head) bytes)) size ∙ ap (take more) (sym (drop-drop head at bytes)) ∙ sym (drop-take head more (drop at bytes))
    ∙ ap (λ (n : ℕ). drop head (take n (drop at bytes))) parts
