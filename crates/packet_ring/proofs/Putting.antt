-- A packet is written into a unit, one byte after another.
use Rattle.std.proofs.Common.{◌≡◌, ℕ, suc, ◌+◌, ◌%◌, ◌<◌, ◌≤◌, List, [], ◌∷◌, ◌++◌, length, get_or, set, take, drop, sym, refl, ap, ◌∙◌, arith, length-set, length-append, length-take, get_or-take, get_or-set_same, get_or-set_other, take_all, take-suc}
use Rattle.std.proofs.lemmas.List.{get_or_append_left}
use Rattle.packet_ring.specs.Table.{Right, may_write, cells_of, grown, grown_right, written, written_right}
use Rattle.packet_ring.specs.Rule.{Knows}
use Rattle.packet_ring.specs.Steps.{MayWrite, MayWritePacket}
use Rattle.packet_ring.proofs.Contents.{drop_grown}

-- the cells have the packet's length and its tag, so many of its bytes stand behind them, and the token is as it was but for them
pub record Put (old : Knows) (unit tag : ℕ) (bytes : List ℕ) (count : ℕ) (me : Knows) : Type 0 where
  pub may : MayWrite me.right unit
  pub wide : 7 + count ≤ length (cells_of me.right)
  pub size : get_or (cells_of me.right) 0 0 ≡ length bytes + 1
  pub tagged : get_or (cells_of me.right) 1 0 ≡ tag
  pub front : take count (drop 7 (cells_of me.right)) ≡ take count bytes
  pub view : me.view ≡ old.view
  pub seen : me.seen ≡ old.seen

-- the token may write on
pub may_on : (old mid : Knows) (unit n : ℕ) → MayWrite old.right unit → mid ≡ written old 0 n → MayWrite mid.right unit
may_on old mid unit n may is = (set may.0 0 n, ap (λ (m : Knows). m.right) is ∙ ap (λ (q : Right). written_right q 0 n) may.1)

module _ (old : Knows) (unit tag : ℕ) (bytes : List ℕ) where
  pub started : MayWrite old.right unit → 7 ≤ length (cells_of old.right) → (mid me : Knows) → mid ≡ written old 0 (length bytes + 1) → me ≡ written mid 1 tag → Put old unit tag bytes 0 me
  started may wide mid me first second = let n : ℕ = length bytes + 1 in let x : List ℕ = may.0 in let y : List ℕ = set x 0 n in let w : List ℕ = set y 1 tag in
      let is : me ≡ written (written old 0 n) 1 tag = second ∙ ap (λ (m : Knows). written m 1 tag) first in
      let r : me.right ≡ may_write unit w = ap (λ (m : Knows). m.right) is ∙ ap (λ (q : Right). written_right (written_right q 0 n) 1 tag) may.1 in let now : cells_of me.right ≡ w = ap cells_of r in
      let long : length (cells_of old.right) ≡ length x = ap (λ (q : Right). length (cells_of q)) may.1 in let a : length y ≡ length x = length-set x 0 n in let b : length w ≡ length y = length-set y 1 tag in let size : length (cells_of me.right) ≡ length w = ap length now in record {
        may = (w, r);
        wide = omega arith;
        size = ap (λ (xs : List ℕ). get_or xs 0 0) now ∙ get_or-set_other y 1 0 tag 0 (λ e. absurd (omega arith)) ∙ get_or-set_same x 0 n 0 (omega arith);
        tagged = ap (λ (xs : List ℕ). get_or xs 1 0) now ∙ get_or-set_same y 1 tag 0 (omega arith);
        front = refl;
        view = ap (λ (m : Knows). m.view) is;
        seen = ap (λ (m : Knows). m.seen) is;
      }

  pub one_more : (n : ℕ) (me next : Knows) → Put old unit tag bytes n me → n < length bytes → next ≡ grown me (7 + n) (get_or bytes n 0) → Put old unit tag bytes (suc n) next
  one_more n me next so near is = let m : ℕ = get_or bytes n 0 in let x : List ℕ = so.may.0 in let y : List ℕ = take (7 + n) x in let w : List ℕ = y ++ m ∷ [] in let q : cells_of me.right ≡ x = ap cells_of so.may.1 in
      let r : next.right ≡ may_write unit w = ap (λ (k : Knows). k.right) is ∙ ap (λ (u : Right). grown_right u (7 + n) m) so.may.1 in let now : cells_of next.right ≡ w = ap cells_of r in
      let long : length (cells_of me.right) ≡ length x = ap length q in let wide = so.wide in let all : 7 + n ≤ length x = omega arith in let short : length y ≡ 7 + n = (let l = length-take (7 + n) x in omega arith) in
      let kept : (k : ℕ) → k < 7 → get_or (cells_of next.right) k 0 ≡ get_or (cells_of me.right) k 0 = λ k low. ap (λ (xs : List ℕ). get_or xs k 0) now ∙ get_or_append_left y (m ∷ []) 0 k (omega arith) ∙ get_or-take (7 + n) x k 0 (omega arith) ∙ sym (ap (λ (xs : List ℕ). get_or xs k 0) q) in
      let front : List ℕ = take n (drop 7 x) in let few : length (front ++ m ∷ []) ≤ suc n = (let a = length-append front (m ∷ []) in let l = length-take n (drop 7 x) in omega arith) in
      let same : front ≡ take n bytes = sym (ap (λ (xs : List ℕ). take n (drop 7 xs)) q) ∙ so.front in record {
        may = (w, r);
        wide = (let e : length (cells_of next.right) ≡ length w = ap length now in let a = length-append y (m ∷ []) in omega arith);
        size = kept 0 (omega arith) ∙ so.size;
        tagged = kept 1 (omega arith) ∙ so.tagged;
        front = ap (λ (xs : List ℕ). take (suc n) (drop 7 xs)) now ∙ ap (take (suc n)) (sym (drop_grown 7 x n m all)) ∙ take_all (suc n) (front ++ m ∷ []) few ∙ ap (λ (xs : List ℕ). xs ++ m ∷ []) same ∙ sym (take-suc bytes n 0 near);
        view = ap (λ (k : Knows). k.view) is ∙ so.view;
        seen = ap (λ (k : Knows). k.seen) is ∙ so.seen;
      }

  pub all_put : (n : ℕ) (me : Knows) → Put old unit tag bytes n me → tag < 256 → n ≡ length bytes → MayWritePacket me.right unit (tag ∷ bytes)
  all_put n me so small all = let x : List ℕ = so.may.0 in let q : cells_of me.right ≡ x = ap cells_of so.may.1 in let size : get_or x 0 0 ≡ length bytes + 1 = sym (ap (λ (xs : List ℕ). get_or xs 0 0) q) ∙ so.size in
      let tagged : get_or x 1 0 ≡ tag = sym (ap (λ (xs : List ℕ). get_or xs 1 0) q) ∙ so.tagged in let low : tag % 256 ≡ tag = omega arith in
      let front : take (length bytes) (drop 7 x) ≡ bytes = ap (λ (k : ℕ). take k (drop 7 x)) (sym all) ∙ sym (ap (λ (xs : List ℕ). take n (drop 7 xs)) q) ∙ so.front ∙ ap (λ (k : ℕ). take k bytes) all ∙ take_all (length bytes) bytes (omega arith) in
      (x, so.may.1, record { size = omega arith; bytes = λ i. (ap (λ (k : ℕ). k % 256) tagged ∙ low) i ∷ front i })
