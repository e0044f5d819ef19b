-- A block is made of a strip of words and of room behind it, and gives both back. Assumes `Logic`.
use Rattle.std.proofs.Common.{◌≡◌, ℕ, suc, ◌+◌, ◌-◌, ◌*◌, ◌^◌, ◌<◌, ◌≤◌, List, [], ◌∷◌, ◌++◌, map, length, take, drop as drop_l, get_or, sym, refl, ap, ◌∙◌, subst, suc-mul, zero-mul, length-append, take_all, drop_of_length-le, mul_assoc, w8, w64, arith}
use lib.ListN.{length-map}
use seplogic.Ra.Ura.{Ura}
use base.Fraction.{full_share}
use base.FractionLaws.{Counts-all}
use base.Share.{quarter, three_quarters}
use base.Stored.{Coded}
use base.Logic.{SProp, ent, sep, ex, guard, upd, upd_i, emp, id⊢, via, never_e, ex_i, guard_i, mono∗, apply∗}
use base.Fml.{Lft, Share, Fml, ftrue, ffalse, feq, fsep, fwand, fdead, fbor, flent, finv, flft, fauth}
use mir.Syntax.{ty_int, ty_array}
use base.Growing.{prefixes, prefix_refl, latest, at_least}
use types.Growing.{latest_new, latest_shows, at_least_dup}
use types.Logic.{Logic, sem}
use types.Kit.{‵, raw, ◌⊛◌, some, given, later, ◌$◌, ◌∵◌, !, qed, by, move, keep, drop, split, join, fsplit, fsplit3, fjoin, fjoin3, fpick, fpack, feq_i, feq_l, pick, learn, show, check, frame, suffices, settle, use0, use1, use2, use3, updating, await, now, rewrite, done}
use types.Tokens.{lft_new, lft_end, name_new, bor_new, lent_back}
use types.SemTy.{cells}
use types.Keyed.{entries_new, entries_take}
use types.Owned.{basic, own_new}
use denote.ArrayMemory.{Array-apart, Array-whole}
use denote.Index.{whole_in, whole_out}
use denote.Builtin.{u64}
use denote.Memory.{mem, part_at}
use denote.RawPtr.{Ptr, block_of, count_of, InBlock, at_block}
use denote.Steps.{nothing}
use Rattle.core.proofs.tally.Steps.{word_out, word_in}
use Rattle.counted_slot.specs.Counting.{rounds, tag, parts}
use Rattle.counted_slot.proofs.Parts.{parts_in}
use Rattle.atomic_table.specs.Seated.{word, strip, halved, seen, unused, roster}
use Rattle.atomic_table.proofs.Roster.{resets}
use Rattle.packet_ring.specs.Table.{Access, readable, State, flat, AreWide, opening}
use Rattle.packet_ring.specs.Lent.{BlockId, Spot, spot, block_life, start, stride, unit_at, bytes_at, restores, row, cells_row, blank, bytes_lie, contents, held, tracked, waits, lasting, round, access_at, accesses_row, owed, Placed, mine, waiting, Keeps, standing, inner, common, rights, block_owns}
use Rattle.packet_ring.proofs.Contents.{widths}
use Rattle.packet_ring.proofs.Grounds.{spare, blank_cut, blank_glue, blanked, unwritten}
use Rattle.packet_ring.proofs.Cells.{freshly}

module _ {M : Type 1} {𝓤 : Ura M} (𝓛 : Logic 𝓤) where
  open 𝓛 use {H, A}

  abbrev Pr : Type 2
  Pr = SProp 𝓤

  abbrev ◌⊢◌ : Pr → Pr → Type 1
  P ⊢ Q = ent 𝓤 P Q

  abbrev ◌∗◌ : Pr → Pr → Pr
  P ∗ Q = sep 𝓤 P Q

  abbrev ⟦◌⟧ : Fml → Pr
  ⟦ P ⟧ = sem 𝓛 P

  infix 26 ◌⊢◌
  infixr 35 ◌∗◌
  abbrev side : List ℕ → ℕ → ℕ → Fml
  side xs b o = cells (mem u64) xs b o

  -- words side by side, cut in two
  cut : (xs ys : List ℕ) (b o e : ℕ) → e ≡ o + length xs * 8 → ⟦ side (xs ++ ys) b o ⟧ ⊢ ⟦ side xs b o ⟧ ∗ ⟦ side ys b e ⟧
  cut [] ys b o e is = let same : o ≡ e = omega arith in subst (λ (k : ℕ). ⟦ side ys b o ⟧ ⊢ emp 𝓤 ∗ ⟦ side ys b k ⟧) same (qed 𝓛 (‵ (side ys b o) ∷ []) ∵ nothing ! $ done !)
  cut (x ∷ xs) ys b o e is = qed 𝓛 (‵ (part_at u64 full_share x b o) ∷ ‵ (side (xs ++ ys) b (o + 8)) ∷ []) ∵ move ! (1 ∷ []) $
      use1 𝓛 (‵ (side xs b (o + 8)) ⊛ ‵ (side ys b e)) (cut xs ys b (o + 8) e (omega arith)) $ split ! $ move ! (2 ∷ 0 ∷ []) $ fjoin ! $ done !

  -- and put together
  glue : (xs ys : List ℕ) (b o e : ℕ) → e ≡ o + length xs * 8 → ⟦ side xs b o ⟧ ∗ ⟦ side ys b e ⟧ ⊢ ⟦ side (xs ++ ys) b o ⟧
  glue [] ys b o e is = let same : o ≡ e = omega arith in subst (λ (k : ℕ). emp 𝓤 ∗ ⟦ side ys b k ⟧ ⊢ ⟦ side ys b o ⟧) same (qed 𝓛 (‵ ftrue ∷ ‵ (side ys b o) ∷ []) ∵ drop ! $ done !)
  glue (x ∷ xs) ys b o e is = qed 𝓛 ((‵ (part_at u64 full_share x b o) ⊛ ‵ (side xs b (o + 8))) ∷ ‵ (side ys b e) ∷ []) ∵ split ! $ frame ! $ by ! (glue xs ys b (o + 8) e (omega arith))

  -- words side by side as an array, and back
  arrayed : (w : ℕ) (xs : List ℕ) (b o : ℕ) → length xs ≡ w → ⟦ side xs b o ⟧ ⊢ ⟦ part_at (denote.Array.Array u64 w) full_share xs b o ⟧
  arrayed w xs b o long = qed 𝓛 (‵ (side xs b o) ∷ []) ∵ use1 𝓛 (‵ (denote.Index.row u64 full_share xs b o)) (whole_out 𝓛 u64 xs b o) $ feq_i ! ℕ (length xs) w long $ fjoin ! $ by ! (Array-whole 𝓛 u64 full_share w xs b o)

  sidewise : (w : ℕ) (xs : List ℕ) (b o : ℕ) → ⟦ part_at (denote.Array.Array u64 w) full_share xs b o ⟧ ⊢ guard 𝓤 (length xs ≡ w) ⟦ side xs b o ⟧
  sidewise w xs b o = qed 𝓛 (‵ (part_at (denote.Array.Array u64 w) full_share xs b o) ∷ []) ∵ use1 𝓛 (‵ (fsep (feq ℕ (length xs) w) (denote.Index.row u64 full_share xs b o))) (Array-apart 𝓛 u64 full_share tt w xs b o) $
      fsplit ! $ feq_l ! (λ e. check ! e $ by ! (whole_in 𝓛 u64 xs b o))

  module _ (a w r b : ℕ) where
    abbrev κ : Lft
    κ = a ∷ []

    abbrev d : ℕ
    d = w * 8 + 8

    abbrev place : ℕ → ℕ → ℕ × ℕ → Spot
    place e f n = record { life = κ; width = w; room = r; block = b; offset = e + 8; bytes = f; round_name = n.0; value_name = n.1 }

    abbrev one : ℕ → ℕ → List ℕ → ℕ × ℕ → Fml
    one e f x n = fsep (access_at (place e f n) (readable 0 x)) (flent κ (held (place e f n)))

    abbrev laid : List (ℕ × List ℕ) → List (ℕ × ℕ) → ℕ → ℕ → Fml
    laid [] ns e f = ftrue
    laid (u ∷ us) [] e f = ffalse
    laid (u ∷ us) (n ∷ ns) e f = fsep (one e f u.1 n) (laid us ns (e + d) (f + r))

    -- the contents of a unit to which nothing was written yet
    bare : (e f : ℕ) (x : List ℕ) → length x ≡ w → ⟦ side x b (e + 8) ⟧ ∗ ⟦ blank r b f ⟧ ⊢ ⟦ (contents (place e f (0, 0))).own_at x b (e + 8) ⟧
    bare e f x long = let t : Spot = place e f (0, 0) in qed 𝓛 (‵ (side x b (e + 8)) ∷ ‵ (blank r b f) ∷ []) ∵ use1 𝓛 (‵ (part_at (cells_row t) full_share x b (e + 8))) (arrayed w x b (e + 8) long) $
        rewrite ! 0 (λ (y : List ℕ). ‵ (part_at (cells_row t) full_share y b (e + 8))) (sym (take_all w x (omega arith))) refl $ move ! (1 ∷ []) $
        use1 𝓛 (‵ (bytes_lie t (drop_l w x))) (unwritten 𝓛 t (drop_l w x) (drop_of_length-le x (let l : length x ≤ w = omega arith in l))) $ move ! (1 ∷ 0 ∷ []) $ fjoin ! $ done !

    -- a unit's contents are lent, and its first round begins
    lays : (s : Share) (e f : ℕ) (x : List ℕ) → length x ≡ w → (⟦ side x b (e + 8) ⟧ ∗ ⟦ blank r b f ⟧) ∗ A.lft κ s ⊢ H.⇛ (ex 𝓤 (λ (n : ℕ × ℕ). ⟦ one e f x n ⟧) ∗ A.lft κ s)
    lays s e f x long = let t₀ : Spot = place e f (0, 0) in let own : List ℕ → Fml = λ y. (contents t₀).own_at y b (e + 8) in
        qed 𝓛 ((‵ (side x b (e + 8)) ⊛ ‵ (blank r b f)) ∷ ‵ (flft κ s) ∷ []) ∵ updating ! $ use1 𝓛 (‵ (own x)) (bare e f x long) $
        name_new ! tt ((contents t₀).coded.code x) (λ v. move ! (2 ∷ 1 ∷ []) $ fjoin ! $ fpack ! (List ℕ) (λ y. fsep (own y) (fauth v ((contents t₀).coded.code y))) x $ bor_new ! tt κ $
        move ! (2 ∷ 0 ∷ []) $ fjoin ! $ move ! (0 ∷ 2 ∷ []) $
        let t : ℕ → Spot = λ g. place e f (g, v) in
        use2 𝓛 (later (‵ (round (t 0) x) ⊛ ‵ (flft κ s))) (freshly 𝓛 (t 0) x s) $ await ! tt $ split ! $ fpick ! (λ c. fsplit ! $
        use0 𝓛 (later (some (λ (g : ℕ). ‵ (tag g full_share c)))) (via 𝓤 _ (own_new 𝓛 rounds (full_share, c)) (basic 𝓛 (ex 𝓤 (λ (g : ℕ). ⟦ tag g full_share c ⟧)))) $ await ! tt $ pick ! (λ g.
        move ! (1 ∷ 0 ∷ []) $ fjoin ! $ use1 𝓛 (‵ (parts g c (2 ^ 63 - 0))) (parts_in 𝓛 g c (2 ^ 63) full_share (Counts-all 63)) $ fjoin ! $ fpack ! ℕ (λ r. fsep (parts g r (2 ^ 63 - 0)) (lasting (t g) r x)) c $
        move ! (0 ∷ 2 ∷ []) $ fjoin ! $ let F : ℕ × ℕ → Pr = λ n. ⟦ one e f x n ⟧ in use1 𝓛 (raw (ex 𝓤 F)) (ex_i 𝓤 F (g, v)) $ now ! $ keep ! (0 ∷ 1 ∷ []) $ done !)))

    abbrev first : List (ℕ × List ℕ) → List ℕ
    first us = map (λ u. u.0) us

    abbrev accesses : List (ℕ × List ℕ) → List Access
    accesses us = map (λ u. readable 0 u.1) us

    lends : (s : Share) (us : List (ℕ × List ℕ)) (e f : ℕ) → AreWide w us → (⟦ side (flat us) b e ⟧ ∗ ⟦ blank (length us * r) b f ⟧) ∗ A.lft κ s ⊢ H.⇛ ((⟦ row d b e (first us) ⟧ ∗ ex 𝓤 (λ (ns : List (ℕ × ℕ)). ⟦ laid us ns e f ⟧)) ∗ A.lft κ s)
    lends s [] e f wide = qed 𝓛 ((‵ ftrue ⊛ ‵ (blank (0 * r) b f)) ∷ ‵ (flft κ s) ∷ []) ∵ updating ! $ split ! $ drop ! $ drop ! $ now ! $ let F : List (ℕ × ℕ) → Pr = λ ns. ⟦ laid [] ns e f ⟧ in nothing ! $ use1 𝓛 (raw (ex 𝓤 F)) (ex_i 𝓤 F []) $ nothing ! $ join ! $ done !
    lends s (u ∷ us) e f wide = let x : List ℕ = u.1 in let n : ℕ = length us * r in let more : suc (length us) * r ≡ r + n = (let m = suc-mul (length us) r in omega arith) in
        qed 𝓛 (((‵ (part_at u64 full_share u.0 b e) ⊛ ‵ (side (x ++ flat us) b (e + 8))) ⊛ ‵ (blank (suc (length us) * r) b f)) ∷ ‵ (flft κ s) ∷ []) ∵ updating ! $ split ! $ split ! $
        use1 𝓛 (‵ (word b e u.0)) (word_out 𝓛 b e u.0) $ move ! (2 ∷ []) $ rewrite ! 0 (λ (k : ℕ). ‵ (blank k b f)) more refl $ use1 𝓛 (‵ (blank r b f) ⊛ ‵ (blank n b (f + r))) (blank_cut 𝓛 r n b f) $ split ! $ move ! (3 ∷ []) $
        use1 𝓛 (‵ (side x b (e + 8)) ⊛ ‵ (side (flat us) b (e + d))) (cut x (flat us) b (e + 8) (e + d) (let l : length x ≡ w = wide.0 in let r : length x * 8 ≡ w * 8 = ap (λ (k : ℕ). k * 8) l in omega arith)) $ split ! $ move ! (0 ∷ 2 ∷ []) $ join ! $ move ! (0 ∷ 4 ∷ []) $
        use2 𝓛 (later (some (λ (n : ℕ × ℕ). ‵ (one e f x n)) ⊛ ‵ (flft κ s))) (lays s e f x wide.0) $ await ! tt $ split ! $ pick ! (λ m. move ! (2 ∷ 3 ∷ []) $ join ! $ move ! (0 ∷ 2 ∷ []) $
        use2 𝓛 (later ((‵ (row d b (e + d) (first us)) ⊛ some (λ (ns : List (ℕ × ℕ)). ‵ (laid us ns (e + d) (f + r)))) ⊛ ‵ (flft κ s))) (lends s us (e + d) (f + r) wide.1) $ await ! tt $ split ! $ split ! $ move ! (1 ∷ []) $ pick ! (λ ns.
        let F : List (ℕ × ℕ) → Pr = λ ms. ⟦ laid (u ∷ us) ms e f ⟧ in move ! (3 ∷ 0 ∷ []) $ fjoin ! $ use1 𝓛 (raw (ex 𝓤 F)) (ex_i 𝓤 F (m ∷ ns)) $
        move ! (3 ∷ 1 ∷ []) $ fjoin ! $ join ! $ now ! $ done !))

  -- the tokens' views, a quarter of each with the block and the rest with its token
  module _ {V E : Type 0} (cv : Coded V) (ce : Coded E) (z : BlockId) where
    abbrev γ : ℕ
    γ = z.views_name

    abbrev tokens : ℕ → List V → Fml
    tokens k [] = ftrue
    tokens k (v ∷ vs) = fsep (seen cv.code γ k three_quarters v) (tokens (suc k) vs)

    enrolls : (vs : List V) (k : ℕ) (d : V) → ⟦ unused cv.code γ k d ⟧ ⊢ upd 𝓤 (⟦ roster cv.code γ k vs ⟧ ∗ ⟦ tokens k vs ⟧)
    enrolls [] k d = let Z : Pr = ⟦ roster cv.code γ k [] ⟧ ∗ ⟦ tokens k [] ⟧ in qed 𝓛 (‵ (unused cv.code γ k d) ∷ []) ∵ suffices ! _ (upd_i 𝓤 Z) $ fpack ! V (unused cv.code γ k) d $ nothing ! $ move ! (1 ∷ 0 ∷ []) $ done !
    enrolls (v ∷ vs) k d = let Z : Pr = ⟦ roster cv.code γ k (v ∷ vs) ⟧ ∗ ⟦ tokens k (v ∷ vs) ⟧ in let L : Fml = seen cv.code γ k quarter v in let T : Fml = seen cv.code γ k three_quarters v in
        qed 𝓛 (‵ (unused cv.code γ k d) ∷ []) ∵ use1 𝓛 (‵ (seen cv.code γ k full_share d) ⊛ ‵ (unused cv.code γ (suc k) d)) (entries_take halved 𝓛 γ k (λ _. (full_share, cv.code d))) $ split ! $
        use1 𝓛 (raw (upd 𝓤 (⟦ L ⟧ ∗ ⟦ T ⟧))) (resets 𝓛 cv γ k d v) $ settle 𝓛 Z (‵ L ⊛ ‵ T) $ split ! $ move ! (2 ∷ []) $
        use1 𝓛 (raw (upd 𝓤 (⟦ roster cv.code γ (suc k) vs ⟧ ∗ ⟦ tokens (suc k) vs ⟧))) (enrolls vs (suc k) d) $ settle 𝓛 Z (‵ (roster cv.code γ (suc k) vs) ⊛ ‵ (tokens (suc k) vs)) $ split ! $
        suffices ! _ (upd_i 𝓤 Z) $ move ! (2 ∷ 0 ∷ []) $ fjoin ! $ move ! (2 ∷ 1 ∷ []) $ fjoin ! $ move ! (1 ∷ 0 ∷ []) $ done !

    abbrev none_seen : Fml
    none_seen = at_least (prefixes ce) z.log_name []

    hands : (vs : List V) (k : ℕ) → ⟦ none_seen ⟧ ∗ ⟦ tokens k vs ⟧ ⊢ ⟦ waiting cv.code ce z k vs ⟧
    hands [] k = base.Logic.snd∗ 𝓤 ⟦ none_seen ⟧ (emp 𝓤)
    hands (v ∷ vs) k = qed 𝓛 (‵ none_seen ∷ ‵ (seen cv.code γ k three_quarters v) ∷ ‵ (tokens (suc k) vs) ∷ []) ∵ use1 𝓛 (‵ none_seen ⊛ ‵ none_seen) (at_least_dup (prefixes ce) 𝓛 z.log_name []) $ split ! $
        move ! (0 ∷ 3 ∷ []) $ use2 𝓛 (‵ (waiting cv.code ce z (suc k) vs)) (hands vs (suc k)) $ nothing ! $ move ! (2 ∷ 0 ∷ []) $ fjoin ! $ move ! (2 ∷ 0 ∷ []) $ fjoin ! $ move ! (0 ∷ 1 ∷ []) $ done !

    abbrev laid_of : List (ℕ × List ℕ) → List (ℕ × ℕ) → ℕ → ℕ → Fml
    laid_of us ns e f = laid z.atom z.width (z.room * 8) z.block us ns e f

    abbrev place_of : ℕ → ℕ → ℕ × ℕ → Spot
    place_of = place z.atom z.width (z.room * 8) z.block

    step_on : (d i e : ℕ) → suc i * d + e ≡ i * d + (e + d)
    step_on d i e = let x : ℕ = i * d in let m : suc i * d ≡ x + d = suc-mul i d in let r : suc i * d + e ≡ x + (e + d) = omega arith in r

    none_on : (d e : ℕ) → 0 * d + e ≡ e
    none_on d e = let m : 0 * d ≡ 0 = zero-mul d in let r : 0 * d + e ≡ e = omega arith in r

    -- each unit's contents are readable, and are owed to the block
    sorts : (us : List (ℕ × List ℕ)) (ns : List (ℕ × ℕ)) (k e f : ℕ) → ((i : ℕ) → spot z (k + i) ≡ place_of (i * stride z + e) (i * (z.room * 8) + f) (get_or ns i (0, 0)))
        → ⟦ laid_of us ns e f ⟧ ⊢ ⟦ accesses_row z k (map (λ u. readable 0 u.1) us) ⟧ ∗ ⟦ owed z k (length us) ⟧
    sorts [] ns k e f h = base.Logic.emp∗ 𝓤 (emp 𝓤)
    sorts (u ∷ us) [] k e f h = never_e 𝓤 _
    sorts (u ∷ us) (n ∷ ns) k e f h = let d : ℕ = stride z in let r : ℕ = z.room * 8 in
        let is : spot z k ≡ place_of e f n = ap (spot z) (let s : k ≡ k + 0 = omega arith in s) ∙ h 0 ∙ (λ i. place_of (none_on d e i) (none_on r f i) n) in
        let next : (i : ℕ) → spot z (suc k + i) ≡ place_of (i * d + (e + d)) (i * r + (f + r)) (get_or ns i (0, 0)) = λ i. ap (spot z) (let s : suc k + i ≡ k + suc i = omega arith in s) ∙ h (suc i)
        ∙ (λ j. place_of (step_on d i e j) (step_on r i f j) (get_or ns i (0, 0))) in
        qed 𝓛 (‵ (one z.atom z.width r z.block e f u.1 n) ∷ ‵ (laid_of us ns (e + d) (f + r)) ∷ []) ∵ fsplit ! $
        rewrite ! 0 (λ (t : Spot). ‵ (access_at t (readable 0 u.1))) (sym is) refl $ rewrite ! 1 (λ (t : Spot). ‵ (flent (block_life z) (held t))) (sym is) refl $ move ! (2 ∷ []) $
        use1 𝓛 (‵ (accesses_row z (suc k) (map (λ v. readable 0 v.1) us)) ⊛ ‵ (owed z (suc k) (length us))) (sorts us ns (suc k) (e + d) (f + r) next) $ split ! $
        move ! (2 ∷ 0 ∷ []) $ fjoin ! $ move ! (2 ∷ 1 ∷ []) $ fjoin ! $ move ! (1 ∷ 0 ∷ []) $ done !

  next : (z : BlockId) (k e : ℕ) → e ≡ unit_at z k → e + stride z ≡ unit_at z (suc k)
  next z k e is = let x : ℕ = k * stride z in let m : suc k * stride z ≡ x + stride z = suc-mul k (stride z) in let r : e ≡ x + z.offset = is in omega arith

  length_flat : (w : ℕ) (us : List (ℕ × List ℕ)) → AreWide w us → length (flat us) ≡ length us * (w + 1)
  length_flat w [] wide = sym (zero-mul (w + 1))
  length_flat w (u ∷ us) wide = let h = length_flat w us wide.1 in let l : length u.1 ≡ w = wide.0 in let a = length-append u.1 (flat us) in let m = suc-mul (length us) (w + 1) in omega arith

  bytes_of : (w : ℕ) (us : List (ℕ × List ℕ)) → AreWide w us → length us * (w * 8 + 8) ≡ length (flat us) * 8
  bytes_of w us wide = widths (length us) w ∙ ap (λ (n : ℕ). n * 8) (sym (length_flat w us wide))

  next_bytes : (z : BlockId) (k f : ℕ) → f ≡ bytes_at z k → f + z.room * 8 ≡ bytes_at z (suc k)
  next_bytes z k f is = let r : ℕ = z.room * 8 in let x : ℕ = k * r in let m : suc k * r ≡ x + r = suc-mul k r in let h : f ≡ x + (z.units * stride z + z.offset) = is in omega arith

  -- room for words is room for eight times as many bytes, until it is given back
  as_bytes : (n b o : ℕ) → ⟦ spare 𝓛 n b o ⟧ ⊢ ⟦ blank (n * 8) b o ⟧ ∗ ⟦ fwand (blank (n * 8) b o) (spare 𝓛 n b o) ⟧
  as_bytes n b o = 𝓛.laws.room_as (ty_array (ty_int w64) n) (ty_array (ty_int w8) (n * 8)) b o (let r : n * 8 * 1 ≡ n * 8 = omega arith in r) tt

  module _ {V E : Type 0} (cv : Coded V) (ce : Coded E) (holds : State V E → Type 0) (p : Ptr) where
    module _ (w r : ℕ) (L : ℕ × ℕ) (us : List (ℕ × List ℕ)) (vs : List V) (v₀ : V) where
      abbrev Size : BlockId → Type 0
      Size z = (z.units ≡ length us) × (z.width ≡ w) × (z.room ≡ r) × InBlock p × (z.limits ≡ L)

      abbrev pub Dealt : BlockId → Pr
      Dealt z = guard 𝓤 (Size z) (⟦ block_owns cv.code ce holds p z ⟧ ∗ ⟦ waiting cv.code ce z 0 vs ⟧)

      -- the block goes under its invariant, and its tokens are made
      pub deals : AreWide w us → holds (opening us vs) → length (flat us) * 8 + length us * r * 8 < 2 ^ 63 → ⟦ strip u64 p (flat us) ⟧ ∗ ⟦ spare 𝓛 (length us * r) (block_of p) (length (flat us) * 8 + count_of p) ⟧ ⊢ H.⇛ (ex 𝓤 Dealt)
      unfolding Rattle.packet_ring.specs.Lent.seal
      deals wide good small = let b : ℕ = block_of p in let o : ℕ = count_of p in let s₀ : State V E = opening us vs in let n : ℕ = length us in let d' : ℕ = w * 8 + 8 in let f : ℕ = n * d' + o in
          let long : n * d' ≡ length (flat us) * 8 = bytes_of w us wide in let rooms : n * r * 8 ≡ n * (r * 8) = mul_assoc n r 8 in
          qed 𝓛 (‵ (strip u64 p (flat us)) ∷ ‵ (spare 𝓛 (n * r) b (length (flat us) * 8 + o)) ∷ []) ∵ updating ! $ fsplit ! $ fpick ! (λ fit. drop ! $ move ! (1 ∷ []) $ rewrite ! 0 (λ (k : ℕ). ‵ (spare 𝓛 (n * r) b (k + o))) (sym long) refl $
          use1 𝓛 (‵ (blank (n * r * 8) b f) ⊛ ‵ (fwand (blank (n * r * 8) b f) (spare 𝓛 (n * r) b f))) (as_bytes (n * r) b f) $ split ! $ rewrite ! 0 (λ (k : ℕ). ‵ (blank k b f)) rooms refl $ move ! (2 ∷ 0 ∷ []) $ join ! $
          lft_new ! tt (λ a. let κ' : Lft = a ∷ [] in move ! (1 ∷ 0 ∷ []) $
          use2 𝓛 (later ((‵ (row (d a w (r * 8) b) b o (map (λ u. u.0) us)) ⊛ some (λ (ns : List (ℕ × ℕ)). ‵ (laid a w (r * 8) b us ns o f))) ⊛ ‵ (flft κ' full_share))) (lends a w (r * 8) b full_share us o f wide) $ await ! tt $ split ! $ split ! $ move ! (1 ∷ []) $ pick ! (λ ns.
          use0 𝓛 (later (some (λ (g : ℕ). ‵ (unused cv.code g 0 v₀)))) (via 𝓤 _ (entries_new halved 𝓛 0 (λ _. (full_share, cv.code v₀))) (basic 𝓛 (ex 𝓤 (λ (g : ℕ). ⟦ unused cv.code g 0 v₀ ⟧)))) $ await ! tt $ pick ! (λ g.
          use0 𝓛 (later (some (λ (l : ℕ). ‵ (latest (prefixes ce) full_share l [])))) (via 𝓤 _ (latest_new (prefixes ce) 𝓛 []) (basic 𝓛 (ex 𝓤 (λ (l : ℕ). ⟦ latest (prefixes ce) full_share l [] ⟧)))) $ await ! tt $ pick ! (λ l.
          let z : BlockId = record { units = length us; width = w; room = r; limits = L; views_name = g; log_name = l; atom = a; block = b; offset = o; names = ns } in let I : Fml = inner cv.code ce holds p z in
          use1 𝓛 (‵ (latest (prefixes ce) full_share l []) ⊛ ‵ (none_seen cv ce z)) (latest_shows (prefixes ce) 𝓛 full_share l [] [] (prefix_refl [])) $ split ! $ move ! (2 ∷ []) $
          use1 𝓛 (later (‵ (roster cv.code g 0 vs) ⊛ ‵ (tokens cv ce z 0 vs))) (via 𝓤 _ (enrolls cv ce z vs 0 v₀) (basic 𝓛 (⟦ roster cv.code g 0 vs ⟧ ∗ ⟦ tokens cv ce z 0 vs ⟧))) $ await ! tt $ split ! $
          move ! (3 ∷ 1 ∷ []) $ use2 𝓛 (‵ (waiting cv.code ce z 0 vs)) (hands cv ce z vs 0) $ move ! (3 ∷ []) $
          use1 𝓛 (‵ (accesses_row z 0 s₀.accesses) ⊛ ‵ (owed z 0 (length us))) (sorts cv ce z us ns 0 o f (λ i. ap (spot z) (let r : 0 + i ≡ i = omega arith in r))) $ split ! $
          move ! (3 ∷ 4 ∷ []) $ fjoin ! $ move ! (1 ∷ 0 ∷ []) $ fjoin ! $ nothing ! $ fpack ! (Keeps cv.code ce holds p z s₀) (λ _. ftrue) (good, length-map us (λ u. u.0), length-map us (λ u. readable 0 u.1)) $
          move ! (4 ∷ 1 ∷ 0 ∷ []) $ fjoin3 ! $ fpack ! (State V E) (standing cv.code ce holds p z) s₀ $ bor_new ! tt κ' $
          use1 𝓛 (later (‵ (finv (fbor κ' I)))) (𝓛.invs.inv_new (fbor κ' I)) $ await ! tt $ nothing ! $ fpack ! (Placed p z) (λ _. ftrue) (at_block p fit.0, (omega arith)) $ fjoin ! $
          move ! (2 ∷ 5 ∷ []) $ fjoin ! $ move ! (2 ∷ 0 ∷ []) $ fjoin ! $ move ! (3 ∷ 1 ∷ 0 ∷ []) $ fjoin3 ! $ now ! $ show ! Dealt z $ check ! (refl, refl, refl, fit.0, refl) $ done !)))))

    module _ (z : BlockId) where
      abbrev pub size : ℕ
      size = z.units * (z.width + 1)

      abbrev pub more : ℕ
      more = z.units * z.room

      abbrev Back : ℕ → ℕ → ℕ → List ℕ → Pr
      Back n e f xs = guard 𝓤 (length xs ≡ n * (z.width + 1)) (⟦ side xs z.block e ⟧ ∗ ⟦ blank (n * (z.room * 8)) z.block f ⟧)

      abbrev pub Gathered : List ℕ → Pr
      Gathered xs = guard 𝓤 ((length xs ≡ size) × InBlock p × (length xs * 8 + more * 8 < 2 ^ 63)) (⟦ strip u64 p xs ⟧ ∗ ⟦ spare 𝓛 more (block_of p) (length xs * 8 + count_of p) ⟧)

      -- all words, cells and places for bytes come back once the block's lifetime is over
      collects : (ws : List ℕ) (k e f : ℕ) → e ≡ unit_at z k → f ≡ bytes_at z k → A.dead (block_life z) ∗ ⟦ row (stride z) z.block e ws ⟧ ∗ ⟦ owed z k (length ws) ⟧ ⊢ H.⇛ (ex 𝓤 (Back (length ws) e f))
      collects [] k e f is at = let none : 0 ≡ 0 * (z.room * 8) = sym (zero-mul (z.room * 8)) in
          qed 𝓛 (‵ (fdead (block_life z)) ∷ ‵ ftrue ∷ ‵ ftrue ∷ []) ∵ updating ! $ now ! $ show ! (Back 0 e f) [] $ check ! (sym (zero-mul (z.width + 1))) $ keep ! (1 ∷ 2 ∷ []) $ move ! (1 ∷ []) $
          use1 𝓛 (‵ (blank 0 z.block f)) (𝓛.laws.room_nil (ty_int w8) z.block f) $ rewrite ! 0 (λ (n : ℕ). ‵ (blank n z.block f)) none refl $ move ! (1 ∷ 0 ∷ []) $ done !
      collects (n ∷ ws) k e f is at = let b : ℕ = z.block in let t : Spot = spot z k in let r : ℕ = z.room * 8 in let m : ℕ = length ws * r in
          qed 𝓛 (‵ (fdead (block_life z)) ∷ (‵ (word b e n) ⊛ ‵ (row (stride z) b (e + stride z) ws)) ∷ (‵ (flent (block_life z) (held t)) ⊛ ‵ (owed z (suc k) (length ws))) ∷ []) ∵ updating ! $
          use1 𝓛 (‵ (fdead (block_life z)) ⊛ ‵ (fdead (block_life z))) (𝓛.lfts.dead_dup (block_life z)) $ split ! $ move ! (2 ∷ []) $ split ! $ move ! (4 ∷ []) $ split ! $
          move ! (4 ∷ 3 ∷ 1 ∷ []) $ use3 𝓛 (later (some (λ (xs : List ℕ). given (length xs ≡ length ws * (z.width + 1)) (‵ (side xs b (e + stride z)) ⊛ ‵ (blank m b (f + r)))))) (collects ws (suc k) (e + stride z) (f + r) (next z k e is) (next_bytes z k f at)) $ await ! tt $ pick ! (λ xs. learn ! (λ long. split ! $
          move ! (4 ∷ 2 ∷ []) $ lent_back ! tt $ fpick ! (λ x. let y : List ℕ = take z.width x in fsplit ! $ fsplit ! $ use1 𝓛 (given (length y ≡ z.width) (‵ (side y b t.offset))) (sidewise z.width y b t.offset) $ learn ! (λ l.
          rewrite ! 0 (λ (i : ℕ). ‵ (side y b i)) (ap (λ (i : ℕ). i + 8) (sym is)) refl $ move ! (1 ∷ []) $ use1 𝓛 (‵ (blank r b t.bytes)) (blanked 𝓛 t (drop_l z.width x)) $ rewrite ! 0 (λ (i : ℕ). ‵ (blank r b i)) (sym at) refl $ move ! (0 ∷ 4 ∷ []) $
          use2 𝓛 (‵ (blank (r + m) b f)) (blank_glue 𝓛 r m b f) $ rewrite ! 0 (λ (i : ℕ). ‵ (blank i b f)) (let s : suc (length ws) * r ≡ m + r = suc-mul (length ws) r in let q : r + m ≡ suc (length ws) * r = omega arith in q) refl $ move ! (1 ∷ 3 ∷ []) $
          use2 𝓛 (‵ (side (y ++ xs) b (e + 8))) (glue y xs b (e + 8) (e + stride z) (let r : length y * 8 ≡ z.width * 8 = ap (λ (i : ℕ). i * 8) l in omega arith)) $ move ! (3 ∷ []) $
          use1 𝓛 (‵ (part_at u64 full_share n b e)) (word_in 𝓛 b e n) $ move ! (0 ∷ 1 ∷ []) $ fjoin ! $
          now ! $ show ! (Back (suc (length ws)) e f) (n ∷ (y ++ xs)) $ check ! (let a = length-append y xs in let m = suc-mul (length ws) (z.width + 1) in omega arith) $ keep ! (0 ∷ 1 ∷ []) $ done !))))

      pub owns_lies : ⟦ block_owns cv.code ce holds p z ⟧ ⊢ guard 𝓤 (InBlock p) ⟦ block_owns cv.code ce holds p z ⟧
      unfolding Rattle.packet_ring.specs.Lent.seal
      owns_lies = qed 𝓛 (‵ (flft (block_life z) full_share) ∷ ‵ (common cv.code ce holds p z) ∷ ‵ (rights cv.code ce holds p z) ∷ []) ∵ move ! (1 ∷ []) $ fsplit ! $ fpick ! (λ at.
          check ! (subst InBlock (sym at.0) tt) $ fpack ! (Placed p z) (λ _. ftrue) at $ fjoin ! $ move ! (1 ∷ 0 ∷ []) $ done !)

      -- the block's lifetime ends, and its memory comes back
      pub gathers : ⟦ block_owns cv.code ce holds p z ⟧ ⊢ H.⇛ (ex 𝓤 Gathered)
      unfolding Rattle.packet_ring.specs.Lent.seal
      gathers = let b : ℕ = z.block in let o : ℕ = z.offset in let f : ℕ = z.units * stride z + o in let rooms : z.units * z.room * 8 ≡ z.units * (z.room * 8) = mul_assoc z.units z.room 8 in
          qed 𝓛 (‵ (flft (block_life z) full_share) ∷ ‵ (common cv.code ce holds p z) ∷ ‵ (rights cv.code ce holds p z) ∷ []) ∵ updating ! $ lft_end ! tt $
          use1 𝓛 (‵ (fdead (block_life z)) ⊛ ‵ (fdead (block_life z))) (𝓛.lfts.dead_dup (block_life z)) $ split ! $ move ! (2 ∷ []) $ fsplit ! $ fpick ! (λ at. drop ! $ drop ! $ move ! (2 ∷ []) $ fsplit3 ! $ move ! (3 ∷ 0 ∷ []) $ lent_back ! tt $
          fpick ! (λ s. fsplit3 ! $ move ! (2 ∷ []) $ fpick ! (λ so. drop ! $ rewrite ! 2 (λ (n : ℕ). ‵ (owed z 0 n)) (sym so.1) refl $ move ! (4 ∷ 0 ∷ 2 ∷ []) $
          use3 𝓛 (later (some (λ (xs : List ℕ). given (length xs ≡ length s.words * (z.width + 1)) (‵ (side xs b o) ⊛ ‵ (blank (length s.words * (z.room * 8)) b f))))) (collects s.words 0 o f (let m : 0 * stride z ≡ 0 = zero-mul (stride z) in omega arith) (let m : 0 * (z.room * 8) ≡ 0 = zero-mul (z.room * 8) in omega arith)) $ await ! tt $ pick ! (λ xs. learn ! (λ long. split ! $
          let all : length xs ≡ size = long ∙ ap (λ (n : ℕ). n * (z.width + 1)) so.1 in let inp : InBlock p = subst InBlock (sym at.0) tt in let bytes : z.units * stride z ≡ length xs * 8 = widths z.units z.width ∙ ap (λ (n : ℕ). n * 8) (sym all) in
          let n : ℕ = z.units * z.room in let whole = at.1 in let few : length xs * 8 < 2 ^ 63 = omega arith in
          move ! (1 ∷ []) $ rewrite ! 0 (λ (k : ℕ). ‵ (blank k b f)) (ap (λ (k : ℕ). k * (z.room * 8)) so.1 ∙ sym rooms) refl $ move ! (0 ∷ 3 ∷ []) $ use2 𝓛 (‵ (spare 𝓛 n b f)) (apply∗ 𝓤 ⟦ blank (n * 8) b f ⟧ ⟦ spare 𝓛 n b f ⟧) $
          rewrite ! 0 (λ (u : ℕ × Ptr). ‵ (spare 𝓛 n (block_of u.1) (u.0 + count_of u.1))) (λ i. (bytes i, sym at.0 i)) refl $ move ! (1 ∷ []) $
          rewrite ! 0 (λ (q : Ptr). ‵ (side xs (block_of q) (count_of q))) (sym at.0) refl $
          nothing ! $ fpack ! (InBlock p × (length xs * 8 < 2 ^ 63)) (λ _. ftrue) (inp, few) $ fjoin ! $
          now ! $ show ! Gathered xs $ check ! (all, inp, (omega arith)) $ keep ! (0 ∷ 1 ∷ []) $ done !)))))
