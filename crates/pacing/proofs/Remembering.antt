-- What the marks of a log stand for.
use Rattle.std.proofs.Common.{◌≡◌, ◌<◌, ◌≤◌, ◌+◌, ◌-◌, ◌++◌, ◌∷◌, [], ◌⊎◌, ℕ, zero, suc, List, Option, None, Some, Bool, true, false, length, get_or, refl, ap, subst, inl, inr, arith, filter, nat_le, nat_lt, cond}
use Rattle.std.specs.Prelude.{All, AllPairs, IsSomeAnd}
use Rattle.std.specs.Option.{option_map_or, option_or}
use Rattle.std.specs.List.Sorted.{IsNonDecreasing}
use Rattle.std.proofs.lemmas.Bool.{cases_lt, le-leb, lt-leb, leb-true}
use Rattle.std.proofs.lemmas.Bool.Decides.{nat_tests}
use Rattle.std.proofs.lemmas.List.{get_or_default, length-append}
use Rattle.std.proofs.lemmas.List.Elements.{All-filter, All-head, All-push, All-tail, All-weaker, filter_passes}
use Rattle.std.proofs.lemmas.List.Filters.{length-filter_both}
use Rattle.std.proofs.lemmas.List.Folds.{find-append}
use Rattle.std.proofs.lemmas.List.Kept.{AllPairs-filter}
use Rattle.std.proofs.lemmas.List.Quantifiers.{all_pairs_push}
use Rattle.std.proofs.lemmas.List.Sorted.{IsNonDecreasingBy-push}
use Rattle.std.proofs.lemmas.List.Sums.{length-filter, sum_by_push, sum_by-le}
use Rattle.std.proofs.lemmas.Option.{slice_get-get_or, slice_get_cases}
use Rattle.std.proofs.Math.Seq.{get_or-append_seam}
use Rattle.pacing.specs.declared.recent.Mark.{Mark}
use Rattle.pacing.specs.Recent.{Stands, first_since, last_of, mark_since, published_before, published_since, tenth_of, HasBegun, AreMarks}

-- the marks of a tenth and of later ones, which stay when another tenth begins
abbrev pub remembered : (oldest : ℕ) → List Mark → List Mark
remembered oldest marks = filter (λ mark. nat_le oldest mark.tenth) marks

-- a packet was published before a tenth, or in it or later
before_or_since : (tenth : ℕ) (moments : List ℕ) → published_before tenth moments + published_since tenth moments ≡ length moments
before_or_since tenth moments =
    let earlier = λ (moment : ℕ). nat_lt (tenth_of moment) tenth in
    let later = λ (moment : ℕ). nat_le tenth (tenth_of moment) in
    let both = length-filter_both earlier later (λ moment. grind (arith, nat_tests)) moments in
    let before = length-filter earlier moments in
    let since = length-filter later moments in
    omega arith

-- one more packet that is no earlier
before_more : (tenth : ℕ) (moments : List ℕ) (now : ℕ) → tenth ≤ tenth_of now → published_before tenth (moments ++ now ∷ []) ≡ published_before tenth moments
before_more tenth moments now later =
    let more = sum_by_push (λ (moment : ℕ). cond (nat_lt (tenth_of moment) tenth) 1 0) moments now in
    grind (arith, nat_tests)

-- one more packet that is earlier
before_one_more : (tenth : ℕ) (moments : List ℕ) (now : ℕ) → tenth_of now < tenth → published_before tenth (moments ++ now ∷ []) ≡ published_before tenth moments + 1
before_one_more tenth moments now earlier =
    let more = sum_by_push (λ (moment : ℕ). cond (nat_lt (tenth_of moment) tenth) 1 0) moments now in
    grind (arith, nat_tests)

-- no packet was published after the last one
at_most_last : (moments : List ℕ) → IsNonDecreasing moments → (k d : ℕ) → k < length moments → get_or moments k d ≤ last_of moments
at_most_last moments rising k d within =
    let at_end : length moments - 1 < length moments = omega arith in
    let order = rising k (length moments - 1) d (omega arith) at_end in
    let same = get_or_default moments (length moments - 1) d 0 at_end in
    omega arith

-- all packets were published before a tenth that is after the last one's
all_before : (tenth : ℕ) (moments : List ℕ) → IsNonDecreasing moments → tenth_of (last_of moments) < tenth → published_before tenth moments ≡ length moments
all_before tenth moments rising earlier =
    let none = sum_by-le (λ (moment : ℕ). cond (nat_le tenth (tenth_of moment)) 1 0) 0 moments (λ k d within.
    let most = at_most_last moments rising k d within in
    let before : tenth_of (get_or moments k d) < tenth = omega arith in
    rw (lt-leb tenth (tenth_of (get_or moments k d)) before) (omega arith)) in
    let both = before_or_since tenth moments in
    omega arith

-- the last moment of a list that has one more
last_more : (moments : List ℕ) (now : ℕ) → last_of (moments ++ now ∷ []) ≡ now
last_more moments now =
    let long : length (moments ++ now ∷ []) - 1 ≡ length moments = simp length-append (omega arith) in
    rw long (get_or-append_seam moments now [] 0)

-- no mark is of a tenth or of a later one, or the first such mark has a smaller number than this
found_before : (tenth number : ℕ) (marks : List Mark) → All (λ mark. mark.first < number) marks
    → (mark_since tenth marks ≡ None) ⊎ ((published : ℕ) → first_since tenth marks published < number)
found_before tenth number [] all = inl refl
found_before tenth number (mark ∷ marks) all =
    let head = All-head (λ (mark : Mark). mark.first < number) mark marks all in
    let rest = found_before tenth number marks (All-tail (λ (mark : Mark). mark.first < number) mark marks all) in
    elim (nat_le tenth mark.tenth)
    as (λ (b : Bool). (cond b (Some mark) (mark_since tenth marks) ≡ None) ⊎ ((published : ℕ) → option_map_or (λ (mark : Mark). mark.first) (cond b (Some mark) (mark_since tenth marks)) published < number))
    [ true ↦ inr (λ published. head) | false ↦ rest ]

-- the first mark of a tenth or of a later one stays, if that tenth is remembered
found_in_remembered : (oldest tenth : ℕ) → oldest ≤ tenth → (marks : List Mark) → mark_since tenth (remembered oldest marks) ≡ mark_since tenth marks
found_in_remembered oldest tenth order [] = refl
found_in_remembered oldest tenth order (mark ∷ marks) =
    let rest = found_in_remembered oldest tenth order marks in
    elim (cases_lt mark.tenth oldest) [
      | inl older ↦ let later : mark.tenth < tenth = omega arith in rw (lt-leb oldest mark.tenth older, lt-leb tenth mark.tenth later) rest
      | inr stays ↦ rw (le-leb oldest mark.tenth stays) (ap (λ (found : Option Mark). cond (nat_le tenth mark.tenth) (Some mark) found) rest)
    ]

-- the last mark, if it is of this tenth or of a later one
begun_at : (tenth : ℕ) (marks : List Mark) → HasBegun tenth marks → (last : Mark) × (length marks - 1 < length marks) × (tenth ≤ (get_or marks (length marks - 1) last).tenth)
begun_at tenth marks begun =
    elim (slice_get_cases marks (length marks - 1)).1 [
      | inl (last, within, is, same) ↦ (last, within, rw same (subst (λ (found : Option Mark). IsSomeAnd found (λ mark. tenth ≤ mark.tenth)) is begun))
      | inr (past, none) ↦ absurd (subst (λ (found : Option Mark). IsSomeAnd found (λ mark. tenth ≤ mark.tenth)) none begun)
    ]

-- if the last mark is of an earlier tenth, all are
none_begun : (tenth : ℕ) (marks : List Mark) → AllPairs (λ (earlier : Mark) (later : Mark). earlier.tenth < later.tenth) marks → (HasBegun tenth marks → ⊥) → All (λ mark. mark.tenth < tenth) marks
none_begun tenth marks rising not_begun k d within =
    let at_end : length marks - 1 < length marks = omega arith in
    let last = slice_get-get_or marks (length marks - 1) d at_end in
    elim (cases_lt (get_or marks (length marks - 1) d).tenth tenth) [
      | inl earlier ↦
          elim (cases_lt k (length marks - 1)) [
            | inl before ↦ let order = rising k (length marks - 1) d before at_end in omega arith
            | inr end ↦ let same : k ≡ length marks - 1 = omega arith in rw same earlier
          ]
      | inr later ↦ absurd (not_begun (rw last later))
    ]

-- if some mark is of a tenth or of a later one, the number of all packets doesn't matter
found_at : (tenth : ℕ) (marks : List Mark) (place : ℕ) (d : Mark) → place < length marks → tenth ≤ (get_or marks place d).tenth → (all more : ℕ) → first_since tenth marks all ≡ first_since tenth marks more
found_at tenth [] place d within later all more = absurd (omega arith)
found_at tenth (mark ∷ marks) zero d within later all more = rw (le-leb tenth mark.tenth later) refl
found_at tenth (mark ∷ marks) (suc place) d within later all more =
    let rest = found_at tenth marks place d (omega arith) later all more in
    elim (cases_lt mark.tenth tenth) [
      | inl lower ↦ rw (lt-leb tenth mark.tenth lower) rest
      | inr here ↦ rw (le-leb tenth mark.tenth here) refl
    ]

-- if the last packet was published before a tenth, no mark is of that tenth or of a later one
none_later : (moments : List ℕ) (marks : List Mark) (tenth : ℕ) → Stands moments marks → tenth_of (last_of moments) < tenth → mark_since tenth marks ≡ None
none_later moments marks tenth stands earlier =
    let all = all_before tenth moments stands.rising earlier in
    let first = stands.first tenth (omega arith) in
    elim (found_before tenth (length moments) marks stands.numbered) [
      | inl none ↦ none
      | inr less ↦ let before = less (length moments) in absurd (omega arith)
    ]

-- the moments still don't fall with one more
rising_more : (moments : List ℕ) (now : ℕ) → IsNonDecreasing moments → last_of moments ≤ now → IsNonDecreasing (moments ++ now ∷ [])
rising_more moments now rising order =
    IsNonDecreasingBy-push (λ moment. moment) moments now rising (λ d some. let most = at_most_last moments rising (length moments - 1) d (omega arith) in omega arith)

-- a packet of the last mark's tenth
pub same_tenth : (moments : List ℕ) (marks : List Mark) (now : ℕ) → Stands moments marks → last_of moments ≤ now → HasBegun (tenth_of now) marks → Stands (moments ++ now ∷ []) marks
same_tenth moments marks now stands order begun =
    let (d, within, at) = begun_at (tenth_of now) marks begun in
    let more : length (moments ++ now ∷ []) ≡ length moments + 1 = length-append moments (now ∷ []) in
    let last = last_more moments now in
    record {
      rising = rising_more moments now stands.rising order;
      numbered = All-weaker (λ mark. mark.first < length moments) (λ mark. mark.first < length (moments ++ now ∷ [])) (λ mark before. omega arith) marks stands.numbered;
      first = λ tenth recent.
          elim (cases_lt (tenth_of now) tenth) [
            | inl earlier ↦
                let none = none_later moments marks tenth stands (omega arith) in
                let before = all_before tenth moments stands.rising (omega arith) in
                let one_more = before_one_more tenth moments now earlier in
                rw none (omega arith)
            | inr later ↦
                let known = stands.first tenth (omega arith) in
                let same = found_at tenth marks (length marks - 1) d within (omega arith) (length (moments ++ now ∷ [])) (length moments) in
                let no_more = before_more tenth moments now later in
                omega arith
          ];
    }

-- one more mark at the end, which is found if no other is
or_last : (found : Option Mark) (mark : Mark) (all : ℕ) → option_map_or (λ (mark : Mark). mark.first) (option_or found (Some mark)) all ≡ option_map_or (λ (mark : Mark). mark.first) found mark.first
or_last None mark all = refl
or_last (Some found) mark all = refl

-- a packet that begins a tenth
pub next_tenth : (moments : List ℕ) (marks new : List Mark) (next : Mark) (now oldest : ℕ) → Stands moments marks → last_of moments ≤ now → oldest ≤ tenth_of now - 100
    → new ≡ remembered oldest marks ++ next ∷ [] → next.tenth ≡ tenth_of now → next.first ≡ length moments → Stands (moments ++ now ∷ []) new
next_tenth moments marks new next now oldest stands order old pushed of_now numbered =
    let more : length (moments ++ now ∷ []) ≡ length moments + 1 = length-append moments (now ∷ []) in
    let last = last_more moments now in
    let IsBefore = λ (mark : Mark). mark.first < length (moments ++ now ∷ []) in
    let before = All-weaker (λ mark. mark.first < length moments) IsBefore (λ mark before. omega arith) marks stands.numbered in
    let next_is_before : next.first < length (moments ++ now ∷ []) = omega arith in
    rw pushed (record {
      rising = rising_more moments now stands.rising order;
      numbered = All-push IsBefore (remembered oldest marks) next (All-filter (λ (mark : Mark). nat_le oldest mark.tenth) IsBefore marks before) next_is_before;
      first = λ tenth recent.
          let in_marks = found_in_remembered oldest tenth (omega arith) marks in
          let parts = find-append (λ (mark : Mark). nat_le tenth mark.tenth) (remembered oldest marks) (next ∷ []) in
          elim (cases_lt (tenth_of now) tenth) [
            | inl earlier ↦
                let none = none_later moments marks tenth stands (omega arith) in
                let all = all_before tenth moments stands.rising (omega arith) in
                let one_more = before_one_more tenth moments now earlier in
                let next_earlier : next.tenth < tenth = omega arith in
                rw (parts, in_marks, none, lt-leb tenth next.tenth next_earlier) (omega arith)
            | inr later ↦
                let known = stands.first tenth (omega arith) in
                let no_more = before_more tenth moments now later in
                let or_next = or_last (mark_since tenth marks) next (length (moments ++ now ∷ [])) in
                let next_later : tenth ≤ next.tenth = omega arith in
                rw (parts, in_marks, le-leb tenth next.tenth next_later, or_next, numbered, known, no_more) refl
          ];
    })

-- how many packets were published in the last milliseconds
pub wanted_is : (moments : List ℕ) (marks : List Mark) (now milliseconds : ℕ) → Stands moments marks → last_of moments ≤ now → milliseconds ≤ 10000
    → length moments - first_since (tenth_of (now - milliseconds)) marks (length moments) ≡ published_since (tenth_of (now - milliseconds)) moments
wanted_is moments marks now milliseconds stands order most =
    let first = stands.first (tenth_of (now - milliseconds)) (omega arith) in
    let both = before_or_since (tenth_of (now - milliseconds)) moments in
    omega arith

-- if tenths rise from a lowest one on, each is as far from it as its place, or farther
climb : (marks : List Mark) (low : ℕ) → AllPairs (λ (earlier : Mark) (later : Mark). earlier.tenth < later.tenth) marks → All (λ mark. low ≤ mark.tenth) marks → (d : Mark) (k : ℕ) → k < length marks → low + k ≤ (get_or marks k d).tenth
climb marks low rising above d zero within = let first = above 0 d within in omega arith
climb marks low rising above d (suc k) within =
    let before = climb marks low rising above d k (omega arith) in
    let next = rising k (suc k) d (omega arith) within in
    omega arith

-- if the tenths of marks rise, there are no more marks than tenths
few_marks : (marks : List Mark) (low high : ℕ) → AllPairs (λ (earlier : Mark) (later : Mark). earlier.tenth < later.tenth) marks → All (λ mark. low ≤ mark.tenth) marks → All (λ mark. mark.tenth < high) marks → length marks ≤ high - low
few_marks marks low high rising above below =
    let none : Mark = record { tenth = 0; first = 0 } in
    elim (cases_lt 0 (length marks)) [
      | inl some ↦
          let last = climb marks low rising above none (length marks - 1) (omega arith) in
          let under = below (length marks - 1) none (omega arith) in
          omega arith
      | inr empty ↦ omega arith
    ]

-- when a tenth begins, at most 100 marks stay
pub few_remembered : (marks : List Mark) (tenth oldest room : ℕ) → AreMarks marks room → (HasBegun tenth marks → ⊥) → tenth ≤ oldest + 100 → length (remembered oldest marks) ≤ 100
few_remembered marks tenth oldest room are not_begun near =
    let stays = λ (mark : Mark). nat_le oldest mark.tenth in
    let rising = AllPairs-filter (λ (earlier : Mark) (later : Mark). earlier.tenth < later.tenth) stays marks are.rising in
    let above = All-weaker (λ (mark : Mark). stays mark ≡ true) (λ mark. oldest ≤ mark.tenth) (λ mark passes. leb-true oldest mark.tenth passes) (remembered oldest marks) (filter_passes stays marks) in
    let below = All-filter stays (λ (mark : Mark). mark.tenth < tenth) marks (none_begun tenth marks are.rising not_begun) in
    let few = few_marks (remembered oldest marks) oldest tenth rising above below in
    omega arith

-- the marks that stay, and that of the tenth that begins
pub marks_more : (marks new : List Mark) (next : Mark) (tenth oldest room : ℕ) → AreMarks marks room → (HasBegun tenth marks → ⊥) → tenth ≤ oldest + 100 → new ≡ remembered oldest marks ++ next ∷ [] → next.tenth ≡ tenth → AreMarks new room
marks_more marks new next tenth oldest room are not_begun near pushed of_tenth =
    let stays = λ (mark : Mark). nat_le oldest mark.tenth in
    let few = few_remembered marks tenth oldest room are not_begun near in
    let rising = AllPairs-filter (λ (earlier : Mark) (later : Mark). earlier.tenth < later.tenth) stays marks are.rising in
    let below = All-filter stays (λ (mark : Mark). mark.tenth < tenth) marks (none_begun tenth marks are.rising not_begun) in
    rw pushed (record {
      rising = all_pairs_push (λ (earlier : Mark) (later : Mark). earlier.tenth < later.tenth) (remembered oldest marks) next rising (rw of_tenth below);
      few = rw length-append (omega arith);
      enough = are.enough;
    })
