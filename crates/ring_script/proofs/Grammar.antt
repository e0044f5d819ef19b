-- What a line is found to say is what its form says.
use Rattle.std.proofs.Common.{◌≡◌, ◌==◌, ℕ, ◌<◌, ◌≤◌, Bool, true, false, if◌then◌else◌, List, [], ◌∷◌, ◌++◌, Option, None, Some, Ok, Err, Result, length, drop, replicate, codes, inl, inr, refl, sym, ap, subst, ◌∙◌, arith}
use Rattle.std.specs.Prelude.{nat_eq, nat_le, MatchOption}
use Rattle.std.specs.List.{list_all, flat_map, slice_split, before_first, after_first, starts_with}
use Rattle.std.specs.Option.{option_map}
use Rattle.std.specs.Char.{is_ascii_digit}
use Rattle.std.specs.Str.{bytes_eq}
use Rattle.std.proofs.lemmas.Bool.{and_parts, cases_Bool, leb-true, le-leb, lt-ltb, ltb-true, ne_eqb}
use Rattle.std.proofs.lemmas.Bool.Decides.{Decides-eqb}
use Rattle.std.proofs.lemmas.Slice.Eq.{starts_is, bytes_eq-Decides}
use Rattle.hex.specs.Hex.{decode_of}
use Rattle.hex.specs.declared.error.FromHexError.{FromHexError}
use Rattle.ring_steps.specs.declared.calls.Actor.{Actor}
use Rattle.ring_steps.specs.declared.calls.Actor.TheVariants.{P, Seat}
use Rattle.ring_steps.specs.declared.calls.PublisherCall.TheVariants.{Publish, Close}
use Rattle.ring_steps.specs.declared.calls.SeatCall.{SeatCall}
use Rattle.ring_steps.specs.declared.calls.SeatCall.TheVariants.{Attach, Take, Detach}
use Rattle.ring_script.specs.declared.call_line.CallLine.{CallLine}
use Rattle.ring_script.specs.declared.call_line.CallLine.TheVariants.{ByPublisher, BySeat}
use Rattle.ring_script.specs.declared.line.Line.{Line}
use Rattle.ring_script.specs.declared.line.Line.TheVariants.{Keep, Seats, Call, Go}
use Rattle.ring_script.specs.Grammar.{IsNumber, IsHex, IsSeatCall, IsCall, IsActor, IsItem, AreItems, IsSchedule, IsLine}
use Rattle.base_syntax.specs.Cuts.{behind_first}
use Rattle.ring_script.specs.LineForms.{number_of, behind, publish_of, publisher_call_of, attach_of, seat_call_of, seat_line_by, seat_line_of, seat_of, actor_of, in_limits, times_of, repeated, item_of, joined, items_of, not_too_long, schedule_of, or_else, line_of, is_space, is_star}
use Rattle.base_syntax.specs.Cuts.{HasNone}
use Rattle.base_syntax.proofs.Cuts.{found_or_missing, cut_behind, uncut}
use Rattle.ring_script.proofs.Items.{first_word}
use Rattle.ring_script.proofs.Numbers.{nine_digits}
use Rattle.base_syntax.proofs.Digits.{digits_from, number_only, number_read}

-- what an answer tells of its parts
map_tells : {X Y : Type 0} (f : X → Y) (o : Option X) (y : Y) → option_map f o ≡ Some y → (x : X) × (o ≡ Some x) × (f x ≡ y)
map_tells f None y e = absurd (cc)
map_tells f (Some x) y e = (x, refl, (cc))

if_tells : {X : Type 0} (b : Bool) (x : X) (y : X) → (if b then Some x else None) ≡ Some y → (b ≡ true) × (x ≡ y)
if_tells true x y e = (refl, (cc))
if_tells false x y e = absurd (cc)

-- numbers
number_tells : (text : List ℕ) (n : ℕ) → number_of text ≡ Some n → IsNumber text n
number_tells text n e = elim (cases_Bool (nat_le (length text) 9)) [
  | inl short ↦
      let read = number_only 999999999 text n (rw short at e) in
      record { numeral = read.numeral; most = leb-true (length text) 9 short; value = read.value }
  | inr long ↦ let none = rw long at e in absurd (cc)
]

number_is_read : (text : List ℕ) (n : ℕ) → IsNumber text n → number_of text ≡ Some n
number_is_read text n p =
    let short = le-leb (length text) 9 p.most in
    let small : n ≤ 999999999 = omega (arith, nine_digits text p.numeral p.most, p.value) in
    rw short (number_read 999999999 text n (record { numeral = p.numeral; value = p.value; most = small }))

-- a byte below the digits is none of them
digits_without : (b : ℕ) (text : List ℕ) → b < 48 → list_all is_ascii_digit text ≡ true → HasNone b text
digits_without b [] low h = tt
digits_without b (d ∷ ds) low h =
    let parts = and_parts (is_ascii_digit d) (list_all is_ascii_digit ds) h in
    let range = and_parts (nat_le 48 d) (nat_le d 57) parts.0 in
    let least : 48 ≤ d = leb-true 48 d range.0 in
    (ne_eqb d b (λ e. omega (arith, e, least, low)), digits_without b ds low parts.1)

-- digits don't begin with a byte past them
past_digits : (b d : ℕ) (ds : List ℕ) → 57 < b → list_all is_ascii_digit (d ∷ ds) ≡ true → ((b == d) ≡ false) × ((d == b) ≡ false)
past_digits b d ds high h =
    let parts = and_parts (is_ascii_digit d) (list_all is_ascii_digit ds) h in
    let range = and_parts (nat_le 48 d) (nat_le d 57) parts.0 in
    let most : d ≤ 57 = leb-true d 57 range.1 in
    (ne_eqb b d (λ e. omega (arith, e, most, high)), ne_eqb d b (λ e. omega (arith, e, most, high)))

-- beginnings
behind_tells : (front text rest : List ℕ) → behind front text ≡ Some rest → text ≡ front ++ rest
behind_tells front text rest e =
    let kept = if_tells (starts_with nat_eq text front) (drop (length front) text) rest e in
    (starts_is Decides-eqb text front (starts_with nat_eq text front) refl).0 kept.0 ∙ ap (λ (l : List ℕ). front ++ l) kept.1

-- actors
actor_tells : (name : List ℕ) (actor : Actor) → actor_of name ≡ Some actor → IsActor name actor
actor_tells name actor e = elim (cases_Bool (bytes_eq name (codes "p"))) [
  | inl same ↦
      let by : P ≡ actor = let is = rw same at e in cc in
      subst (IsActor name) by ((bytes_eq-Decides name (codes "p")).0 same)
  | inr other ↦
      let by = map_tells seat_of (number_of name) actor (rw other at e) in
      subst (IsActor name) by.2 (by.0, number_tells name by.0 by.1, refl)
]

actor_is_read : (name : List ℕ) (actor : Actor) → IsActor name actor → actor_of name ≡ Some actor
actor_is_read name P p = rw p refl
actor_is_read [] (Seat seat) p = let some : 0 < 0 = p.1.numeral.0 in absurd (omega (arith, some))
actor_is_read (d ∷ ds) (Seat seat) p =
    let other = past_digits 112 d ds (omega arith) (digits_from (d ∷ ds) p.1.numeral.1) in
    rw (other.1, p.2) (ap (option_map seat_of) (number_is_read (d ∷ ds) p.0 p.1))

-- what is found for a text is the actor that it names
pub actor_named : (name : List ℕ) (found : Option Actor) → found ≡ actor_of name → MatchOption found ((actor : Actor) → ¬ IsActor name actor) (IsActor name)
actor_named name None e = λ actor named. (let read = e ∙ actor_is_read name actor named in cc)
actor_named name (Some actor) e = actor_tells name actor (sym e)

name_without : (b : ℕ) (name : List ℕ) (actor : Actor) → b < 48 → IsActor name actor → HasNone b name
name_without b name P low p = subst (HasNone b) (sym p) (ne_eqb 112 b (λ e. omega (arith, e, low)), tt)
name_without b name (Seat seat) low p = digits_without b name low (digits_from name p.1.numeral.1)

without_both : (b : ℕ) (xs ys : List ℕ) → HasNone b xs → HasNone b ys → HasNone b (xs ++ ys)
without_both b [] ys p q = q
without_both b (x ∷ xs) ys p q = (p.0, without_both b xs ys p.1 q)

-- items
repeated_tells : (a : Option Actor) (t : Option ℕ) (steps : List Actor) → repeated a t ≡ Some steps
    → (actor : Actor) × (times : ℕ) × (a ≡ Some actor) × (t ≡ Some times) × (steps ≡ replicate times actor)
repeated_tells None t steps e = absurd (cc)
repeated_tells (Some a) None steps e = absurd (cc)
repeated_tells (Some a) (Some t) steps e = (a, t, refl, refl, (cc))

limits_tell : (o : Option ℕ) (times : ℕ) → in_limits o ≡ Some times → (o ≡ Some times) × (1 ≤ times) × (times ≤ 100000)
limits_tell None times e = absurd (cc)
limits_tell (Some n) times e =
    let kept = if_tells _ n times e in
    let limits = and_parts _ _ kept.0 in
    (ap (λ (m : ℕ). Some m) kept.1, subst (λ (m : ℕ). 1 ≤ m) kept.1 (leb-true 1 n limits.0), subst (λ (m : ℕ). m ≤ 100000) kept.1 (leb-true n 100000 limits.1))

item_tells : (item : List ℕ) (steps : List Actor) → item_of item ≡ Some steps → IsItem item steps
unfolding item_of
item_tells item steps e = elim (found_or_missing 42 item) [
  | inl star ↦
      let by = repeated_tells (actor_of (before_first is_star item)) (times_of (Some (after_first is_star item))) steps (rw star.found at e) in
      let times = limits_tell (number_of (after_first is_star item)) by.1 by.3 in
      inr (record {
        name = before_first is_star item;
        count = after_first is_star item;
        whole = star.whole;
        actor = by.0;
        named = actor_tells (before_first is_star item) by.0 by.2;
        times = by.1;
        counted = number_tells (after_first is_star item) by.1 times.0;
        least = times.1;
        most = times.2;
        steps_are = by.4;
      })
  | inr plain ↦
      let by = repeated_tells (actor_of (before_first is_star item)) (Some 1) steps (rw plain.none at e) in
      let once : 1 ≡ by.1 = let is = by.3 in cc in
      inl (record {
        actor = by.0;
        named = subst (λ (n : List ℕ). IsActor n by.0) plain.all (actor_tells (before_first is_star item) by.0 by.2);
        steps_are = by.4 ∙ ap (λ (n : ℕ). replicate n by.0) (sym once);
      })
]

item_is_read : (item : List ℕ) (steps : List Actor) → IsItem item steps → item_of item ≡ Some steps
unfolding item_of
item_is_read item steps (inl p) =
    let plain = uncut 42 item (name_without 42 item p.actor (omega arith) p.named) in
    rw (plain.0, plain.1, actor_is_read item p.actor p.named, p.steps_are) refl
item_is_read item steps (inr p) =
    let cut = cut_behind 42 p.name p.count (name_without 42 p.name p.actor (omega arith) p.named) in
    let low = le-leb 1 p.times p.least in
    let high = le-leb p.times 100000 p.most in
    rw (p.whole, cut.0, cut.1, actor_is_read p.name p.actor p.named, number_is_read p.count p.times p.counted, low, high, p.steps_are) refl

item_without : (item : List ℕ) (steps : List Actor) → IsItem item steps → HasNone 32 item
item_without item steps (inl p) = name_without 32 item p.actor (omega arith) p.named
item_without item steps (inr p) =
    subst (HasNone 32) (sym p.whole)
    (without_both 32 p.name (42 ∷ p.count) (name_without 32 p.name p.actor (omega arith) p.named) (refl, digits_without 32 p.count (omega arith) (digits_from p.count p.counted.numeral.1)))

joined_tells : (a b : Option (List Actor)) (steps : List Actor) → joined a b ≡ Some steps
    → (first : List Actor) × (others : List Actor) × (a ≡ Some first) × (b ≡ Some others) × (steps ≡ first ++ others)
joined_tells None b steps e = absurd (cc)
joined_tells (Some a) None steps e = absurd (cc)
joined_tells (Some a) (Some b) steps e = (a, b, refl, refl, (cc))

one_more_item : (text item rest : List ℕ) (steps : List Actor) (items : List (List Actor)) → text ≡ item ++ 32 ∷ rest → IsItem item steps → AreItems rest items → AreItems text (steps ∷ items)
one_more_item text item rest steps [] whole is are = absurd are
one_more_item text item rest steps (next ∷ others) whole is are = (item, rest, whole, is, are)

record Items (text : List ℕ) (steps : List Actor) : Type 0 where
  items : List (List Actor)
  are : AreItems text items
  joined : steps ≡ flat_map (λ item. item) items

items_tell : (words : List (List ℕ)) (text : List ℕ) (steps : List Actor) → slice_split is_space text ≡ words → items_of words ≡ Some steps → Items text steps
items_tell [] text steps cut e = let first = first_word text in absurd (cc)
items_tell (word ∷ words) text steps cut e =
    let by = joined_tells (item_of word) (items_of words) steps e in
    elim (found_or_missing 32 text) [
      | inl space ↦
          let first : slice_split is_space text ≡ before_first is_space text ∷ slice_split is_space (after_first is_space text) = first_word text ∙ (rw space.found refl) in
          let word_is : word ≡ before_first is_space text = cc in
          let words_are : slice_split is_space (after_first is_space text) ≡ words = cc in
          let others = items_tell words (after_first is_space text) by.1 words_are by.3 in
          record {
            items = by.0 ∷ others.items;
            are = one_more_item text (before_first is_space text) (after_first is_space text) by.0 others.items space.whole (item_tells (before_first is_space text) by.0 (subst (λ (w : List ℕ). item_of w ≡ Some by.0) word_is by.2)) others.are;
            joined = by.4 ∙ ap (λ (l : List Actor). by.0 ++ l) others.joined;
          }
      | inr plain ↦
          let first : slice_split is_space text ≡ text ∷ [] = first_word text ∙ (rw (plain.none, plain.all) refl) in
          let word_is : word ≡ text = cc in
          let no_words : words ≡ [] = cc in
          let none : [] ≡ by.1 = let others = subst (λ (ws : List (List ℕ)). items_of ws ≡ Some by.1) no_words by.3 in cc in
          record {
            items = by.0 ∷ [];
            are = item_tells text by.0 (subst (λ (w : List ℕ). item_of w ≡ Some by.0) word_is by.2);
            joined = by.4 ∙ ap (λ (l : List Actor). by.0 ++ l) (sym none);
          }
    ]

items_are_read : (text : List ℕ) (items : List (List Actor)) → AreItems text items → items_of (slice_split is_space text) ≡ Some (flat_map (λ item. item) items)
items_are_read text [] are = absurd are
items_are_read text (steps ∷ []) are =
    let plain = uncut 32 text (item_without text steps are) in
    rw (first_word text, plain.0, plain.1, item_is_read text steps are) refl
items_are_read text (steps ∷ next ∷ others) are =
    let cut = cut_behind 32 are.0 are.1 (item_without are.0 steps are.3) in
    rw (are.2, first_word (are.0 ++ 32 ∷ are.1), cut.0, cut.1, item_is_read are.0 steps are.3, items_are_read are.1 (next ∷ others) are.4) refl

long_tells : (o : Option (List Actor)) (steps : List Actor) → not_too_long o ≡ Some steps → (o ≡ Some steps) × (length steps ≤ 1000000)
long_tells None steps e = absurd (cc)
long_tells (Some s) steps e =
    let kept = if_tells _ s steps e in
    (ap (λ (l : List Actor). Some l) kept.1, subst (λ (l : List Actor). length l ≤ 1000000) kept.1 (leb-true (length s) 1000000 kept.0))

schedule_tells : (text : List ℕ) (steps : List Actor) → schedule_of text ≡ Some steps → IsSchedule text steps
unfolding schedule_of
schedule_tells text steps e =
    let kept = long_tells (items_of (slice_split is_space text)) steps e in
    let p = items_tell (slice_split is_space text) text steps refl kept.0 in
    record { items = p.items; are = p.are; joined = p.joined; most = kept.1 }

schedule_is_read : (text : List ℕ) (steps : List Actor) → IsSchedule text steps → schedule_of text ≡ Some steps
unfolding schedule_of
schedule_is_read text steps p =
    let all : items_of (slice_split is_space text) ≡ Some steps = items_are_read text p.items p.are ∙ ap (λ (l : List Actor). Some l) (sym p.joined) in
    let fits = le-leb (length steps) 1000000 p.most in
    rw (all, fits) refl

-- calls of the publisher
publish_tells : (text : List ℕ) (r : Result (List ℕ) FromHexError) (call : CallLine) → decode_of text ≡ r → publish_of r ≡ Some call → IsCall (codes "p " ++ text) call
publish_tells text (Err x) call is e = absurd (cc)
publish_tells text (Ok bytes) call is e =
    let kept = if_tells _ (ByPublisher (Publish bytes)) call e in
    let sizes = and_parts _ _ kept.0 in
    subst (IsCall (codes "p " ++ text)) kept.1 (text, refl, record { digits = is; least = ltb-true 0 (length bytes) sizes.0; most = leb-true (length bytes) 65535 sizes.1 })

publisher_call_tells : (text : List ℕ) (call : CallLine) → publisher_call_of text ≡ Some call → IsCall (codes "p " ++ text) call
unfolding publisher_call_of
publisher_call_tells text call e = elim (cases_Bool (bytes_eq text (codes "close"))) [
  | inl same ↦
      let by : ByPublisher Close ≡ call = let is = rw same at e in cc in
      let text_is : text ≡ codes "close" = (bytes_eq-Decides text (codes "close")).0 same in
      subst (IsCall (codes "p " ++ text)) by (ap (λ (l : List ℕ). codes "p " ++ l) text_is)
  | inr other ↦ publish_tells text (decode_of text) call refl (rw other at e)
]

publish_is_read : (text bytes : List ℕ) → IsHex text bytes → publisher_call_of text ≡ Some (ByPublisher (Publish bytes))
unfolding publisher_call_of
publish_is_read text bytes p = elim (cases_Bool (bytes_eq text (codes "close"))) [
  | inl same ↦
      let odd : decode_of (codes "close") ≡ Ok bytes = subst (λ (l : List ℕ). decode_of l ≡ Ok bytes) ((bytes_eq-Decides text (codes "close")).0 same) p.digits in
      absurd (cc)
  | inr other ↦
      let low = lt-ltb 0 (length bytes) (omega (arith, p.least)) in
      let high = le-leb (length bytes) 65535 p.most in
      rw (other, p.digits, low, high) refl
]

close_is_read : publisher_call_of (codes "close") ≡ Some (ByPublisher Close)
unfolding publisher_call_of
close_is_read = refl

-- calls of a seat
attach_tells : (text : List ℕ) (back : Option (List ℕ)) (call : SeatCall) → behind (codes "attach ") text ≡ back → attach_of back ≡ Some call → IsSeatCall text call
attach_tells text None call is e = absurd (cc)
attach_tells text (Some number) call is e =
    let by = map_tells Attach (number_of number) call e in
    subst (IsSeatCall text) by.2 (inr (number, behind_tells (codes "attach ") text number is, number_tells number by.0 by.1))

seat_call_tells : (text : List ℕ) (call : SeatCall) → seat_call_of text ≡ Some call → IsSeatCall text call
seat_call_tells text call e = elim (cases_Bool (bytes_eq text (codes "attach"))) [
  | inl same ↦ let by : Attach 0 ≡ call = let is = rw same at e in cc in subst (IsSeatCall text) by (inl ((bytes_eq-Decides text (codes "attach")).0 same, refl))
  | inr first ↦ elim (cases_Bool (bytes_eq text (codes "take"))) [
    | inl same ↦ let by : Take ≡ call = let is = rw (first, same) at e in cc in subst (IsSeatCall text) by ((bytes_eq-Decides text (codes "take")).0 same)
    | inr second ↦ elim (cases_Bool (bytes_eq text (codes "detach"))) [
      | inl same ↦ let by : Detach ≡ call = let is = rw (first, second, same) at e in cc in subst (IsSeatCall text) by ((bytes_eq-Decides text (codes "detach")).0 same)
      | inr other ↦ attach_tells text (behind (codes "attach ") text) call refl (rw (first, second, other) at e)
    ]
  ]
]

seat_call_is_read : (text : List ℕ) (call : SeatCall) → IsSeatCall text call → seat_call_of text ≡ Some call
seat_call_is_read text (Attach back) (inl p) = rw (p.0, p.1) refl
seat_call_is_read text (Attach back) (inr p) = rw (p.1, number_is_read p.0 back p.2) refl
seat_call_is_read text Take p = rw p refl
seat_call_is_read text Detach p = rw p refl

by_tells : (number : Option ℕ) (call : Option SeatCall) (said : Line) → seat_line_by number call ≡ Some said
    → (n : ℕ) × (c : SeatCall) × (number ≡ Some n) × (call ≡ Some c) × (Call (BySeat n c) ≡ said)
by_tells None call said e = absurd (cc)
by_tells (Some n) None said e = absurd (cc)
by_tells (Some n) (Some c) said e = (n, c, refl, refl, (cc))

seat_line_tells : (line : List ℕ) (said : Line) → seat_line_of (before_first is_space line) (behind_first 32 line) ≡ Some said → IsLine line said
seat_line_tells line said e = elim (found_or_missing 32 line) [
  | inl space ↦
      let by = by_tells (number_of (before_first is_space line)) (seat_call_of (after_first is_space line)) said (rw space.found at e) in
      subst (IsLine line) by.4 (
        before_first is_space line,
        after_first is_space line,
        space.whole,
        number_tells (before_first is_space line) by.0 by.2,
        seat_call_tells (after_first is_space line) by.1 by.3,
      )
  | inr plain ↦ let is = rw plain.none at e in absurd (cc)
]

-- a seat's line begins with none of the words
no_word : (word text : List ℕ) (b d : ℕ) → (b == d) ≡ false → behind (b ∷ word) (d ∷ text) ≡ None
no_word word text b d other = rw other refl

-- lines
said_by_form : (line : List ℕ) (said : Line) (keep seats publisher go : Option (List ℕ)) → behind (codes "keep ") line ≡ keep → behind (codes "seats ") line ≡ seats → behind (codes "p ") line ≡ publisher → behind (codes "go ") line ≡ go
    → or_else keep (λ rest. option_map Keep (number_of rest)) (or_else seats (λ rest. option_map Seats (number_of rest)) (or_else publisher (λ rest. option_map Call (publisher_call_of rest))
    (or_else go (λ rest. option_map Go (schedule_of rest)) (seat_line_of (before_first is_space line) (behind_first 32 line))))) ≡ Some said → IsLine line said
said_by_form line said (Some rest) seats publisher go k s p g e =
    let by = map_tells Keep (number_of rest) said e in
    subst (IsLine line) by.2 (rest, behind_tells (codes "keep ") line rest k, number_tells rest by.0 by.1)
said_by_form line said None (Some rest) publisher go k s p g e =
    let by = map_tells Seats (number_of rest) said e in
    subst (IsLine line) by.2 (rest, behind_tells (codes "seats ") line rest s, number_tells rest by.0 by.1)
said_by_form line said None None (Some rest) go k s p g e =
    let by = map_tells Call (publisher_call_of rest) said e in
    let whole = behind_tells (codes "p ") line rest p in
    subst (IsLine line) by.2 (subst (λ (l : List ℕ). IsCall l by.0) (sym whole) (publisher_call_tells rest by.0 by.1))
said_by_form line said None None None (Some rest) k s p g e =
    let by = map_tells Go (schedule_of rest) said e in
    subst (IsLine line) by.2 (rest, behind_tells (codes "go ") line rest g, schedule_tells rest by.0 by.1)
said_by_form line said None None None None k s p g e = seat_line_tells line said e

pub line_tells : (line : List ℕ) (said : Line) → line_of line ≡ Some said → IsLine line said
unfolding line_of
line_tells line said e = said_by_form line said (behind (codes "keep ") line) (behind (codes "seats ") line) (behind (codes "p ") line) (behind (codes "go ") line) refl refl refl refl e

seat_line_is_read : (line number name : List ℕ) (seat : ℕ) (call : SeatCall) → line ≡ number ++ 32 ∷ name → IsNumber number seat → IsSeatCall name call → line_of line ≡ Some (Call (BySeat seat call))
unfolding line_of
seat_line_is_read line [] name seat call whole is named = let some : 0 < 0 = is.numeral.0 in absurd (omega (arith, some))
seat_line_is_read line (d ∷ ds) name seat call whole is named =
    let keep = subst (λ (l : List ℕ). behind (codes "keep ") l ≡ None) (sym whole) (no_word (codes "eep ") (ds ++ 32 ∷ name) 107 d (past_digits 107 d ds (omega arith) (digits_from (d ∷ ds) is.numeral.1)).0) in
    let seats = subst (λ (l : List ℕ). behind (codes "seats ") l ≡ None) (sym whole) (no_word (codes "eats ") (ds ++ 32 ∷ name) 115 d (past_digits 115 d ds (omega arith) (digits_from (d ∷ ds) is.numeral.1)).0) in
    let publisher = subst (λ (l : List ℕ). behind (codes "p ") l ≡ None) (sym whole) (no_word (codes " ") (ds ++ 32 ∷ name) 112 d (past_digits 112 d ds (omega arith) (digits_from (d ∷ ds) is.numeral.1)).0) in
    let go = subst (λ (l : List ℕ). behind (codes "go ") l ≡ None) (sym whole) (no_word (codes "o ") (ds ++ 32 ∷ name) 103 d (past_digits 103 d ds (omega arith) (digits_from (d ∷ ds) is.numeral.1)).0) in
    let cut = cut_behind 32 (d ∷ ds) name (digits_without 32 (d ∷ ds) (omega arith) (digits_from (d ∷ ds) is.numeral.1)) in
    let front : before_first is_space line ≡ d ∷ ds = ap (before_first is_space) whole ∙ cut.0 in
    let rest : behind_first 32 line ≡ Some name = ap (behind_first 32) whole ∙ cut.1 in
    rw (keep, seats, publisher, go, front, rest, number_is_read (d ∷ ds) seat is, seat_call_is_read name call named) refl

pub line_is_read : (line : List ℕ) (said : Line) → IsLine line said → line_of line ≡ Some said
unfolding line_of
line_is_read line (Keep keep) p = rw (p.1, number_is_read p.0 keep p.2) refl
line_is_read line (Seats seats) p = rw (p.1, number_is_read p.0 seats p.2) refl
line_is_read line (Call (ByPublisher (Publish bytes))) p = rw (p.1, publish_is_read p.0 bytes p.2) refl
line_is_read line (Call (ByPublisher Close)) p = rw (p, close_is_read) refl
line_is_read line (Call (BySeat seat call)) p = seat_line_is_read line p.0 p.1 seat call p.2 p.3 p.4
line_is_read line (Go steps) p = rw (p.1, schedule_is_read p.0 steps p.2) refl
