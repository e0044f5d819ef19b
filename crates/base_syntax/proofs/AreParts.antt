-- The parts of a text are what cutting means, and nothing else is.
use Rattle.std.proofs.Common.{◌≡◌, ◌<◌, ◌==◌, ℕ, zero, suc, Bool, true, false, cond, List, [], ◌∷◌, ◌++◌, length, take, get_or, refl, ap, sym, ◌∙◌, arith}
use Rattle.std.specs.List.{fold, onto_first, join_with_byte}
use Rattle.std.proofs.lemmas.Bool.{cond-true, cond-false, eqb-true, eq-eqb, true≢false}
use Rattle.base_syntax.specs.Quotes.{cuts, quoted_after, parts_from, parts, AreParts}

-- the same from where a quote may be open
abbrev pub open_after : Bool → List ℕ → Bool
open_after quoted bytes = fold quoted_after quoted bytes

abbrev pub Uncut : ℕ → Bool → List ℕ → Type 0
Uncut separator quoted [] = Unit {0}
Uncut separator quoted (b ∷ bs) = (cuts separator quoted b ≡ false) × Uncut separator (quoted_after quoted b) bs

abbrev pub Parts : ℕ → Bool → List (List ℕ) → Type 0
Parts separator quoted [] = ⊥
Parts separator quoted (part ∷ []) = Uncut separator quoted part
Parts separator quoted (part ∷ next ∷ others) = Uncut separator quoted part × (open_after quoted part ≡ false) × Parts separator false (next ∷ others)

-- a byte that doesn't cut, and the test of it
inside : (separator : ℕ) (quoted : Bool) (b : ℕ) → cuts separator quoted b ≡ false → b ≡ separator → quoted ≡ true
inside separator true b h e = refl
inside separator false b h e = absurd (true≢false (sym (eq-eqb b separator e) ∙ h))

stays : (separator : ℕ) (quoted : Bool) (b : ℕ) → (b ≡ separator → quoted ≡ true) → cuts separator quoted b ≡ false
stays separator true b h = refl
stays separator false b h = go (b == separator) refl
  where
    go : (test : Bool) → (b == separator) ≡ test → (b == separator) ≡ false
    go true e = absurd (true≢false (sym (h (eqb-true b separator e))))
    go false e = e

uncut_to : (separator : ℕ) (quoted : Bool) (bytes : List ℕ) → Uncut separator quoted bytes → (k : ℕ) → k < length bytes → get_or bytes k 0 ≡ separator → open_after quoted (take k bytes) ≡ true
uncut_to separator quoted [] h k below e = absurd (omega arith)
uncut_to separator quoted (b ∷ bs) h zero below e = inside separator quoted b h.0 e
uncut_to separator quoted (b ∷ bs) h (suc k) below e = uncut_to separator (quoted_after quoted b) bs h.1 k (omega arith) e

uncut_from : (separator : ℕ) (quoted : Bool) (bytes : List ℕ) → ((k : ℕ) → k < length bytes → get_or bytes k 0 ≡ separator → open_after quoted (take k bytes) ≡ true) → Uncut separator quoted bytes
uncut_from separator quoted [] h = tt
uncut_from separator quoted (b ∷ bs) h = (stays separator quoted b (h 0 (omega arith)), uncut_from separator (quoted_after quoted b) bs (λ k below e. h (suc k) (omega arith) e))

-- the two forms of what parts are
to_parts : (separator : ℕ) (ps : List (List ℕ)) → AreParts separator ps → Parts separator false ps
to_parts separator [] h = h
to_parts separator (p ∷ []) h = uncut_from separator false p h
to_parts separator (p ∷ q ∷ ps) h = (uncut_from separator false p h.0, h.1, to_parts separator (q ∷ ps) h.2)

from_parts : (separator : ℕ) (ps : List (List ℕ)) → Parts separator false ps → AreParts separator ps
from_parts separator [] h = h
from_parts separator (p ∷ []) h = uncut_to separator false p h
from_parts separator (p ∷ q ∷ ps) h = (uncut_to separator false p h.0, h.1, from_parts separator (q ∷ ps) h.2)

-- what is cut is parts
starts : (separator : ℕ) (quoted : Bool) (ps : List (List ℕ)) → quoted ≡ false → Parts separator false ps → Parts separator quoted ([] ∷ ps)
starts separator quoted [] closed h = absurd h
starts separator quoted (p ∷ ps) closed h = (tt, closed, h)

extends : (separator : ℕ) (quoted : Bool) (b : ℕ) (ps : List (List ℕ)) → cuts separator quoted b ≡ false → Parts separator (quoted_after quoted b) ps → Parts separator quoted (onto_first b ps)
extends separator quoted b [] h parts = absurd parts
extends separator quoted b (p ∷ []) h parts = (h, parts)
extends separator quoted b (p ∷ q ∷ ps) h parts = ((h, parts.0), parts.1, parts.2)

outside : (separator : ℕ) (quoted : Bool) (b : ℕ) → cuts separator quoted b ≡ true → quoted ≡ false
outside separator true b h = absurd (true≢false (sym h))
outside separator false b h = refl

by_test : (separator : ℕ) (quoted : Bool) (b : ℕ) (ps qs : List (List ℕ)) (test : Bool) → cuts separator quoted b ≡ test → Parts separator false ps → Parts separator (quoted_after quoted b) qs → Parts separator quoted (cond test ([] ∷ ps) (onto_first b qs))
by_test separator quoted b ps qs true e behind on = starts separator quoted ps (outside separator quoted b e) behind
by_test separator quoted b ps qs false e behind on = extends separator quoted b qs e on

is_parts : (separator : ℕ) (quoted : Bool) (text : List ℕ) → Parts separator quoted (parts_from separator quoted text)
is_parts separator quoted [] = tt
is_parts separator quoted (b ∷ bs) = by_test separator quoted b _ _ (cuts separator quoted b) refl (is_parts separator false bs) (is_parts separator (quoted_after quoted b) bs)

pub are_parts : (separator : ℕ) (text : List ℕ) → AreParts separator (parts separator text)
are_parts separator text = from_parts separator (parts separator text) (is_parts separator false text)

-- joined again, the parts are the text
join_front : (separator : ℕ) (quoted : Bool) (ps : List (List ℕ)) → Parts separator quoted ps → join_with_byte separator ([] ∷ ps) ≡ separator ∷ join_with_byte separator ps
join_front separator quoted [] h = absurd h
join_front separator quoted (p ∷ ps) h = refl

join_onto : (separator : ℕ) (quoted : Bool) (b : ℕ) (ps : List (List ℕ)) → Parts separator quoted ps → join_with_byte separator (onto_first b ps) ≡ b ∷ join_with_byte separator ps
join_onto separator quoted b [] h = absurd h
join_onto separator quoted b (p ∷ []) h = refl
join_onto separator quoted b (p ∷ q ∷ ps) h = refl

is_separator : (separator : ℕ) (quoted : Bool) (b : ℕ) → cuts separator quoted b ≡ true → separator ≡ b
is_separator separator true b h = absurd (true≢false (sym h))
is_separator separator false b h = sym (eqb-true b separator h)

join_by_test : (separator : ℕ) (quoted : Bool) (b : ℕ) (bs : List ℕ) (ps qs : List (List ℕ)) (test : Bool) → cuts separator quoted b ≡ test → Parts separator false ps → Parts separator (quoted_after quoted b) qs → join_with_byte separator ps ≡ bs → join_with_byte separator qs ≡ bs → join_with_byte separator (cond test ([] ∷ ps) (onto_first b qs)) ≡ b ∷ bs
join_by_test separator quoted b bs ps qs true e behind on at_ps at_qs =
    join_front separator false ps behind ∙ ap (λ t. separator ∷ t) at_ps ∙ ap (λ c. c ∷ bs) (is_separator separator quoted b e)
join_by_test separator quoted b bs ps qs false e behind on at_ps at_qs =
    join_onto separator (quoted_after quoted b) b qs on ∙ ap (λ t. b ∷ t) at_qs

joined_from : (separator : ℕ) (quoted : Bool) (text : List ℕ) → join_with_byte separator (parts_from separator quoted text) ≡ text
joined_from separator quoted [] = refl
joined_from separator quoted (b ∷ bs) = join_by_test separator quoted b bs _ _ (cuts separator quoted b) refl (is_parts separator false bs) (is_parts separator (quoted_after quoted b) bs) (joined_from separator false bs) (joined_from separator (quoted_after quoted b) bs)

pub joined : (separator : ℕ) (text : List ℕ) → join_with_byte separator (parts separator text) ≡ text
joined separator text = joined_from separator false text

-- nothing else is the parts of a text
pub last_part : (separator : ℕ) (quoted : Bool) (part : List ℕ) → Uncut separator quoted part → parts_from separator quoted part ≡ part ∷ []
last_part separator quoted [] h = refl
last_part separator quoted (b ∷ bs) h = cond-false _ _ _ h.0 ∙ ap (onto_first b) (last_part separator (quoted_after quoted b) bs h.1)

cuts_itself : (separator : ℕ) (quoted : Bool) → quoted ≡ false → cuts separator quoted separator ≡ true
cuts_itself separator true closed = absurd (true≢false closed)
cuts_itself separator false closed = eq-eqb separator separator refl

front_part : (separator : ℕ) (quoted : Bool) (part rest : List ℕ) → Uncut separator quoted part → open_after quoted part ≡ false → parts_from separator quoted (part ++ separator ∷ rest) ≡ part ∷ parts_from separator false rest
front_part separator quoted [] rest h closed = cond-true _ _ _ (cuts_itself separator quoted closed)
front_part separator quoted (b ∷ bs) rest h closed = cond-false _ _ _ h.0 ∙ ap (onto_first b) (front_part separator (quoted_after quoted b) bs rest h.1 closed)

pub only_parts : (separator : ℕ) (ps : List (List ℕ)) → Parts separator false ps → parts separator (join_with_byte separator ps) ≡ ps
only_parts separator [] h = absurd h
only_parts separator (p ∷ []) h = last_part separator false p h
only_parts separator (p ∷ q ∷ ps) h = front_part separator false p (join_with_byte separator (q ∷ ps)) h.0 h.1 ∙ ap (λ others. p ∷ others) (only_parts separator (q ∷ ps) h.2)

pub only : (separator : ℕ) (ps : List (List ℕ)) → AreParts separator ps → parts separator (join_with_byte separator ps) ≡ ps
only separator ps h = only_parts separator ps (to_parts separator ps h)
