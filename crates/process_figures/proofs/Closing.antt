-- What is behind the last such byte of a text.
use Rattle.std.proofs.Common.{◌≡◌, ◌==◌, ◌<◌, ◌+◌, ℕ, Bool, true, false, if◌then◌else◌, Option, None, Some, List, [], ◌∷◌, ◌++◌, length, drop, get_or, refl, ap, sym, ◌∙◌, arith}
use Rattle.std.specs.Option.{option_or}
use Rattle.std.proofs.lemmas.Bool.{eqb-true}
use Rattle.std.proofs.lemmas.List.{at_drop_more}
use Rattle.base_syntax.specs.Cuts.{HasNone}
use Rattle.process_figures.specs.Stat.{IsBehindLast, behind_last}

-- what is found later counts, and else this
later : (after : Option (List ℕ)) (is : Bool) (rest : List ℕ) (found : Option (List ℕ))
    → option_or after (if is then Some rest else found) ≡ option_or (option_or after (if is then Some rest else None)) found
later (Some r) is rest found = refl
later None true rest found = refl
later None false rest found = refl

-- one byte more is looked at
pub one_more : (byte : ℕ) (text : List ℕ) (i : ℕ) (found : Option (List ℕ)) → i < length text
    → option_or (behind_last byte (drop (i + 1) text)) (if get_or text i 0 == byte then Some (drop (i + 1) text) else found) ≡ option_or (behind_last byte (drop i text)) found
one_more byte text i found below =
    later (behind_last byte (drop (i + 1) text)) (get_or text i 0 == byte) (drop (i + 1) text) found
    ∙ ap (λ after. option_or after found) (sym (at_drop_more (behind_last byte) text i 0 below))

-- nothing is behind a byte that the text hasn't
none_behind : (byte : ℕ) (text : List ℕ) → HasNone byte text → behind_last byte text ≡ None
none_behind byte [] h = refl
none_behind byte (b ∷ bs) h = rw (none_behind byte bs h.1, h.0) refl

none_there : (byte : ℕ) (text : List ℕ) → behind_last byte text ≡ None → HasNone byte text
none_there byte [] e = tt
none_there byte (b ∷ bs) e = go (behind_last byte bs) (b == byte) refl refl (none_there byte bs)
  where
    go : (after : Option (List ℕ)) (is : Bool) → behind_last byte bs ≡ after → (b == byte) ≡ is → (behind_last byte bs ≡ None → HasNone byte bs) → HasNone byte (b ∷ bs)
    go (Some r) is f g others = let all : Some r ≡ None = sym (rw f refl) ∙ e in absurd (cc)
    go None true f g others = let all : Some bs ≡ None = sym (rw (f, g) refl) ∙ e in absurd (cc)
    go None false f g others = (g, others f)

pub is_behind : (byte : ℕ) (text rest : List ℕ) → behind_last byte text ≡ Some rest → IsBehindLast byte text rest
is_behind byte [] rest e = absurd (cc)
is_behind byte (b ∷ bs) rest e = go (behind_last byte bs) refl (is_behind byte bs rest)
  where
    here : behind_last byte bs ≡ None → (is : Bool) → (b == byte) ≡ is → IsBehindLast byte (b ∷ bs) rest
    here f true g =
        let found : Some bs ≡ Some rest = sym (rw (f, g) refl) ∙ e in
        let same : bs ≡ rest = cc in
        let byte_is : b ≡ byte = eqb-true b byte g in
        record { front = []; whole = rw (byte_is, same) refl; last = rw (sym same) (none_there byte bs f) }
    here f false g = let found : None ≡ Some rest = sym (rw (f, g) refl) ∙ e in absurd (cc)

    go : (after : Option (List ℕ)) → behind_last byte bs ≡ after → (behind_last byte bs ≡ Some rest → IsBehindLast byte bs rest) → IsBehindLast byte (b ∷ bs) rest
    go (Some r) f others =
        let found : Some r ≡ Some rest = sym (rw f refl) ∙ e in
        let h = others (f ∙ found) in
        record { front = b ∷ h.front; whole = ap (λ (l : List ℕ). b ∷ l) h.whole; last = h.last }
    go None f others = here f (b == byte) refl

same_byte : (byte : ℕ) → (byte == byte) ≡ true
same_byte byte = grind arith

behind_front : (byte : ℕ) (front rest : List ℕ) → HasNone byte rest → behind_last byte (front ++ byte ∷ rest) ≡ Some rest
behind_front byte [] rest h = rw (none_behind byte rest h, same_byte byte) refl
behind_front byte (x ∷ front) rest h = rw (behind_front byte front rest h) refl

pub only_behind : (byte : ℕ) (text rest : List ℕ) → IsBehindLast byte text rest → behind_last byte text ≡ Some rest
only_behind byte text rest h = ap (behind_last byte) h.whole ∙ behind_front byte h.front rest h.last
