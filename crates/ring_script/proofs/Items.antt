-- The items of a `go` line.
use Rattle.std.proofs.Common.{◌≡◌, ℕ, ◌<◌, ◌≤◌, suc, List, [], ◌∷◌, ◌++◌, Option, None, Some, length, replicate, refl, sym, ap, ◌∙◌, inl, inr, arith, append_assoc, append-nil, length-append}
use Rattle.std.specs.List.{before_first, slice_split, onto_first}
use Rattle.std.proofs.lemmas.Bool.{le-leb, lt-leb}
use Rattle.std.proofs.lemmas.Bool.Decides.{eqb_tells}
use Rattle.ring_steps.specs.declared.calls.Actor.{Actor}
use Rattle.base_syntax.specs.Cuts.{behind_first}
use Rattle.ring_script.specs.LineForms.{item_of, items_of, joined, not_too_long, schedule_of, repeated, actor_of, times_of, is_space, is_star}
use Rattle.base_syntax.proofs.Cuts.{one_plus, one_more}

pub item_is : (word name : List ℕ) (behind : Option (List ℕ)) (actor : Option Actor) (times : Option ℕ) → name ≡ before_first is_star word → behind ≡ behind_first 42 word → actor ≡ actor_of name → times ≡ times_of behind
    → item_of word ≡ repeated actor times
unfolding item_of
item_is word name behind actor times name_is behind_is actor_is times_is = cc

-- the words of what is left of a line, if anything is
abbrev pub words_of : Option (List ℕ) → List (List ℕ)
words_of None = []
words_of (Some text) = slice_split is_space text

-- how much is left
abbrev pub left_of : Option (List ℕ) → ℕ
left_of None = 0
left_of (Some text) = suc (length text)

pub first_word : (text : List ℕ) → slice_split is_space text ≡ before_first is_space text ∷ words_of (behind_first 32 text)
first_word [] = refl
first_word (b ∷ bs) = elim (eqb_tells b 32) [
  | inl same ↦ rw same.0 refl
  | inr other ↦ rw (other.0, one_more, one_plus) (ap (onto_first b) (first_word bs))
]

pub word_is : (text word : List ℕ) (after : Option (List ℕ)) → word ≡ before_first is_space text → after ≡ behind_first 32 text → slice_split is_space text ≡ word ∷ words_of after
word_is text word after first rest = first_word text ∙ ap (λ (w : List ℕ). w ∷ words_of (behind_first 32 text)) (sym first) ∙ ap (λ (o : Option (List ℕ)). word ∷ words_of o) (sym rest)

joined-joined : (a b : List Actor) (c : Option (List Actor)) → joined (Some a) (joined (Some b) c) ≡ joined (Some (a ++ b)) c
joined-joined a b None = refl
joined-joined a b (Some c) = ap (λ (l : List Actor). Some l) (sym (append_assoc a b c))

-- The steps so far, and those of what is left, are all.
pub record SoFar (text : List ℕ) (rest : Option (List ℕ)) (steps : List Actor) : Type 0 where
  pub all : items_of (slice_split is_space text) ≡ joined (Some steps) (items_of (words_of rest))
  pub few : length steps ≤ 1000000

joined-nothing : (o : Option (List Actor)) → o ≡ joined (Some []) o
joined-nothing None = refl
joined-nothing (Some a) = refl

pub none_yet : (text : List ℕ) → SoFar text (Some text) []
none_yet text = record { all = joined-nothing (items_of (slice_split is_space text)); few = omega arith }

-- what is left begins with this word
begun : {text : List ℕ} {rest : Option (List ℕ)} {steps : List Actor} (now word : List ℕ) (after : Option (List ℕ)) → SoFar text rest steps → rest ≡ Some now → word ≡ before_first is_space now → after ≡ behind_first 32 now
    → items_of (slice_split is_space text) ≡ joined (Some steps) (joined (item_of word) (items_of (words_of after)))
begun {steps = steps} now word after p is first next =
    p.all ∙ ap (λ (o : Option (List ℕ)). joined (Some steps) (items_of (words_of o))) is ∙ ap (λ (ws : List (List ℕ)). joined (Some steps) (items_of ws)) (word_is now word after first next)

pub one_item : {text : List ℕ} {rest : Option (List ℕ)} {steps new : List Actor} (now word : List ℕ) (after : Option (List ℕ)) (actor : Actor) (times : ℕ) → SoFar text rest steps → rest ≡ Some now → word ≡ before_first is_space now
    → after ≡ behind_first 32 now → item_of word ≡ Some (replicate times actor) → new ≡ steps ++ replicate times actor → length new ≤ 1000000 → SoFar text after new
one_item {steps = steps} {new = new} now word after actor times p is first next item pushed few = record {
  all = begun now word after p is first next ∙ ap (λ (o : Option (List Actor)). joined (Some steps) (joined o (items_of (words_of after)))) item
      ∙ joined-joined steps (replicate times actor) (items_of (words_of after)) ∙ ap (λ (l : List Actor). joined (Some l) (items_of (words_of after))) (sym pushed);
  few = few;
}

pub bad_item : {text : List ℕ} {rest : Option (List ℕ)} {steps : List Actor} (now word : List ℕ) (after : Option (List ℕ)) → SoFar text rest steps → rest ≡ Some now → word ≡ before_first is_space now
    → after ≡ behind_first 32 now → item_of word ≡ None → None ≡ schedule_of text
unfolding schedule_of
bad_item {steps = steps} now word after p is first next item =
    sym (ap not_too_long (begun now word after p is first next ∙ ap (λ (o : Option (List Actor)). joined (Some steps) (joined o (items_of (words_of after)))) item))

long_none : (steps : List Actor) (others : Option (List Actor)) → 1000000 < length steps → not_too_long (joined (Some steps) others) ≡ None
long_none steps None h = refl
long_none steps (Some others) h = let long = lt-leb (length (steps ++ others)) 1000000 (omega (arith, length-append steps others)) in rw long refl

pub too_many : {text : List ℕ} {rest : Option (List ℕ)} {steps : List Actor} (now word : List ℕ) (after : Option (List ℕ)) (actor : Actor) (times : ℕ) → SoFar text rest steps → rest ≡ Some now → word ≡ before_first is_space now
    → after ≡ behind_first 32 now → item_of word ≡ Some (replicate times actor) → 1000000 < length (steps ++ replicate times actor) → None ≡ schedule_of text
unfolding schedule_of
too_many {steps = steps} now word after actor times p is first next item long =
    sym (ap not_too_long (begun now word after p is first next ∙ ap (λ (o : Option (List Actor)). joined (Some steps) (joined o (items_of (words_of after)))) item
    ∙ joined-joined steps (replicate times actor) (items_of (words_of after)))
    ∙ long_none (steps ++ replicate times actor) (items_of (words_of after)) long)

pub all_read : {text : List ℕ} {rest : Option (List ℕ)} {steps : List Actor} → SoFar text rest steps → rest ≡ None → Some steps ≡ schedule_of text
unfolding schedule_of
all_read {text = text} {steps = steps} p is =
    let all : items_of (slice_split is_space text) ≡ Some steps = p.all ∙ ap (λ (o : Option (List ℕ)). joined (Some steps) (items_of (words_of o))) is ∙ ap (λ (l : List Actor). Some l) (append-nil steps) in
    let fits = le-leb (length steps) 1000000 p.few in
    sym (ap not_too_long all ∙ (rw fits refl))
