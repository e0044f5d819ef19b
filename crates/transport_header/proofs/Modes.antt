-- Recording is read where the value of `mode` asks for it, and nowhere else.
use Rattle.std.proofs.Common.{◌≡◌, ◌||◌, ℕ, Bool, true, false, cond, List, [], ◌∷◌, ◌++◌, ◌⊎◌, inl, inr, refl, ap, sym, subst, ◌∙◌, codes}
use Rattle.std.specs.List.{list_any, join_with_byte}
use Rattle.base_syntax.specs.Blanks.{trimmed}
use Rattle.base_syntax.specs.Names.{same_name}
use Rattle.base_syntax.specs.Quotes.{parts, AreParts}
use Rattle.base_syntax.proofs.AreParts as quotes
use Rattle.base_syntax.proofs.Trims.{is_core, only_core}
use Rattle.transport_header.specs.declared.spec.Mode.TheVariants.{Play, Record}
use Rattle.transport_header.specs.Recording.{IsRecordWord, AsksRecord, without_quotes}
use Rattle.transport_header.specs.Transport.{asks_record, mode_of}

or_true : (a b : Bool) → a || b ≡ true → (a ≡ true) ⊎ (b ≡ true)
or_true true b h = inl refl
or_true false b h = inr h

or_right : (a b : Bool) → b ≡ true → a || b ≡ true
or_right true b h = refl
or_right false b h = h

word_asks : (word : List ℕ) → IsRecordWord word → same_name word (codes "record") || same_name word (codes "receive") ≡ true
word_asks word (inl record_word) = rw record_word refl
word_asks word (inr receive_word) = or_right _ _ receive_word

any_at : (before : List (List ℕ)) (part : List ℕ) (after : List (List ℕ)) → asks_record part ≡ true → list_any asks_record (before ++ part ∷ after) ≡ true
any_at [] part after asks = rw asks refl
any_at (b ∷ before) part after asks = or_right (asks_record b) _ (any_at before part after asks)

pub mode_read : (value : List ℕ) → AsksRecord value → mode_of value ≡ Record
unfolding mode_of
mode_read value p =
    let all = p.before ++ p.part ∷ p.after in
    let cut : parts 44 (without_quotes value) ≡ all = ap (parts 44) (sym p.joined) ∙ quotes.only 44 all p.cut in
    let asks : asks_record p.part ≡ true = subst (λ (w : List ℕ). same_name w (codes "record") || same_name w (codes "receive") ≡ true) (only_core p.part p.word p.core) (word_asks p.word p.asked) in
    ap (λ ps. cond (list_any asks_record ps) Record Play) cut ∙ ap (λ t. cond t Record Play) (any_at p.before p.part p.after asks)

-- the first part that asks for recording
record Split (all : List (List ℕ)) : Type 0 where
  before : List (List ℕ)
  part : List ℕ
  after : List (List ℕ)
  whole : all ≡ before ++ part ∷ after
  asks : asks_record part ≡ true

split : (all : List (List ℕ)) → list_any asks_record all ≡ true → Split all
split [] h = absurd (cc)
split (part ∷ others) h = elim (or_true (asks_record part) (list_any asks_record others) h) [
  | inl here ↦ record { before = []; part = part; after = others; whole = refl; asks = here }
  | inr later ↦ let rest = split others later in record { before = part ∷ rest.before; part = rest.part; after = rest.after; whole = ap (λ ps. part ∷ ps) rest.whole; asks = rest.asks }
]

is_recorded : (test : Bool) → cond test Record Play ≡ Record → test ≡ true
is_recorded true h = refl
is_recorded false h = absurd (cc)

pub mode_only : (value : List ℕ) → mode_of value ≡ Record → AsksRecord value
unfolding mode_of
mode_only value h =
    let text : List ℕ = without_quotes value in
    let at = split (parts 44 text) (is_recorded (list_any asks_record (parts 44 text)) h) in
    record {
      before = at.before;
      part = at.part;
      after = at.after;
      cut = subst (AreParts 44) at.whole (quotes.are_parts 44 text);
      joined = ap (join_with_byte 44) (sym at.whole) ∙ quotes.joined 44 text;
      word = trimmed at.part;
      core = is_core at.part;
      asked = or_true _ _ at.asks;
    }
