-- Reading a text line by line.
use Rattle.std.proofs.Common.{◌≡◌, ℕ, ◌<◌, ◌==◌, true, false, List, [], ◌∷◌, ◌++◌, length, map, filter, refl, sym, ap, ◌∙◌, inl, inr, arith, append_assoc, append-nil, length-append}
use Rattle.std.specs.List.{AllByRecursion, flat_map}
use Rattle.std.proofs.lemmas.Bool.Decides.{eqb_tells}
use Rattle.std.proofs.lemmas.List.Concat.{flat_map-append}
use Rattle.std.proofs.lemmas.List.Elements.{filter-append}
use Rattle.sdp.specs.declared.fault.SdpFault.{SdpFault}
use Rattle.sdp.specs.declared.sections.Sections.{Sections}
use Rattle.base_syntax.specs.Lines.{HasNoLf, ended, said, has_bytes, IsFirstLine}
use Rattle.sdp.specs.Lines.{AreLines}
use Rattle.sdp.specs.Sections.{announced, AreGood}
use Rattle.sdp.specs.Faults.{IsFaultAfter}
use Rattle.sdp.specs.Readings.{HasBadLine}
use Rattle.sdp.proofs.Goods.{push_all, join_all}

-- The text begins with the lines of these sections, and then goes on with the rest.
pub record SoFar (text rest : List ℕ) (sections : Sections) : Type 0 where
  pub done : List (List ℕ)
  pub whole : text ≡ flat_map ended done ++ rest
  pub unbroken : AllByRecursion HasNoLf done
  pub lines_are : announced sections ≡ filter has_bytes (map said done)
  pub good : AreGood sections

map_push : (f : List ℕ → List ℕ) (xs : List (List ℕ)) (x : List ℕ) → map f (xs ++ x ∷ []) ≡ map f xs ++ f x ∷ []
map_push f [] x = refl
map_push f (y ∷ xs) x = ap (λ (l : List (List ℕ)). f y ∷ l) (map_push f xs x)

map_append : (f : List ℕ → List ℕ) (xs ys : List (List ℕ)) → map f (xs ++ ys) ≡ map f xs ++ map f ys
map_append f [] ys = refl
map_append f (y ∷ xs) ys = ap (λ (l : List (List ℕ)). f y ∷ l) (map_append f xs ys)

pub nothing_read : (text : List ℕ) (sections : Sections) → announced sections ≡ [] → AreGood sections → SoFar text text sections
nothing_read text sections none good = record { done = []; whole = refl; unbroken = tt; lines_are = none; good = good }

joined_push : (done : List (List ℕ)) (line rest : List ℕ) → flat_map ended (done ++ line ∷ []) ++ rest ≡ flat_map ended done ++ (ended line ++ rest)
joined_push done line rest =
    ap (λ (l : List ℕ). l ++ rest) (flat_map-append ended done (line ∷ []) ∙ ap (λ (l : List ℕ). flat_map ended done ++ l) (append-nil (ended line)))
    ∙ append_assoc (flat_map ended done) (ended line) rest

-- one more line
pub line_more : {text rest line after : List ℕ} {old new : Sections} → SoFar text rest old → IsFirstLine rest line after → announced new ≡ announced old ++ filter has_bytes (line ∷ []) → AreGood new → SoFar text after new
line_more {after = after} {old = old} {new = new} p q kept good = record {
  done = p.done ++ q.line ∷ [];
  whole = p.whole ∙ ap (λ (r : List ℕ). flat_map ended p.done ++ r) q.whole ∙ sym (joined_push p.done q.line after);
  unbroken = push_all HasNoLf p.done q.line p.unbroken q.unbroken;
  lines_are = kept ∙ ap (λ (t : List ℕ). announced old ++ filter has_bytes (t ∷ [])) q.text_is ∙ ap (λ (l : List (List ℕ)). l ++ filter has_bytes (said q.line ∷ [])) p.lines_are
      ∙ sym (ap (filter has_bytes) (map_push said p.done q.line) ∙ filter-append has_bytes (map said p.done) (said q.line ∷ []));
  good = good;
}

-- the bytes after the last LF
pub lines_end : {text rest : List ℕ} {old : Sections} (new : Sections) → SoFar text rest old → HasNoLf rest → announced new ≡ announced old ++ filter has_bytes (rest ∷ []) → AreLines text (announced new)
lines_end {rest = rest} new p none kept = record {
  whole_lines = p.done;
  last = rest;
  whole = p.whole;
  unbroken = p.unbroken;
  last_unbroken = none;
  lines_are = kept ∙ ap (λ (l : List (List ℕ)). l ++ filter has_bytes (rest ∷ [])) p.lines_are ∙ sym (filter-append has_bytes (map said p.done) (rest ∷ []));
}

-- each text is lines
pub record Cut (text : List ℕ) : Type 0 where
  pub whole_lines : List (List ℕ)
  pub last : List ℕ
  pub whole : text ≡ flat_map ended whole_lines ++ last
  pub unbroken : AllByRecursion HasNoLf whole_lines
  pub last_unbroken : HasNoLf last

cut_more : (b : ℕ) {text : List ℕ} → (b == 10) ≡ false → (lines : List (List ℕ)) (last : List ℕ) → text ≡ flat_map ended lines ++ last → AllByRecursion HasNoLf lines → HasNoLf last → Cut (b ∷ text)
cut_more b other [] last whole p q = record { whole_lines = []; last = b ∷ last; whole = ap (λ (l : List ℕ). b ∷ l) whole; unbroken = tt; last_unbroken = (other, q) }
cut_more b other (line ∷ lines) last whole p q = record { whole_lines = (b ∷ line) ∷ lines; last = last; whole = ap (λ (l : List ℕ). b ∷ l) whole; unbroken = ((other, p.0), p.1); last_unbroken = q }

pub cut : (text : List ℕ) → Cut text
cut [] = record { whole_lines = []; last = []; whole = refl; unbroken = tt; last_unbroken = tt }
cut (b ∷ text) =
    let more = cut text in
    elim (eqb_tells b 10) [
      | inl same ↦ record { whole_lines = [] ∷ more.whole_lines; last = more.last; whole = ap (λ (n : ℕ). n ∷ text) same.1 ∙ ap (λ (l : List ℕ). 10 ∷ l) more.whole; unbroken = (tt, more.unbroken); last_unbroken = more.last_unbroken }
      | inr other ↦ cut_more b other.0 more.whole_lines more.last more.whole more.unbroken more.last_unbroken
    ]

kept_line : (line : List ℕ) → has_bytes line ≡ true → (more : List (List ℕ)) → filter has_bytes (line ∷ more) ≡ line ∷ filter has_bytes more
kept_line line h more = rw h refl

-- a line that an LF ends is bad
pub bad_line : {text rest line after : List ℕ} {fault : SdpFault} (sections : Sections) → SoFar text rest sections → IsFirstLine rest line after → has_bytes line ≡ true → IsFaultAfter sections line fault → HasBadLine text fault
bad_line {text} {rest} {line} {after} {fault} sections p q some wrong =
    let more = cut after in
    let all = p.done ++ q.line ∷ more.whole_lines in
    record {
      before = sections;
      line = line;
      after = filter has_bytes (map said more.whole_lines ++ more.last ∷ []);
      lines = record {
        whole_lines = all;
        last = more.last;
        whole = p.whole ∙ ap (λ (r : List ℕ). flat_map ended p.done ++ r) (q.whole ∙ ap (λ (r : List ℕ). ended q.line ++ r) more.whole ∙ sym (append_assoc (ended q.line) (flat_map ended more.whole_lines) more.last))
            ∙ sym (append_assoc (flat_map ended p.done) (flat_map ended (q.line ∷ more.whole_lines)) more.last) ∙ ap (λ (l : List ℕ). l ++ more.last) (sym (flat_map-append ended p.done (q.line ∷ more.whole_lines)));
        unbroken = join_all HasNoLf p.done (q.line ∷ more.whole_lines) p.unbroken (q.unbroken, more.unbroken);
        last_unbroken = more.last_unbroken;
        lines_are = ap (λ (l : List (List ℕ)). l ++ line ∷ filter has_bytes (map said more.whole_lines ++ more.last ∷ [])) p.lines_are
            ∙ ap (λ (l : List (List ℕ)). filter has_bytes (map said p.done) ++ l) (sym (kept_line line some (map said more.whole_lines ++ more.last ∷ [])) ∙ ap (λ (t : List ℕ). filter has_bytes (t ∷ (map said more.whole_lines ++ more.last ∷ []))) q.text_is)
            ∙ sym (filter-append has_bytes (map said p.done) (said q.line ∷ (map said more.whole_lines ++ more.last ∷ [])))
            ∙ ap (filter has_bytes) (sym (append_assoc (map said p.done) (said q.line ∷ map said more.whole_lines) (more.last ∷ [])) ∙ ap (λ (l : List (List ℕ)). l ++ more.last ∷ []) (sym (map_append said p.done (q.line ∷ more.whole_lines))));
      };
      good = p.good;
      wrong = wrong;
    }

-- the bytes after the last LF are bad
pub bad_last : {text rest : List ℕ} {fault : SdpFault} (sections : Sections) → SoFar text rest sections → HasNoLf rest → has_bytes rest ≡ true → IsFaultAfter sections rest fault → HasBadLine text fault
bad_last {rest = rest} sections p none some wrong = record {
  before = sections;
  line = rest;
  after = [];
  lines = record {
    whole_lines = p.done;
    last = rest;
    whole = p.whole;
    unbroken = p.unbroken;
    last_unbroken = none;
    lines_are = ap (λ (l : List (List ℕ)). l ++ rest ∷ []) p.lines_are ∙ ap (λ (l : List (List ℕ)). filter has_bytes (map said p.done) ++ l) (sym (kept_line rest some [])) ∙ sym (filter-append has_bytes (map said p.done) (rest ∷ []));
  };
  good = p.good;
  wrong = wrong;
}

pub shorter : {rest line after : List ℕ} → IsFirstLine rest line after → length after < length rest
shorter {after = after} q = omega (arith, ap length q.whole, length-append (ended q.line) after, length-append q.line (10 ∷ []))
