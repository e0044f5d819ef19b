-- Reading an input line by line.
use Rattle.std.proofs.Common.{◌≡◌, ◌==◌, ℕ, ◌+◌, ◌<◌, ◌≤◌, true, false, List, [], ◌∷◌, ◌++◌, inl, inr, Option, Some, length, map, filter, codes, refl, sym, ap, subst, ◌∙◌, arith, append_assoc, append-nil, length-append}
use Rattle.std.specs.List.{AllByRecursion}
use Rattle.std.proofs.lemmas.Bool.Decides.{eqb_tells}
use Rattle.std.proofs.lemmas.List.{map-append}
use Rattle.std.proofs.lemmas.List.Elements.{filter-append}
use Rattle.ring_steps.specs.declared.calls.Actor.{Actor}
use Rattle.ring_steps.specs.declared.calls.Actor.TheVariants.{P}
use Rattle.ring_script.specs.declared.call_line.CallLine.{CallLine}
use Rattle.ring_script.specs.declared.draft.Draft.{Draft}
use Rattle.ring_script.specs.declared.draft.Draft.TheVariants.{Empty, Kept, Listing, Whole}
use Rattle.ring_script.specs.declared.line.Line.{Line}
use Rattle.ring_script.specs.declared.line.Line.TheVariants.{Keep, Seats, Call, Go}
use Rattle.ring_script.specs.declared.plan.Plan.{Plan}
use Rattle.base_syntax.specs.Lines.{has_bytes}
use Rattle.ring_script.specs.Lines.{AreLines, IsFirstLine}
use Rattle.ring_script.specs.LineForms.{line_of, schedule_of, item_of}
use Rattle.ring_script.specs.Plans.{said_by, IsBelow, Reads, Begins, IsBadLine}
use Rattle.ring_script.specs.Drafts.{told, heard, IsSound, IsStuck}
use Rattle.ring_script.proofs.Forms.{heard_forms, forms_heard}

-- each text has its lines
pub record Lined (text : List ℕ) : Type 0 where
  pub lines : List (List ℕ)
  pub are : AreLines text lines

one_byte : (b : ℕ) (text : List ℕ) → (b == 10) ≡ false → (lines : List (List ℕ)) → AreLines text lines → Lined (b ∷ text)
one_byte b text other [] p =
    record { lines = (b ∷ []) ∷ []; are = ([], record { unbroken = (other, tt); whole = inr (ap (λ (l : List ℕ). b ∷ l) p, refl, refl) }, refl) }
one_byte b text other (line ∷ lines) (rest, first, p) = record {
  lines = (b ∷ line) ∷ lines;
  are = (
    rest,
    record {
      unbroken = (other, first.unbroken);
      whole = elim first.whole [
        | inl ends ↦ inl (ap (λ (l : List ℕ). b ∷ l) ends)
        | inr last ↦ inr (ap (λ (l : List ℕ). b ∷ l) last.0, last.1, refl)
      ];
    },
    p,
  );
}

pub lined : (text : List ℕ) → Lined text
lined [] = record { lines = []; are = refl }
lined (b ∷ text) =
    let more = lined text in
    elim (eqb_tells b 10) [
      | inl same ↦ record { lines = [] ∷ more.lines; are = (text, record { unbroken = tt; whole = inl (ap (λ (n : ℕ). n ∷ text) same.1) }, more.are) }
      | inr other ↦ one_byte b text other.0 more.lines more.are
    ]

-- what the lines of two lists say, one after another
said-append : (xs ys : List (List ℕ)) → map line_of (filter has_bytes (xs ++ ys)) ≡ map line_of (filter has_bytes xs) ++ map line_of (filter has_bytes ys)
said-append xs ys = ap (map line_of) (filter-append has_bytes xs ys) ∙ map-append line_of (filter has_bytes xs) (filter has_bytes ys)

-- The text begins with the lines of this draft, so many of them, and then goes on with the rest.
pub record SoFar (text rest : List ℕ) (count : ℕ) (draft : Draft) : Type 0 where
  pub done : List (List ℕ)
  pub goes_on : (lines : List (List ℕ)) → AreLines rest lines → AreLines text (done ++ lines)
  pub counted : count ≡ length done
  pub room : length done + length rest ≤ length text
  pub said : map line_of (filter has_bytes done) ≡ map Some (told draft)
  pub sound : IsSound draft

pub nothing_read : (text : List ℕ) → SoFar text text 0 Empty
nothing_read text = record { done = []; goes_on = λ lines p. p; counted = refl; room = omega arith; said = refl; sound = tt }

pub line_read : {text rest : List ℕ} {count : ℕ} {old : Draft} (new : Draft) (line after : List ℕ) → SoFar text rest count old → IsFirstLine rest line after → length after < length rest → map Some (told new) ≡ map Some (told old) ++ heard line → IsSound new
    → SoFar text after (count + 1) new
line_read {text = text} {old = old} new line after p first shorter kept sound = record {
  done = p.done ++ line ∷ [];
  goes_on = λ lines q. subst (AreLines text) (sym (append_assoc p.done (line ∷ []) lines)) (p.goes_on (line ∷ lines) (after, first, q));
  counted = omega (arith, p.counted, length-append p.done (line ∷ []));
  room = omega (arith, p.room, shorter, length-append p.done (line ∷ []));
  said = said-append p.done (line ∷ []) ∙ ap (λ (l : List (Option Line)). l ++ heard line) p.said ∙ sym kept;
  sound = sound;
}

-- lines that finish what these begin
unfoldable more_of : Draft → List (List ℕ)
more_of Empty = codes "keep 1" ∷ codes "seats 1" ∷ codes "go p" ∷ []
more_of (Kept keep) = codes "seats 1" ∷ codes "go p" ∷ []
more_of (Listing config calls) = codes "go p" ∷ []
more_of (Whole plan) = []

unfoldable plan_of : Draft → Plan
plan_of Empty = record { config = record { keep = 1; seats = 1 }; calls = []; schedule = P ∷ [] }
plan_of (Kept keep) = record { config = record { keep = keep; seats = 1 }; calls = []; schedule = P ∷ [] }
plan_of (Listing config calls) = record { config = config; calls = calls; schedule = P ∷ [] }
plan_of (Whole plan) = plan

finished : (draft : Draft) → map Some (told draft) ++ map line_of (filter has_bytes (more_of draft)) ≡ map Some (said_by (plan_of draft))
unfolding more_of plan_of line_of schedule_of item_of
finished Empty = refl
finished (Kept keep) = refl
finished (Listing config calls) =
    ap (λ (l : List (Option Line)). Some (Keep config.keep) ∷ Some (Seats config.seats) ∷ l) (sym (map-append Some (map Call calls) (Go (P ∷ []) ∷ [])))
finished (Whole plan) = append-nil (map Some (said_by plan))

finished_sound : (draft : Draft) → IsSound draft → AllByRecursion (IsBelow (plan_of draft).config.seats) (plan_of draft).calls
unfolding plan_of
finished_sound Empty p = tt
finished_sound (Kept keep) p = tt
finished_sound (Listing config calls) p = p
finished_sound (Whole plan) p = p

begins : {text rest : List ℕ} {count : ℕ} {draft : Draft} (p : SoFar text rest count draft) → Begins p.done
begins {draft = draft} p = (
  more_of draft,
  plan_of draft,
  record { said = heard_forms _ _ (said-append p.done (more_of draft) ∙ ap (λ (l : List (Option Line)). l ++ map line_of (filter has_bytes (more_of draft))) p.said ∙ finished draft); below = finished_sound draft p.sound },
)

heard_there : (line : List ℕ) → has_bytes line ≡ true → heard line ≡ line_of line ∷ []
heard_there line there = rw there refl

-- a line that no input has there
pub bad_line : {text rest : List ℕ} {count : ℕ} {draft : Draft} (line after : List ℕ) → SoFar text rest count draft → IsFirstLine rest line after → IsStuck draft line → IsBadLine text (count + 1)
bad_line {draft = draft} line after p first stuck =
    let later = lined after in
    record {
      before = p.done;
      after = line ∷ later.lines;
      lines = p.goes_on (line ∷ later.lines) (after, first, later.are);
      counted = ap (λ (n : ℕ). n + 1) p.counted;
      begins = begins p;
      wrong = λ goes.
          let more = map line_of (filter has_bytes goes.0) in
          let front = said-append p.done (line ∷ []) ∙ ap (λ (l : List (Option Line)). l ++ heard line) p.said ∙ ap (λ (l : List (Option Line)). map Some (told draft) ++ l) (heard_there line stuck.there) in
          stuck.none goes.1 more goes.2.below (sym (forms_heard _ _ goes.2.said) ∙ said-append (p.done ++ line ∷ []) goes.0 ∙ ap (λ (l : List (Option Line)). l ++ more) front);
    }

no_go : (own calls : List CallLine) (s : List Actor) → map Some (map Call own ++ Go s ∷ []) ≡ map Some (map Call calls) → ⊥
no_go [] [] s e = cc
no_go (o ∷ own) [] s e = cc
no_go [] (c ∷ calls) s e = cc
no_go (o ∷ own) (c ∷ calls) s e = no_go own calls s (cc)

unfinished : (draft : Draft) → ((plan : Plan) → draft ≡ Whole plan → ⊥) → (plan : Plan) → map Some (said_by plan) ≡ map Some (told draft) → ⊥
unfinished Empty h plan e = cc
unfinished (Kept keep) h plan e = cc
unfinished (Listing config calls) h plan e = no_go plan.calls calls plan.schedule (cc)
unfinished (Whole own) h plan e = h own refl

all_lines : {text rest : List ℕ} {count : ℕ} {draft : Draft} (p : SoFar text rest count draft) → rest ≡ [] → AreLines text (p.done ++ [])
all_lines p none = p.goes_on [] none

-- no line is left, and `go` is missing
pub missing_line : {text rest : List ℕ} {count : ℕ} {draft : Draft} → SoFar text rest count draft → rest ≡ [] → ((plan : Plan) → draft ≡ Whole plan → ⊥) → IsBadLine text (count + 1)
missing_line {draft = draft} p none not_whole = record {
  before = p.done;
  after = [];
  lines = all_lines p none;
  counted = ap (λ (n : ℕ). n + 1) p.counted;
  begins = begins p;
  wrong = λ plan says. unfinished draft not_whole plan (sym (forms_heard _ _ says.said) ∙ p.said);
}

-- no line is left, and all were read
pub whole_read : {text rest : List ℕ} {count : ℕ} (draft : Draft) (plan : Plan) → SoFar text rest count draft → rest ≡ [] → draft ≡ Whole plan → Reads text plan
whole_read {text = text} draft plan p none is = record {
  lines = p.done;
  are = subst (AreLines text) (append-nil p.done) (all_lines p none);
  says = record { said = heard_forms _ _ (p.said ∙ ap (λ (d : Draft). map Some (told d)) is); below = subst IsSound is p.sound };
}

pub no_bytes : (text : List ℕ) → length text ≡ 0 → text ≡ []
no_bytes [] none = refl
no_bytes (b ∷ text) none = absurd (omega arith)
