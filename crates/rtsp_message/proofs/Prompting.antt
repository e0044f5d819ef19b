-- That an intake reads its source only while nothing is at hand.
use Rattle.std.proofs.Common.{◌≡◌, ℕ, List, [], ◌∷◌, ◌++◌, Option, None, ◌⊎◌, inl, inr, refl, sym, ap, subst, ◌∙◌, append_assoc, append-nil}
use Rattle.std.specs.List.{concat}
use Rattle.std.proofs.lemmas.List.Folds.{concat-append}
use Rattle.rtsp_message.specs.declared.unit.Unit.{Unit as StreamUnit}
use Rattle.rtsp_message.specs.Stream.{ReadsOn, fault_of}
use Rattle.rtsp_message.specs.Intakes.{IntakeState, HandsOut, Gave, IsPrompt, ReadsInNeed, ReadsOnce, Takes}
use Rattle.rtsp_message.proofs.HandingOut.{reads_twice, holds_same}

module _ {S : Type 0} (gives : S → List ℕ → S → Type 0) where
  pub Gave-append : (a b c : S) (ps qs : List (List ℕ)) → Gave gives a ps b → Gave gives b qs c → Gave gives a (ps ++ qs) c
  Gave-append a b c [] qs p q = subst (λ (s : S). Gave gives s qs c) p q
  Gave-append a b c (piece ∷ ps) qs p q = (p.0, p.1, p.2, Gave-append p.0 b c ps qs p.3 q)

  -- What a loop over steps keeps: no unit is handed out yet, what was read is queued, and the source was read only in need.
  pub record SoFar (incoming : S → Option (List ℕ)) (start now : IntakeState S) : Type 0 where
    pub out : HandsOut incoming start now []
    pub takes : Takes gives start now
    pub prompt : IsPrompt gives start now

  -- some of what came is read, and then some of the rest and of what comes
  pub Takes-trans : (a b c : IntakeState S) → Takes gives a b → Takes gives b c → Takes gives a c
  Takes-trans a b c p q = record {
    pieces = p.pieces ++ q.pieces;
    taken = p.taken ++ q.taken;
    none_queued = p.none_queued;
    not_ended = p.not_ended;
    came = Gave-append a.source b.source c.source p.pieces q.pieces p.came q.came;
    kept =
        ap (λ (l : List ℕ). a.held ++ l) (concat-append p.pieces q.pieces) ∙ sym (append_assoc a.held (concat p.pieces) (concat q.pieces))
        ∙ ap (λ (l : List ℕ). l ++ concat q.pieces) p.kept ∙ append_assoc p.taken b.held (concat q.pieces)
        ∙ ap (λ (l : List ℕ). p.taken ++ l) q.kept ∙ sym (append_assoc p.taken q.taken c.held);
    reads =
        let first : ReadsOn a.reading p.taken [] b.reading = subst (λ (l : List StreamUnit). ReadsOn a.reading p.taken l b.reading) q.none_queued p.reads in
        reads_twice a.reading b.reading c.reading p.taken q.taken [] c.queue first q.reads;
  }

  -- the last read comes next
  needed_again : (a b c : IntakeState S) → b.queue ≡ [] → b.held ≡ [] → Takes gives a b → fault_of b.reading ≡ None → (last : List ℕ) → gives b.source last c.source → ReadsInNeed gives a c
  needed_again a b c empty none_held p sound last given = record {
    pieces = p.pieces;
    before = b.source;
    reading = b.reading;
    last = last;
    none_queued = p.none_queued;
    not_ended = p.not_ended;
    came = p.came;
    no_unit =
        let all : p.taken ≡ a.held ++ concat p.pieces = sym (append-nil p.taken) ∙ ap (λ (l : List ℕ). p.taken ++ l) (sym none_held) ∙ sym p.kept in
        subst (λ (l : List ℕ). ReadsOn a.reading l [] b.reading) all (subst (λ (l : List StreamUnit). ReadsOn a.reading p.taken l b.reading) empty p.reads);
    no_fault = sound;
    last_read = given;
  }

  -- a first step is prompt
  pub first_prompt : (a c : IntakeState S) → ReadsOn a.reading [] [] a.reading → ReadsOnce gives a c → IsPrompt gives a c
  first_prompt a c stands (inl same) = inl same
  first_prompt a c stands (inr (empty, none_held, sound, going, last, given)) = inr (record {
    pieces = [];
    before = a.source;
    reading = a.reading;
    last = last;
    none_queued = empty;
    not_ended = going;
    came = refl;
    no_unit = subst (λ (l : List ℕ). ReadsOn a.reading l [] a.reading) (sym (append-nil a.held ∙ none_held)) stands;
    no_fault = sound;
    last_read = given;
  })

  -- a step that leaves the source as it is
  pub same_source : (a b c : IntakeState S) → c.source ≡ b.source → IsPrompt gives a b → IsPrompt gives a c
  same_source a b c same (inl p) = inl (same ∙ p)
  same_source a b c same (inr p) = inr (record {
    pieces = p.pieces;
    before = p.before;
    reading = p.reading;
    last = p.last;
    none_queued = p.none_queued;
    not_ended = p.not_ended;
    came = p.came;
    no_unit = p.no_unit;
    no_fault = p.no_fault;
    last_read = subst (gives p.before p.last) (sym same) p.last_read;
  })

  -- and so is one more
  pub next_prompt : (a b c : IntakeState S) → Takes gives a b → IsPrompt gives a b → ReadsOnce gives b c → IsPrompt gives a c
  next_prompt a b c p prompt (inl same) = same_source a b c same prompt
  next_prompt a b c p prompt (inr (empty, none_held, sound, going, last, given)) = inr (needed_again a b c empty none_held p sound last given)

  module _ (incoming : S → Option (List ℕ)) where
    -- whatever the steps before
    pub step_prompt : (a b c : IntakeState S) → (b ≡ a) ⊎ SoFar incoming a b → ReadsOn b.reading [] [] b.reading → ReadsOnce gives b c → IsPrompt gives a c
    step_prompt a b c (inl same) stands once = subst (λ (s : IntakeState S). IsPrompt gives s c) same (first_prompt b c stands once)
    step_prompt a b c (inr p) stands once = next_prompt a b c p.takes p.prompt once

    pub step_takes : (a b c : IntakeState S) → (b ≡ a) ⊎ SoFar incoming a b → Takes gives b c → Takes gives a c
    step_takes a b c (inl same) q = subst (λ (s : IntakeState S). Takes gives s c) same q
    step_takes a b c (inr p) q = Takes-trans a b c p.takes q

    pub out_so_far : (a b : IntakeState S) → (b ≡ a) ⊎ SoFar incoming a b → ReadsOn b.reading [] [] b.reading → HandsOut incoming a b []
    out_so_far a b (inl same) stands = subst (λ (s : IntakeState S). HandsOut incoming s b []) same (holds_same incoming b stands)
    out_so_far a b (inr p) stands = p.out

    -- before the next step
    pub prompt_so_far : (a b : IntakeState S) → (b ≡ a) ⊎ SoFar incoming a b → IsPrompt gives a b
    prompt_so_far a b (inl same) = inl (ap (λ (s : IntakeState S). s.source) same)
    prompt_so_far a b (inr p) = p.prompt
