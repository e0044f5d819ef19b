-- What calls put to the target, one after another.
use Rattle.std.proofs.Common.{◌≡◌, ℕ, List, [], ◌∷◌, ◌++◌, map, refl, sym, ap, subst, ◌∙◌, append_assoc, append-nil}
use Rattle.std.proofs.lemmas.List.{map-append}
use Rattle.std.specs.List.{AllByRecursion}
use Rattle.request_text.specs.Sending.{Asking}
use Rattle.request_text.specs.declared.request_text.RequestText.{RequestText}
use Rattle.outgoing.specs.Items.{Sends}
use Rattle.outgoing.specs.Queues.{Puts, Queue, waiting_item}
use Rattle.pull_session.specs.Asks.{IsTargetRequest, PutsRequests, request_item}

all_append : {X : Type 0} (P : X → Type 0) (xs ys : List X) → AllByRecursion P xs → AllByRecursion P ys → AllByRecursion P (xs ++ ys)
all_append P [] ys a b = b
all_append P (x ∷ xs) ys a b = (a.0, all_append P xs ys a.1 b)

pub puts_none : (mount : List ℕ) (queue : Queue) → PutsRequests mount queue queue
puts_none mount queue = record {
  texts = [];
  put = sym (append-nil queue.items);
  begun = refl;
  each = tt;
}

pub puts_same : (mount : List ℕ) (old new : Queue) → new ≡ old → PutsRequests mount old new
puts_same mount old new same = subst (λ (queue : Queue). PutsRequests mount old queue) (sym same) (puts_none mount old)

pub puts_one : (mount : List ℕ) (text : RequestText) (old new : Queue) → IsTargetRequest mount text → Puts (waiting_item (Sends (Asking text))) old new
    → PutsRequests mount old new
puts_one mount text old new is put = record {
  texts = text ∷ [];
  put = put.items;
  begun = put.begun;
  each = (is, tt);
}

pub puts_more : (mount : List ℕ) (a b c : Queue) → PutsRequests mount a b → PutsRequests mount b c → PutsRequests mount a c
puts_more mount a b c first next = record {
  texts = first.texts ++ next.texts;
  put = next.put
      ∙ ap (λ items. items ++ map request_item next.texts) first.put
      ∙ append_assoc a.items (map request_item first.texts) (map request_item next.texts)
      ∙ ap (λ items. a.items ++ items) (sym (map-append request_item first.texts next.texts));
  begun = next.begun ∙ first.begun;
  each = all_append (IsTargetRequest mount) first.texts next.texts first.each next.each;
}
