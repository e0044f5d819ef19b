-- A target is accepted exactly if it has the parts of a source, with a path alone behind the host.
use Rattle.std.proofs.Common.{◌≡◌, ℕ, true, false, List, Option, None, Some, Result, Ok, Err, length, refl, ap, ◌∙◌}
use Rattle.std.specs.Prelude.{is_some, nat_lt}
use Rattle.std.proofs.lemmas.Bool.{lt-ltb, ltb-true}
use Rattle.source_urls.specs.declared.fault.UrlFault.{UrlFault}
use Rattle.source_urls.specs.declared.target.Target.{Target}
use Rattle.source_urls.specs.Grammar.{HasPathAlone, IsTarget, IsWritten, Written, written}
use Rattle.source_urls.specs.Parts.{fragment, rest, user}
use Rattle.source_urls.specs.Source.{accepted_port}
use Rattle.source_urls.specs.Target as targets
use Rattle.source_urls.specs.Target.{and_then_fault, has_query, target_fault, target_port}
use Rattle.source_urls.specs.UriText.{is_slash_last}
use Rattle.source_urls.proofs.Cutting.{none_any, none_from_any}
use Rattle.source_urls.proofs.Grammars.{parts}
use Rattle.source_urls.proofs.Guards.{guard, guard_not, is_none}
use Rattle.source_urls.proofs.OnlyParts.{accepted, fragment_is, rest_is, user_eq}

no_later : (r : Result ℕ UrlFault) (o : Option UrlFault) (n : ℕ) → and_then_fault r o ≡ Ok n → (r ≡ Ok n) × (o ≡ None)
no_later (Err f) o n h = absurd (cc)
no_later (Ok p) None n h = (h, refl)
no_later (Ok p) (Some f) n h = absurd (cc)

both : (text : List ℕ) (n : ℕ) → target_port text ≡ Ok n → (accepted_port text ≡ Ok n) × (target_fault text ≡ None)
unfolding target_port
both text n h = no_later (accepted_port text) (target_fault text) n h

none_wrong : (text : List ℕ) → target_fault text ≡ None → HasPathAlone (written text)
unfolding target_fault written
none_wrong text h =
    let no_user = guard (is_some (user text)) _ _ h in
    let no_fragment = guard (is_some (fragment text)) _ _ no_user.1 in
    let no_query = guard (has_query (rest text)) _ _ no_fragment.1 in
    let path = guard_not (nat_lt 1 (length (rest text))) _ _ no_query.1 in
    let closing = guard (is_slash_last (rest text)) _ _ path.1 in
    record {
      no_user = is_none (user text) no_user.0;
      no_fragment = is_none (fragment text) no_fragment.0;
      no_query = none_from_any 63 (rest text) no_query.0;
      path = ltb-true 1 (length (rest text)) path.0;
      open_end = closing.0;
    }

pub alone : (text : List ℕ) (n : ℕ) → target_port text ≡ Ok n → HasPathAlone (written text)
alone text n h = none_wrong text (both text n h).1

pub is_accepted : (text : List ℕ) (w : Written) (n : ℕ) → IsWritten text w n → HasPathAlone w → target_port text ≡ Ok n
unfolding target_port target_fault
is_accepted text w n i a =
    let port = accepted text w n i in
    let no_user = user_eq text w n i ∙ a.no_user in
    let no_fragment = fragment_is text w n i ∙ a.no_fragment in
    let query : has_query (rest text) ≡ false = ap has_query (rest_is text w n i) ∙ none_any 63 w.rest a.no_query in
    let path : nat_lt 1 (length (rest text)) ≡ true = ap (λ (l : List ℕ). nat_lt 1 (length l)) (rest_is text w n i) ∙ lt-ltb 1 (length w.rest) a.path in
    let closing : is_slash_last (rest text) ≡ false = ap is_slash_last (rest_is text w n i) ∙ a.open_end in
    rw (port, no_user, no_fragment, query, path, closing) refl

pub is_target : (text : List ℕ) (target : Target) → targets.IsReadAs text target → IsTarget text target
unfolding written
is_target text target r = record {
  parts = written text;
  is = parts text target.port (both text target.port r.port).0;
  alone = alone text target.port r.port;
  host = r.host;
  uri = r.uri;
}
