-- A source is accepted exactly if it has the parts of the grammar.
use Rattle.std.proofs.Common.{◌≡◌, ◌==◌, ℕ, Bool, true, false, cond, List, ◌++◌, Option, None, Some, Result, Ok, length, take, drop, refl, sym, ap, ◌∙◌, append_assoc, codes}
use Rattle.std.specs.List.{before_first}
use Rattle.std.proofs.lemmas.List.{append-nil, take-append-drop}
use Rattle.base_syntax.specs.Cuts.{HasNone, IsCut, behind_first}
use Rattle.base_syntax.proofs.Cuts.{is_cut}
use Rattle.source_urls.specs.declared.fault.UrlFault.{UrlFault}
use Rattle.source_urls.specs.Grammar.{fragment_text, user_text}
use Rattle.source_urls.specs.Host.{is_host}
use Rattle.source_urls.specs.Parts.{address, can_have_password, fragment, has_bracket, has_password, has_scheme, host, location, port, resource, rest, scheme_part, user}
use Rattle.source_urls.specs.Port.{port_number}
use Rattle.source_urls.specs.Source.{accepted_port, front_fault, port_or_fault, unless_fault}
use Rattle.source_urls.specs.UriText.{has_uri_bytes, is_long}
use Rattle.source_urls.proofs.Cutting.{front_back}
use Rattle.source_urls.proofs.Guards.{guard, guard_not}
use Rattle.source_urls.proofs.Locations.{Ends, ends}
use Rattle.source_urls.proofs.Users.{Splits, splits}

-- what is known of a text that is accepted
pub record Accepted (text : List ℕ) (number : ℕ) : Type 0 where
  pub short : is_long text ≡ false
  pub visible : has_uri_bytes text ≡ true
  pub scheme : has_scheme (codes "rtsp://") text ≡ true
  pub bare : has_password text ≡ false
  pub clear : can_have_password text ≡ false
  pub host : is_host (host text) ≡ true
  pub port : port_number (port text) ≡ Some number

no_fault : (o : Option UrlFault) (r : Result ℕ UrlFault) (n : ℕ) → unless_fault o r ≡ Ok n → (o ≡ None) × (r ≡ Ok n)
no_fault None r n h = (refl, h)
no_fault (Some f) r n h = absurd (cc)

has_port : (o : Option ℕ) (n : ℕ) → port_or_fault o ≡ Ok n → o ≡ Some n
has_port None n h = absurd (cc)
has_port (Some m) n h = cc

pub accepted : (text : List ℕ) (number : ℕ) → accepted_port text ≡ Ok number → Accepted text number
unfolding accepted_port front_fault
accepted text number h =
    let all = no_fault (front_fault text) (port_or_fault (port_number (port text))) number h in
    let short = guard (is_long text) _ _ all.0 in
    let visible = guard_not (has_uri_bytes text) _ _ short.1 in
    let scheme = guard_not (has_scheme (codes "rtsp://") text) _ _ visible.1 in
    let bare = guard (has_password text) _ _ scheme.1 in
    let clear = guard (can_have_password text) _ _ bare.1 in
    let named = guard_not (is_host (host text)) _ _ clear.1 in
    record {
      short = short.0;
      visible = visible.0;
      scheme = scheme.0;
      bare = bare.0;
      clear = clear.0;
      host = named.0;
      port = has_port (port_number (port text)) number all.1;
    }

pub from_accepted : (text : List ℕ) (number : ℕ) → Accepted text number → accepted_port text ≡ Ok number
unfolding accepted_port front_fault
from_accepted text number a = rw (a.short, a.visible, a.scheme, a.bare, a.clear, a.host, a.port) refl

-- the parts of any text

cut_whole : (text front : List ℕ) (behind : Option (List ℕ)) → IsCut 35 text front behind → text ≡ front ++ fragment_text behind
cut_whole text front None h = h.0 ∙ sym (append-nil front)
cut_whole text front (Some behind) h = h.0

resource_whole : (text : List ℕ) → drop 7 text ≡ resource text ++ fragment_text (fragment text)
unfolding resource fragment
resource_whole text = cut_whole (drop 7 text) (before_first (λ b. b == 35) (drop 7 text)) (behind_first 35 (drop 7 text)) (is_cut 35 (drop 7 text))

cut_bare : (text front : List ℕ) (behind : Option (List ℕ)) → IsCut 35 text front behind → HasNone 35 front
cut_bare text front None h = h.1
cut_bare text front (Some behind) h = h.1

pub resource_bare : (text : List ℕ) → HasNone 35 (resource text)
unfolding resource
resource_bare text = cut_bare (drop 7 text) (before_first (λ b. b == 35) (drop 7 text)) (behind_first 35 (drop 7 text)) (is_cut 35 (drop 7 text))

pub resource_ends : (text : List ℕ) → Ends (resource text) (location text) (rest text)
unfolding location rest
resource_ends text = ends (resource text)

pub location_splits : (text : List ℕ) → Splits (location text) (user text) (address text)
unfolding user address
location_splits text = splits (location text)

front_either : (b : Bool) (m n : ℕ) (a : List ℕ) → a ≡ cond b (take m a) (take n a) ++ drop (length (cond b (take m a) (take n a))) a
front_either true m n a = front_back m a
front_either false m n a = front_back n a

address_whole : (text : List ℕ) → address text ≡ host text ++ port text
unfolding host port
address_whole text = front_either (has_bracket (address text)) _ _ (address text)

regroup : (s u h p r f : List ℕ) → s ++ (((u ++ (h ++ p)) ++ r) ++ f) ≡ s ++ u ++ h ++ p ++ r ++ f
regroup s u h p r f = simp append_assoc

pub whole : (text : List ℕ) → text ≡ scheme_part text ++ user_text (user text) ++ host text ++ port text ++ rest text ++ fragment_text (fragment text)
whole text =
    let located : location text ≡ user_text (user text) ++ (host text ++ port text) =
    (location_splits text).whole ∙ ap (λ (l : List ℕ). user_text (user text) ++ l) (address_whole text) in
    let ended : resource text ≡ (user_text (user text) ++ (host text ++ port text)) ++ rest text =
    (resource_ends text).whole ∙ ap (λ (l : List ℕ). l ++ rest text) located in
    sym (take-append-drop 7 text)
    ∙ (ap (λ (l : List ℕ). take 7 text ++ l) (resource_whole text ∙ ap (λ (l : List ℕ). l ++ fragment_text (fragment text)) ended)
    ∙ regroup (take 7 text) (user_text (user text)) (host text) (port text) (rest text) (fragment_text (fragment text)))
