-- The URI of a source or of a target can be in a request line.
use Rattle.std.proofs.Common.{◌≡◌, ℕ, ◌<◌, Bool, true, List, ◌++◌, length, ap, subst, ◌∙◌, sym, arith, length-append}
use Rattle.std.specs.List.{list_all}
use Rattle.std.proofs.lemmas.Bool.{and_from, and_parts}
use Rattle.std.proofs.lemmas.List.Folds.{list_all-append}
use Rattle.source_urls.specs.declared.source.Source.{Source}
use Rattle.source_urls.specs.declared.target.Target.{Target}
use Rattle.source_urls.specs.Grammar.{IsSource, IsTarget, fragment_text, user_text, written}
use Rattle.source_urls.specs.Source as sources
use Rattle.source_urls.specs.Source.{request_uri}
use Rattle.source_urls.specs.UriText.{IsRequestUri, is_uri_byte}
use Rattle.source_urls.proofs.Grammars.{parts}
use Rattle.source_urls.proofs.OnlyParts.{seven}

pub all_both : (p : ℕ → Bool) (xs ys : List ℕ) → list_all p (xs ++ ys) ≡ true → (list_all p xs ≡ true) × (list_all p ys ≡ true)
all_both p xs ys h = and_parts (list_all p xs) (list_all p ys) (sym (list_all-append p xs ys) ∙ h)

pub all_append : (p : ℕ → Bool) (xs ys : List ℕ) → list_all p xs ≡ true → list_all p ys ≡ true → list_all p (xs ++ ys) ≡ true
all_append p xs ys h k = list_all-append p xs ys ∙ and_from (list_all p xs) (list_all p ys) h k

pub is_source : (text : List ℕ) (source : Source) → sources.IsReadAs text source → IsSource text source
unfolding written request_uri
is_source text source r = record {
  parts = written text;
  is = parts text source.port r.port;
  user = r.user;
  host = r.host;
  uri = r.uri;
}

without : (s u h p r f : List ℕ) → list_all is_uri_byte (s ++ u ++ h ++ p ++ r ++ f) ≡ true → list_all is_uri_byte (s ++ h ++ p ++ r) ≡ true
without s u h p r f all =
    let rest = all_both is_uri_byte (s ++ u ++ h ++ p ++ r) f all in
    let port = all_both is_uri_byte (s ++ u ++ h ++ p) r rest.0 in
    let host = all_both is_uri_byte (s ++ u ++ h) p port.0 in
    let user = all_both is_uri_byte (s ++ u) h host.0 in
    let scheme = all_both is_uri_byte s u user.0 in
    all_append is_uri_byte (s ++ h ++ p) r
    (all_append is_uri_byte (s ++ h) p (all_append is_uri_byte s h scheme.0 user.1) host.1) port.1

long_enough : (s h p r : List ℕ) → length s ≡ 7 → 0 < length (s ++ h ++ p ++ r)
long_enough s h p r seven = simp length-append (omega arith)

pub source_request : (text : List ℕ) (source : Source) → IsSource text source → IsRequestUri source.uri
source_request text source i =
    let w = i.parts in
    subst IsRequestUri (sym i.uri) (record {
      some = long_enough w.scheme w.host w.port w.rest (seven text w source.port i.is);
      visible = without w.scheme (user_text w.user) w.host w.port w.rest (fragment_text w.fragment) (sym (ap (list_all is_uri_byte) i.is.whole) ∙ i.is.visible);
    })

not_empty : (s u h p r f : List ℕ) → length s ≡ 7 → 0 < length (s ++ u ++ h ++ p ++ r ++ f)
not_empty s u h p r f seven = simp length-append (omega arith)

pub target_request : (text : List ℕ) (target : Target) → IsTarget text target → IsRequestUri target.uri
target_request text target i =
    let w = i.parts in
    let some = not_empty w.scheme (user_text w.user) w.host w.port w.rest (fragment_text w.fragment) (seven text w target.port i.is) in
    subst IsRequestUri (sym i.uri) (record {
      some = subst (λ (l : List ℕ). 0 < length l) (sym i.is.whole) some;
      visible = i.is.visible;
    })
