-- A text that has the parts of the grammar is read as these, and accepted.
use Rattle.std.proofs.Common.{◌≡◌, ◌==◌, ℕ, suc, true, false, List, [], ◌∷◌, ◌++◌, Option, None, Some, Ok, length, take, drop, refl, sym, ap, ◌∙◌, append_assoc, codes}
use Rattle.std.specs.List.{before_first}
use Rattle.std.proofs.lemmas.Bool.{and_parts, false≢true}
use Rattle.std.proofs.lemmas.List.{append-nil}
use Rattle.std.proofs.lemmas.List.Prefix.{front_rest}
use Rattle.std.proofs.Math.Seq.{take-append_seam}
use Rattle.base_syntax.specs.Cuts.{HasNone, behind_first}
use Rattle.base_syntax.specs.Names.{same_name}
use Rattle.base_syntax.proofs.Cuts.{cut_behind, uncut}
use Rattle.source_urls.specs.Grammar.{IsUser, IsWritten, Written, fragment_text, user_text, written}
use Rattle.source_urls.specs.Parts.{address, can_have_password, fragment, has_password, has_password_in, host, host_in, location, port, resource, rest, scheme_part, user}
use Rattle.source_urls.specs.Source.{accepted_port}
use Rattle.source_urls.proofs.Cutting.{none_any, none_append}
use Rattle.source_urls.proofs.Hosts.{HasNoMark, host_is, host_unmarked, no_mark-append, port_form, port_unmarked}
use Rattle.source_urls.proofs.Locations.{Ends, location_is}
use Rattle.source_urls.proofs.Sources.{from_accepted}
use Rattle.source_urls.proofs.Users.{HasNoAt, Splits, address_is, user_is}

pub same_length : (a b : List ℕ) → same_name a b ≡ true → length a ≡ length b
same_length [] [] h = refl
same_length [] (y ∷ ys) h = absurd (false≢true h)
same_length (x ∷ xs) [] h = absurd (false≢true h)
same_length (x ∷ xs) (y ∷ ys) h = ap (λ (n : ℕ). suc n) (same_length xs ys (and_parts _ _ h).1)

-- the user and the address, the address, and what is behind the scheme
location_of : Written → List ℕ
location_of w = user_text w.user ++ (w.host ++ w.port)

behind_scheme : Written → List ℕ
unfolding location_of
behind_scheme w = (location_of w ++ w.rest) ++ fragment_text w.fragment

regrouped : (s u h p r f : List ℕ) → s ++ u ++ h ++ p ++ r ++ f ≡ s ++ (((u ++ (h ++ p)) ++ r) ++ f)
regrouped s u h p r f = simp append_assoc

whole : (text : List ℕ) (w : Written) (n : ℕ) → IsWritten text w n → text ≡ w.scheme ++ behind_scheme w
unfolding behind_scheme location_of
whole text w n i = i.whole ∙ regrouped w.scheme (user_text w.user) w.host w.port w.rest (fragment_text w.fragment)

pub seven : (text : List ℕ) (w : Written) (n : ℕ) → IsWritten text w n → length w.scheme ≡ 7
seven text w n i = same_length w.scheme (codes "rtsp://") i.scheme

scheme_is : (text : List ℕ) (w : Written) (n : ℕ) → IsWritten text w n → scheme_part text ≡ w.scheme
scheme_is text w n i =
    ap (λ (m : ℕ). take m text) (sym (seven text w n i)) ∙ (ap (take (length w.scheme)) (whole text w n i) ∙ take-append_seam w.scheme (behind_scheme w))

behind_is : (text : List ℕ) (w : Written) (n : ℕ) → IsWritten text w n → drop 7 text ≡ behind_scheme w
behind_is text w n i =
    ap (λ (m : ℕ). drop m text) (sym (seven text w n i)) ∙ front_rest text w.scheme (behind_scheme w) (whole text w n i)

degrouped : (u h p r f : List ℕ) → ((u ++ (h ++ p)) ++ r) ++ f ≡ u ++ (h ++ (p ++ (r ++ f)))
degrouped u h p r f = simp append_assoc

pub behind_parts : (text : List ℕ) (w : Written) (n : ℕ) → IsWritten text w n → drop 7 text ≡ user_text w.user ++ (w.host ++ (w.port ++ (w.rest ++ fragment_text w.fragment)))
unfolding behind_scheme location_of
behind_parts text w n i = behind_is text w n i ∙ degrouped (user_text w.user) w.host w.port w.rest (fragment_text w.fragment)

-- no mark is in the address, and none of `#`, `/` and `?` in the location

address_unmarked : (text : List ℕ) (w : Written) (n : ℕ) → IsWritten text w n → HasNoMark (w.host ++ w.port)
address_unmarked text w n i = no_mark-append w.host w.port (host_unmarked w.host i.host) (port_unmarked w.port (port_form w.port n i.port))

no_sign : (user : Option (List ℕ)) → IsUser user → HasNone 35 (user_text user)
no_sign None h = tt
no_sign (Some name) h = none_append 35 name (64 ∷ []) h.0 (refl, tt)

no_slash : (user : Option (List ℕ)) → IsUser user → HasNone 47 (user_text user)
no_slash None h = tt
no_slash (Some name) h = none_append 47 name (64 ∷ []) h.1 (refl, tt)

no_question : (user : Option (List ℕ)) → IsUser user → HasNone 63 (user_text user)
no_question None h = tt
no_question (Some name) h = none_append 63 name (64 ∷ []) h.3 (refl, tt)

no_at : (user : Option (List ℕ)) → IsUser user → HasNoAt user
no_at None h = tt
no_at (Some name) h = h.4

no_password : (user : Option (List ℕ)) → IsUser user → has_password_in user ≡ false
no_password None h = refl
no_password (Some name) h = none_any 58 name h.2

-- each part is the one of the grammar

at_sign : (front : List ℕ) (o : Option (List ℕ)) → HasNone 35 front
    → (before_first (λ b. b == 35) (front ++ fragment_text o) ≡ front) × (behind_first 35 (front ++ fragment_text o) ≡ o)
at_sign front None h = let cut = uncut 35 front h in (ap (before_first (λ b. b == 35)) (append-nil front) ∙ cut.0, ap (behind_first 35) (append-nil front) ∙ cut.1)
at_sign front (Some behind) h = cut_behind 35 front behind h

resource_unsigned : (text : List ℕ) (w : Written) (n : ℕ) → IsWritten text w n → HasNone 35 (location_of w ++ w.rest)
unfolding location_of
resource_unsigned text w n i =
    none_append 35 (location_of w) w.rest (none_append 35 (user_text w.user) (w.host ++ w.port) (no_sign w.user i.user) (address_unmarked text w n i).no_sign) i.bare

resource_is : (text : List ℕ) (w : Written) (n : ℕ) → IsWritten text w n → resource text ≡ location_of w ++ w.rest
unfolding resource behind_scheme
resource_is text w n i =
    ap (before_first (λ b. b == 35)) (behind_is text w n i) ∙ (at_sign (location_of w ++ w.rest) w.fragment (resource_unsigned text w n i)).0

pub fragment_is : (text : List ℕ) (w : Written) (n : ℕ) → IsWritten text w n → fragment text ≡ w.fragment
unfolding fragment behind_scheme
fragment_is text w n i =
    ap (behind_first 35) (behind_is text w n i) ∙ (at_sign (location_of w ++ w.rest) w.fragment (resource_unsigned text w n i)).1

resource_ends : (text : List ℕ) (w : Written) (n : ℕ) → IsWritten text w n → Ends (resource text) (location_of w) w.rest
unfolding location_of
resource_ends text w n i =
    let marks = address_unmarked text w n i in
    record {
      whole = resource_is text w n i;
      no_slash = none_append 47 (user_text w.user) (w.host ++ w.port) (no_slash w.user i.user) marks.no_slash;
      no_question = none_append 63 (user_text w.user) (w.host ++ w.port) (no_question w.user i.user) marks.no_question;
      begins = i.begins;
    }

location_eq : (text : List ℕ) (w : Written) (n : ℕ) → IsWritten text w n → location text ≡ location_of w
unfolding location
location_eq text w n i = location_is (resource text) (location_of w) w.rest (resource_ends text w n i)

pub rest_is : (text : List ℕ) (w : Written) (n : ℕ) → IsWritten text w n → rest text ≡ w.rest
unfolding rest
rest_is text w n i =
    ap (λ (l : List ℕ). drop (length l) (resource text)) (location_eq text w n i) ∙ front_rest (resource text) (location_of w) w.rest (resource_is text w n i)

location_split : (text : List ℕ) (w : Written) (n : ℕ) → IsWritten text w n → Splits (location text) w.user (w.host ++ w.port)
unfolding location_of
location_split text w n i = record { whole = location_eq text w n i; no_at = no_at w.user i.user }

pub user_eq : (text : List ℕ) (w : Written) (n : ℕ) → IsWritten text w n → user text ≡ w.user
unfolding user
user_eq text w n i = user_is (location text) w.user (w.host ++ w.port) (location_split text w n i) (address_unmarked text w n i).no_at

address_eq : (text : List ℕ) (w : Written) (n : ℕ) → IsWritten text w n → address text ≡ w.host ++ w.port
unfolding address
address_eq text w n i = address_is (location text) w.user (w.host ++ w.port) (location_split text w n i) (address_unmarked text w n i).no_at

host_eq : (text : List ℕ) (w : Written) (n : ℕ) → IsWritten text w n → host text ≡ w.host
unfolding host
host_eq text w n i = ap host_in (address_eq text w n i) ∙ host_is w.host w.port i.host (port_form w.port n i.port)

port_eq : (text : List ℕ) (w : Written) (n : ℕ) → IsWritten text w n → port text ≡ w.port
unfolding port
port_eq text w n i =
    ap (λ (l : List ℕ). drop (length l) (address text)) (host_eq text w n i) ∙ front_rest (address text) w.host w.port (address_eq text w n i)

-- the laws

abbrev made : (scheme : List ℕ) → Option (List ℕ) → (host port rest : List ℕ) → Option (List ℕ) → Written
made scheme user host port rest fragment =
    record { scheme = scheme; user = user; host = host; port = port; rest = rest; fragment = fragment }

pub only : (text : List ℕ) (w : Written) (n : ℕ) → IsWritten text w n → written text ≡ w
unfolding written
only text w n i =
    ap (λ (l : List ℕ). made l (user text) (host text) (port text) (rest text) (fragment text)) (scheme_is text w n i)
    ∙ (ap (λ (o : Option (List ℕ)). made w.scheme o (host text) (port text) (rest text) (fragment text)) (user_eq text w n i)
    ∙ (ap (λ (l : List ℕ). made w.scheme w.user l (port text) (rest text) (fragment text)) (host_eq text w n i)
    ∙ (ap (λ (l : List ℕ). made w.scheme w.user w.host l (rest text) (fragment text)) (port_eq text w n i)
    ∙ (ap (λ (l : List ℕ). made w.scheme w.user w.host w.port l (fragment text)) (rest_is text w n i)
    ∙ ap (λ (o : Option (List ℕ)). made w.scheme w.user w.host w.port w.rest o) (fragment_is text w n i)))))

password_is : (text : List ℕ) (w : Written) (n : ℕ) → IsWritten text w n → has_password text ≡ false
unfolding has_password
password_is text w n i = ap has_password_in (user_eq text w n i) ∙ no_password w.user i.user

clear_is : (text : List ℕ) (w : Written) (n : ℕ) → IsWritten text w n → can_have_password text ≡ false
unfolding can_have_password
clear_is text w n i = rw (user_eq text w n i, port_eq text w n i, rest_is text w n i, fragment_is text w n i) i.clear

pub accepted : (text : List ℕ) (w : Written) (n : ℕ) → IsWritten text w n → accepted_port text ≡ Ok n
accepted text w n i = from_accepted text n (record {
  short = i.short;
  visible = i.visible;
  scheme = ap (λ (l : List ℕ). same_name l (codes "rtsp://")) (scheme_is text w n i) ∙ i.scheme;
  bare = password_is text w n i;
  clear = clear_is text w n i;
  host = rw (host_eq text w n i) i.host;
  port = rw (port_eq text w n i) i.port;
})
