-- No URL with a password before an `@` is accepted.
use Rattle.std.proofs.Common.{◌≡◌, ◌≢◌, ◌<◌, ◌==◌, ◌||◌, ◌⊎◌, ℕ, Bool, true, false, List, [], ◌∷◌, ◌++◌, inl, inr, Option, None, Some, Ok, length, drop, refl, sym, ap, subst, ◌∙◌, append_assoc, arith, codes}
use Rattle.std.specs.Prelude.{⊤}
use Rattle.std.proofs.lemmas.Bool.{and_parts, lt-ltb, or_cases, true≢false}
use Rattle.std.proofs.lemmas.List.Prefix.{front_rest}
use Rattle.base_syntax.specs.Cuts.{HasNone}
use Rattle.base_syntax.specs.Names.{same_name}
use Rattle.source_urls.specs.Grammar.{BeginsRest, IsName, IsUser, IsWritten, Written, fragment_text, user_text, with_password, written}
use Rattle.source_urls.specs.Host.{inside, is_host, is_literal, is_name, is_name_byte}
use Rattle.source_urls.specs.Parts.{fragment_has_at, has_at, is_unclear}
use Rattle.source_urls.specs.Port.{port_number}
use Rattle.source_urls.specs.Source.{accepted_port}
use Rattle.source_urls.proofs.Cutting.{none_append, none_back, none_from_any, none_passing}
use Rattle.source_urls.proofs.Grammars.{parts}
use Rattle.source_urls.proofs.Hosts.{host_unmarked, in_brackets, port_form, port_unmarked}
use Rattle.source_urls.proofs.OnlyParts.{behind_parts, same_length}

-- a text with a byte has it
not_none : (xs ys : List ℕ) → HasNone 64 (xs ++ 64 ∷ ys) → ⊥
not_none xs ys h = true≢false (none_back 64 xs (64 ∷ ys) h).0

-- the first byte of each is the other's
head_is : (x y : ℕ) (xs ys : List ℕ) → x ∷ xs ≡ y ∷ ys → x ≡ y
head_is x y xs ys e = cc

tail_is : (x y : ℕ) (xs ys : List ℕ) → x ∷ xs ≡ y ∷ ys → xs ≡ ys
tail_is x y xs ys e = cc

not_byte : (b x : ℕ) → (x == b) ≡ false → (b == b) ≡ true → b ≢ x
not_byte b x other same e = true≢false (sym same ∙ ap (λ (n : ℕ). n == b) e ∙ other)

-- an `@` ends a name before any colon, and a colon another before any `@`
two_firsts : (name user behind rest : List ℕ) → HasNone 58 name → HasNone 64 user → name ++ 64 ∷ behind ≡ user ++ 58 ∷ rest → ⊥
two_firsts [] [] behind rest h k e = absurd (omega (arith, head_is 64 58 behind rest e))
two_firsts [] (u ∷ us) behind rest h k e = not_byte 64 u k.0 refl (head_is 64 u behind (us ++ 58 ∷ rest) e)
two_firsts (n ∷ ns) [] behind rest h k e = not_byte 58 n h.0 refl (sym (head_is n 58 (ns ++ 64 ∷ behind) rest e))
two_firsts (n ∷ ns) (u ∷ us) behind rest h k e = two_firsts ns us behind rest h.1 k.1 (tail_is n u (ns ++ 64 ∷ behind) (us ++ 58 ∷ rest) e)

-- a bracket doesn't begin the user
no_bracket : (user behind rest : List ℕ) → HasNone 91 user → 91 ∷ behind ≡ user ++ 58 ∷ rest → ⊥
no_bracket [] behind rest h e = absurd (omega (arith, head_is 91 58 behind rest e))
no_bracket (u ∷ us) behind rest h e = not_byte 91 u h.0 refl (head_is 91 u behind (us ++ 58 ∷ rest) e)

-- what is behind a location without a port begins with no colon, and with nothing that a user has
abbrev Ends : List ℕ → Type 0
Ends [] = ⊤
Ends (b ∷ bs) = (b ≡ 35) ⊎ ((b ≡ 47) ⊎ (b ≡ 63))

ends : (rest : List ℕ) (fragment : Option (List ℕ)) → BeginsRest rest → Ends (rest ++ fragment_text fragment)
ends [] None h = tt
ends [] (Some fragment) h = inl refl
ends (b ∷ bs) fragment h = elim h [
  | inl slash ↦ inr (inl slash)
  | inr question ↦ inr (inr question)
]

no_end : (b u : ℕ) → (u == 35) ≡ false → (u == 47) ≡ false → (u == 63) ≡ false → (b ≡ 35) ⊎ ((b ≡ 47) ⊎ (b ≡ 63)) → b ≡ u → ⊥
no_end b u sign slash question h e = elim h [
  | inl is ↦ not_byte 35 u sign refl (sym is ∙ e)
  | inr other ↦ elim other [
    | inl is ↦ not_byte 47 u slash refl (sym is ∙ e)
    | inr is ↦ not_byte 63 u question refl (sym is ∙ e)
  ]
]

no_colon : (b : ℕ) → (b ≡ 35) ⊎ ((b ≡ 47) ⊎ (b ≡ 63)) → b ≡ 58 → ⊥
no_colon b h e = no_end b 58 refl refl refl h e

no_port : (host user behind rest : List ℕ) → HasNone 58 host → IsName user → Ends behind → host ++ behind ≡ user ++ 58 ∷ rest → ⊥
no_port [] [] [] rest h k ends e = absurd (cc)
no_port [] (u ∷ us) [] rest h k ends e = absurd (cc)
no_port [] [] (b ∷ bs) rest h k ends e = no_colon b ends (head_is b 58 bs rest e)
no_port [] (u ∷ us) (b ∷ bs) rest h k ends e = no_end b u k.0.0 k.1.0 k.3.0 ends (head_is b u bs (us ++ 58 ∷ rest) e)
no_port (n ∷ ns) [] behind rest h k ends e = not_byte 58 n h.0 refl (sym (head_is n 58 (ns ++ behind) rest e))
no_port (n ∷ ns) (u ∷ us) behind rest h k ends e =
    no_port ns us behind rest h.1 (k.0.1, k.1.1, k.2.1, k.3.1, k.4.1) ends (tail_is n u (ns ++ behind) (us ++ 58 ∷ rest) e)

-- behind a port there is no `@`
or_false : (a b : Bool) → (a || b) ≡ false → (a ≡ false) × (b ≡ false)
or_false true b h = absurd (true≢false h)
or_false false b h = (refl, h)

clear : (port rest : List ℕ) (fragment : Option (List ℕ)) → 0 < length port → is_unclear None port rest fragment ≡ false → (has_at rest || fragment_has_at fragment) ≡ false
clear port rest fragment some h = rw (lt-ltb 0 (length port) some) at h

fragment_clear : (fragment : Option (List ℕ)) → fragment_has_at fragment ≡ false → HasNone 64 (fragment_text fragment)
fragment_clear None h = tt
fragment_clear (Some fragment) h = (refl, none_from_any 64 fragment h)

behind_clear : (port rest : List ℕ) (fragment : Option (List ℕ)) → 0 < length port → is_unclear None port rest fragment ≡ false → HasNone 64 (rest ++ fragment_text fragment)
behind_clear port rest fragment some h =
    let both = or_false (has_at rest) (fragment_has_at fragment) (clear port rest fragment some h) in
    none_append 64 rest (fragment_text fragment) (none_from_any 64 rest both.0) (fragment_clear fragment both.1)

-- the text without a user, by its port
by_port : (host port rest : List ℕ) (fragment : Option (List ℕ)) (number : ℕ) (user password behind : List ℕ)
    → is_host host ≡ true → HasNone 58 host → port_number port ≡ Some number → BeginsRest rest → is_unclear None port rest fragment ≡ false → IsName user
    → host ++ (port ++ (rest ++ fragment_text fragment)) ≡ user ++ 58 ∷ (password ++ 64 ∷ behind) → ⊥
by_port host [] rest fragment number user password behind here bare port begins unclear name e =
    no_port host user (rest ++ fragment_text fragment) (password ++ 64 ∷ behind) bare name (ends rest fragment begins) e
by_port host (b ∷ digits) rest fragment number user password behind here bare port begins unclear name e =
    let port_none : HasNone 64 (b ∷ digits) = (port_unmarked (b ∷ digits) (port_form (b ∷ digits) number port)).no_at in
    let none : HasNone 64 (host ++ ((b ∷ digits) ++ (rest ++ fragment_text fragment))) =
    none_append 64 host ((b ∷ digits) ++ (rest ++ fragment_text fragment)) (host_unmarked host here).no_at
    (none_append 64 (b ∷ digits) (rest ++ fragment_text fragment) port_none (behind_clear (b ∷ digits) rest fragment (omega arith) unclear)) in
    not_none password behind (none_back 64 user (58 ∷ (password ++ 64 ∷ behind)) (subst (HasNone 64) e none)).1

by_host : (host port rest : List ℕ) (fragment : Option (List ℕ)) (number : ℕ) (user password behind : List ℕ)
    → is_host host ≡ true → port_number port ≡ Some number → BeginsRest rest → is_unclear None port rest fragment ≡ false → IsName user → HasNone 91 user
    → host ++ (port ++ (rest ++ fragment_text fragment)) ≡ user ++ 58 ∷ (password ++ 64 ∷ behind) → ⊥
by_host host port rest fragment number user password behind h is_port begins unclear name bracket e = elim (or_cases (is_name host) (is_literal host) h) [
  | inl named ↦
      let bytes = (and_parts _ _ named).1 in
      by_port host port rest fragment number user password behind h (none_passing is_name_byte 58 host refl bytes) is_port begins unclear name e
  | inr literal ↦
      let whole = (in_brackets host literal).whole in
      let opened : 91 ∷ ((inside host ++ 93 ∷ []) ++ (port ++ (rest ++ fragment_text fragment))) ≡ user ++ 58 ∷ (password ++ 64 ∷ behind) =
      ap (λ (l : List ℕ). l ++ (port ++ (rest ++ fragment_text fragment))) (sym whole) ∙ e in
      no_bracket user ((inside host ++ 93 ∷ []) ++ (port ++ (rest ++ fragment_text fragment))) (password ++ 64 ∷ behind) bracket opened
]

by_user : (found : Option (List ℕ)) (host port rest : List ℕ) (fragment : Option (List ℕ)) (number : ℕ) (user password behind : List ℕ)
    → IsUser found → is_host host ≡ true → port_number port ≡ Some number → BeginsRest rest → is_unclear found port rest fragment ≡ false → IsName user → HasNone 91 user
    → user_text found ++ (host ++ (port ++ (rest ++ fragment_text fragment))) ≡ user ++ 58 ∷ (password ++ 64 ∷ behind) → ⊥
by_user None host port rest fragment number user password behind h here is_port begins unclear name bracket e =
    by_host host port rest fragment number user password behind here is_port begins unclear name bracket e
by_user (Some found) host port rest fragment number user password behind h here is_port begins unclear name bracket e =
    two_firsts found user (host ++ (port ++ (rest ++ fragment_text fragment))) (password ++ 64 ∷ behind) h.2 name.4
    (sym (append_assoc found (64 ∷ []) (host ++ (port ++ (rest ++ fragment_text fragment)))) ∙ e)

pub refused : (scheme user password behind : List ℕ) (number : ℕ) → same_name scheme (codes "rtsp://") ≡ true → IsName user → HasNone 91 user
    → accepted_port (with_password scheme user password behind) ≢ Ok number
refused scheme user password behind number same name bracket h =
    let text : List ℕ = with_password scheme user password behind in
    let w : Written = written text in
    let i : IsWritten text w number = parts text number h in
    let tail : List ℕ = user ++ 58 ∷ (password ++ 64 ∷ behind) in
    let seven : length scheme ≡ 7 = same_length scheme (codes "rtsp://") same in
    let behind_scheme : drop 7 text ≡ tail = ap (λ (m : ℕ). drop m text) (sym seven) ∙ front_rest text scheme tail refl in
    by_user w.user w.host w.port w.rest w.fragment number user password behind i.user i.host i.port i.begins i.clear name bracket
    (sym (behind_parts text w number i) ∙ behind_scheme)
