-- How bytes begin, compared with a text.
use Rattle.std.proofs.Common.{◌≡◌, ◌≢◌, ℕ, List, [], ◌∷◌, ◌++◌, sym, ◌∙◌, append-nil, inl, inr}
use Rattle.proxy_header.specs.Beginnings.{IsBegun, IsOther}
use Rattle.proxy_header.proofs.Lists.{compare}

pub is_begun : (bytes text rest : List ℕ) → ((more : List ℕ) → bytes ≢ text ++ more) → text ≡ bytes ++ rest → IsBegun bytes text
is_begun bytes text [] other e = absurd (other [] (sym (append-nil bytes) ∙ sym e ∙ sym (append-nil text)))
is_begun bytes text (b ∷ more) other e = record { next = b; more = more; whole = e }

pub is_other : (bytes text : List ℕ) → ((more : List ℕ) → bytes ≢ text ++ more) → ((more : List ℕ) → text ≢ bytes ++ more) → IsOther bytes text
is_other bytes text past before more rest e = elim (compare bytes more text rest e) [ inl r ↦ before r.0 r.1 | inr r ↦ past r.0 r.1 ]
