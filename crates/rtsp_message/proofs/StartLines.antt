-- A start line is cut into its parts in one way only.
use Rattle.std.proofs.Common.{◌≡◌, ◌==◌, ℕ, not, true, false, List, [], ◌∷◌, ◌++◌, length, nat_lt, refl, sym, ap, ◌∙◌, inl, inr, arith, subst}
use Rattle.std.specs.Prelude.{codes}
use Rattle.std.specs.List.{list_all, list_any}
use Rattle.std.specs.Char.{is_ascii_digit}
use Rattle.std.proofs.lemmas.Bool.{and_parts}
use Rattle.std.proofs.lemmas.Bool.Decides.{nat_tests}
use Rattle.interleaved.proofs.Frames.{same_front}
use Rattle.base_syntax.specs.Blanks.{trimmed}
use Rattle.base_syntax.specs.Numbers.{is_numeral}
use Rattle.base_syntax.proofs.Trims.{only_core}
use Rattle.rtsp_message.specs.declared.byte_class.ByteClass.TheVariants.{Token, Visible, Space}
use Rattle.rtsp_message.specs.declared.peer.Peer.{Peer}
use Rattle.rtsp_message.specs.declared.peer.Peer.TheVariants.{Client, Server}
use Rattle.rtsp_message.specs.Lines.{BeginsOutside, Each, OneOrMore, is_in, is_visible, separators, IsFrontRun, IsRequestLine, IsStartLine, IsStatusLine, IsVersion}
use Rattle.rtsp_message.proofs.Runs.{cancel, false_is_true, outside, space_not_visible, visible_no_space}
use Rattle.rtsp_message.proofs.RequestLines.{after_method, same_cut, same_request_line}

token_visible : (b : ℕ) → is_in Token b ≡ true → is_in Visible b ≡ true
token_visible b h = (and_parts (is_visible b) (not (list_any (λ s. s == b) separators)) h).0

tokens_visible : (bytes : List ℕ) → Each Token bytes → Each Visible bytes
tokens_visible [] p = tt
tokens_visible (b ∷ bytes) p = (token_visible b p.0, tokens_visible bytes p.1)

digit_visible : (b : ℕ) → is_ascii_digit b ≡ true → is_in Visible b ≡ true
digit_visible b h = grind (arith, nat_tests)

digit_no_space : (b : ℕ) → is_ascii_digit b ≡ true → is_in Space b ≡ false
digit_no_space b h = visible_no_space b (digit_visible b h)

digits_visible : (digits : List ℕ) → list_all is_ascii_digit digits ≡ true → Each Visible digits
digits_visible [] h = tt
digits_visible (d ∷ digits) h = let parts = and_parts (is_ascii_digit d) (list_all is_ascii_digit digits) h in (digit_visible d parts.0, digits_visible digits parts.1)

-- a version is visible bytes, and no token
pub version_visible : (version : List ℕ) → IsVersion version → OneOrMore Visible version
version_visible version p =
    let digits = and_parts (nat_lt 0 (length p.0)) (list_all is_ascii_digit p.0) p.2 in
    let text : OneOrMore Visible (codes "RTSP/1." ++ p.0) = (omega arith, (refl, (refl, (refl, (refl, (refl, (refl, (refl, digits_visible p.0 digits.1)))))))) in
    subst (OneOrMore Visible) (sym p.1) text

version_is_no_token : (version : List ℕ) → IsVersion version → Each Token version → ⊥
version_is_no_token version p each = let text : Each Token (codes "RTSP/1." ++ p.0) = subst (Each Token) p.1 each in false_is_true text.1.1.1.1.0

-- digits don't begin with a space
digits_end_spaces : (status more : List ℕ) → length status ≡ 3 → is_numeral status ≡ true → BeginsOutside Space (status ++ more)
digits_end_spaces [] more size numeral = absurd (omega (arith, size))
digits_end_spaces (d ∷ ds) more size numeral = digit_no_space d (and_parts (is_ascii_digit d) (list_all is_ascii_digit ds) (and_parts (nat_lt 0 (length (d ∷ ds))) (list_all is_ascii_digit (d ∷ ds)) numeral).1).0

module _ {line version status reason : List ℕ} (q : IsStatusLine line version status reason) where
  abbrev pub after_gap : List ℕ
  after_gap = status ++ q.text

  abbrev pub after_version : List ℕ
  after_version = q.gap ++ after_gap

  pub status_version_cut : IsFrontRun Visible line version after_version
  status_version_cut = record { whole = q.whole; run_bytes = version_visible version q.version_is; stops = outside Space Visible space_not_visible q.gap after_gap q.spaces }

  pub gap_cut : IsFrontRun Space after_version q.gap after_gap
  gap_cut = record { whole = refl; run_bytes = q.spaces; stops = digits_end_spaces status q.text q.three_digits.0 q.three_digits.1 }

-- three digits and a text are cut in one way
pub same_status : (a b x y : List ℕ) → length a ≡ 3 → length b ≡ 3 → a ++ x ≡ b ++ y → (a ≡ b) × (x ≡ y)
same_status a b x y p q e = let front : a ≡ b = same_front a b x y (p ∙ sym q) e in (front, cancel a b x y front e)

-- what follows version and gap is where the status begins
pub after_gaps : {line version gap rest m u v : List ℕ} → IsFrontRun Visible line version rest → (q : IsStatusLine line m u v) → (more : List ℕ) → IsFrontRun Space rest gap more → more ≡ after_gap q
after_gaps p q more g = let version = same_cut refl p (status_version_cut q) in (same_cut version.1 g (gap_cut q)).1

-- a line is a status line of one version, status and reason
pub same_status_line : {line m u v m' u' v' : List ℕ} → IsStatusLine line m u v → IsStatusLine line m' u' v' → (m ≡ m') × (u ≡ u') × (v ≡ v')
same_status_line {line} {m} {u} {v} {m'} {u'} {v'} p q =
    let version = same_cut refl (status_version_cut p) (status_version_cut q) in
    let gap = same_cut version.1 (gap_cut p) (gap_cut q) in
    let status = same_status u u' p.text q.text p.three_digits.0 q.three_digits.0 gap.1 in
    (version.0, status.0, only_core p.text v p.reason_is ∙ ap trimmed status.1 ∙ sym (only_core q.text v' q.reason_is))

-- no request line is a status line: a method is a token
pub not_both : {line m u v m' u' v' : List ℕ} → IsRequestLine line m u v → IsStatusLine line m' u' v' → ⊥
not_both {line} {m} {u} {v} {m'} p q =
    let method : IsFrontRun Visible line m (after_method p) =
    record { whole = p.whole; run_bytes = (p.method_bytes.0, tokens_visible m p.method_bytes.1); stops = outside Space Visible space_not_visible p.first_gap _ p.first_spaces } in
    let same = same_cut refl method (status_version_cut q) in
    version_is_no_token m' q.version_is (subst (Each Token) same.0 p.method_bytes.1)

-- a start line has one method, URI and version, or what stands in their places
pub same_start_line : (peer : Peer) (line m u v m' u' v' : List ℕ) → IsStartLine peer line m u v → IsStartLine peer line m' u' v' → (m ≡ m') × (u ≡ u') × (v ≡ v')
same_start_line Client line m u v m1 u1 v1 p q = same_request_line p q
same_start_line Server line m u v m1 u1 v1 (inl p) (inl q) = same_request_line p q
same_start_line Server line m u v m1 u1 v1 (inl p) (inr q) = absurd (not_both p q)
same_start_line Server line m u v m1 u1 v1 (inr p) (inl q) = absurd (not_both q p)
same_start_line Server line m u v m1 u1 v1 (inr p) (inr q) = same_status_line p q
