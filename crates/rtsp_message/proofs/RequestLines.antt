-- A request line is cut into its parts in one way only.
use Rattle.std.proofs.Common.{◌≡◌, ℕ, List, ◌++◌, refl, sym, ◌∙◌}
use Rattle.rtsp_message.specs.declared.byte_class.ByteClass.TheVariants.{Token, Visible, Space, Blank}
use Rattle.rtsp_message.specs.Lines.{IsRequestLine, IsFrontRun}
use Rattle.rtsp_message.proofs.Runs.{outside, Each-outside, cut_same, space_in_no_token, space_not_visible, visible_no_space, blank_not_visible}

module _ {line method uri version : List ℕ} (q : IsRequestLine line method uri version) where
  -- what follows the version, the second gap, the URI, the first gap and the method
  abbrev pub after_second_gap : List ℕ
  after_second_gap = version ++ q.tail

  abbrev pub after_uri : List ℕ
  after_uri = q.second_gap ++ after_second_gap

  abbrev pub after_first_gap : List ℕ
  after_first_gap = uri ++ after_uri

  abbrev pub after_method : List ℕ
  after_method = q.first_gap ++ after_first_gap

  pub method_cut : IsFrontRun Token line method after_method
  method_cut = record { whole = q.whole; run_bytes = q.method_bytes; stops = outside Space Token space_in_no_token q.first_gap after_first_gap q.first_spaces }

  pub first_gap_cut : IsFrontRun Space after_method q.first_gap after_first_gap
  first_gap_cut = record { whole = refl; run_bytes = q.first_spaces; stops = outside Visible Space visible_no_space uri after_uri q.uri_bytes }

  pub uri_cut : IsFrontRun Visible after_first_gap uri after_uri
  uri_cut = record { whole = refl; run_bytes = q.uri_bytes; stops = outside Space Visible space_not_visible q.second_gap after_second_gap q.second_spaces }

  pub second_gap_cut : IsFrontRun Space after_uri q.second_gap after_second_gap
  second_gap_cut = record { whole = refl; run_bytes = q.second_spaces; stops = outside Visible Space visible_no_space version q.tail q.version_bytes }

  pub version_cut : IsFrontRun Visible after_second_gap version q.tail
  version_cut = record { whole = refl; run_bytes = q.version_bytes; stops = Each-outside Blank Visible blank_not_visible q.tail q.tail_blank }

-- two cuts of the same bytes are the same
pub same_cut : {class : _} {bytes bytes' a b c d : List ℕ} → bytes ≡ bytes' → IsFrontRun class bytes a b → IsFrontRun class bytes' c d → (a ≡ c) × (b ≡ d)
same_cut e p q = let s = cut_same q _ _ p.run_bytes p.stops (sym e ∙ p.whole) in s

-- a line is a request line of one method, URI and version
pub same_request_line : {line m u v m' u' v' : List ℕ} → IsRequestLine line m u v → IsRequestLine line m' u' v' → (m ≡ m') × (u ≡ u') × (v ≡ v')
same_request_line p q =
    let method = same_cut refl (method_cut p) (method_cut q) in
    let first = same_cut method.1 (first_gap_cut p) (first_gap_cut q) in
    let uri = same_cut first.1 (uri_cut p) (uri_cut q) in
    let second = same_cut uri.1 (second_gap_cut p) (second_gap_cut q) in
    let version = same_cut second.1 (version_cut p) (version_cut q) in
    (method.0, uri.0, version.0)
