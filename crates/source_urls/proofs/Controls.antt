-- The URI of a control can be in a request line.
use Rattle.std.proofs.Common.{◌≡◌, ℕ, ◌<◌, ◌≤◌, true, List, ◌∷◌, ◌++◌, Option, None, Some, length, take, sym, subst, codes, arith, length-append}
use Rattle.std.specs.Prelude.{nat_lt}
use Rattle.std.specs.Str.{bytes_eq}
use Rattle.std.proofs.lemmas.Bool.{cond_both, ltb-false, ltb-true}
use Rattle.std.proofs.lemmas.List.{length-take}
use Rattle.source_urls.specs.Control.{IsControlUri, base_fault, control_fault, control_uri, controlled, joined, text_fault, value_of}
use Rattle.source_urls.specs.Parts.{has_scheme}
use Rattle.source_urls.specs.UriText.{IsRequestUri, has_uri_bytes, is_long, is_slash_last, is_uri_byte, slash}
use Rattle.source_urls.proofs.Guards.{guard, guard_not, neither}
use Rattle.source_urls.proofs.OnlyParts.{same_length}
use Rattle.source_urls.proofs.Requests.{all_append}

pub record Stands (uri : List ℕ) : Type 0 where
  pub request : IsRequestUri uri
  pub short : length uri ≤ 4097

record Good (text : List ℕ) : Type 0 where
  short : length text ≤ 2048
  visible : has_uri_bytes text ≡ true

good_base : (base : List ℕ) → base_fault base ≡ None → (0 < length base) × Good base
good_base base h =
    let some = guard_not (nat_lt 0 (length base)) _ _ h in
    let short = guard (is_long base) _ _ some.1 in
    let visible = guard_not (has_uri_bytes base) _ _ short.1 in
    (ltb-true 0 (length base) some.0, record { short = ltb-false 2048 (length base) short.0; visible = visible.0 })

good_control : (control : List ℕ) → text_fault control ≡ None → Good control
good_control control h =
    let short = guard (is_long control) _ _ h in
    let visible = guard_not (has_uri_bytes control) _ _ short.1 in
    record { short = ltb-false 2048 (length control) short.0; visible = visible.0 }

stands_alone : (text : List ℕ) → 0 < length text → Good text → Stands text
stands_alone text some good = record {
  request = record { some = some; visible = good.visible };
  short = omega (arith, good.short);
}

absolute_some : (control : List ℕ) → has_scheme (codes "rtsp://") control ≡ true → 0 < length control
absolute_some control h = omega (arith, same_length (take 7 control) (codes "rtsp://") h, length-take 7 control)

joined_stands : (base control : List ℕ) → 0 < length base → Good base → Good control → Stands (joined base control)
joined_stands base control some b c =
    cond_both (is_slash_last base) (base ++ control) (base ++ slash ∷ control) Stands
    (λ _. record {
      request = record { some = simp length-append (omega arith); visible = all_append is_uri_byte base control b.visible c.visible };
      short = simp length-append (omega (arith, b.short, c.short));
    })
    (λ _. record {
      request = record { some = simp length-append (omega arith); visible = all_append is_uri_byte base (slash ∷ control) b.visible c.visible };
      short = simp length-append (omega (arith, b.short, c.short));
    })

controlled_stands : (base control : List ℕ) → 0 < length base → Good base → Good control → Stands (controlled base control)
unfolding controlled
controlled_stands base control some b c =
    cond_both (has_scheme (codes "rtsp://") control) control _ Stands
    (λ h. stands_alone control (absolute_some control h) c)
    (λ _. cond_both (bytes_eq control (codes "*")) base (joined base control) Stands (λ _. stands_alone base some b) (λ _. joined_stands base control some b c))

accepted_stands : (base : List ℕ) (control : Option (List ℕ)) → control_fault base control ≡ None → Stands (control_uri base control)
unfolding control_fault
accepted_stands base None h =
    let base_good = good_base base (neither (base_fault base) None h).0 in
    stands_alone base base_good.0 base_good.1
accepted_stands base (Some control) h =
    let each = neither (base_fault base) (text_fault control) h in
    let base_good = good_base base each.0 in
    controlled_stands base control base_good.0 base_good.1 (good_control control each.1)

pub stands : (base : List ℕ) (written : Option (List ℕ)) (uri : List ℕ) → IsControlUri base written uri → Stands uri
stands base written uri i = subst Stands (sym i.value) (accepted_stands base (value_of written) i.accepted)
