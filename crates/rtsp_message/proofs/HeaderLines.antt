-- A header line is cut into its name and value in one way only.
use Rattle.std.proofs.Common.{◌≡◌, ℕ, List, ◌∷◌, refl, sym, ap, ◌∙◌}
use Rattle.rtsp_message.specs.declared.headers.Header.{Header}
use Rattle.rtsp_message.specs.declared.byte_class.ByteClass.TheVariants.{Token}
use Rattle.base_syntax.specs.Blanks.{trimmed}
use Rattle.base_syntax.proofs.Lists.{same_tail}
use Rattle.base_syntax.proofs.Trims.{only_core}
use Rattle.rtsp_message.specs.Lines.{IsHeaderLine, IsFrontRun}
use Rattle.rtsp_message.proofs.RequestLines.{same_cut}

pub name_cut : {line : List ℕ} {header : Header} (q : IsHeaderLine line header) → IsFrontRun Token line header.name (58 ∷ q.text)
name_cut q = record { whole = q.whole; run_bytes = q.name_bytes; stops = refl }

pub same_header_line : {line : List ℕ} {header other : Header} → IsHeaderLine line header → IsHeaderLine line other → header ≡ other
same_header_line {line} {header} {other} p q =
    let cut = same_cut refl (name_cut p) (name_cut q) in
    let texts : p.text ≡ q.text = same_tail cut.1 in
    let values : header.value ≡ other.value = only_core p.text header.value p.value ∙ ap trimmed texts ∙ sym (only_core q.text other.value q.value) in
    let with_name : List ℕ → Header = λ n. record { name = n; value = header.value } in
    let with_value : List ℕ → Header = λ v. record { name = other.name; value = v } in
    ap with_name cut.0 ∙ ap with_value values
