use Rattle.std.proofs.Common.{◌≡◌, ◌++◌, Some, ap, refl, subst, sym, take, ◌∙◌}
use Rattle.std.specs.Prelude.{codes}
use Rattle.plist_base.specs.Date.{date_of_bytes}
use Rattle.plist_base.specs.Events.{ScalarEvent}
use Rattle.plist_base.specs.Packing.{IsPackable, content_bytes, kind_of_tag, scalar_of_kind}
use Rattle.plist_base.specs.declared.packed_scalar.PackedKind.TheVariants as kind
use Rattle.plist_print.specs.EscapedLines.{hexadecimal, line_of, text_of_date}
use Rattle.plist_print.proofs.lines.push_packed.Goals as goal

pub returns-in-ShortReal : goal.returns-in-ShortReal
returns-in-ShortReal c =
    let content = c.args.scalar.content in
    let before = c.args.line.now in
    let found : kind_of_tag c.args.scalar.tag ≡ kind.ShortReal = sym c.kind.ensures ∙ c.in-ShortReal.is in
    let bytes : c.to_be_bytes-bytes.result ≡ content_bytes content
    = c.to_be_bytes-bytes.ensures ∙ ap content_bytes c.content-content.ensures in
    let four : c.copy_from_slice.new.self ≡ take 4 (content_bytes content)
    = rw (c.copy_from_slice.ensures.after, bytes) refl in
    c.push_real-in-ShortReal.ensures
    ∙ ap (λ l. before ++ (codes "Real " ++ hexadecimal l ++ codes "\n")) four
    ∙ ap (λ k. before ++ line_of (ScalarEvent (scalar_of_kind k content))) (sym found)

pub returns-in-Ok : goal.returns-in-Ok
returns-in-Ok c =
    let content = c.args.scalar.content in
    let before = c.args.line.now in
    let found : kind_of_tag c.args.scalar.tag ≡ kind.Date = sym c.kind.ensures ∙ c.in-Date.is in
    let valid : date_of_bytes (content_bytes content) ≡ Some (content_bytes content)
    = subst (λ k. IsPackable (scalar_of_kind k content)) found c.args.scalar.packed.packable in
    let bytes : c.to_be_bytes-bytes.result ≡ content_bytes content
    = c.to_be_bytes-bytes.ensures ∙ ap content_bytes c.content-content.ensures in
    let read : Some c.in-Ok.date ≡ Some (content_bytes content)
    = sym c.in-Ok.ensures.date ∙ ap date_of_bytes bytes ∙ valid in
    let date : c.in-Ok.date ≡ content_bytes content = cc in
    c.push_date_line.ensures
    ∙ ap (λ l. before ++ (codes "Date " ++ text_of_date l ++ codes "\n")) date
    ∙ ap (λ k. before ++ line_of (ScalarEvent (scalar_of_kind k content))) (sym found)
