use Rattle.std.proofs.Common.{◌≡◌, [], ◌∷◌, ◌++◌, ◌∙◌, ap, sym}
use Rattle.usb_base.proofs.Known.{prints_same}
use Rattle.report_text.specs.ReportText.{line_text, told, hex_word}
use Rattle.report_text.proofs.Joined.{told_iso_of, told_port_of, told_disk_of}
use Rattle.report_text.proofs.report.print_told.Goals as goal

pub returns-in-Iso : goal.returns-in-Iso
returns-in-Iso g c =
    let e : c.as_bytes-in-Iso.result.now ++ (hex_word c.args.bytes.now ++ c.as_bytes-in-Iso-2.result.now) ≡ line_text (told c.args.what c.args.name.now c.args.bytes.now) =
    told_iso_of _ _ c.in-Iso.errors c.args.name.now c.args.bytes.now (c.as_bytes-in-Iso.ensures ∙ c.front-in-Iso.ensures) (c.as_bytes-in-Iso-2.ensures ∙ c.errors_text.ensures)
    ∙ ap (λ w. line_text (told w c.args.name.now c.args.bytes.now)) (sym c.in-Iso.is) in
    prints_same _ _ _ _ _ _ _ e c.print_line-in-Iso.ensures

pub returns-in-Refused : goal.returns-in-Refused
returns-in-Refused g c =
    let e : c.as_bytes-in-Refused.result.now ≡ line_text (told c.args.what c.args.name.now c.args.bytes.now) =
    c.as_bytes-in-Refused.ensures ∙ c.refused_text.ensures c.args.name.now c.args.bytes.now ∙ ap (λ w. line_text (told w c.args.name.now c.args.bytes.now)) (sym c.in-Refused.is) in
    prints_same _ _ _ _ _ _ _ e c.write_all.ensures

pub returns-in-Port : goal.returns-in-Port
returns-in-Port g c =
    let e : c.as_bytes-in-Port.result.now ++ (hex_word c.value_bytes.result ++ 10 ∷ []) ≡ line_text (told c.args.what c.args.name.now c.args.bytes.now) =
    told_port_of _ _ c.in-Port.port c.in-Port.value c.args.name.now c.args.bytes.now (c.as_bytes-in-Port.ensures ∙ c.port_text.ensures) c.value_bytes.ensures
    ∙ ap (λ w. line_text (told w c.args.name.now c.args.bytes.now)) (sym c.in-Port.is) in
    prints_same _ _ _ _ _ _ _ e c.print_line-in-Port.ensures

pub returns-in-Disk : goal.returns-in-Disk
returns-in-Disk g c =
    let e : c.as_bytes-in-Disk.result.now ++ (hex_word c.args.bytes.now ++ 10 ∷ []) ≡ line_text (told c.args.what c.args.name.now c.args.bytes.now) =
    told_disk_of _ c.in-Disk.tag c.in-Disk.passed c.args.name.now c.args.bytes.now (c.as_bytes-in-Disk.ensures ∙ c.disk_text.ensures)
    ∙ ap (λ w. line_text (told w c.args.name.now c.args.bytes.now)) (sym c.in-Disk.is) in
    prints_same _ _ _ _ _ _ _ e c.print_line-in-Disk.ensures
