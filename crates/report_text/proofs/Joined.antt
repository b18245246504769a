-- Lines as they are put together.
use Rattle.std.proofs.Common.{◌≡◌, ℕ, Bool, List, [], ◌∷◌, ◌++◌, append_assoc, ap, ◌∙◌}
use Rattle.std.specs.Prelude.{codes}
use Rattle.std.specs.Fmt.{decimal}
use Rattle.usb_base.specs.declared.endpoints.EpName.{EpName}
use Rattle.usb_base.specs.declared.reports.What.TheVariants.{Iso, Port, Disk}
use Rattle.report_text.specs.ReportText.{line_text, ep_word, size_word, hex_word, value_bytes, passed_word, told}

abbrev iso_front : EpName → List ℕ → List ℕ
iso_front name bytes = codes "iso" ++ (32 ∷ (ep_word name ++ (32 ∷ (size_word bytes ++ (32 ∷ [])))))

abbrev iso_back : ℕ → List ℕ
iso_back errors = codes " errors " ++ (decimal errors ++ 10 ∷ [])

told_iso : (errors : ℕ) (name : EpName) (bytes : List ℕ) → iso_front name bytes ++ (hex_word bytes ++ iso_back errors) ≡ line_text (told (Iso errors) name bytes)
told_iso errors name bytes = simp append_assoc

pub told_iso_of : (f k : List ℕ) (errors : ℕ) (name : EpName) (bytes : List ℕ) → f ≡ iso_front name bytes → k ≡ iso_back errors → f ++ (hex_word bytes ++ k) ≡ line_text (told (Iso errors) name bytes)
told_iso_of f k errors name bytes e h =
    ap (λ x. x ++ (hex_word bytes ++ k)) e ∙ ap (λ x. iso_front name bytes ++ (hex_word bytes ++ x)) h ∙ told_iso errors name bytes

abbrev port_front : ℕ → List ℕ
port_front port = codes "port " ++ (decimal port ++ (32 ∷ []))

told_port : (port value : ℕ) (name : EpName) (bytes : List ℕ) → port_front port ++ (hex_word (value_bytes value) ++ 10 ∷ []) ≡ line_text (told (Port port value) name bytes)
told_port port value name bytes = simp append_assoc

pub told_port_of : (f v : List ℕ) (port value : ℕ) (name : EpName) (bytes : List ℕ) → f ≡ port_front port → v ≡ value_bytes value → f ++ (hex_word v ++ 10 ∷ []) ≡ line_text (told (Port port value) name bytes)
told_port_of f v port value name bytes e h =
    ap (λ x. x ++ (hex_word v ++ 10 ∷ [])) e ∙ ap (λ x. port_front port ++ (hex_word x ++ 10 ∷ [])) h ∙ told_port port value name bytes

abbrev disk_front : EpName → ℕ → Bool → List ℕ → List ℕ
disk_front name tag passed bytes = codes "disk " ++ (decimal name.addr ++ (32 ∷ (decimal tag ++ (32 ∷ (passed_word passed ++ (32 ∷ (size_word bytes ++ (32 ∷ []))))))))

told_disk : (tag : ℕ) (passed : Bool) (name : EpName) (bytes : List ℕ) → disk_front name tag passed bytes ++ (hex_word bytes ++ 10 ∷ []) ≡ line_text (told (Disk tag passed) name bytes)
told_disk tag passed name bytes = simp append_assoc

pub told_disk_of : (f : List ℕ) (tag : ℕ) (passed : Bool) (name : EpName) (bytes : List ℕ) → f ≡ disk_front name tag passed bytes → f ++ (hex_word bytes ++ 10 ∷ []) ≡ line_text (told (Disk tag passed) name bytes)
told_disk_of f tag passed name bytes e = ap (λ x. x ++ (hex_word bytes ++ 10 ∷ [])) e ∙ told_disk tag passed name bytes
