-- What was taken in epochs, as text: mark after mark.
use Rattle.std.proofs.Common.{◌≡◌, ℕ, ◌+◌, ◌≤◌, ◌<◌, List, ◌∷◌, ◌++◌, length, drop, get_or, inl, inr, refl, ap, sym, ◌∙◌}
use Rattle.std.proofs.lemmas.Bool.{cases_Bool}
use Rattle.std.proofs.lemmas.List.{drop_all, append-nil}
use Rattle.std.specs.List.{flat_map}
use Rattle.usb_base.specs.declared.endpoints.EpName.{EpName}
use Rattle.drv_table.specs.DriverContent.{is_same_name}
use Rattle.report_text.specs.ReportText.{taken_line}
use Rattle.bus_world.specs.declared.marks.Mark.{Mark}
use Rattle.bus_world.specs.ClosingAtWork.{ends_of, epochs_of, mark_text, mark_end}
use Rattle.bus_world.proofs.Rooming.{drop_next}

-- the lines of what was taken from a place on
abbrev pub epoch_text : List Mark → EpName → List ℕ → ℕ → List ℕ
epoch_text marks name taken from = flat_map (taken_line name) (epochs_of (ends_of marks name) taken from)

pub one_mark : (m : Mark) (marks : List Mark) (name : EpName) (taken : List ℕ) (from : ℕ)
    → epoch_text (m ∷ marks) name taken from ≡ mark_text m name taken from ++ epoch_text marks name taken (mark_end m name from)
unfolding epochs_of
one_mark m marks name taken from = elim (cases_Bool (is_same_name m.name name)) [
  | inl t ↦ rw t refl
  | inr f ↦ rw f refl
]

-- the next mark, and those behind it
pub mark_at : (marks : List Mark) (i : ℕ) (m : Mark) (name : EpName) (taken : List ℕ) (from : ℕ) → i < length marks → m ≡ get_or marks i m
    → epoch_text (drop i marks) name taken from
    ≡ mark_text m name taken from ++ epoch_text (drop (i + 1) marks) name taken (mark_end m name from)
mark_at marks i m name taken from h e =
    ap (λ ms. epoch_text ms name taken from) (drop_next marks i m h ∙ ap (λ x. x ∷ drop (i + 1) marks) (sym e))
    ∙ one_mark m (drop (i + 1) marks) name taken from

pub last_epoch : (marks : List Mark) (i : ℕ) (name : EpName) (taken behind : List ℕ) (from : ℕ) → length marks ≤ i → behind ≡ drop from taken
    → epoch_text (drop i marks) name taken from ≡ taken_line name behind
unfolding epochs_of
last_epoch marks i name taken behind from all e =
    ap (λ ms. epoch_text ms name taken from) (drop_all i marks all)
    ∙ append-nil (taken_line name (drop from taken))
    ∙ ap (taken_line name) (sym e)
