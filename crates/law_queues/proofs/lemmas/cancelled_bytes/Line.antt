-- The line of a cancelled endpoint behind its other lines.
use Rattle.std.proofs.Common.{◌≡◌, ℕ, ◌*◌, ◌&&◌, not, Bool, true, if◌then◌else◌, List, [], ◌∷◌, ◌++◌, length, Option, Some, None, ap, refl, sym, subst, ◌∙◌}
use Rattle.std.specs.List.{concat}
use Rattle.std.proofs.lemmas.Bool.{false≢true}
use Rattle.std.proofs.lemmas.List.{append-nil}
use Rattle.usb_base.specs.declared.endpoints.EpName.{EpName}
use Rattle.usb_base.specs.declared.endpoints.EndCause.{EndCause}
use Rattle.usb_base.specs.declared.reports.Report.{Report}
use Rattle.usb_base.specs.declared.reports.What.TheVariants as lines
use Rattle.word_mem.specs.Memory.{Mem}
use Rattle.law_structures.specs.lent_structures.Structures.{StructureSets}
use Rattle.law_ring.specs.Hand.{Hand}
use Rattle.report_text.specs.ReportText.{bytes_of}
use Rattle.claims_report.specs.Reports.{is_line_of}
use Rattle.claims_report.specs.Streams.{told_in, ends_once}
use Rattle.drv_table.specs.declared.content.Endpoint.{Endpoint}
use Rattle.drv_table.specs.DriverContent.{DriverContent}
use Rattle.drv_table.specs.Harvests.{reported as with_line}
use Rattle.drv_table.specs.Releases.{cancelled_bytes, ended_by_cancel, is_told, cancel_told}
use Rattle.law_driver.specs.chained_transfers.Out.{out_now}
use Rattle.law_queues.specs.told_endpoints.Telling.{named_of, lines_in, IsToldTo}
use Rattle.law_queues.proofs.lemmas.told_endpoints.Names.{name_is_same}
use Rattle.law_queues.proofs.lemmas.told_endpoints.Lines.{stored_filtered, told_more, told_then, once_then, line_of_it, bytes_stored}
use Rattle.law_controller.specs.controlled_streams.Reported.{IsReported}
use Rattle.law_queues.specs.cancelled_bytes.Cancelled.{CanBeTold, IsSaid}
use Rattle.law_queues.proofs.lemmas.cancelled_bytes.Cancelling.{cancel_tells_all}
use Rattle.law_driver.proofs.lemmas.endpoint_lives.Lives.{told_gone}

-- an endpoint that goes on has no such line
goes_untold : (o : Option EndCause) (cancelled gone : Bool) → o ≡ None → (ended_by_cancel o && cancelled && not gone) ≡ true → ⊥
goes_untold None cancelled gone goes told = false≢true told
goes_untold (Some cause) cancelled gone goes told = absurd cc

module _ (d : DriverContent) (name : EpName) (bytes held reported : List ℕ) (s : IsSaid d.reports d.store name held reported) where
  abbrev new : DriverContent
  new = with_line d lines.Cancel name bytes

  abbrev line : Report
  line = record { name = name; what = lines.Cancel; from = length d.store; len = length bytes }

  lines_now : lines_in name new.reports ≡ lines_in name d.reports ++ line ∷ []
  lines_now = line_of_it name d.reports line (ap (λ (b : Bool). b && true) (name_is_same name))

  pub bytes_then : told_in new.store (lines_in name new.reports) ≡ told_in d.store (lines_in name d.reports) ++ bytes
  bytes_then =
      ap (told_in new.store) lines_now ∙ told_then (lines_in name d.reports) line new.store s.going
      ∙ ap (λ (xs : List ℕ). xs ++ bytes_of line new.store) (told_more (lines_in name d.reports) d.store bytes (stored_filtered (is_line_of name) d.reports (length d.store) s.stored))
      ∙ ap (λ (xs : List ℕ). told_in d.store (lines_in name d.reports) ++ xs) (bytes_stored d.store bytes)

  pub ends_then : ends_once (lines_in name new.reports) ≡ true
  ends_then = ap ends_once lines_now ∙ once_then (lines_in name d.reports) line s.going

pub cancel_line_tells : (order : ℕ → ℕ) (d : DriverContent) (m : Mem) (parts : StructureSets) (hand : Hand) (e : ℕ) (x : Endpoint) (acc : List (List ℕ)) (held reported : List ℕ) → is_told x ≡ true
    → CanBeTold d m parts hand e x held → IsSaid d.reports d.store x.desc.name held reported → IsReported order (out_now d e) hand parts (32 * x.queue) acc reported
    → IsToldTo (cancel_told d m e x).reports (cancel_told d m e x).store (named_of (record x { gone = true })) [] (concat acc)
cancel_line_tells order d m parts hand e x acc held reported tells k s r =
    let bytes : List ℕ = cancelled_bytes d.notes m e x.queue d.transfers in
    subst (λ (b : Bool). IsToldTo (if b then with_line d lines.Cancel x.desc.name bytes else d).reports (if b then with_line d lines.Cancel x.desc.name bytes else d).store (named_of (record x { gone = true })) [] (concat acc)) (sym tells)
    (record {
      sum = append-nil (told_in (d.store ++ bytes) (lines_in x.desc.name (with_line d lines.Cancel x.desc.name bytes).reports)) ∙ bytes_then d x.desc.name bytes held reported s
          ∙ cancel_tells_all order d m parts hand e x acc (told_in d.store (lines_in x.desc.name d.reports)) held reported k s.sum r;
      going = λ goes. absurd (goes_untold x.ended x.cancelled x.gone (sym (told_gone (record x { gone = true }) refl) ∙ goes) tells);
      over = λ cause ended. (refl, ends_then d x.desc.name bytes held reported s);
    })
