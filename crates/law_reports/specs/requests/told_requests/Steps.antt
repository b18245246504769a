-- What changes what the lines of a report tell of the requests of a control endpoint (EHCI 1.0, 4.10; USB 2.0, 8.5.3).
--     AddsToldLine ..            a line of the endpoint tells of the first of the windows that were left, or of all of them
--     NoneIsTold .. RefusalStays, laws of lines:
--     NoneIsTold                 where there is no line, all windows are left
--     LineIsTold                 a line more leaves one window less, or none
--     OtherLineIsTold            a line of another endpoint, and one that refuses a command, leave them
--     DoneIsTold, HaltIsTold     a driver adds such a line with the bytes that were moved
--     BehindAreTold              requests that are queued behind a stalled one have a line each, without bytes
--     StalledAreTold             .. all of them, at a stall
--     OthersStay, OthersBehindStay, RefusalStays      lines of others
--     WindowsHaveFront           the windows that were told of are the first ones, one for each line
--     WindowsGrow                those that weren't may change, and be more
use Rattle.std.specs.Prelude.{◌≡◌, ◌⊎◌, ℕ, suc, ◌≤◌, true, false, List, [], ◌∷◌, ◌++◌, length, take, drop, count_by}
use Rattle.usb_base.specs.declared.endpoints.EpName.{EpName}
use Rattle.usb_base.specs.declared.endpoints.EndCause.{EndCause}
use Rattle.usb_base.specs.declared.reports.OfferError.{OfferError}
use Rattle.usb_base.specs.declared.reports.Report.{Report}
use Rattle.usb_base.specs.declared.reports.What.{What}
use Rattle.usb_base.specs.declared.reports.What.TheVariants.{Done, Halt}
use Rattle.word_mem.specs.Memory.{Mem}
use Rattle.claims_base.specs.Prefix.{IsPrefix}
use Rattle.bus_wire.specs.Fates.{is_same_name}
use Rattle.claims_report.specs.Reports.{is_refusal, is_line_of}
use Rattle.claims_report.specs.Requests.{Request, Window, IsTold, left_by}
use Rattle.drv_table.specs.declared.content.Endpoint.{Endpoint}
use Rattle.drv_table.specs.declared.content.QtdNote.{QtdNote}
use Rattle.drv_table.specs.declared.content.Transfer.{Transfer}
use Rattle.drv_table.specs.DriverContent.{DriverContent, waits_for}
use Rattle.drv_table.specs.Harvests.{moved_bytes, reported}
use Rattle.drv_table.specs.Harvesting.{told_with, behind, stalled}
use Rattle.bus_world.specs.World.{refused_line}
use Rattle.law_queues.specs.told_endpoints.Telling.{lines_in}
use Rattle.law_reports.specs.requests.told_requests.Told.{has_cancel, AreToldTo, RequestsAreToldTo}

-- ---- one line more

pub record AddsToldLine (name : EpName) (whole : Request → List ℕ) (line : Report) (store bytes : List ℕ) (left : List Window) : Type 0 where
  pub own : is_line_of name line ≡ true
  pub from : line.from ≡ length store
  pub long : line.len ≡ length bytes
  pub is : IsTold whole line.what bytes left

abbrev pub NoneIsTold : Type 0
NoneIsTold = (reports : List Report) (store : List ℕ) (name : EpName) (whole : Request → List ℕ) (ws : List Window) → lines_in name reports ≡ [] → AreToldTo reports store name whole ws ws

abbrev pub LineIsTold : Type 0
LineIsTold = (reports : List Report) (store bytes : List ℕ) (name : EpName) (whole : Request → List ℕ) (ws left : List Window) (line : Report) → AddsToldLine name whole line store bytes left
    → AreToldTo reports store name whole ws left → AreToldTo (reports ++ line ∷ []) (store ++ bytes) name whole ws (left_by line.what left)

abbrev pub OtherLineIsTold : Type 0
OtherLineIsTold = (reports : List Report) (store bytes : List ℕ) (name : EpName) (whole : Request → List ℕ) (ws left : List Window) (line : Report) → is_line_of name line ≡ false
    → AreToldTo reports store name whole ws left → AreToldTo (reports ++ line ∷ []) (store ++ bytes) name whole ws left

-- ---- of a driver

-- it was acted on once, and its bytes are all its data
abbrev pub DoneIsTold : Type 0
DoneIsTold = (d : DriverContent) (m : Mem) (t : ℕ) (y : Transfer) (notes : List QtdNote) (name : EpName) (whole : Request → List ℕ) (ws rest : List Window) (w : Window)
    → w.acts ≡ w.request.setup ∷ [] → take y.most (moved_bytes notes m y.first y.qtds) ≡ whole w.request → RequestsAreToldTo d name whole ws (w ∷ rest)
    → RequestsAreToldTo (told_with d m t y Done name notes) name whole ws rest

abbrev pub HaltIsTold : Type 0
HaltIsTold = (d : DriverContent) (m : Mem) (t : ℕ) (y : Transfer) (cause : EndCause) (notes : List QtdNote) (name : EpName) (whole : Request → List ℕ) (ws rest : List Window) (w : Window)
    → IsPrefix (take y.most (moved_bytes notes m y.first y.qtds)) (whole w.request) → RequestsAreToldTo d name whole ws (w ∷ rest)
    → RequestsAreToldTo (told_with d m t y (Halt cause) name notes) name whole ws rest

-- of n transfers from number k on those that wait have windows
abbrev pub BehindAreTold : Type 0
BehindAreTold = (d : DriverContent) (e k n : ℕ) (name : EpName) (whole : Request → List ℕ) (ws left : List Window) → count_by (waits_for e) (take n (drop k d.transfers)) ≤ length left
    → RequestsAreToldTo d name whole ws left → RequestsAreToldTo (behind d e name k n) name whole ws (drop (count_by (waits_for e) (take n (drop k d.transfers))) left)

abbrev pub StalledAreTold : Type 0
StalledAreTold = (d : DriverContent) (e t : ℕ) (x : Endpoint) (whole : Request → List ℕ) (ws left : List Window) → count_by (waits_for e) (drop (suc t) d.transfers) ≤ length left
    → RequestsAreToldTo d x.desc.name whole ws left → RequestsAreToldTo (stalled d e t x) x.desc.name whole ws (drop (count_by (waits_for e) (drop (suc t) d.transfers)) left)

abbrev pub OthersStay : Type 0
OthersStay = (d : DriverContent) (what : What) (other name : EpName) (bytes : List ℕ) (whole : Request → List ℕ) (ws left : List Window)
    → (is_same_name other name ≡ false) ⊎ (is_refusal what ≡ true) → RequestsAreToldTo d name whole ws left → RequestsAreToldTo (reported d what other bytes) name whole ws left

abbrev pub OthersBehindStay : Type 0
OthersBehindStay = (d : DriverContent) (e k n : ℕ) (other name : EpName) (whole : Request → List ℕ) (ws left : List Window) → is_same_name other name ≡ false
    → RequestsAreToldTo d name whole ws left → RequestsAreToldTo (behind d e other k n) name whole ws left

abbrev pub RefusalStays : Type 0
RefusalStays = (d : DriverContent) (n : ℕ) (other name : EpName) (why : OfferError) (whole : Request → List ℕ) (ws left : List Window) → RequestsAreToldTo d name whole ws left
    → RequestsAreToldTo (refused_line d n other why) name whole ws left

-- ---- other windows

abbrev pub WindowsHaveFront : Type 0
WindowsHaveFront = (reports : List Report) (store : List ℕ) (name : EpName) (whole : Request → List ℕ) (ws left : List Window) → has_cancel (lines_in name reports) ≡ false
    → AreToldTo reports store name whole ws left → (front : List Window) × (ws ≡ front ++ left) × (length front ≡ length (lines_in name reports))

-- a request that is asked, or an act in a window that isn't told of, changes nothing of what was told
abbrev pub WindowsGrow : Type 0
WindowsGrow = (reports : List Report) (store : List ℕ) (name : EpName) (whole : Request → List ℕ) (front left later : List Window) → has_cancel (lines_in name reports) ≡ false
    → AreToldTo reports store name whole (front ++ left) left → AreToldTo reports store name whole (front ++ later) later
