-- The place of a new periodic endpoint.
--     chained_part h p queue      the periodic part once the queue head in this block begins to be linked
--     withdrawn h e               .. once the placement of endpoint e is out of the plan
--     placed_part h e x place     .. once endpoint e, so described, has this place
--     IsChained ..                the runs of an interrupt endpoint were taken and written
--     opened_placed d x place k q    what an accepted open leaves, with the book k and the periodic content q afterwards
--     opened_with x place k h m d    the answer of the driver d that accepts the open so
--     AnswersOpen k h m e x f            a driver d with this book and this part, whose next endpoint has number e, answers the open of x by f d
use Rattle.std.specs.Prelude.{◌≡◌, ℕ, ◌-◌, Bool, [], ◌∷◌, ◌++◌, length, drop, slice_index, Some, Result, Ok, if◌then◌else◌}
use Rattle.usb_base.specs.declared.endpoints.EpDesc.{EpDesc}
use Rattle.word_mem.specs.Memory.{Mem}
use Rattle.mem_runs.specs.Book.{Book, holding}
use Rattle.bandwidth.specs.declared.placements.Placement.{Placement}
use Rattle.bandwidth.specs.Admission.{answer, without}
use Rattle.drv_periodic_table.specs.Periodic.{PeriodicContent, want_of, queue_member}
use Rattle.drv_periodic_table.specs.Linking.{linking}
use Rattle.drv_frames_content.specs.Part.{Held, with_list, with_place, with_periodic}
use Rattle.drv_table.specs.declared.content.Command.TheVariants as unfinished
use Rattle.drv_table.specs.DriverContent.{DriverContent}
use Rattle.drv_table.specs.Kinds.{is_iso}
use Rattle.usb_base.specs.declared.reports.OfferError.{OfferError}
use Rattle.drv_table.specs.Accepting.{Offered, take_runs}
use Rattle.drv_table.specs.Offers.{placed_endpoint, written_chain, planned_open}
use Rattle.drv_frames.specs.declared.placing.NewPlace.{NewPlace}

abbrev pub chained_part : Held → Placement → ℕ → Held
chained_part h p queue = with_list h (linking h.periodic.list (queue_member queue p))

abbrev pub withdrawn : Held → ℕ → Held
withdrawn h e = with_periodic h (record h.periodic { plan = without h.periodic.plan e })

abbrev pub placed_part : Held → ℕ → EpDesc → NewPlace → Held
placed_part h e x place =
    if is_iso x.kind then with_place h e x place.placement
    else chained_part (with_place h e x place.placement) place.placement place.queue

pub record IsChained (old : Book) (m : Mem) (x : EpDesc) (p : Placement) (place : NewPlace) (link : ℕ) (new : Book) (n : Mem) : Type 0 where
  pub taken : Mem
  pub runs : take_runs (holding old m) (2 ∷ 1 ∷ []) ≡ Ok (holding new taken)
  pub queue : slice_index (drop (length old.taken) new.taken) 0 ≡ place.queue
  pub dummy : slice_index (drop (length old.taken) new.taken) 1 ≡ place.dummy
  pub placement : place.placement ≡ p
  pub written : n ≡ written_chain new taken x p link place.queue place.dummy

-- a queue head is linked by a command, and an isochronous endpoint has none
abbrev pub started : Bool → DriverContent → DriverContent
started iso d = if iso then d else record d { command = Some unfinished.Chain; made = 0 }

abbrev pub opened_placed : DriverContent → EpDesc → NewPlace → Book → PeriodicContent → DriverContent
opened_placed d x place k q =
    started (is_iso x.kind)
    (record d {
      book = k;
      endpoints = d.endpoints ++ placed_endpoint x place.placement place.queue place.dummy ∷ [];
      room = record d.room { endpoints = d.room.endpoints - 1 };
      periodic = q;
    })

abbrev pub opened_with : EpDesc → NewPlace → Book → Held → Mem → DriverContent → Result Offered OfferError
opened_with x place k h m d = Ok (record { driver = opened_placed d x place k h.periodic; memory = m })

abbrev pub AnswersOpen : Book → Held → Mem → ℕ → EpDesc → (DriverContent → Result Offered OfferError) → Type 0
AnswersOpen k h m e x f =
    (d : DriverContent) → d.book ≡ k → d.periodic ≡ h.periodic → length d.endpoints ≡ e
    → planned_open d m x (answer d.periodic.plan (want_of (length d.endpoints) x)) ≡ f d
