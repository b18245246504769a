-- What an accepted command makes of the queues of a driver, whatever kinds of endpoints it has (EHCI 1.0, 4.6 to 4.8 and 4.10; USB 2.0, 5.5 to 5.8). The driver whose
-- content is told of the queues alone accepts it too and stands alike: an open of an endpoint with a queue as an open in the ring, gets, puts and requests as they are,
-- and a cancel of an endpoint with a queue as one in the ring. Isochronous endpoints come and go as ones that were given back.
--     QueuesAlike c d          the drivers have the same content, but for what they have of frames alone
--     opened_queue d x h       an endpoint with a queue is opened in the ring, once its runs were taken
--     IsQueueOpened d m x o    an endpoint with a queue was opened: in memory its queue head has its own first words, and the link of where it is linked
--     IsQueueAsked d m o cmd, IsQueueRequested d m o cmd      a get or put, or a request, was taken on
--     IsEndOpened d m x o      an isochronous endpoint was opened
--     IsGivenBackOf d e y      a transfer of the isochronous endpoint e that was given back
--     AreEndsTaken d m o       descriptors were taken on
--     unlink_of d e            how an endpoint leaves the ring
--     IsQueueLeft d m name o   an endpoint with a queue was cancelled: it is to be unlinked from the ring, or from its frames
--     IsEndLeft d m o          an isochronous endpoint was cancelled
--     QueuesAccept d m o cmd   what the accepted command comes to
--     OpensFitting cmd         what is opened, if anything, has the way of its kind
--     IsTransferOfQueues d m o w      an accepted transfer is one of the queues, in which the same is asked
--     CommandsAreOfQueues, OpensAreOfQueues, ChainsAreOfQueues, TransfersAreOfQueues, CommandsKeepQueues      the laws
use Rattle.std.specs.Prelude.{◌≡◌, ℕ, ◌*◌, true, false, ◌⊎◌, List, [], ◌∷◌, ◌++◌, map, slice_get, slice_index, Option, Some, None, Ok}
use Rattle.std.specs.List.{AllByRecursion}
use Rattle.usb_base.specs.declared.commands.Cmd.{Cmd}
use Rattle.usb_base.specs.declared.commands.Cmd.TheVariants as commands
use Rattle.usb_base.specs.declared.endpoints.EpDesc.{EpDesc}
use Rattle.usb_base.specs.declared.endpoints.EpName.{EpName}
use Rattle.word_mem.specs.Memory.{Mem}
use Rattle.mem_runs.specs.Book.{Holding, holding, Stands, store_words}
use Rattle.qh_qtd.specs.Blank.{blank_token, blank_head}
use Rattle.qh_qtd.specs.declared.queue_head.Qh.{Qh}
use Rattle.qh_qtd.specs.QueueHead.{qh_words}
use Rattle.qh_qtd.specs.Qtd.{qtd_words}
use Rattle.bandwidth.specs.declared.placements.Placement.{Placement}
use Rattle.drv_periodic_table.specs.Periodic.{is_periodic}
use Rattle.drv_table.specs.declared.content.Endpoint.{Endpoint}
use Rattle.drv_table.specs.declared.content.Transfer.{Transfer}
use Rattle.drv_table.specs.declared.content.Command.{Command}
use Rattle.drv_table.specs.declared.content.Command.TheVariants as unfinished
use Rattle.drv_table.specs.DriverContent.{DriverContent}
use Rattle.drv_table.specs.Words.{to_qtd, queue_head_link, dummy_qtd}
use Rattle.drv_table.specs.Kinds.{is_iso}
use Rattle.drv_table.specs.Accepting.{Offered, take_runs, new_runs, before, after}
use Rattle.drv_table.specs.Offers.{offered, accepted_open, placed_endpoint}
use Rattle.drv_table.specs.CancelOffers.{accepted_cancel}
use Rattle.claims_driver.specs.Leaving.{IsOrderly, HasOwners}
use Rattle.law_driver.specs.run_owners.Accepts.{Opens, Chains, Transfers, Cancels}
use Rattle.law_driver.specs.chained_transfers.Accepted.{IsAsked}
use Rattle.law_driver.specs.chained_transfers.Asynchronous.{IsRequested}
use Rattle.law_driver.specs.queued_drivers.Queued.{queued_desc, queued_endpoint, without_queue, sort_of_queue, queued, FitsKind, QueuesTakeTurns}

abbrev pub QueuesAlike : DriverContent → DriverContent → Type 0
QueuesAlike c d = c ≡ record d { periodic = c.periodic }

-- ---- opens

abbrev pub opened_queue : DriverContent → EpDesc → Holding → Offered
opened_queue d x h = accepted_open (queued d) (queued_desc x) h (slice_index (new_runs d h) 0) (slice_index (new_runs d h) 1)

pub record IsQueueOpened (d : DriverContent) (m : Mem) (x : EpDesc) (o : Offered) : Type 0 where
  pub holding_after : Holding
  pub runs : take_runs (holding d.book m) (2 ∷ 1 ∷ []) ≡ Ok holding_after
  pub takes : offered (queued d) m (commands.OpenEp (queued_desc x)) ≡ Ok (opened_queue d x holding_after)
  pub opens : Opens (queued d) m (opened_queue d x holding_after)
  pub desc : opens.desc ≡ queued_desc x
  pub alike : QueuesAlike (queued o.driver) (opened_queue d x holding_after).driver
  -- its queue is empty, as that of an endpoint in the ring would be (3.6.3)
  pub head : Qh
  pub next : head.next ≡ to_qtd (slice_index (new_runs d holding_after) 1)
  pub alternate : head.alternate ≡ blank_head.alternate
  pub token : head.token ≡ blank_token
  pub memory : o.memory
      ≡ store_words holding_after.book
      (store_words holding_after.book holding_after.memory (slice_index (new_runs d holding_after) 0) (32 * slice_index (new_runs d holding_after) 0) (qh_words head))
      (slice_index (new_runs d holding_after) 1) (32 * slice_index (new_runs d holding_after) 1) (qtd_words dummy_qtd)

pub record IsEndOpened (d : DriverContent) (m : Mem) (x : EpDesc) (o : Offered) : Type 0 where
  pub placement : Placement
  pub isochronous : is_iso x.kind ≡ true
  pub alike : QueuesAlike (queued o.driver)
      (record (queued d) { endpoints = map queued_endpoint d.endpoints ++ without_queue (placed_endpoint x placement 0 0) ∷ []; room = o.driver.room })
  pub memory : o.memory ≡ m

-- ---- gets, puts and requests

abbrev pub told_of : Offered → Offered
told_of o = record o { driver = queued o.driver }

pub record IsQueueAsked (d : DriverContent) (m : Mem) (o : Offered) (cmd : Cmd) : Type 0 where
  pub takes : offered (queued d) m cmd ≡ Ok (told_of o)
  pub asked : IsAsked (queued d) m (told_of o)

pub record IsQueueRequested (d : DriverContent) (m : Mem) (o : Offered) (cmd : Cmd) : Type 0 where
  pub takes : offered (queued d) m cmd ≡ Ok (told_of o)
  pub requested : IsRequested (queued d) m (told_of o)

pub record IsTransferOfQueues (d : DriverContent) (m : Mem) (o : Offered) (w : Transfers d m o) : Type 0 where
  pub transfers : Transfers (queued d) m (told_of o)
  pub number : transfers.number ≡ w.number
  pub endpoint : transfers.endpoint ≡ queued_endpoint w.endpoint
  pub asked : transfers.asked ≡ w.asked
  pub holding_after : transfers.holding_after ≡ w.holding_after

-- ---- descriptors

pub record IsGivenBackOf (d : DriverContent) (e : ℕ) (y : Transfer) : Type 0 where
  pub endpoint : y.endpoint ≡ e
  pub sort : y.sort ≡ sort_of_queue (slice_get d.endpoints e)
  pub reported : y.reported ≡ true
  pub released : y.released ≡ true

pub record AreEndsTaken (d : DriverContent) (m : Mem) (o : Offered) : Type 0 where
  pub number : ℕ
  pub endpoint : Endpoint
  pub here : slice_get d.endpoints number ≡ Some endpoint
  pub isochronous : is_iso endpoint.desc.kind ≡ true
  pub given : List Transfer
  pub each : AllByRecursion (IsGivenBackOf d number) given
  pub alike : QueuesAlike (queued o.driver)
      (record (queued d) { book = o.driver.book; transfers = (queued d).transfers ++ given; made = 0; room = o.driver.room })

-- ---- cancels

abbrev pub unlink_of : DriverContent → ℕ → Command
unlink_of d e = unfinished.Unlink e (before d e) (queue_head_link (after d e))

abbrev pub left_queue : DriverContent → ℕ → Endpoint → Mem → Offered
left_queue d e x m = record { driver = accepted_cancel (queued d) e (queued_endpoint x); memory = m }

-- An endpoint in the ring leaves it by the link of the one before it there, and no endpoint of the frames is that. One in frames isn't unlinked from the ring.
pub record IsQueueLeft (d : DriverContent) (m : Mem) (name : EpName) (o : Offered) : Type 0 where
  pub number : ℕ
  pub endpoint : Endpoint
  pub here : slice_get d.endpoints number ≡ Some endpoint
  pub fresh : endpoint.cancelled ≡ false
  pub queue : is_iso endpoint.desc.kind ≡ false
  pub takes : offered (queued d) m (commands.Cancel name) ≡ Ok (left_queue d number endpoint m)
  pub cancels : Cancels (queued d) m (left_queue d number endpoint m)
  pub of_number : cancels.number ≡ number
  pub unlinks : Option Command
  pub command : ((is_periodic endpoint.desc.kind ≡ false) × (unlinks ≡ Some (unlink_of d number))) ⊎ ((is_periodic endpoint.desc.kind ≡ true) × (unlinks ≡ None))
  pub alike : QueuesAlike (queued o.driver) (record (left_queue d number endpoint m).driver { command = unlinks })
  pub memory : o.memory ≡ m

pub record IsEndLeft (d : DriverContent) (m : Mem) (o : Offered) : Type 0 where
  pub alike : QueuesAlike (queued o.driver) (record (queued d) { made = 0; room = o.driver.room })
  pub memory : o.memory ≡ m

-- ---- any command

abbrev pub QueuesAccept : DriverContent → Mem → Offered → Cmd → Type 0
QueuesAccept d m o (commands.OpenEp x) = IsQueueOpened d m x o ⊎ IsEndOpened d m x o
QueuesAccept d m o (commands.Get name len by) = IsQueueAsked d m o (commands.Get name len by)
QueuesAccept d m o (commands.Put name bytes by) = IsQueueAsked d m o (commands.Put name bytes by)
QueuesAccept d m o (commands.Control name setup bytes) = IsQueueRequested d m o (commands.Control name setup bytes)
QueuesAccept d m o (commands.Iso name count len seed) = AreEndsTaken d m o
QueuesAccept d m o (commands.Cancel name) = IsQueueLeft d m name o ⊎ IsEndLeft d m o
QueuesAccept d m o _ = ⊥

abbrev pub OpensFitting : Cmd → Type 0
OpensFitting (commands.OpenEp x) = FitsKind x
OpensFitting _ = Unit {0}

-- ---- the laws

abbrev pub CommandsAreOfQueues : Type 0
CommandsAreOfQueues = (d : DriverContent) (m : Mem) (cmd : Cmd) (o : Offered) → IsOrderly d → QueuesTakeTurns d → offered d m cmd ≡ Ok o → QueuesAccept d m o cmd

abbrev pub OpensAreOfQueues : Type 0
OpensAreOfQueues = (d : DriverContent) (m : Mem) (o : Offered) → IsOrderly d → (w : Opens d m o) → IsQueueOpened d m w.desc o

abbrev pub ChainsAreOfQueues : Type 0
ChainsAreOfQueues = (d : DriverContent) (m : Mem) (o : Offered) → IsOrderly d → (w : Chains d m o) → IsQueueOpened d m w.desc o

abbrev pub TransfersAreOfQueues : Type 0
TransfersAreOfQueues = (d : DriverContent) (m : Mem) (o : Offered) (w : Transfers d m o) → IsTransferOfQueues d m o w

-- the runs of the queues have their owners
abbrev pub QueuesHaveOwners : Type 0
QueuesHaveOwners = (d : DriverContent) → HasOwners d → QueuesTakeTurns d → HasOwners (queued d)

abbrev pub CommandsKeepQueues : Type 0
CommandsKeepQueues = (d : DriverContent) (m : Mem) (cmd : Cmd) (o : Offered) → Stands (holding d.book m) → HasOwners d → QueuesTakeTurns d → OpensFitting cmd → offered d m cmd ≡ Ok o
    → QueuesTakeTurns o.driver
