-- How a command is accepted (EHCI 1.0, 4.6 to 4.8 and 4.10).
--     Accepts d m o        o stands once a command was accepted: an endpoint was opened in the ring, in the frame list or for descriptors, a
--                          transfer, a request or descriptors were taken on, or an endpoint is to leave the ring or the frame list
use Rattle.std.specs.Prelude.{◌≡◌, ℕ, ◌-◌, ◌≤◌, true, false, List, [], ◌∷◌, length, take, drop, slice_get, slice_index, Some, None, Ok}
use Rattle.usb_base.specs.declared.endpoints.EpDesc.{EpDesc}
use Rattle.word_mem.specs.Memory.{Mem}
use Rattle.mem_runs.specs.Book.{Holding, holding}
use Rattle.bandwidth.specs.declared.placements.Placement.{Placement}
use Rattle.drv_periodic_table.specs.Periodic.{is_periodic}
use Rattle.drv_table.specs.declared.content.Endpoint.{Endpoint}
use Rattle.drv_table.specs.declared.content.Stage.{Stage}
use Rattle.drv_table.specs.declared.content.Slots.{Slots}
use Rattle.drv_table.specs.DriverContent.{DriverContent, endpoint_of}
use Rattle.drv_table.specs.Words.{needs}
use Rattle.drv_table.specs.Kinds.{is_iso}
use Rattle.drv_table.specs.Accepting.{Offered, take_runs, new_runs}
use Rattle.drv_table.specs.Offers.{Asked, note_stages, accepted_open, accepted_chain, accepted_iso, accepted_transfer}
use Rattle.drv_table.specs.IsoOffers.{total_of, iso_needs, all_descriptors, entered_iso}
use Rattle.drv_table.specs.CancelOffers.{accepted_cancel, endpoint_members, accepted_unchain}
use Rattle.claims_driver.specs.Owners.{is_descriptor}

-- no qTD is longer than its buffer may be (3.5.3)
abbrev pub AreShort : List Stage → Type 0
AreShort [] = Unit {0}
AreShort (s ∷ ss) = (s.long ≤ 20480) × AreShort ss

-- a bulk or control endpoint
pub record Opens (d : DriverContent) (m : Mem) (o : Offered) : Type 0 where
  pub desc : EpDesc
  pub holding_after : Holding
  pub idle : d.command ≡ None
  pub new_name : endpoint_of d desc.name ≡ None
  pub ring : is_periodic desc.kind ≡ false
  pub runs : take_runs (holding d.book m) (2 ∷ 1 ∷ []) ≡ Ok holding_after
  pub is : o ≡ accepted_open d desc holding_after (slice_index (new_runs d holding_after) 0) (slice_index (new_runs d holding_after) 1)

-- an interrupt endpoint
pub record Chains (d : DriverContent) (m : Mem) (o : Offered) : Type 0 where
  pub desc : EpDesc
  pub placement : Placement
  pub holding_after : Holding
  pub idle : d.command ≡ None
  pub new_name : endpoint_of d desc.name ≡ None
  pub periodic : is_periodic desc.kind ≡ true
  pub queued : is_iso desc.kind ≡ false
  pub runs : take_runs (holding d.book m) (2 ∷ 1 ∷ []) ≡ Ok holding_after
  pub is : o ≡ accepted_chain d desc placement holding_after (slice_index (new_runs d holding_after) 0) (slice_index (new_runs d holding_after) 1)

-- an isochronous endpoint
pub record Places (d : DriverContent) (m : Mem) (o : Offered) : Type 0 where
  pub desc : EpDesc
  pub placement : Placement
  pub idle : d.command ≡ None
  pub new_name : endpoint_of d desc.name ≡ None
  pub isochronous : is_iso desc.kind ≡ true
  pub is : o ≡ record { driver = accepted_iso d desc placement; memory = m }

pub record Transfers (d : DriverContent) (m : Mem) (o : Offered) : Type 0 where
  pub number : ℕ
  pub endpoint : Endpoint
  pub asked : Asked
  pub holding_after : Holding
  pub idle : d.command ≡ None
  pub here : slice_get d.endpoints number ≡ Some endpoint
  pub goes_on : endpoint.ended ≡ None
  pub queued : is_iso endpoint.desc.kind ≡ false
  pub sort : is_descriptor asked.sort ≡ false
  pub short : AreShort asked.stages
  pub some : 1 ≤ length asked.stages
  pub runs : take_runs (holding d.book m) (needs asked.stages) ≡ Ok holding_after
  pub is : o ≡ accepted_transfer d number endpoint asked holding_after
      (slice_index (take (length asked.stages) (new_runs d holding_after)) (length asked.stages - 1))
      (note_stages d.notes asked.stages endpoint.dummy (take (length asked.stages) (new_runs d holding_after)) (drop (length asked.stages) (new_runs d holding_after)))

-- descriptors of an isochronous endpoint, whose buffers are no longer than a descriptor's pages (3.3.3)
pub record Describes (d : DriverContent) (m : Mem) (o : Offered) : Type 0 where
  pub number : ℕ
  pub endpoint : Endpoint
  pub slots : Slots
  pub count : ℕ
  pub seed : ℕ
  pub holding_after : Holding
  pub idle : d.command ≡ None
  pub here : slice_get d.endpoints number ≡ Some endpoint
  pub goes_on : endpoint.ended ≡ None
  pub isochronous : is_iso endpoint.desc.kind ≡ true
  pub short : total_of slots ≤ 24576
  pub runs : take_runs (holding d.book m) (iso_needs slots count) ≡ Ok holding_after
  pub is : o ≡ entered_iso d number endpoint count (total_of slots) holding_after.book
      (all_descriptors holding_after.book number endpoint.desc slots count seed (new_runs d holding_after)
      (record { notes = d.periodic.notes; transfers = d.transfers; memory = holding_after.memory }))

pub record Cancels (d : DriverContent) (m : Mem) (o : Offered) : Type 0 where
  pub number : ℕ
  pub endpoint : Endpoint
  pub idle : d.command ≡ None
  pub here : slice_get d.endpoints number ≡ Some endpoint
  pub fresh : endpoint.cancelled ≡ false
  pub ring : endpoint.placement ≡ None
  pub is : o ≡ record { driver = accepted_cancel d number endpoint; memory = m }

-- a periodic endpoint is cancelled
pub record Unchains (d : DriverContent) (m : Mem) (o : Offered) : Type 0 where
  pub number : ℕ
  pub endpoint : Endpoint
  pub placement : Placement
  pub idle : d.command ≡ None
  pub here : slice_get d.endpoints number ≡ Some endpoint
  pub fresh : endpoint.cancelled ≡ false
  pub placed : endpoint.placement ≡ Some placement
  pub is : o ≡ record { driver = accepted_unchain d number endpoint (endpoint_members d number endpoint placement); memory = m }

pub data Accepts (d : DriverContent) (m : Mem) (o : Offered) : Type 0 where
  opens : Opens d m o → Accepts d m o
  chains : Chains d m o → Accepts d m o
  places : Places d m o → Accepts d m o
  transfers : Transfers d m o → Accepts d m o
  describes : Describes d m o → Accepts d m o
  cancels : Cancels d m o → Accepts d m o
  unchains : Unchains d m o → Accepts d m o
