-- An endpoint with a queue that was opened: the driver of the queues alone would have opened it in the ring.
use Rattle.std.proofs.Common.{◌≡◌, ℕ, ◌<◌, Bool, true, false, cond, List, [], ◌∷◌, ◌++◌, length, slice_get, slice_index, Option, Some, None, Ok, Err, ap, ap₂, sym, subst, ◌∙◌, refl}
use Rattle.std.specs.Prelude.{◌-◌, map, is_some, option_and_then}
use Rattle.std.proofs.lemmas.List.{map-append}
use Rattle.law_driver.proofs.Common.{kind_in_ring, ring_queue}
use Rattle.usb_base.specs.declared.commands.Cmd.TheVariants as commands
use Rattle.usb_base.specs.declared.endpoints.EpDesc.{EpDesc}
use Rattle.usb_base.specs.declared.reports.OfferError.TheVariants as errors
use Rattle.word_mem.specs.Memory.{Mem}
use Rattle.mem_runs.specs.Book.{Holding, holding}
use Rattle.drv_periodic_table.specs.Periodic.{is_periodic, want_of, queue_member}
use Rattle.bandwidth.specs.declared.placements.Placement.{Placement}
use Rattle.bandwidth.specs.Admission.{answer}
use Rattle.drv_table.specs.declared.content.Endpoint.{Endpoint}
use Rattle.drv_table.specs.declared.content.Transfer.{Transfer}
use Rattle.drv_table.specs.declared.content.Command.{Command}
use Rattle.drv_table.specs.declared.content.Command.TheVariants as unfinished
use Rattle.drv_table.specs.DriverContent.{DriverContent, endpoint_of}
use Rattle.drv_table.specs.Kinds.{is_iso}
use Rattle.drv_table.specs.Words.{queue_head, interrupt_head}
use Rattle.drv_table.specs.Accepting.{Offered, take_runs, new_runs, newest_of}
use Rattle.drv_table.specs.Offers.{new_endpoint, placed_endpoint, accepted_open, accepted_chain, taken_open, planned_open, offered_open, offered_next, offered}
use Rattle.drv_periodic_table.specs.Linking.{new_link}
use Rattle.claims_driver.specs.Leaving.{IsOrderly}
use Rattle.law_driver.specs.run_owners.Accepts.{Opens, Chains}
use Rattle.law_driver.specs.queued_drivers.Queued.{queued_desc, without_queue, queued_endpoint, queued_transfer, queue_of, queued_command, queued}
use Rattle.law_driver.specs.queued_drivers.Commands.{opened_queue, IsQueueOpened}
use Rattle.law_driver.proofs.lemmas.queued_drivers.CommandFields.{last_get, named_same, transfers_pushed}

-- ---- a driver that isn't busy

pub idle_offers : (d : DriverContent) (m : Mem) (cmd : _) → d.command ≡ None → offered (queued d) m cmd ≡ offered_next (queued d) m cmd
idle_offers d m cmd idle = ap (λ (c : Option Command). cond (is_some (queued_command d.endpoints c)) (Err errors.Busy) (offered_next (queued d) m cmd)) idle

-- ---- the open of its queue

queue_opens : (d : DriverContent) (m : Mem) (x : EpDesc) (h : Holding) → d.command ≡ None → endpoint_of d x.name ≡ None → take_runs (holding d.book m) (2 ∷ 1 ∷ []) ≡ Ok h
    → offered (queued d) m (commands.OpenEp (queued_desc x)) ≡ Ok (opened_queue d x h)
queue_opens d m x h idle none runs =
    idle_offers d m (commands.OpenEp (queued_desc x)) idle
    ∙ ap (λ (n : Option ℕ). offered_open (queued d) m (queued_desc x) (option_and_then (λ e. slice_get (queued d).endpoints e) n)) (named_same d x.name ∙ none)
    ∙ ap (λ (b : Bool). cond b (planned_open (queued d) m (queued_desc x) (answer (queued d).periodic.plan (want_of (length (queued d).endpoints) (queued_desc x)))) (taken_open (queued d) (queued_desc x) (take_runs (holding d.book m) (2 ∷ 1 ∷ []))))
    (kind_in_ring x.name.way)
    ∙ ap (taken_open (queued d) (queued_desc x)) runs

-- ---- what it makes

abbrev With : DriverContent → Holding → DriverContent → List Endpoint → List Transfer → Option Command → DriverContent
With d h c xs ts k = record (queued d) { book = h.book; endpoints = xs; transfers = ts; command = k; made = 0; room = c.room; periodic = (queued c).periodic }

new_queue : (x : EpDesc) (q f : ℕ) → is_periodic x.kind ≡ false → queued_endpoint (new_endpoint x q f) ≡ new_endpoint (queued_desc x) q f
new_queue x q f is =
    ap₂ (λ (a b : Bool). cond a (without_queue (new_endpoint x q f)) (record (new_endpoint x q f) { desc = queued_desc x; placement = None; linked = cond b true true; chained = false })) (ring_queue x.kind is) is

ring_alike : (d : DriverContent) (x : EpDesc) (h : Holding) (q f : ℕ) → is_periodic x.kind ≡ false → ((t : ℕ) (y : Transfer) → slice_get d.transfers t ≡ Some y → y.endpoint < length d.endpoints)
    → queued (accepted_open d x h q f).driver ≡ (accepted_open (queued d) (queued_desc x) h q f).driver
ring_alike d x h q f is within =
    let c = (accepted_open d x h q f).driver in
    ap₂ (λ (xs : List Endpoint) (ts : List Transfer). With d h c xs ts (Some (unfinished.Open q)))
    (map-append queued_endpoint d.endpoints (new_endpoint x q f ∷ []) ∙ ap (λ (z : Endpoint). map queued_endpoint d.endpoints ++ z ∷ []) (new_queue x q f is))
    (transfers_pushed d (new_endpoint x q f) within)

placed_queue : (x : EpDesc) (p : Placement) (q f : ℕ) → is_periodic x.kind ≡ true → is_iso x.kind ≡ false → queued_endpoint (placed_endpoint x p q f) ≡ new_endpoint (queued_desc x) q f
placed_queue x p q f frames queue =
    ap₂ (λ (a b : Bool). cond a (without_queue (placed_endpoint x p q f)) (record (placed_endpoint x p q f) { desc = queued_desc x; placement = None; linked = cond b true false; chained = false })) queue frames

frames_alike : (d : DriverContent) (x : EpDesc) (p : Placement) (h : Holding) (q f : ℕ) → is_periodic x.kind ≡ true → is_iso x.kind ≡ false → ((t : ℕ) (y : Transfer) → slice_get d.transfers t ≡ Some y → y.endpoint < length d.endpoints)
    → queued (accepted_chain d x p h q f).driver ≡ record (accepted_open (queued d) (queued_desc x) h q f).driver { periodic = (queued (accepted_chain d x p h q f).driver).periodic }
frames_alike d x p h q f frames queue within =
    let c = (accepted_chain d x p h q f).driver in
    ap₂ (λ (xs : List Endpoint) (ts : List Transfer). With d h c xs ts (Some (unfinished.Open (queue_of (slice_get (d.endpoints ++ placed_endpoint x p q f ∷ []) (length (d.endpoints ++ placed_endpoint x p q f ∷ []) - 1))))))
    (map-append queued_endpoint d.endpoints (placed_endpoint x p q f ∷ []) ∙ ap (λ (z : Endpoint). map queued_endpoint d.endpoints ++ z ∷ []) (placed_queue x p q f frames queue))
    (transfers_pushed d (placed_endpoint x p q f) within)
    ∙ ap (λ (o : Option Endpoint). With d h c (map queued_endpoint d.endpoints ++ new_endpoint (queued_desc x) q f ∷ []) (map (queued_transfer d.endpoints) d.transfers) (Some (unfinished.Open (queue_of o))))
    (last_get d.endpoints (placed_endpoint x p q f))

opens_queue : (d : DriverContent) (m : Mem) (x : EpDesc) (h : Holding) → d.command ≡ None → endpoint_of d x.name ≡ None → take_runs (holding d.book m) (2 ∷ 1 ∷ []) ≡ Ok h → Opens (queued d) m (opened_queue d x h)
opens_queue d m x h idle none runs = record {
  desc = queued_desc x;
  holding_after = h;
  idle = ap (queued_command d.endpoints) idle;
  new_name = named_same d x.name ∙ none;
  ring = kind_in_ring x.name.way;
  runs = runs;
  is = refl;
}

-- ---- an accepted open

pub opens_are_of_queues : (d : DriverContent) (m : Mem) (o : Offered) → IsOrderly d → (w : Opens d m o) → IsQueueOpened d m w.desc o
unfolding opens_queue
opens_are_of_queues d m o order w =
    let x = w.desc in
    let h = w.holding_after in
    let q = slice_index (new_runs d h) 0 in
    let f = slice_index (new_runs d h) 1 in
    record {
      holding_after = h;
      runs = w.runs;
      takes = queue_opens d m x h w.idle w.new_name w.runs;
      opens = opens_queue d m x h w.idle w.new_name w.runs;
      desc = refl;
      alike = subst (λ (g : Offered). queued g.driver ≡ record (opened_queue d x h).driver { periodic = (queued g.driver).periodic }) (sym w.is) (ring_alike d x h q f w.ring order.within);
      head = queue_head x (newest_of d.endpoints) f;
      next = refl;
      alternate = refl;
      token = refl;
      memory = ap (λ (g : Offered). g.memory) w.is;
    }

pub chains_are_of_queues : (d : DriverContent) (m : Mem) (o : Offered) → IsOrderly d → (w : Chains d m o) → IsQueueOpened d m w.desc o
unfolding opens_queue
chains_are_of_queues d m o order w =
    let x = w.desc in
    let p = w.placement in
    let h = w.holding_after in
    let q = slice_index (new_runs d h) 0 in
    let f = slice_index (new_runs d h) 1 in
    record {
      holding_after = h;
      runs = w.runs;
      takes = queue_opens d m x h w.idle w.new_name w.runs;
      opens = opens_queue d m x h w.idle w.new_name w.runs;
      desc = refl;
      alike = subst (λ (g : Offered). queued g.driver ≡ record (opened_queue d x h).driver { periodic = (queued g.driver).periodic }) (sym w.is) (frames_alike d x p h q f w.periodic w.queued order.within);
      head = interrupt_head x p.smask p.cmask (new_link d.periodic.list (queue_member q p)) f;
      next = refl;
      alternate = refl;
      token = refl;
      memory = ap (λ (g : Offered). g.memory) w.is;
    }
