-- An endpoint that was cancelled: the driver of the queues alone would unlink it from the ring.
use Rattle.std.proofs.Common.{◌≡◌, ℕ, Bool, true, false, cond, List, set, slice_get, ◌-◌, Option, Some, None, Result, Ok, Err, unwrap_or, ap, ap₂, sym, subst, ◌∙◌, inl, inr, refl}
use Rattle.std.specs.Prelude.{◌⊎◌, map, is_some, is_none, option_and_then}
use Rattle.std.proofs.lemmas.List.{map-set}
use Rattle.law_common.proofs.Lists.{set_here, set_again, set_same}
use Rattle.law_driver.proofs.Common.{of_queue, of_none, ring_queue, get_queued}
use Rattle.usb_base.specs.declared.commands.Cmd.TheVariants as commands
use Rattle.usb_base.specs.declared.endpoints.EpName.{EpName}
use Rattle.usb_base.specs.declared.endpoints.EndCause.TheVariants as causes
use Rattle.usb_base.specs.declared.reports.OfferError.{OfferError}
use Rattle.usb_base.specs.declared.reports.OfferError.TheVariants as errors
use Rattle.word_mem.specs.Memory.{Mem}
use Rattle.drv_periodic_table.specs.Periodic.{PeriodicContent, is_periodic}
use Rattle.drv_table.specs.declared.content.Endpoint.{Endpoint}
use Rattle.drv_table.specs.declared.content.Transfer.{Transfer}
use Rattle.drv_table.specs.declared.content.Command.{Command}
use Rattle.drv_table.specs.declared.content.Command.TheVariants as unfinished
use Rattle.drv_table.specs.DriverContent.{DriverContent, endpoint_of}
use Rattle.drv_table.specs.Kinds.{is_iso}
use Rattle.drv_table.specs.Commands.{finished, no_command, leave_frames}
use Rattle.drv_table.specs.Accepting.{Offered}
use Rattle.drv_table.specs.CancelOffers.{first_end, accepted_cancel, with_cancel, endpoint_members, cancelled_by, offered_cancel}
use Rattle.drv_table.specs.Offers.{offered}
use Rattle.claims_driver.specs.Leaving.{IsOrderly}
use Rattle.law_driver.specs.run_owners.Accepts.{Cancels, Unchains}
use Rattle.law_driver.specs.queued_drivers.Queued.{with_queue, queued_endpoint, queued_transfer, queued_command, queued_made, queued}
use Rattle.law_driver.specs.queued_drivers.Commands.{QueuesAlike, unlink_of, left_queue, IsQueueLeft, IsEndLeft}
use Rattle.law_driver.proofs.lemmas.queued_drivers.CommandFields.{named_same, transfers_set}
use Rattle.law_driver.proofs.lemmas.queued_drivers.CommandOpens.{idle_offers}

abbrev pub cancelled : Endpoint → Endpoint
cancelled x = record x { cancelled = true; ended = first_end x.ended }

abbrev result : Offered → Result Offered OfferError
result g = Ok g

-- ---- the cancel of its queue

queue_leaves : (d : DriverContent) (m : Mem) (name : EpName) (e : ℕ) (x : Endpoint) → d.command ≡ None → endpoint_of d name ≡ Some e → slice_get d.endpoints e ≡ Some x → is_iso x.desc.kind ≡ false → x.cancelled ≡ false
    → offered (queued d) m (commands.Cancel name) ≡ Ok (record { driver = accepted_cancel (queued d) e (queued_endpoint x); memory = m })
queue_leaves d m name e x idle named here queue fresh =
    idle_offers d m (commands.Cancel name) idle
    ∙ ap (λ (n : Option ℕ). offered_cancel (queued d) m (unwrap_or n 0) (option_and_then (λ k. slice_get (queued d).endpoints k) n)) (named_same d name ∙ named)
    ∙ ap (offered_cancel (queued d) m e) (get_queued d.endpoints e x here ∙ ap Some (of_queue x queue))
    ∙ ap (λ (b : Bool). cond b (Err (errors.Closed causes.Cancel)) (result (record { driver = cancelled_by (queued d) e (with_queue x) None; memory = m }))) fresh
    ∙ ap (λ (y : Endpoint). result (record { driver = accepted_cancel (queued d) e y; memory = m })) (sym (of_queue x queue))

leaves_queue : (d : DriverContent) (m : Mem) (e : ℕ) (x : Endpoint) → d.command ≡ None → slice_get d.endpoints e ≡ Some x → is_iso x.desc.kind ≡ false → x.cancelled ≡ false → Cancels (queued d) m (left_queue d e x m)
leaves_queue d m e x idle here queue fresh =
    let is = of_queue x queue in
    record {
      number = e;
      endpoint = queued_endpoint x;
      idle = ap (queued_command d.endpoints) idle;
      here = get_queued d.endpoints e x here;
      fresh = ap (λ (y : Endpoint). y.cancelled) is ∙ fresh;
      ring = ap (λ (y : Endpoint). y.placement) is;
      is = refl;
    }

-- ---- what a cancel makes of the endpoints

-- .. where it stands in its frames or not
abbrev pub Left : Endpoint → Bool → Endpoint
Left x chained = record (cancelled x) { chained = chained }

queue_end : (x : Endpoint) (chained : Bool) → is_iso x.desc.kind ≡ false → queued_endpoint (Left x chained) ≡ cancelled (queued_endpoint x)
queue_end x chained queue = of_queue (Left x chained) queue ∙ ap cancelled (sym (of_queue x queue))

left_end : (x : Endpoint) (chained : Bool) → is_iso x.desc.kind ≡ true → queued_endpoint (Left x chained) ≡ queued_endpoint x
left_end x chained iso = of_none (Left x chained) iso ∙ sym (of_none x iso)

module _ (d : DriverContent) (e : ℕ) (x : Endpoint) (chained : Bool) (here : slice_get d.endpoints e ≡ Some x) where
  queue_ends : is_iso x.desc.kind ≡ false → map queued_endpoint (set d.endpoints e (Left x chained)) ≡ set (map queued_endpoint d.endpoints) e (cancelled (queued_endpoint x))
  queue_ends queue = map-set queued_endpoint d.endpoints e (Left x chained) ∙ ap (λ (y : Endpoint). set (map queued_endpoint d.endpoints) e y) (queue_end x chained queue)

  same_ends : is_iso x.desc.kind ≡ true → map queued_endpoint (set d.endpoints e (Left x chained)) ≡ map queued_endpoint d.endpoints
  same_ends iso =
      map-set queued_endpoint d.endpoints e (Left x chained)
      ∙ ap (λ (y : Endpoint). set (map queued_endpoint d.endpoints) e y) (left_end x chained iso)
      ∙ set_same (map queued_endpoint d.endpoints) e (queued_endpoint x) (get_queued d.endpoints e x here)

  same_moves : map (queued_transfer (set d.endpoints e (Left x chained))) d.transfers ≡ map (queued_transfer d.endpoints) d.transfers
  same_moves = transfers_set d e x (Left x chained) here refl

-- ---- in the ring

pub ring_left : (d : DriverContent) (m : Mem) (name : EpName) (o : Offered) → IsOrderly d → (w : Cancels d m o) → endpoint_of d name ≡ Some w.number → IsQueueLeft d m name o
unfolding leaves_queue
ring_left d m name o order w named =
    let e = w.number in
    let x = w.endpoint in
    let ring : is_periodic x.desc.kind ≡ false = sym (order.steady e x w.here).placed ∙ ap is_some w.ring in
    let queue = ring_queue x.desc.kind ring in
    let c = accepted_cancel d e x in
    let q = accepted_cancel (queued d) e (queued_endpoint x) in
    let now : QueuesAlike (queued c) (record q { command = Some (unlink_of d e) }) =
    ap₂ (λ (xs : List Endpoint) (ts : List Transfer). record q { command = Some (unlink_of d e); endpoints = xs; transfers = ts }) (queue_ends d e x x.chained w.here queue) (same_moves d e x x.chained w.here) in
    record {
      number = e;
      endpoint = x;
      here = w.here;
      fresh = w.fresh;
      queue = queue;
      takes = queue_leaves d m name e x w.idle named w.here queue w.fresh;
      cancels = leaves_queue d m e x w.idle w.here queue w.fresh;
      of_number = refl;
      unlinks = Some (unlink_of d e);
      command = inl (ring, refl);
      alike = subst (λ (g : Offered). QueuesAlike (queued g.driver) (record q { command = Some (unlink_of d e) })) (sym w.is) now;
      memory = ap (λ (g : Offered). g.memory) w.is;
    }

-- ---- in frames

-- with nothing to unlink it is finished at once
pub record IsUnchained (d : DriverContent) (e : ℕ) (x : Endpoint) (c : DriverContent) : Type 0 where
  pub chained : Bool
  pub command : Option Command
  pub periodic : PeriodicContent
  pub which : (command ≡ Some (unfinished.Unchain e)) ⊎ (command ≡ None)
  pub is : c ≡ record d {
    endpoints = set d.endpoints e (Left x chained);
    command = command;
    made = 0;
    room = record d.room { reports = d.room.reports - 1 };
    periodic = periodic;
  }

abbrev begun : DriverContent → ℕ → Endpoint → PeriodicContent → DriverContent
begun d e x p = record d {
  endpoints = set d.endpoints e (cancelled x);
  command = Some (unfinished.Unchain e);
  made = 0;
  room = record d.room { reports = d.room.reports - 1 };
  periodic = p;
}

unchained_by : (d : DriverContent) (e : ℕ) (x : Endpoint) (p : PeriodicContent) (b : Bool) → slice_get d.endpoints e ≡ Some x
    → IsUnchained d e x (cond b (finished (begun d e x p) (unfinished.Unchain e)) (begun d e x p))
unchained_by d e x p false here = record { chained = x.chained; command = Some (unfinished.Unchain e); periodic = p; which = inl refl; is = refl }
unchained_by d e x p true here =
    let c = no_command (begun d e x p) in
    subst (IsUnchained d e x) (sym (ap (leave_frames c e) (set_here d.endpoints e x (cancelled x) here))) (by x.chained refl)
  where
    by : (b : Bool) → x.chained ≡ b → IsUnchained d e x (leave_frames (no_command (begun d e x p)) e (Some (cancelled x)))
    by false off =
        let c = no_command (begun d e x p) in
        record {
          chained = x.chained;
          command = None;
          periodic = p;
          which = inr refl;
          is = ap (λ (b : Bool). cond b (leave_frames c e (Some (record (cancelled x) { chained = true }))) c) off;
        }
    by true on =
        let c = no_command (begun d e x p) in
        let g : DriverContent = leave_frames c e (Some (record (cancelled x) { chained = true })) in
        record {
          chained = false;
          command = None;
          periodic = g.periodic;
          which = inr refl;
          is = ap (λ (b : Bool). cond b (record c { endpoints = set c.endpoints e (record (cancelled x) { chained = false }); periodic = g.periodic }) c) on
              ∙ ap (λ (xs : List Endpoint). record c { endpoints = xs; periodic = g.periodic }) (set_again d.endpoints e (cancelled x) (Left x false));
        }

pub unchained : (d : DriverContent) (m : Mem) (o : Offered) (w : Unchains d m o) → IsUnchained d w.number w.endpoint o.driver
unchained d m o w =
    let p = (with_cancel d w.number w.endpoint (endpoint_members d w.number w.endpoint w.placement)).periodic in
    subst (λ (g : Offered). IsUnchained d w.number w.endpoint g.driver) (sym w.is) (unchained_by d w.number w.endpoint p (is_none p.list.work) w.here)

no_queues_command : (xs : List Endpoint) (e : ℕ) (c : Option Command) → (c ≡ Some (unfinished.Unchain e)) ⊎ (c ≡ None) → (queued_command xs c ≡ None) × (queued_made c 0 ≡ 0)
no_queues_command xs e c (inl is) = (ap (queued_command xs) is, ap (λ (k : Option Command). queued_made k 0) is)
no_queues_command xs e c (inr is) = (ap (queued_command xs) is, ap (λ (k : Option Command). queued_made k 0) is)

pub frames_left : (d : DriverContent) (m : Mem) (name : EpName) (o : Offered) → IsOrderly d → (w : Unchains d m o) → is_iso w.endpoint.desc.kind ≡ false → endpoint_of d name ≡ Some w.number → IsQueueLeft d m name o
unfolding leaves_queue
frames_left d m name o order w queue named =
    let e = w.number in
    let x = w.endpoint in
    let placed : is_periodic x.desc.kind ≡ true = sym (order.steady e x w.here).placed ∙ ap is_some w.placed in
    let u = unchained d m o w in
    let q = accepted_cancel (queued d) e (queued_endpoint x) in
    let c : DriverContent = record d { endpoints = set d.endpoints e (Left x u.chained); command = u.command; made = 0; room = record d.room { reports = d.room.reports - 1 }; periodic = u.periodic } in
    let none = no_queues_command (set d.endpoints e (Left x u.chained)) e u.command u.which in
    let ends = queue_ends d e x u.chained w.here queue in
    let moves = same_moves d e x u.chained w.here in
    let now : QueuesAlike (queued c) (record q { command = None }) = λ i. record q { command = none.0 i; made = none.1 i; endpoints = ends i; transfers = moves i; periodic = (queued c).periodic } in
    record {
      number = e;
      endpoint = x;
      here = w.here;
      fresh = w.fresh;
      queue = queue;
      takes = queue_leaves d m name e x w.idle named w.here queue w.fresh;
      cancels = leaves_queue d m e x w.idle w.here queue w.fresh;
      of_number = refl;
      unlinks = None;
      command = inr (placed, refl);
      alike = subst (λ (g : DriverContent). QueuesAlike (queued g) (record q { command = None })) (sym u.is) now;
      memory = ap (λ (g : Offered). g.memory) w.is;
    }

pub end_left : (d : DriverContent) (m : Mem) (o : Offered) (w : Unchains d m o) → is_iso w.endpoint.desc.kind ≡ true → IsEndLeft d m o
end_left d m o w iso =
    let e = w.number in
    let x = w.endpoint in
    let u = unchained d m o w in
    let c : DriverContent = record d { endpoints = set d.endpoints e (Left x u.chained); command = u.command; made = 0; room = record d.room { reports = d.room.reports - 1 }; periodic = u.periodic } in
    let none = no_queues_command (set d.endpoints e (Left x u.chained)) e u.command u.which in
    let idle : queued_command d.endpoints d.command ≡ None = ap (queued_command d.endpoints) w.idle in
    let command = none.0 ∙ sym idle in
    let ends = same_ends d e x u.chained w.here iso in
    let moves = same_moves d e x u.chained w.here in
    let now : QueuesAlike (queued c) (record (queued d) { made = 0; room = c.room }) = λ i. record (queued d) { command = command i; made = none.1 i; endpoints = ends i; transfers = moves i; room = c.room; periodic = (queued c).periodic } in
    record {
      alike = subst (λ (g : DriverContent). QueuesAlike (queued g) (record (queued d) { made = 0; room = g.room })) (sym u.is) now;
      memory = ap (λ (g : Offered). g.memory) w.is;
    }
