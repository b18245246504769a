-- Over the wire of the world an event of the controller is a function.
use Rattle.std.proofs.Common.{◌≡◌, ℕ, Bool, true, false, List, Option, Some, None, ap, ◌∙◌}
use Rattle.usb_base.specs.declared.packets.Ask.{Ask}
use Rattle.usb_base.specs.declared.packets.Reply.{Reply}
use Rattle.hc_copy.specs.declared.held.Held.{Held}
use Rattle.hc_copy.specs.declared.held.Transaction.{Transaction}
use Rattle.hc_copy.specs.Buffer.{Reading, sending}
use Rattle.hc_copy.specs.Transacting.{call_in}
use Rattle.op_registers.specs.Events.{next_index}
use Rattle.async_walk.specs.declared.rows.WalkRow.{WalkRow}
use Rattle.async_walk.specs.declared.rows.WalkRow.TheVariants as walks
use Rattle.async_walk.specs.Rows.{WalkPlace, at_event, event_row, after_walk_row, transacted, faulted as walk_faulted, Stays as Still, SentAt, Sends, Leads}
use Rattle.periodic_walk.specs.Walk.{Walk as FrameWalk}
use Rattle.periodic_walk.specs.Place.{FramePlace, Effect, HasEffect}
use Rattle.periodic_walk.specs.Place.Effect.{Leaves, Asks}
use Rattle.periodic_walk.specs.Rows.{effect_of}
use Rattle.async_walk.specs.Walk.{Walk}
use Rattle.hc_core.specs.declared.controller.MicroframePart.{MicroframePart}
use Rattle.hc_core.specs.declared.controller.MicroframePart.TheVariants.{Periodic, Asynchronous}
use Rattle.hc_core.specs.declared.controller.ControllerRow.{ControllerRow}
use Rattle.hc_core.specs.declared.controller.ControllerRow.TheVariants as rows
use Rattle.word_mem.specs.Memory.{Mem}
use Rattle.op_registers.specs.RegisterFile.{RegisterFile}
use Rattle.hc_core.specs.Controller.{Control, Content, content, began, ended, entered, part_after, frame_place, frame_step, walk_place, walk_step, WalksFrame, Walks, HasRow}
use Rattle.bus_wire.specs.Bus.{Fixed, Wired, begin_after, is_allowed, reply_of, transact_after}
use Rattle.bus_world.specs.World.{Standing, controller_row, controller_parts, controller_next, with_turned, Turned, FrameWalked, frame_by, frame_next, framed, Walked, sent_by}
use Rattle.bus_world.specs.World.{sends_by, walk_by, walk_next, walked, turned_by}

-- the relations of the bus
abbrev pub begins_in : Wired → ℕ → Bool → Wired → Type 0
begins_in w frindex allowed v = (allowed ≡ is_allowed w.fixed w.bus) × (v ≡ record w { bus = begin_after w.fixed frindex w.bus })

abbrev pub transacts_in : Wired → Ask → List ℕ → Reply → Wired → Type 0
transacts_in w ask out reply v = (reply ≡ reply_of w.fixed w.bus ask out) × (v ≡ record w { bus = transact_after w.fixed w.bus ask out })

-- the wire afterwards: what is fixed stays
record IsWalked (w : Wired) (expected : Walked) (new : WalkPlace) (v : Wired) : Type 0 where
  pub is : record { place = new; bus = v.bus } ≡ expected
  pub fixed : v.fixed ≡ w.fixed

walked_pair : (new : WalkPlace) (v : Wired) (place : WalkPlace) (u : Wired) → new ≡ place → v ≡ u → ◌≡◌ {A = Walked} (record { place = new; bus = v.bus }) (record { place = place; bus = u.bus })
walked_pair new v place u a b =
    ap (λ (n : WalkPlace). let r : Walked = record { place = n; bus = v.bus } in r) a ∙ ap (λ (x : Wired). let r : Walked = record { place = place; bus = x.bus } in r) b

still_is : (w : Wired) (place new : WalkPlace) (v : Wired) → Still place w new v → IsWalked w (record { place = place; bus = w.bus }) new v
still_is w place new v h = record { is = walked_pair new v place w h.0 h.1; fixed = ap (λ (x : Wired). x.fixed) h.1 }

sent_is : (b : Bool) (t : Transaction) (h : Held) (read : Reading) (p : WalkPlace) (w : Wired) (new : WalkPlace) (v : Wired) → SentAt transacts_in b t h read p w new v
    → IsWalked w (sent_by w.fixed b t h read.bytes (record p { memory = read.memory }) w.bus) new v
sent_is true t h read p w new v s = record {
  is =
      walked_pair new v (transacted t h read.bytes (reply_of w.fixed w.bus (call_in t read.bytes false).ask (call_in t read.bytes false).out) (record p { memory = read.memory }))
      (record w { bus = transact_after w.fixed w.bus (call_in t read.bytes false).ask (call_in t read.bytes false).out })
      (s.place ∙ ap (λ r. transacted t h read.bytes r (record p { memory = read.memory })) s.made.0) s.made.1;
  fixed = ap (λ (x : Wired). x.fixed) s.made.1;
}
sent_is false t h read p w new v s = still_is w (walk_faulted (record p { memory = read.memory })) new v s

sends_is : (t : Transaction) (p : WalkPlace) (held : Option Held) (w : Wired) (new : WalkPlace) (v : Wired) → Sends transacts_in t p held w new v → IsWalked w (sends_by w.fixed t p held w.bus) new v
sends_is t p None w new v s = still_is w p new v s
sends_is t p (Some h) w new v s = sent_is (sending t h.queue_head p.memory).all t h (sending t h.queue_head p.memory) p w new v s

walk_is : (row : WalkRow) (p : WalkPlace) (w : Wired) (new : WalkPlace) (v : Wired) → Leads transacts_in row p w new v → IsWalked w (walk_by w.fixed row p w.bus) new v
walk_is (walks.Transact t) p w new v s = sends_is t p p.walk.held w new v s
walk_is walks.Fault p w new v s = still_is w (after_walk_row walks.Fault p) new v s
walk_is walks.HeadEnds p w new v s = still_is w (after_walk_row walks.HeadEnds p) new v s
walk_is (walks.Fetch a q) p w new v s = still_is w (after_walk_row (walks.Fetch a q) p) new v s
walk_is walks.Skip p w new v s = still_is w (after_walk_row walks.Skip p) new v s
walk_is walks.OutOfTime p w new v s = still_is w (after_walk_row walks.OutOfTime p) new v s
walk_is (walks.Advance a t) p w new v s = still_is w (after_walk_row (walks.Advance a t) p) new v s
walk_is walks.WriteBack p w new v s = still_is w (after_walk_row walks.WriteBack p) new v s

-- ---- the walk of the frame's chain

record IsFramed (w : Wired) (expected : FrameWalked) (new : FramePlace) (v : Wired) : Type 0 where
  pub is : record { place = new; bus = v.bus } ≡ expected
  pub fixed : v.fixed ≡ w.fixed

framed_pair : (new : FramePlace) (v : Wired) (place : FramePlace) (u : Wired) → new ≡ place → v ≡ u
    → ◌≡◌ {A = FrameWalked} (record { place = new; bus = v.bus }) (record { place = place; bus = u.bus })
framed_pair new v place u a b =
    ap (λ (n : FramePlace). let r : FrameWalked = record { place = n; bus = v.bus } in r) a
    ∙ ap (λ (x : Wired). let r : FrameWalked = record { place = place; bus = x.bus } in r) b

frame_is : (e : Effect) (w : Wired) (new : FramePlace) (v : Wired) → HasEffect transacts_in e w new v → IsFramed w (frame_by w.fixed e w.bus) new v
frame_is (Leaves p) w new v h = record { is = framed_pair new v p w h.0 h.1; fixed = ap (λ (x : Wired). x.fixed) h.1 }
frame_is (Asks ask out left_by) w new v a = record {
  is =
      framed_pair new v (left_by (reply_of w.fixed w.bus ask out)) (record w { bus = transact_after w.fixed w.bus ask out })
      (a.place ∙ ap left_by a.made.0) a.made.1;
  fixed = ap (λ (x : Wired). x.fixed) a.made.1;
}

-- ---- the controller

pub record IsTurned (w : Wired) (expected : Turned) (new : Content) (v : Wired) : Type 0 where
  pub is : record { content = new; bus = v.bus } ≡ expected
  pub fixed : v.fixed ≡ w.fixed

turned_pair : (new : Content) (v : Wired) (content : Content) (u : Wired) → new ≡ content → v ≡ u → ◌≡◌ {A = Turned} (record { content = new; bus = v.bus }) (record { content = content; bus = u.bus })
turned_pair new v content u a b =
    ap (λ (n : Content). let r : Turned = record { content = n; bus = v.bus } in r) a ∙ ap (λ (x : Wired). let r : Turned = record { content = content; bus = x.bus } in r) b

stays_is : (w : Wired) (content new : Content) (v : Wired) → (new ≡ content) × (v ≡ w) → IsTurned w (record { content = content; bus = w.bus }) new v
stays_is w content new v h = record { is = turned_pair new v content w h.0 h.1; fixed = ap (λ (x : Wired). x.fixed) h.1 }

-- these contents, with this control
abbrev turned_at : Content → Wired → MicroframePart → FrameWalk → Walk → Turned
turned_at new v part frame walk = record {
  content = record { control = record { part = part; frame = frame; walk = walk }; registers = new.registers; memory = new.memory };
  bus = v.bus;
}

frames_is : (old : Content) (w : Wired) (new : Content) (v : Wired) → WalksFrame transacts_in old w new v → IsTurned w (framed old (frame_next w.fixed (frame_place old) w.bus)) new v
frames_is old w new v s =
    let e = frame_is (effect_of (frame_place old)) w (frame_place new) v s.walked in
    record {
      is =
          ap (λ (part : MicroframePart). turned_at new v part new.control.frame new.control.walk) s.part
          ∙ ap (λ (ring : Walk). turned_at new v (part_after Periodic (frame_step old)) new.control.frame ring) s.ring
          ∙ ap (framed old) e.is;
      fixed = e.fixed;
    }

walks_is : (old : Content) (w : Wired) (new : Content) (v : Wired) → Walks transacts_in old w new v → IsTurned w (walked old (walk_next w.fixed (walk_place old) w.bus)) new v
walks_is old w new v s =
    let e = walk_is (event_row (walk_place old)) (at_event (walk_place old)) w (walk_place new) v s.walked in
    record {
      is =
          ap (λ (part : MicroframePart). turned_at new v part new.control.frame new.control.walk) s.part
          ∙ ap (λ (frame : FrameWalk). turned_at new v (part_after Asynchronous (walk_step old)) frame new.control.walk) s.frame
          ∙ ap (walked old) e.is;
      fixed = e.fixed;
    }

pub turned_is : (row : ControllerRow) (c : Content) (w : Wired) (new : Content) (v : Wired) → HasRow begins_in transacts_in row c w new v → IsTurned w (turned_by w.fixed row c w.bus) new v
turned_is rows.Idle c w new v s = stays_is w c new v s
turned_is rows.Begin c w new v s = record {
  is =
      turned_pair new v (began (is_allowed w.fixed w.bus) c) (record w { bus = begin_after w.fixed (next_index c.registers.frame_index) w.bus })
      (s.contents ∙ ap (λ allowed. began allowed c) s.asked.0) s.asked.1;
  fixed = ap (λ (x : Wired). x.fixed) s.asked.1;
}
turned_is rows.Frame c w new v s = frames_is c w new v s
turned_is rows.Enter c w new v s = walks_is (entered c) w new v s
turned_is rows.Go c w new v s = walks_is c w new v s
turned_is rows.End c w new v s = stays_is w (record c { control = ended c.control }) new v s

-- what stands after an event of the controller
pub event_is : (s : Standing) (control : Control) (r : RegisterFile) (m : Mem) (v : Wired)
    → HasRow begins_in transacts_in (controller_row s.world) (controller_parts s.world) (record { fixed = s.fixed; bus = s.world.bus }) (content control r m) v
    → ◌≡◌ {A = Standing} (record { fixed = v.fixed; world = record { registers = r; memory = m; control = control; driver = s.world.driver; bus = v.bus } })
    (record s { world = controller_next s.fixed s.world })
event_is s control r m v h =
    let t = turned_is (controller_row s.world) (controller_parts s.world) (record { fixed = s.fixed; bus = s.world.bus }) (content control r m) v h in
    ap (λ (f : Fixed). let x : Standing = record { fixed = f; world = record { registers = r; memory = m; control = control; driver = s.world.driver; bus = v.bus } } in x) t.fixed
    ∙ ap (λ (x : Turned). let y : Standing = record { fixed = s.fixed; world = with_turned s.world x } in y) t.is
