-- What an event of a walk does to the streams of the endpoints of queue heads (EHCI 1.0, 4.10): nothing, or it makes one transaction of
-- one endpoint, by which the current qTD of that endpoint grows; or one of an isochronous descriptor, which is beside all of them.
--     moved_bytes q t z bs      the bytes that a transaction moved: received with an IN, else those of the buffer that were sent
--     Grows ..                  what is told after a transaction: the current qTD's bytes have grown by these, and nothing else has
--     StreamEffect Beside ..    nothing is told otherwise and nothing was asked; or one transaction was made, which is that of a queue
--                               head or one of those beside them
--     NoneBeside ask            in a ring there are none beside
--     Streams ..                an event of the walk with its effect on streams
use Rattle.std.specs.Prelude.{◌≡◌, ◌≢◌, ℕ, ◌-◌, Bool, true, ◌==◌, List, ◌++◌, take, drop, if◌then◌else◌}
use Rattle.usb_base.specs.declared.packets.Ask.{Ask}
use Rattle.usb_base.specs.declared.packets.Reply.{Reply}
use Rattle.qh_qtd.specs.declared.qtd.Qtd.{Qtd}
use Rattle.qh_qtd.specs.declared.queue_head.Qh.{Qh}
use Rattle.hc_copy.specs.Overlay.{buffer_place}
use Rattle.hc_copy.specs.WriteBack.{moved_by}
use Rattle.async_walk.specs.declared.state.WalkStep.{WalkStep}
use Rattle.async_walk.specs.Rows.{WalkPlace}
use Rattle.law_structures.specs.lent_structures.Structures.{StructureSets}
use Rattle.law_structures.specs.lent_structures.Sound.{IsMember}
use Rattle.law_ring.specs.Hand.{Copy, Settlement, Hand}
use Rattle.claims_base.specs.Controller.{Base}
use Rattle.law_ring.specs.Effects.{buffer_of, Asks, came_to, Happens}
use Rattle.law_ring.specs.Told.{Told, HasToggle, SameTold}

abbrev pub AreMembers : (ℕ → Bool) → StructureSets → Type 0
AreMembers member parts = (n : ℕ) → member n ≡ true → IsMember member n (parts n)

abbrev pub moved_bytes : Qh → Qtd → Settlement → List ℕ → List ℕ
moved_bytes q t z bs = if q.token.pid == 1 then z.got else take (moved_by z.outcome) (drop (buffer_place q - t.offset) bs)

-- the transaction of this copy came to z, and worked on the qTD t
pub record Grows (hand : Hand) (parts : StructureSets) (later : Hand) (c : Copy) (z : Settlement) (t : Qtd) : Type 0 where
  pub bytes : (xs : List ℕ) → Told hand parts c.at c.queue.current xs → Told later parts c.at c.queue.current (xs ++ moved_bytes c.queue t z (buffer_of (parts c.at) t))
  pub other_bytes : (n e : ℕ) (xs : List ℕ) → (((n ≡ c.at) × (e ≡ c.queue.current)) → ⊥) → Told hand parts n e xs → Told later parts n e xs
  pub toggle : (b : Bool) → HasToggle hand parts c.at b → (b ≡ c.queue.token.toggle) × HasToggle later parts c.at z.host.toggle
  pub other_toggles : (n : ℕ) (b : Bool) → n ≢ c.at → HasToggle hand parts n b → HasToggle later parts n b

abbrev pub NoneBeside : Ask → Type 0
NoneBeside ask = ⊥

pub data StreamEffect {W : Type 0} (Beside : Ask → Type 0) (transacts : W → Ask → List ℕ → Reply → W → Type 0) (parts : StructureSets)
    (hand : Hand) (wire after : W) (now : StructureSets)
    (later : Hand) : Type 0 where
  same : SameTold hand parts later now → after ≡ wire → StreamEffect Beside transacts parts hand wire after now later
  aside : SameTold hand parts later now → (ask : Ask) (out : List ℕ) (reply : Reply) → Beside ask → transacts wire ask out reply after
      → StreamEffect Beside transacts parts hand wire after now later
  grows : (m : Asks transacts parts hand wire after later) → now ≡ parts → Grows hand parts later m.copy (came_to m) m.sent.element
      → StreamEffect Beside transacts parts hand wire after now later

pub record Streams {W : Type 0} (transacts : W → Ask → List ℕ → Reply → W → Type 0) (base : Base) (member : ℕ → Bool) (parts : StructureSets) (hand : Hand) (wire after : W) (new : WalkPlace)
    (kind : WalkStep) : Type 0 where
  pub happens : Happens transacts base member parts hand wire after new kind
  pub streams : StreamEffect NoneBeside transacts parts hand wire after happens.now happens.later
