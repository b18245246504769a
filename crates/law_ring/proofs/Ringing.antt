-- A ring at another place with the same memory, and the row of an event.
use Rattle.std.proofs.Common.{◌≡◌, ◌≢◌, ℕ, Bool, true, false, if◌then◌else◌, ap, refl, sym, subst, ◌∙◌, ⊎_elim, List}
use Rattle.std.proofs.lemmas.Bool.{cases_eq}
use Rattle.law_ring.proofs.Common.{same_cursor}
use Rattle.usb_base.specs.declared.packets.Ask.{Ask}
use Rattle.usb_base.specs.declared.packets.Reply.{Reply}
use Rattle.word_mem.specs.Memory.{Mem}
use Rattle.op_registers.specs.RegisterFile.{RegisterFile}
use Rattle.op_registers.specs.Events.{after_advance, after_reclamation}
use Rattle.async_walk.specs.declared.rows.WalkRow.{WalkRow}
use Rattle.async_walk.specs.Rows.{WalkPlace, started, started_registers, cursor_link, walk_row, was_read, step_of, Leads, fetched_registers}
use Rattle.law_structures.specs.lent_structures.Structures.{StructureSets, Tells}
use Rattle.law_structures.specs.lent_structures.Sound.{IsMember}
use Rattle.law_ring.specs.Hand.{Hand, held_of}
use Rattle.claims_base.specs.Controller.{Base, base_of}
use Rattle.law_ring.specs.Ring.{IsCursorAmong, IsInHand, IsRing}
use Rattle.law_ring.specs.Effects.{Happens}

-- ---- registers

pub address_same : (r s : RegisterFile) → base_of s ≡ base_of r → s.async_list_address ≡ r.async_list_address
address_same r s same = ap (λ (b : Base). b.async_list_address) same

pub head_base : (r : RegisterFile) (b : Bool) → base_of (if b then after_advance r else r) ≡ base_of r
head_base r true = refl
head_base r false = refl

pub fetched_base : (h : Bool) (r : RegisterFile) → base_of (fetched_registers h r) ≡ base_of r
fetched_base false r = refl
fetched_base true r = head_base (after_reclamation r false) r.doorbell

started_base : (b : Bool) (r : RegisterFile) → base_of (started_registers b r) ≡ base_of r
started_base true r = refl
started_base false r = refl

-- ---- the ring at another place

pub cursor_same : (member : ℕ → Bool) (p q : WalkPlace) → base_of q.registers ≡ base_of p.registers → q.walk.cursor ≡ p.walk.cursor → IsCursorAmong member p → IsCursorAmong member q
cursor_same member p q registers cursor k = record {
  to = k.to;
  leads = ap (cursor_link q.registers) cursor ∙ same_cursor p.registers q.registers p.walk.cursor (address_same p.registers q.registers registers) ∙ k.leads;
  on = k.on;
}

pub ring_at : (base : Base) (member : ℕ → Bool) (parts : StructureSets) (hand later : Hand) (p q : WalkPlace) → IsRing base member parts hand p → q.memory ≡ p.memory → base_of q.registers ≡ base_of p.registers → IsCursorAmong member q → q.walk.held ≡ held_of later → IsInHand member parts q.walk.reply later → IsRing base member parts later q
ring_at base member parts hand later p q k memory registers cursor held in_hand = record {
  tells = subst (λ (m : Mem). Tells m parts) (sym memory) k.tells;
  members = k.members;
  registers = registers ∙ k.registers;
  start = k.start;
  cursor = cursor;
  held = held;
  in_hand = in_hand;
}

pub ring_started : (base : Base) (member : ℕ → Bool) (parts : StructureSets) (hand : Hand) (p : WalkPlace) → IsRing base member parts hand p → IsRing base member parts hand (started p)
ring_started base member parts hand p k =
    let registers = started_base p.walk.first p.registers in
    ring_at base member parts hand hand p (started p) k refl registers (cursor_same member p (started p) registers refl k.cursor) k.held k.in_hand

-- members, where the parts of one alone have changed
pub members_after : (member : ℕ → Bool) (parts now : StructureSets) (a : ℕ) → ((n : ℕ) → n ≢ a → now n ≡ parts n) → IsMember member a (now a) → ((n : ℕ) → member n ≡ true → IsMember member n (parts n)) → (n : ℕ) → member n ≡ true → IsMember member n (now n)
members_after member parts now a others at members n on =
    ⊎_elim (λ (same : n ≡ a). subst (λ (k : ℕ). IsMember member k (now k)) (sym same) at)
    (λ (differs : n ≢ a). subst (IsMember member n) (sym (others n differs)) (members n on)) (cases_eq n a)

-- ---- the row of an event

pub same_memory : (p : WalkPlace) (m : Mem) → m ≡ p.memory → record p { memory = m } ≡ p
same_memory p m e = ap (λ (x : Mem). record p { memory = x }) e

pub happens_at : {W : Type 0} (transacts : W → Ask → List ℕ → Reply → W → Type 0) (base : Base) (member : ℕ → Bool) (parts : StructureSets) (hand : Hand) (wire after : W) (s new : WalkPlace) (r : WalkRow) → walk_row s ≡ r → was_read s ≡ s
    → (Leads transacts r s wire new after → Happens transacts base member parts hand wire after new (step_of r s))
    → Leads transacts (walk_row s) (was_read s) wire new after → Happens transacts base member parts hand wire after new (step_of (walk_row s) (was_read s))
happens_at transacts base member parts hand wire after s new r row same by lead =
    subst (λ (q : WalkPlace). Happens transacts base member parts hand wire after new (step_of (walk_row s) q)) (sym same)
    (subst (λ (x : WalkRow). Happens transacts base member parts hand wire after new (step_of x s)) (sym row)
    (by (subst (λ (x : WalkRow). Leads transacts x s wire new after) row (subst (λ (q : WalkPlace). Leads transacts (walk_row s) q wire new after) same lead))))
