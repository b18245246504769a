-- What memory has for a driver once some of its descriptors were given back: the others with their buffers, and its queues.
use Rattle.std.proofs.Common.{◌≡◌, ℕ, ◌*◌, Bool, true, false, List, [], ◌∷◌, Some, if◌then◌else◌, ap, refl, sym, subst, ◌∙◌, arith}
use Rattle.std.specs.List.{AllByRecursion}
use Rattle.std.proofs.lemmas.Bool.{true≢false}
use Rattle.std.proofs.lemmas.Option.{same_Some}
use Rattle.law_frame_list.proofs.Common.{same_number}
use Rattle.law_descriptors.proofs.Common.{none_some}
use Rattle.mem_runs.specs.declared.slots.Slot.{Slot}
use Rattle.claims_driver.specs.Owners.{Owner, Described, Buffer, SlotHas, IsPlaced, EndpointRuns, TransferRuns, NoteRuns, DescriptorRuns, Views, AreOwned, IsPieceOf}
use Rattle.law_structures.specs.lent_structures.Structures.{Structure, Structures, StructureSets}
use Rattle.law_driver_ring.specs.Inventory.{sorts_of, IsLent, IsTransferIn}
use Rattle.law_driver_ring.specs.Extents.{AreInRuns}
use Rattle.law_driver_ring.proofs.Blocks.{all_one, placed_buffer}
use Rattle.law_descriptors.specs.Described.{IsDescriptorLent, HasDescriptor, HasItsBuffer, IsOfDescriptor, a_descriptor, a_buffer, AreDescribed}
use Rattle.law_descriptors.specs.Told.{IsToldBy}
use Rattle.law_descriptors.specs.Given.{no_structure, without_owners}
use Rattle.law_descriptors.proofs.CommandQueues.{AreLentAlike, QueuesAlike, transfer_back, piece_back, driven_alike}

-- ---- the structures of those that stay

pub without_on : (sets : StructureSets) (goes : ℕ → Bool) (n : ℕ) → goes n ≡ true → without_owners sets goes n ≡ no_structure
without_on sets goes n on = ap (λ (b : Bool). if b then no_structure else sets n) on

pub without_off : (sets : StructureSets) (goes : ℕ → Bool) (n : ℕ) → goes n ≡ false → without_owners sets goes n ≡ sets n
without_off sets goes n off = ap (λ (b : Bool). if b then no_structure else sets n) off

pub record IsFoundStill (sets : StructureSets) (goes : ℕ → Bool) (n a : ℕ) (s : Structure) : Type 0 where
  pub stays : goes n ≡ false
  pub was : sets n a ≡ Some s

pub without_found : (sets : StructureSets) (goes : ℕ → Bool) (n a : ℕ) (s : Structure) → without_owners sets goes n a ≡ Some s → IsFoundStill sets goes n a s
without_found sets goes n a s here = by (goes n) refl
  where
    by : (b : Bool) → goes n ≡ b → IsFoundStill sets goes n a s
    by true on = absurd (none_some s (ap (λ (part : Structures). part a) (sym (without_on sets goes n on)) ∙ here))
    by false off = record { stays = off; was = ap (λ (part : Structures). part a) (sym (without_off sets goes n off)) ∙ here }

-- ---- those that go

-- a run of a descriptor or of its buffer, by the transfer
abbrev pub goes_with : (ℕ → Bool) → Owner → Bool
goes_with gone (Described split t) = gone t
goes_with gone (Buffer t) = gone t
goes_with gone _ = false

-- the transfer t has a descriptor that is given back
pub record IsGoing (v w : Views) (t : ℕ) : Type 0 where
  pub transfer : TransferRuns
  pub here : v.transfer t ≡ Some transfer
  pub isochronous : transfer.isochronous ≡ true
  pub held : transfer.released ≡ false
  pub now : (z : TransferRuns) → w.transfer t ≡ Some z → (z.isochronous ≡ true) × (z.released ≡ true)

-- the name of one of them
pub record IsNameOf (v : Views) (gone : ℕ → Bool) (n : ℕ) : Type 0 where
  pub number : ℕ
  pub transfer : TransferRuns
  pub here : v.transfer number ≡ Some transfer
  pub goes : gone number ≡ true
  pub name : n ≡ 32 * transfer.first

-- views before and after: these transfers go, and their descriptors have these names
pub record DescriptorsGo (v w : Views) (owner : ℕ → Owner) (gone goes : ℕ → Bool) : Type 0 where
  pub owned : AreOwned v owner
  pub each : (t : ℕ) → gone t ≡ true → IsGoing v w t
  pub others : (t : ℕ) → gone t ≡ false → w.transfer t ≡ v.transfer t
  pub lent : (c : ℕ) → IsLent (w.slot c) → IsLent (v.slot c)
  pub kept : (c : ℕ) → goes_with gone (owner c) ≡ false → w.slot c ≡ v.slot c
  pub endpoints : (e : ℕ) → w.endpoint e ≡ v.endpoint e
  pub notes : (b : ℕ) → w.note b ≡ v.note b
  pub descriptors : (b : ℕ) → w.descriptor b ≡ v.descriptor b
  pub named : (t : ℕ) (y : TransferRuns) → v.transfer t ≡ Some y → gone t ≡ true → goes (32 * y.first) ≡ true
  pub back : (n : ℕ) → goes n ≡ true → IsNameOf v gone n

module _ (v w : Views) (owner : ℕ → Owner) (gone goes : ℕ → Bool) (k : DescriptorsGo v w owner gone goes) where
  kept_by : (c : ℕ) (o : Owner) → owner c ≡ o → goes_with gone o ≡ false → w.slot c ≡ v.slot c
  kept_by c o is off = k.kept c (ap (goes_with gone) is ∙ off)

  -- a transfer that goes has a descriptor and is given back
  stays_by : (t : ℕ) (z : TransferRuns) → w.transfer t ≡ Some z → ((z.isochronous ≡ true) × (z.released ≡ true) → ⊥) → gone t ≡ false
  stays_by t z there never = by (gone t) refl
    where
      by : (b : Bool) → gone t ≡ b → gone t ≡ false
      by true on = absurd (never ((k.each t on).now z there))
      by false off = off

  was_by : (t : ℕ) (z : TransferRuns) → v.transfer t ≡ Some z → z.isochronous ≡ false → gone t ≡ false
  was_by t z there queued = by (gone t) refl
    where
      by : (b : Bool) → gone t ≡ b → gone t ≡ false
      by true on =
          let g : IsGoing v w t = k.each t on in
          absurd (true≢false (sym (subst (λ (y : TransferRuns). y.isochronous ≡ true) (same_Some g.transfer z (sym g.here ∙ there)) g.isochronous) ∙ queued))
      by false off = off

  -- ---- the descriptors that stay

  lent_back : (t : ℕ) (y : TransferRuns) → IsDescriptorLent w t y → (gone t ≡ false) × IsDescriptorLent v t y
  lent_back t y is =
      let off : gone t ≡ false = stays_by t y is.here (λ both. true≢false (sym both.1 ∙ is.held)) in
      (off, record { here = sym (k.others t off) ∙ is.here; held = is.held; isochronous = is.isochronous; lent = k.lent y.first is.lent })

  owner_is : (t : ℕ) (y : TransferRuns) → IsDescriptorLent v t y → owner y.first ≡ Described (v.descriptor y.first).split t
  owner_is t y is = (k.owned.described t y is.here is.isochronous is.held).descriptor.owned

  lent_on : (t : ℕ) (y : TransferRuns) → gone t ≡ false → IsDescriptorLent v t y → IsDescriptorLent w t y
  lent_on t y off is = record {
    here = k.others t off ∙ is.here;
    held = is.held;
    isochronous = is.isochronous;
    lent = subst IsLent (sym (kept_by y.first _ (owner_is t y is) off)) is.lent;
  }

  -- another one has another name
  name_stays : (t : ℕ) (y : TransferRuns) → gone t ≡ false → IsDescriptorLent v t y → goes (32 * y.first) ≡ false
  name_stays t y off is = by (goes (32 * y.first)) refl
    where
      by : (b : Bool) → goes (32 * y.first) ≡ b → goes (32 * y.first) ≡ false
      by false stays = stays
      by true on =
          let n : IsNameOf v gone (32 * y.first) = k.back (32 * y.first) on in
          let g : IsGoing v w n.number = k.each n.number n.goes in
          let one : g.transfer ≡ n.transfer = same_Some g.transfer n.transfer (sym g.here ∙ n.here) in
          let at : 32 * y.first ≡ 32 * n.transfer.first = n.name in
          let first : y.first ≡ n.transfer.first = omega (arith, at) in
          let its : owner n.transfer.first ≡ Described (v.descriptor n.transfer.first).split n.number =
          subst (λ (r : TransferRuns). owner r.first ≡ Described (v.descriptor r.first).split n.number) one (k.owned.described n.number g.transfer g.here g.isochronous g.held).descriptor.owned in
          let same : t ≡ n.number = same_number _ _ t n.number (sym (owner_is t y is) ∙ ap owner first ∙ its) in
          absurd (true≢false (sym n.goes ∙ ap gone (sym same) ∙ off))

  gone_name : (t : ℕ) (y : TransferRuns) → IsDescriptorLent v t y → goes (32 * y.first) ≡ false → gone t ≡ false
  gone_name t y is stays = by (gone t) refl
    where
      by : (b : Bool) → gone t ≡ b → gone t ≡ false
      by true on = absurd (true≢false (sym (k.named t y is.here on) ∙ stays))
      by false off = off

  buffer_kept : (t c : ℕ) (cs : List ℕ) (part : Structures) → gone t ≡ false → AllByRecursion (λ i. IsPlaced v.slot owner i (Buffer t)) (c ∷ cs) → HasItsBuffer v.slot part (c ∷ cs)
      → HasItsBuffer w.slot part (c ∷ cs)
  buffer_kept t c cs part off placed has = record {
    pages = has.pages;
    start = has.start;
    bytes = has.bytes;
    here = has.here;
    runs = λ j in_it.
        let run = has.runs j in_it in
        record {
          at = run.at;
          among = run.among;
          has = subst (λ (s : Slot). SlotHas s j) (sym (kept_by run.at (Buffer t) (all_one (λ i. IsPlaced v.slot owner i (Buffer t)) (c ∷ cs) run.at placed run.among).owned off)) run.has;
        };
  }

  buffers_kept : (t : ℕ) (cs : List ℕ) (part : Structures) → gone t ≡ false → AllByRecursion (λ i. IsPlaced v.slot owner i (Buffer t)) cs → HasItsBuffer v.slot part cs → HasItsBuffer w.slot part cs
  buffers_kept t [] part off placed has = tt
  buffers_kept t (c ∷ cs) part off placed has = buffer_kept t c cs part off placed has

  of_descriptor : (n a : ℕ) → goes n ≡ false → IsOfDescriptor v n a → IsOfDescriptor w n a
  of_descriptor _ _ stays (a_descriptor t y is) = a_descriptor t y (lent_on t y (gone_name t y is stays) is)
  of_descriptor _ _ stays (a_buffer t c cs y is first) =
      a_buffer t c cs y (lent_on t y (gone_name t y is stays) is) (ap (λ (r : DescriptorRuns). r.buffer) (k.descriptors y.first) ∙ first)

  pub described_without : (descs : StructureSets) → AreDescribed v descs → AreDescribed w (without_owners descs goes)
  described_without descs old = record {
    descriptors = λ t y is.
        let was = lent_back t y is in
        subst (λ (part : Structures). HasDescriptor (w.descriptor y.first).split part (32 * y.first)) (sym (without_off descs goes (32 * y.first) (name_stays t y was.0 was.1)))
        (subst (λ (r : DescriptorRuns). HasDescriptor r.split (descs (32 * y.first)) (32 * y.first)) (sym (k.descriptors y.first)) (old.descriptors t y was.1));
    buffers = λ t y is.
        let was = lent_back t y is in
        subst (λ (part : Structures). HasItsBuffer w.slot part (w.descriptor y.first).buffer) (sym (without_off descs goes (32 * y.first) (name_stays t y was.0 was.1)))
        (subst (λ (r : DescriptorRuns). HasItsBuffer w.slot (descs (32 * y.first)) r.buffer) (sym (k.descriptors y.first))
        (buffers_kept t (v.descriptor y.first).buffer (descs (32 * y.first)) was.0 (k.owned.described t y was.1.here was.1.isochronous was.1.held).buffers (old.buffers t y was.1)));
    only = λ n a s here. let f = without_found descs goes n a s here in of_descriptor n a f.stays (old.only n a s f.was);
  }

  -- ---- the queues

  alike : (c : ℕ) (o : Owner) → owner c ≡ o → goes_with gone o ≡ false → AreLentAlike (v.slot c) (w.slot c)
  alike c o is off = record { on = λ lent. subst IsLent (sym (kept_by c o is off)) lent; back = λ lent. subst IsLent (kept_by c o is off) lent }

  placed_in : (t b c : ℕ) (cs : List ℕ) (y : TransferRuns) (x : EndpointRuns) → IsTransferIn v t y x → IsPieceOf v.note y.first y.qtds b → (v.note b).buffer ≡ c ∷ cs
      → AllByRecursion (λ i. IsPlaced v.slot owner i (Buffer t)) (c ∷ cs)
  placed_in t b c cs y x is piece first =
      subst (AllByRecursion (λ i. IsPlaced v.slot owner i (Buffer t))) first (placed_buffer v.slot owner v.note t y.first y.qtds b (k.owned.pieces t y is.here is.held) piece).1

  queues : QueuesAlike v w
  queues = record {
    endpoints = k.endpoints;
    notes = k.notes;
    here = λ t y queued there. k.others t (was_by t y there queued) ∙ there;
    was = λ t y queued there. sym (k.others t (stays_by t y there (λ both. true≢false (sym both.0 ∙ queued)))) ∙ there;
    queue = λ e x is. alike x.queue _ (k.owned.queue e x is.here is.queued).owned refl;
    dummy = λ e x is. alike x.dummy _ (k.owned.dummy e x is.here is.queued).owned refl;
    piece = λ t b y x is piece. alike b _ (placed_buffer v.slot owner v.note t y.first y.qtds b (k.owned.pieces t y is.here is.held) piece).0.owned refl;
    buffer = λ t b c cs y x is piece first. alike c (Buffer t) (placed_in t b c cs y x is piece first).0.owned (was_by t y is.here is.qtds);
  }

  extents_without : (parts : StructureSets) → AreInRuns v parts → AreInRuns w parts
  extents_without parts lies = record {
    list = lies.list;
    buffers = λ t b c cs y x pages i bs is piece first here j has.
        let was = transfer_back v w queues t y x is in
        let old_piece : IsPieceOf v.note y.first y.qtds b = piece_back v w queues y.first y.qtds b piece in
        let old_first : (v.note b).buffer ≡ c ∷ cs = ap (λ (r : NoteRuns). r.buffer) (sym (k.notes b)) ∙ first in
        let inside = lies.buffers t b c cs y x pages i bs was old_piece old_first here j has in
        let placed = placed_in t b c cs y x was old_piece old_first in
        record {
          at = inside.at;
          among = inside.among;
          has = subst (λ (s : Slot). SlotHas s j)
              (sym (kept_by inside.at (Buffer t) (all_one (λ g. IsPlaced v.slot owner g (Buffer t)) (c ∷ cs) inside.at placed inside.among).owned (was_by t y was.here was.qtds))) inside.has;
        };
  }

  pub told_without : (descs parts : StructureSets) → IsToldBy v descs parts → IsToldBy w (without_owners descs goes) parts
  told_without descs parts told = record {
    driven = driven_alike v w queues (sorts_of parts) told.driven;
    extents = extents_without parts told.extents;
    described = described_without descs told.described;
  }
