-- What goes on standing as runs are taken, lent and given back.
use Rattle.std.proofs.Common.{◌≡◌, ℕ, zero, suc, Bool, false, cond, List, [], ◌∷◌, Some, ap, sym, subst, ◌∙◌, refl}
use Rattle.std.specs.List.{AllByRecursion}
use Rattle.law_driver.proofs.Common.{blocks_run}
use Rattle.mem_runs.specs.declared.slots.Slot.{Slot}
use Rattle.drv_table.specs.Words.{head_block}
use Rattle.claims_driver.specs.Owners.{Owner, FrameList, Head, QueueHead, Dummy, Element, Described, Buffer, HasRun, IsRunFor, IsPlaced, EndpointRuns, TransferRuns, NoteRuns, DescriptorRuns, ArePieces, IsDescribed, Views, AreOwned}

pub all_still : {P Q : ℕ → Type 0} (xs : List ℕ) → ((c : ℕ) → P c → Q c) → AllByRecursion P xs → AllByRecursion Q xs
all_still [] each all = tt
all_still (x ∷ xs) each all = (each x all.0, all_still xs each all.1)

pub has_run : (o : Owner) (s : Slot) → IsRunFor o s → HasRun s
has_run FrameList s h = blocks_run 128 s h
has_run (Dummy e) s h = blocks_run 1 s h
has_run (Element t) s h = blocks_run 1 s h
has_run (Described split t) s h = blocks_run (cond split 1 2) s h
has_run (Buffer t) s h = h
has_run _ s h = blocks_run 2 s h

pub placed_run : {slot : ℕ → Slot} {owner : ℕ → Owner} (b : ℕ) (o : Owner) → IsPlaced slot owner b o → HasRun (slot b)
placed_run {slot = slot} b o p = has_run o (slot b) p.run

-- a chain goes on standing where its runs and notes do
pub pieces_still : (slot now : ℕ → Slot) (owner mine : ℕ → Owner) (note other : ℕ → NoteRuns) (t b n : ℕ) → ((c : ℕ) → IsPlaced slot owner c (Element t) → IsPlaced now mine c (Element t)) → ((c : ℕ) → IsPlaced slot owner c (Buffer t) → IsPlaced now mine c (Buffer t)) → ((c : ℕ) → IsPlaced slot owner c (Element t) → other c ≡ note c) → ArePieces slot owner note t b n → ArePieces now mine other t b n
pieces_still slot now owner mine note other t b zero elements buffers same all = tt
pieces_still slot now owner mine note other t b (suc n) elements buffers same all =
    let here = same b all.0.element in (
      record {
        element = elements b all.0.element;
        buffers = subst (λ (r : NoteRuns). AllByRecursion (λ c. IsPlaced now mine c (Buffer t)) r.buffer) (sym here) (all_still (note b).buffer buffers all.0.buffers);
      },
      subst (λ (r : NoteRuns). ArePieces now mine other t r.next n) (sym here) (pieces_still slot now owner mine note other t (note b).next n elements buffers same all.1),
    )

-- and so does a descriptor
pub described_still : (slot now : ℕ → Slot) (owner mine : ℕ → Owner) (note other : DescriptorRuns) (t b : ℕ) → ((c : ℕ) → IsPlaced slot owner c (Described note.split t) → IsPlaced now mine c (Described note.split t)) → ((c : ℕ) → IsPlaced slot owner c (Buffer t) → IsPlaced now mine c (Buffer t)) → (IsPlaced slot owner b (Described note.split t) → other ≡ note) → IsDescribed slot owner note t b → IsDescribed now mine other t b
described_still slot now owner mine note other t b descriptors buffers same old =
    subst (λ (r : DescriptorRuns). IsDescribed now mine r t b) (sym (same old.descriptor)) (record { descriptor = descriptors b old.descriptor; buffers = all_still note.buffer buffers old.buffers })

-- one run goes on standing where its owner isn't one that goes
still : (slot now : ℕ → Slot) (owner : ℕ → Owner) (goes : Owner → Bool) (b : ℕ) (o : Owner) → ((c : ℕ) → goes (owner c) ≡ false → IsRunFor (owner c) (slot c) → IsRunFor (owner c) (now c)) → goes o ≡ false → IsPlaced slot owner b o → IsPlaced now owner b o
still slot now owner goes b o each stays p = record {
  owned = p.owned;
  run = subst (λ (q : Owner). IsRunFor q (now b)) p.owned (each b (ap goes p.owned ∙ stays) (subst (λ (q : Owner). IsRunFor q (slot b)) (sym p.owned) p.run));
}

-- the owners of a queue, and of a transfer, are none that go
pub record QueueStays (goes : Owner → Bool) (e : ℕ) : Type 0 where
  pub queue : goes (QueueHead e) ≡ false
  pub dummy : goes (Dummy e) ≡ false

pub record TransferStays (goes : Owner → Bool) (t : ℕ) : Type 0 where
  pub element : goes (Element t) ≡ false
  pub descriptor : (split : Bool) → goes (Described split t) ≡ false
  pub buffer : goes (Buffer t) ≡ false

-- what is left once some owners' runs were given back, and all others' stand
pub record AreKept (v w : Views) (owner : ℕ → Owner) (goes : Owner → Bool) : Type 0 where
  pub list : goes FrameList ≡ false
  pub head : goes Head ≡ false
  pub runs : (c : ℕ) → goes (owner c) ≡ false → IsRunFor (owner c) (v.slot c) → IsRunFor (owner c) (w.slot c)
  pub endpoints : (e : ℕ) (x : EndpointRuns) → w.endpoint e ≡ Some x → x.bare ≡ false → (v.endpoint e ≡ Some x) × QueueStays goes e
  pub transfers : (t : ℕ) (y : TransferRuns) → w.transfer t ≡ Some y → y.released ≡ false → (v.transfer t ≡ Some y) × TransferStays goes t
  pub notes : (c : ℕ) → w.note c ≡ v.note c
  pub buffers : (c : ℕ) → w.descriptor c ≡ v.descriptor c

pub owned_kept : (v w : Views) (owner : ℕ → Owner) (goes : Owner → Bool) → AreKept v w owner goes → AreOwned v owner → AreOwned w owner
owned_kept v w owner goes kept old = record {
  list = still v.slot w.slot owner goes 0 FrameList kept.runs kept.list old.list;
  head = still v.slot w.slot owner goes head_block Head kept.runs kept.head old.head;
  queue = λ e x there on. let was = kept.endpoints e x there on in still v.slot w.slot owner goes x.queue (QueueHead e) kept.runs was.1.queue (old.queue e x was.0 on);
  dummy = λ e x there on. let was = kept.endpoints e x there on in still v.slot w.slot owner goes x.dummy (Dummy e) kept.runs was.1.dummy (old.dummy e x was.0 on);
  pieces = λ t y there on.
      let was = kept.transfers t y there on in
      pieces_still v.slot w.slot owner owner v.note w.note t y.first y.qtds
      (λ c p. still v.slot w.slot owner goes c (Element t) kept.runs was.1.element p)
      (λ c p. still v.slot w.slot owner goes c (Buffer t) kept.runs was.1.buffer p)
      (λ c p. kept.notes c) (old.pieces t y was.0 on);
  described = λ t y there iso on.
      let was = kept.transfers t y there on in
      described_still v.slot w.slot owner owner (v.descriptor y.first) (w.descriptor y.first) t y.first
      (λ c p. still v.slot w.slot owner goes c (Described (v.descriptor y.first).split t) kept.runs (was.1.descriptor (v.descriptor y.first).split) p)
      (λ c p. still v.slot w.slot owner goes c (Buffer t) kept.runs was.1.buffer p)
      (λ p. kept.buffers y.first) (old.described t y was.0 iso on);
}

-- and where nothing goes
pub record AreSame (v w : Views) : Type 0 where
  pub runs : (c : ℕ) (o : Owner) → IsRunFor o (v.slot c) → IsRunFor o (w.slot c)
  pub endpoints : (e : ℕ) → w.endpoint e ≡ v.endpoint e
  pub transfers : (t : ℕ) → w.transfer t ≡ v.transfer t
  pub notes : (c : ℕ) → w.note c ≡ v.note c
  pub buffers : (c : ℕ) → w.descriptor c ≡ v.descriptor c

pub owned_stays : (v w : Views) (owner : ℕ → Owner) → AreSame v w → AreOwned v owner → AreOwned w owner
owned_stays v w owner same old =
    owned_kept v w owner (λ o. false)
    (record {
      list = refl;
      head = refl;
      runs = λ c stays run. same.runs c (owner c) run;
      endpoints = λ e x there on. (sym (same.endpoints e) ∙ there, record { queue = refl; dummy = refl });
      transfers = λ t y there on. (sym (same.transfers t) ∙ there, record { element = refl; descriptor = λ split. refl; buffer = refl });
      notes = same.notes;
      buffers = same.buffers;
    }) old
