-- A step of a leave changes nothing of the queues.
use Rattle.std.proofs.Common.{◌≡◌, ℕ, ◌*◌, ◌≤◌, Bool, List, slice_get, Some, ap, sym, subst, ◌∙◌, ⊎_elim, inl, inr, arith}
use Rattle.usb_base.specs.declared.endpoints.EpDesc.{EpDesc}
use Rattle.mem_runs.specs.Book.{Book, slot_of}
use Rattle.drv_table.specs.declared.content.Endpoint.{Endpoint}
use Rattle.drv_table.specs.declared.content.Transfer.{Transfer}
use Rattle.drv_table.specs.declared.content.QtdNote.{QtdNote}
use Rattle.drv_table.specs.DriverContent.{DriverContent}
use Rattle.drv_table.specs.Words.{head_block, queue_head}
use Rattle.drv_table.specs.Harvests.{note_at}
use Rattle.claims_driver.specs.Owners.{note_in}
use Rattle.law_structures.specs.lent_structures.Structures.{Structures, StructureSets}
use Rattle.law_driver_ring.specs.Inventory.{IsLent}
use Rattle.law_ring.specs.Told.{Endpoint as Told, endpoint_of}
use Rattle.law_ring.specs.Front.{IsPassed, HasFront, LinksWithin, HasTail}
use Rattle.claims_driver.specs.Scripts.{comes_in}
use Rattle.law_driver.specs.chained_transfers.Chains.{piece_at}
use Rattle.law_driver_ring.specs.fed_queues.Fed.{IsPieceFed, AreFed, sized}
use Rattle.law_driver_ring.specs.fed_queues.Places.{HasHead, AreMet, HaveStreams, IsLast, AreLast, AreStillOut}
use Rattle.law_queues.specs.released_queues.Fronts.{StandsAt, FrontsStand}
use Rattle.law_queues.specs.standing_fronts.Reaching.{Reaches}
use Rattle.law_queues.specs.leaving_drivers.Before.{IsAsBefore, NearSame, NearFewer}
use Rattle.law_queues.proofs.lemmas.leaving_drivers.Alike.{near_fewer, not_publish, there_before, met_before, head_now, out_before, all_published}
use Rattle.law_world.specs.steps.left_queues.Standing.{IdleTailsStand, AsBeforeStands}

module _ (d f : DriverContent) (b : IsAsBefore d f) where
  lent_before : (c k : ℕ) → c ≡ k → IsLent (slot_of f.book.slots c) → IsLent (slot_of d.book.slots k)
  lent_before c k same lent = subst (λ (book : Book). IsLent (slot_of book.slots k)) b.book (subst (λ (i : ℕ). IsLent (slot_of f.book.slots i)) same lent)

  was_transfer : (t : ℕ) (y : Transfer) → slice_get f.transfers t ≡ Some y → slice_get d.transfers t ≡ Some y
  was_transfer t y there = ap (λ (ts : List Transfer). slice_get ts t) (sym b.transfers) ∙ there

  was_harvested : (i t : ℕ) → slice_get f.harvested i ≡ Some t → slice_get d.harvested i ≡ Some t
  was_harvested i t at = ap (λ (hs : List ℕ). slice_get hs i) (sym b.harvested) ∙ at

  -- ---- what is fed, and what is last

  pub fed_now : (parts : StructureSets) → AreFed d parts → AreFed f parts
  fed_now parts old = record {
    dummies = λ e z here kept lent.
        let w = b.ends e z here in
        ap (λ (q : ℕ). parts (32 * q) (32 * z.dummy)) w.queue ∙ ap (λ (c : ℕ). parts (32 * w.endpoint.queue) (32 * c)) w.dummy
        ∙ old.dummies e w.endpoint w.here (sym w.gone ∙ kept) (lent_before z.dummy w.endpoint.dummy w.dummy lent);
    pieces = λ t i y z there held here from below.
        let w = b.ends y.endpoint z here in
        let none = all_published d t y b.idle in
        subst (λ (ns : List QtdNote). IsPieceFed y.sort (parts (32 * z.queue)) (sized y.sort i (note_at ns (piece_at (note_in ns) y.first i))) (piece_at (note_in ns) y.first i) (piece_at (note_in ns) y.first y.qtds)) (sym b.notes)
        (subst (λ (q : ℕ). IsPieceFed y.sort (parts (32 * q)) (sized y.sort i (note_at d.notes (piece_at (note_in d.notes) y.first i))) (piece_at (note_in d.notes) y.first i) (piece_at (note_in d.notes) y.first y.qtds)) (sym w.queue)
        (old.pieces t i y w.endpoint (was_transfer t y there) held w.here (omega (arith, none)) below));
    publishes = λ c words is. absurd (not_publish f.command c words b.idle_now is);
  }

  pub last_now : (parts : StructureSets) (order : ℕ → ℕ → ℕ) → AreLast d parts order → AreLast f parts order
  last_now parts order old = record {
    dummies = λ e z here kept lent.
        let w = b.ends e z here in
        subst (λ (q : ℕ). IsLast (order (32 * q)) (parts (32 * q)) (32 * z.dummy)) (sym w.queue)
        (subst (λ (c : ℕ). IsLast (order (32 * w.endpoint.queue)) (parts (32 * w.endpoint.queue)) (32 * c)) (sym w.dummy)
        (old.dummies e w.endpoint w.here (sym w.gone ∙ kept) (lent_before z.dummy w.endpoint.dummy w.dummy lent)));
    taken = λ c words t y z is. absurd (not_publish f.command c words b.idle_now is);
    sorted = λ c words t y z is. absurd (not_publish f.command c words b.idle_now is);
  }

  pub still_out_now : (out : ℕ → List ℕ) → AreStillOut d out → AreStillOut f out
  still_out_now out old e z here there =
      let w = b.ends e z here in
      ap (λ (q : ℕ). out (32 * q)) w.queue ∙ old e w.endpoint w.here (there_before d f e z w b there) ∙ sym (out_before d f e b)

  -- ---- fronts and tails

  abbrev stands_now : (part : Structures) (o : ℕ → ℕ) (out : List ℕ) (e : ℕ) (x z : Endpoint) → z.queue ≡ x.queue → StandsAt d part o out e x → StandsAt f part o out e z
  stands_now part o out e x z same g = record {
    front = g.front;
    has = subst (λ (q : ℕ). HasFront o g.front out (32 * q) part) (sym same) g.has;
    ended = λ i t y at there held own.
        subst (λ (ns : List QtdNote). o (32 * piece_at (note_in ns) y.first y.qtds) ≤ g.front) (sym b.notes) (g.ended i t y (was_harvested i t at) (was_transfer t y there) held own);
    passed = λ i t j y at there held own from below.
        subst (λ (ns : List QtdNote). IsPassed o g.front part (32 * piece_at (note_in ns) y.first j)) (sym b.notes) (g.passed i t j y (was_harvested i t at) (was_transfer t y there) held own from below);
  }

  reaches_now : (part : Structures) (o : ℕ → ℕ) (out : List ℕ) (e : ℕ) (x z : Endpoint) → z.queue ≡ x.queue → z.dummy ≡ x.dummy → Reaches d part o out e x (32 * x.dummy) → Reaches f part o out e z (32 * z.dummy)
  reaches_now part o out e x z same dummy r = record {
    stands = stands_now part o out e x z same r.stands;
    within = subst (λ (c : ℕ). LinksWithin o (32 * c) part) (sym dummy) r.within;
    tail = subst (λ (c : ℕ). HasTail o (32 * c) r.stands.front (32 * z.queue) part) (sym dummy) (subst (λ (q : ℕ). HasTail o (32 * x.dummy) r.stands.front (32 * q) part) (sym same) r.tail);
  }

  module _ (near : NearFewer d f) where
    pub fronts_now : (parts : StructureSets) (order : ℕ → ℕ → ℕ) (out : ℕ → List ℕ) → FrontsStand d parts order out → FrontsStand f parts order out
    fronts_now parts order out old e z here m =
        let w = b.ends e z here in
        let q = w.endpoint.queue in
        subst (λ (k : ℕ). StandsAt f (parts (32 * k)) (order (32 * k)) (out (32 * k)) e z) (sym w.queue)
        (stands_now (parts (32 * q)) (order (32 * q)) (out (32 * q)) e w.endpoint z w.queue (old e w.endpoint w.here (met_before d f e z w here b near m)))

    pub tails_now : (parts : StructureSets) (order : ℕ → ℕ → ℕ) (out : ℕ → List ℕ) → IdleTailsStand d parts order out → IdleTailsStand f parts order out
    tails_now parts order out old e z here m =
        let w = b.ends e z here in
        let q = w.endpoint.queue in
        subst (λ (k : ℕ). Reaches f (parts (32 * k)) (order (32 * k)) (out (32 * k)) e z (32 * z.dummy)) (sym w.queue)
        (reaches_now (parts (32 * q)) (order (32 * q)) (out (32 * q)) e w.endpoint z w.queue w.dummy (old e w.endpoint w.here (met_before d f e z w here b near m)))

-- ---- queue heads that are met

module _ (d f : DriverContent) (b : IsAsBefore d f) (near : NearSame d f) where
  met_now : (member : ℕ → Bool) → AreMet d member → AreMet f member
  met_now member old = record {
    head = old.head;
    each = λ e z here m.
        let w = b.ends e z here in
        ap (λ (q : ℕ). member (32 * q)) w.queue ∙ old.each e w.endpoint w.here (met_before d f e z w here b (near_fewer d f near) m);
    only = λ n on. ⊎_elim (λ (head : n ≡ 32 * head_block). inl head) (λ (h : HasHead d n). inr (head_now d f n b near h)) (old.only n on);
  }

  streams_now : (streams : ℕ → Bool) (ends : ℕ → Told) → HaveStreams d streams ends → HaveStreams f streams ends
  streams_now streams ends old = record {
    each = λ e z here m.
        let w = b.ends e z here in
        let one = old.each e w.endpoint w.here (met_before d f e z w here b (near_fewer d f near) m) in (
          ap (λ (q : ℕ). streams (32 * q)) w.queue ∙ one.0 ∙ ap (λ (desc : EpDesc). comes_in desc.name.way) (sym w.desc),
          ap (λ (q : ℕ). ends (32 * q)) w.queue ∙ one.1 ∙ ap (λ (desc : EpDesc). endpoint_of (queue_head desc 0 w.endpoint.dummy)) (sym w.desc)
              ∙ ap (λ (c : ℕ). endpoint_of (queue_head z.desc 0 c)) (sym w.dummy),
        );
    only = λ n on. head_now d f n b near (old.only n on);
  }

pub as_before_stands : AsBeforeStands
as_before_stands d f member streams ends parts order out b near old = record {
  queues = record {
    met = met_now d f b near member old.queues.met;
    streams_are = streams_now d f b near streams ends old.queues.streams_are;
    fed = fed_now d f b parts old.queues.fed;
    last = last_now d f b parts order old.queues.last;
    out_are = still_out_now d f b out old.queues.out_are;
  };
  fronts = fronts_now d f b (near_fewer d f near) parts order out old.fronts;
  tails = tails_now d f b (near_fewer d f near) parts order out old.tails;
}
