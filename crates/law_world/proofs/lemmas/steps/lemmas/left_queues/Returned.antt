-- An endpoint that can't be met any more is given back, and all other queues stand as before.
use Rattle.std.proofs.Common.{◌≡◌, ◌≢◌, ℕ, ◌+◌, ◌*◌, ◌==◌, ◌&&◌, ◌||◌, Bool, true, false, not, if◌then◌else◌, List, [], ◌∷◌, ◌++◌, map, set, drop, slice_get, Option, Some, None, option_map, ap, sym, subst, ◌∙◌, ⊎_elim, inl, inr, refl, arith}
use Rattle.std.proofs.lemmas.Bool.{true≢false, false≢true, eqb-true, eq-eqb}
use Rattle.std.proofs.lemmas.Option.{same_Some, slice_get-map}
use Rattle.law_world.proofs.Common.{told_same}
use Rattle.law_queues.proofs.Common.{if_zero}
use Rattle.law_common.proofs.Numbers.{other_number}
use Rattle.law_common.proofs.Lists.{set_here, set_there}
use Rattle.mem_runs.specs.Book.{Holding, holding, slot_of}
use Rattle.mem_runs.specs.declared.slots.Slot.{Slot}
use Rattle.drv_table.specs.declared.content.Endpoint.{Endpoint}
use Rattle.drv_table.specs.declared.content.Transfer.{Transfer}
use Rattle.drv_table.specs.declared.content.QtdNote.{QtdNote}
use Rattle.drv_table.specs.DriverContent.{DriverContent}
use Rattle.drv_table.specs.Words.{head_block}
use Rattle.drv_table.specs.Harvests.{note_at}
use Rattle.drv_table.specs.Parts.{Parts}
use Rattle.drv_table.specs.Releases.{free_runs, is_told, let_go, after_endpoint}
use Rattle.drv_table.specs.Rows.{after_driver_row}
use Rattle.law_driver.specs.endpoint_lives.Lives.{may_meet}
use Rattle.law_driver.proofs.lemmas.endpoint_lives.Lives.{met_alike}
use Rattle.claims_driver.specs.Owners.{NoteRuns, note_in}
use Rattle.claims_driver.specs.Leaving.{HasOwners}
use Rattle.law_structures.specs.lent_structures.Structures.{Structures, StructureSets}
use Rattle.law_driver_ring.specs.Inventory.{IsLent}
use Rattle.law_driver_ring.proofs.Freeing.{IsLess, runs_less}
use Rattle.law_ring.specs.Told.{Endpoint as Told}
use Rattle.law_driver.specs.chained_transfers.Chains.{piece_at}
use Rattle.law_driver.specs.chained_transfers.Turns.{turn_of}
use Rattle.law_driver.specs.chained_transfers.Out.{pieces_from, passed, out_of_transfer, out_of, out_now}
use Rattle.law_driver.specs.chained_transfers.AsynchronousTurns.{AsynchronousTakesTurns}
use Rattle.law_driver_ring.specs.fed_queues.Fed.{IsPieceFed, AreFed, sized}
use Rattle.law_driver_ring.specs.fed_queues.Places.{IsMet, HasHead, AreMet, HaveStreams, IsLast, AreLast, AreStillOut}
use Rattle.law_queues.specs.released_queues.Fronts.{StandsAt, FrontsStand}
use Rattle.law_queues.specs.standing_fronts.Reaching.{Reaches}
use Rattle.law_world.specs.steps.endpoint_releases.Released.{endpoint_blocks, without_queue, endpoint_row}
use Rattle.law_world.proofs.lemmas.steps.lemmas.endpoint_releases.Blocks.{endpoint_is_runs}
use Rattle.law_world.proofs.lemmas.steps.lemmas.endpoint_releases.Owning.{queue_beside}
use Rattle.law_queues.specs.leaving_drivers.Before.{UnlinksAtMost}
use Rattle.law_queues.proofs.lemmas.leaving_drivers.Alike.{not_publish, there_by, out_is_all, all_published}
use Rattle.law_world.specs.steps.left_queues.Standing.{IdleTailsStand, AllStand, EndpointReleaseStands}
use Rattle.law_world.proofs.lemmas.steps.lemmas.left_queues.Unmet.{apart_by, near_other, IsCleared, cleared_is}

-- ---- what the row changes

pub record IsGivenBack (d f : DriverContent) (e : ℕ) (x : Endpoint) : Type 0 where
  pub slots : (c : ℕ) → IsLent (slot_of f.book.slots c) → IsLent (slot_of d.book.slots c)
  pub command : f.command ≡ d.command
  pub waiting : f.waiting ≡ d.waiting
  pub rung : f.rung ≡ d.rung
  pub notes : f.notes ≡ d.notes
  pub harvested : f.harvested ≡ d.harvested
  pub endpoints : f.endpoints ≡ set d.endpoints e (record x { gone = true })
  pub transfers : f.transfers ≡ map (let_go e (is_told x)) d.transfers

lent_before : (now s : Slot) → IsLess now s → IsLent now → IsLent s
lent_before now s (inl same) lent = subst IsLent same lent
lent_before now s (inr empty) lent = absurd (subst IsLent empty lent)

given_back : (p : Parts) (e : ℕ) (x : Endpoint) → slice_get p.driver.endpoints e ≡ Some x → IsGivenBack p.driver (after_driver_row (endpoint_row e) p).driver e x
given_back p e x here = subst (λ (q : Parts). IsGivenBack p.driver q.driver e x) (sym (ap (after_endpoint p e) here))
    (record {
      slots = λ c lent.
          lent_before (slot_of (free_runs before (endpoint_blocks p.driver e x)).book.slots c) (slot_of p.driver.book.slots c) (runs_less before (endpoint_blocks p.driver e x) c)
          (subst (λ (g : Holding). IsLent (slot_of g.book.slots c)) (endpoint_is_runs p.driver e x before) lent);
      command = told_same (λ (q : DriverContent). q.command) _ p.driver (is_told x) refl;
      waiting = told_same (λ (q : DriverContent). q.waiting) _ p.driver (is_told x) refl;
      rung = told_same (λ (q : DriverContent). q.rung) _ p.driver (is_told x) refl;
      notes = told_same (λ (q : DriverContent). q.notes) _ p.driver (is_told x) refl;
      harvested = told_same (λ (q : DriverContent). q.harvested) _ p.driver (is_told x) refl;
      endpoints = ap (λ (xs : List Endpoint). set xs e (record x { gone = true })) (told_same (λ (q : DriverContent). q.endpoints) _ p.driver (is_told x) refl);
      transfers = ap (map (let_go e (is_told x))) (told_same (λ (q : DriverContent). q.transfers) _ p.driver (is_told x) refl);
    })
  where
    before : Holding
    before = holding p.driver.book p.memory

-- ---- transfers

-- one that is still held is another endpoint's
one_held : (e : ℕ) (told b : Bool) (y z : Transfer) → (y.endpoint == e) ≡ b → (if b then record y { reported = y.reported || told; released = true } else y) ≡ z → z.released ≡ false → (y ≡ z) × (z.endpoint ≢ e)
one_held e told true y z test is off = absurd (true≢false (ap (λ (r : Transfer). r.released) is ∙ off))
one_held e told false y z test is off =
    (is, λ same. true≢false (sym (eq-eqb y.endpoint e (ap (λ (r : Transfer). r.endpoint) is ∙ same)) ∙ test))

some_held : (e : ℕ) (told : Bool) (o : Option Transfer) (z : Transfer) → option_map (let_go e told) o ≡ Some z → z.released ≡ false → (o ≡ Some z) × (z.endpoint ≢ e)
some_held e told None z there off = absurd (cc)
some_held e told (Some y) z there off =
    let h = one_held e told (y.endpoint == e) y z refl (same_Some (let_go e told y) z there) off in
    (ap Some h.0, h.1)

none_out : (note : ℕ → NoteRuns) (k : ℕ) (w : Transfer) → (w.endpoint == k) ≡ false → out_of_transfer note k 0 w ≡ []
none_out note k w off = ap (λ (b : Bool). if b && not w.released then drop (0 + passed w.reported) (pieces_from note w.place w.left) else []) off

out_one : (note : ℕ → NoteRuns) (e k : ℕ) (told : Bool) (y : Transfer) → k ≢ e → out_of_transfer note k 0 (let_go e told y) ≡ out_of_transfer note k 0 y
out_one note e k told y other = by (y.endpoint == e) refl
  where
    freed : Transfer
    freed = record y { reported = y.reported || told; released = true }

    by : (b : Bool) → (y.endpoint == e) ≡ b → out_of_transfer note k 0 (let_go e told y) ≡ out_of_transfer note k 0 y
    by false is = ap (λ (b : Bool). out_of_transfer note k 0 (if b then record y { reported = y.reported || told; released = true } else y)) is
    by true is =
        let off : (y.endpoint == k) ≡ false = other_number y.endpoint k (λ same. other (sym same ∙ eqb-true y.endpoint e is)) in
        ap (λ (b : Bool). out_of_transfer note k 0 (if b then record y { reported = y.reported || told; released = true } else y)) is
        ∙ none_out note k (record y { reported = y.reported || told; released = true }) off ∙ sym (none_out note k y off)

out_others : (note : ℕ → NoteRuns) (e k : ℕ) (told : Bool) (ts : List Transfer) → k ≢ e → out_of note k None 0 (map (let_go e told) ts) ≡ out_of note k None 0 ts
out_others note e k told [] other = refl
out_others note e k told (y ∷ ys) other =
    ap (λ (n : ℕ). out_of_transfer note k n (let_go e told y) ++ out_of note k None 0 (map (let_go e told) ys)) (if_zero (map (let_go e told) ys))
    ∙ ap (λ (zs : List ℕ). out_of_transfer note k 0 (let_go e told y) ++ zs) (out_others note e k told ys other)
    ∙ ap (λ (zs : List ℕ). zs ++ out_of note k None 0 ys) (out_one note e k told y other)
    ∙ ap (λ (n : ℕ). out_of_transfer note k n y ++ out_of note k None 0 ys) (sym (if_zero ys))

-- ---- nothing is to be given back before

nothing_at : (hs : List ℕ) (i t : ℕ) → slice_get hs 0 ≡ None → slice_get hs i ≡ Some t → ⊥
nothing_at [] i t none at = cc
nothing_at (h ∷ hs) i t none at = cc

-- ---- the others

module _ (d f : DriverContent) (e : ℕ) (x : Endpoint) (parts : StructureSets) (g : IsGivenBack d f e x) (idle : d.command ≡ None) (owners : HasOwners d) (turns : AsynchronousTakesTurns d) (here : slice_get d.endpoints e ≡ Some x) (c : IsCleared d e x) (none : slice_get d.harvested 0 ≡ None) where
  abbrev now : StructureSets
  now = without_queue parts (32 * x.queue)

  abbrev gone : Endpoint
  gone = record x { gone = true }

  may : UnlinksAtMost d.command
  may = subst UnlinksAtMost (sym idle) tt

  may_now : UnlinksAtMost f.command
  may_now = subst UnlinksAtMost (sym (g.command ∙ idle)) tt

  other_by : (k : ℕ) (z : Endpoint) → slice_get f.endpoints k ≡ Some z → z.gone ≡ false → k ≢ e
  other_by k z there kept own =
      let is : z ≡ gone = same_Some z gone (sym there ∙ ap (λ (xs : List Endpoint). slice_get xs k) g.endpoints ∙ ap (slice_get (set d.endpoints e gone)) own ∙ set_here d.endpoints e x gone here) in
      false≢true (sym kept ∙ ap (λ (w : Endpoint). w.gone) is)

  was : (k : ℕ) (z : Endpoint) → slice_get f.endpoints k ≡ Some z → k ≢ e → slice_get d.endpoints k ≡ Some z
  was k z there other = sym (set_there d.endpoints e k gone other) ∙ ap (λ (xs : List Endpoint). slice_get xs k) (sym g.endpoints) ∙ there

  is_now : (k : ℕ) (z : Endpoint) → slice_get d.endpoints k ≡ Some z → k ≢ e → slice_get f.endpoints k ≡ Some z
  is_now k z there other = ap (λ (xs : List Endpoint). slice_get xs k) g.endpoints ∙ set_there d.endpoints e k gone other ∙ there

  beside : (k : ℕ) (z : Endpoint) → slice_get d.endpoints k ≡ Some z → z.gone ≡ false → k ≢ e → now (32 * z.queue) ≡ parts (32 * z.queue)
  beside k z there kept other = queue_beside parts (32 * x.queue) (32 * z.queue) (apart_by d k e z x owners turns there kept here c.kept other)

  near_same : (k : ℕ) (z : Endpoint) → may_meet f k z ≡ may_meet d k z
  near_same k z = met_alike d f k z z refl g.waiting g.rung

  met_back : (k : ℕ) (z : Endpoint) → IsMet f k z → IsMet d k z
  met_back k z m = record { there = there_by d z may m.there.kept; near = sym (near_same k z) ∙ m.near }

  head_on : (n : ℕ) → HasHead d n → HasHead f n
  head_on n h = record {
    number = h.number;
    endpoint = h.endpoint;
    here = is_now h.number h.endpoint h.here (near_other d e x here c.near h.number h.endpoint h.here h.met.near);
    met = record { there = there_by f h.endpoint may_now h.met.there.kept; near = near_same h.number h.endpoint ∙ h.met.near };
    at = h.at;
  }

  -- ---- which are met

  met_after : (member : ℕ → Bool) → AreMet d member → AreMet f member
  met_after member old = record {
    head = old.head;
    each = λ k z there m. old.each k z (was k z there (other_by k z there m.there.kept)) (met_back k z m);
    only = λ n on. ⊎_elim (λ (head : n ≡ 32 * head_block). inl head) (λ (h : HasHead d n). inr (head_on n h)) (old.only n on);
  }

  streams_after : (streams : ℕ → Bool) (ends : ℕ → Told) → HaveStreams d streams ends → HaveStreams f streams ends
  streams_after streams ends old = record {
    each = λ k z there m. old.each k z (was k z there (other_by k z there m.there.kept)) (met_back k z m);
    only = λ n on. head_on n (old.only n on);
  }

  -- ---- what is fed, and what is last

  was_transfer : (t : ℕ) (y : Transfer) → slice_get f.transfers t ≡ Some y → y.released ≡ false → (slice_get d.transfers t ≡ Some y) × (y.endpoint ≢ e)
  was_transfer t y there held =
      some_held e (is_told x) (slice_get d.transfers t) y (sym (slice_get-map (let_go e (is_told x)) d.transfers t) ∙ ap (λ (ts : List Transfer). slice_get ts t) (sym g.transfers) ∙ there) held

  -- the endpoint of a transfer that is held wasn't given back
  holder_kept : (t : ℕ) (y : Transfer) (z : Endpoint) → slice_get d.transfers t ≡ Some y → y.released ≡ false → slice_get d.endpoints y.endpoint ≡ Some z → z.gone ≡ false
  holder_kept t y z there held at = by z.gone refl
    where
      by : (b : Bool) → z.gone ≡ b → z.gone ≡ false
      by false is = is
      by true is = absurd (true≢false (sym (turns.turns.returned t (turn_of y) z (ap (option_map turn_of) there) at is).released ∙ held))

  fed_after : AreFed d parts → AreFed f now
  fed_after old = record {
    dummies = λ k z there kept lent.
        let other = other_by k z there kept in
        let at = was k z there other in
        ap (λ (part : Structures). part (32 * z.dummy)) (beside k z at kept other) ∙ old.dummies k z at kept (g.slots z.dummy lent);
    pieces = λ t i y z there held at from below.
        let w = was_transfer t y there held in
        let z_at = was y.endpoint z at w.1 in
        let zero = all_published d t y may in
        subst (λ (part : Structures). IsPieceFed y.sort part (sized y.sort i (note_at f.notes (piece_at (note_in f.notes) y.first i))) (piece_at (note_in f.notes) y.first i) (piece_at (note_in f.notes) y.first y.qtds)) (sym (beside y.endpoint z z_at (holder_kept t y z w.0 held z_at) w.1))
        (subst (λ (ns : List QtdNote). IsPieceFed y.sort (parts (32 * z.queue)) (sized y.sort i (note_at ns (piece_at (note_in ns) y.first i))) (piece_at (note_in ns) y.first i) (piece_at (note_in ns) y.first y.qtds)) (sym g.notes)
        (old.pieces t i y z w.0 held z_at (omega (arith, zero)) below));
    publishes = λ b words is. absurd (not_publish f.command b words may_now is);
  }

  last_after : (order : ℕ → ℕ → ℕ) → AreLast d parts order → AreLast f now order
  last_after order old = record {
    dummies = λ k z there kept lent.
        let other = other_by k z there kept in
        let at = was k z there other in
        subst (λ (part : Structures). IsLast (order (32 * z.queue)) part (32 * z.dummy)) (sym (beside k z at kept other)) (old.dummies k z at kept (g.slots z.dummy lent));
    taken = λ b words t y z is. absurd (not_publish f.command b words may_now is);
    sorted = λ b words t y z is. absurd (not_publish f.command b words may_now is);
  }

  out_after : (k : ℕ) → k ≢ e → out_now f k ≡ out_now d k
  out_after k other =
      out_is_all f k may_now ∙ ap (λ (ns : List QtdNote). out_of (note_in ns) k None 0 f.transfers) g.notes ∙ ap (λ (ts : List Transfer). out_of (note_in d.notes) k None 0 ts) g.transfers
      ∙ out_others (note_in d.notes) e k (is_told x) d.transfers other ∙ sym (out_is_all d k may)

  still_out_after : (out : ℕ → List ℕ) → AreStillOut d out → AreStillOut f out
  still_out_after out old k z there t =
      let other = other_by k z there t.kept in
      old k z (was k z there other) (there_by d z may t.kept) ∙ sym (out_after k other)

  -- ---- fronts and tails

  none_now : (i t : ℕ) → slice_get f.harvested i ≡ Some t → ⊥
  none_now i t at = nothing_at d.harvested i t none (ap (λ (hs : List ℕ). slice_get hs i) (sym g.harvested) ∙ at)

  abbrev stands_after : (part : Structures) (o : ℕ → ℕ) (out : List ℕ) (k : ℕ) (z : Endpoint) → StandsAt d part o out k z → StandsAt f part o out k z
  stands_after part o out k z s = record {
    front = s.front;
    has = s.has;
    ended = λ i t y at. absurd (none_now i t at);
    passed = λ i t j y at. absurd (none_now i t at);
  }

  fronts_after : (order : ℕ → ℕ → ℕ) (out : ℕ → List ℕ) → FrontsStand d parts order out → FrontsStand f now order out
  fronts_after order out old k z there m =
      let other = other_by k z there m.there.kept in
      let at = was k z there other in
      subst (λ (part : Structures). StandsAt f part (order (32 * z.queue)) (out (32 * z.queue)) k z) (sym (beside k z at m.there.kept other))
      (stands_after (parts (32 * z.queue)) (order (32 * z.queue)) (out (32 * z.queue)) k z (old k z at (met_back k z m)))

  reaches_after : (part : Structures) (o : ℕ → ℕ) (out : List ℕ) (k : ℕ) (z : Endpoint) → Reaches d part o out k z (32 * z.dummy) → Reaches f part o out k z (32 * z.dummy)
  reaches_after part o out k z r = record { stands = stands_after part o out k z r.stands; within = r.within; tail = r.tail }

  tails_after : (order : ℕ → ℕ → ℕ) (out : ℕ → List ℕ) → IdleTailsStand d parts order out → IdleTailsStand f now order out
  tails_after order out old k z there m =
      let other = other_by k z there m.there.kept in
      let at = was k z there other in
      subst (λ (part : Structures). Reaches f part (order (32 * z.queue)) (out (32 * z.queue)) k z (32 * z.dummy)) (sym (beside k z at m.there.kept other))
      (reaches_after (parts (32 * z.queue)) (order (32 * z.queue)) (out (32 * z.queue)) k z (old k z at (met_back k z m)))

  pub all_after : (member streams : ℕ → Bool) (ends : ℕ → Told) (order : ℕ → ℕ → ℕ) (out : ℕ → List ℕ) → AllStand d member streams ends parts order out → AllStand f member streams ends now order out
  all_after member streams ends order out old = record {
    queues = record {
      met = met_after member old.queues.met;
      streams_are = streams_after streams ends old.queues.streams_are;
      fed = fed_after old.queues.fed;
      last = last_after order old.queues.last;
      out_are = still_out_after out old.queues.out_are;
    };
    fronts = fronts_after order out old.fronts;
    tails = tails_after order out old.tails;
  }

pub endpoint_release_stands : EndpointReleaseStands
endpoint_release_stands p e x member streams ends parts order out idle owners turns leave old =
    all_after p.driver (after_driver_row (endpoint_row e) p).driver e x parts (given_back p e x leave.here) idle owners turns leave.here (cleared_is p.driver 0 e x owners.orderly leave.first leave.here) leave.none_before
    member streams ends order out old
