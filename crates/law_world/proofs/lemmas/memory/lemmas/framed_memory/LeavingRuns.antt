-- The controller goes on over the ring and the frames once an endpoint with a queue was given back, whose queue head neither walk may meet; and what was unlinked in this
-- microframe is met further on.
use Rattle.std.proofs.Common.{◌≡◌, ◌≢◌, ℕ, ◌*◌, ◌==◌, Bool, true, false, not, ◌||◌, if◌then◌else◌, List, map, set, slice_get, Option, Some, None, option_map, ⊎_elim, ap, refl, sym, subst, ◌∙◌, arith}
use Rattle.std.proofs.lemmas.Bool.{true≢false, eqb-true, and_parts, cases_eq}
use Rattle.std.proofs.lemmas.Option.{same_Some, slice_get-map}
use Rattle.law_frames.proofs.Common.{none_some}
use Rattle.law_world.proofs.Common.{kept_by}
use Rattle.law_world.proofs.Common2.{no_list}
use Rattle.law_common.proofs.Lists.{set_here, set_there}
use Rattle.mem_runs.specs.Book.{Holding, holding}
use Rattle.async_walk.specs.Rows.{place}
use Rattle.drv_periodic_table.specs.declared.content.Removed.{Removed}
use Rattle.drv_table.specs.declared.content.Endpoint.{Endpoint}
use Rattle.drv_table.specs.declared.content.Transfer.{Transfer}
use Rattle.drv_table.specs.DriverContent.{DriverContent}
use Rattle.drv_table.specs.Releases.{free_endpoint, let_go}
use Rattle.drv_table.specs.Kinds.{is_iso}
use Rattle.claims_driver.specs.Owners.{runs_of_endpoint, views_of}
use Rattle.hc_core.specs.Controller.{Content, walk_place}
use Rattle.law_structures.specs.lent_structures.Structures.{Structures, StructureSets, Tells}
use Rattle.law_ring.specs.Hand.{Hand}
use Rattle.claims_base.specs.Controller.{Base}
use Rattle.law_ring.specs.Ring.{IsRing}
use Rattle.law_world.specs.steps.endpoint_releases.Released.{without_queue}
use Rattle.law_world.proofs.lemmas.steps.lemmas.endpoint_releases.Owning.{queue_beside}
use Rattle.law_driver.specs.in_place.InPlace.{IsInPlace}
use Rattle.law_frames.specs.Met.{Kind, AQueue, IsMetQueue}
use Rattle.law_frames.specs.FrameHand.{FrameHand}
use Rattle.law_controller.specs.frame_control.Both.{RunsBoth}
use Rattle.law_controller.specs.frame_stores.Stores.{LeavesMembers}
use Rattle.law_controller.proofs.lemmas.frame_stores.Beside.{other_owners_leave_ring}
use Rattle.law_descriptors.specs.Described.{AreHeld}
use Rattle.law_descriptors.specs.Both.{both}
use Rattle.law_descriptors.specs.PartLaws.{IsDescribing}
use Rattle.law_descriptors.specs.Told.{IsToldBy, with_memory}
use Rattle.law_descriptors.specs.Meeting.{met}
use Rattle.law_descriptors.specs.Removed.{IsRemovedAt, a_descriptor, a_queue, a_waiting}
use Rattle.law_descriptors.proofs.Rings.{ring_is_of_queues}
use Rattle.law_descriptors.proofs.Telling.{descriptor_found}
use Rattle.law_world.specs.memory.framed_memory.Now.{IsFramedNow}
use Rattle.law_world.proofs.lemmas.memory.lemmas.framed_memory.Moving.{queues_move, StaysSound}
use Rattle.law_world.proofs.lemmas.memory.lemmas.framed_memory.LeavingViews.{IsWithout, queues_told, told_then, held_then}

-- ---- what was unlinked

first_stays : (told b : Bool) (y : Transfer) → (if b then record y { reported = y.reported || told; released = true } else y).first ≡ y.first
first_stays told true y = refl
first_stays told false y = refl

module _ (xs : List Endpoint) (ts : List Transfer) (e : ℕ) (x : Endpoint) (told : Bool) (here : slice_get xs e ≡ Some x) (queued : is_iso x.desc.kind ≡ false) where
  abbrev gone : Endpoint
  gone = record x { gone = true }

  went : (t : ℕ) (y : Transfer) → slice_get ts t ≡ Some y → slice_get (map (let_go e told) ts) t ≡ Some (let_go e told y)
  went t y at = slice_get-map (let_go e told) ts t ∙ ap (option_map (let_go e told)) at

  same_one : (u : ℕ) (z : Endpoint) → slice_get xs u ≡ Some z → u ≡ e → z ≡ x
  same_one u z at same = same_Some z x (sym at ∙ ap (slice_get xs) same ∙ here)

  pub still_removed : (n : ℕ) (what : Removed) → IsRemovedAt xs ts n what → IsRemovedAt (set xs e gone) (map (let_go e told) ts) n what
  still_removed n _ (a_descriptor t y at name) =
      a_descriptor t (let_go e told y) (went t y at) (name ∙ ap (λ (b : ℕ). 32 * b) (sym (first_stays told (y.endpoint == e) y)))
  still_removed n _ (a_queue u z at bulk name) =
      ⊎_elim (λ (same : u ≡ e).
      a_queue u gone (ap (slice_get (set xs e gone)) same ∙ set_here xs e x gone here) queued (name ∙ ap (λ (v : Endpoint). 32 * v.queue) (same_one u z at same)))
      (λ (differs : u ≢ e). a_queue u z (set_there xs e u gone differs ∙ at) bulk name) (cases_eq u e)
  still_removed n _ (a_waiting u t z y at iso there sort waits name) =
      let differs : u ≢ e = λ same. true≢false (sym iso ∙ ap (λ (v : Endpoint). is_iso v.desc.kind) (same_one u z at same) ∙ queued) in
      let of : y.endpoint ≡ u = eqb-true y.endpoint u (and_parts (y.endpoint == u) (not y.reported) waits).0 in
      a_waiting u t z y (set_there xs e u gone differs ∙ at) iso (went t y there ∙ ap Some (kept_by e told y (λ same. differs (sym of ∙ same)))) sort waits name

-- ---- both walks

module _ (base : Base) (member : ℕ → Bool) (recent : ℕ → Option Kind) (descs parts : StructureSets) (hand : Hand) (frame : FrameHand) (c : Content) (d : DriverContent) (e : ℕ) (x : Endpoint) (k : IsFramedNow base member recent descs parts hand frame c d) (here : slice_get d.endpoints e ≡ Some x) (queued : is_iso x.desc.kind ≡ false) (kept : x.gone ≡ false) (off : member (32 * x.queue) ≡ false) (unmet : met d recent (32 * x.queue) ≡ None) (f : DriverContent) (g : IsWithout d c.memory e x f) where
  abbrev n : ℕ
  n = 32 * x.queue

  abbrev now : StructureSets
  now = without_queue parts n

  abbrev freed : Holding
  freed = free_endpoint d e x (holding d.book c.memory)

  old : IsDescribing d descs parts
  old = record { owners = k.framed.place.sound.owners; driven = k.framed.driven; described = k.framed.described }

  pub told_beside : IsToldBy (views_of f) descs now
  told_beside = told_then d c.memory descs parts e x f old k.framed.extents k.framed.place.sound.stands here queued kept g

  descs_told : Tells c.memory descs
  descs_told =
      let tells = k.framed.runs.ring.tells in
      record {
        shape = tells.shape;
        each = λ i a s found. tells.each i a s (descriptor_found d descs parts old i a s found);
        alone = λ i a j b s u l one other has also. tells.alone i a j b s u l (descriptor_found d descs parts old i a s one) (descriptor_found d descs parts old j b u other) has also;
      }

  held : AreHeld freed.memory descs
  held = held_then d c.memory descs parts e x f old k.framed.extents k.framed.place.sound.stands here queued kept g descs_told

  -- ---- the ring

  was : IsRing base member parts hand (walk_place c)
  was = ring_is_of_queues d descs parts base member hand (walk_place c) old k.framed.runs.ring

  stays : LeavesMembers member parts now
  stays i on = queue_beside parts n i (λ same. true≢false (sym on ∙ ap member same ∙ off))

  ring : IsRing base member now hand (place c.control.walk c.registers freed.memory)
  ring = other_owners_leave_ring base member parts now hand (walk_place c) freed.memory was
      (queues_told d c.memory descs parts e x f old k.framed.extents k.framed.place.sound.stands here queued kept g was.tells) stays

  -- ---- the walk of the frames

  sound : StaysSound (met d recent) parts now
  sound i on is =
      let same : now i ≡ parts i = queue_beside parts n i (λ (at : i ≡ n). none_some AQueue (sym unmet ∙ ap (met d recent) (sym at) ∙ on)) in
      (subst (IsMetQueue (met d recent) i) (sym same) is, ap (λ (part : Structures). part i) same)

  apart : base.periodic_list_base ≢ n
  apart same =
      let at = sym same ∙ k.framed.start in
      let first : 0 ≡ x.queue = omega (arith, at) in
      let each = old.owners.owned.each in
      let bare = ap (λ (b : Bool). b || x.gone) queued ∙ kept in
      no_list e (sym each.list.owned ∙ ap old.owners.owner first ∙ (each.queue e (runs_of_endpoint x) (ap (option_map runs_of_endpoint) here) bare).owned)

  list : now base.periodic_list_base base.periodic_list_base ≡ parts base.periodic_list_base base.periodic_list_base
  list = ap (λ (part : Structures). part base.periodic_list_base) (queue_beside parts n base.periodic_list_base apart)

  pub runs_then : IsInPlace freed.memory f → RunsBoth base member (met d recent) (both descs now) hand frame (with_memory c freed.memory)
  runs_then placed =
      let new : IsDescribing f descs now = record { owners = placed.sound.owners; driven = told_beside.driven; described = told_beside.described } in
      queues_move base member (met d recent) descs parts now hand hand (λ i. i) frame c d f freed.memory old new told_beside.extents placed.sound.stands held k.framed.runs ring sound list
