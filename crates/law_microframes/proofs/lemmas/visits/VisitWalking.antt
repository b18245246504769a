-- What was visited stays behind the walk of the frames, whatever event of the controller comes (EHCI 1.0, 4.6, 4.7, 4.10 and 4.12).
use Rattle.std.proofs.Common.{◌≡◌, ℕ, ◌<◌, Bool, true, false, List, [], ◌∷◌, Option, Some, None, ap, refl, sym, subst, ◌∙◌}
use Rattle.std.specs.List.{AllByRecursion}
use Rattle.law_microframes.proofs.Common.{all_higher}
use Rattle.law_controller.proofs.Common.{over_not_periodic}
use Rattle.law_microframes.proofs.Common.{in_list, none_higher}
use Rattle.usb_base.specs.declared.packets.Ask.{Ask}
use Rattle.usb_base.specs.declared.packets.Reply.{Reply}
use Rattle.word_mem.specs.Memory.{word_at, reaches}
use Rattle.link_words.specs.declared.kinds.Link.{Link}
use Rattle.link_words.specs.Links.{link_of, link_read}
use Rattle.drv_chains.specs.declared.members.Member.{Member}
use Rattle.op_registers.specs.Events.{after_begin}
use Rattle.hc_iso.specs.Itd.{fetched_itd}
use Rattle.async_walk.specs.declared.state.WalkStep.{WalkStep}
use Rattle.async_walk.specs.declared.state.WalkStep.TheVariants as steps
use Rattle.periodic_walk.specs.declared.state.Hand.{Hand}
use Rattle.periodic_walk.specs.declared.chain.ChainRow.{ChainRow}
use Rattle.periodic_walk.specs.declared.chain.ChainRow.TheVariants as chains
use Rattle.periodic_walk.specs.Walk.{Walk as FrameWalk}
use Rattle.periodic_walk.specs.Place.{FramePlace, HasEffect}
use Rattle.periodic_walk.specs.Chain.{chain_row, chain_walk, chain_step}
use Rattle.periodic_walk.specs.Rows.{step_at, effect_at}
use Rattle.hc_core.specs.declared.controller.MicroframePart.TheVariants.{Over, Periodic, Asynchronous}
use Rattle.hc_core.specs.declared.controller.ControllerRow.{ControllerRow}
use Rattle.hc_core.specs.declared.controller.ControllerRow.TheVariants as rows
use Rattle.hc_core.specs.Controller.{Control, Content, element_address, begun_at, ended, entered, frame_place, walk_step, part_after, Walks, HasRow}
use Rattle.drv_table.specs.DriverContent.{DriverContent}
use Rattle.law_frames.specs.Met.{Kind}
use Rattle.law_descriptors.specs.Meeting.{met, no_recent}
use Rattle.law_world.specs.memory.framed_memory.Now.{recent_then}
use Rattle.law_microframes.specs.visits.Ranks.{name_of, next_of, height_to, IsRanked}
use Rattle.claims_world.specs.Visits.{fetched_by, visited_too, visits_at, visits_after, frame_in}
use Rattle.law_microframes.specs.visits.Visited.{link_held, link_ahead, IsNext, WasVisited, IsBehind}
use Rattle.law_microframes.proofs.lemmas.visits.VisitSteps.{Goes, hand_goes, led_on}
use Rattle.law_microframes.proofs.lemmas.visits.VisitLinks.{IsReadAt, queue_is_read, itd_is_read, sitd_is_read}

-- ---- parts of a microframe

pub async_no : (kind : WalkStep) → part_after Asynchronous kind ≡ Periodic → ⊥
async_no steps.Fetch e = cc
async_no _ e = cc

-- ---- an event

module _ {W : Type 0} (begins_with : W → ℕ → Bool → W → Type 0) (transacts : W → Ask → List ℕ → Reply → W → Type 0) (d : DriverContent) (left : ℕ → Option Kind) (kept : ℕ → Bool) (height : ℕ → ℕ)
    (who : ℕ → Member) (c : Content) (wire : W) (n : Content) (after : W) (vs : List ℕ) (ranked : IsRanked c.memory d kept height who) (b : IsBehind d left kept height who c.control vs)
    (left_within : (a : ℕ) → kept a ≡ true → (kind : Kind) × (met d left a ≡ Some kind)) where
  abbrev Behind : Control → List ℕ → Type 0
  Behind to xs = IsBehind d left kept height who to xs

  -- the periodic part is over
  over : (to : Control) → (to.part ≡ Periodic → ⊥) → to.frame.index ≡ c.control.frame.index → Behind to vs
  over to out same = record {
    once = b.once;
    were = subst (λ (i : ℕ). AllByRecursion (WasVisited d left who (frame_in i)) vs) (sym same) b.were;
    next = λ k part is. absurd (out part);
  }

  -- a structure is fetched
  fetched : (a : ℕ) (link : Link) → c.control.part ≡ Periodic → c.control.frame.hand ≡ None → IsReadAt c.memory c.control.frame.cursor a link → n.control.frame.index ≡ c.control.frame.index
      → link_ahead n.control.frame.hand n.control.frame.cursor ≡ link → Behind n.control (a ∷ vs)
  fetched a link periodic held read same ahead =
      let f : ℕ = frame_in c.control.frame.index in
      let here : IsNext kept height who (frame_in c.control.frame.index) vs a
      = b.next a periodic (ap (λ o. name_of (link_ahead o c.control.frame.cursor)) held ∙ read.name) in
      let there = left_within a here.is_kept in
      let one : WasVisited d left who (frame_in c.control.frame.index) a
      = record { kind = there.0; is_met = there.1; named = ranked.named a here.is_kept; stands = here.stands } in
      record {
        once = (none_higher height a vs here.below, b.once);
        were = subst (λ (i : ℕ). AllByRecursion (WasVisited d left who (frame_in i)) (a ∷ vs)) (sym same) (one, b.were);
        next = λ k part is.
            (let next_is : next_of c.memory a ≡ Some k = ap name_of (sym read.next) ∙ (ap name_of (sym ahead) ∙ is) in
            let falls : height k < height a = subst (λ (o : Option ℕ). height_to height o < height a) next_is (ranked.falls a here.is_kept) in
            subst (λ (i : ℕ). IsNext kept height who (frame_in i) (a ∷ vs) k) (sym same)
            (record {
              is_kept = ranked.closed a k here.is_kept next_is;
              stands = ranked.shares a k (frame_in c.control.frame.index) (in_list c.control.frame.index) here.is_kept next_is here.stands;
              below = (falls, all_higher height k a vs falls here.below);
            }));
      }

  by_chain : (r : ChainRow) → chain_row c.memory c.control.frame.cursor ≡ r → c.control.part ≡ Periodic → c.control.frame.hand ≡ None → n.control.frame ≡ chain_walk r c.control.frame
      → n.control.part ≡ part_after Periodic (chain_step r) → Behind n.control (visited_too (fetched_by r) vs)
  unfolding fetched_itd
  by_chain (chains.Queue a q) is periodic held walk part =
      fetched a (link_of q.link) periodic held (queue_is_read c.memory c.control.frame.cursor a q is) (ap (λ (x : FrameWalk). x.index) walk) (ap (λ (x : FrameWalk). link_ahead x.hand x.cursor) walk)
  by_chain (chains.Itd a v) is periodic held walk part =
      fetched a (link_of v.link) periodic held (itd_is_read c.memory c.control.frame.cursor a v is) (ap (λ (x : FrameWalk). x.index) walk) (ap (λ (x : FrameWalk). link_ahead x.hand x.cursor) walk)
  by_chain (chains.Sitd a v) is periodic held walk part =
      fetched a (link_of v.link) periodic held (sitd_is_read c.memory c.control.frame.cursor a v is) (ap (λ (x : FrameWalk). x.index) walk) (ap (λ (x : FrameWalk). link_ahead x.hand x.cursor) walk)
  by_chain _ is periodic held walk part = over n.control (λ on. over_not_periodic (sym part ∙ on)) (ap (λ (x : FrameWalk). x.index) walk)

  by_hand : (o : Option Hand) → c.control.frame.hand ≡ o → c.control.part ≡ Periodic → n.control.part ≡ part_after Periodic (step_at (frame_place c) o)
      → HasEffect transacts (effect_at (frame_place c) o) wire (frame_place n) after → Behind n.control (visits_at o (chain_row c.memory c.control.frame.cursor) vs)
  by_hand None held periodic part made =
      by_chain (chain_row c.memory c.control.frame.cursor) refl periodic held (ap (λ (p : FramePlace). p.walk) made.0) part
  by_hand (Some hand) held periodic part made =
      let go : Goes (link_held hand) c.control.frame.index (step_at (frame_place c) (Some hand)) (frame_place n)
      = led_on transacts (link_held hand) c.control.frame.index (step_at (frame_place c) (Some hand)) (effect_at (frame_place c) (Some hand)) wire (frame_place n) after
      (hand_goes (frame_place c) hand) made in
      record {
        once = b.once;
        were = subst (λ (i : ℕ). AllByRecursion (WasVisited d left who (frame_in i)) vs) (sym go.index_stays) b.were;
        next = λ k on is.
            (let old : IsNext kept height who (frame_in c.control.frame.index) vs k
            = b.next k periodic (ap (λ o. name_of (link_ahead o c.control.frame.cursor)) held ∙ (ap name_of (sym (go.ahead (sym part ∙ on))) ∙ is)) in
            subst (λ (i : ℕ). IsNext kept height who (frame_in i) vs k) (sym go.index_stays) old);
      }

  -- ---- a microframe begins

  abbrev First : Type 0
  First = (k : ℕ) → name_of (link_read (word_at c.memory (element_address (after_begin c.registers)))) ≡ Some k
      → IsNext kept height who (frame_in (after_begin c.registers).frame_index) [] k

  begun : (reached allowed : Bool) → c.control.part ≡ Over
      → ((k : ℕ) → name_of (link_read (word_at c.memory (element_address (after_begin c.registers)))) ≡ Some k → IsNext kept height who (frame_in (after_begin c.registers).frame_index) [] k)
      → IsBehind d no_recent kept height who (begun_at reached allowed (record c { registers = after_begin c.registers })).control []
  begun true allowed is_over first = record { once = tt; were = tt; next = λ k part is. first k is }
  begun false allowed is_over first = record { once = tt; were = tt; next = λ k part is. absurd (over_not_periodic (sym is_over ∙ part)) }

  -- ---- each row

  walked : (old : Content) → old.control.frame.index ≡ c.control.frame.index → Walks transacts old wire n after → Behind n.control vs
  walked old same row = over n.control (λ on. async_no (walk_step old) (sym row.part ∙ on)) (ap (λ (x : FrameWalk). x.index) row.frame ∙ same)

  pub behind_next : (r : ControllerRow) → (r ≡ rows.Begin → c.control.part ≡ Over) → (r ≡ rows.Frame → c.control.part ≡ Periodic)
      → ((k : ℕ) → name_of (link_read (word_at c.memory (element_address (after_begin c.registers)))) ≡ Some k → IsNext kept height who (frame_in (after_begin c.registers).frame_index) [] k)
      → HasRow begins_with transacts r c wire n after → IsBehind d (recent_then r left) kept height who n.control (visits_after r c vs)
  behind_next rows.Idle begins_over frame_there first row = subst (λ (x : Content). Behind x.control vs) (sym row.0) b
  behind_next rows.Begin begins_over frame_there first row =
      subst (λ (x : Content). IsBehind d no_recent kept height who x.control []) (sym row.contents)
      (begun (reaches c.memory (element_address (after_begin c.registers))) row.allowed (begins_over refl) first)
  behind_next rows.Frame begins_over frame_there first row = by_hand c.control.frame.hand refl (frame_there refl) row.part row.walked
  behind_next rows.Enter begins_over frame_there first row = walked (entered c) refl row
  behind_next rows.Go begins_over frame_there first row = walked c refl row
  behind_next rows.End begins_over frame_there first row = subst (λ (x : Content). Behind x.control vs) (sym row.0) (over (ended c.control) over_not_periodic refl)
