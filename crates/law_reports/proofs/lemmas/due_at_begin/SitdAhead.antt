-- The words of a siTD stay, but for its link, while no event of the controller is at it: an event of the driver stores its link alone, and
-- a command stores nothing there (EHCI 1.0, 3.4, 4.4, 4.6 and 4.12.3).
use Rattle.std.proofs.Common.{◌≡◌, ◌≢◌, ℕ, ◌+◌, ◌*◌, ◌/◌, ◌<◌, ◌≤◌, Bool, true, List, [], ◌∷◌, slice_index, Option, Some, Result}
use Rattle.std.proofs.Common.{Ok, Err, option_map, ap, refl, sym, subst, ◌∙◌, arith, if◌then◌else◌}
use Rattle.law_common.proofs.Options.{none_some}
use Rattle.law_common.proofs.Numbers.{same_blocks}
use Rattle.law_microframes.proofs.Common.{idle_by}
use Rattle.usb_base.specs.declared.commands.Cmd.{Cmd}
use Rattle.usb_base.specs.declared.reports.OfferError.{OfferError}
use Rattle.word_mem.specs.Memory.{Mem, word_at}
use Rattle.word_mem.proofs.Words.{get_or-words_in}
use Rattle.link_words.specs.declared.kinds.Link.{Link}
use Rattle.link_words.specs.declared.kinds.Link.TheVariants as links
use Rattle.itd_sitd.specs.declared.sitd.Sitd.{Sitd}
use Rattle.itd_sitd.specs.Sitd.{IsSitdInRange, sitd_words, sitd_at as fields_of}
use Rattle.itd_sitd.proofs.SitdLaws.{sitd_read-words, sitd_read-is}
use Rattle.mem_queues.specs.Structures.{queue_head_at_address}
use Rattle.mem_descriptors.specs.Descriptors.{itd_at_address, sitd_at_address}
use Rattle.mem_runs.specs.Book.{holding, slot_of}
use Rattle.periodic_walk.specs.declared.chain.ChainRow.TheVariants as chains
use Rattle.periodic_walk.specs.Chain.{chain_row, sitd_fetch}
use Rattle.periodic_walk.specs.Walk.{held_address}
use Rattle.hc_core.specs.declared.controller.ControllerRow.TheVariants as rows
use Rattle.drv_periodic_table.specs.Periodic.{note_at}
use Rattle.drv_table.specs.Accepting.{Offered}
use Rattle.drv_table.specs.declared.content.Mend.{Mend}
use Rattle.drv_table.specs.declared.rows.DriverRow.TheVariants as driver_rows
use Rattle.drv_table.specs.Offers.{offered}
use Rattle.drv_table.specs.Rows.{driver_row}
use Rattle.claims_driver.specs.Owners.{HasBlocks, SlotHas, runs_of_transfer, views_of}
use Rattle.law_driver.proofs.lemmas.ring_members.Aside.{list_apart}
use Rattle.law_driver.proofs.lemmas.ring_members.Placed.{has_first}
use Rattle.law_driver.proofs.lemmas.run_owners.Commands.{each_command_has_its_reason}
use Rattle.law_driver.proofs.lemmas.run_owners.Reasons.{each_event_is_due}
use Rattle.law_driver.proofs.lemmas.run_owners.Runs.{placed_run}
use Rattle.bus_wire.specs.Bus.{Fixed}
use Rattle.bus_world.specs.World.{World, controller_parts, controller_row, controller_next, driver_parts, driver_next, commanded}
use Rattle.bus_world.specs.World.{commanded_by, name_in}
use Rattle.claims_base.specs.Controller.{opening_base}
use Rattle.claims_world.specs.Reach.{Reaches, SitdAt}
use Rattle.claims_world.specs.SlotsAtBegin.{IsLinkedAs, IsDescriptorOfEndpoint}
use Rattle.claims_world.specs.Visits.{fetched_by}
use Rattle.law_structures.specs.lent_structures.Structures.{SplitIsochronous, HoldsSplitIsochronous}
use Rattle.law_structures.proofs.lemmas.lent_structures.Reading.{sitd_read_there}
use Rattle.law_frames.specs.Met.{Kind, AQueue, AnItd, ASitd, IsMetSitd, LeadsTo}
use Rattle.law_controller.specs.frame_control.Both.{RunsBoth}
use Rattle.law_descriptors.specs.Both.{both}
use Rattle.law_descriptors.specs.Meeting.{met}
use Rattle.law_world.specs.memory.Mixed.{IsMixedWorld}
use Rattle.law_world.proofs.lemmas.memory.LeavesLent.{leaves_lent}
use Rattle.law_microframes.specs.visits.OneDescriptor.{IsActiveSome}
use Rattle.law_microframes.proofs.lemmas.time.SitdWords.{read_one}
use Rattle.law_microframes.proofs.lemmas.visits.BelongItdCommands.{old_words}
use Rattle.law_microframes.proofs.lemmas.visits.BelongItdRows.{not_mended}
use Rattle.law_microframes.proofs.lemmas.visits.BelongRows.{row_leaves}
use Rattle.law_microframes.proofs.lemmas.visits.OneDescriptorMet.{met_split_is_active}
use Rattle.law_reports.proofs.lemmas.due_at_begin.Reached.{descriptor_met}
use Rattle.law_reports.proofs.lemmas.due_at_begin.DescriptorThere.{IsItsMember, its_member, its_owner}
use Rattle.law_reports.proofs.lemmas.due_at_begin.Elsewhere.{walk, holds_then}
use Rattle.law_reports.proofs.lemmas.due_at_begin.SlotAhead.{itd_at, queue_at, sitd_at}

-- ---- what its words tell

-- the words of the siTD at n are those of v, but for the link
pub record IsSitdThere (m : Mem) (n : ℕ) (v : Sitd) : Type 0 where
  pub range : IsSitdInRange v
  pub words : (i : ℕ) → 1 ≤ i → i < 7 → word_at m (n + 4 * i) ≡ slice_index (sitd_words v) i

pub sitd_there : (m : Mem) (n : ℕ) (v : Sitd) → HoldsSplitIsochronous m n v → IsSitdThere m n v
sitd_there m n v h = record {
  range = h.range;
  words = λ i some few. sym (get_or-words_in m.words n 7 i few) ∙ ap (λ (ws : List ℕ). slice_index ws i) h.words;
}

there_still : (m new : Mem) (n : ℕ) (v : Sitd) → ((i : ℕ) → 1 ≤ i → i < 7 → word_at new (n + 4 * i) ≡ word_at m (n + 4 * i))
    → IsSitdThere m n v → IsSitdThere new n v
there_still m new n v same k = record { range = k.range; words = λ i some few. same i some few ∙ k.words i some few }

-- a siTD is this one, but for its link
abbrev pub IsRelinked : Sitd → Sitd → Type 0
IsRelinked v x = x ≡ record v { link = x.link }

abbrev Six : List ℕ → ℕ → ℕ → ℕ → ℕ → ℕ → ℕ → Type 0
Six ws a b c d e f = fields_of ws ≡ record (fields_of (0 ∷ a ∷ b ∷ c ∷ d ∷ e ∷ f ∷ [])) { link = (fields_of ws).link }

six_same : (ws : List ℕ)
    → Six ws (slice_index ws 1) (slice_index ws 2) (slice_index ws 3) (slice_index ws 4) (slice_index ws 5) (slice_index ws 6)
unfolding fields_of
six_same ws = refl

six_of : (ws vs : List ℕ)
    → Six ws (slice_index vs 1) (slice_index vs 2) (slice_index vs 3) (slice_index vs 4) (slice_index vs 5) (slice_index vs 6)
    → fields_of ws ≡ record (fields_of vs) { link = (fields_of ws).link }
unfolding fields_of
six_of ws vs is = is

relinked_words : (ws vs : List ℕ) → ((i : ℕ) → 1 ≤ i → i < 7 → slice_index ws i ≡ slice_index vs i)
    → fields_of ws ≡ record (fields_of vs) { link = (fields_of ws).link }
relinked_words ws vs same =
    six_of ws vs
    (subst (λ (f : ℕ). Six ws (slice_index vs 1) (slice_index vs 2) (slice_index vs 3) (slice_index vs 4) (slice_index vs 5) f)
    (same 6 (omega arith) (omega arith))
    (subst (λ (e : ℕ). Six ws (slice_index vs 1) (slice_index vs 2) (slice_index vs 3) (slice_index vs 4) e (slice_index ws 6))
    (same 5 (omega arith) (omega arith))
    (subst (λ (d : ℕ). Six ws (slice_index vs 1) (slice_index vs 2) (slice_index vs 3) d (slice_index ws 5) (slice_index ws 6))
    (same 4 (omega arith) (omega arith))
    (subst (λ (c : ℕ). Six ws (slice_index vs 1) (slice_index vs 2) c (slice_index ws 4) (slice_index ws 5) (slice_index ws 6))
    (same 3 (omega arith) (omega arith))
    (subst (λ (b : ℕ). Six ws (slice_index vs 1) b (slice_index ws 3) (slice_index ws 4) (slice_index ws 5) (slice_index ws 6))
    (same 2 (omega arith) (omega arith))
    (subst (λ (a : ℕ). Six ws a (slice_index ws 2) (slice_index ws 3) (slice_index ws 4) (slice_index ws 5) (slice_index ws 6))
    (same 1 (omega arith) (omega arith)) (six_same ws)))))))

by_its_words : (v : Sitd) → IsSitdInRange v → v ≡ fields_of (sitd_words v)
by_its_words v range = sitd_read-is (sitd_words v) v (sitd_read-words v range)

pub is_relinked : (m : Mem) (n : ℕ) (v x : Sitd) → IsSitdThere m n v → HoldsSplitIsochronous m n x → IsRelinked v x
is_relinked m n v x k h =
    let here : IsSitdThere m n x = sitd_there m n x h in
    let one : x ≡ fields_of (sitd_words x) = by_its_words x h.range in
    let all : fields_of (sitd_words x) ≡ record (fields_of (sitd_words v)) { link = (fields_of (sitd_words x)).link } =
    relinked_words (sitd_words x) (sitd_words v) (λ i some few. sym (here.words i some few) ∙ k.words i some few) in
    subst (λ (y : Sitd). x ≡ record y { link = x.link }) (sym (by_its_words v k.range))
    (subst (λ (y : Sitd). y ≡ record (fields_of (sitd_words v)) { link = y.link }) (sym one) all)

-- ---- a siTD to which the controller can come

module _ (w : World) (k : IsMixedWorld w) (n : ℕ) (way : Reaches (controller_parts w) (SitdAt n)) where
  runs : RunsBoth opening_base k.standing.member (met w.driver k.standing.recent) (both k.standing.descs k.standing.parts)
      k.standing.hand k.standing.frame (controller_parts w)
  runs = k.mixed.now.framed.runs

  pub its_sitd : IsMetSitd (met w.driver k.standing.recent) n (both k.standing.descs k.standing.parts n)
  its_sitd = runs.members n ASitd (descriptor_met w k n true way)

  its_words : HoldsSplitIsochronous w.memory n its_sitd.sitd
  its_words = runs.ring.tells.each n n (SplitIsochronous its_sitd.sitd) its_sitd.here

  its_read : sitd_at_address w.memory n ≡ Some its_sitd.sitd
  its_read = sitd_read_there w.memory (both k.standing.descs k.standing.parts) n n its_sitd.sitd runs.ring.tells its_sitd.here

  pub read_is_there : (v : Sitd) → sitd_at_address w.memory n ≡ Some v → IsSitdThere w.memory n v
  read_is_there v read =
      subst (IsSitdThere w.memory n) (sym (read_one w.memory n v its_sitd.sitd read its_words))
      (sitd_there w.memory n its_sitd.sitd its_words)

  pub its_relinked : (v : Sitd) → IsSitdThere w.memory n v → IsRelinked v its_sitd.sitd
  its_relinked v there = is_relinked w.memory n v its_sitd.sitd there its_words

  pub active_sitd : (v : Sitd) → v.active ≡ true → IsSitdThere w.memory n v → IsActiveSome w.driver w.memory n
  active_sitd v on there =
      met_split_is_active k.standing w n its_sitd.sitd k.mixed its_sitd.here (ap (λ (x : Sitd). x.active) (its_relinked v there) ∙ on)

-- ---- what the walk fetches there

sitd_or_queue : ◌≡◌ {A = Option Kind} (Some ASitd) (Some AQueue) → ⊥
sitd_or_queue is = cc

sitd_or_itd : ◌≡◌ {A = Option Kind} (Some ASitd) (Some AnItd) → ⊥
sitd_or_itd is = cc

fetched_there : (m : Mem) (met_as : ℕ → Option Kind) (l : Link) (n : ℕ) (v : Sitd) → LeadsTo met_as l → met_as n ≡ Some ASitd
    → sitd_at_address m n ≡ Some v → fetched_by (chain_row m l) ≡ Some n → chain_row m l ≡ chains.Sitd n v
fetched_there m met_as links.End n v leads on read is = absurd (none_some n is)
fetched_there m met_as (links.Sitd a) n v leads on read is =
    ap (λ (i : ℕ). sitd_fetch i (sitd_at_address m i)) (sitd_at a (sitd_at_address m a) n is) ∙ ap (sitd_fetch n) read
fetched_there m met_as (links.Qh a) n v leads on read is =
    absurd (sitd_or_queue (sym on ∙ ap met_as (sym (queue_at a (queue_head_at_address m a) n is)) ∙ leads))
fetched_there m met_as (links.Itd a) n v leads on read is =
    absurd (sitd_or_itd (sym on ∙ ap met_as (sym (itd_at a (itd_at_address m a) n is)) ∙ leads))
fetched_there m met_as (links.Fstn a) n v leads on read is = absurd (none_some n is)

-- ---- an event of the walk of the frames

module _ (fixed : Fixed) (w : World) (k : IsMixedWorld w) (row : controller_row w ≡ rows.Frame) (n : ℕ)
    (way : Reaches (controller_parts w) (SitdAt n)) where
  pub fetched_sitd : fetched_by (chain_row w.memory w.control.frame.cursor) ≡ Some n
      → chain_row w.memory w.control.frame.cursor ≡ chains.Sitd n (its_sitd w k n way).sitd
  fetched_sitd is =
      fetched_there w.memory (met w.driver k.standing.recent) w.control.frame.cursor n (its_sitd w k n way).sitd
      (walk fixed w k row n).cursor (descriptor_met w k n true way) (its_read w k n way) is

  pub walked_sitd : ((a : ℕ) → held_address w.control.frame.hand ≡ Some a → n ≢ a) → (v : Sitd) → IsSitdThere w.memory n v
      → IsSitdThere (controller_next fixed w).memory n v
  walked_sitd apart v there =
      let p = its_sitd w k n way in
      let now : IsSitdThere w.memory n p.sitd = sitd_there w.memory n p.sitd (its_words w k n way) in
      let later : IsSitdThere (controller_next fixed w).memory n p.sitd =
      sitd_there (controller_next fixed w).memory n p.sitd (holds_then fixed w k row n apart (SplitIsochronous p.sitd) p.here) in
      record {
        range = there.range;
        words = λ i some few. later.words i some few ∙ sym (now.words i some few) ∙ there.words i some few;
      }

-- ---- an event of the driver

module _ (w : World) (k : IsMixedWorld w) (e n : ℕ) (o : IsDescriptorOfEndpoint w.driver e n) where
  has_words : (j : ℕ) → j < 7 → SlotHas (slot_of w.driver.book.slots o.transfer.first) ((32 * o.transfer.first + 4 * j) / 32)
  has_words j few =
      let b = o.transfer.first in
      let own : (32 * b + 4 * j) / 32 ≡ b = omega (arith, few) in
      let sound = k.mixed.now.framed.place.sound in
      let run = placed_run b _ (sound.owners.owned.each.described o.number (runs_of_transfer o.transfer)
      (ap (option_map runs_of_transfer) o.here) o.sort o.held).descriptor in
      subst (SlotHas (slot_of w.driver.book.slots b)) (sym own) (has_first (holding w.driver.book w.memory) b sound.stands run)

module _ (w : World) (k : IsMixedWorld w) (e n : ℕ) (o : IsDescriptorOfEndpoint w.driver e n) where
  module _ (later : IsMixedWorld (driver_next w)) (f : ℕ) (z : IsDescriptorOfEndpoint (driver_next w).driver f n) where
    has_then : (j : ℕ) → j < 7
        → SlotHas (slot_of (driver_next w).driver.book.slots o.transfer.first) ((32 * o.transfer.first + 4 * j) / 32)
    has_then j few =
        subst (λ (b : ℕ). SlotHas (slot_of (driver_next w).driver.book.slots b) ((32 * b + 4 * j) / 32))
        (same_blocks z.transfer.first o.transfer.first (sym z.at ∙ o.at)) (has_words (driver_next w) later f n z j few)

    no_mend : (m : Mend) → driver_row (driver_parts w) ≡ driver_rows.Mend m → m.queue ≢ o.transfer.first
    no_mend m is same =
        not_mended k.standing w k.mixed o.number o.transfer o.here o.sort o.held (record { mend = m; row = is; queue = same })

    driven_words : (j : ℕ) → 1 ≤ j → j < 7 → word_at (driver_next w).memory (n + 4 * j) ≡ word_at w.memory (n + 4 * j)
    driven_words j some few =
        let b = o.transfer.first in
        let sound = k.mixed.now.framed.place.sound in
        let its = sound.owners.owned.each.described o.number (runs_of_transfer o.transfer)
        (ap (option_map runs_of_transfer) o.here) o.sort o.held in
        subst (λ (a : ℕ). word_at (driver_next w).memory (a + 4 * j) ≡ word_at w.memory (a + 4 * j)) (sym o.at)
        (row_leaves (driver_parts w) b o.number j ((views_of w.driver).descriptor b).split sound.stands sound.shape sound.owners sound.ring
        (list_apart w.driver w.memory sound.stands sound.shape sound.owners sound.listed) its.descriptor (has_words w k e n o j few) some
        (driver_row (driver_parts w)) (each_event_is_due (driver_parts w)) no_mend (has_then j few))

    driven_by : (v : Sitd) → IsSitdThere w.memory n v → IsSitdThere (driver_next w).memory n v
    driven_by v there = there_still w.memory (driver_next w).memory n v driven_words there

  -- ---- a command

  module _ (split : (note_at w.driver.periodic.notes o.transfer.first).split ≡ true) (line : ℕ) (cmd : Cmd) where
    run : HasBlocks 1 (slot_of w.driver.book.slots o.transfer.first)
    run = subst (λ (b : Bool). HasBlocks (if b then 1 else 2) (slot_of w.driver.book.slots o.transfer.first)) split
        (k.mixed.now.framed.place.sound.owners.owned.each.described o.number (runs_of_transfer o.transfer)
        (ap (option_map runs_of_transfer) o.here) o.sort o.held).descriptor.run

    commanded_words : (j : ℕ) → 1 ≤ j → j < 7
        → word_at (commanded w line cmd).memory (32 * o.transfer.first + 4 * j) ≡ word_at w.memory (32 * o.transfer.first + 4 * j)
    commanded_words j some few = answered (offered w.driver w.memory cmd) refl
      where
        answered : (r : Result Offered OfferError) → offered w.driver w.memory cmd ≡ r
            → word_at (commanded_by w line (name_in cmd) r).memory (32 * o.transfer.first + 4 * j)
            ≡ word_at w.memory (32 * o.transfer.first + 4 * j)
        answered (Err why) is = refl
        answered (Ok z) is =
            let place = k.mixed.now.framed.place in
            let reason = each_command_has_its_reason w.driver w.memory cmd z is in
            old_words w.driver w.memory z.memory o.transfer.first 1 j place (idle_by w.driver w.memory z reason)
            (leaves_lent w.driver w.memory z reason place) run (omega (arith, few))

    commanded_so : (v : Sitd) → IsSitdThere w.memory n v → IsSitdThere (commanded w line cmd).memory n v
    commanded_so v there =
        there_still w.memory (commanded w line cmd).memory n v
        (λ j some few. subst (λ (a : ℕ). word_at (commanded w line cmd).memory (a + 4 * j) ≡ word_at w.memory (a + 4 * j)) (sym o.at)
        (commanded_words j some few)) there

module _ (w : World) (k : IsMixedWorld w) (n : ℕ) (l : IsLinkedAs SitdAt w n) where
  member : IsItsMember true w n
  member = its_member true w k n l

  pub driven_sitd : IsMixedWorld (driver_next w) → IsLinkedAs SitdAt (driver_next w) n → (v : Sitd) → IsSitdThere w.memory n v
      → IsSitdThere (driver_next w).memory n v
  driven_sitd later z =
      let was = its_owner true w k n member in
      let now = its_owner true (driver_next w) later n (its_member true (driver_next w) later n z) in
      driven_by w k was.0 n was.1 later now.0 now.1

  pub commanded_sitd : (line : ℕ) (cmd : Cmd) (v : Sitd) → IsSitdThere w.memory n v → IsSitdThere (commanded w line cmd).memory n v
  commanded_sitd line cmd =
      let was = its_owner true w k n member in
      let at = member.at in
      let its = was.1.at in
      let own : member.descriptor.id / 32 ≡ was.1.transfer.first = omega (arith, at, its) in
      let split : (note_at w.driver.periodic.notes was.1.transfer.first).split ≡ true =
      ap (λ (b : ℕ). (note_at w.driver.periodic.notes b).split) (sym own) ∙ member.its_split in
      commanded_so w k was.0 n was.1 split line cmd
