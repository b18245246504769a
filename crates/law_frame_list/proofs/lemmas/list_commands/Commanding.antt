-- An accepted open or cancel leaves the frame list standing.
use Rattle.std.proofs.Common.{◌≡◌, ◌≢◌, ℕ, ◌*◌, ◌/◌, ◌<◌, true, List, [], ◌∷◌, length, drop, get_or, slice_get, slice_index, Option, Some, None, inl, inr, ap, refl, sym, subst, ◌∙◌, arith}
use Rattle.std.specs.Prelude.{is_none}
use Rattle.std.proofs.lemmas.Bool.{false≢true}
use Rattle.law_frame_list.proofs.Common.{has_run}
use Rattle.law_common.proofs.Booleans.{either}
use Rattle.law_common.proofs.Lists.{drop_first}
use Rattle.word_mem.specs.Memory.{Mem, word_at}
use Rattle.mem_runs.specs.declared.slots.Slot.{Slot}
use Rattle.mem_runs.specs.declared.slots.Slot.TheVariants.{Empty}
use Rattle.mem_runs.specs.Book.{Holding, holding, slot_of, store_words, Stands}
use Rattle.drv_chains.specs.declared.members.Member.{Member}
use Rattle.drv_periodic.specs.Periodic.{Periodic}
use Rattle.drv_periodic_table.specs.Linking.{begun_next}
use Rattle.claims_driver.specs.FrameWords.{IsInOrder, StandFor, ListStands}
use Rattle.qh_qtd.specs.Qtd.{qtd_words}
use Rattle.qh_qtd.specs.QueueHead.{qh_words}
use Rattle.usb_base.specs.declared.endpoints.EpDesc.{EpDesc}
use Rattle.drv_table.specs.declared.content.Endpoint.{Endpoint}
use Rattle.drv_table.specs.declared.content.Command.TheVariants as unfinished
use Rattle.drv_table.specs.DriverContent.{DriverContent}
use Rattle.drv_table.specs.Words.{queue_head, dummy_qtd}
use Rattle.drv_table.specs.Accepting.{Offered, new_runs, newest_of}
use Rattle.drv_table.specs.Offers.{accepted_open, accepted_iso, written_open}
use Rattle.drv_table.specs.CancelOffers.{accepted_cancel, endpoint_members, with_cancel}
use Rattle.drv_table.specs.Commands.{or_finished, finished, no_command, leave_frames}
use Rattle.claims_driver.specs.Owners.{HasRun, SlotHas}
use Rattle.law_driver.specs.run_owners.Accepts.{Opens, Places, Cancels, Unchains}
use Rattle.claims_driver.specs.Leaving.{HasOwners}
use Rattle.law_driver.proofs.lemmas.run_owners.Taking.{AreTaken, runs_taken}
use Rattle.law_driver.specs.listed_members.Members.{IsListed}
use Rattle.law_driver.proofs.lemmas.ring_members.Stores.{slots_apart, words_elsewhere}
use Rattle.law_frame_words.specs.list_words.Spared.{LeavesList}
use Rattle.law_frame_list.proofs.lemmas.list_stands.Listing.{it_stands_where_its_words_are_left}
use Rattle.law_frame_list.proofs.lemmas.list_steps.Stepping.{PeriodicStands, next_stands}
use Rattle.law_frame_list.proofs.lemmas.list_aside.Aside.{rest_leaves}
use Rattle.law_frame_list.specs.list_commands.Kinds.{OpensOrCancels}

abbrev list_of : DriverContent → Periodic
list_of d = d.periodic.list

same_list : (m : Mem) (d e : DriverContent) → list_of e ≡ list_of d → ListStands m d → ListStands m e
same_list m d e same old = record {
  order = subst IsInOrder (sym same) old.order;
  words = subst (λ (p : Periodic). StandFor p (word_at m)) (sym same) old.words;
}

-- ---- an open

no_run : (s : Slot) → s ≡ Empty → HasRun s → ⊥
no_run s is run = subst HasRun is run

open_leaves : (d : DriverContent) (m : Mem) (x : EpDesc) (g : Holding) (bs : List ℕ) → Stands (holding d.book m) → AreTaken (holding d.book m) g (2 ∷ 1 ∷ []) bs → HasOwners d → IsListed d
    → LeavesList d.periodic.list (word_at m) (word_at (written_open g.book g.memory x (newest_of d.endpoints) (get_or bs 0 0) (get_or bs 1 0)))
open_leaves d m x g bs stands taken has listed =
    let queue = get_or bs 0 0 in
    let dummy = get_or bs 1 0 in
    let long = taken.long in
    let apart = slots_apart g taken.stands in
    let head = qh_words (queue_head x (newest_of d.endpoints) dummy) in
    let mid : Mem = store_words g.book g.memory queue (32 * queue) head in
    rest_leaves d m (written_open g.book g.memory x (newest_of d.endpoints) queue dummy)
    (λ c at here.
    let run : HasRun (slot_of d.book.slots c) = has_run (slot_of d.book.slots c) (at / 32) here in
    let there : SlotHas (slot_of g.book.slots c) (at / 32) = subst (λ (s : Slot). SlotHas s (at / 32)) (sym (taken.old c run)) here in
    let apart_from : (i : ℕ) → i < length bs → c ≢ get_or bs i 0 =
    λ i below same. no_run (slot_of d.book.slots (get_or bs i 0)) (taken.fresh i below) (subst (λ (b : ℕ). HasRun (slot_of d.book.slots b)) same run)
    in
    words_elsewhere g.book mid dummy c (32 * dummy) at (qtd_words dummy_qtd) apart (apart_from 1 (omega (arith, long))) there
    ∙ words_elsewhere g.book g.memory queue c (32 * queue) at head apart (apart_from 0 (omega (arith, long))) there
    ∙ ap (λ (ws : List ℕ). slice_index ws (at / 4)) taken.words)
    stands.placed has listed

open_stands : (d : DriverContent) (m : Mem) (o : Offered) → Opens d m o → Stands (holding d.book m) → HasOwners d → IsListed d → ListStands m d → ListStands o.memory o.driver
open_stands d m o why stands has listed old =
    let all = runs_taken (holding d.book m) why.holding_after (2 ∷ 1 ∷ []) stands why.runs in
    let bs = all.blocks in
    let new : new_runs d why.holding_after ≡ bs = ap (drop (length d.book.taken)) all.are.taken ∙ drop_first d.book.taken bs in
    subst (λ (f : Offered). ListStands f.memory f.driver) (sym why.is)
    (subst (λ (rs : List ℕ). ListStands (accepted_open d why.desc why.holding_after (get_or rs 0 0) (get_or rs 1 0)).memory (accepted_open d why.desc why.holding_after (get_or rs 0 0) (get_or rs 1 0)).driver) (sym new)
    (same_list (accepted_open d why.desc why.holding_after (get_or bs 0 0) (get_or bs 1 0)).memory d (accepted_open d why.desc why.holding_after (get_or bs 0 0) (get_or bs 1 0)).driver refl
    (it_stands_where_its_words_are_left d m (accepted_open d why.desc why.holding_after (get_or bs 0 0) (get_or bs 1 0)).memory (open_leaves d m why.desc why.holding_after bs stands all.are has listed) old)))

-- ---- commands that write no word

place_stands : (d : DriverContent) (m : Mem) (o : Offered) → Places d m o → ListStands m d → ListStands o.memory o.driver
place_stands d m o why old = subst (λ (f : Offered). ListStands f.memory f.driver) (sym why.is) (same_list m d (accepted_iso d why.desc why.placement) refl old)

cancel_stands : (d : DriverContent) (m : Mem) (o : Offered) → Cancels d m o → ListStands m d → ListStands o.memory o.driver
cancel_stands d m o why old = subst (λ (f : Offered). ListStands f.memory f.driver) (sym why.is) (same_list m d (accepted_cancel d why.number why.endpoint) refl old)

frames_list : (d : DriverContent) (e : ℕ) (o : Option Endpoint) → list_of (leave_frames d e o) ≡ list_of d
frames_list d e None = refl
frames_list d e (Some x) = either (λ (f : DriverContent). list_of f ≡ list_of d) x.chained _ d refl refl

begun_stands : (d : DriverContent) (m : Mem) (e : ℕ) (x : Endpoint) (ms : List Member) → ListStands m d → ListStands m (with_cancel d e x ms)
begun_stands d m e x ms old =
    let next : PeriodicStands (word_at m) (begun_next true (record d.periodic { queued = ms })).list =
    next_stands (word_at m) true (record d.periodic { queued = ms }) (record { order = old.order; words = old.words }) (λ y ys queued off. absurd (false≢true (sym off)))
    in record { order = next.order; words = next.words }

ended_stands : (d : DriverContent) (m : Mem) (e : ℕ) → ListStands m d → ListStands m (or_finished d (unfinished.Unchain e))
ended_stands d m e old =
    either (ListStands m) (is_none d.periodic.list.work) (finished d (unfinished.Unchain e)) d
    (same_list m d (finished d (unfinished.Unchain e)) (frames_list (no_command d) e (slice_get d.endpoints e)) old) old

unchain_stands : (d : DriverContent) (m : Mem) (o : Offered) → Unchains d m o → ListStands m d → ListStands o.memory o.driver
unchain_stands d m o why old =
    subst (λ (f : Offered). ListStands f.memory f.driver) (sym why.is)
    (ended_stands (with_cancel d why.number why.endpoint (endpoint_members d why.number why.endpoint why.placement)) m why.number
    (begun_stands d m why.number why.endpoint (endpoint_members d why.number why.endpoint why.placement) old))

pub opens_and_cancels_keep_it_standing : (d : DriverContent) (m : Mem) (o : Offered) → OpensOrCancels d m o → Stands (holding d.book m) → HasOwners d → IsListed d → ListStands m d → ListStands o.memory o.driver
opens_and_cancels_keep_it_standing d m o (inl why) stands has listed old = open_stands d m o why stands has listed old
opens_and_cancels_keep_it_standing d m o (inr (inl why)) stands has listed old = place_stands d m o why old
opens_and_cancels_keep_it_standing d m o (inr (inr (inl why))) stands has listed old = cancel_stands d m o why old
opens_and_cancels_keep_it_standing d m o (inr (inr (inr why))) stands has listed old = unchain_stands d m o why old
