-- Each command, refused or accepted, leaves the fields of the queue heads of interrupt endpoints in memory, and their placements in the plan; a new queue head has its own.
use Rattle.std.proofs.Common.{◌≡◌, ℕ, zero, suc, ◌+◌, ◌*◌, ◌≤◌, max, Bool, true, false, List, [], ◌∷◌, ◌++◌, length, slice_get, slice_index, Option, Some, None, Result, Ok, Err, option_map, ap, refl, sym, subst, ◌∙◌, ⊎_elim, arith}
use Rattle.std.proofs.lemmas.Bool.{true≢false}
use Rattle.law_world.proofs.Common.{multi_few}
use Rattle.law_common.proofs.Lists.{last_of_all, push_which}
use Rattle.usb_base.specs.declared.commands.Cmd.{Cmd}
use Rattle.usb_base.specs.declared.commands.Cmd.TheVariants as commands
use Rattle.usb_base.specs.declared.endpoints.EpName.{EpName}
use Rattle.usb_base.specs.declared.endpoints.EpDesc.{EpDesc}
use Rattle.usb_base.specs.declared.reports.OfferError.{OfferError}
use Rattle.word_mem.specs.Memory.{Mem, word_at}
use Rattle.word_mem.specs.Views.{words_at}
use Rattle.qh_qtd.specs.declared.queue_head.Qh.{Qh}
use Rattle.qh_qtd.specs.QueueHead.{IsQhInRange, qh_words}
use Rattle.qh_qtd.proofs.QhLaws.{qh_read-words}
use Rattle.bandwidth.specs.Placements.{IsWant}
use Rattle.bandwidth.specs.declared.placements.Placement.{Placement}
use Rattle.bandwidth.specs.declared.placements.Placed.{Placed}
use Rattle.drv_periodic_table.specs.Periodic.{is_periodic, want_of, queue_member}
use Rattle.drv_periodic_table.specs.Linking.{new_link}
use Rattle.drv_table.specs.declared.content.Endpoint.{Endpoint}
use Rattle.drv_table.specs.declared.content.Command.TheVariants as unfinished
use Rattle.drv_table.specs.DriverContent.{DriverContent}
use Rattle.drv_table.specs.Words.{interrupt_head}
use Rattle.drv_table.specs.Kinds.{is_iso}
use Rattle.drv_table.specs.Accepting.{Offered, new_runs}
use Rattle.drv_table.specs.Offers.{Asked, offered, IsOffered, new_endpoint, placed_endpoint}
use Rattle.drv_table.specs.CancelOffers.{with_cancel, endpoint_members}
use Rattle.law_driver.specs.run_owners.Accepts.{Accepts, Chains}
use Rattle.law_driver.specs.in_place.InPlace.{IsInPlace}
use Rattle.law_driver.specs.queue_head_words.Overlay.{HasQueueHead, of_endpoint}
use Rattle.law_driver.proofs.lemmas.run_owners.Commands.{each_command_has_its_reason}
use Rattle.law_driver.proofs.lemmas.queue_head_words.Offering.{accepted_leaves}
use Rattle.law_admission.specs.Budgets.{Account, account_of}
use Rattle.law_admission.specs.Opens.{OpenAfter}
use Rattle.law_admission.proofs.Commands.{commands_place_the_best}
use Rattle.law_driver.specs.planned_endpoints.Planned.{IsPlanned}
use Rattle.law_driver.proofs.lemmas.planned_endpoints.Laws.{commands_keep_the_plan}
use Rattle.law_driver.proofs.lemmas.queued_drivers.CommandReasons.{IsNew, in_ring, in_frames, bare, IsTakenOn, IsDescribedAs, IsLeft, from_ring, from_frames, IsReasonOf, reason_of}
use Rattle.law_world.specs.memory.framed_memory.Masks.{HasMasks, AreMasked}
use Rattle.law_world.specs.memory.framed_memory.QueueRows.{chained_head}
use Rattle.law_world.proofs.lemmas.memory.lemmas.framed_memory.Masking.{commands_keep_masks}
use Rattle.law_world.proofs.lemmas.memory.lemmas.framed_memory.Chains.{chain_is_ready}
use Rattle.law_world.proofs.lemmas.memory.lemmas.framed_memory.ChainedRuns.{chained_head_is_in_range}
use Rattle.law_budgets.specs.visit_prices.Spent.{IsAmong, placed_as}
use Rattle.claims_world.specs.FrameHeads.{characteristics_in, capabilities_in}
use Rattle.bus_world.specs.World.{World, name_in, refused_line, commanded_by}
use Rattle.law_world.specs.memory.Mixed.{IsMixedWorld}
use Rattle.law_world.specs.memory.Laws.{IsMixed, OpensMixed}
use Rattle.law_microframes.specs.visits.Belonging.{BelongsTo, placed_of, StaysPlaced, HeadsHaveFields, CommandKeepsFields, CommandKeepsPlaced}
use Rattle.law_microframes.proofs.lemmas.visits.BelongReads.{HasReadFields, fields_read, word_one, word_two}
use Rattle.law_microframes.proofs.lemmas.visits.BelongSeen.{Seen, seen, seen_in, IsSeenIn, seen_set, seen_there, or_done}
use Rattle.law_microframes.proofs.lemmas.visits.BelongPlan.{planned_kept, in_plan}
use Rattle.law_microframes.proofs.lemmas.visits.BelongFields.{FieldsAt, same_words, same_endpoint}
use Rattle.law_microframes.proofs.lemmas.visits.BelongKeeps.{stays_in}

-- ---- the words of a new queue head

read_back : (q : Qh) (first second : ℕ) → IsQhInRange q → slice_index (qh_words q) 1 ≡ first → slice_index (qh_words q) 2 ≡ second → HasReadFields first second q
read_back q first second range one two =
    subst (λ (i : ℕ). HasReadFields first i q) two (subst (λ (i : ℕ). HasReadFields i (slice_index (qh_words q) 2) q) one (fields_read (qh_words q) q (qh_read-words q range)))

-- whatever it leads to
same_first : (x : EpDesc) (p : Placement) (link dummy : ℕ)
    → slice_index (qh_words (interrupt_head x p.smask p.cmask link dummy)) 1 ≡ characteristics_in x
unfolding qh_words
same_first x p link dummy = refl

same_second : (x : EpDesc) (p : Placement) (link dummy : ℕ)
    → slice_index (qh_words (interrupt_head x p.smask p.cmask link dummy)) 2 ≡ capabilities_in x p
unfolding qh_words
same_second x p link dummy = refl

one_or_more : (n : ℕ) → 1 ≤ n → max 1 n ≡ n
one_or_more n some = omega (arith, some)

new_fields : (m : Mem) (b : ℕ) (x : EpDesc) (p : Placement) (link dummy : ℕ) → IsQhInRange (interrupt_head x p.smask p.cmask link dummy) → 1 ≤ x.multi
    → words_at m (32 * b) 12 ≡ qh_words (interrupt_head x p.smask p.cmask link dummy) → FieldsAt m b x p
new_fields m b x p link dummy range some words =
    let q = interrupt_head x p.smask p.cmask link dummy in
    let one : slice_index (qh_words (interrupt_head x p.smask p.cmask link dummy)) 1 ≡ word_at m (32 * b + 4) =
    ap (λ (ws : List ℕ). slice_index ws 1) (sym words) ∙ word_one m.words (32 * b) in
    let two : slice_index (qh_words (interrupt_head x p.smask p.cmask link dummy)) 2 ≡ word_at m (32 * b + 8) =
    ap (λ (ws : List ℕ). slice_index ws 2) (sym words) ∙ word_two m.words (32 * b) in
    let r : HasReadFields (word_at m (32 * b + 4)) (word_at m (32 * b + 8)) q =
    read_back q (word_at m (32 * b + 4)) (word_at m (32 * b + 8)) range one two in
    record {
      speed = sym r.eps;
      longest = sym r.longest;
      multi = ap (max 1) (sym r.mult) ∙ one_or_more x.multi some;
      smask = sym r.smask;
      cmask = sym r.cmask;
      characteristics = sym one ∙ same_first x p link dummy;
      capabilities = sym two ∙ same_second x p link dummy;
    }

-- ---- an accepted command

-- each endpoint is seen as it was
abbrev pub SeesSame : DriverContent → Offered → Type 0
SeesSame d o = (i : ℕ) → seen_in o.driver.endpoints i ≡ seen_in d.endpoints i

-- or one more is at the end
pub record HasPushed (d : DriverContent) (o : Offered) : Type 0 where
  pub new : Endpoint
  pub endpoints : o.driver.endpoints ≡ d.endpoints ++ new ∷ []

module _ (d : DriverContent) (m : Mem) (o : Offered) where
  pub taken_same : (name : EpName) (takes : Endpoint → Bool) (a : Asked) → IsTakenOn d m o name takes a → SeesSame d o
  taken_same name takes a why i =
      ap (λ (g : Offered). seen_in g.driver.endpoints i) (sym (ok_is why.is)) ∙ seen_set d.endpoints why.number i why.endpoint _ why.here refl
    where
      ok_is : {p q : Offered} → ◌≡◌ {A = Result Offered OfferError} (Ok p) (Ok q) → p ≡ q
      ok_is e = cc

  pub described_same : IsDescribedAs d m o → SeesSame d o
  described_same why i = ap (λ (g : Offered). seen_in g.driver.endpoints i) why.is ∙ seen_set d.endpoints why.number i why.endpoint _ why.here refl

  pub left_same : (name : EpName) → IsLeft d m o name → SeesSame d o
  left_same name (from_ring why named) i = ap (λ (g : Offered). seen_in g.driver.endpoints i) why.is ∙ seen_set d.endpoints why.number i why.endpoint _ why.here refl
  left_same name (from_frames why named) i =
      let e = why.number in
      let x = why.endpoint in
      ap (λ (g : Offered). seen_in g.driver.endpoints i) why.is
      ∙ or_done i (with_cancel d e x (endpoint_members d e x why.placement)) (unfinished.Unchain e)
      ∙ seen_set d.endpoints e i x _ why.here refl

  pub opened_new : (x : EpDesc) → IsNew d m o x → HasPushed d o
  opened_new x (in_ring why same) = record { new = _; endpoints = ap (λ (g : Offered). g.driver.endpoints) why.is }
  opened_new x (in_frames why same) = record { new = _; endpoints = ap (λ (g : Offered). g.driver.endpoints) why.is }
  opened_new x (bare why same) = record { new = _; endpoints = ap (λ (g : Offered). g.driver.endpoints) why.is }

pushed_there : {X : Type 0} (xs : List X) (y x : X) (i : ℕ) → slice_get xs i ≡ Some x → slice_get (xs ++ y ∷ []) i ≡ Some x
pushed_there [] y x i here = absurd (cc)
pushed_there (v ∷ xs) y x zero here = here
pushed_there (v ∷ xs) y x (suc i) here = pushed_there xs y x i here

-- ---- the plan has no fewer

abbrev pub KeepsPlan : DriverContent → Offered → Type 0
KeepsPlan d o = (y : Placed) → IsAmong d.periodic.plan.placed y → IsAmong o.driver.periodic.plan.placed y

pub same_plan : (d : DriverContent) (o : Offered) → account_of o.driver ≡ account_of d → KeepsPlan d o
same_plan d o same y at = subst (λ (a : Account). IsAmong a.plan.placed y) (sym same) at

pub open_plan : (d : DriverContent) (x : EpDesc) (o : Offered) (b : Bool) → OpenAfter d x o b → KeepsPlan d o
open_plan d x o true why y at =
    subst (λ (a : Account). IsAmong a.plan.placed y) (sym why.account) (record { place = at.place; there = pushed_there d.periodic.plan.placed _ y at.place at.there })
open_plan d x o false why y at = subst (λ (a : Account). IsAmong a.plan.placed y) (sym why) at

-- ---- the fields

module _ (d : DriverContent) (m : Mem) (o : Offered) (place : IsInPlace m d) (planned : IsPlanned d) (reason : Accepts d m o) (have : HeadsHaveFields d m) where
  old_fields : (e : ℕ) (x : Endpoint) (p : Placement) → slice_get d.endpoints e ≡ Some x → is_iso x.desc.kind ≡ false → x.gone ≡ false → x.placement ≡ Some p → FieldsAt o.memory x.queue x.desc p
  old_fields e x p here queue kept placed =
      let there : HasQueueHead d x.queue = of_endpoint e x here queue kept refl in
      same_words m o.memory x.queue x.desc p (accepted_leaves d m o x.queue 1 reason place.sound.stands place.sound.owners there (omega arith))
      (accepted_leaves d m o x.queue 2 reason place.sound.stands place.sound.owners there (omega arith)) (have e x p here queue kept placed)

  same_fields : IsPlanned o.driver → SeesSame d o → account_of o.driver ≡ account_of d → HeadsHaveFields o.driver o.memory
  same_fields later same account e z p here queue kept placed =
      let of : IsSeenIn d.endpoints e z = seen_there o.driver.endpoints d.endpoints e z (sym (same e)) here in
      let x = of.endpoint in
      let before : x.gone ≡ false = planned_kept d e x _ planned (subst (λ (a : Account). IsAmong a.plan.placed (placed_as e z.desc p)) account (in_plan o.driver e z p later here kept placed)) refl of.here in
      same_endpoint o.memory x z p of.same (old_fields e x p of.here (ap (λ (s : Seen). is_iso s.desc.kind) of.same ∙ queue) before (ap (λ (s : Seen). s.placement) of.same ∙ placed))

  pushed_fields : (y : Endpoint) → o.driver.endpoints ≡ d.endpoints ++ y ∷ [] → ((p : Placement) → is_iso y.desc.kind ≡ false → y.placement ≡ Some p → FieldsAt o.memory y.queue y.desc p)
      → HeadsHaveFields o.driver o.memory
  pushed_fields y are new e z p here queue kept placed =
      ⊎_elim (λ (was : slice_get d.endpoints e ≡ Some z). old_fields e z p was queue kept placed)
      (λ (is : (e ≡ length d.endpoints) × (z ≡ y)).
      subst (λ (v : Endpoint). is_iso v.desc.kind ≡ false → v.placement ≡ Some p → FieldsAt o.memory v.queue v.desc p) (sym is.1) (new p) queue placed)
      (push_which d.endpoints y e z (ap (λ (xs : List Endpoint). slice_get xs e) (sym are) ∙ here))

  none_placed : (p : Placement) → ◌≡◌ {A = Option Placement} None (Some p) → ⊥
  none_placed p is = cc

  placed_is : (p q : Placement) → ◌≡◌ {A = Option Placement} (Some p) (Some q) → p ≡ q
  placed_is p q is = cc

  chain_masks : (why : Chains d m o) → AreMasked o.driver → HasMasks why.placement
  chain_masks why all = last_of_all (λ (y : Placed). HasMasks y.placement) d.periodic.plan.placed _ (subst (λ (g : Offered). AreMasked g.driver) why.is all)

  opened_fields : (x : EpDesc) → IsOffered d.room (commands.OpenEp x) → IsMixed x → AreMasked o.driver → IsNew d m o x → HeadsHaveFields o.driver o.memory
  opened_fields x room fits masks (in_ring why same) =
      pushed_fields (new_endpoint why.desc _ _) (ap (λ (g : Offered). g.driver.endpoints) why.is) (λ p queue placed. absurd (none_placed p placed))
  opened_fields x room fits masks (bare why same) =
      pushed_fields (placed_endpoint why.desc why.placement 0 0) (ap (λ (g : Offered). g.driver.endpoints) why.is) (λ p queue placed. absurd (true≢false (sym why.isochronous ∙ queue)))
  opened_fields x room fits masks (in_frames why same) =
      let queue : ℕ = slice_index (new_runs d why.holding_after) 0 in
      let dummy : ℕ = slice_index (new_runs d why.holding_after) 1 in
      let periodic : is_periodic x.kind ≡ true = ap (λ (y : EpDesc). is_periodic y.kind) (sym same) ∙ why.periodic in
      let want : IsWant (want_of 0 x) = room.3 periodic in
      let link : ℕ = new_link d.periodic.list (queue_member queue why.placement) in
      let range_x : IsQhInRange (interrupt_head x why.placement.smask why.placement.cmask link dummy) =
      chained_head_is_in_range x why.placement link dummy fits.numbers room.1 room.2 (multi_few x.speed x.multi want.multi) (chain_masks why masks) in
      let range : IsQhInRange (chained_head d why.desc why.placement why.holding_after) = subst (λ (y : EpDesc). IsQhInRange (interrupt_head y why.placement.smask why.placement.cmask link dummy)) (sym same) range_x in
      let some : 1 ≤ why.desc.multi = subst (λ (y : EpDesc). 1 ≤ y.multi) (sym same) want.some_multi in
      let opened = chain_is_ready m d o why place.sound.owners place.lent place.sound.stands place.sound.shape range in
      pushed_fields (placed_endpoint why.desc why.placement queue dummy) (ap (λ (g : Offered). g.driver.endpoints) why.is)
      (λ p queued placed. subst (FieldsAt o.memory queue why.desc) (placed_is why.placement p placed) (new_fields o.memory queue why.desc why.placement link dummy range some opened.queue_words))

-- ---- any command

module _ (w : World) (line : ℕ) (cmd : Cmd) (o : Offered) (fits : OpensMixed cmd) (room : IsOffered w.driver.room cmd) (k : IsMixedWorld w) (is : offered w.driver w.memory cmd ≡ Ok o) where
  place : IsInPlace w.memory w.driver
  place = k.mixed.now.framed.place

  planned : IsPlanned w.driver
  planned = k.mixed.now.planned

  later : IsPlanned o.driver
  later = commands_keep_the_plan w.driver w.memory cmd o planned is

  reason : Accepts w.driver w.memory o
  reason = each_command_has_its_reason w.driver w.memory cmd o is

accepted_fields : (w : World) (line : ℕ) (cmd : Cmd) (o : Offered) → OpensMixed cmd → IsOffered w.driver.room cmd → IsMixedWorld w → offered w.driver w.memory cmd ≡ Ok o
    → HeadsHaveFields w.driver w.memory → IsReasonOf w.driver w.memory o cmd → HeadsHaveFields o.driver o.memory
accepted_fields w line (commands.OpenEp x) o fits room k is have why =
    let cmd = commands.OpenEp x in
    opened_fields w.driver w.memory o (place w line cmd o fits room k is) (planned w line cmd o fits room k is) (reason w line cmd o fits room k is) have x room fits
    (commands_keep_masks w.driver w.memory cmd o k.mixed.masks is) why
accepted_fields w line (commands.Get name len by) o fits room k is have why =
    let cmd = commands.Get name len by in
    same_fields w.driver w.memory o (place w line cmd o fits room k is) (planned w line cmd o fits room k is) (reason w line cmd o fits room k is) have (later w line cmd o fits room k is)
    (taken_same w.driver w.memory o name _ _ why) (commands_place_the_best w.driver w.memory cmd o is)
accepted_fields w line (commands.Put name bytes by) o fits room k is have why =
    let cmd = commands.Put name bytes by in
    same_fields w.driver w.memory o (place w line cmd o fits room k is) (planned w line cmd o fits room k is) (reason w line cmd o fits room k is) have (later w line cmd o fits room k is)
    (taken_same w.driver w.memory o name _ _ why) (commands_place_the_best w.driver w.memory cmd o is)
accepted_fields w line (commands.Control name setup bytes) o fits room k is have why =
    let cmd = commands.Control name setup bytes in
    same_fields w.driver w.memory o (place w line cmd o fits room k is) (planned w line cmd o fits room k is) (reason w line cmd o fits room k is) have (later w line cmd o fits room k is)
    (taken_same w.driver w.memory o name _ _ why) (commands_place_the_best w.driver w.memory cmd o is)
accepted_fields w line (commands.Iso name count len seed) o fits room k is have why =
    let cmd = commands.Iso name count len seed in
    same_fields w.driver w.memory o (place w line cmd o fits room k is) (planned w line cmd o fits room k is) (reason w line cmd o fits room k is) have (later w line cmd o fits room k is)
    (described_same w.driver w.memory o why) (commands_place_the_best w.driver w.memory cmd o is)
accepted_fields w line (commands.Cancel name) o fits room k is have why =
    let cmd = commands.Cancel name in
    same_fields w.driver w.memory o (place w line cmd o fits room k is) (planned w line cmd o fits room k is) (reason w line cmd o fits room k is) have (later w line cmd o fits room k is)
    (left_same w.driver w.memory o name why) (commands_place_the_best w.driver w.memory cmd o is)
accepted_fields w line _ o fits room k is have why = absurd why

pub command_keeps_fields : CommandKeepsFields
command_keeps_fields w line cmd fits room k have = by (offered w.driver w.memory cmd) refl
  where
    by : (r : Result Offered OfferError) → offered w.driver w.memory cmd ≡ r → HeadsHaveFields (commanded_by w line (name_in cmd) r).driver (commanded_by w line (name_in cmd) r).memory
    by (Err why) is = have
    by (Ok o) is = accepted_fields w line cmd o fits room k is have (reason_of w.driver w.memory cmd o is)

-- ---- whose is what

pub pushed_seen : (d : DriverContent) (o : Offered) (e : ℕ) (x : Endpoint) → HasPushed d o → slice_get d.endpoints e ≡ Some x → seen_in o.driver.endpoints e ≡ seen_in d.endpoints e
pushed_seen d o e x h here = ap (λ (xs : List Endpoint). seen_in xs e) h.endpoints ∙ ap (option_map seen) (pushed_there d.endpoints h.new x e here ∙ sym here)

pub accepted_belongs : (w : World) (cmd : Cmd) (o : Offered) (n : ℕ) → IsPlanned o.driver → offered w.driver w.memory cmd ≡ Ok o → (b : BelongsTo w.driver n) → IsReasonOf w.driver w.memory o cmd → StaysPlaced b o.driver
accepted_belongs w (commands.OpenEp x) o n later is b why =
    stays_in w.driver o.driver n b later (pushed_seen w.driver o b.number b.endpoint (opened_new w.driver w.memory o x why) b.here)
    (open_plan w.driver x o (is_periodic x.kind) (commands_place_the_best w.driver w.memory (commands.OpenEp x) o is) (placed_of b)
    b.planned)
accepted_belongs w (commands.Get name len by) o n later is b why =
    stays_in w.driver o.driver n b later (taken_same w.driver w.memory o name _ _ why b.number)
    (same_plan w.driver o (commands_place_the_best w.driver w.memory (commands.Get name len by) o is) (placed_of b) b.planned)
accepted_belongs w (commands.Put name bytes by) o n later is b why =
    stays_in w.driver o.driver n b later (taken_same w.driver w.memory o name _ _ why b.number)
    (same_plan w.driver o (commands_place_the_best w.driver w.memory (commands.Put name bytes by) o is) (placed_of b) b.planned)
accepted_belongs w (commands.Control name setup bytes) o n later is b why =
    stays_in w.driver o.driver n b later (taken_same w.driver w.memory o name _ _ why b.number)
    (same_plan w.driver o (commands_place_the_best w.driver w.memory (commands.Control name setup bytes) o is) (placed_of b) b.planned)
accepted_belongs w (commands.Iso name count len seed) o n later is b why =
    stays_in w.driver o.driver n b later (described_same w.driver w.memory o why b.number)
    (same_plan w.driver o (commands_place_the_best w.driver w.memory (commands.Iso name count len seed) o is) (placed_of b) b.planned)
accepted_belongs w (commands.Cancel name) o n later is b why =
    stays_in w.driver o.driver n b later (left_same w.driver w.memory o name why b.number)
    (same_plan w.driver o (commands_place_the_best w.driver w.memory (commands.Cancel name) o is) (placed_of b) b.planned)
accepted_belongs w _ o n later is b why = absurd why

pub command_keeps_placed : CommandKeepsPlaced
command_keeps_placed w line cmd n k b = by (offered w.driver w.memory cmd) refl
  where
    by : (r : Result Offered OfferError) → offered w.driver w.memory cmd ≡ r → StaysPlaced b (commanded_by w line (name_in cmd) r).driver
    by (Err why) is = stays_in w.driver (refused_line w.driver line (name_in cmd) why) n b k.mixed.now.planned refl b.planned
    by (Ok o) is = accepted_belongs w cmd o n (commands_keep_the_plan w.driver w.memory cmd o k.mixed.now.planned is) is b (reason_of w.driver w.memory cmd o is)
