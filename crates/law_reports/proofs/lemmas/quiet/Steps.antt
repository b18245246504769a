-- Each event of the driver, and each command, leaves errors: what is new has three.
use Rattle.std.proofs.Common.{◌≡◌, ◌≢◌, ℕ, suc, ◌*◌, ◌≤◌, Bool, true, false, List, [], ◌∷◌, slice_set, ◌++◌, Option}
use Rattle.std.proofs.Common.{Some, None, Result, Ok, Err, ap, refl, sym, subst, ◌∙◌, ⊎_elim, inl, inr, arith}
use Rattle.std.specs.Prelude.{zero, is_none, if◌then◌else◌}
use Rattle.std.proofs.lemmas.Bool.{true≢false}
use Rattle.usb_base.specs.declared.commands.Cmd.{Cmd}
use Rattle.usb_base.specs.declared.endpoints.EpName.{EpName}
use Rattle.usb_base.specs.declared.reports.OfferError.{OfferError}
use Rattle.link_words.specs.declared.fields.LinkBits.{LinkBits}
use Rattle.qh_qtd.specs.declared.qtd.Qtd.{Qtd}
use Rattle.qh_qtd.specs.declared.queue_head.Qh.{Qh}
use Rattle.qh_qtd.specs.Qtd.{qtd_words, IsQtdInRange}
use Rattle.drv_table.specs.declared.content.Command.{Command}
use Rattle.drv_table.specs.declared.content.Command.TheVariants as unfinished
use Rattle.drv_table.specs.declared.content.QtdNote.{QtdNote}
use Rattle.drv_table.specs.declared.content.Stage.{Stage}
use Rattle.drv_table.specs.DriverContent.{DriverContent}
use Rattle.drv_table.specs.Accepting.{Offered}
use Rattle.drv_table.specs.Offers.{is_last, offered}
use Rattle.drv_table.specs.CancelOffers.{with_cancel, endpoint_members}
use Rattle.drv_periodic_table.specs.declared.content.Removed.TheVariants as removed
use Rattle.drv_table.specs.Commands.{finished, leave_frames, no_command, or_finished, removal_of}
use Rattle.drv_table.specs.declared.content.Endpoint.{Endpoint}
use Rattle.drv_table.specs.Rows.{driver_row}
use Rattle.drv_table.specs.Words.{dummy_qtd, to_queue_head}
use Rattle.claims_driver.specs.Owners.{runs_of_endpoint, runs_of_transfer}
use Rattle.law_driver.specs.queued_drivers.Queued.{queued, queued_command, queued_made}
use Rattle.law_driver.specs.run_owners.Accepts.{Accepts, opens as accepts_open, chains, places, transfers, describes, cancels, unchains}
use Rattle.law_driver.proofs.lemmas.run_owners.Commands.{each_command_has_its_reason}
use Rattle.law_structures.specs.lent_structures.Structures.{QueueHead, Element, StructureSets, put}
use Rattle.law_ring.specs.Hand.{Hand}
use Rattle.law_ring.specs.Stores.{hand_linked, hand_stale}
use Rattle.law_frames.specs.FrameHand.{FrameHand, OfQueue, OfSettled, OfItd, OfSitd}
use Rattle.law_frames.specs.FrameHand.FrameHand.{Nothing as NoneHeld}
use Rattle.law_controller.specs.frame_control.Joined.{joined}
use Rattle.law_controller.specs.frame_stores.Stores.{frame_linked}
use Rattle.law_driver_ring.specs.Pieces.{stage_qtd}
use Rattle.law_driver_ring.specs.TransferLaws.{items_of, lent_memory}
use Rattle.law_driver_ring.proofs.Lots.{IsItem, all_found}
use Rattle.law_ring.specs.Together.{Item}
use Rattle.hc_copy.specs.Planning.{pid_at}
use Rattle.usb_base.specs.declared.packets.Pid.TheVariants.{Setup}
use Rattle.law_reports.proofs.lemmas.quiet.Setups.{IsWholeSetup, stages_whole, items_are, items_no_head}
use Rattle.law_driver_ring.specs.Published.{partly}
use Rattle.law_driver_ring.specs.Released.{goes_of}
use Rattle.law_driver_ring.specs.fed_queues.Fed.{IsPublished}
use Rattle.law_queues.specs.fed_lends.ToLend.{IsToBeLent}
use Rattle.law_queues.specs.lent_fronts.Stands.{parts_with}
use Rattle.law_queues.specs.mended_heads.Mended.{IsAtMend, mended_by, head_at, parts_then as parts_mended}
use Rattle.law_queues.specs.open_laws.Queues.{IsOpenToLend, parts_opened}
use Rattle.law_queues.specs.publish_laws.Stores.{parts_then as parts_stored}
use Rattle.bus_world.specs.World.{World, driver_parts, driver_next, name_in, commanded_by, commanded}
use Rattle.law_world.specs.memory.Mixed.{Standing, IsMixedAt, IsUnderWay}
use Rattle.law_world.specs.memory.Steps.{HandStays, same_hand, linked_hand, FrameStays, same_frame, linked_frame, AreTold}
use Rattle.law_world.specs.memory.Steps.{IsNextStore, QueueStep, stays, harvests, returns, lends, stores, mends, begins, opens, unlinks}
use Rattle.law_world.specs.memory.Steps.{narrows, goes}
use Rattle.law_world.specs.memory.SameQueues.{IsRelinked}
use Rattle.law_reports.specs.quiet.Errors.{Key, key_of, TokenHasLeft, PartHasLeft, HandHasLeft, IsFirstQtd, PublishesLeft}
use Rattle.law_reports.proofs.lemmas.pipes.Across.{StaysOrEnds, row_command}
use Rattle.law_reports.proofs.lemmas.pipes.NewHeads.{IsReadyHead, none_told, r as ready_head, one_queue, head_is}
use Rattle.law_reports.proofs.lemmas.quiet.Writing.{head_put, element_put, part_fewer, without_left, linked_left, stale_left}
use Rattle.law_queues.proofs.Common.{one_qtd}
use Rattle.law_reports.proofs.lemmas.requests.Awaited.{ranged}

-- ---- what is in hand

module _ (Q : Key → Bool) where
  Has : Hand → FrameHand → Type 0
  Has hand frame = HandHasLeft Q (joined hand frame)

  hand_on : (n : ℕ) (l : LinkBits) (hand : Hand) (frame : FrameHand) → Has hand frame → Has (hand_linked n l hand) frame
  unfolding Has
  hand_on n l hand NoneHeld k = linked_left Q n l hand k
  hand_on n l hand (OfQueue c made) k = k
  hand_on n l hand (OfSettled c s made) k = k
  hand_on n l hand (OfItd c) k = linked_left Q n l hand k
  hand_on n l hand (OfSitd c) k = linked_left Q n l hand k

  frame_on : (n : ℕ) (l : LinkBits) (hand : Hand) (frame : FrameHand) → Has hand frame → Has hand (frame_linked n l frame)
  unfolding Has
  frame_on n l hand NoneHeld k = k
  frame_on n l hand (OfQueue c made) k = tt
  frame_on n l hand (OfSettled c s made) k = linked_left Q n l (joined hand (OfSettled c s made)) k
  frame_on n l hand (OfItd c) k = k
  frame_on n l hand (OfSitd c) k = k

  stale_on : (n : ℕ) (hand : Hand) (frame : FrameHand) → Has hand frame → Has (hand_stale n hand) frame
  unfolding Has
  stale_on n hand NoneHeld k = stale_left Q n hand k
  stale_on n hand (OfQueue c made) k = k
  stale_on n hand (OfSettled c s made) k = k
  stale_on n hand (OfItd c) k = stale_left Q n hand k
  stale_on n hand (OfSitd c) k = stale_left Q n hand k

  hand_told : (hand later : Hand) (frame : FrameHand) → HandStays hand later → Has hand frame → Has later frame
  hand_told hand _ frame same_hand k = k
  hand_told hand _ frame (linked_hand n l) k = hand_on n l hand frame k

  frame_told : (hand : Hand) (frame later : FrameHand) → FrameStays frame later → Has hand frame → Has hand later
  frame_told hand frame _ same_frame k = k
  frame_told hand frame _ (linked_frame n l) k = frame_on n l hand frame k

  -- ---- new qTDs

  idle_left : (x : Key) → TokenHasLeft Q x dummy_qtd.token
  idle_left x = record {
    met = λ high. refl;
    going = λ on act. absurd (true≢false (sym act));
    stopped = λ on act. absurd (true≢false
        (sym act));
    setup = λ on pid act. absurd (true≢false (sym act));
  }

  stage_left : (x : Key) (notes : List QtdNote) (s : Stage) (b dummy : ℕ) (last : Bool) → IsWholeSetup s
      → TokenHasLeft Q x (stage_qtd notes s b dummy last).token
  stage_left x notes s b dummy last whole = record {
    met = λ high. refl;
    going = λ on act none. three none;
    stopped = λ on act. absurd
        (true≢false (sym act));
    setup = λ on pid act. whole pid;
  }
    where
      three : ◌≡◌ {A = ℕ} 3 0 → ⊥
      three e = cc

  partly_left : (x : Key) (t : Qtd) (k : ℕ) → TokenHasLeft Q x t.token → TokenHasLeft Q x (partly t k).token
  partly_left x t (suc (suc (suc (suc (suc (suc (suc (suc k)))))))) new = new
  partly_left x t _ new = idle_left x

-- ---- the command that is unfinished

abbrev publishes : Option Command → Bool
publishes (Some (unfinished.Publish b words)) = true
publishes _ = false

pub none_left : (made : ℕ) (c : Option Command) → publishes c ≡ false → PublishesLeft made c
none_left made (Some (unfinished.Publish b words)) none = absurd (true≢false none)
none_left made (Some (unfinished.Open b)) none = tt
none_left made (Some (unfinished.Unlink e b link)) none = tt
none_left made (Some unfinished.Chain) none = tt
none_left made (Some (unfinished.Iso e t count)) none = tt
none_left made (Some (unfinished.Unchain e)) none = tt
none_left made None none = tt

module _ (s : Standing) (w : World) (mixed : IsMixedAt s w) where
  -- the first qTD of what is to be lent is a new one
  lent_left : (b : ℕ) (words : List ℕ) → IsToBeLent (queued w.driver) w.memory b words → (t : Qtd) → words ≡ qtd_words t → IsQtdInRange t
      → IsFirstQtd t
  lent_left b words get t is range =
      let d = queued w.driver in
      let sound = mixed.now.framed.place.sound in
      let setup : Qtd = stage_qtd d.notes get.stage get.transfer.first get.endpoint.dummy (is_last get.further) in
      subst IsFirstQtd
      (sym (one_qtd t setup range (ranged d w.memory sound.stands sound.shape get.stage get.transfer.first get.endpoint.dummy
      (is_last get.further)
      get.awaits.pids.0 get.awaits.short.0 get.awaits.noted.0) (sym is ∙ get.are)))
      (record {
        met = refl;
        goes = refl;
        counts = λ none. three none;
        begins = refl;
        setup = λ pid. (stages_whole get.endpoint.desc.name.way (get.stage ∷ get.further) get.stages).0 pid;
      })
    where
      three : ◌≡◌ {A = ℕ} 3 0 → ⊥
      three e = cc

  by_command : (c new : Option Command) (made : ℕ) → w.driver.command ≡ c → IsUnderWay w.driver w.memory s.member s.recent s.parts c
      → PublishesLeft w.driver.made c → StaysOrEnds c new → PublishesLeft made new
  by_command c _ made is u old (inr none) = subst (PublishesLeft made) (sym none) tt
  by_command (Some (unfinished.Publish b words)) _ made is u old (inl same) =
      subst (PublishesLeft made) (sym same)
      (λ some t are range.
      ⊎_elim (λ (get : IsToBeLent (queued w.driver) w.memory b words). lent_left b words get t are range)
      (λ (one : 1 ≤ w.driver.made). old one t are range) u)
  by_command (Some (unfinished.Open b)) _ made is u old (inl same) = subst (PublishesLeft made) (sym same) tt
  by_command (Some (unfinished.Unlink e b link)) _ made is u old (inl same) = subst (PublishesLeft made) (sym same) tt
  by_command (Some unfinished.Chain) _ made is u old (inl same) = subst (PublishesLeft made) (sym same) tt
  by_command (Some (unfinished.Iso e t count)) _ made is u old (inl same) = subst (PublishesLeft made) (sym same) tt
  by_command (Some (unfinished.Unchain e)) _ made is u old (inl same) = subst (PublishesLeft made) (sym same) tt
  by_command None _ made is u old (inl same) = subst (PublishesLeft made) (sym same) tt

  pub driver_publishes : PublishesLeft w.driver.made w.driver.command
      → PublishesLeft (driver_next w).driver.made (driver_next w).driver.command
  driver_publishes old =
      by_command w.driver.command (driver_next w).driver.command (driver_next w).driver.made refl mixed.under_way old
      (row_command (driver_row (driver_parts w)) (driver_parts w))

-- .. of a command that is accepted none of its events is made yet
zero_made : (made : ℕ) (c : Option Command) → made ≡ 0 → PublishesLeft made c
zero_made made (Some (unfinished.Publish b words)) none = λ some. absurd (omega (arith, some, none))
zero_made made (Some (unfinished.Open b)) none = tt
zero_made made (Some (unfinished.Unlink e b link)) none = tt
zero_made made (Some unfinished.Chain) none = tt
zero_made made (Some (unfinished.Iso e t count)) none = tt
zero_made made (Some (unfinished.Unchain e)) none = tt
zero_made made None none = tt

unchained : (d : DriverContent) (e : ℕ) (o : Option Endpoint) → publishes d.command ≡ false → publishes (leave_frames d e o).command ≡ false
unchained d e None none = none
unchained d e (Some x) none = by x.chained
  where
    by : (b : Bool) → publishes (if b then record d {
      endpoints = slice_set d.endpoints e (record x { chained = false });
      periodic = record d.periodic { removals = d.periodic.removals ++ removal_of (removed.Endpoint e) ∷ [] };
    } else d).command ≡ false
    by true = none
    by false = none

ended : (d : DriverContent) (c : Command) → publishes (finished d c).command ≡ false → publishes d.command ≡ false
    → publishes (or_finished d c).command ≡ false
ended d c one two = by (is_none d.periodic.list.work)
  where
    by : (b : Bool) → publishes (if b then finished d c else d).command ≡ false
    by true = one
    by false = two

accepted_publishes : (d : DriverContent) (w : World) (o : Offered) → Accepts d w.memory o → PublishesLeft o.driver.made o.driver.command
accepted_publishes d w o (accepts_open k) = zero_made o.driver.made o.driver.command (ap (λ (z : Offered). z.driver.made) k.is)
accepted_publishes d w o (chains k) = zero_made o.driver.made o.driver.command (ap (λ (z : Offered). z.driver.made) k.is)
accepted_publishes d w o (places k) = none_left o.driver.made o.driver.command (ap (λ (z : Offered). publishes z.driver.command) k.is
    ∙ ap publishes k.idle)
accepted_publishes d w o (transfers k) = zero_made o.driver.made o.driver.command (ap (λ (z : Offered). z.driver.made) k.is)
accepted_publishes d w o (describes k) = none_left o.driver.made o.driver.command (ap (λ (z : Offered). publishes z.driver.command) k.is)
accepted_publishes d w o (cancels k) = none_left o.driver.made o.driver.command (ap (λ (z : Offered). publishes z.driver.command) k.is)
accepted_publishes d w o (unchains k) =
    none_left o.driver.made o.driver.command
    (ap (λ (z : Offered). publishes z.driver.command) k.is
    ∙ ended (with_cancel d k.number k.endpoint (endpoint_members d k.number k.endpoint k.placement)) (unfinished.Unchain k.number)
    (unchained (no_command (with_cancel d k.number k.endpoint (endpoint_members d k.number k.endpoint k.placement))) k.number _ refl) refl)

pub command_by : (w : World) (line : ℕ) (cmd : Cmd) (name : EpName) (r : Result Offered OfferError) → offered w.driver w.memory cmd ≡ r
    → PublishesLeft w.driver.made w.driver.command
    → PublishesLeft (commanded_by w line name r).driver.made (commanded_by w line name r).driver.command
command_by w line cmd name (Ok o) is old = accepted_publishes w.driver w o (each_command_has_its_reason w.driver w.memory cmd o is)
command_by w line cmd name (Err why) is old = old

pub command_publishes : (w : World) (line : ℕ) (cmd : Cmd) → PublishesLeft w.driver.made w.driver.command
    → PublishesLeft (commanded w line cmd).driver.made (commanded w line cmd).driver.command
command_publishes w line cmd old = command_by w line cmd (name_in cmd) (offered w.driver w.memory cmd) refl old

-- ---- the structures

module _ (Q : Key → Bool) (s : Standing) (w : World) (mixed : IsMixedAt s w) (k : (n : ℕ) → PartHasLeft Q n (s.parts n)) where
  told_parts_left : (t : Standing) → AreTold s t → (n : ℕ) → PartHasLeft Q n (t.parts n)
  told_parts_left t told n =
      part_fewer Q n (s.parts n) (t.parts n)
      (λ q here. let was : IsRelinked (s.parts n) n q = (told.parts n).head_was q here in (was.link, was.here))
      (λ a u here. (told.parts n).elements_were a u here) (k n)

  -- ---- a transfer is lent

  module _ (b : ℕ) (words : List ℕ) (get : IsToBeLent (queued w.driver) w.memory b words) where
    abbrev d : DriverContent
    d = queued w.driver

    abbrev own : ℕ
    own = 32 * get.endpoint.queue

    abbrev items : List Item
    items = items_of (queued w.driver) w.memory (runs_of_transfer get.transfer) (runs_of_endpoint get.endpoint) get.stage get.further

    item_left : (x : Key) (a : ℕ) (u : Qtd) → IsItem items a (Element u) → TokenHasLeft Q x u.token
    item_left x a u there =
        items_are (λ (t : Qtd). TokenHasLeft Q x t.token) d.notes get.endpoint.dummy (idle_left Q x)
        (λ z c last whole. stage_left Q x d.notes z c get.endpoint.dummy last whole) (lent_memory (queued w.driver) w.memory) get.stage
        get.further get.transfer.first a u
        (stages_whole get.endpoint.desc.name.way (get.stage ∷ get.further) get.stages).1 there

    head_was : (n : ℕ) (q : Qh) → parts_with get s.parts n n ≡ Some (QueueHead q) → s.parts n n ≡ Some (QueueHead q)
    head_was n q here =
        ⊎_elim (λ (new : (n ≡ own) × IsItem items n (QueueHead q)).
        absurd (items_no_head d.notes get.endpoint.dummy
        (lent_memory (queued w.driver) w.memory) get.stage get.further get.transfer.first n q
        new.1))
        (λ (old : s.parts n n ≡ Some (QueueHead q)). old) (all_found s.parts own items n n (QueueHead q) here)

    lent_parts : (n : ℕ) → PartHasLeft Q n (parts_with get s.parts n)
    lent_parts n = record {
      head = λ q here. (k n).head q (head_was n q here);
      elements = λ q a u here there.
          ⊎_elim (λ (new : (n ≡ own) × IsItem items a (Element u)). item_left (key_of q) a u new.1)
          (λ (old : s.parts n a ≡ Some (Element u)). (k n).elements q a u (head_was n q here) old)
          (all_found s.parts own items n a (Element u) there);
    }

  -- ---- an endpoint's structures are lent

  begun_parts : (at : IsOpenToLend (queued w.driver) w.memory) (n : ℕ) → PartHasLeft Q n (parts_opened at s.parts n)
  begun_parts at n =
      let m = 32 * at.endpoint.queue in
      let r : IsReadyHead w.driver w.memory = ready_head s w mixed at in
      let is : at.queue ≡ r.queue = head_is s w mixed at in
      let blank : (a : ℕ) → s.parts (32 * at.endpoint.queue) a ≡ None = λ a.
      ap (λ (q : ℕ). s.parts (32 * q) a) (one_queue s w mixed at) ∙ none_told s w mixed r a in
      let new : TokenHasLeft Q (key_of at.queue) at.queue.token = record {
        met = λ high. ap (λ (q : Qh). q.token.missed) is ∙ r.fresh.0;
        going = λ on act. absurd (true≢false (sym act ∙ at.rests.idle));
        stopped = λ on act. absurd (true≢false (sym act ∙ ap (λ (q : Qh). q.token.halted) is ∙ r.fresh.1));
        setup = λ on pid act. absurd (true≢false (sym act ∙ at.rests.idle));
      } in
      element_put Q (put s.parts m m (QueueHead at.queue)) m (32 * at.endpoint.dummy) dummy_qtd (λ q here. idle_left Q (key_of q)) n
      (head_put Q s.parts m m at.queue new (λ t b here. absurd (nothing t (sym (blank b) ∙ here))) n (k n))
    where
      nothing : (t : Qtd) → None ≡ Some (Element t) → ⊥
      nothing t e = cc

  -- ---- a halted queue head is mended

  mended_token : (x : Key) (b made : ℕ) (q : Qh) → TokenHasLeft Q x q.token → TokenHasLeft Q x (mended_by b made q).token
  mended_token x b zero q old = old
  mended_token x b (suc zero) q old = old
  mended_token x b (suc (suc made)) q old = idle_left Q x

  mended_key : (b made : ℕ) (q : Qh) → key_of (mended_by b made q) ≡ key_of q
  mended_key b zero q = refl
  mended_key b (suc zero) q = refl
  mended_key b (suc (suc made)) q = refl

  mended_parts : (at : IsAtMend (driver_parts w) s.parts s.out) (n : ℕ) → PartHasLeft Q n (parts_mended at n)
  mended_parts at n =
      let m = 32 * at.stalled.queue in
      let q = head_at at in
      let new = mended_by at.stalled.onward at.stalled.made q in
      let here : s.parts m m ≡ Some (QueueHead q) = at.are.wait.0.stands.here in
      let same : key_of new ≡ key_of q = mended_key at.stalled.onward at.stalled.made q in
      head_put Q s.parts m m new
      (subst (λ (x : Key). TokenHasLeft Q x new.token) (sym same) (mended_token (key_of q) at.stalled.onward at.stalled.made q
      ((k m).head q here)))
      (λ t b there. subst (λ (x : Key). TokenHasLeft Q x t.token) (sym same) ((k m).elements q b t here there)) n (k n)

  -- ---- a word of the first qTD of a transfer is stored

  module _ (new : World) (b : ℕ) (words : List ℕ) (g : IsPublished (queued w.driver) s.parts b words)
      (is : IsNextStore s w new b words g) where
    first_by : (c : Option Command) → queued_command w.driver.endpoints c ≡ Some (unfinished.Publish b words)
        → 1 ≤ queued_made c w.driver.made → PublishesLeft w.driver.made c
        → IsFirstQtd g.qtd
    first_by (Some (unfinished.Publish c others)) same some old = old some g.qtd (its_words c others same ∙ g.are) g.range
      where
        its_words : (c : ℕ) (others : List ℕ) → ◌≡◌ {A = Option Command} (Some (unfinished.Publish c others)) (Some
            (unfinished.Publish b words)) → others ≡ words
        its_words c others e = cc
    first_by (Some (unfinished.Open c)) same some old = absurd (cc)
    first_by (Some (unfinished.Unlink e c link)) same some old = absurd (cc)
    first_by (Some unfinished.Chain) same some old = absurd (cc)
    first_by (Some (unfinished.Iso e t count)) same some old = absurd (cc)
    first_by (Some (unfinished.Unchain e)) same some old = absurd (cc)
    first_by None same some old = absurd (cc)

    stored_parts_left : PublishesLeft w.driver.made w.driver.command → (n : ℕ) → PartHasLeft Q n (parts_stored g n)
    stored_parts_left first n =
        let f = first_by w.driver.command is.command is.made first in
        element_put Q s.parts (32 * g.endpoint.queue) (32 * b) (partly g.qtd (queued w.driver).made)
        (λ q here. partly_left Q (key_of q) g.qtd (queued w.driver).made
        (record {
          met = λ high. f.met;
          going = λ on act. f.counts;
          stopped = λ on act. absurd (true≢false (sym act ∙ f.goes));
          setup = λ on pid act. f.setup pid;
        })) n (k n)

  -- ---- a step

  pub step_parts : (new : World) (t : Standing) → PublishesLeft w.driver.made w.driver.command → QueueStep s w new t
      → (n : ℕ) → PartHasLeft Q n (t.parts n)
  step_parts new t first (stays _ none still) n = told_parts_left t still.told n
  step_parts new _ first (harvests e u found due later row after) n = k n
  step_parts new _ first (returns u y x row r) n = without_left Q s.parts (32 * x.queue) (goes_of w.driver y) n (k n)
  step_parts new _ first (lends b words get order out row behind) n = lent_parts b words get n
  step_parts new _ first (stores b words g is) n = stored_parts_left new b words g is first n
  step_parts new _ first (mends at row) n = mended_parts at n
  step_parts new _ first (begins at row alike) n = begun_parts at n
  step_parts new t first (opens at _ alike opened) n = told_parts_left t opened.told n
  step_parts new _ first (unlinks at row) n =
      let m = 32 * at.before in
      head_put Q s.parts m m (record at.queue { link = to_queue_head at.after }) ((k m).head at.queue at.head)
      (λ u c there. (k m).elements at.queue c u at.head there) n (k n)
  step_parts new _ first (narrows member near row are fewer) n = k n
  step_parts new t first (goes e x d _ back is) n =
      subst (λ (ps : StructureSets). PartHasLeft Q n (ps n)) (sym is.parts) (without_left Q s.parts (32 * x.queue) (λ a. true) n (k n))

  pub step_hand : (new : World) (t : Standing) → QueueStep s w new t → HandHasLeft Q (joined s.hand s.frame)
      → HandHasLeft Q (joined t.hand t.frame)
  unfolding Has
  step_hand new t (stays _ none still) had =
      frame_told Q t.hand s.frame t.frame still.told.frame (hand_told Q s.hand t.hand s.frame still.told.hand had)
  step_hand new _ (harvests e u found due later row after) had = had
  step_hand new _ (returns u y x row r) had = had
  step_hand new _ (lends b words get order out row behind) had = had
  step_hand new _ (stores b words g is) had = had
  step_hand new _ (mends at row) had = stale_on Q (32 * at.stalled.queue) s.hand s.frame had
  step_hand new _ (begins at row alike) had = had
  step_hand new t (opens at _ alike opened) had =
      frame_told Q t.hand s.frame t.frame opened.told.frame (hand_told Q s.hand t.hand s.frame opened.told.hand had)
  step_hand new _ (unlinks at row) had = hand_on Q (32 * at.before) (to_queue_head at.after) s.hand s.frame had
  step_hand new _ (narrows member near row are fewer) had = had
  step_hand new t (goes e x d _ back is) had =
      subst (λ (f : FrameHand). HandHasLeft Q (joined t.hand f)) (sym is.frame)
      (subst (λ (h : Hand). HandHasLeft Q (joined h s.frame)) (sym is.hand) had)
