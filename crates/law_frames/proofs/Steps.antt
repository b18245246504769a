-- An event of the walk of the frames with a siTD in hand.
use Rattle.std.proofs.Common.{◌≡◌, ◌≢◌, ℕ, ◌<◌, Bool, true, false, if◌then◌else◌, List, slice_index, Option, Some, None, ap, refl, sym, subst, ◌∙◌, ⊎_elim, arith}
use Rattle.std.specs.Prelude.{nat_lt}
use Rattle.std.proofs.lemmas.Bool.{cases_eq}
use Rattle.std.proofs.lemmas.Option.{same_Some}
use Rattle.law_frames.proofs.Common.{early_below}
use Rattle.usb_base.specs.declared.packets.Ask.{Ask}
use Rattle.usb_base.specs.declared.packets.Reply.{Reply}
use Rattle.usb_base.specs.declared.packets.Reply.TheVariants.{Bytes}
use Rattle.op_registers.specs.RegisterFile.{RegisterFile}
use Rattle.itd_sitd.specs.declared.sitd.Sitd.{Sitd}
use Rattle.hc_copy.specs.Buffer.{Reading, Writing}
use Rattle.hc_interrupt.specs.Turns.{microframe_of}
use Rattle.hc_iso.specs.declared.held.IsoTransaction.{IsoTransaction}
use Rattle.hc_iso.specs.declared.held.SitdTurn.{SitdTurn}
use Rattle.hc_iso.specs.declared.held.SitdTurn.TheVariants as turns
use Rattle.hc_iso.specs.declared.held.SplitOutcome.{SplitOutcome}
use Rattle.hc_iso.specs.declared.held.SplitOutcome.TheVariants.{Failed}
use Rattle.hc_iso.specs.Sitd.{sitd_turn, sitd_transaction, sitd_place}
use Rattle.hc_iso.specs.WriteBack.{bytes_of, sitd_pages, iso_raised, sitd_raised}
use Rattle.async_walk.specs.declared.state.WalkStep.{WalkStep}
use Rattle.async_walk.specs.declared.state.WalkStep.TheVariants as steps
use Rattle.periodic_walk.specs.declared.sitd.SitdRow.TheVariants as rows
use Rattle.periodic_walk.specs.Place.{FramePlace, passed, passing, sent, IsAsked, HasEffect}
use Rattle.periodic_walk.specs.Sitd.{turn_row, settled_row, writing, wrote_at, wrote, wrote_step, sitd_step, sitd_left_by, sitd_effect}
use Rattle.periodic_walk.specs.Rows.{step_of, Leads}
use Rattle.law_structures.specs.lent_structures.Structures.{Structures, StructureSets}
use Rattle.law_structures.specs.lent_structures.WriteBack.{Received}
use Rattle.claims_base.specs.Controller.{base_of}
use Rattle.law_ring.specs.Effects.{AreBytesHeard}
use Rattle.law_frames.specs.Met.{Kind, ASitd, IsMetAs}
use Rattle.law_frames.specs.FrameHand.{SitdCopy, Nothing, OfSitd}
use Rattle.law_frames.specs.Frame.{IsFrame}
use Rattle.law_frames.specs.FrameEffects.{AreReceivedAt, IsWrittenFrom, FrameHappens}
use Rattle.law_frames.specs.FrameEffects.FrameEffect.{passes, makes, writes}
use Rattle.law_frames.specs.FrameEffects.MakesOne.{of_sitd as makes_sitd}
use Rattle.law_frames.specs.FrameEffects.WritesOne.{of_sitd as writes_sitd}
use Rattle.law_frames.specs.FrameEffects.IsWrittenFrom.{made, missed as was_missed}
use Rattle.law_frames.proofs.StepStepping.{step_in_hand, effect_in_hand}
use Rattle.law_frames.specs.SitdBacks.{IsSitdInHand, transacted, missed, received_by, AreReceivedBy, parts_after}
use Rattle.law_frames.proofs.Turned.{transacted_is_in_hand, missed_is_in_hand}
use Rattle.law_frames.proofs.Backs.{sitd_is_sent as sends, received_put, counted, all_written, told_back, met_again, others_stay}

-- the base of the registers stays where an interrupt is raised
raised_base : (v : Sitd) (o : SplitOutcome) (r : RegisterFile) → base_of (sitd_raised v o r) ≡ base_of r
unfolding iso_raised
raised_base v o r = refl

module _ {W : Type 0} (transacts : W → Ask → List ℕ → Reply → W → Type 0) (met : ℕ → Option Kind) (parts : StructureSets) (c : SitdCopy) (p : FramePlace) (wire : W) (new : FramePlace) (after : W) where
  abbrev Happens : WalkStep → Type 0
  Happens kind = FrameHappens transacts met parts (OfSitd c) wire after p new kind

  in_hand : IsFrame met parts (OfSitd c) p → IsSitdInHand met parts p.memory p.walk.reply c
  in_hand frame = record { tells = frame.tells; is_met = frame.members c.held.at ASitd frame.walk.in_hand.on; copied = frame.walk.in_hand }

  -- ---- it is passed

  left_passed : IsFrame met parts (OfSitd c) p → IsFrame met parts Nothing (passing c.held.sitd.link p)
  left_passed frame = record { tells = frame.tells; members = frame.members; walk = record { cursor = frame.walk.in_hand.link; held = refl; in_hand = tt } }

  is_passed : IsFrame met parts (OfSitd c) p → c.held.settled ≡ None → (new ≡ passing c.held.sitd.link p) × (after ≡ wire) → Happens steps.Skip
  is_passed frame none leads = record {
    now = parts;
    later = Nothing;
    frame = subst (λ (x : FramePlace). IsFrame met parts Nothing x) (sym leads.0) (left_passed frame);
    registers = ap (λ (x : FramePlace). base_of x.registers) leads.0;
    effect = passes none refl refl leads.1;
  }

  -- ---- its transaction

  heard_small : AreBytesHeard transacts wire after → (ask : Ask) (out : List ℕ) (reply : Reply) → transacts wire ask out reply after → (i : ℕ) → slice_index (bytes_of reply) i < 256
  heard_small heard ask out (Bytes pid bs) asked i = heard ask out pid bs asked i
  heard_small heard ask out _ asked i = omega arith

  abbrev asking : Reading → Type 0
  asking r = HasEffect transacts (sent r.all (sitd_transaction c.held.sitd).ask r.bytes (sitd_left_by (sitd_transaction c.held.sitd) c.held (record p { memory = r.memory })) (record p { memory = r.memory })) wire new after

  is_made : IsFrame met parts (OfSitd c) p → AreBytesHeard transacts wire after → c.held.settled ≡ None → sitd_turn (microframe_of p.walk.index) c.held.sitd ≡ turns.Work
      → HasEffect transacts (sitd_effect (rows.Transact (sitd_transaction c.held.sitd)) c.held p) wire new after → Happens (sitd_step (rows.Transact (sitd_transaction c.held.sitd)) c.held p)
  is_made frame heard none turn leads =
      let t : IsoTransaction = sitd_transaction c.held.sitd in
      let u : ℕ = microframe_of p.walk.index in
      let k = in_hand frame in
      let read = sends met parts p.memory p.walk.reply c u k none turn in
      let asked : IsAsked transacts t.ask read.out (sitd_left_by t c.held p) wire new after = subst asking read.read leads in
      let small = heard_small heard t.ask read.out asked.reply asked.made in
      let next = transacted_is_in_hand met parts p.memory p.walk.reply asked.reply c u k none turn (early_below p.walk.index) small in
      let left : IsFrame met parts (OfSitd (transacted u asked.reply c)) (sitd_left_by t c.held p asked.reply) = record {
        tells = frame.tells;
        members = frame.members;
        walk = record { cursor = frame.walk.cursor; held = refl; in_hand = next.copied };
      } in
      subst Happens (ap (λ (r : Reading). if r.all then steps.Transact else steps.Fault) (sym read.read))
      (record {
        now = parts;
        later = OfSitd (transacted u asked.reply c);
        frame = subst (λ (x : FramePlace). IsFrame met parts (OfSitd (transacted u asked.reply c)) x) (sym asked.place) left;
        registers = ap (λ (x : FramePlace). base_of x.registers) asked.place;
        effect = makes (makes_sitd (record {
          copy = c;
          in_hand = refl;
          unsettled = none;
          works = turn;
          out = read.out;
          sent = read.are;
          reply = asked.reply;
          asked = asked.made;
          later_is = refl;
        })) refl;
      })

  -- ---- its write-back

  -- whoever is met is sound, with one siTD written back
  members_after : IsFrame met parts (OfSitd c) p → (back : SitdCopy) (o : SplitOutcome) (into : Received) → IsSitdInHand met parts p.memory p.walk.reply back → back.held.settled ≡ Some o
      → AreReceivedBy parts back o p.walk.reply into
      → (n : ℕ) (kind : Kind) → met n ≡ Some kind → IsMetAs met n (parts_after parts back o p.walk.reply into n) kind
  members_after frame back o into k settled received n kind on =
      ⊎_elim (λ (same : n ≡ back.held.at).
      let is : ASitd ≡ kind = same_Some ASitd kind (sym k.copied.on ∙ ap met (sym same) ∙ on) in
      subst (λ (x : Kind). IsMetAs met n (parts_after parts back o p.walk.reply into n) x) is
      (subst (λ (i : ℕ). IsMetAs met i (parts_after parts back o p.walk.reply into i) ASitd) (sym same) (met_again met parts p.memory p.walk.reply back o into k settled received)))
      (λ (differs : n ≢ back.held.at). subst (λ (part : Structures). IsMetAs met n part kind) (sym (others_stay parts back o p.walk.reply into n differs)) (frame.members n kind on)) (cases_eq n back.held.at)

  abbrev after_back : SitdCopy → SplitOutcome → FramePlace
  after_back back o = record p { memory = (writing back.held o p.walk.reply p.memory).memory; walk = passed back.held.sitd.link p.walk; registers = sitd_raised back.held.sitd o p.registers }

  is_written : IsFrame met parts (OfSitd c) p → (back : SitdCopy) (o : SplitOutcome) → IsWrittenFrom p.walk c back → back.held.at ≡ c.held.at
      → back.sitd ≡ c.sitd → IsSitdInHand met parts p.memory p.walk.reply back → back.held.settled ≡ Some o
      → (new ≡ wrote back.held o p) × (after ≡ wire) → Happens (wrote_step back.held o p)
  is_written frame back o from at same k settled leads =
      let w : Writing = writing back.held o p.walk.reply p.memory in
      let put = received_put met parts p.memory p.walk.reply back o k settled in
      let count = counted met parts p.memory p.walk.reply back o k settled in
      let all = all_written met parts p.memory p.walk.reply back o put.0 k put.1 in
      let place : new ≡ after_back back o = leads.0 ∙ ap (λ (b : Bool). wrote_at b back.held o (record p { memory = w.memory })) all in
      let left : IsFrame met (parts_after parts back o p.walk.reply put.0) Nothing (after_back back o) = record {
        tells = told_back met parts p.memory p.walk.reply back o put.0 k settled put.1;
        members = members_after frame back o put.0 k settled put.1;
        walk = record { cursor = k.copied.link; held = refl; in_hand = tt };
      } in
      subst Happens (ap (λ (b : Bool). if b then steps.WriteBack else steps.Fault) (sym all))
      (record {
        now = parts_after parts back o p.walk.reply put.0;
        later = Nothing;
        frame = subst (λ (x : FramePlace). IsFrame met (parts_after parts back o p.walk.reply put.0) Nothing x) (sym place) left;
        registers = ap (λ (x : FramePlace). base_of x.registers) place ∙ raised_base back.held.sitd o p.registers;
        effect = writes (writes_sitd (record {
          copy = c;
          in_hand = refl;
          back = back;
          written = from;
          outcome = o;
          settled = settled;
          into = put.0;
          received_is = subst (λ (n : ℕ). AreReceivedAt (parts n) (sitd_pages back.held.sitd) (sitd_place back.held.sitd) (received_by back o p.walk.reply) put.0) at put.1;
          count = count.count;
          left = count.left ∙ ap (λ (v : Sitd). v.total) same;
          now_is = refl;
          nothing = refl;
        })) leads.1;
      })

  -- ---- each event

  by_time : IsFrame met parts (OfSitd c) p → AreBytesHeard transacts wire after → c.held.settled ≡ None → sitd_turn (microframe_of p.walk.index) c.held.sitd ≡ turns.Work → (late : Bool)
      → HasEffect transacts (sitd_effect (if late then rows.Skip else rows.Transact (sitd_transaction c.held.sitd)) c.held p) wire new after
      → Happens (sitd_step (if late then rows.Skip else rows.Transact (sitd_transaction c.held.sitd)) c.held p)
  by_time frame heard none turn true leads = is_passed frame none leads
  by_time frame heard none turn false leads = is_made frame heard none turn leads

  by_turn : IsFrame met parts (OfSitd c) p → AreBytesHeard transacts wire after → c.held.settled ≡ None → (t : SitdTurn) → sitd_turn (microframe_of p.walk.index) c.held.sitd ≡ t
      → HasEffect transacts (sitd_effect (turn_row p.walk.left c.held.sitd t) c.held p) wire new after → Happens (sitd_step (turn_row p.walk.left c.held.sitd t) c.held p)
  by_turn frame heard none turns.Rest turn leads = is_passed frame none leads
  by_turn frame heard none turns.Work turn leads = by_time frame heard none turn (nat_lt p.walk.left (sitd_transaction c.held.sitd).price.0) leads
  by_turn frame heard none turns.Miss turn leads =
      is_written frame (missed c) Failed (was_missed none turn refl) refl refl
      (missed_is_in_hand met parts p.memory p.walk.reply p.walk.reply c (microframe_of p.walk.index) (in_hand frame) none turn) refl leads

  by_settled : IsFrame met parts (OfSitd c) p → AreBytesHeard transacts wire after → (s : Option SplitOutcome) → c.held.settled ≡ s
      → HasEffect transacts (sitd_effect (settled_row p.walk.left (microframe_of p.walk.index) c.held.sitd s) c.held p) wire new after
      → Happens (sitd_step (settled_row p.walk.left (microframe_of p.walk.index) c.held.sitd s) c.held p)
  by_settled frame heard None none leads = by_turn frame heard none (sitd_turn (microframe_of p.walk.index) c.held.sitd) refl leads
  by_settled frame heard (Some o) settled leads = is_written frame c o (made refl) refl refl (in_hand frame) settled leads

  pub sitd_happens : IsFrame met parts (OfSitd c) p → AreBytesHeard transacts wire after → Leads transacts p wire new after → Happens (step_of p)
  sitd_happens frame heard leads =
      subst Happens (sym (step_in_hand met parts (OfSitd c) p frame))
      (by_settled frame heard c.held.settled refl (effect_in_hand transacts met parts (OfSitd c) p wire new after frame leads))
