-- Each event at an iTD in hand.
use Rattle.std.proofs.Common.{◌≡◌, ◌≢◌, ℕ, nat_lt, Bool, true, false, if◌then◌else◌, List, Option, Some, None, ap, refl, sym, subst, ◌∙◌, ⊎_elim, arith}
use Rattle.std.proofs.lemmas.Bool.{cases_eq}
use Rattle.std.proofs.lemmas.Option.{same_Some}
use Rattle.usb_base.specs.declared.packets.Ask.{Ask}
use Rattle.usb_base.specs.declared.packets.Reply.{Reply}
use Rattle.usb_base.specs.declared.packets.Reply.TheVariants as replies
use Rattle.word_mem.specs.Memory.{Mem}
use Rattle.op_registers.specs.RegisterFile.{RegisterFile}
use Rattle.hc_copy.specs.Buffer.{Reading}
use Rattle.hc_iso.specs.declared.held.HeldItd.{HeldItd}
use Rattle.hc_iso.specs.declared.held.IsoEnd.{IsoEnd}
use Rattle.hc_iso.specs.declared.held.IsoTransaction.{IsoTransaction}
use Rattle.hc_iso.specs.Itd.{itd_transaction, itd_after}
use Rattle.hc_iso.specs.WriteBack.{itd_written, iso_raised, itd_raised, bytes_of}
use Rattle.async_walk.specs.declared.state.WalkStep.{WalkStep}
use Rattle.async_walk.specs.declared.state.WalkStep.TheVariants as steps
use Rattle.periodic_walk.specs.declared.itd.ItdRow.{ItdRow}
use Rattle.periodic_walk.specs.declared.itd.ItdRow.TheVariants as rows
use Rattle.periodic_walk.specs.declared.state.Hand.{Hand}
use Rattle.periodic_walk.specs.Place.{FramePlace, passed, Effect, HasEffect, sent}
use Rattle.periodic_walk.specs.Itd.{ended_row, wrote_at, itd_step, itd_left_by, itd_effect}
use Rattle.periodic_walk.specs.Rows.{step_at, step_of, effect_at, Leads}
use Rattle.law_structures.specs.lent_structures.Structures.{StructureSets}
use Rattle.claims_base.specs.Controller.{base_of}
use Rattle.law_ring.specs.Effects.{AreBytesHeard}
use Rattle.law_frames.specs.Met.{Kind, AnItd, IsMetItd, IsMetAs}
use Rattle.law_frames.specs.FrameHand.{ItdCopy, Nothing, OfItd}
use Rattle.law_frames.specs.Frame.{IsFrame}
use Rattle.law_frames.specs.FrameEffects.{itd_parts, of_itd, passes, makes, writes, FrameHappens}
use Rattle.law_frames.specs.ItdBacks.{IsItdSent, IsItdBack}
use Rattle.law_frames.proofs.Backing.{itd_is_sent as sent_is, itd_back_is}
use Rattle.law_frames.specs.ItdSteps.{AreBytes}
use Rattle.law_frames.proofs.Heard.{heard_keeps_copy}

-- ---- those that are met, once the iTD is written back

met_after : (met : ℕ → Option Kind) (parts now : StructureSets) (at : ℕ) → met at ≡ Some AnItd → IsMetItd met at (now at) → ((n : ℕ) → n ≢ at → now n ≡ parts n)
    → ((n : ℕ) (kind : Kind) → met n ≡ Some kind → IsMetAs met n (parts n) kind) → (n : ℕ) (kind : Kind) → met n ≡ Some kind → IsMetAs met n (now n) kind
met_after met parts now at on mine beside members n kind is =
    ⊎_elim (λ (same : n ≡ at).
    subst (λ (k : Kind). IsMetAs met n (now n) k) (same_Some AnItd kind (sym on ∙ ap met (sym same) ∙ is)) (subst (λ (i : ℕ). IsMetItd met i (now i)) (sym same) mine))
    (λ (differs : n ≢ at). subst (λ part. IsMetAs met n part kind) (sym (beside n differs)) (members n kind is)) (cases_eq n at)

raised_base : (h : HeldItd) (ended : IsoEnd) (r : RegisterFile) → base_of (itd_raised h ended r) ≡ base_of r
unfolding iso_raised
raised_base h ended r = refl

module _ {W : Type 0} (transacts : W → Ask → List ℕ → Reply → W → Type 0) (met : ℕ → Option Kind) (parts : StructureSets) (wire after : W) (heard : AreBytesHeard transacts wire after) (c : ItdCopy) (p new : FramePlace) (k : IsFrame met parts (OfItd c) p) where
  mine : IsMetItd met c.held.at (parts c.held.at)
  mine = k.members c.held.at AnItd k.walk.in_hand.on

  abbrev Comes : WalkStep → Type 0
  Comes step = FrameHappens transacts met parts (OfItd c) wire after p new step

  abbrev Does : ItdRow → Type 0
  Does row = HasEffect transacts (itd_effect row c.held p) wire new after

  -- ---- nothing to do, or no time for it

  skip_event : c.held.ended ≡ None → Does rows.Skip → Comes steps.Skip
  skip_event going lead = record {
    now = parts;
    later = Nothing;
    frame = subst (IsFrame met parts Nothing) (sym lead.0) (record { tells = k.tells; members = k.members; walk = record { cursor = k.walk.in_hand.link; held = refl; in_hand = tt } });
    registers = ap (λ (x : FramePlace). base_of x.registers) lead.0;
    effect = passes going refl refl lead.1;
  }

  -- ---- a transaction

  are_heard : (ask : Ask) (out : List ℕ) (reply : Reply) → transacts wire ask out reply after → AreBytes (bytes_of reply)
  are_heard ask out (replies.Bytes pid bs) made = heard ask out pid bs made
  are_heard ask out _ made = λ i. omega arith

  abbrev sent_effect : Reading → Effect
  sent_effect r = sent r.all (itd_transaction c.held).ask r.bytes (itd_left_by (itd_transaction c.held) c.held (record p { memory = r.memory })) (record p { memory = r.memory })

  make_event : c.held.ended ≡ None → c.held.slot.active ≡ true → Does (rows.Transact (itd_transaction c.held)) → Comes (itd_step (rows.Transact (itd_transaction c.held)) c.held p)
  make_event going active lead =
      let t : IsoTransaction = itd_transaction c.held in
      let s : IsItdSent parts p.memory c = sent_is met parts p.memory p.walk.got c k.tells mine k.walk.in_hand active in
      let asked = subst (λ (r : Reading). HasEffect transacts (sent_effect r) wire new after) s.read lead in
      subst Comes (sym (ap (λ (r : Reading). if r.all then steps.Transact else steps.Fault) s.read))
      (record {
        now = parts;
        later = OfItd (record c { held = itd_after asked.reply c.held });
        frame = subst (IsFrame met parts (OfItd (record c { held = itd_after asked.reply c.held }))) (sym asked.place)
            (record {
              tells = k.tells;
              members = k.members;
              walk = record {
                cursor = k.walk.cursor;
                held = refl;
                in_hand = heard_keeps_copy met parts p.walk.got asked.reply c k.walk.in_hand going active (are_heard t.ask s.out asked.reply asked.made);
              };
            });
        registers = ap (λ (x : FramePlace). base_of x.registers) asked.place;
        effect = makes (of_itd (record { copy = c; in_hand = refl; going = going; works = active; out = s.out; sent = s.sent; reply = asked.reply; asked = asked.made; later_is = refl })) refl;
      })

  -- ---- the write-back

  abbrev written_place : IsoEnd → FramePlace
  written_place ended = record p {
    walk = passed c.held.itd.link p.walk;
    registers = itd_raised c.held ended p.registers;
    memory = (itd_written c.held p.walk.got p.memory).memory;
  }

  write_event : (ended : IsoEnd) → c.held.ended ≡ Some ended → Does (rows.WriteBack ended) → Comes (itd_step (rows.WriteBack ended) c.held p)
  write_event ended is lead =
      let b : IsItdBack met parts p.memory p.walk.got c = itd_back_is met parts p.memory p.walk.got c k.tells mine k.walk.in_hand in
      let memory : Mem = (itd_written c.held p.walk.got p.memory).memory in
      let left : new ≡ written_place ended = lead.0 ∙ ap (λ (all : Bool). wrote_at all c.held ended (record p { memory = memory })) b.all in
      subst Comes (sym (ap (λ (all : Bool). if all then steps.WriteBack else steps.Fault) b.all))
      (record {
        now = itd_parts parts c p.walk.got b.into;
        later = Nothing;
        frame = subst (IsFrame met (itd_parts parts c p.walk.got b.into) Nothing) (sym left)
            (record {
              tells = b.tells;
              members = met_after met parts (itd_parts parts c p.walk.got b.into) c.held.at k.walk.in_hand.on b.met_is b.beside k.members;
              walk = record { cursor = k.walk.in_hand.link; held = refl; in_hand = tt };
            });
        registers = ap (λ (x : FramePlace). base_of x.registers) left ∙ raised_base c.held ended p.registers;
        effect = writes (of_itd (record { copy = c; in_hand = refl; end = ended; ended = is; into = b.into; received_is = b.received_is; count = b.count; now_is = refl; nothing = refl })) lead.1;
      })

  -- ---- by what there is to do

  timed : (late : Bool) → c.held.ended ≡ None → c.held.slot.active ≡ true → Does (if late then rows.Skip else rows.Transact (itd_transaction c.held)) → Comes (itd_step (if late then rows.Skip else rows.Transact (itd_transaction c.held)) c.held p)
  timed true going active lead = skip_event going lead
  timed false going active lead = make_event going active lead

  by_turn : (active : Bool) → c.held.slot.active ≡ active → c.held.ended ≡ None → Does (if active then (if nat_lt p.walk.left (itd_transaction c.held).price.0 then rows.Skip else rows.Transact (itd_transaction c.held)) else rows.Skip)
      → Comes (itd_step (if active then (if nat_lt p.walk.left (itd_transaction c.held).price.0 then rows.Skip else rows.Transact (itd_transaction c.held)) else rows.Skip) c.held p)
  by_turn true is going lead = timed (nat_lt p.walk.left (itd_transaction c.held).price.0) going is lead
  by_turn false is going lead = skip_event going lead

  by_end : (o : Option IsoEnd) → c.held.ended ≡ o → Does (ended_row p.walk.left c.held o) → Comes (itd_step (ended_row p.walk.left c.held o) c.held p)
  by_end None is lead = by_turn c.held.slot.active refl is lead
  by_end (Some ended) is lead = write_event ended is lead

  itd_event : Leads transacts p wire new after → Comes (step_of p)
  itd_event lead =
      subst Comes (sym (ap (step_at p) k.walk.held))
      (by_end c.held.ended refl (subst (λ (hand : Option Hand). HasEffect transacts (effect_at p hand) wire new after) k.walk.held lead))

pub each_event_at_an_itd : {W : Type 0} (transacts : W → Ask → List ℕ → Reply → W → Type 0) (met : ℕ → Option Kind) (parts : StructureSets) (c : ItdCopy) (p : FramePlace) (wire : W) (new : FramePlace) (after : W) → IsFrame met parts (OfItd c) p
    → AreBytesHeard transacts wire after → Leads transacts p wire new after → FrameHappens transacts met parts (OfItd c) wire after p new (step_of p)
each_event_at_an_itd transacts met parts c p wire new after k heard lead = itd_event transacts met parts wire after heard c p new k lead
