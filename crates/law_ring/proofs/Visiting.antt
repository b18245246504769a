-- A copy that had no transaction yet is in hand: which visit it is, and the visits that do nothing.
use Rattle.std.proofs.Common.{◌≡◌, ℕ, Bool, true, false, List, None, ap, refl, sym, subst, ◌∙◌}
use Rattle.std.proofs.lemmas.Bool.{false≢true}
use Rattle.usb_base.specs.declared.packets.Ask.{Ask}
use Rattle.usb_base.specs.declared.packets.Reply.{Reply}
use Rattle.link_words.specs.declared.kinds.QtdLink.{QtdLink}
use Rattle.link_words.specs.Links.{link_of, qtd_link_of}
use Rattle.qh_qtd.specs.declared.queue_head.Qh.{Qh}
use Rattle.hc_copy.specs.declared.held.Visit.{Visit}
use Rattle.hc_copy.specs.declared.held.Visit.TheVariants as visits
use Rattle.hc_copy.specs.Visits.{next_pointer, visit_at}
use Rattle.async_walk.specs.declared.rows.WalkRow.TheVariants as rows
use Rattle.async_walk.specs.declared.state.Cursor.TheVariants as cursors
use Rattle.async_walk.specs.Walk.{Walk}
use Rattle.async_walk.specs.Rows.{WalkPlace, step_of, Leads, passed_walk, out_of_time}
use Rattle.law_structures.specs.lent_structures.Structures.{StructureSets}
use Rattle.law_ring.specs.Hand.{Copy, Empty, Copied, Stale}
use Rattle.claims_base.specs.Controller.{Base}
use Rattle.law_ring.specs.Ring.{IsRing}
use Rattle.law_ring.specs.Effects.{Happens}
use Rattle.law_ring.specs.Effects.Effect.{passes, ends}
use Rattle.law_ring.proofs.Ringing.{cursor_same, ring_at}

pub data VisitOf (x : Qh) : Visit → Type 0 where
  rests : VisitOf x visits.Rest
  works : x.token.halted ≡ false → x.token.active ≡ true → VisitOf x visits.Work
  takes : x.token.halted ≡ false → x.token.active ≡ false → VisitOf x (visits.Take (qtd_link_of (next_pointer x)))

pub visit_found : (x : Qh) (may halted active : Bool) → x.token.halted ≡ halted → x.token.active ≡ active → VisitOf x (visit_at may halted active (qtd_link_of (next_pointer x)))
visit_found x false halted active h a = rests
visit_found x true true active h a = rests
visit_found x true false true h a = works h a
visit_found x true false false h a = takes h a

-- a halted one rests
pub halted_rests : (x : Qh) (may halted active : Bool) (link : QtdLink) → halted ≡ true → visit_at may halted active link ≡ visits.Rest
halted_rests x false halted active link is = refl
halted_rests x true true active link is = refl
halted_rests x true false active link is = absurd (false≢true is)

module _ {W : Type 0} (transacts : W → Ask → List ℕ → Reply → W → Type 0) (base : Base) (member : ℕ → Bool) (parts : StructureSets) (wire after : W) where
  -- the walk once the visit to the copy is over
  abbrev gone_on : WalkPlace → Copy → WalkPlace
  gone_on s c = record s { walk = record s.walk { cursor = cursors.At (link_of c.link); held = None } }

  gone_on_ring : (s : WalkPlace) (c : Copy) → IsRing base member parts (Copied c) s → IsRing base member parts Empty (gone_on s c)
  gone_on_ring s c k =
      ring_at base member parts (Copied c) Empty s (gone_on s c) k refl refl (record { to = k.in_hand.link.to; leads = k.in_hand.link.leads; on = k.in_hand.link.on }) refl tt

  pub skip_event : (s new : WalkPlace) (c : Copy) → IsRing base member parts (Copied c) s → Leads transacts rows.Skip s wire new after → Happens transacts base member parts (Copied c) wire after new (step_of rows.Skip s)
  skip_event s new c k lead = record {
    now = parts;
    later = Empty;
    ring = subst (IsRing base member parts Empty) (sym (lead.0 ∙ ap (λ (w : Walk). record s { walk = w }) (ap (passed_walk s.walk) k.held))) (gone_on_ring s c k);
    effect = passes (record { unsettled = λ d z e. cc; nothing = refl }) refl lead.1;
  }

  pub late_event : (s new : WalkPlace) (c : Copy) → IsRing base member parts (Copied c) s → Leads transacts rows.OutOfTime s wire new after → Happens transacts base member parts (Copied c) wire after new (step_of rows.OutOfTime s)
  late_event s new c k lead = record {
    now = parts;
    later = Empty;
    ring = subst (IsRing base member parts Empty) (sym lead.0) (ring_at base member parts (Copied c) Empty s (out_of_time s) k refl refl (cursor_same member s (out_of_time s) refl refl k.cursor) refl tt);
    effect = ends (record { unsettled = λ d z e. cc; nothing = refl }) refl lead.1;
  }

  -- a stale copy is halted: nothing is done with it
  stale_ring : (s : WalkPlace) (n : ℕ) (q : Qh) → IsRing base member parts (Stale n q) s → IsRing base member parts Empty (record s { walk = record s.walk { cursor = cursors.At (link_of q.link); held = None } })
  stale_ring s n q k =
      ring_at base member parts (Stale n q) Empty s (record s { walk = record s.walk { cursor = cursors.At (link_of q.link); held = None } }) k refl refl
      (record { to = k.in_hand.link.to; leads = k.in_hand.link.leads; on = k.in_hand.link.on }) refl tt

  pub stale_event : (s new : WalkPlace) (n : ℕ) (q : Qh) → IsRing base member parts (Stale n q) s → Leads transacts rows.Skip s wire new after → Happens transacts base member parts (Stale n q) wire after new (step_of rows.Skip s)
  stale_event s new n q k lead = record {
    now = parts;
    later = Empty;
    ring = subst (IsRing base member parts Empty) (sym (lead.0 ∙ ap (λ (w : Walk). record s { walk = w }) (ap (passed_walk s.walk) k.held))) (stale_ring s n q k);
    effect = passes (record { unsettled = λ d z e. cc; nothing = refl }) refl lead.1;
  }
