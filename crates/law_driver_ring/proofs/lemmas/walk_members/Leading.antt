-- The words of each queue head that a walk may meet lead to one that it may meet.
use Rattle.std.proofs.Common.{◌≡◌, ℕ, Bool, true, List, [], ◌∷◌, ◌++◌, length, take, slice_get, Option, Some, ap, sym, subst, ◌∙◌, ⊎_elim, inl, inr}
use Rattle.std.specs.Prelude.{◌⊎◌}
use Rattle.std.proofs.lemmas.Option.{same_Some}
use Rattle.law_driver_ring.proofs.Common.{head_link}
use Rattle.law_common.proofs.Lists.{push_which}
use Rattle.law_driver.proofs.Common.{pushed as older_get}
use Rattle.drv_table.specs.declared.content.Endpoint.{Endpoint}
use Rattle.drv_table.specs.declared.content.Transfer.{Transfer}
use Rattle.drv_table.specs.declared.content.Command.{Command}
use Rattle.drv_table.specs.declared.content.Command.TheVariants as unfinished
use Rattle.drv_table.specs.DriverContent.{DriverContent}
use Rattle.drv_table.specs.Words.{head_block, queue_head_link}
use Rattle.law_driver.specs.ring_members.Links.{newest_from}
use Rattle.claims_driver.specs.Ring.{IsAmong, first, later}
use Rattle.law_driver.specs.ring_members.Words.{AreLinked, IsTarget, to_head, to_member, to_later, AreLeaving, StandsFor, IsRing}
use Rattle.law_driver.proofs.lemmas.ring_members.Links.{LeadsTo, newest_is}
use Rattle.law_driver.proofs.lemmas.ring_members.Leaving.{link_at, get_take, leaving_rest}
use Rattle.claims_driver.specs.Walk.{IsReached, at_head, at_member, at_waiting, at_rung}

-- a word leads to the head, or to one in the ring
pub record LeadsIn (w : ℕ) (xs : List Endpoint) : Type 0 where
  pub to : ℕ
  pub link : w ≡ queue_head_link to
  pub target : (to ≡ head_block) ⊎ LeadsTo xs to

newest_in : (w : ℕ) (xs ys : List Endpoint) → ((i : ℕ) (y : Endpoint) → slice_get xs i ≡ Some y → slice_get ys i ≡ Some y) → w ≡ queue_head_link (newest_from head_block xs) → LeadsIn w ys
newest_in w xs ys more link = record {
  to = newest_from head_block xs;
  link = link;
  target = ⊎_elim (λ (h : newest_from head_block xs ≡ head_block). inl h)
      (λ (l : LeadsTo xs (newest_from head_block xs)). inr (record { number = l.number; endpoint = l.endpoint; here = more l.number l.endpoint l.here; linked = l.linked; queue = l.queue }))
      (newest_is head_block xs);
}

member_in : (word : ℕ → ℕ) (xs : List Endpoint) (e : ℕ) (x : Endpoint) → AreLinked word head_block xs → slice_get xs e ≡ Some x → x.linked ≡ true → LeadsIn (word x.queue) xs
member_in word xs e x linked here on =
    newest_in (word x.queue) (take e xs) xs (λ i y there. (get_take xs e i y there).1) (link_at word head_block xs e x here on linked)

-- of the head, and of a member, whatever command is unfinished
head_by : (word : ℕ → ℕ) (xs : List Endpoint) (ts : List Transfer) (o : Option Command) → StandsFor word xs ts o → LeadsIn (word head_block) xs
head_by word xs ts (Some (unfinished.Open q)) s =
    newest_in (word head_block) s.older xs (λ i y there. ap (λ (ys : List Endpoint). slice_get ys i) s.all ∙ older_get s.older s.new i y there) (head_link word head_block s.older s.ring)
head_by word xs ts (Some (unfinished.Publish b words)) s = newest_in (word head_block) xs xs (λ i y there. there) (head_link word head_block xs s.ring)
head_by word xs ts (Some (unfinished.Unlink e b link)) s = newest_in (word head_block) xs xs (λ i y there. there) (head_link word head_block xs s.ring)
head_by word xs ts (Some (unfinished.Iso e t count)) s = newest_in (word head_block) xs xs (λ i y there. there) (head_link word head_block xs s.ring)
head_by word xs ts _ s = newest_in (word head_block) xs xs (λ i y there. there) (head_link word head_block xs s)

member_by : (word : ℕ → ℕ) (xs : List Endpoint) (ts : List Transfer) (o : Option Command) (e : ℕ) (x : Endpoint) → StandsFor word xs ts o → slice_get xs e ≡ Some x → x.linked ≡ true → LeadsIn (word x.queue) xs
member_by word xs ts (Some (unfinished.Open q)) e x s here on =
    let more : (i : ℕ) (y : Endpoint) → slice_get s.older i ≡ Some y → slice_get xs i ≡ Some y = λ i y there. ap (λ (ys : List Endpoint). slice_get ys i) s.all ∙ older_get s.older s.new i y there in
    ⊎_elim
    (λ (w : slice_get s.older e ≡ Some x).
    newest_in (word x.queue) (take e s.older) xs (λ i y there. more i y (get_take s.older e i y there).1) (link_at word head_block s.older e x w on s.ring))
    (λ (w : (e ≡ length s.older) × (x ≡ s.new)).
    newest_in (word x.queue) s.older xs more (ap (λ (z : Endpoint). word z.queue) w.1 ∙ ap word s.here ∙ s.link))
    (push_which s.older s.new e x (sym (ap (λ (ys : List Endpoint). slice_get ys e) s.all) ∙ here))
member_by word xs ts (Some (unfinished.Publish b words)) e x s here on = member_in word xs e x s.ring here on
member_by word xs ts (Some (unfinished.Unlink f b link)) e x s here on = member_in word xs e x s.ring here on
member_by word xs ts (Some (unfinished.Iso f t count)) e x s here on = member_in word xs e x s.ring here on
member_by word xs ts _ e x s here on = member_in word xs e x s here on

-- ---- where they lead

pub record WordLeads (d : DriverContent) (rings : Bool) (w : ℕ) : Type 0 where
  pub to : ℕ
  pub link : w ≡ queue_head_link to
  pub reached : IsReached d rings to

leads_by : (d : DriverContent) (rings : Bool) (w : ℕ) → LeadsIn w d.endpoints → WordLeads d rings w
leads_by d rings w l = record {
  to = l.to;
  link = l.link;
  reached = ⊎_elim (λ (h : l.to ≡ head_block). at_head h)
      (λ (m : LeadsTo d.endpoints l.to). at_member m.number (record { endpoint = m.endpoint; here = m.here; queue = m.queue }) m.linked) l.target;
}

pub head_leads : (word : ℕ → ℕ) (d : DriverContent) (rings : Bool) → IsRing word d → WordLeads d rings (word head_block)
head_leads word d rings ring = leads_by d rings (word head_block) (head_by word d.endpoints d.transfers d.command ring.ring)

-- those that left lead to one that left later, or to the ring
target_reached : (d : DriverContent) (rings : Bool) (es : List ℕ) (b : ℕ) → ((f : ℕ) → IsAmong f es → (IsAmong f d.waiting) ⊎ ((IsAmong f d.rung) × (rings ≡ true))) → IsTarget d.endpoints es b → IsReached d rings b
target_reached d rings es b where_is (to_head h) = at_head h
target_reached d rings es b where_is (to_member e at on) = at_member e at on
target_reached d rings es b where_is (to_later e at among) =
    ⊎_elim (λ (w : IsAmong e d.waiting). at_waiting e at w) (λ (w : (IsAmong e d.rung) × (rings ≡ true)). at_rung e at w.0 w.1) (where_is e among)

pub left_leads : (word : ℕ → ℕ) (d : DriverContent) (rings : Bool) (es : List ℕ) (e : ℕ) (x : Endpoint) → ((f : ℕ) → IsAmong f es → (IsAmong f d.waiting) ⊎ ((IsAmong f d.rung) × (rings ≡ true))) → AreLeaving word d.endpoints es → IsAmong e es → slice_get d.endpoints e ≡ Some x → WordLeads d rings (word x.queue)
left_leads word d rings [] e x where_is all among here = elim among [ ]
left_leads word d rings (f ∷ es) e x where_is all (first _) here =
    let same = same_Some all.0.endpoint x (sym all.0.here ∙ here) in
    record {
      to = all.0.to;
      link = ap (λ (z : Endpoint). word z.queue) (sym same) ∙ all.0.link;
      reached = target_reached d rings es all.0.to (λ g a. where_is g (later f es a)) all.0.target;
    }
left_leads word d rings (f ∷ es) e x where_is all (later _ _ rest) here = left_leads word d rings es e x (λ g a. where_is g (later f es a)) all.1 rest here

among_split : (f : ℕ) (es fs : List ℕ) → IsAmong f (es ++ fs) → (IsAmong f es) ⊎ (IsAmong f fs)
among_split f [] fs a = inr a
among_split f (e ∷ es) fs (first _) = inl (first es)
among_split f (e ∷ es) fs (later _ _ rest) = ⊎_elim (λ (w : IsAmong f es). inl (later e es w)) (λ (w : IsAmong f fs). inr w) (among_split f es fs rest)

pub among_front : (f : ℕ) (es fs : List ℕ) → IsAmong f es → IsAmong f (es ++ fs)
among_front f [] fs a = elim a [ ]
among_front f (e ∷ es) fs (first _) = first (es ++ fs)
among_front f (e ∷ es) fs (later _ _ rest) = later e (es ++ fs) (among_front f es fs rest)

pub reached_leads : (word : ℕ → ℕ) (d : DriverContent) (rings : Bool) (b : ℕ) → IsRing word d → IsReached d rings b → WordLeads d rings (word b)
reached_leads word d rings b ring (at_head h) = subst (λ k. WordLeads d rings (word k)) (sym h) (head_leads word d rings ring)
reached_leads word d rings b ring (at_member e at on) =
    subst (λ k. WordLeads d rings (word k)) at.queue (leads_by d rings (word at.endpoint.queue) (member_by word d.endpoints d.transfers d.command e at.endpoint ring.ring at.here on))
reached_leads word d rings b ring (at_waiting e at among) =
    subst (λ k. WordLeads d rings (word k)) at.queue
    (left_leads word d rings d.waiting e at.endpoint (λ f a. inl a) (leaving_rest word d.endpoints d.rung d.waiting ring.leaving) among at.here)
reached_leads word d rings b ring (at_rung e at among on) =
    subst (λ k. WordLeads d rings (word k)) at.queue
    (left_leads word d rings (d.rung ++ d.waiting) e at.endpoint
    (λ f a. ⊎_elim (λ (w : IsAmong f d.rung). inr (w, on)) (λ (w : IsAmong f d.waiting). inl w) (among_split f d.rung d.waiting a))
    ring.leaving (among_front e d.rung d.waiting among) at.here)
