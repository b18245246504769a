-- Who asks in a transaction of a queue head, and what an event leaves of its toggle and its qTDs.
use Rattle.std.proofs.Common.{◌≡◌, inl, inr, ℕ, ◌==◌, Bool, true, false, if◌then◌else◌, List, Some, ap, refl, sym, subst, ◌∙◌}
use Rattle.usb_base.specs.declared.packets.Dir.{Dir}
use Rattle.usb_base.specs.declared.packets.Dir.TheVariants as Directions
use Rattle.usb_base.specs.declared.packets.EpKind.{EpKind}
use Rattle.usb_base.specs.declared.packets.EpKind.TheVariants as Kinds
use Rattle.usb_base.specs.declared.packets.Pid.{Pid}
use Rattle.usb_base.specs.declared.packets.Pid.TheVariants as Packets
use Rattle.usb_base.specs.declared.packets.Split.{Split}
use Rattle.usb_base.specs.declared.packets.Split.TheVariants as Splits
use Rattle.hub_keys.specs.Keys.{direction_of}
use Rattle.qh_qtd.specs.declared.qtd.Qtd.{Qtd}
use Rattle.qh_qtd.specs.declared.queue_head.Qh.{Qh}
use Rattle.transactions.specs.Asks.{pinged, token_pid}
use Rattle.hc_copy.specs.Planning.{pid_at, host_in, transaction_of}
use Rattle.hc_copy.specs.Transacting.{call_in}
use Rattle.law_structures.specs.lent_structures.Structures.{QueueHead, Structures}
use Rattle.law_structures.specs.lent_structures.Alters.{HadElement, Alters}
use Rattle.law_structures.specs.lent_structures.Sound.{IsWorking, IsSoundQueue}
use Rattle.law_structures.proofs.lemmas.lent_structures.Altering.{found_queue}
use Rattle.law_structures.proofs.lemmas.lent_structures.Members.{still_active}
use Rattle.law_ring.specs.Hand.{Hand, Settled}
use Rattle.law_ring.specs.QueueParts.{IsQueuePart}
use Rattle.law_ring.specs.Told.{hand_toggle, Endpoint, endpoint_of}
use Rattle.law_below_hubs.specs.HostOuts.{IsOfOther}
use Rattle.law_below_hubs.specs.HostEvents.{hand_host, StartsFirst, told_key, AsksBack, AsksElse}

-- ---- the toggle

pub host_toggle : (hand : Hand) (n : ℕ) (q : Qh) → (hand_host hand n q).toggle ≡ hand_toggle hand n q
host_toggle (Settled c z) n q = by (c.at == n)
  where
    by : (b : Bool) → (if b then z.host else host_in q).toggle ≡ (if b then z.host.toggle else q.token.toggle)
    by true = refl
    by false = refl
host_toggle _ n q = refl

pub first_still : (part now : Structures) → Alters part now → StartsFirst part → StartsFirst now
first_still part now alters first a u here on =
    let had : HadElement part a u = alters.element_before a u here in
    let same : u ≡ had.qtd = still_active had.qtd u had.after on in
    ap (λ (t : Qtd). t.token.split_state) same ∙ first a had.qtd had.here (ap (λ (t : Qtd). t.token.active) (sym same) ∙ on)

-- an IN stays one on the bus, and so does an OUT, or it is pinged (4.11)
in_token : (split : Split) (token : Pid) → token_pid split Packets.In token ≡ Packets.In
in_token Splits.Plain token = refl
in_token (Splits.Start hub port part) token = refl
in_token (Splits.Complete hub port) token = refl

out_token : (split : Split) (kind : EpKind) (ping : Bool) → direction_of (token_pid split Packets.Out (pinged kind ping)) ≡ Directions.Out
out_token (Splits.Start hub port part) kind ping = refl
out_token (Splits.Complete hub port) kind ping = refl
out_token Splits.Plain Kinds.Iso ping = refl
out_token Splits.Plain Kinds.Bulk true = refl
out_token Splits.Plain Kinds.Bulk false = refl
out_token Splits.Plain Kinds.Control true = refl
out_token Splits.Plain Kinds.Control false = refl
out_token Splits.Plain Kinds.Interrupt true = refl
out_token Splits.Plain Kinds.Interrupt false = refl

in_out : Directions.In ≡ Directions.Out → ⊥
in_out e = cc

asks_back : (dir : Dir) (part : Structures) (q : Qh) (kind : EpKind) (out : List ℕ) (last : Bool) → IsWorking part q → AsksBack dir part
    → direction_of (call_in (transaction_of kind q) out last).ask.pid ≡ dir → ⊥
asks_back Directions.Out part q kind out last w ins dir =
    in_out (sym (ap direction_of (ap (λ (code : ℕ). token_pid (transaction_of kind q).split (pid_at code) (pinged kind q.token.ping))
    (w.pid ∙ ins q.current w.element w.here w.published) ∙ in_token (transaction_of kind q).split (pinged kind q.token.ping))) ∙ dir)
asks_back Directions.In part q kind out last w outs dir =
    in_out (sym dir ∙ ap (λ (code : ℕ). direction_of (token_pid (transaction_of kind q).split (pid_at code) (pinged kind q.token.ping)))
    (w.pid ∙ outs q.current w.element w.here w.published) ∙ out_token (transaction_of kind q).split kind q.token.ping)

-- the queue head of another endpoint asks another, or the other way
pub asks_other : (own : EpKind) (dir : Dir) (part : Structures) (n : ℕ) (q : Qh) (kind : EpKind) (out : List ℕ) (last : Bool)
    (x y : Endpoint)
    → IsQueuePart n part → part n ≡ Some (QueueHead q) → q.token.active ≡ true → y ≡ endpoint_of q → AsksElse dir part x y
    → IsOfOther (told_key own dir x) (call_in (transaction_of kind q) out last).ask
asks_other own dir part n q kind out last x y k here works is (inl apart) way addr ep =
    apart (sym addr ∙ ap (λ (e : Endpoint). e.addr) (sym is)) (sym ep ∙ ap (λ (e : Endpoint). e.ep) (sym is))
asks_other own dir part n q kind out last x y k here works is (inr back) way addr ep =
    asks_back dir part q kind out last
    ((subst (IsSoundQueue part) (found_queue (part n) k.queue q k.here here) k.sound).work works) back way
