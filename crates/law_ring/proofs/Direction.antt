-- The direction of a queue head's qTDs stays, and so does what it asks.
use Rattle.std.proofs.Common.{◌≡◌, ◌≢◌, ℕ, Bool, true, false, ◌==◌, if◌then◌else◌, ap, sym, ◌∙◌}
use Rattle.law_structures.proofs.Common.{in_token}
use Rattle.law_common.proofs.Numbers.{other_number}
use Rattle.usb_base.specs.declared.packets.Pid.{Pid}
use Rattle.usb_base.specs.declared.packets.Pid.TheVariants as Packets
use Rattle.usb_base.specs.declared.packets.EpKind.{EpKind}
use Rattle.usb_base.specs.declared.packets.EpKind.TheVariants as Kinds
use Rattle.usb_base.specs.declared.packets.Split.{Split}
use Rattle.usb_base.specs.declared.packets.Split.TheVariants as Splits
use Rattle.qh_qtd.specs.declared.qtd.Qtd.{Qtd}
use Rattle.qh_qtd.specs.declared.queue_head.Qh.{Qh}
use Rattle.transactions.specs.Asks.{pinged, token_pid}
use Rattle.hc_copy.specs.Planning.{pid_at}
use Rattle.law_structures.specs.lent_structures.Structures.{Structures}
use Rattle.law_structures.specs.lent_structures.Sound.{IsWorking, IsSoundQueue}
use Rattle.law_structures.specs.lent_structures.Alters.{HadElement, Alters}
use Rattle.law_structures.proofs.lemmas.lent_structures.Members.{still_active}
use Rattle.law_ring.specs.Pipes.{IsIn, IsNotIn}

-- ---- the direction stays

pub in_still : (part now : Structures) → Alters part now → IsIn part → IsIn now
in_still part now alters ins a u here on =
    let had : HadElement part a u = alters.element_before a u here in
    let same : u ≡ had.qtd = still_active had.qtd u had.after on in
    ap (λ (x : Qtd). x.token.pid) same ∙ ins a had.qtd had.here (ap (λ (x : Qtd). x.token.active) (sym same) ∙ on)

pub not_in_still : (part now : Structures) → Alters part now → IsNotIn part → IsNotIn now
not_in_still part now alters nots a u here on is =
    let had : HadElement part a u = alters.element_before a u here in
    let same : u ≡ had.qtd = still_active had.qtd u had.after on in
    nots a had.qtd had.here (ap (λ (x : Qtd). x.token.active) (sym same) ∙ on) (ap (λ (x : Qtd). x.token.pid) (sym same) ∙ is)

-- ---- what is asked

pub in_asked : (code : ℕ) (split : Split) (out : Pid) → code ≡ 1 → token_pid split (pid_at code) out ≡ Packets.In
in_asked code split out is = ap (λ (c : ℕ). token_pid split (pid_at c) out) is ∙ in_token split out

out_token : (split : Split) (kind : EpKind) (ping : Bool) → token_pid split Packets.Out (pinged kind ping) ≢ Packets.In
out_token Splits.Plain Kinds.Iso ping e = cc
out_token Splits.Plain kind true e = cc
out_token Splits.Plain kind false e = cc
out_token (Splits.Start hub port part) kind ping e = cc
out_token (Splits.Complete hub port) kind ping e = cc

setup_token : (split : Split) (out : Pid) → token_pid split Packets.Setup out ≢ Packets.In
setup_token Splits.Plain out e = cc
setup_token _ out e = cc

not_asked : (split : Split) (kind : EpKind) (ping x y : Bool) → y ≡ false → token_pid split (if x then Packets.Out else if y then Packets.In else Packets.Setup) (pinged kind ping) ≢ Packets.In
not_asked split kind ping true y off = out_token split kind ping
not_asked split kind ping false false off = setup_token split (pinged kind ping)
not_asked split kind ping false true off = absurd cc

pub other_asked : (code : ℕ) (split : Split) (kind : EpKind) (ping : Bool) → code ≢ 1 → token_pid split (pid_at code) (pinged kind ping) ≢ Packets.In
other_asked code split kind ping other = not_asked split kind ping (code == 0) (code == 1) (other_number code 1 other)

-- the overlay that works has the PID of its qTD
pub works_in : (part : Structures) (q : Qh) → IsSoundQueue part q → q.token.active ≡ true → IsIn part → q.token.pid ≡ 1
works_in part q sound on ins = let w : IsWorking part q = sound.work on in w.pid ∙ ins q.current w.element w.here w.published

pub works_not_in : (part : Structures) (q : Qh) → IsSoundQueue part q → q.token.active ≡ true → IsNotIn part → q.token.pid ≢ 1
works_not_in part q sound on nots is = let w : IsWorking part q = sound.work on in nots q.current w.element w.here w.published (sym w.pid ∙ is)
