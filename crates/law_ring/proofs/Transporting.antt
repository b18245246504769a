-- Agreement where a queue head's structures and its overlay are as they were.
use Rattle.std.proofs.Common.{◌≡◌, ℕ, Bool, List, ap, sym, subst, ◌∙◌}
use Rattle.qh_qtd.specs.declared.qtd.Qtd.{Qtd}
use Rattle.qh_qtd.specs.declared.queue_head.Qh.{Qh}
use Rattle.law_structures.specs.lent_structures.Structures.{Structures}
use Rattle.law_structures.specs.lent_structures.Alters.{HadElement, Alters}
use Rattle.law_structures.proofs.lemmas.lent_structures.Members.{still_active}
use Rattle.law_ring.specs.Hand.{Hand}
use Rattle.law_ring.specs.OutBus.{Taker}
use Rattle.law_ring.specs.OutPipes.{IsOut, IsUnmoved, OutAgrees, level, ahead, ended}

with_hand : (part : Structures) (hand later : Hand) (n : ℕ) (q : Qh) (h : Bool) (known : List ℕ) (s : Taker) → IsUnmoved later n → OutAgrees part hand n q h known s → OutAgrees part later n q h known s
with_hand part hand later n q h known s un (level e t) = level e t
with_hand part hand later n q h known s un (ahead x e t same on next old) = ahead x e t same on next un
with_hand part hand later n q h known s un (ended x e t off halted) = ended x e t off halted

pub carried : (part now : Structures) (hand later : Hand) (n : ℕ) (q r : Qh) (h : Bool) (known : List ℕ) (s : Taker) → now ≡ part → r ≡ q → IsUnmoved later n → OutAgrees part hand n q h known s → OutAgrees now later n r h known s
carried part now hand later n q r h known s same queue un k =
    subst (λ (x : Structures). OutAgrees x later n r h known s) (sym same) (subst (λ (x : Qh). OutAgrees part later n x h known s) (sym queue) (with_hand part hand later n q h known s un k))

pub out_still : (part now : Structures) → Alters part now → IsOut part → IsOut now
out_still part now alters outs a u here on =
    let had : HadElement part a u = alters.element_before a u here in
    let same : u ≡ had.qtd = still_active had.qtd u had.after on in
    ap (λ (x : Qtd). x.token.pid) same ∙ outs a had.qtd had.here (ap (λ (x : Qtd). x.token.active) (sym same) ∙ on)
