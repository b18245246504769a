-- A lend leaves both sides of each pipe.
use Rattle.std.proofs.Common.{◌≡◌, ◌≢◌, ℕ, ◌*◌, true, false, List, [], ◌∷◌, Option, Some, ap, sym, subst, ◌∙◌, ⊎_elim, inl, inr}
use Rattle.std.specs.List.{AllByRecursion}
use Rattle.std.proofs.lemmas.Bool.{cases_eq, true≢false}
use Rattle.law_controller.proofs.Common.{same_hand}
use Rattle.qh_qtd.specs.declared.qtd.Qtd.{Qtd}
use Rattle.mem_runs.specs.declared.slots.Slot.{Slot}
use Rattle.drv_table.specs.declared.content.QtdNote.{QtdNote}
use Rattle.drv_table.specs.declared.content.Stage.{Stage}
use Rattle.drv_table.specs.DriverContent.{DriverContent}
use Rattle.drv_table.specs.Harvests.{note_at}
use Rattle.claims_driver.specs.Owners.{EndpointRuns, TransferRuns}
use Rattle.law_structures.specs.lent_structures.Structures.{Element, Structures, StructureSets}
use Rattle.law_ring.specs.Bus.{Sender}
use Rattle.law_ring.specs.Pipes.{IsIn, IsNotIn}
use Rattle.law_ring.proofs.SparedSparing.{spared_endpoint, spared_pipes_agree}
use Rattle.law_driver_ring.specs.Pieces.{IsNewQtd}
use Rattle.law_driver_ring.specs.TransferLaws.{HasPieces}
use Rattle.law_queues.specs.fed_lends.Streams.{second, LendLeavesPipes}
use Rattle.law_queues.proofs.lemmas.fed_lends.Reporting.{spares_heads}

-- ---- what the qTDs ask for

-- each active qTD asks for such packets
abbrev AllAsk : (ℕ → Type 0) → Structures → Type 0
AllAsk P part = (a : ℕ) (u : Qtd) → part a ≡ Some (Element u) → u.token.active ≡ true → P u.token.pid

new_asks : (P : ℕ → Type 0) (notes : List QtdNote) (dummy : ℕ) (ss : List Stage) (b a : ℕ) (u : Qtd) → AllByRecursion (λ r. P r.pid) ss → IsNewQtd notes dummy ss b a u → u.token.active ≡ true → P u.token.pid
new_asks P notes dummy [] b a u all new on = absurd (true≢false (sym on ∙ ap (λ (t : Qtd). t.token.active) new.1))
new_asks P notes dummy (s ∷ ss) b a u all (inl new) on = subst (λ (t : Qtd). P t.token.pid) (sym new.1) all.0
new_asks P notes dummy (s ∷ ss) b a u all (inr new) on = new_asks P notes dummy ss (note_at notes b).next a u all.1 new on

still_ask : (P : ℕ → Type 0) (d : DriverContent) (y : TransferRuns) (x : EndpointRuns) (s : Stage) (ss : List Stage) (slot : ℕ → Slot) (parts now : StructureSets) (n : ℕ) → AllByRecursion (λ r. P r.pid) ss → HasPieces d slot parts now y x s ss → AllAsk P (parts n) → AllAsk P (now n)
still_ask P d y x s ss slot parts now n all has old =
    ⊎_elim
    (λ (same : n ≡ 32 * x.queue).
    subst (λ (i : ℕ). AllAsk P (now i)) (sym same)
    (λ a u here on.
    ⊎_elim (λ (was : parts (32 * x.queue) a ≡ Some (Element u)). subst (λ (i : ℕ). AllAsk P (parts i)) same old a u was on)
    (λ (new : IsNewQtd d.notes x.dummy ss (second d y) a u). new_asks P d.notes x.dummy ss (second d y) a u all new on) (has.elements a u here)))
    (λ (differs : n ≢ 32 * x.queue). subst (AllAsk P) (sym (has.beside n differs)) old) (cases_eq n (32 * x.queue))

-- ---- the pipes

pub lend_leaves_pipes : {W : Type 0} (sender : W → ℕ → ℕ → Option Sender) → LendLeavesPipes sender
lend_leaves_pipes sender d m t y x s ss slot parts now stream packets member streams ends acc hand wire r has (inl ins) piped =
    spared_pipes_agree sender stream packets member member streams ends acc hand hand parts now wire (same_hand hand) (λ n there. spares_heads d y x s ss slot parts now n has)
    (λ n there. still_ask (λ p. p ≡ 1) d y x s ss slot parts now n ins.1.1 has (piped.pipes n there).ins)
    (λ n there off.
    let differs : n ≢ 32 * x.queue = λ same. true≢false (sym ins.0 ∙ ap streams (sym same) ∙ off) in
    let was = piped.others n there off in (
      spared_endpoint parts now n (ends n) (spares_heads d y x s ss slot parts now n has) was.0,
      ⊎_elim (λ (no : stream (ends n).addr (ends n).ep ≡ false). inl no) (λ (none : IsNotIn (parts n)). inr (subst IsNotIn (sym (has.beside n differs)) none)) was.1,
    ))
    piped
lend_leaves_pipes sender d m t y x s ss slot parts now stream packets member streams ends acc hand wire r has (inr (inl outs)) piped =
    spared_pipes_agree sender stream packets member member streams ends acc hand hand parts now wire (same_hand hand) (λ n there. spares_heads d y x s ss slot parts now n has)
    (λ n there.
    let differs : n ≢ 32 * x.queue = λ same. true≢false (sym there ∙ ap streams same ∙ outs.0) in
    subst IsIn (sym (has.beside n differs)) (piped.pipes n there).ins)
    (λ n there off.
    let was = piped.others n there off in (
      spared_endpoint parts now n (ends n) (spares_heads d y x s ss slot parts now n has) was.0,
      ⊎_elim (λ (no : stream (ends n).addr (ends n).ep ≡ false). inl no)
          (λ (none : IsNotIn (parts n)). inr (still_ask (λ p. p ≢ 1) d y x s ss slot parts now n outs.1.1 has none)) was.1,
    ))
    piped
lend_leaves_pipes sender d m t y x s ss slot parts now stream packets member streams ends acc hand wire r has (inr (inr none)) piped =
    spared_pipes_agree sender stream packets member member streams ends acc hand hand parts now wire (same_hand hand) (λ n there. spares_heads d y x s ss slot parts now n has)
    (λ n there.
    let differs : n ≢ 32 * x.queue = λ same. true≢false (sym there ∙ ap streams same ∙ none.0) in
    subst IsIn (sym (has.beside n differs)) (piped.pipes n there).ins)
    (λ n there off.
    let was = piped.others n there off in (
      spared_endpoint parts now n (ends n) (spares_heads d y x s ss slot parts now n has) was.0,
      ⊎_elim (λ (no : stream (ends n).addr (ends n).ep ≡ false). inl no)
          (λ (quiet : IsNotIn (parts n)).
          ⊎_elim (λ (same : n ≡ 32 * x.queue). inl (ap (λ (i : ℕ). stream (ends i).addr (ends i).ep) same ∙ none.1))
          (λ (differs : n ≢ 32 * x.queue). inr (subst IsNotIn (sym (has.beside n differs)) quiet)) (cases_eq n (32 * x.queue))) was.1,
    ))
    piped
